use Rattle.std.proofs.Common.{◌≡◌, ℕ, suc, get_or, ◌+◌, List, ap, ◌∙◌, arith}
use Rattle.std.proofs.lemmas.Result.{on_ok_weaker}
use Rattle.std.proofs.lemmas.List.{get_or_default}
use Rattle.neph_model.specs.declared.script.Start.{Start}
use Rattle.neph_heap.specs.Lists.{exposed_of}
use Rattle.neph_local.proofs.Starting.{number_is}
use Rattle.neph_boot.proofs.NextLine.{next_name, next_exposed}
use Rattle.neph_boot.proofs.Opened.{line_goes}
use Rattle.neph_boot.proofs.start.open_line.Goals as goal

pub open_domain-requires-clause-name : goal.open_domain-requires-clause-name
open_domain-requires-clause-name g c =
    let W = g.P.FramePool.world in
    let id : c.unwrap-id.result ≡ suc c.args.n = omega (arith, number_is _ _ _ _ c.new.ensures c.unwrap-id.ensures) in
    ap (W.names c.args.m.now.hv.heap.seat) id ∙ next_name W c.args.m.now c.args.n c.requires.opening (omega (arith, c.requires.line, c.requires.formed.few))

pub open_domain-requires-clause-none : goal.open_domain-requires-clause-none
open_domain-requires-clause-none g c =
    let W = g.P.FramePool.world in
    let id : c.unwrap-id.result ≡ suc c.args.n = omega (arith, number_is _ _ _ _ c.new.ensures c.unwrap-id.ensures) in
    ap (λ (i : ℕ). exposed_of i c.args.m.now.hv.heap.stock) id ∙ next_exposed W c.args.m.now c.args.n c.requires.opening

pub returns-clause-opening : goal.returns-clause-opening
returns-clause-opening g c =
    let W = g.P.FramePool.world in
    let id : c.unwrap-id.result ≡ suc c.args.n = omega (arith, number_is _ _ _ _ c.new.ensures c.unwrap-id.ensures) in
    let none : Start = record { program = 0; pages = 0; limit = 0 } in
    let starts = c.args.m.now.script.starts in
    let t = get_or starts c.args.n none in
    on_ok_weaker c.open_domain.result (line_goes W c.args.m.now c.open_domain.new.m c.args.n t c.requires.opening c.requires.formed c.requires.line (get_or_default starts c.args.n t none c.requires.line) c.unwrap-id.result _ (c.args.n + 1) id (ap (λ (ts : List Start). (get_or ts c.args.n none).pages) c.items.ensures) (omega arith)) c.open_domain.ensures
