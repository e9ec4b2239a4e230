use Rattle.std.proofs.Common.{ap}
use Rattle.neph_memory.specs.declared.dom_local.DomLocal.{DomLocal}
use Rattle.neph_guest.proofs.forking.page_turn.Goals as goal

pub returns-clause-same : goal.returns-clause-same
returns-clause-same g c = λ e.
    let s = c.fork_page.ensures.same e in
    let l = c.args.live.now in
    (s.0, ap (λ (d : DomLocal _ _). record l { local = d }) s.1, s.2)
