use Rattle.std.proofs.Common.{◌≡◌, ◌+◌, ℕ, sym, subst, ◌∙◌, arith}
use Rattle.std.proofs.lemmas.Bool.{le-ltb}
use Rattle.neph_ptab.specs.declared.walk.Walk.TheVariants.{None as Unmapped}
use Rattle.neph_ptab.specs.Tables.{walk_at}
use Rattle.neph_local.proofs.Starting.{starts_skipped, starts_none, starts_shown, number_is}
use Rattle.neph_memory.specs.Building.{Rest}
use Rattle.neph_local.specs.Starts.{StartsTo}
use Rattle.neph_local.proofs.started.start_away.Goals as goal

pub put-requires-clause-none : goal.put-requires-clause-none
put-requires-clause-none g c =
    let es = g.P.FramePool.world.entries c.args.pool.now c.args.d.now.seat in
    let v : c.unwrap-v.result ≡ c.args.n = number_is _ _ _ _ c.new-2.ensures c.unwrap-v.ensures ∙ c.from-2.ensures in
    subst (λ (k : ℕ). walk_at es c.args.d.now.tables.root k ≡ Unmapped) (sym v)
    (starts_none es c.args.d.now.tables.root c.args.d.now.own (Rest es c.args.d.now.tables.root c.args.d.now.own) c.args.n c.args.n c.requires.made c.requires.starts (omega (arith, c.ranges.n.fits)))

pub returns-clause-starts : goal.returns-clause-starts
returns-clause-starts g c =
    let W = g.P.FramePool.world in
    let es = W.entries c.args.pool.now c.args.d.now.seat in
    let fs = W.entries c.put.new.pool c.put.new.d.seat in
    let p : c.unwrap-p.result ≡ c.args.n = number_is _ _ _ _ c.new.ensures c.unwrap-p.ensures ∙ c.from.ensures in
    let v : c.unwrap-v.result ≡ c.args.n = number_is _ _ _ _ c.new-2.ensures c.unwrap-v.ensures ∙ c.from-2.ensures in
    let s : StartsTo es c.args.d.now.tables.root c.args.d.now.own (c.args.n + 1) c.args.n = starts_skipped es c.args.d.now.tables.root c.args.d.now.own c.args.n c.args.n c.requires.starts c.requires.away.0 c.requires.away.1 in
    starts_shown es fs c.args.d.now.tables.root c.put.new.d.tables.root c.args.d.now.own c.put.new.d.own (c.args.n + 1) c.args.n c.unwrap-v.result c.unwrap-p.result _ s v p (sym (le-ltb 3 c.args.n (omega (arith, c.requires.away.1))))
    c.in_ok-put.ensures.mappings c.in_ok-put.ensures.bytes c.put.ensures.pages c.in_ok-put.ensures.lists c.put.ensures.marks
