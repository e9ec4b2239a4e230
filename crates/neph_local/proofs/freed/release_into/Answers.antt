use Rattle.std.proofs.Common.{sym, subst}
use Rattle.neph_local.proofs.Releasing.{freed_same, freed_more}
use Rattle.neph_local.specs.Freed.{Freed}
use Rattle.neph_local.proofs.freed.release_into.Goals as goal

pub returns-then-not-last-clause-freed : goal.returns-then-not-last-clause-freed
returns-then-not-last-clause-freed g c = freed_same _ _ c.args.f _ c.requires.freed c.requires.frame c.release_one-last.ensures.holds c.if-not-last.ensures.hold

pub returns-clause-freed : goal.returns-clause-freed
returns-clause-freed g c =
    let fs = g.P.FramePool.world.entries c.release_one-last.new.pool c.release_one-last.new.seat in
    subst (Freed fs) (sym c.push_reserved.ensures.items)
    (freed_more _ fs c.args.f c.args.freed.now.items c.requires.freed c.requires.frame c.release_one-last.ensures.holds c.if-not-last.ensures.hold)
