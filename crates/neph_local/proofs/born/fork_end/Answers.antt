use Rattle.std.proofs.Common.{refl, ◌∙◌}
use Rattle.neph_local.proofs.Restoring.{forks_kept, in_hand_kept}
use Rattle.neph_local.proofs.born.fork_end.Goals as goal

pub returns-in-Ok-bear-clause-still : goal.returns-in-Ok-bear-clause-still
returns-in-Ok-bear-clause-still g c =
    forks_kept g.P.FramePool.world c.args.pool.now c.args.d.now c.args.k.seat c.args.k.child c.args.k.next c.args.k.frames.items c.bear.new.pool c.bear.new.d c.in-Ok-bear.c.seat c.requires.fork.forks c.bear.ensures.same c.in-Ok-bear.ensures.seat

pub returns-in-Err-bear-clause-back : goal.returns-in-Err-bear-clause-back
returns-in-Err-bear-clause-back g c =
    in_hand_kept g.P.FramePool.world c.args.pool.now c.args.d.now c.args.k c.bear.new.pool c.bear.new.d
    (record { child = c.args.k.child; seat = c.in-Err-bear.seat; frames = c.in-Ok.blank.frames; next = c.args.k.next })
    c.requires.fork c.bear.ensures.same c.in-Err-bear.ensures.back refl refl (c.in-Ok.ensures.frames ∙ c.deref.ensures.value)
