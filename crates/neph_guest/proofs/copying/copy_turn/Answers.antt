use Rattle.std.proofs.Common.{refl, ◌∙◌}
use Rattle.neph_pool.proofs.Calls.{moves_trans}
use Rattle.neph_guest.proofs.Copies.{copied, bytes_before, count_before, has_written}
use Rattle.neph_guest.proofs.Keeping.{line_unchanged}
use Rattle.neph_guest.proofs.copying.copy_turn.Goals as goal

pub returns-then-not-has_spare-clause-waits : goal.returns-then-not-has_spare-clause-waits
returns-then-not-has_spare-clause-waits g c = λ t.
    line_unchanged g.P.FramePool.world c.args.pool.now c.args.live.now.local c.look_page-alone.new.pool c.look_page-alone.new.self c.args.command.now (c.look_page-alone.ensures.same c.if-not-alone.true) c.requires.line

pub returns-clause-turn : goal.returns-clause-turn
returns-clause-turn g c = λ s p o h.
    let W = g.P.FramePool.world in
    let d = c.args.live.now.local in
    let r = c.look_page-alone.new.pool in
    let l = c.look_page-alone.new.self in
    let look = c.look_page-alone.ensures in
    let done = c.in-Ok.ensures in
    copied W c.args.pool.now d c.finish_write.new.pool c.finish_write.new.self
    (count_before W c.args.pool.now d r l c.unwrap-write.result c.unwrap-write.ensures c.finish_write.new.pool c.finish_write.new.self look.hand look.map look.spare done.count)
    (λ u lt. done.mappings u lt ∙ look.mappings u lt) (λ i lt. done.leaves i lt ∙ look.leaves i lt)
    (bytes_before W c.args.pool.now d r l c.unwrap-write.result c.unwrap-write.ensures c.finish_write.new.pool c.finish_write.new.self look.hand look.map look.spare look.bytes done.bytes)
    c.args.live.now.guest _ s p o c.args.command.now c.requires.line refl refl refl h

pub returns-clause-place : goal.returns-clause-place
returns-clause-place g c =
    let W = g.P.FramePool.world in
    let d = c.args.live.now.local in
    let r = c.look_page-alone.new.pool in
    let l = c.look_page-alone.new.self in
    let look = c.look_page-alone.ensures in
    let done = c.in-Ok.ensures in
    has_written W c.args.pool.now d r l c.unwrap-write.result c.unwrap-write.ensures c.finish_write.new.pool c.finish_write.new.self look.hand look.map look.spare
    c.look_page-alone.result look.mark look.shared look.counts.told done.stays done.moved done.alone

pub returns-clause-moves : goal.returns-clause-moves
returns-clause-moves g c = moves_trans _ _ _ _ _ _ _ c.look_page-alone.ensures.moves c.in-Ok.ensures.moves
