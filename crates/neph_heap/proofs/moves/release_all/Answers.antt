use Rattle.std.proofs.Common.{◌≡◌, ◌∙◌, ap, Some, if◌then◌else◌}
use Rattle.neph_pool.specs.Entries.{is_here, weight_of, with_hold, without}
use Rattle.neph_pool.specs.declared.entry.Hold.TheVariants.{Zero, Sole}
use Rattle.neph_pool.proofs.Calls.{moves_trans}
use Rattle.neph_heap.specs.Lists.{frames_of}
use Rattle.neph_heap.proofs.Among.{held_next, among_next, words_held, frame_next}
use Rattle.neph_heap.proofs.moves.release_all.Goals as goal

pub release-requires-clause-frame : goal.release-requires-clause-frame
release-requires-clause-frame g c =
    let W = g.P.FramePool.world in
    let x = c.page-item.result in
    let next = frame_next c.args.pages.now c.loop-page.page-index x c.loop-page-test.true c.page-item.is in
    ap weight_of (held_next (frames_of c.args.pages.now) c.loop-page.page-index x.frame (Some Zero) (Some Sole) (W.entries c.args.pool.now c.args.seat.now) (W.entries c.loop-page.pool c.loop-page.seat) next.0 next.1 c.requires.once c.loop-page.invariant.holds c.requires.sole)

pub loop-page-preserved : goal.loop-page-preserved
loop-page-preserved g c =
    let W = g.P.FramePool.world in
    let x = c.page-item.result in
    let i = c.loop-page.invariant in
    let now = W.entries c.loop-page.pool c.loop-page.seat in
    let next = frame_next c.args.pages.now c.loop-page.page-index x c.loop-page-test.true c.page-item.is in
    let was = held_next (frames_of c.args.pages.now) c.loop-page.page-index x.frame (Some Zero) (Some Sole) (W.entries c.args.pool.now c.args.seat.now) now next.0 next.1 c.requires.once i.holds c.requires.sole in
    let is : W.entries c.release.new.self c.release.new.s ≡ with_hold now x.frame Zero
    = c.release.ensures.entries ∙ ap (λ b. if b then with_hold now x.frame Zero else without now x.frame) (c.release.ensures.sole was) in record {
      holds = among_next (frames_of c.args.pages.now) c.loop-page.page-index x.frame Zero (W.entries c.args.pool.now c.args.seat.now) now (W.entries c.release.new.self c.release.new.s) next.0 next.1 i.holds is (ap is_here was);
      words = λ k. words_held now (W.entries c.release.new.self c.release.new.s) x.frame Zero is k ∙ i.words k;
      moves = moves_trans W _ _ _ _ _ _ i.moves c.release.ensures.moves;
      shares = c.release.ensures.shares ∙ i.shares;
    }
