use Rattle.std.proofs.Common.{ℕ, Some, refl, sym, ap, ◌∙◌, ◌+◌, set}
use Rattle.neph_pool.specs.Entries.{is_here}
use Rattle.neph_pool.specs.Frames.{frame_at}
use Rattle.neph_pool.proofs.Rows.{in_frames, find, seen, plain_changes, same_counts, told_at, told_set, rows_with_hold, here_weight}
use Rattle.neph_pool.proofs.plain_pool.PlainPoolFramePool.share.Goals as goal

pub share-requires-clause-frame : goal.share-requires-clause-frame
share-requires-clause-frame c = in_frames _ c.args.self.now.frames c.args.f _ (here_weight _ c.requires.frame) c.get-place.ensures.value

pub share-requires-clause-once : goal.share-requires-clause-once
share-requires-clause-once c = let t = find c.args.s.now.row c.args.self.now.frames c.args.f c.get-place.result (frame_at c.args.self.now.frames c.get-place.result).owners (here_weight _ c.requires.frame) c.get-place.ensures.value refl in rw t.held at c.requires.frame

pub returns-clause-entries : goal.returns-clause-entries
returns-clause-entries c =
    let p = c.args.self.now in
    let xs = p.frames in
    let f = c.args.f in
    let x = seen xs f (frame_at c.args.self.now.frames c.get-place.result).owners in
    let y = seen xs f c.share.ensures.0 in
    let t = find c.args.s.now.row c.args.self.now.frames c.args.f c.get-place.result (frame_at c.args.self.now.frames c.get-place.result).owners (here_weight _ c.requires.frame) c.get-place.ensures.value refl in
    rw (c.share.ensures.1, c.get-place.ensures.value) (rows_with_hold c.args.s.now.row xs f x y _ t.at (here_weight _ (rw t.held at c.requires.frame)) c.share.ensures.2.own refl)

pub returns-clause-moves : goal.returns-clause-moves
returns-clause-moves c =
    let p = c.args.self.now in
    let xs = p.frames in
    let f = c.args.f in
    let x = seen xs f (frame_at c.args.self.now.frames c.get-place.result).owners in
    let y = seen xs f c.share.ensures.0 in
    let t = find c.args.s.now.row c.args.self.now.frames c.args.f c.get-place.result (frame_at c.args.self.now.frames c.get-place.result).owners (here_weight _ c.requires.frame) c.get-place.ensures.value refl in
    let here = sym (ap is_here t.held) ∙ (here_weight _ c.requires.frame) in
    plain_changes p c.args.s.now _ f _ x y _ p.held c.requires.seat.0 refl refl t.fit t.at here c.share.ensures.2.others refl (c.share.ensures.1 ∙ ap (λ (i : ℕ). set xs i (seen xs i c.share.ensures.0)) c.get-place.ensures.value)
    (same_counts p.held c.args.s.now.row x y here (ap is_here c.share.ensures.2.own) c.share.ensures.2.others)

pub returns-clause-told : goal.returns-clause-told
returns-clause-told c =
    let p = c.args.self.now in
    let xs = p.frames in
    let f = c.args.f in
    let x = seen xs f (frame_at c.args.self.now.frames c.get-place.result).owners in
    let y = seen xs f c.share.ensures.0 in
    let t = find c.args.s.now.row c.args.self.now.frames c.args.f c.get-place.result (frame_at c.args.self.now.frames c.get-place.result).owners (here_weight _ c.requires.frame) c.get-place.ensures.value refl in
    rw (c.share.ensures.1, c.get-place.ensures.value) (ap Some (told_set xs f _ y (c.share.ensures.2.total ∙ ap (λ k. k + 1) (sym (told_at _ _ _ t.fit t.at)))))
