use Rattle.std.proofs.Common.{ℕ, List, Some, refl, sym, ap, ◌∙◌, set}
use Rattle.neph_pool.specs.Entries.{is_here}
use Rattle.neph_pool.specs.Frames.{PlainFrame, frame_at}
use Rattle.neph_pool.specs.Page.{blank_page}
use Rattle.neph_pool.proofs.Rows.{in_frames, find, rows_with_words, plain_moves, no_entry, sole_else, told_same}
use Rattle.neph_pool.proofs.plain_pool.PlainPoolFramePool.blank.Goals as goal

pub blank-requires : goal.blank-requires
blank-requires c = in_frames _ c.args.self.now.frames c.args.f _ (ap is_here c.requires.frame) c.get.ensures.value

-- the frame with words of 0
abbrev blanked : List PlainFrame → ℕ → PlainFrame
blanked xs f = record (frame_at xs f) { words = blank_page }

pub returns-clause-entries : goal.returns-clause-entries
returns-clause-entries c =
    let xs = c.args.self.now.frames in
    let f = c.args.f in
    let t = find c.args.s.now.row xs f f (frame_at xs f).owners (ap is_here c.requires.frame) refl refl in
    rw (c.blank.ensures, c.get.ensures.value) (rows_with_words c.args.s.now.row xs f (frame_at xs f) (blanked xs f) _ t.at refl refl)

pub returns-clause-moves : goal.returns-clause-moves
returns-clause-moves c =
    let p = c.args.self.now in
    let xs = p.frames in
    let f = c.args.f in
    let x = frame_at xs f in
    let y = blanked xs f in
    let t = find c.args.s.now.row xs f f x.owners (ap is_here c.requires.frame) refl refl in
    let held = sym t.held ∙ c.requires.frame in
    plain_moves p f _ x y _ p.held (c.blank.ensures ∙ ap (λ (i : ℕ). set xs i (blanked xs i)) c.get.ensures.value) t.fit t.at refl (λ r h. h) (λ r lt. refl)
    c.args.s.now c.requires.seat.0 (λ r n. no_entry r x y (sole_else x.owners r c.args.s.now.row held n) (sole_else x.owners r c.args.s.now.row held n)) _ refl refl

pub returns-clause-counts : goal.returns-clause-counts
returns-clause-counts c =
    let xs = c.args.self.now.frames in
    let f = c.args.f in
    let t = find c.args.s.now.row xs f f (frame_at xs f).owners (ap is_here c.requires.frame) refl refl in
    record { shares = refl; told = rw (c.blank.ensures, c.get.ensures.value) (ap Some (told_same xs f (frame_at xs f) (blanked xs f) t.at refl)) }
