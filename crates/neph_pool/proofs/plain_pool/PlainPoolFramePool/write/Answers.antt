use Rattle.std.proofs.Common.{ℕ, List, Some, refl, sym, ap, ◌∙◌, set, length-set}
use Rattle.neph_pool.specs.Entries.{is_here}
use Rattle.neph_pool.specs.Frames.{PlainFrame, frame_at}
use Rattle.neph_pool.proofs.Rows.{in_frames, find, plain_moves, no_entry, sole_else, told_same, write_entries}
use Rattle.neph_pool.proofs.plain_pool.PlainPoolFramePool.write.Goals as goal

pub put_word-requires-clause-frame : goal.put_word-requires-clause-frame
put_word-requires-clause-frame c = in_frames _ c.args.self.now.frames c.args.f _ (ap is_here c.requires.frame) c.get.ensures.value

-- the frame with its new word
abbrev written : List PlainFrame → ℕ → ℕ → ℕ → PlainFrame
written xs f w v = record (frame_at xs f) { words = set (frame_at xs f).words w v }

pub returns-clause-entries : goal.returns-clause-entries
returns-clause-entries c =
    let xs = c.args.self.now.frames in
    let t = find c.args.s.now.row xs c.args.f c.args.f (frame_at xs c.args.f).owners (ap is_here c.requires.frame) refl refl in
    rw (c.put_word.ensures, c.get.ensures.value) (write_entries c.args.s.now.row xs c.args.f c.args.w c.args.v (frame_at xs c.args.f) (written xs c.args.f c.args.w c.args.v) t c.requires.frame refl refl)

pub returns-clause-moves : goal.returns-clause-moves
returns-clause-moves c =
    let p = c.args.self.now in
    let xs = p.frames in
    let f = c.args.f in
    let x = frame_at xs f in
    let y = written xs f c.args.w c.args.v in
    let t = find c.args.s.now.row xs f f x.owners (ap is_here c.requires.frame) refl refl in
    let held = sym t.held ∙ c.requires.frame in
    plain_moves p f _ x y _ p.held (c.put_word.ensures ∙ ap (λ (i : ℕ). set xs i (written xs i c.args.w c.args.v)) c.get.ensures.value) t.fit t.at (length-set x.words c.args.w c.args.v ∙ c.requires.seat.0.kept.full f t.fit) (λ r h. h) (λ r lt. refl)
    c.args.s.now c.requires.seat.0 (λ r n. no_entry r x y (sole_else x.owners r c.args.s.now.row held n) (sole_else x.owners r c.args.s.now.row held n)) _ refl refl

pub returns-clause-counts : goal.returns-clause-counts
returns-clause-counts c =
    let xs = c.args.self.now.frames in
    let f = c.args.f in
    let t = find c.args.s.now.row xs f f (frame_at xs f).owners (ap is_here c.requires.frame) refl refl in
    record { shares = refl; told = rw (c.put_word.ensures, c.get.ensures.value) (ap Some (told_same xs f (frame_at xs f) (written xs f c.args.w c.args.v) t.at refl)) }
