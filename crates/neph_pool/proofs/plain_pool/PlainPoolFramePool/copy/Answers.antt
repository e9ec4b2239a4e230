use Rattle.std.proofs.Common.{◌≡◌, ℕ, List, Some, refl, sym, ap, ◌∙◌, set}
use Rattle.neph_pool.specs.Entries.{is_here}
use Rattle.neph_pool.specs.Frames.{PlainFrame, frame_at}
use Rattle.neph_pool.proofs.Entries.{here_held}
use Rattle.neph_pool.proofs.Rows.{in_frames, find, row_words, rows_with_words, plain_moves, no_entry, sole_else, told_same}
use Rattle.neph_pool.proofs.plain_pool.PlainPoolFramePool.copy.Goals as goal

pub copy-requires : goal.copy-requires
copy-requires c = record {
  frames = (
    in_frames c.args.s.now.row c.args.self.now.frames c.args.from _ (here_held _ c.requires.from) c.get-source.ensures.value,
    in_frames c.args.s.now.row c.args.self.now.frames c.args.to _ (ap is_here c.requires.to) c.get-target.ensures.value,
  );
}

-- the frame `to` with the words of the frame `from`
abbrev copied : List PlainFrame → ℕ → ℕ → PlainFrame
copied xs from to = record (frame_at xs to) { words = (frame_at xs from).words }

pub returns-clause-entries : goal.returns-clause-entries
returns-clause-entries c =
    let xs = c.args.self.now.frames in
    let row = c.args.s.now.row in
    let from = c.args.from in
    let to = c.args.to in
    let a = find row xs from from (frame_at xs from).owners (here_held _ c.requires.from) refl refl in
    let b = find row xs to to (frame_at xs to).owners (ap is_here c.requires.to) refl refl in
    rw (c.copy.ensures, c.get-source.ensures.value, c.get-target.ensures.value)
    (rows_with_words row xs to (frame_at xs to) (copied xs from to) _ b.at refl (sym (row_words row xs from (frame_at xs from) a.at (here_held _ c.requires.from))))

pub returns-clause-moves : goal.returns-clause-moves
returns-clause-moves c =
    let p = c.args.self.now in
    let xs = p.frames in
    let row = c.args.s.now.row in
    let from = c.args.from in
    let to = c.args.to in
    let x = frame_at xs to in
    let y = copied xs from to in
    let a = find row xs from from (frame_at xs from).owners (here_held _ c.requires.from) refl refl in
    let b = find row xs to to x.owners (ap is_here c.requires.to) refl refl in
    let held = sym b.held ∙ c.requires.to in
    let is : c.copy.new.self ≡ set xs to y = c.copy.ensures ∙ ap (λ (i : ℕ). set xs i (copied xs c.get-source.result i)) c.get-target.ensures.value ∙ ap (λ (i : ℕ). set xs to (copied xs i to)) c.get-source.ensures.value in
    plain_moves p to _ x y _ p.held is b.fit b.at (c.requires.seat.0.kept.full from a.fit) (λ r h. h) (λ r lt. refl)
    c.args.s.now c.requires.seat.0 (λ r n. no_entry r x y (sole_else x.owners r row held n) (sole_else x.owners r row held n)) _ refl refl

pub returns-clause-counts : goal.returns-clause-counts
returns-clause-counts c =
    let xs = c.args.self.now.frames in
    let from = c.args.from in
    let to = c.args.to in
    let b = find c.args.s.now.row xs to to (frame_at xs to).owners (ap is_here c.requires.to) refl refl in
    record { shares = refl; told = rw (c.copy.ensures, c.get-source.ensures.value, c.get-target.ensures.value) (ap Some (told_same xs to (frame_at xs to) (copied xs from to) b.at refl)) }
