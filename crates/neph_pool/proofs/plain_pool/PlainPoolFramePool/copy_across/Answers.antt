use Rattle.std.proofs.Common.{◌≡◌, ℕ, List, Some, true, false, refl, sym, ap, ◌∙◌, set}
use Rattle.neph_pool.specs.Entries.{is_here, is_whole}
use Rattle.neph_pool.specs.Frames.{PlainFrame, frame_at}
use Rattle.neph_pool.specs.World.{Moves}
use Rattle.neph_pool.specs.Names.{IsApart}
use Rattle.neph_pool.specs.Plain.{plain_world, plain_names}
use Rattle.neph_pool.proofs.Entries.{here_held}
use Rattle.neph_pool.proofs.Rows.{in_frames, find, row_words, rows_with_words, plain_moves, no_entry, sole_else, told_same, row_apart, apart_right}
use Rattle.neph_pool.proofs.Exclusive.{rows_exclusive}
use Rattle.neph_pool.proofs.plain_pool.PlainPoolFramePool.copy_across.Goals as goal

pub copy-requires : goal.copy-requires
copy-requires c = record {
  frames = (
    in_frames c.args.from.now.row c.args.self.now.frames c.args.f _ (here_held _ c.requires.source) c.get-place.ensures.value,
    in_frames c.args.to.now.row c.args.self.now.frames c.args.t _ (ap is_here c.requires.target) c.get-other.ensures.value,
  );
}

-- the frame `to` with the words of the frame `from`
abbrev copied : List PlainFrame → ℕ → ℕ → PlainFrame
copied xs from to = record (frame_at xs to) { words = (frame_at xs from).words }

pub returns-clause-copied : goal.returns-clause-copied
returns-clause-copied c =
    let xs = c.args.self.now.frames in
    let row = c.args.from.now.row in
    let f = c.args.f in
    let t = c.args.t in
    let a = find row xs f f (frame_at xs f).owners (here_held _ c.requires.source) refl refl in
    let b = find c.args.to.now.row xs t t (frame_at xs t).owners (ap is_here c.requires.target) refl refl in
    rw (c.copy.ensures, c.get-place.ensures.value, c.get-other.ensures.value)
    (rows_with_words c.args.to.now.row xs t (frame_at xs t) (copied xs f t) _ b.at refl (sym (row_words row xs f (frame_at xs f) a.at (here_held _ c.requires.source))))

-- as a call with the second seat alone
moved : (c : goal.After-copy) → Moves plain_world c.args.self.now c.args.to.now (record c.args.self.now { frames = c.copy.new.self }) c.args.to.now
moved c =
    let p = c.args.self.now in
    let xs = p.frames in
    let row = c.args.to.now.row in
    let f = c.args.f in
    let t = c.args.t in
    let x = frame_at xs t in
    let y = copied xs f t in
    let a = find c.args.from.now.row xs f f (frame_at xs f).owners (here_held _ c.requires.source) refl refl in
    let b = find row xs t t x.owners (ap is_here c.requires.target) refl refl in
    let held = sym b.held ∙ c.requires.target in
    let is : c.copy.new.self ≡ set xs t y = c.copy.ensures ∙ ap (λ (i : ℕ). set xs i (copied xs c.get-place.result i)) c.get-other.ensures.value ∙ ap (λ (i : ℕ). set xs t (copied xs i t)) c.get-place.ensures.value in
    plain_moves p t _ x y _ p.held is b.fit b.at (c.requires.from.0.kept.full f a.fit) (λ r h. h) (λ r lt. refl)
    c.args.to.now c.requires.to.0 (λ r n. no_entry r x y (sole_else x.owners r row held n) (sole_else x.owners r row held n)) _ refl refl

turned : (c : goal.After-copy) → IsApart (plain_names c.args.to.now) (plain_names c.args.from.now)
turned c d m k = c.requires.apart d k m

pub returns-clause-alone : goal.returns-clause-alone
returns-clause-alone c = λ g sole.
    let from = c.args.from.now in
    let to = c.args.to.now in
    rows_exclusive from.row to.row c.args.self.now.frames g (λ e. row_apart c.args.self.now from to c.requires.from.0 c.requires.to.0 c.requires.apart (sym e))
    (ap is_here sole, λ w. absurd (let z : true ≡ false = sym (ap is_whole sole) ∙ w in cc))

pub returns-clause-kept : goal.returns-clause-kept
returns-clause-kept c = (moved c).others.entries c.args.from.now c.requires.from.0 (turned c)

pub returns-clause-from : goal.returns-clause-from
returns-clause-from c = record { fits = (moved c).others.fits c.args.from.now c.requires.from.0 (turned c); names = refl }

pub returns-clause-to : goal.returns-clause-to
returns-clause-to c = record { fits = (moved c).fits; names = refl }

pub returns-clause-others : goal.returns-clause-others
returns-clause-others c =
    let m = (moved c).others in
    let ms = plain_names c.args.from.now in
    let ns = plain_names c.args.to.now in record {
      frames = m.frames;
      cap = m.cap;
      fits = λ t h a. m.fits t h (apart_right ms ns (plain_names t) a);
      entries = λ t h a. m.entries t h (apart_right ms ns (plain_names t) a);
    }

pub returns-clause-counts : goal.returns-clause-counts
returns-clause-counts c =
    let xs = c.args.self.now.frames in
    let t = c.args.t in
    let b = find c.args.to.now.row xs t t (frame_at xs t).owners (ap is_here c.requires.target) refl refl in
    record { shares = refl; told = rw (c.copy.ensures, c.get-place.ensures.value, c.get-other.ensures.value) (ap Some (told_same xs t (frame_at xs t) (copied xs c.args.f t) b.at refl)) }
