use Rattle.std.proofs.Common.{◌≡◌, ◌≢◌, ◌<◌, ℕ, List, length, true, set, length-set, refl, sym, ap, ◌∙◌, arith}
use Rattle.neph_pool.specs.Entries.{is_here, hold_at}
use Rattle.std.proofs.lemmas.List.{get_or-set_same}
use Rattle.neph_pool.specs.declared.owners.Owners.{Owners}
use Rattle.neph_pool.specs.Frames.{PlainFrame, blank_frame, frame_at, with_owners}
use Rattle.neph_pool.specs.Owners.{held_by}
use Rattle.neph_pool.specs.Handing.{moved_into}
use Rattle.neph_pool.specs.Rows.{row_entries}
use Rattle.neph_pool.specs.Plain.{IsKept, plain_names}
use Rattle.neph_pool.proofs.Rows.{in_frames, find, seen, row_hold, some_held, few_held, full_set, counts_handed, moved_here, turn, room_for, hand_may, hand_left, hand_moved, rows_same, same_entry, told_same, count_fewer, kept_handed, fits_handed, room_of, left_done, moved_done, row_apart, apart_left, apart_right}
use Rattle.neph_pool.proofs.Exclusive.{rows_exclusive}
use Rattle.neph_pool.proofs.Walks.{walk_moved, may_walk, left_walked, moved_walked}
use Rattle.neph_pool.proofs.plain_pool.PlainPoolFramePool.hand.Goals as goal

pub loop-f-init : goal.loop-f-init
loop-f-init c = record {
  size = refl;
  rows = refl;
  cap = refl;
  shares = refl;
  may = may_walk _ _ _ c.requires.part.once c.requires.part.each;
  left = refl;
  moved = refl;
  others = λ r n m. refl;
  fewer = omega arith;
  full = c.requires.from.0.kept.full;
  held = c.requires.from.0.kept.held;
  told = refl;
}

pub holds-had-requires-clause-frame : goal.holds-had-requires-clause-frame
holds-had-requires-clause-frame c = let t = turn c.args.from.now.row c.args.to.now.row c.loop-f.self.frames c.args.part.now c.loop-f.f-index c.f-item.result c.loop-f-test.true c.f-item.is c.loop-f.invariant.may in in_frames c.args.from.now.row c.loop-f.self.frames c.f-item.result _ t.may.0 c.get-place.ensures.value

pub hand-requires-clause-frame : goal.hand-requires-clause-frame
hand-requires-clause-frame c = let t = turn c.args.from.now.row c.args.to.now.row c.loop-f.self.frames c.args.part.now c.loop-f.f-index c.f-item.result c.loop-f-test.true c.f-item.is c.loop-f.invariant.may in in_frames c.args.from.now.row c.loop-f.self.frames c.f-item.result _ t.may.0 c.get-place.ensures.value

pub hand-requires-clause-part : goal.hand-requires-clause-part
hand-requires-clause-part c = let t = turn c.args.from.now.row c.args.to.now.row c.loop-f.self.frames c.args.part.now c.loop-f.f-index c.f-item.result c.loop-f-test.true c.f-item.is c.loop-f.invariant.may in let h = find c.args.from.now.row c.loop-f.self.frames c.f-item.result c.get-place.result (frame_at c.loop-f.self.frames c.get-place.result).owners t.may.0 c.get-place.ensures.value refl in sym (ap is_here h.held) ∙ t.may.0

pub hand-requires-clause-room : goal.hand-requires-clause-room
hand-requires-clause-room c = let t = turn c.args.from.now.row c.args.to.now.row c.loop-f.self.frames c.args.part.now c.loop-f.f-index c.f-item.result c.loop-f-test.true c.f-item.is c.loop-f.invariant.may in let h = find c.args.from.now.row c.loop-f.self.frames c.f-item.result c.get-place.result (frame_at c.loop-f.self.frames c.get-place.result).owners t.may.0 c.get-place.ensures.value refl in room_for _ _ _ _ _ h t.may

pub holds-has-requires-clause-frame : goal.holds-has-requires-clause-frame
holds-has-requires-clause-frame c =
    let t = turn c.args.from.now.row c.args.to.now.row c.loop-f.self.frames c.args.part.now c.loop-f.f-index c.f-item.result c.loop-f-test.true c.f-item.is c.loop-f.invariant.may in
    let fit = in_frames c.args.from.now.row c.loop-f.self.frames c.f-item.result _ t.may.0 c.get-place.ensures.value in
    rw (c.hand.ensures.1, length-set c.loop-f.self.frames c.get-place.result (seen c.loop-f.self.frames c.get-place.result c.hand.ensures.0)) fit

pub recount-requires-clause-before : goal.recount-requires-clause-before
recount-requires-clause-before c = let t = turn c.args.from.now.row c.args.to.now.row c.loop-f.self.frames c.args.part.now c.loop-f.f-index c.f-item.result c.loop-f-test.true c.f-item.is c.loop-f.invariant.may in λ _. some_held c.loop-f.self.held c.loop-f.self.frames c.args.from.now.row c.f-item.result c.loop-f.invariant.held c.requires.from.0.row t.may.0

pub recount-requires-clause-small : goal.recount-requires-clause-small
recount-requires-clause-small c = few_held c.loop-f.self.held c.loop-f.self.frames c.args.from.now.row c.loop-f.invariant.held (omega (arith, c.loop-f.invariant.size, c.requires.from.0.kept.few)) c.requires.from.0.row

pub recount-requires-in-loop-f-clause-before : goal.recount-requires-in-loop-f-clause-before
recount-requires-in-loop-f-clause-before c = λ yes.
    let t = turn c.args.from.now.row c.args.to.now.row c.loop-f.self.frames c.args.part.now c.loop-f.f-index c.f-item.result c.loop-f-test.true c.f-item.is c.loop-f.invariant.may in
    let h = find c.args.from.now.row c.loop-f.self.frames c.f-item.result c.get-place.result (frame_at c.loop-f.self.frames c.get-place.result).owners t.may.0 c.get-place.ensures.value refl in
    let here : is_here (hold_at (row_entries c.args.to.now.row c.loop-f.self.frames) c.f-item.result) ≡ true = ap is_here (row_hold c.args.to.now.row c.loop-f.self.frames c.f-item.result _ h.fit h.at) ∙ sym c.holds-had.ensures ∙ yes in
    rw (c.recount.ensures.others c.args.to.now.row (row_apart c.args.self.now c.args.from.now c.args.to.now c.requires.from.0 c.requires.to.0 c.requires.apart))
    (some_held c.loop-f.self.held c.loop-f.self.frames c.args.to.now.row c.f-item.result c.loop-f.invariant.held c.requires.to.0.row here)

pub recount-requires-in-loop-f-clause-small : goal.recount-requires-in-loop-f-clause-small
recount-requires-in-loop-f-clause-small c =
    rw (c.recount.ensures.others c.args.to.now.row (row_apart c.args.self.now c.args.from.now c.args.to.now c.requires.from.0 c.requires.to.0 c.requires.apart))
    (few_held c.loop-f.self.held c.loop-f.self.frames c.args.to.now.row c.loop-f.invariant.held (omega (arith, c.loop-f.invariant.size, c.requires.from.0.kept.few)) c.requires.to.0.row)

-- the owners of a frame that changed
owners_then : (xs zs : List PlainFrame) (f : ℕ) (o : Owners) → f < length xs → zs ≡ with_owners xs f o → (frame_at zs f).owners ≡ o
owners_then xs zs f o fit e = ap (λ (ws : List PlainFrame). (frame_at ws f).owners) e ∙ ap (λ (x : PlainFrame). x.owners) (get_or-set_same xs f (record (frame_at xs f) { owners = o }) blank_frame fit)

pub loop-f-preserved : goal.loop-f-preserved
loop-f-preserved c =
    let i = c.loop-f.invariant in
    let a = c.args.from.now.row in
    let b = c.args.to.now.row in
    let xs = c.loop-f.self.frames in
    let f = c.f-item.result in
    let t = turn c.args.from.now.row c.args.to.now.row c.loop-f.self.frames c.args.part.now c.loop-f.f-index c.f-item.result c.loop-f-test.true c.f-item.is c.loop-f.invariant.may in
    let h = find c.args.from.now.row c.loop-f.self.frames c.f-item.result c.get-place.result (frame_at c.loop-f.self.frames c.get-place.result).owners t.may.0 c.get-place.ensures.value refl in
    let x = seen xs f (frame_at c.loop-f.self.frames c.get-place.result).owners in
    let y = seen xs f c.hand.ensures.0 in
    let is : c.hand.new.self ≡ set xs f y = c.hand.ensures.1 ∙ ap (λ (j : ℕ). set xs j (seen xs j c.hand.ensures.0)) c.get-place.ensures.value in
    let apart : b ≢ a = row_apart c.args.self.now c.args.from.now c.args.to.now c.requires.from.0 c.requires.to.0 c.requires.apart in
    let here : is_here (held_by a x.owners) ≡ true = sym (ap is_here h.held) ∙ t.may.0 in
    rw is record {
      size = length-set xs f y ∙ i.size;
      rows = i.rows;
      cap = i.cap;
      shares = i.shares;
      may = hand_may a b xs c.args.part.now c.loop-f.f-index f f x y t h refl c.hand.ensures.2.left c.hand.ensures.2.moved refl;
      left = hand_left a b xs c.args.part.now c.loop-f.f-index f f x y t h refl c.hand.ensures.2.left c.hand.ensures.2.moved refl _ i.left;
      moved = hand_moved a b xs c.args.part.now c.loop-f.f-index f f x y t h refl c.hand.ensures.2.left c.hand.ensures.2.moved refl _ i.moved;
      others = λ r n m. rows_same r xs f x y h.at (same_entry r x y (c.hand.ensures.2.others r n m) refl) ∙ i.others r n m;
      fewer = count_fewer a xs f x y _ h.at here i.fewer;
      full = full_set xs f y (i.full f h.fit) i.full;
      held = counts_handed c.loop-f.self.held c.recount.new.held c.recount-in-loop-f.new.held xs f x y a b c.holds-had.result c.holds-has.result (λ e. apart (sym e)) c.requires.from.0.row h.fit h.at i.held here
          (moved_here _ _ here c.hand.ensures.2.moved) c.holds-had.ensures (c.holds-has.ensures ∙ ap (λ (o : Owners). is_here (held_by a o)) (owners_then xs c.hand.new.self c.get-place.result c.hand.ensures.0 (rw c.get-place.ensures.value h.fit) c.hand.ensures.1)) c.hand.ensures.2.others c.recount.ensures.own c.recount.ensures.others c.recount-in-loop-f.ensures.own c.recount-in-loop-f.ensures.others;
      told = told_same xs f x y h.at c.hand.ensures.2.total ∙ i.told;
    }

-- the pool after the last frame was handed over
after_all : (c : goal.After-loop-f) → IsKept c.loop-f.self
after_all c =
    let i = c.loop-f.invariant in
    let p = c.args.self.now in
    let a = c.args.from.now.row in
    let b = c.args.to.now.row in
    let es = row_entries a p.frames in
    let to = row_entries b p.frames in
    let part = c.args.part.now in
    kept_handed p c.loop-f.self c.args.from.now.row c.args.to.now.row c.requires.from.0.kept i.rows i.cap (omega (arith, i.size, c.requires.from.0.kept.few)) i.full i.held i.others i.fewer
    (λ ne. rw (moved_done (row_entries a c.loop-f.self.frames) (row_entries b c.loop-f.self.frames) (walk_moved es to part) part c.loop-f.f-index c.loop-f-test.false i.moved, moved_walked es to part c.requires.part.once)
    (room_of p c.args.to.now (moved_into es to part) c.requires.to.0 c.requires.room ne))

pub returns-clause-left : goal.returns-clause-left
returns-clause-left c =
    let es = row_entries c.args.from.now.row c.args.self.now.frames in
    left_done _ _ c.args.part.now c.loop-f.f-index c.loop-f-test.false c.loop-f.invariant.left ∙ left_walked es c.args.part.now c.requires.part.once

pub returns-clause-moved : goal.returns-clause-moved
returns-clause-moved c =
    let es = row_entries c.args.from.now.row c.args.self.now.frames in
    let to = row_entries c.args.to.now.row c.args.self.now.frames in
    moved_done (row_entries c.args.from.now.row c.loop-f.self.frames) _ _ c.args.part.now c.loop-f.f-index c.loop-f-test.false c.loop-f.invariant.moved ∙ moved_walked es to c.args.part.now c.requires.part.once

pub returns-clause-from : goal.returns-clause-from
returns-clause-from c = record { fits = fits_handed _ c.loop-f.self c.args.from.now c.requires.from.0 (after_all c) c.loop-f.invariant.rows; names = refl }

pub returns-clause-to : goal.returns-clause-to
returns-clause-to c = record { fits = fits_handed _ c.loop-f.self c.args.to.now c.requires.to.0 (after_all c) c.loop-f.invariant.rows; names = refl }

pub returns-clause-others : goal.returns-clause-others
returns-clause-others c =
    let i = c.loop-f.invariant in
    let p = c.args.self.now in
    let from = c.args.from.now in
    let to = c.args.to.now in record {
      frames = i.size;
      cap = i.cap;
      fits = λ t k a. fits_handed p c.loop-f.self t k (after_all c) i.rows;
      entries = λ t k a. i.others t.row
          (row_apart p from t c.requires.from.0 k (apart_left (plain_names from) (plain_names to) (plain_names t) a))
          (row_apart p to t c.requires.to.0 k (apart_right (plain_names from) (plain_names to) (plain_names t) a));
    }

pub returns-clause-absent : goal.returns-clause-absent
returns-clause-absent c = λ f m.
    let from = c.args.from.now in
    let to = c.args.to.now in
    rows_exclusive from.row to.row c.args.self.now.frames f (λ e. row_apart c.args.self.now from to c.requires.from.0 c.requires.to.0 c.requires.apart (sym e)) (c.requires.part.each f m)
