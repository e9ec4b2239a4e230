-- A frame that comes into a seat was not in it before.
use Rattle.std.proofs.Common.{◌≡◌, ◌≢◌, ℕ, Bool, true, false, List, None, refl, sym, ap, ◌∙◌}
use Rattle.std.proofs.lemmas.List.{get_or_default}
use Rattle.neph_pool.specs.declared.owners.Owners.{Owners}
use Rattle.neph_pool.specs.Frames.{PlainFrame, blank_frame, frame_at}
use Rattle.neph_pool.specs.Entries.{hold_at, is_here, is_whole, is_counted}
use Rattle.neph_pool.specs.Handing.{MayTake, AreWhole}
use Rattle.neph_pool.specs.Owners.{held_by}
use Rattle.neph_pool.specs.Rows.{row_entries}
use Rattle.neph_pool.proofs.Rows.{row_in, row_hold, many_none}
use Rattle.neph_pool.proofs.Joining.{whole_else}

by_owners : (b' : Bool) (o : Owners) (a b : ℕ) → a ≢ b → is_whole (held_by a o) ≡ b' → is_here (held_by a o) ≡ true → (is_whole (held_by a o) ≡ false → is_counted (held_by b o) ≡ false) → held_by b o ≡ None
by_owners true o a b n w h c = whole_else o b a h w (λ e. n (sym e))
by_owners false o a b n w h c = many_none o a b h w (c w)

-- what one row may give to another, the other has nothing of
pub rows_exclusive : (a b : ℕ) (xs : List PlainFrame) (f : ℕ) → a ≢ b → MayTake (row_entries a xs) (row_entries b xs) f → hold_at (row_entries b xs) f ≡ None
rows_exclusive a b xs f n may =
    let lt = row_in a xs f may.0 in
    let x = frame_at xs f in
    let at = get_or_default xs f blank_frame x lt in
    let p = row_hold a xs f x lt at in
    let q = row_hold b xs f x lt at in
    q ∙ by_owners (is_whole (held_by a x.owners)) x.owners a b n refl (sym (ap is_here p) ∙ may.0) (λ w. sym (ap is_counted q) ∙ may.1 (ap is_whole p ∙ w))

-- nor of what one row has whole
pub whole_exclusive : (a b : ℕ) (xs : List PlainFrame) (f : ℕ) → a ≢ b → AreWhole (row_entries a xs) → is_here (hold_at (row_entries a xs) f) ≡ true → hold_at (row_entries b xs) f ≡ None
whole_exclusive a b xs f n whole here = rows_exclusive a b xs f n (here, λ w. let t : is_whole (hold_at (row_entries a xs) f) ≡ true = whole f here in cc)
