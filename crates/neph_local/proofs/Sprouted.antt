-- The pages of a child that has its root.
use Rattle.std.proofs.Common.{◌≡◌, ◌<◌, ◌≤◌, ℕ, zero, suc, Bool, true, false, List, [], ◌∷◌, length, nat_lt, Some, None, refl, sym, ap, ◌∙◌, arith}
use Rattle.std.proofs.lemmas.Bool.{ltb-true, ltb-false}
use Rattle.std.specs.declared.option.Option.{Option}
use Rattle.neph_pool.specs.declared.entry.Entry.{Entry}
use Rattle.neph_pool.specs.Bytes.{bytes_at}
use Rattle.neph_gmap.specs.declared.page.Page.{Page}
use Rattle.neph_memory.specs.Pages.{frame_at}
use Rattle.neph_memory.specs.Memory.{bytes_for, page_bytes}

pub frame_past : (ps : List Page) (q : ℕ) → length ps ≤ q → frame_at ps q ≡ None
unfolding frame_at
frame_past [] q le = refl
frame_past (x ∷ ps) zero le = absurd (omega arith)
frame_past (x ∷ ps) (suc q) le = frame_past ps q (omega arith)

pub same_frames : (ps qs : List Page) (n : ℕ) → n ≡ length ps → length qs ≡ length ps → ((x : ℕ) → 1 ≤ x → x < n → frame_at qs x ≡ frame_at ps x) → (x : ℕ) → 1 ≤ x → frame_at qs x ≡ frame_at ps x
same_frames ps qs n e h done x le = by_case (nat_lt x n) refl where
  by_case : (b : Bool) → nat_lt x n ≡ b → frame_at qs x ≡ frame_at ps x
  by_case true k = done x le (ltb-true x n k)
  by_case false k = let l = ltb-false x n k in frame_past qs x (omega (arith, l, e, h)) ∙ sym (frame_past ps x (omega (arith, l, e)))

pub same_bytes : (es gs fs : List (Option Entry)) (ps qs : List Page) → gs ≡ es → ((x : ℕ) → 1 ≤ x → frame_at qs x ≡ frame_at ps x) → ((q f : ℕ) → 1 ≤ q → frame_at ps q ≡ Some f → page_bytes es ps q ≡ Some (bytes_at fs f))
    → (x : ℕ) → 1 ≤ x → page_bytes fs qs x ≡ page_bytes gs ps x
same_bytes es gs fs ps qs e frames bytes x le = ap (bytes_for fs) (frames x le) ∙ by_frame (frame_at ps x) refl where
  by_frame : (f : Option ℕ) → frame_at ps x ≡ f → bytes_for fs (frame_at ps x) ≡ page_bytes gs ps x
  by_frame None h = ap (bytes_for fs) h ∙ sym (ap (bytes_for gs) h)
  by_frame (Some f) h = ap (bytes_for fs) h ∙ sym (ap (λ (xs : List (Option Entry)). page_bytes xs ps x) e ∙ bytes x f le h)

pub at_least : (a b : ℕ) → a ≡ b → 0 < b → 1 ≤ a
at_least a b e lt = omega (arith, e, lt)

-- none was found up to the last page
pub none_after : (ps : List Page) (from n m : ℕ) → ((q : ℕ) → from ≤ q → q < n → frame_at ps q ≡ None) → m ≤ n → m ≡ length ps → (q : ℕ) → from ≤ q → frame_at ps q ≡ None
none_after ps from n m none le e q l = by_case (nat_lt q n) refl where
  by_case : (b : Bool) → nat_lt q n ≡ b → frame_at ps q ≡ None
  by_case true h = none q l (ltb-true q n h)
  by_case false h = let k = ltb-false q n h in frame_past ps q (omega (arith, k, le, e))
