-- Lists with one number more or less.
use Rattle.std.proofs.Common.{◌≡◌, ◌≢◌, ◌==◌, ◌||◌, ◌⊎◌, ◌++◌, inl, inr, ℕ, Bool, true, false, List, [], ◌∷◌, not, nat_lt, refl, sym, ap, ◌∙◌, if◌then◌else◌, eq-eqb, ne_eqb}
use Rattle.neph_pool.proofs.Rows.{same_or_not}
use Rattle.neph_gmap.specs.GuestPages.{with_number, without_number, has_number}
use Rattle.neph_memory.proofs.Places.{has_more}
use Rattle.neph_memory.specs.Building.{IsAmong}
use Rattle.neph_pool.specs.Handing.{AreDistinct}

or_true : (b : Bool) → (b || true) ≡ true
or_true true = refl
or_true false = refl

first : (v x : ℕ) (xs : List ℕ) → (x == v) ≡ true → has_number v (x ∷ xs) ≡ true
first v x xs e = ap (λ (b : Bool). b || has_number v xs) e

later : (v x : ℕ) (xs : List ℕ) → has_number v xs ≡ true → has_number v (x ∷ xs) ≡ true
later v x xs e = ap (λ (b : Bool). (x == v) || b) e ∙ or_true (x == v)

pub has_same : (v : ℕ) (xs : List ℕ) → has_number v (with_number v xs) ≡ true
has_same v [] = first v v [] (eq-eqb v v refl)
has_same v (x ∷ xs) = by_order (has_same v xs) (nat_lt x v) (x == v) refl where
  by_order : has_number v (with_number v xs) ≡ true → (a b : Bool) → (x == v) ≡ b → has_number v (if a then x ∷ with_number v xs else (if b then x ∷ xs else v ∷ x ∷ xs)) ≡ true
  by_order h true b e = later v x (with_number v xs) h
  by_order h false true e = first v x xs e
  by_order h false false e = first v v (x ∷ xs) (eq-eqb v v refl)

pub has_else : (v u : ℕ) (xs : List ℕ) → u ≢ v → has_number u (with_number v xs) ≡ has_number u xs
has_else v u [] n = ap (λ (b : Bool). b || false) (ne_eqb v u (λ e. n (sym e)))
has_else v u (x ∷ xs) n = by_order (has_else v u xs n) (nat_lt x v) (x == v) where
  by_order : has_number u (with_number v xs) ≡ has_number u xs → (a b : Bool) → has_number u (if a then x ∷ with_number v xs else (if b then x ∷ xs else v ∷ x ∷ xs)) ≡ has_number u (x ∷ xs)
  by_order h true b = ap (λ (b : Bool). (x == u) || b) h
  by_order h false true = refl
  by_order h false false = ap (λ (b : Bool). b || has_number u (x ∷ xs)) (ne_eqb v u (λ e. n (sym e)))

pub lacks_same : (v : ℕ) (xs : List ℕ) → has_number v (without_number v xs) ≡ false
lacks_same v [] = refl
lacks_same v (x ∷ xs) = by_case (lacks_same v xs) (x == v) refl where
  by_case : has_number v (without_number v xs) ≡ false → (b : Bool) → (x == v) ≡ b → has_number v (if not b then x ∷ without_number v xs else without_number v xs) ≡ false
  by_case h true e = h
  by_case h false e = ap (λ (b : Bool). b || has_number v (without_number v xs)) e ∙ h

pub lacks_else : (v u : ℕ) (xs : List ℕ) → u ≢ v → has_number u (without_number v xs) ≡ has_number u xs
lacks_else v u [] n = refl
lacks_else v u (x ∷ xs) n = by_case (lacks_else v u xs n) (x == v) (same_or_not x v) refl where
  skip : x ≡ v → has_number u xs ≡ has_number u (x ∷ xs)
  skip e = sym (ap (λ (b : Bool). b || has_number u xs) (ne_eqb x u (λ d. n (sym d ∙ e))))

  by_case : has_number u (without_number v xs) ≡ has_number u xs → (b : Bool) → (x ≡ v) ⊎ (x ≢ v) → (x == v) ≡ b → has_number u (if not b then x ∷ without_number v xs else without_number v xs) ≡ has_number u (x ∷ xs)
  by_case h true (inl d) e = h ∙ skip d
  by_case h true (inr k) e = absurd (let z : true ≡ false = sym e ∙ ne_eqb x v k in cc)
  by_case h false d e = ap (λ (b : Bool). (x == u) || b) h

-- the last of numbers that are there once
or_left : (a b : Bool) → (a || b) ≡ false → a ≡ false
or_left true b e = e
or_left false b e = refl

or_right : (a b : Bool) → (a || b) ≡ false → b ≡ false
or_right true b e = absurd (cc)
or_right false b e = e

both_false : (a b : Bool) → a ≡ false → b ≡ false → (a || b) ≡ false
both_false true b e h = e
both_false false b e h = h

swap_false : (x y : ℕ) → (x == y) ≡ false → (y == x) ≡ false
swap_false x y e = by_case (same_or_not y x) where
  by_case : (y ≡ x) ⊎ (y ≢ x) → (y == x) ≡ false
  by_case (inl d) = absurd (let z : true ≡ false = sym (eq-eqb x y (sym d)) ∙ e in cc)
  by_case (inr n) = ne_eqb y x n

pub once_last : (xs : List ℕ) (x : ℕ) → AreDistinct (xs ++ x ∷ []) → has_number x xs ≡ false
once_last [] x h = refl
once_last (y ∷ xs) x h = let k = sym (has_more y xs x) ∙ h.0 in both_false (y == x) (has_number x xs) (swap_false x y (or_right (has_number y xs) (x == y) k)) (once_last xs x h.1)

pub once_rest : (xs : List ℕ) (x : ℕ) → AreDistinct (xs ++ x ∷ []) → AreDistinct xs
once_rest [] x h = tt
once_rest (y ∷ xs) x h = (or_left (has_number y xs) (x == y) (sym (has_more y xs x) ∙ h.0), once_rest xs x h.1)

pub in_last : (xs : List ℕ) (x : ℕ) → IsAmong (xs ++ x ∷ []) x
in_last xs x = has_more x xs x ∙ ap (λ (b : Bool). has_number x xs || b) (eq-eqb x x refl) ∙ or_true (has_number x xs)

pub in_rest : (xs : List ℕ) (x g : ℕ) → IsAmong xs g → IsAmong (xs ++ x ∷ []) g
in_rest xs x g h = has_more g xs x ∙ ap (λ (b : Bool). b || (x == g)) h

pub in_other : (xs : List ℕ) (x g : ℕ) → has_number x xs ≡ false → IsAmong xs g → g ≢ x
in_other xs x g e h d = let z : true ≡ false = sym h ∙ ap (λ (k : ℕ). has_number k xs) d ∙ e in cc

pub in_either : (xs : List ℕ) (x g : ℕ) → IsAmong (xs ++ x ∷ []) g → (g ≡ x) ⊎ IsAmong xs g
in_either xs x g h = by_case (same_or_not g x) where
  or_none : (b : Bool) → (b || false) ≡ b
  or_none true = refl
  or_none false = refl

  by_case : (g ≡ x) ⊎ (g ≢ x) → (g ≡ x) ⊎ IsAmong xs g
  by_case (inl e) = inl e
  by_case (inr n) = inr (sym (or_none (has_number g xs)) ∙ sym (ap (λ (b : Bool). has_number g xs || b) (ne_eqb x g (λ e. n (sym e)))) ∙ sym (has_more g xs x) ∙ h)
