-- Which numbers a list has after one was put in, or taken away.
use Rattle.std.proofs.Common.{◌≡◌, ◌≢◌, ◌==◌, ◌||◌, ◌&&◌, ◌⊎◌, inl, inr, ℕ, Bool, true, false, List, [], ◌∷◌, not, nat_lt, refl, sym, ap, ◌∙◌, if◌then◌else◌, eq-eqb, ne_eqb}
use Rattle.std.proofs.lemmas.Bool.{eqb-true}
use Rattle.neph_gmap.specs.GuestPages.{has_number, with_number, without_number}

same_by : (b : Bool) (u v : ℕ) → (u == v) ≡ b → (u ≡ v) ⊎ (u ≢ v)
same_by true u v e = inl (eqb-true u v e)
same_by false u v e = inr (λ (q : u ≡ v). let t : (u == v) ≡ true = eq-eqb u v q in absurd (cc))

swap_eq : (u v : ℕ) → (u == v) ≡ (v == u)
swap_eq u v = by_case (same_by (u == v) u v refl) where
  by_case : (u ≡ v) ⊎ (u ≢ v) → (u == v) ≡ (v == u)
  by_case (inl e) = eq-eqb u v e ∙ sym (eq-eqb v u (sym e))
  by_case (inr n) = ne_eqb u v n ∙ sym (ne_eqb v u (λ e. n (sym e)))

later : (a b c : Bool) → (a || (b || c)) ≡ (b || (a || c))
later true true c = refl
later true false c = refl
later false b c = refl

twice : (a c : Bool) → (a || c) ≡ (a || (a || c))
twice true c = refl
twice false c = refl

same_test : (u v x : ℕ) → (x == v) ≡ true → (v == u) ≡ (x == u)
same_test u v x e = ap (λ (k : ℕ). k == u) (sym (eqb-true x v e))

with_by : (u v x : ℕ) (xs ys : List ℕ) (a b : Bool) → (x == v) ≡ b → has_number u ys ≡ ((v == u) || has_number u xs)
    → has_number u (if a then x ∷ ys else (if b then x ∷ xs else v ∷ x ∷ xs)) ≡ ((v == u) || has_number u (x ∷ xs))
with_by u v x xs ys true b e h = ap (λ (c : Bool). (x == u) || c) h ∙ later (x == u) (v == u) (has_number u xs)
with_by u v x xs ys false true e h = twice (x == u) (has_number u xs) ∙ ap (λ (c : Bool). c || ((x == u) || has_number u xs)) (sym (same_test u v x e))
with_by u v x xs ys false false e h = refl

has_with_front : (u v : ℕ) (xs : List ℕ) → has_number u (with_number v xs) ≡ ((v == u) || has_number u xs)
has_with_front u v [] = refl
has_with_front u v (x ∷ xs) = with_by u v x xs (with_number v xs) (nat_lt x v) (x == v) refl (has_with_front u v xs)

-- a list that a number was put into has that number, and those that it had
pub has_with : (u v : ℕ) (xs : List ℕ) → has_number u (with_number v xs) ≡ ((u == v) || has_number u xs)
has_with u v xs = has_with_front u v xs ∙ ap (λ (b : Bool). b || has_number u xs) (swap_eq v u)

gone_by : (u v x : ℕ) (ys : List ℕ) (c b : Bool) → (x == v) ≡ b → has_number u ys ≡ (not (v == u) && c) → has_number u (if not b then x ∷ ys else ys) ≡ (not (v == u) && ((x == u) || c))
gone_by u v x ys c true e h = h ∙ by_test (v == u) (x == u) (same_test u v x e) where
  by_test : (p q : Bool) → p ≡ q → (not p && c) ≡ (not p && (q || c))
  by_test true q k = refl
  by_test false true k = absurd (cc)
  by_test false false k = refl
gone_by u v x ys c false e h = ap (λ (d : Bool). (x == u) || d) h ∙ by_test (same_by (v == u) v u refl) where
  by_test : (v ≡ u) ⊎ (v ≢ u) → ((x == u) || (not (v == u) && c)) ≡ (not (v == u) && ((x == u) || c))
  by_test (inl q) =
      let n : (x == u) ≡ false = ap (λ (k : ℕ). x == k) (sym q) ∙ e in
      rw (eq-eqb v u q, n) refl
  by_test (inr n) = rw (ne_eqb v u n) refl

has_without_front : (u v : ℕ) (xs : List ℕ) → has_number u (without_number v xs) ≡ (not (v == u) && has_number u xs)
has_without_front u v [] = none (v == u) where
  none : (b : Bool) → false ≡ (not b && false)
  none true = refl
  none false = refl
has_without_front u v (x ∷ xs) = gone_by u v x (without_number v xs) (has_number u xs) (x == v) refl (has_without_front u v xs)

-- a list that a number was taken from has those that it had, but for that number
pub has_without : (u v : ℕ) (xs : List ℕ) → has_number u (without_number v xs) ≡ (not (u == v) && has_number u xs)
has_without u v xs = has_without_front u v xs ∙ ap (λ (b : Bool). not b && has_number u xs) (swap_eq v u)
