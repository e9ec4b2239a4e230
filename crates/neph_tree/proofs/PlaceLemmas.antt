-- What stands behind a front.
use Rattle.std.proofs.Common.{◌≡◌, ℕ, ◌+◌, Bool, true, false, cond, ◌&&◌, List, [], ◌∷◌, ◌++◌, length, take, drop, Option, Some, None, Bor, refl, sym, ap, ◌∙◌}
use Rattle.std.specs.Prelude.{nat_eq, ◌==◌}
use Rattle.std.specs.Option.{option_and_then, option_copied, MatchOption}
use Rattle.std.proofs.lemmas.Bool.{eqb-true}
use Rattle.std.specs.Cmp.Lexicographic.{pointwise}
use Rattle.neph_base.specs.Path.{slash}
use Rattle.neph_tree.specs.Places.{behind, rest_below}

pub behind-cond : (p s : List ℕ) → behind p s ≡ cond (pointwise nat_eq (take (length p) s) p) (Some (drop (length p) s)) None
behind-cond [] s = refl
behind-cond (x ∷ p) [] = refl
behind-cond (x ∷ p) (y ∷ s) =
    elim (y == x) as (λ b. cond b (behind p s) None ≡ cond (b && pointwise nat_eq (take (length p) s) p) (Some (drop (length p) s)) None) [ true ↦ behind-cond p s | false ↦ refl ]

pub behind_yes : (p s : List ℕ) → pointwise nat_eq (take (length p) s) p ≡ true → behind p s ≡ Some (drop (length p) s)
behind_yes p s e = behind-cond p s ∙ ap (λ b. cond b (Some (drop (length p) s)) None) e

pub behind_no : (p s : List ℕ) → pointwise nat_eq (take (length p) s) p ≡ false → behind p s ≡ None
behind_no p s e = behind-cond p s ∙ ap (λ b. cond b (Some (drop (length p) s)) None) e

pub behind-append : (p q s : List ℕ) → behind (p ++ q) s ≡ option_and_then (behind q) (behind p s)
behind-append [] q s = refl
behind-append (x ∷ p) q [] = refl
behind-append (x ∷ p) q (y ∷ s) =
    elim (y == x) as (λ b. cond b (behind (p ++ q) s) None ≡ option_and_then (behind q) (cond b (behind p s) None)) [ true ↦ behind-append p q s | false ↦ refl ]

pub rest_below_other : (top path : List ℕ) → (length top ≡ 1 → ⊥) → rest_below top path ≡ option_and_then (behind (slash ∷ [])) (behind top path)
rest_below_other top path e = by (length top == 1) refl where
  by : (b : Bool) → length top == 1 ≡ b → behind (cond b top (top ++ slash ∷ [])) path ≡ option_and_then (behind (slash ∷ [])) (behind top path)
  by true t = absurd (e (eqb-true _ _ t))
  by false t = behind-append top (slash ∷ []) path

pub rest_below_none : (top path : List ℕ) → behind top path ≡ None → rest_below top path ≡ None
rest_below_none top path e = by (length top == 1) refl where
  by : (b : Bool) → length top == 1 ≡ b → behind (cond b top (top ++ slash ∷ [])) path ≡ None
  by true t = e
  by false t = behind-append top (slash ∷ []) path ∙ ap (option_and_then (behind (slash ∷ []))) e

-- what `strip_prefix` answers
pub behind-strip_prefix : (p s : List ℕ) (r : Option (Bor (List ℕ))) → MatchOption r (pointwise nat_eq (take (length p) s) p ≡ false) (λ x. (pointwise nat_eq (take (length p) s) p ≡ true) × (x.now ≡ drop (length p) s) × (length x.now + length p ≡ length s)) → option_copied r ≡ behind p s
behind-strip_prefix p s None h = sym (behind_no p s h)
behind-strip_prefix p s (Some x) h = ap Some h.1 ∙ sym (behind_yes p s h.0)
