-- A frame is given up, and kept where its last reference was.
use Rattle.std.proofs.Common.{◌≡◌, ◌≢◌, ◌==◌, ◌||◌, ◌⊎◌, ◌++◌, inl, inr, ℕ, Bool, true, false, List, [], ◌∷◌, Some, None, if◌then◌else◌, refl, sym, ap, subst, ◌∙◌, arith, eq-eqb, ne_eqb}
use Rattle.std.specs.declared.option.Option.{Option}
use Rattle.neph_pool.specs.declared.entry.Entry.{Entry}
use Rattle.neph_pool.specs.declared.entry.Hold.{Hold}
use Rattle.neph_pool.specs.declared.entry.Hold.TheVariants.{Zero, Sole, Counted}
use Rattle.neph_pool.specs.Entries.{hold_at, words_at, weight_of, with_hold, without, IsOnceAt, IsZeroAt}
use Rattle.neph_pool.proofs.Entries.{once_here, hold_at-with_hold, hold_at-with_hold_other, hold_at-without, hold_at-without_other, words_at-with_hold, words_at-without_other}
use Rattle.neph_pool.proofs.Rows.{same_or_not}
use Rattle.neph_memory.proofs.Places.{has_more}
use Rattle.neph_memory.proofs.Numbers.{in_last, in_rest, in_either}
use Rattle.neph_gmap.specs.GuestPages.{has_number}
use Rattle.neph_memory.specs.Building.{IsAmong}
use Rattle.neph_pool.specs.Handing.{AreDistinct}
use Rattle.neph_local.specs.Freed.{Freed}

pub released_hold : (es fs : List (Option Entry)) (f : ℕ) (b : Bool) → IsOnceAt es f → fs ≡ (if b then with_hold es f Zero else without es f) → hold_at fs f ≡ (if b then Some Zero else None)
released_hold es fs f true o e = ap (λ (xs : List (Option Entry)). hold_at xs f) e ∙ hold_at-with_hold es f Zero (once_here es f o)
released_hold es fs f false o e = ap (λ (xs : List (Option Entry)). hold_at xs f) e ∙ hold_at-without es f

pub released_else : (es fs : List (Option Entry)) (f : ℕ) (b : Bool) → fs ≡ (if b then with_hold es f Zero else without es f) → (g : ℕ) → g ≢ f → hold_at fs g ≡ hold_at es g
released_else es fs f true e g n = ap (λ (xs : List (Option Entry)). hold_at xs g) e ∙ hold_at-with_hold_other es f Zero g n
released_else es fs f false e g n = ap (λ (xs : List (Option Entry)). hold_at xs g) e ∙ hold_at-without_other es f g n

pub released_words : (es fs : List (Option Entry)) (f : ℕ) (b : Bool) → fs ≡ (if b then with_hold es f Zero else without es f) → (g : ℕ) → g ≢ f → words_at fs g ≡ words_at es g
released_words es fs f true e g n = ap (λ (xs : List (Option Entry)). words_at xs g) e ∙ words_at-with_hold es f Zero g
released_words es fs f false e g n = ap (λ (xs : List (Option Entry)). words_at xs g) e ∙ words_at-without_other es f g n

zero_once : (h : Option Hold) → weight_of h ≡ 1 → h ≡ Some Zero → ⊥
zero_once None a b = omega (arith, a)
zero_once (Some Zero) a b = omega (arith, a)
zero_once (Some Sole) a b = cc
zero_once (Some (Counted n)) a b = cc

both_false : (a b : Bool) → a ≡ false → b ≡ false → (a || b) ≡ false
both_false true b e h = e
both_false false b e h = h

once_more : (xs : List ℕ) (x : ℕ) → AreDistinct xs → ((g : ℕ) → IsAmong xs g → g ≢ x) → AreDistinct (xs ++ x ∷ [])
once_more [] x o n = (refl, tt)
once_more (y ∷ xs) x o n =
    let other : y ≢ x = n y (first y xs) in
    (has_more y xs x ∙ both_false (has_number y xs) (x == y) o.0 (ne_eqb x y (λ e. other (sym e))), once_more xs x o.1 (λ g h. n g (later y g xs h))) where
      first : (y : ℕ) (xs : List ℕ) → IsAmong (y ∷ xs) y
      first y xs = ap (λ (b : Bool). b || has_number y xs) (eq-eqb y y refl)

      or_true : (b : Bool) → (b || true) ≡ true
      or_true true = refl
      or_true false = refl

      later : (y g : ℕ) (xs : List ℕ) → IsAmong xs g → IsAmong (y ∷ xs) g
      later y g xs h = ap (λ (b : Bool). (y == g) || b) h ∙ or_true (y == g)

none_zero : (h : Option Hold) → h ≡ None → h ≡ Some Zero → ⊥
none_zero h a b = cc

module _ (es fs : List (Option Entry)) (f : ℕ) (xs : List ℕ) (k : Freed es xs) (o : IsOnceAt es f) (holds : (g : ℕ) → g ≢ f → hold_at fs g ≡ hold_at es g) where
  not_in : (g : ℕ) → IsAmong xs g → g ≢ f
  not_in g h e = zero_once (hold_at es f) o (ap (hold_at es) (sym e) ∙ (k.zero g).0 h)

  -- others have it still
  pub freed_same : hold_at fs f ≡ None → Freed fs xs
  freed_same gone = record { once = k.once; zero = λ g. (λ h. holds g (not_in g h) ∙ (k.zero g).0 h, λ z. by_case g (same_or_not g f) z) } where
    by_case : (g : ℕ) → (g ≡ f) ⊎ (g ≢ f) → IsZeroAt fs g → IsAmong xs g
    by_case g (inl e) z = absurd (none_zero (hold_at fs f) gone (ap (hold_at fs) (sym e) ∙ z))
    by_case g (inr n) z = (k.zero g).1 (sym (holds g n) ∙ z)

  -- nobody has
  pub freed_more : hold_at fs f ≡ Some Zero → Freed fs (xs ++ f ∷ [])
  freed_more zero = record { once = once_more xs f k.once not_in; zero = λ g. (λ h. forth g (in_either xs f g h), λ z. by_case g (same_or_not g f) z) } where
    forth : (g : ℕ) → (g ≡ f) ⊎ IsAmong xs g → IsZeroAt fs g
    forth g (inl e) = ap (hold_at fs) e ∙ zero
    forth g (inr h) = holds g (not_in g h) ∙ (k.zero g).0 h

    by_case : (g : ℕ) → (g ≡ f) ⊎ (g ≢ f) → IsZeroAt fs g → IsAmong (xs ++ f ∷ []) g
    by_case g (inl e) z = subst (IsAmong (xs ++ f ∷ [])) (sym e) (in_last xs f)
    by_case g (inr n) z = in_rest xs f g ((k.zero g).1 (sym (holds g n) ∙ z))
