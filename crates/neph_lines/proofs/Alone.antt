-- A frame that a seat has to itself after a call on that seat alone had one reference before.
use Rattle.std.proofs.Common.{◌≡◌, ◌≢◌, ◌⊎◌, inl, inr, ℕ, zero, suc, ◌+◌, ◌<◌, ◌≤◌, Bool, true, false, List, [], ◌∷◌, length, get_or, set, slice_index, IfSome, Some, None, refl, sym, ap, subst, ◌∙◌, arith, if◌then◌else◌}
use Rattle.std.specs.List.{sum_by}
use Rattle.std.specs.Prelude.{nat_lt}
use Rattle.std.specs.declared.option.Option.{Option}
use Rattle.std.proofs.lemmas.Bool.{ltb-true, ltb-false}
use Rattle.std.proofs.lemmas.List.{length-set, get_or-set_same, get_or-set_other, get_or_past}
use Rattle.std.proofs.lemmas.List.Sums.{sum_by-cons}
use Rattle.neph_pool.specs.declared.entry.Entry.{Entry}
use Rattle.neph_pool.specs.declared.entry.Hold.{Hold}
use Rattle.neph_pool.specs.Entries.{hold_at, hold_of, weight_of, IsSoleAt, IsOnceAt}
use Rattle.neph_pool.specs.Names.{IsApart}
use Rattle.neph_pool.specs.Seats.{in_place, name_of, count_at, weights, AreAllSeats, AreCounted}
use Rattle.neph_pool.specs.World.{World, Moves}
use Rattle.neph_pool.proofs.Rows.{same_or_not}

-- a sum in which each place counts the same
sum_same : {A : Type 0} (g h : Option A → ℕ) (xs ys : List (Option A)) → length ys ≡ length xs → ((j : ℕ) → g (get_or ys j None) ≡ h (get_or xs j None)) → sum_by g ys ≡ sum_by h xs
sum_same g h [] [] e same = refl
sum_same g h [] (y ∷ ys) e same = absurd (omega arith)
sum_same g h (x ∷ xs) [] e same = absurd (omega arith)
sum_same g h (x ∷ xs) (y ∷ ys) e same =
    let more = sum_same g h xs ys (omega arith) (λ j. same (suc j)) in
    let first : g y ≡ h x = same zero in
    omega (arith, more, first, sum_by-cons g y ys, sum_by-cons h x xs)

-- one place counts no more than all
sum_one : {A : Type 0} (g : Option A → ℕ) (xs : List (Option A)) (i : ℕ) → g None ≡ 0 → g (get_or xs i None) ≤ sum_by g xs
sum_one g [] i none = omega arith
sum_one g (x ∷ xs) zero none = omega (arith, sum_by-cons g x xs)
sum_one g (x ∷ xs) (suc i) none = let more = sum_one g xs i none in omega (arith, more, sum_by-cons g x xs)

-- nor do two
sum_two : {A : Type 0} (g : Option A → ℕ) (xs : List (Option A)) (i j : ℕ) → g None ≡ 0 → i ≢ j → g (get_or xs i None) + g (get_or xs j None) ≤ sum_by g xs
sum_two g [] i j none far = omega arith
sum_two g (x ∷ xs) zero zero none far = absurd (far refl)
sum_two g (x ∷ xs) zero (suc j) none far = let one = sum_one g xs j none in omega (arith, one, sum_by-cons g x xs)
sum_two g (x ∷ xs) (suc i) zero none far = let one = sum_one g xs i none in omega (arith, one, sum_by-cons g x xs)
sum_two g (x ∷ xs) (suc i) (suc j) none far = let more = sum_two g xs i j none (λ e. far (ap suc e)) in omega (arith, more, sum_by-cons g x xs)

pub at_some : {A : Type 0} (o : Option A) (P : A → Type 0) (x : A) → o ≡ Some x → IfSome o P → P x
at_some o P x e h = subst (λ v. IfSome v P) e h

pub some_at : {A : Type 0} (o : Option A) (P : A → Type 0) (x : A) → o ≡ Some x → P x → IfSome o P
some_at o P x e h = subst (λ v. IfSome v P) (sym e) h

-- what is held lies below the number of frames
pub held_small : (es : List (Option Entry)) (f n : ℕ) (h : Hold) → length es ≡ n → hold_at es f ≡ Some h → f < n
unfolding hold_at
held_small es f n h e at = by (nat_lt f n) refl where
  by : (b : Bool) → nat_lt f n ≡ b → f < n
  by true t = ltb-true f n t
  by false t = absurd (let le : n ≤ f = ltb-false f n t in let z : hold_of (get_or es f None) ≡ None = ap hold_of (get_or_past es f None (omega (arith, e, le))) in cc)

module _ {Pool Seat : Type 0} (W : World Pool Seat) (p q : Pool) (s t : Seat) (moves : Moves W p s q t) (seats : List (Option Seat)) (all : AreAllSeats W p seats) (i : ℕ) (at : get_or seats i None ≡ Some s) (small : (d : ℕ) → W.names s d ≡ true → d < 64) where
  within : i < length seats
  within = by (nat_lt i (length seats)) refl where
    by : (b : Bool) → nat_lt i (length seats) ≡ b → i < length seats
    by true e = ltb-true i (length seats) e
    by false e = absurd (let z = get_or_past seats i None (ltb-false i (length seats) e) in cc)

  -- another seat has none of its names
  off : (j : ℕ) (u : Seat) → j ≢ i → get_or seats j None ≡ Some u → IsApart (W.names s) (W.names u)
  off j u far there d x y =
      let two = sum_two (in_place (name_of W d)) seats i j refl (λ e. far (sym e)) in
      let one = all.names d (small d x) in
      let a : in_place (name_of W d) (get_or seats i None) ≡ 1 = ap (in_place (name_of W d)) at ∙ ap (λ (b : Bool). if b then 1 else 0) x in
      let b : in_place (name_of W d) (get_or seats j None) ≡ 1 = ap (in_place (name_of W d)) there ∙ ap (λ (v : Bool). if v then 1 else 0) y in
      omega (arith, two, one, a, b)

  abbrev now : List (Option Seat)
  now = set seats i (Some t)

  at_now : get_or now i None ≡ Some t
  at_now = get_or-set_same seats i (Some t) None within

  -- what each seat counts, where a call has left the others alone
  each : (g : Pool → Seat → ℕ) → g q t ≡ g p s → ((u : Seat) → W.fits p u → IsApart (W.names s) (W.names u) → g q u ≡ g p u) → (j : ℕ) → in_place (g q) (get_or now j None) ≡ in_place (g p) (get_or seats j None)
  each g here others j = by (same_or_not j i) where
    other : (o : Option Seat) → j ≢ i → get_or seats j None ≡ o → in_place (g q) o ≡ in_place (g p) o
    other None far e = refl
    other (Some u) far e = others u (at_some (get_or seats j None) (λ v. W.fits p v) u e (all.fit j)) (off j u far e)

    by : (j ≡ i) ⊎ (j ≢ i) → in_place (g q) (get_or now j None) ≡ in_place (g p) (get_or seats j None)
    by (inl e) = ap (λ (k : ℕ). in_place (g q) (get_or now k None)) e ∙ ap (in_place (g q)) at_now ∙ here ∙ sym (ap (in_place (g p)) at) ∙ ap (λ (k : ℕ). in_place (g p) (get_or seats k None)) (sym e)
    by (inr far) = ap (in_place (g q)) (get_or-set_other seats i j (Some t) None far) ∙ other (get_or seats j None) far refl

  fit_now : (j : ℕ) → IfSome (get_or now j None) (λ u. W.fits q u)
  fit_now j = by (same_or_not j i) where
    other : (o : Option Seat) → j ≢ i → get_or seats j None ≡ o → IfSome o (λ u. W.fits q u)
    other None far e = tt
    other (Some u) far e = moves.others.fits u (at_some (get_or seats j None) (λ v. W.fits p v) u e (all.fit j)) (off j u far e)

    by : (j ≡ i) ⊎ (j ≢ i) → IfSome (get_or now j None) (λ u. W.fits q u)
    by (inl e) = subst (λ (k : ℕ). IfSome (get_or now k None) (λ u. W.fits q u)) (sym e) (some_at (get_or now i None) (λ u. W.fits q u) t at_now moves.fits)
    by (inr far) = subst (λ o. IfSome o (λ u. W.fits q u)) (sym (get_or-set_other seats i j (Some t) None far)) (other (get_or seats j None) far refl)

  pub all_now : AreAllSeats W q now
  all_now = record {
    fit = fit_now;
    names = λ d lt. sum_same (in_place (name_of W d)) (in_place (name_of W d)) seats now (length-set seats i (Some t)) (each (λ _ u. name_of W d u) (ap (λ (ns : ℕ → Bool). if ns d then 1 else 0) moves.names) (λ u f a. refl)) ∙ all.names d lt;
  }

  -- one reference of the frame there was
  pub was_alone : AreCounted W p seats → ((seats : List (Option Seat)) → AreAllSeats W q seats → AreCounted W q seats) → (f : ℕ) → f < W.frames p → IsOnceAt (W.entries p s) f → IsSoleAt (W.entries q t) f → IfSome (W.told p) (λ counts. slice_index counts f ≡ 1)
  was_alone counted survey f lt once sole =
      let one : weights W q now f ≡ 1 = at_some (get_or now i None) (λ u. IsSoleAt (W.entries q u) f → weights W q now f ≡ 1) t at_now ((survey now all_now).sole f i) sole in
      let same : weights W q now f ≡ weights W p seats f = sum_same _ _ seats now (length-set seats i (Some t)) (each (λ r u. count_at W weight_of r f u) (ap weight_of sole ∙ sym once) (λ u fits a. ap (λ es. weight_of (hold_at es f)) (moves.others.entries u fits a))) in
      told_one (W.told p) (counted.counts f lt) (sym same ∙ one) where
        told_one : (o : Option (List ℕ)) → IfSome o (λ counts. slice_index counts f ≡ weights W p seats f) → weights W p seats f ≡ 1 → IfSome o (λ counts. slice_index counts f ≡ 1)
        told_one None h e = tt
        told_one (Some counts) h e = h ∙ e
