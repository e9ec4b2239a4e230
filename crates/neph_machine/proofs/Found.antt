-- What was found to stand in a place, and what was written to two.
use Rattle.std.proofs.Common.{◌≡◌, ◌≢◌, ℕ, zero, suc, ◌<◌, List, [], ◌∷◌, length, get_or, set, refl, sym, ap, ◌∙◌, arith}
use Rattle.std.proofs.lemmas.List.{set-set, set_comm}
use Rattle.neph_machine.specs.declared.place.Place.{Place}
use Rattle.neph_machine.specs.declared.place.Place.TheVariants.{Empty}
use Rattle.neph_machine.specs.Places.{place_at}

-- what stands at an index of a list, whatever stands past its end
pub get_same : {X : Type 0} (xs : List X) (i : ℕ) (d e : X) → i < length xs → get_or xs i d ≡ get_or xs i e
get_same [] i d e lt = absurd (omega arith)
get_same (x ∷ xs) zero d e lt = refl
get_same (x ∷ xs) (suc i) d e lt = get_same xs i d e (omega arith)

-- what was read at a place that has this id
pub place_is : {Pool Seat : Type 0} (places : List (Place Pool Seat)) (id at : ℕ) (x y : Place Pool Seat) → at ≡ id → id < length places → x ≡ get_or places at x → x ≡ y
    → place_at id places ≡ y
place_is places id at x y e lt is d = get_same places id Empty x lt ∙ ap (λ k. get_or places k x) (sym e) ∙ sym is ∙ d

-- one place was emptied, another was written to, and the first was filled again
pub set_between : {X : Type 0} (xs : List X) (i j : ℕ) (e x y : X) → j ≢ i → set (set (set xs j e) i x) j y ≡ set (set xs i x) j y
set_between xs i j e x y far = ap (λ (l : List _). set l j y) (set_comm xs j i e x far) ∙ set-set (set xs i x) j e y
