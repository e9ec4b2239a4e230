-- What is read of a slot.
use Rattle.std.proofs.Common.{◌≡◌, ℕ, ◌<◌, ◌≤◌, ◌==◌, List, [], ◌∷◌, Option, All, length, get_or, ap, sym, arith, refl, not}
use Rattle.std.specs.Prelude.{IfSome, slice_get}
use Rattle.std.proofs.lemmas.List.{length-map}
use Rattle.std.proofs.lemmas.List.Elements.{All-head}
use Rattle.neph_model.specs.declared.life.Guest.{Guest}
use Rattle.neph_model.specs.Machine.{guest_at}
use Rattle.neph_model.specs.Step.{is_some_left}
use Rattle.neph_rows.specs.Kept.{IsKept, records_of}
use Rattle.neph_rows.specs.Slots.{guest_of}
use Rattle.neph_rows.specs.Sound.{IsChildOf}
use Rattle.neph_rows.specs.declared.slots.Slot.{Slot}
use Rattle.neph_rows.specs.declared.registry.Registry.TheInside.{Inside}
use Rattle.neph_rows.proofs.SlotGuests.{guest_read}

-- what is kept of an id is what its slot keeps
pub guest_is : (a : Inside) (i id : ℕ) (s : Slot) → IsKept a → id < 64 → i ≡ id → s ≡ get_or a.slots.items i s → guest_at id (records_of a).tables ≡ guest_of s
guest_is a i id s k lt same is = guest_read a.slots.items i id s (omega (arith, k.sound.guests, length-map a.slots.items guest_of)) same is

pub few_begun : (a : Inside) (i id : ℕ) (s : Slot) → IsKept a → id < 64 → i ≡ id → s ≡ get_or a.slots.items i s → length s.begun.items ≤ 62
few_begun a i id s k lt same is =
    let g = k.sound.each id in
    let e = ap (λ (x : Guest). length x.begun) (guest_is a i id s k lt same is) in
    omega (arith, g.counted, g.few, e)

first_of : (next id : ℕ) (xs : List ℕ) → All (IsChildOf next id) xs → IfSome (slice_get xs 0) (λ child. id < child)
first_of next id [] h = tt
first_of next id (x ∷ xs) h = (All-head (IsChildOf next id) x xs h).0

-- the first child whose clone a domain has begun comes after it
pub first_later : (a : Inside) (i id : ℕ) (s : Slot) (o : Option ℕ) → IsKept a → id < 64 → i ≡ id → s ≡ get_or a.slots.items i s → o ≡ slice_get s.begun.items 0 → IfSome o (λ child. id < child)
first_later a i id s o k lt same is e =
    rw (e, sym (ap (λ (x : Guest). x.begun) (guest_is a i id s k lt same is))) (first_of a.next id (guest_at id (records_of a).tables).begun (k.sound.each id).begun)

pub some_left : (xs : List ℕ) → is_some_left xs ≡ not (length xs == 0)
some_left [] = refl
some_left (x ∷ xs) = grind arith
