-- The place of the next domain line, before its domain starts.
use Rattle.std.proofs.Common.{◌≡◌, ℕ, suc, ◌<◌, ◌≤◌, true, false, [], length, get_or, refl, ap, subst, ◌∙◌}
use Rattle.std.specs.Prelude.{is_some}
use Rattle.std.proofs.lemmas.List.Elements.{All-get_or}
use Rattle.neph_model.specs.declared.script.Script.{Script}
use Rattle.neph_model.specs.declared.script.Start.{Start}
use Rattle.neph_model.specs.WellFormed.{IsWellFormed, IsWellFormedStart}
use Rattle.neph_runs.specs.Orderly.{Seat as Part, seat as part_at}
use Rattle.neph_pool.specs.World.{World}
use Rattle.neph_heap.specs.Lists.{exposed_of}
use Rattle.neph_machine.specs.declared.place.Place.{Place}
use Rattle.neph_machine.specs.declared.place.Place.TheVariants.{Empty, Flight as InFlight, Domain}
use Rattle.neph_machine.specs.declared.machine.Machine.{Machine}
use Rattle.neph_machine.specs.Places.{place_at, is_empty}
use Rattle.neph_machine.specs.StandsFor.{IsPlace}
use Rattle.neph_machine.proofs.OnePlace.{not_begun, no_name}
use Rattle.neph_boot.specs.Opening.{opened, IsOpening}
use Rattle.neph_boot.proofs.StartLines.{opened_begun, opened_dead}

-- what stands in the place of an id of which the state has nothing, where nobody has begun a clone
place_empty : {Pool Seat : Type 0} (W : World Pool Seat) (m : Machine Pool Seat) (id : ℕ) (place : Place Pool Seat) (x : ℕ → Part) → is_some (x id).life ≡ false → ((j : ℕ) → (x j).guest.begun ≡ []) → IsPlace W m id place x → place ≡ Empty
place_empty W m id Empty x dead none h = refl
place_empty W m id (InFlight f) x dead none h = absurd (not_begun _ id (none f.parent) h.1.begun)
place_empty W m id (Domain l) x dead none h = absurd (no_name _ h.live dead)

-- a script's domain line has 8 pages to 1024
pub line_pages : (s : Script) (n : ℕ) (d : Start) → IsWellFormed s → n < length s.starts → (8 ≤ (get_or s.starts n d).pages) × ((get_or s.starts n d).pages ≤ 1024)
line_pages s n d well lt = let h = All-get_or (IsWellFormedStart (length s.programs)) s.starts n d lt well.starts in (h.pages_low, h.pages_high)

module _ {Pool Seat : Type 0} (W : World Pool Seat) (m : Machine Pool Seat) (n : ℕ) (opening : IsOpening W m n) where
  next_empty : place_at (suc n) m.places.items ≡ Empty
  next_empty = place_empty W m (suc n) (place_at (suc n) m.places.items) (part_at (opened n m.script)) (opened_dead m.script n) (opened_begun m.script n) (opening.each (suc n))

  pub next_name : suc n < 64 → W.names m.hv.heap.seat (suc n) ≡ true
  next_name lt = opening.names (suc n) lt ∙ ap is_empty next_empty

  pub next_exposed : exposed_of (suc n) m.hv.heap.stock ≡ []
  next_exposed = (subst (λ (place : Place Pool Seat). IsPlace W m (suc n) place (part_at (opened n m.script))) next_empty (opening.each (suc n))).0.exposed
