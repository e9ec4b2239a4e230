-- What the frames of a machine are used for, from counts of its places.
use Rattle.std.proofs.Common.{◌≡◌, ℕ, ◌+◌, ◌-◌, ◌≤◌, ◌<◌, List, length, get_or, drop, refl, sym, ap, ◌∙◌, arith}
use Rattle.std.specs.List.{sum_by}
use Rattle.std.proofs.lemmas.List.Sums.{sum_by-drop_more}
use Rattle.neph_model.specs.declared.frames.FrameCounts.{FrameCounts}
use Rattle.neph_model.specs.Books.{State, counts}
use Rattle.neph_model.specs.WellFormed.{IsWellFormed}
use Rattle.neph_runs.specs.Orderly.{seat as part_at}
use Rattle.neph_pool.specs.Names.{only_name}
use Rattle.neph_pool.specs.World.{World}
use Rattle.neph_heap.specs.Lists.{aside_count}
use Rattle.neph_machine.specs.declared.place.Place.{Place}
use Rattle.neph_machine.specs.declared.place.Place.TheVariants.{Empty, Flight as InFlight, Domain}
use Rattle.neph_machine.specs.declared.machine.Machine.{Machine}
use Rattle.neph_machine.specs.FrameUses.{tables_in, spares_in, aside_in, AreFrameUses}
use Rattle.neph_machine.specs.Places.{place_at}
use Rattle.neph_machine.specs.StandsFor.{IsPlace, StandsFor}
use Rattle.neph_machine.specs.Reached.{state_after}
use Rattle.neph_machine.specs.Surveyed.{IsSurveyed}
use Rattle.neph_machine.specs.Turned.{IsRunning}
use Rattle.neph_machine.proofs.Reached.{IsReached, reached}
use Rattle.neph_machine.proofs.FrameUses.{frames_are}
use Rattle.neph_turns.specs.Seats.{StandsIn}

-- the sum of the numbers from one place on
pub sum_rest : {X : Type 0} (f : X → ℕ) (xs : List X) (i : ℕ) (x : X) → i < length xs → x ≡ get_or xs i x
    → sum_by f (drop i xs) ≡ f x + sum_by f (drop (i + 1) xs)
sum_rest f xs i x lt is = sum_by-drop_more f xs i x lt ∙ ap (λ y. f y + sum_by f (drop (i + 1) xs)) (sym is)

counts_same : (c : FrameCounts) (total colours tables spares aside free : ℕ) → total ≡ c.total → colours ≡ c.colours → tables ≡ c.tables → spares ≡ c.spares → aside ≡ c.aside → free ≡ c.free
    → record { total = total; colours = colours; tables = tables; spares = spares; aside = aside; free = free } ≡ c
counts_same c total colours tables spares aside free a b d e f g = rw (a, b, d, e, f, g) refl

-- the counts of what stands in the places are within the number of the frames
pub record AreWithin {Pool Seat : Type 0} (W : World Pool Seat) (m : Machine Pool Seat) : Type 0 where
  pub high : m.script.frames ≤ 16384
  pub tables : sum_by (tables_in W m.pool) m.places.items ≤ m.script.frames
  pub spares : sum_by spares_in m.places.items ≤ m.script.frames
  pub aside : sum_by aside_in m.places.items + aside_count m.hv.heap.stock ≤ m.script.frames
  pub free : length m.hv.heap.stock.free ≤ m.script.frames
  pub all : sum_by (tables_in W m.pool) m.places.items + sum_by spares_in m.places.items + (sum_by aside_in m.places.items + aside_count m.hv.heap.stock) + length m.hv.heap.stock.free ≤ m.script.frames

pub within : {Pool Seat : Type 0} (W : World Pool Seat) (m : Machine Pool Seat) → IsSurveyed W → IsWellFormed m.script → IsRunning W m → AreWithin W m
within W m survey formed n =
    let uses = frames_are W m (state_after m.script n.0) (reached m.script formed n.0) n.1 survey in
    let frames = n.1.frames in record {
      high = formed.frames_high;
      tables = omega (arith, uses.total, uses.tables, uses.all, frames);
      spares = omega (arith, uses.total, uses.spares, uses.all, frames);
      aside = omega (arith, uses.total, uses.aside, uses.all, frames);
      free = omega (arith, uses.total, uses.free, uses.all, frames);
      all = omega (arith, uses.total, uses.tables, uses.spares, uses.aside, uses.free, uses.all, frames);
    }

module _ {Pool Seat : Type 0} (W : World Pool Seat) (m : Machine Pool Seat) (st : State)
    (reached : IsReached m.script st) (stands : StandsFor W m st) (survey : IsSurveyed W) where
  uses : AreFrameUses W m (counts m.script st)
  uses = frames_are W m st reached stands survey

  -- what is counted of the places, with what is left of all frames, are the definitions' counts
  pub counts_are : (tables spares aside free : ℕ) → tables ≡ sum_by (tables_in W m.pool) m.places.items → spares ≡ sum_by spares_in m.places.items
      → aside ≡ sum_by aside_in m.places.items + aside_count m.hv.heap.stock → free ≡ length m.hv.heap.stock.free
      → record { total = m.script.frames; colours = m.script.frames - (tables + spares + aside + free); tables = tables; spares = spares; aside = aside; free = free } ≡ counts m.script st
  counts_are tables spares aside free t p a f = counts_same (counts m.script st) _ _ tables spares aside free
      (omega (arith, uses.total, stands.frames))
      (omega (arith, t, p, a, f, uses.total, uses.tables, uses.spares, uses.aside, uses.free, uses.all, stands.frames))
      (t ∙ sym uses.tables) (p ∙ sym uses.spares) (a ∙ sym uses.aside) (f ∙ sym uses.free)

  -- the domains in the places stand
  pub stand_in : (id : ℕ) → StandsIn W m.pool id (place_at id m.places.items)
  stand_in id = by (place_at id m.places.items) (stands.each id) where
    by : (place : Place Pool Seat) → IsPlace W m id place (part_at st) → StandsIn W m.pool id place
    by Empty h = tt
    by (InFlight f) h = tt
    by (Domain l) h = (h.stands, h.stands.names ∙ ap only_name h.id_is)
