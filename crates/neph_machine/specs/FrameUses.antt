-- What the frames of a machine are used for.
use Rattle.std.specs.Prelude.{ℕ, ◌≡◌, ◌+◌, if◌then◌else◌, length, is_some, sum_by}
use Rattle.neph_model.specs.Frames.{Counts, AddsUp}
use Rattle.neph_pool.specs.World.{World}
use Rattle.neph_memory.specs.Domains.{domain_leaf_count}
use Rattle.neph_heap.specs.Lists.{aside_count}
use Rattle.neph_machine.specs.declared.place.Place.{Place}
use Rattle.neph_machine.specs.declared.place.Place.TheVariants.{Empty, Flight as InFlight, Domain}
use Rattle.neph_machine.specs.declared.machine.Machine.{Machine}

-- how many frames what stands in a place has for its tables, and for a spare
abbrev pub tables_in : {Pool Seat : Type 0} → World Pool Seat → Pool → Place Pool Seat → ℕ
tables_in W p Empty = 0
tables_in W p (InFlight f) = 0
tables_in W p (Domain l) = 1 + domain_leaf_count W p l.local

abbrev pub spares_in : {Pool Seat : Type 0} → Place Pool Seat → ℕ
spares_in Empty = 0
spares_in (InFlight f) = 0
spares_in (Domain l) = if is_some l.local.own.spare then 1 else 0

-- how many frames a fork in hand has put aside
abbrev pub aside_in : {Pool Seat : Type 0} → Place Pool Seat → ℕ
aside_in Empty = 0
aside_in (InFlight f) = length f.fork.frames.items
aside_in (Domain l) = 0

-- These counts are those of the places' frames, beside what the hypervisor has put aside and free.
pub record AreFrameUses {Pool Seat : Type 0} (W : World Pool Seat) (m : Machine Pool Seat)
    (c : Counts) : Type 0 where
  pub total : c.total ≡ W.frames m.pool
  pub tables : c.tables ≡ sum_by (tables_in W m.pool) m.places.items
  pub spares : c.spares ≡ sum_by spares_in m.places.items
  pub aside : c.aside ≡ sum_by aside_in m.places.items + aside_count m.hv.heap.stock
  pub free : c.free ≡ length m.hv.heap.stock.free
  pub all : AddsUp c
