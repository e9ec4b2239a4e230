-- A look at the tables of one domain leaves those of the others.
use Rattle.std.proofs.Common.{◌≡◌, ◌≢◌, ℕ, ◌+◌, List, refl, sym, ap, ◌∙◌}
use Rattle.std.specs.declared.option.Option.{Option}
use Rattle.std.proofs.lemmas.Bool.{eqb-true}
use Rattle.neph_pool.specs.declared.entry.Entry.{Entry}
use Rattle.neph_pool.specs.Names.{IsApart, only_name}
use Rattle.neph_pool.specs.World.{World, Spares}
use Rattle.neph_memory.specs.Memory.{leaf_count}
use Rattle.neph_memory.proofs.Standing.{stands_spared}
use Rattle.neph_guest.specs.declared.live.Live.{Live}
use Rattle.neph_machine.specs.declared.place.Place.{Place}
use Rattle.neph_machine.specs.declared.place.Place.TheVariants.{Empty, Flight as InFlight, Domain}
use Rattle.neph_machine.specs.FrameUses.{tables_in}
use Rattle.neph_turns.specs.Seats.{StandsIn, seat_names}

module _ {Pool Seat : Type 0} (W : World Pool Seat) (p q : Pool) where
  -- the seats of two places have no name in common
  places_apart : (i j : ℕ) (x : Place Pool Seat) (l : Live Pool Seat) → i ≢ j → StandsIn W p i x
      → W.names l.local.seat ≡ only_name j → IsApart (seat_names W x) (W.names l.local.seat)
  places_apart i j Empty l far h e d a b = absurd cc
  places_apart i j (InFlight f) l far h e d a b = absurd cc
  places_apart i j (Domain k) l far h e d a b =
      let left : d ≡ i = eqb-true d i (ap (λ (ns : ℕ → _). ns d) (sym h.1) ∙ a) in
      let right : d ≡ j = eqb-true d j (ap (λ (ns : ℕ → _). ns d) (sym e) ∙ b) in
      far (sym left ∙ right)

  -- what stands in another place, and the count of its tables
  pub other_tables : (i j : ℕ) (x y : Place Pool Seat) → i ≢ j → StandsIn W p i x → StandsIn W p j y
      → Spares W (seat_names W x) p q → StandsIn W q j y × (tables_in W q y ≡ tables_in W p y)
  other_tables i j x Empty far h k spares = (tt, refl)
  other_tables i j x (InFlight f) far h k spares = (tt, refl)
  other_tables i j x (Domain l) far h k spares =
      let apart = places_apart i j x l far h k.1 in (
        (
          stands_spared W (seat_names W x) p q l.local.seat l.local.id l.local.tables.root l.local.own k.0 spares apart,
          k.1,
        ),
        ap (λ (es : List (Option Entry)). 1 + leaf_count es l.local.tables.root) (spares.entries l.local.seat k.0.fits apart),
      )
