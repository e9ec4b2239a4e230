-- What the definitions do in the turn of a domain that rests.
use Rattle.std.proofs.Common.{◌≡◌, ◌≢◌, ℕ, Bool, true, false, cond, Some, None, refl, ap, subst, ◌∙◌}
use Rattle.std.specs.Prelude.{is_some}
use Rattle.neph_base.specs.declared.reply.Actor.TheVariants.{Dom}
use Rattle.neph_model.specs.declared.book.Stage.{Stage as Ahead}
use Rattle.neph_model.specs.declared.book.Stage.TheVariants as book
use Rattle.neph_model.specs.declared.book.Move.{Move}
use Rattle.neph_model.specs.declared.book.Move.TheVariants.{Rests}
use Rattle.neph_model.specs.Trap.{is_blocked}
use Rattle.neph_model.specs.Step.{is_paused}
use Rattle.neph_model.specs.Books.{State, free}
use Rattle.neph_model.specs.Turns.{nothing, stage_move, next_move, move_turn, turn}
use Rattle.neph_runs.specs.Orderly.{Seat as Part, seat as part_at}
use Rattle.neph_pool.specs.World.{World}
use Rattle.neph_guest.specs.declared.live.Live.{Live}
use Rattle.neph_guest.specs.declared.live.Stage.{Stage}
use Rattle.neph_guest.specs.declared.live.Stage.TheVariants as guest
use Rattle.neph_machine.specs.declared.place.Place.{Place}
use Rattle.neph_machine.specs.declared.place.Place.TheVariants.{Empty, Flight as InFlight, Domain}
use Rattle.neph_machine.specs.declared.machine.Machine.{Machine}
use Rattle.neph_machine.specs.Places.{place_at}
use Rattle.neph_machine.specs.Stages.{IsAt}
use Rattle.neph_machine.specs.StandsFor.{command_of, IsAtStage, IsDomain, IsPlace, StandsFor}
use Rattle.neph_turns.specs.Standing.{stage_in}

some_is : {x y : Stage} → Some x ≡ Some y → x ≡ y
some_is e = cc

-- a domain that was found stands there
pub found : {Pool Seat : Type 0} (m : Machine Pool Seat) (id : ℕ) (stage : Stage)
    → stage_in (place_at id m.places.items) ≡ Some stage → IsAt m id stage
found {Pool} {Seat} m id stage e = by (place_at id m.places.items) refl e where
  by : (place : Place Pool Seat) → place_at id m.places.items ≡ place → stage_in place ≡ Some stage → IsAt m id stage
  by Empty here h = absurd cc
  by (InFlight f) here h = absurd cc
  by (Domain l) here h = record { live = l; here = here; at = some_is h }

module _ {Pool Seat : Type 0} (W : World Pool Seat) (m : Machine Pool Seat) (st : State)
    (stands : StandsFor W m st) (id : ℕ) where
  abbrev part : Part
  part = part_at st id

  still : is_some part.life ≡ false → turn m.script st (Dom id) ≡ nothing st
  still e = ap (λ (b : Bool). cond b (move_turn m.script st id (next_move m.script st id)) (nothing st)) e

  module _ (l : Live Pool Seat) (here : place_at id m.places.items ≡ Domain l) where
    pub is_domain : IsDomain W m id l part
    is_domain = subst (λ (place : Place Pool Seat). IsPlace W m id place (part_at st)) here (stands.each id)

    -- what it does, by whether it is paused and its stage
    abbrev move : Bool → Ahead → Move
    move paused stage = stage_move (free m.script st) st.books paused (is_blocked st.machine.shared id (command_of m.script part)) part.own part.book (command_of m.script part) stage

    -- a paused domain that has begun no clone rests
    pub paused_rests : l.guest.stage ≢ guest.Forking → is_paused id st.machine.shared ≡ true
        → turn m.script st (Dom id) ≡ nothing st
    paused_rests far paused =
        ap (λ (b : Bool). cond b (move_turn m.script st id (next_move m.script st id)) (nothing st)) is_domain.live
        ∙ ap (move_turn m.script st id) (by part.book.stage refl is_domain.stage)
      where
        by : (at : Ahead) → part.book.stage ≡ at → IsAtStage W m id l part at → next_move m.script st id ≡ Rests
        by book.Ready s h = ap (move (is_paused id st.machine.shared)) s ∙ ap (λ (b : Bool). move b book.Ready) paused
        by book.Copying s h = ap (move (is_paused id st.machine.shared)) s ∙ ap (λ (b : Bool). move b book.Copying) paused
        by (book.Forking left) s h = absurd (far h.0)

  -- where no domain stands the turn does nothing
  pub none_stands : stage_in (place_at id m.places.items) ≡ None → turn m.script st (Dom id) ≡ nothing st
  none_stands e = by (place_at id m.places.items) (stands.each id) e where
    by : (place : Place Pool Seat) → IsPlace W m id place (part_at st) → stage_in place ≡ None → turn m.script st (Dom id) ≡ nothing st
    by Empty h e = still h.0.live
    by (InFlight f) h e = still h.0.live
    by (Domain l) h e = absurd cc
