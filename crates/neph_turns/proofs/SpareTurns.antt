-- The turn of a domain whose guest has asked for a spare frame.
use Rattle.std.proofs.Common.{◌≡◌, ◌≢◌, ℕ, Bool, true, false, [], length, set, Option, Some, None, refl, sym, ap, subst, ◌∙◌}
use Rattle.std.specs.Prelude.{is_some}
use Rattle.neph_model.specs.Books.{State, free}
use Rattle.neph_model.specs.Turns.{Done, move_turn}
use Rattle.neph_runs.specs.Orderly.{seat as part_at}
use Rattle.neph_pool.specs.World.{World}
use Rattle.neph_guest.specs.declared.live.Live.{Live}
use Rattle.neph_guest.specs.declared.live.Stage.TheVariants as guest
use Rattle.neph_guest.specs.declared.turned.Turned.{Turned}
use Rattle.neph_guest.specs.Turned.{HasSpared, SpareDone}
use Rattle.neph_hv.specs.Calls.{hv_calls}
use Rattle.neph_machine.specs.declared.place.Place.TheVariants.{Domain}
use Rattle.neph_machine.specs.declared.machine.Machine.{Machine}
use Rattle.neph_machine.specs.Places.{place_at}
use Rattle.neph_machine.specs.StandsFor.{StandsFor}
use Rattle.neph_machine.specs.Surveyed.{IsSurveyed}
use Rattle.neph_machine.proofs.Reached.{IsReached}
use Rattle.neph_machine.proofs.FrameLaws.{free_is}
use Rattle.neph_lines.proofs.Lines.{NeedsFrame, bare_move}
use Rattle.neph_lines.proofs.Sparing.{IsOffered, was, none_begun}
use Rattle.neph_lines.proofs.NoFrame.{spare_taken, line_refused}
use Rattle.neph_turns.proofs.TookBy.{TookBy}

no_spare_is : (o : Option ℕ) (b : Bool) → b ≡ is_some o → b ≡ false → o ≡ None
no_spare_is None b e h = refl
no_spare_is (Some f) b e h = absurd (cc)

module _ {Pool Seat : Type 0} (W : World Pool Seat) (old : Machine Pool Seat) (st : State) (reached : IsReached old.script st) (stands : StandsFor W old st) (id : ℕ) (l : Live Pool Seat) (here : place_at id old.places.items ≡ Domain l) (survey : IsSurveyed W) (bare : l.local.own.spare ≡ None) (calm : l.guest.stage ≢ guest.Forking)
    (new : Machine Pool Seat) (script : new.script ≡ old.script) (m : Live Pool Seat) (spots : new.places.items ≡ set old.places.items id (Domain m)) (t : Turned) (spared : HasSpared W (hv_calls W) old.pool old.hv l new.pool new.hv m t) where
  offered : IsOffered W old.pool old.hv l new.pool new.hv spared.local
  offered = record {
    hv = spared.spared.call.hv;
    stock = spared.spared.stock;
    registry = spared.spared.registry;
    shared = spared.spared.shared;
    kept = record { stands = spared.stands; map = ap (λ o. o.map) spared.spare.own; pages = spared.spare.pages; mappings = spared.spare.mappings; leaves = spared.spare.leaves; id = spared.spare.id };
    hand = spared.spare.hand;
    seat = spared.spared.seat;
    others = spared.spared.call.others;
    shares = spared.spared.call.shares;
  }

  quiet : (part_at st id).guest.begun ≡ []
  quiet = none_begun W old st reached stands id l here l.guest.stage refl calm

  frees : length old.hv.heap.stock.free ≡ free old.script st
  frees = free_is W old st survey reached stands

  abbrev done : Done
  done = move_turn old.script st id (bare_move (free old.script st))

  -- a spare was taken, or the line was refused
  pub spared_took : NeedsFrame old.script st id → TookBy W old new id l.guest.line done None t
  spared_took needs = by spared.took refl spared.after where
    by : (took : Bool) → spared.took ≡ took → SpareDone W new.pool (record l { local = spared.local }) m took t → TookBy W old new id l.guest.line done None t
    by true e after =
        subst (TookBy W old new id l.guest.line done None) (sym after.0)
        (spare_taken W old st reached stands id l here frees quiet new script spared.local offered (spots ∙ ap (λ (v : Live Pool Seat). set old.places.items id (Domain v)) after.1) (sym spared.spare.spare ∙ e) spared.spared.free)
    by false e after =
        let is = was W old st reached stands id l here in
        let b = after.2 in
        subst (TookBy W old new id l.guest.line done None) (sym after.1)
        (line_refused W old st reached stands id l here frees quiet new script spared.local offered m after.0 needs spots (no_spare_is spared.local.own.spare spared.took spared.spare.spare e) (spared.spared.none e) b.half b.local b.stage b.dom (is.spare ∙ ap is_some bare))
