-- How far a domain is with its line, and what stands in its place then.
use Rattle.std.specs.Prelude.{ℕ, ◌≡◌, false, List}
use Rattle.neph_base.specs.declared.command.Command.{Command}
use Rattle.neph_model.specs.Machine.{Exposed, program_run}
use Rattle.neph_model.specs.Programs.{command_at}
use Rattle.neph_model.specs.Step.{is_paused}
use Rattle.neph_local.specs.Forks.{NoPageLeft}
use Rattle.neph_guest.specs.declared.live.Live.{Live}
use Rattle.neph_guest.specs.declared.live.Stage.{Stage}
use Rattle.neph_guest.specs.declared.live.Stage.TheVariants.{Ready}
use Rattle.neph_rows.specs.Records.{shared_of}
use Rattle.neph_machine.specs.declared.place.Flight.{Flight}
use Rattle.neph_machine.specs.declared.place.Place.TheVariants.{Domain, Flight as InFlight}
use Rattle.neph_machine.specs.declared.machine.Machine.{Machine}
use Rattle.neph_machine.specs.Places.{place_at}

-- the domain of this id is live, and so far with its line
pub record IsAt {Pool Seat : Type 0} (m : Machine Pool Seat) (id : ℕ) (stage : Stage) : Type 0 where
  pub live : Live Pool Seat
  pub here : place_at id m.places.items ≡ Domain live
  pub at : live.guest.stage ≡ stage

-- the hypervisor doesn't pause it
abbrev pub IsRunnable : {Pool Seat : Type 0} → Machine Pool Seat → ℕ → Type 0
IsRunnable m id = (pages : List Exposed) → is_paused id (shared_of m.hv.registry pages) ≡ false

-- A domain stands in the place of an id. It is ready for its line, which has this command, and it
-- isn't paused.
pub record IsReadyAt {Pool Seat : Type 0} (m : Machine Pool Seat) (id : ℕ) (c : Command)
    : Type 0 where
  pub domain : Live Pool Seat
  pub here : place_at id m.places.items ≡ Domain domain
  pub ready : domain.guest.stage ≡ Ready
  pub runs : (pages : List Exposed) → is_paused id (shared_of m.hv.registry pages) ≡ false
  pub command : command_at m.script (program_run id m.hv.registry.lives) domain.guest.line ≡ c

-- Of the clone that the domain of the id has in flight no page is left to share. Its child stands
-- in the place of that id.
pub record IsForked {Pool Seat : Type 0} (m : Machine Pool Seat) (id child : ℕ) : Type 0 where
  pub live : Live Pool Seat
  pub there : place_at id m.places.items ≡ Domain live
  pub flight : Flight Pool Seat
  pub flies : place_at child m.places.items ≡ InFlight flight
  pub parent : flight.parent ≡ id
  pub none : NoPageLeft live.local.own.map.pages flight.fork.next
