-- What a domain that is ready for its line comes to by itself.
use Rattle.std.specs.Prelude.{◌≡◌, ℕ, Some, slice_get, slice_set}
use Rattle.neph_base.specs.declared.command.Command.{Command}
use Rattle.neph_model.specs.declared.own.Own.{Own}
use Rattle.neph_model.specs.declared.script.Script.{Script}
use Rattle.neph_model.specs.declared.script.Program.{Program}
use Rattle.neph_model.specs.declared.told.Told.TheVariants.{Enough}
use Rattle.neph_model.specs.Machine.{program_run}
use Rattle.neph_model.specs.Programs.{program_at}
use Rattle.neph_model.specs.Own.{local_step}
use Rattle.neph_pool.specs.World.{World}
use Rattle.neph_memory.specs.Domains.{IsStanding, KeepsSeats}
use Rattle.neph_guest.specs.declared.live.Live.{Live}
use Rattle.neph_guest.specs.declared.row.LocalTurn.{LocalTurn}
use Rattle.neph_guest.specs.OwnHalf.{IsOwnHalf}
use Rattle.neph_guest.specs.Turns.{TurnDone, HandDone, LookDone, HeldSpare, IsWithoutSpare, spare_after, stage_after}
use Rattle.neph_machine.specs.declared.place.Place.TheVariants.{Domain}
use Rattle.neph_machine.specs.declared.machine.Machine.{Machine}
use Rattle.neph_machine.specs.Places.{place_at}

module _ {Pool Seat : Type 0} (W : World Pool Seat) (old new : Machine Pool Seat) (id : ℕ) where
  -- The domain `live` of the id has become `left`. Nothing else has changed.
  pub record HasTurned (live left : Live Pool Seat) : Type 0 where
    pub here : place_at id old.places.items ≡ Domain live
    pub places : new.places.items ≡ slice_set old.places.items id (Domain left)
    pub script : new.script ≡ old.script
    pub hv : new.hv ≡ old.hv
    pub moves : KeepsSeats W old.pool live.local new.pool left.local
    pub stands : IsStanding W new.pool left.local
    pub shares : W.shares new.pool ≡ W.shares old.pool

  -- The domain has tried its line, of this number and command, by itself. It came to `turn`.
  pub record HasTried (line : ℕ) (c : Command) (turn : LocalTurn) : Type 0 where
    pub live : Live Pool Seat
    pub left : Live Pool Seat
    pub turned : HasTurned live left
    pub at : line ≡ live.guest.line
    pub program : Program
    pub runs : slice_get old.script.programs (program_run id old.hv.registry.lives) ≡ Some program
    pub done : (s : Script) (p : ℕ) (o : Own) → program_at s p ≡ Some program
        → IsOwnHalf W old.pool live o
        → TurnDone (IsOwnHalf W new.pool left) o c (local_step s p o Enough c) turn
    pub hand : HandDone W new.pool left.local c live.local.hand turn
    pub look : LookDone W old.pool live.local left.local.own c turn
    pub spare : left.local.own.spare ≡ spare_after W old.pool live.local c turn
    pub held : HeldSpare W old.pool live.local c turn
    pub lacks : IsWithoutSpare turn live.local.own.spare
    pub stage : left.guest.stage ≡ stage_after live.guest.stage turn
    pub dom : left.guest.dom ≡ live.guest.dom
    pub id_is : left.local.id ≡ live.local.id
    pub pages : left.local.own.map.pages ≡ live.local.own.map.pages
