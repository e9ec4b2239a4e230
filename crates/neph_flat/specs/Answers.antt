-- What the plain machine has done, by the definitions.
use Rattle.std.specs.Prelude.{◌≡◌, ℕ, true, List, Option, None, Some, Result, Ok, Err, slice_set, ⊤}
use Rattle.neph_base.specs.declared.command.Command.{Command}
use Rattle.neph_base.specs.declared.command.Command.TheVariants.{Ungrant}
use Rattle.neph_base.specs.declared.memory.NoMemory.{NoMemory}
use Rattle.neph_base.specs.declared.reply.Entry.{Entry}
use Rattle.neph_base.specs.declared.reply.Entry.TheVariants.{Line, Commit, Daemon}
use Rattle.neph_base.specs.declared.reply.Reply.{Reply}
use Rattle.neph_model.specs.declared.script.Script.{Script}
use Rattle.neph_model.specs.declared.memory.Mapping.{Mapping}
use Rattle.neph_model.specs.declared.told.Told.{Told}
use Rattle.neph_model.specs.Lent.{PageBack, lent, own_behind}
use Rattle.neph_model.specs.Machine.{Machine, Exposed, own_at, program_run}
use Rattle.neph_model.specs.Programs.{command_at}
use Rattle.neph_model.specs.Step.{entry_step, shared_line, step, is_due}
use Rattle.neph_rows.specs.Row.{MayBeAsked}
use Rattle.neph_flat.specs.Local.{LocalTakes}
use Rattle.neph_flat.specs.declared.end.FlatEnd.{FlatEnd}
use Rattle.neph_flat.specs.declared.end.FlatEnd.TheVariants as end

-- only a commit takes memory, and a `map` that the domain does by itself and that adds to its map
-- or its leaf tables
abbrev pub TakesMemory : Script → Machine → Entry → Told → Type 0
TakesMemory s m (Line dom line) told =
    LocalTakes (own_at dom m.own) told (command_at s (program_run dom m.shared.lives) line)
TakesMemory s m (Commit dom line) told = ⊤
TakesMemory s m Daemon told = ⊥

-- an entry on a machine in place was done, unless memory ran out, which changed nothing
abbrev pub StepDone : Script → Machine → Machine → Entry → Told → Result Reply NoMemory → Type 0
StepDone s old new e told (Ok reply) = step s old e told ≡ record { machine = new; reply = reply }
StepDone s old new e told (Err lacks) = TakesMemory s old e told × (new ≡ old)

-- A command of a domain under the lock was answered so: the shared half is what the definitions'
-- line leaves of it, and the own half what it is behind that.
pub record HasAsked (old new : Machine) (dom : ℕ) (told : Told) (c : Command) (r : Reply)
    : Type 0 where
  pub back : Option PageBack
  pub row : shared_line old.shared dom (lent (own_at dom old.own) c) told c
      ≡ record { shared = new.shared; reply = r; back = back }
  pub own : new.own ≡ slice_set old.own dom (own_behind (own_at dom old.own) c r back)

-- the hypervisor may be asked to do the command: a read is one of an exposed page
abbrev pub IsAsked : List Exposed → ℕ → Option Mapping → Command → Type 0
IsAsked pages id met (Ungrant r) = ⊤
IsAsked pages id met c = MayBeAsked pages id met c

-- an entry on a machine in place was answered so: done, not due, or due while memory ran out
abbrev pub StepAnswers : Script → Machine → Machine → Entry → Told → Result Reply FlatEnd → Type 0
StepAnswers s old new e told (Ok reply) =
    entry_step s old e told ≡ Some (record { machine = new; reply = reply })
StepAnswers s old new e told (Err end.NotNext) = (entry_step s old e told ≡ None) × (new ≡ old)
StepAnswers s old new e told (Err end.NoMemory) =
    (is_due s old e ≡ true) × (TakesMemory s old e told × (new ≡ old))
