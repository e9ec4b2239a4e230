-- A run in its course.
use Rattle.std.specs.Prelude.{ℕ, List, [], ◌∷◌, ◌++◌, ◌≡◌}
use Rattle.neph_base.specs.declared.reply.Actor.{Actor}
use Rattle.neph_base.specs.declared.reply.Noted.{Noted}
use Rattle.neph_model.specs.declared.script.Script.{Script}
use Rattle.neph_model.specs.Books.{State}
use Rattle.neph_model.specs.Turns.{turn}
use Rattle.neph_print.specs.Course.{Tells}
use Rattle.neph_pool.specs.Plain.{plain_world}
use Rattle.neph_machine.specs.Reached.{state_after}
use Rattle.neph_machine.specs.StandsFor.{StandsFor}
use Rattle.neph_core.specs.declared.machine.Machine.{Machine}

-- the entries that the turns of these actors make from a script's start on, the latest of whom
-- stands first
abbrev pub entries_after : Script → List Actor → List Noted
entries_after s [] = []
entries_after s (a ∷ before) = entries_after s before ++ (turn s (state_after s before) a).noted

-- the script, the state that its turns have come to, the entries that they have made, and how often
-- a frame was shared in them
pub record Course : Type 0 where
  pub script : Script
  pub state : State
  pub history : List Noted
  pub shares : ℕ

-- the machine stands for the state after the turns of these actors, and its transcript tells the
-- entries that they made
pub record Stands (m : Machine) (before : List Actor) : Type 0 where
  pub frames : StandsFor plain_world m.frames (state_after m.frames.script before)
  pub tells : Tells m.frames.script m.transcript (entries_after m.frames.script before)

-- it stands for a state that its script's run comes to
abbrev pub IsRunning : Machine → Type 0
IsRunning m = (before : List Actor) × Stands m before

-- its course then
abbrev pub course : Machine → List Actor → Course
course m before = record {
  script = m.frames.script;
  state = state_after m.frames.script before;
  history = entries_after m.frames.script before;
  shares = plain_world.shares m.frames.pool;
}

-- the machine stands for the start of a script, and has shared no frame
pub record Starts (s : Script) (m : Machine) : Type 0 where
  pub script : m.frames.script ≡ s
  pub stands : Stands m []
  pub shares : plain_world.shares m.frames.pool ≡ 0
