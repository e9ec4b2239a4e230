-- A run that has come to its end.
use Rattle.std.specs.Prelude.{◌≡◌, Bool, List}
use Rattle.neph_base.specs.declared.reply.Actor.{Actor}
use Rattle.neph_model.specs.declared.script.Script.{Script}
use Rattle.neph_model.specs.Run.{Ran, IsRun}
use Rattle.neph_core.specs.declared.machine.Machine.{Machine}
use Rattle.neph_core.specs.Course.{Course, Stands, course}
use Rattle.neph_core.specs.Does.{counted}

-- This is the course of the script's run at its end, and it is told whether it stalled. A frame was
-- shared for each page step.
pub record Plays (s : Script) (c : Course) (stalled : Bool) : Type 0 where
  pub ran : Ran
  pub run : IsRun s ran
  pub ended : ran.stalled ≡ stalled
  pub script : c.script ≡ s
  pub last : ran.last ≡ c.state
  pub entries : ran.history ≡ c.history
  pub steps : counted c.shares ≡ counted ran.steps

-- the machine stands for the last state of the script's run, with its entries
pub record EndsRun (s : Script) (m : Machine) (stalled : Bool) : Type 0 where
  pub before : List Actor
  pub stands : Stands m before
  pub plays : Plays s (course m before) stalled
