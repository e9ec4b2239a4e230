-- What code that takes turns has done, by the definitions.
use Rattle.std.specs.Prelude.{◌≡◌, ◌+◌, ◌-◌, ◌^◌, ◌++◌, ℕ, min, Bool, List, Result, Ok, Err}
use Rattle.neph_base.specs.declared.memory.NoMemory.{NoMemory}
use Rattle.neph_base.specs.declared.reply.Actor.{Actor}
use Rattle.neph_model.specs.Turns.{Done}
use Rattle.neph_core.specs.declared.machine.Machine.{Machine}
use Rattle.neph_core.specs.Course.{Course, Stands, course}

-- as many, as far as 64 bits count
abbrev pub counted : ℕ → ℕ
counted n = min n (2 ^ 64 - 1)

-- turns that did this took one course to another, and told whether one of them moved anything; they
-- shared a frame for each page step
pub record Does (old new : Course) (done : Done) (moved : Bool) : Type 0 where
  pub script : new.script ≡ old.script
  pub state : new.state ≡ done.state
  pub history : new.history ≡ old.history ++ done.noted
  pub shares : counted new.shares ≡ counted (old.shares + done.steps)
  pub told : moved ≡ done.moved

-- turns that did this took a machine that stood for the state after the turns of these actors to
-- one that stands for the state after more
pub record Goes (old new : Machine) (before : List Actor) (done : Done) (moved : Bool)
    : Type 0 where
  pub after : List Actor
  pub stands : Stands new after
  pub does : Does (course old before) (course new after) done moved

-- memory ran out: the machine still stands for that state, with the same entries
pub record Lacks (old new : Machine) (before : List Actor) : Type 0 where
  pub stands : Stands new before
  pub same : course new before ≡ course old before

-- a turn did this, unless memory ran out
abbrev pub GoesOrLacks : Machine → Machine → List Actor → Done → Result Bool NoMemory → Type 0
GoesOrLacks old new before done (Ok moved) = Goes old new before done moved
GoesOrLacks old new before done (Err lacks) = Lacks old new before
