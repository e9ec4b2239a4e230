-- The value of the plain machine as a program.
use Rattle.std.specs.Prelude.{ℕ, if◌then◌else◌, Option, None, Some}
use Rattle.neph_model.specs.declared.script.Script.{Script}
use Rattle.neph_model.specs.declared.own.Own.{Own}
use Rattle.neph_model.specs.Machine.{Machine, own_at, is_live}

-- a script and the machine that runs it
pub record Flat : Type 0 where
  pub script : Script
  pub machine : Machine

-- the own half of an id that has a live domain
abbrev pub live_own : ℕ → Machine → Option Own
live_own id m = if is_live id m.shared.lives then Some (own_at id m.own) else None
