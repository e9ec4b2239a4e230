-- The states that a script's run comes to.
use Rattle.std.specs.Prelude.{List, [], ◌∷◌}
use Rattle.neph_base.specs.declared.reply.Actor.{Actor}
use Rattle.neph_model.specs.declared.script.Script.{Script}
use Rattle.neph_model.specs.Books.{State, start_state}
use Rattle.neph_model.specs.Turns.{turn}

-- the state of a script after the turns of these actors, the latest of whom stands first
abbrev pub state_after : Script → List Actor → State
state_after s [] = start_state s
state_after s (a ∷ before) = (turn s (state_after s before) a).state
