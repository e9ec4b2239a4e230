-- What a turn of the machine over frames has done, by the definitions.
use Rattle.std.specs.Prelude.{Bool, true, false, ◌≡◌, ◌+◌, ◌-◌, ◌^◌, min, List, [], ◌∷◌, Result, Ok, Err}
use Rattle.neph_base.specs.declared.memory.NoMemory.{NoMemory}
use Rattle.neph_base.specs.declared.reply.Actor.{Actor}
use Rattle.neph_base.specs.declared.reply.Noted.{Noted}
use Rattle.neph_model.specs.Books.{State}
use Rattle.neph_model.specs.Turns.{Done}
use Rattle.neph_pool.specs.World.{World}
use Rattle.neph_machine.specs.declared.machine.Machine.{Machine}
use Rattle.neph_machine.specs.declared.turn.Turn.{Turn}
use Rattle.neph_machine.specs.declared.turn.Turn.TheVariants.{Rested, Moved, Noted as Entered}
use Rattle.neph_machine.specs.Reached.{state_after}
use Rattle.neph_machine.specs.StandsFor.{StandsFor}

-- the turn did something
abbrev pub did_move : Turn → Bool
did_move Rested = false
did_move Moved = true
did_move (Entered x) = true

-- the entry that it made
abbrev pub entry_of : Turn → List Noted
entry_of Rested = []
entry_of Moved = []
entry_of (Entered x) = x ∷ []

module _ {Pool Seat : Type 0} (W : World Pool Seat) where
  -- the machine stands for a state that its script's run comes to
  abbrev pub IsRunning : Machine Pool Seat → Type 0
  IsRunning m = (before : List Actor) × StandsFor W m (state_after m.script before)

  -- A turn that does this took one machine to another, and told so. It shared a frame for each page
  -- step.
  pub record Took (old new : Machine Pool Seat) (done : Done) (t : Turn) : Type 0 where
    pub stands : StandsFor W new done.state
    pub script : new.script ≡ old.script
    pub moved : did_move t ≡ done.moved
    pub entry : entry_of t ≡ done.noted
    pub shares : min (W.shares new.pool) (2 ^ 64 - 1)
        ≡ min (W.shares old.pool + done.steps) (2 ^ 64 - 1)

  -- the machine still stands for this state, and nothing was shared
  pub record Lacked (old new : Machine Pool Seat) (st : State) : Type 0 where
    pub stands : StandsFor W new st
    pub script : new.script ≡ old.script
    pub shares : W.shares new.pool ≡ W.shares old.pool

  -- a turn did this, unless memory ran out, which left the machine standing for the state before
  abbrev pub TookOrLacked : Machine Pool Seat → Machine Pool Seat → State → Done
      → Result Turn NoMemory → Type 0
  TookOrLacked old new st done (Ok t) = Took old new done t
  TookOrLacked old new st done (Err lacks) = Lacked old new st
