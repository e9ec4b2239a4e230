-- The run of a script: the turns that it gives, and then rounds, to their end.
use Rattle.std.specs.Prelude.{ℕ, zero, suc, ◌≡◌, ◌+◌, Bool, true, false, if◌then◌else◌, List, ◌++◌, Option, None, Some}
use Rattle.neph_base.specs.declared.reply.Noted.{Noted}
use Rattle.neph_base.specs.declared.reply.Entry.TheVariants.{Daemon}
use Rattle.neph_model.specs.declared.script.Script.{Script}
use Rattle.neph_model.specs.Machine.{Machine, is_live, is_over}
use Rattle.neph_model.specs.Step.{is_paused, is_due}
use Rattle.neph_model.specs.Trap.{is_blocked}
use Rattle.neph_model.specs.Books.{State, start_state}
use Rattle.neph_model.specs.Turns.{Done, turns, round, next_command}

-- how a run ended: the last state, whether it stalled, all its entries, and how many page steps it
-- made
pub record Ran : Type 0 where
  pub last : State
  pub stalled : Bool
  pub history : List Noted
  pub steps : ℕ

-- At most n rounds behind these turns. A run ends where no domain is live, and stalls after a round
-- in which every turn did nothing.
abbrev pub rounds : ℕ → Script → State → List Noted → ℕ → Option Ran
rounds zero s st noted steps = None
rounds (suc n) s st noted steps =
    if is_over st.machine then Some
    (record { last = st; stalled = false; history = noted; steps = steps })
    else (let one = turns s st round in
    if one.moved then rounds n s one.state (noted ++ one.noted) (steps + one.steps)
    else Some (record { last = st; stalled = true; history = noted; steps = steps }))

-- the turns that a script gives, from its start
abbrev pub first_turns : Script → Done
first_turns s = turns s (start_state s) s.turns

-- This is the run of a script: behind the turns that it gives, some number of rounds comes to this
-- end.
pub record IsRun (s : Script) (r : Ran) : Type 0 where
  pub count : ℕ
  pub ends : rounds count s (first_turns s).state (first_turns s).noted (first_turns s).steps
      ≡ Some r

-- A machine is stalled: some domain is live, none is paused, each live domain's command is blocked,
-- and the daemon has no work.
pub record IsStalled (s : Script) (m : Machine) : Type 0 where
  pub live : is_over m ≡ false
  pub running : (id : ℕ) → is_live id m.shared.lives ≡ true → is_paused id m.shared ≡ false
  pub blocked : (id : ℕ) → is_live id m.shared.lives ≡ true
      → is_blocked m.shared id (next_command s m id) ≡ true
  pub daemon : is_due s m Daemon ≡ false
