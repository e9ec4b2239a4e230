-- What the turn of a guest makes of its machine.
use Rattle.std.proofs.Common.{◌≡◌, ℕ, subst, ◌∙◌, Option, Some, None, Result, Ok, Err}
use Rattle.std.specs.Vec.{with_item}
use Rattle.neph_base.specs.declared.command.Command.TheVariants.{Exit}
use Rattle.neph_base.specs.declared.memory.NoMemory.{NoMemory}
use Rattle.neph_base.specs.declared.reply.Entry.TheVariants.{Line}
use Rattle.neph_model.specs.Books.{State}
use Rattle.neph_model.specs.Turns.{Done}
use Rattle.neph_pool.specs.World.{World}
use Rattle.neph_local.specs.declared.forking.Fork.{Fork}
use Rattle.neph_guest.specs.declared.turned.Turned.{Turned}
use Rattle.neph_guest.specs.declared.turned.Turned.TheVariants.{Rests, Moves, Did, Ends}
use Rattle.neph_machine.specs.declared.place.Place.TheVariants.{Flight as InFlight}
use Rattle.neph_machine.specs.declared.machine.Machine.{Machine}
use Rattle.neph_machine.specs.declared.turn.Turn.TheVariants.{Rested, Moved, Noted as Entered}
use Rattle.neph_machine.specs.Stages.{IsReadyAt}
use Rattle.neph_machine.specs.Turned.{Took, Lacked}
use Rattle.neph_lines.proofs.CopyTurns.{took_from}

-- the machine with a begun fork in its child's place
abbrev pub with_flight : {Pool Seat : Type 0} → Machine Pool Seat → ℕ → Fork Pool Seat → Machine Pool Seat
with_flight m id fork = record m { places = with_item m.places fork.child (InFlight (record { parent = id; fork = fork })) }

-- the same, where a clone has begun
abbrev pub with_begun : {Pool Seat : Type 0} → Machine Pool Seat → ℕ → Option (Fork Pool Seat) → Machine Pool Seat
with_begun m id None = m
with_begun m id (Some fork) = with_flight m id fork

module _ {Pool Seat : Type 0} (W : World Pool Seat) where
  -- The machine `new` is what a guest's turn has left. With what the turn came to, and the fork of the clone that it has begun, if any, it is a turn of the machine `old`.
  abbrev pub TookBy : Machine Pool Seat → Machine Pool Seat → ℕ → ℕ → Done → Option (Fork Pool Seat) → Turned → Type 0
  TookBy old new id line done begun Rests = Took W old new done Rested
  TookBy old new id line done begun Moves = Took W old new done Moved
  TookBy old new id line done begun (Did r) = Took W old (with_begun new id begun) done (Entered (record { entry = Line id line; reply = r }))
  TookBy old new id line done begun Ends = ⊥

  abbrev pub TookByOrLacked : Machine Pool Seat → Machine Pool Seat → State → ℕ → ℕ → Done → Option (Fork Pool Seat) → Result Turned NoMemory → Type 0
  TookByOrLacked old new st id line done begun (Ok t) = TookBy old new id line done begun t
  TookByOrLacked old new st id line done begun (Err lacks) = Lacked W old new st

  -- the same, or it is at its exit, and nothing has changed
  abbrev pub IsTurn : Machine Pool Seat → Machine Pool Seat → State → ℕ → ℕ → Done → Option (Fork Pool Seat) → Result Turned NoMemory → Type 0
  IsTurn old new st id line done begun (Ok Ends) = (new ≡ old) × IsReadyAt old id Exit
  IsTurn old new st id line done begun (Ok Rests) = TookBy old new id line done begun Rests
  IsTurn old new st id line done begun (Ok Moves) = TookBy old new id line done begun Moves
  IsTurn old new st id line done begun (Ok (Did r)) = TookBy old new id line done begun (Did r)
  IsTurn old new st id line done begun (Err lacks) = Lacked W old new st

  pub is_turn : (old new : Machine Pool Seat) (st : State) (id line : ℕ) (done : Done) (begun : Option (Fork Pool Seat)) (t : Result Turned NoMemory) → TookByOrLacked old new st id line done begun t → IsTurn old new st id line done begun t
  is_turn old new st id line done begun (Ok Ends) k = absurd k
  is_turn old new st id line done begun (Ok Rests) k = k
  is_turn old new st id line done begun (Ok Moves) k = k
  is_turn old new st id line done begun (Ok (Did r)) k = k
  is_turn old new st id line done begun (Err lacks) k = k

  -- a turn of the machine midway, behind which nothing was shared, is one of the machine before
  module _ (old mid new : Machine Pool Seat) (script : mid.script ≡ old.script) (shares : W.shares mid.pool ≡ W.shares old.pool) (st : State) (id line : ℕ) (done : Done) (begun : Option (Fork Pool Seat)) where
    pub from_mid : (n : ℕ) → n ≡ line → (t : Result Turned NoMemory) → TookByOrLacked mid new st id n done begun t → TookByOrLacked old new st id line done begun t
    from_mid n e t k = by t (subst (λ (v : ℕ). TookByOrLacked mid new st id v done begun t) e k) where
      by : (t : Result Turned NoMemory) → TookByOrLacked mid new st id line done begun t → TookByOrLacked old new st id line done begun t
      by (Ok Rests) k = took_from W old mid new done Rested script shares k
      by (Ok Moves) k = took_from W old mid new done Moved script shares k
      by (Ok (Did r)) k = took_from W old mid (with_begun new id begun) done (Entered (record { entry = Line id line; reply = r })) script shares k
      by (Ok Ends) k = absurd k
      by (Err lacks) k = record { stands = k.stands; script = k.script ∙ script; shares = k.shares ∙ shares }
