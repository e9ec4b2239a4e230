-- What the turn of a guest comes to, whatever hypervisor it enters.
use Rattle.std.specs.Prelude.{◌≡◌, ◌≢◌, ◌⊎◌, ℕ, Bool, true, false, Option, Some, None, Result, Ok, Err, IfOk, OnErr}
use Rattle.neph_base.specs.declared.command.Command.{Command}
use Rattle.neph_base.specs.declared.command.Command.TheVariants as command
use Rattle.neph_base.specs.declared.memory.NoMemory.{NoMemory}
use Rattle.neph_base.specs.declared.reply.Refusal.TheVariants.{NoFrame}
use Rattle.neph_base.specs.declared.reply.Reply.{Reply}
use Rattle.neph_model.specs.declared.own.Own.{Own}
use Rattle.neph_model.specs.declared.script.Script.{Script}
use Rattle.neph_model.specs.declared.script.Program.{Program}
use Rattle.neph_model.specs.declared.told.Told.TheVariants.{Enough}
use Rattle.neph_model.specs.Lent.{own_behind}
use Rattle.neph_model.specs.Own.{local_step, settle}
use Rattle.neph_model.specs.Programs.{command_in, program_at}
use Rattle.neph_pool.specs.World.{World}
use Rattle.neph_memory.specs.declared.dom_local.DomLocal.{DomLocal}
use Rattle.neph_memory.specs.Domains.{IsStanding, IsUnchanged, KeepsSeats}
use Rattle.neph_local.specs.declared.forking.Fork.{Fork}
use Rattle.neph_hyper.specs.Calls.{Calls}
use Rattle.neph_hyper.specs.Guests.{IsAnswered, IsUngranted, TakesSpare}
use Rattle.neph_guest.specs.declared.live.Live.{Live}
use Rattle.neph_guest.specs.declared.live.Stage.{Stage}
use Rattle.neph_guest.specs.declared.live.Stage.TheVariants.{Ready, Copying, Forking}
use Rattle.neph_guest.specs.declared.row.CopyTurn.{CopyTurn}
use Rattle.neph_guest.specs.declared.row.CopyTurn.TheVariants as copy
use Rattle.neph_guest.specs.declared.row.LocalTurn.{LocalTurn}
use Rattle.neph_guest.specs.declared.row.LocalTurn.TheVariants as turn
use Rattle.neph_guest.specs.declared.turned.Turned.{Turned}
use Rattle.neph_guest.specs.declared.turned.Turned.TheVariants.{Rests, Moves, Did, Ends}
use Rattle.neph_guest.specs.OwnHalf.{IsOwnHalf}
use Rattle.neph_guest.specs.Turns.{TurnDone, HandDone, LookDone, HeldSpare, IsMap, IsLineInHand, IsWithoutSpare, CopyDone, PlaceDone, Settles, spare_after, stage_after, hand_after_copy, stage_after_copy, stage_behind}

-- from the guest l in the pool p to the guest m in the pool q, by itself
module _ {Pool Seat : Type 0} (W : World Pool Seat) (p : Pool) (l : Live Pool Seat) (q : Pool)
    (m : Live Pool Seat) where
  -- only its own seat has moved, and it is who it was
  pub record IsAlone : Type 0 where
    pub moves : KeepsSeats W p l.local q m.local
    pub stands : IsStanding W q m.local
    pub shares : W.shares q ≡ W.shares p
    pub dom : m.guest.dom ≡ l.guest.dom
    pub id : m.local.id ≡ l.local.id

  -- it has tried its line, which has this command, and came to this
  pub record HasTried (program : Program) (c : Command) (t : LocalTurn) : Type 0 where
    pub alone : IsAlone
    pub done : (s : Script) (n : ℕ) (o : Own) → program_at s n ≡ Some program → IsOwnHalf W p l o
        → TurnDone (IsOwnHalf W q m) o c (local_step s n o Enough c) t
    pub hand : HandDone W q m.local c l.local.hand t
    pub look : LookDone W p l.local m.local.own c t
    pub spare : m.local.own.spare ≡ spare_after W p l.local c t
    pub held : HeldSpare W p l.local c t
    pub lacks : IsWithoutSpare t l.local.own.spare
    pub stage : m.guest.stage ≡ stage_after l.guest.stage t
    pub pages : m.local.own.map.pages ≡ l.local.own.map.pages

  -- memory ran out for its `map`, and it is as it was
  pub record HasLacked (c : Command) : Type 0 where
    pub alone : IsAlone
    pub map : IsMap c
    pub memory : IsUnchanged W p l.local q m.local
    pub guest : m.guest ≡ l.guest

  -- it has looked again at its write in hand, which is its line, and came to this
  pub record HasLooked (c : Command) (t : CopyTurn) : Type 0 where
    pub alone : IsAlone
    pub done : (s : Script) (n : ℕ) (o : Own) → IsOwnHalf W p l o
        → CopyDone (IsOwnHalf W q m) o (local_step s n o Enough c) t
    pub place : PlaceDone W p l.local q m.local t
    pub waits : t ≡ copy.LacksFrame → IsLineInHand W q m.local c
    pub guest : t ≡ copy.LacksFrame → m.guest ≡ l.guest
    pub hand : m.local.hand ≡ hand_after_copy l.local.hand t
    pub stage : m.guest.stage ≡ stage_after_copy t

-- from the guest l to the guest m in the pool q
module _ {Pool Seat : Type 0} (W : World Pool Seat) (q : Pool) (l m : Live Pool Seat) where
  -- its line was refused for want of a frame, and a write in hand is given up
  pub record IsBare (r : Reply) : Type 0 where
    pub half : (o : Own) → IsOwnHalf W q l o
        → Settles (IsOwnHalf W q m) (settle o (Err NoFrame)) r
    pub local : m.local ≡ record l.local { hand = None }
    pub stage : m.guest.stage ≡ Ready
    pub dom : m.guest.dom ≡ l.guest.dom

  -- it has gone on behind this reply of the hypervisor
  pub record IsBehind (r : Reply) : Type 0 where
    pub half : (o : Own) (c : Command) → c ≢ command.Exit → IsOwnHalf W q l o
        → IsOwnHalf W q m (own_behind o c r None)
    pub local : m.local ≡ l.local
    pub stage : m.guest.stage ≡ stage_behind l.guest.stage r
    pub dom : m.guest.dom ≡ l.guest.dom

  -- it took a spare frame and is at its line still, or was refused
  abbrev pub SpareDone : Bool → Turned → Type 0
  SpareDone true t = (t ≡ Moves) × (m ≡ l)
  SpareDone false t = (r : Reply) × (t ≡ Did r) × IsBare r

  -- it was answered so
  abbrev pub TrapDone : Result Reply NoMemory → Result Turned NoMemory → Type 0
  TrapDone (Ok r) t = (t ≡ Ok (Did r)) × IsBehind r
  TrapDone (Err lacks) t = (t ≡ Err lacks) × (m ≡ l)

-- from the guest l and the hypervisor h in the pool p to the guest m and the hypervisor k in the
-- pool q
module _ {Pool Seat H : Type 0} (W : World Pool Seat) (C : Calls Pool Seat H) (p : Pool) (h : H)
    (l : Live Pool Seat) (q : Pool) (k : H) (m : Live Pool Seat) where
  -- it has asked for a spare frame, and its memory is `local` behind that
  pub record HasSpared (t : Turned) : Type 0 where
    pub local : DomLocal Pool Seat
    pub took : Bool
    pub stands : IsStanding W q local
    pub spare : TakesSpare W p l.local q local took
    pub spared : C.Spared p h l.local q k local took
    pub after : SpareDone W q (record l { local = local }) m took t

  -- it has asked its line, of this command, and its memory is `local` behind that
  pub record HasTrapped (c : Command) (begun : Option (Fork Pool Seat))
      (t : Result Turned NoMemory) : Type 0 where
    pub local : DomLocal Pool Seat
    pub answer : Result Reply NoMemory
    pub stands : IsStanding W q local
    pub same : IsUnchanged W p l.local q local
    pub row : IfOk answer (λ r. IsAnswered W p l.local q local c begun r)
    pub lacks : OnErr answer (c ≡ command.Clone)
    pub unbegun : OnErr answer (begun ≡ None)
    pub trapped : C.Trapped p h l.local c q k local begun answer
    pub after : TrapDone W q (record l { local = local }) m answer t

  -- it has asked to take an entry of this reference away, and its memory is `local` behind that
  pub record HasUngranted (r : ℕ) (t : Turned) : Type 0 where
    pub local : DomLocal Pool Seat
    pub answer : Reply
    pub stands : IsStanding W q local
    pub row : IsUngranted W p l.local q local r answer
    pub ungranted : C.Ungranted p h l.local r q k local answer
    pub told : t ≡ Did answer
    pub after : IsBehind W q (record l { local = local }) m answer

  -- it has asked its line, of this command, and a clone has begun with this fork, if any
  abbrev pub HasAsked : Command → Option (Fork Pool Seat) → Result Turned NoMemory → Type 0
  HasAsked (command.Ungrant r) begun t = IfOk t (HasUngranted r) × (begun ≡ None) × OnErr t ⊥
  HasAsked c begun t = HasTrapped c begun t

  -- nothing has changed
  pub record HasRested : Type 0 where
    pub pool : q ≡ p
    pub hv : k ≡ h
    pub live : m ≡ l

module _ {Pool Seat H : Type 0} (W : World Pool Seat) (C : Calls Pool Seat H) (p : Pool) (h : H)
    (l : Live Pool Seat) (q : Pool) (k : H) (m : Live Pool Seat) where
  -- what follows on what its line came to by itself, which made it the guest n in the pool o
  abbrev pub LineFollows : Pool → Live Pool Seat → Command → LocalTurn
      → Option (Fork Pool Seat) → Result Turned NoMemory → Type 0
  LineFollows o n c (turn.Did r) begun t =
      (t ≡ Ok (Did r)) × (begun ≡ None) × HasRested W C o h n q k m
  LineFollows o n c turn.Copies begun t =
      (t ≡ Ok Moves) × (begun ≡ None) × HasRested W C o h n q k m
  LineFollows o n c turn.LacksFrame begun t =
      IfOk t (λ did. HasSpared W C o h n q k m did) × (begun ≡ None) × OnErr t ⊥
  LineFollows o n c turn.Asks begun t = HasAsked W C o h n q k m c begun t

  -- it has tried its line by itself, and gone on from there
  pub record HasGone (program : Program) (c : Command) (begun : Option (Fork Pool Seat))
      (t : Result Turned NoMemory) : Type 0 where
    pub mid : Pool
    pub left : Live Pool Seat
    pub turn : LocalTurn
    pub tried : HasTried W p l mid left program c turn
    pub follows : LineFollows mid left c turn begun t

  -- The turn of a guest that is ready for this command: its exit, one that found no memory for its
  -- `map`, or one that it has tried.
  abbrev pub HasDone : Program → Command → Option (Fork Pool Seat) → Result Turned NoMemory
      → Type 0
  HasDone program c begun t =
      ((c ≡ command.Exit) × (t ≡ Ok Ends) × (begun ≡ None) × HasRested W C p h l q k m)
      ⊎ ((OnErr t (HasLacked W p l q m c × (k ≡ h)) × (begun ≡ None) × IfOk t (λ did. ⊥))
      ⊎ ((c ≢ command.Exit) × HasGone program c begun t))

  -- what follows on a look at its write in hand
  abbrev pub CopyFollows : Pool → Live Pool Seat → CopyTurn → Turned → Type 0
  CopyFollows o n (copy.Did r) t = (t ≡ Did r) × HasRested W C o h n q k m
  CopyFollows o n copy.LacksFrame t = HasSpared W C o h n q k m t

  -- the turn of a guest whose write of this line is in hand
  pub record HasCopied (c : Command) (t : Turned) : Type 0 where
    pub mid : Pool
    pub left : Live Pool Seat
    pub turn : CopyTurn
    pub looked : HasLooked W p l mid left c turn
    pub follows : CopyFollows mid left turn t

  -- the turn of a guest that is so far with its line
  abbrev pub StageDone : Program → Command → Stage → Option (Fork Pool Seat)
      → Result Turned NoMemory → Type 0
  StageDone program c Ready begun t = HasDone program c begun t
  StageDone program c Copying begun t =
      IfOk t (λ did. HasCopied c did) × (begun ≡ None) × OnErr t ⊥
  StageDone program c Forking begun t = ⊥

  -- The turn of a guest that runs this program, and has begun a clone with this fork, if any. The
  -- hypervisor told whether it is paused.
  pub record HasTurned (program : Program) (begun : Option (Fork Pool Seat))
      (t : Result Turned NoMemory) : Type 0 where
    pub paused : Bool
    pub told : C.Pauses h l.local.id paused
    pub rests : paused ≡ true → (t ≡ Ok Rests) × (begun ≡ None) × HasRested W C p h l q k m
    pub goes : paused ≡ false
        → StageDone program (command_in program.commands l.guest.line) l.guest.stage begun t
