-- What the hypervisor's calls leave.
use Rattle.std.specs.Prelude.{◌≡◌, ◌++◌, ℕ, Bool, false, List, [], Option, Some, None, Result, Ok, Err, length, option_to_list}
use Rattle.neph_base.specs.declared.command.Command.{Command}
use Rattle.neph_base.specs.declared.command.Command.TheVariants as command
use Rattle.neph_base.specs.declared.memory.NoMemory.{NoMemory}
use Rattle.neph_base.specs.declared.reply.Reply.{Reply}
use Rattle.neph_base.specs.declared.reply.Reply.TheVariants as reply
use Rattle.neph_model.specs.declared.own.Own.{Own}
use Rattle.neph_model.specs.Births.{end_domain}
use Rattle.neph_model.specs.Lent.{lent}
use Rattle.neph_model.specs.Machine.{Exposed, guest_at}
use Rattle.neph_model.specs.Step.{is_paused, locked, shared_line, shared_commit}
use Rattle.neph_pool.specs.Names.{both_names}
use Rattle.neph_pool.specs.World.{World, Stays}
use Rattle.neph_memory.specs.declared.dom_local.DomLocal.{DomLocal}
use Rattle.neph_memory.specs.OwnHalf.{IsMemoryOf}
use Rattle.neph_local.specs.declared.forking.Fork.{Fork}
use Rattle.neph_local.specs.Forks.{Forks}
use Rattle.neph_rows.specs.Records.{shared_of, without_shares}
use Rattle.neph_heap.specs.Heap.{IsBorn}
use Rattle.neph_hyper.specs.Calls.{Calls}
use Rattle.neph_hv.specs.declared.hv.Hv.{Hv}
use Rattle.neph_hv.specs.Hv.{IsCall, shared_in, lists_ended}
use Rattle.neph_hv.specs.Begins.{IsBegun}
use Rattle.neph_hv.specs.Grants.{HasUngranted}
use Rattle.neph_hv.specs.Serving.{IsServed, MayCommit, told_in}

-- it pauses the domain of an id, by its tables
abbrev pub IsPausing : {Pool Seat : Type 0} → Hv Pool Seat → ℕ → Bool → Type 0
IsPausing h id b = (pages : List Exposed) → b ≡ is_paused id (shared_of h.registry pages)

-- from the hypervisor h in the pool p to the hypervisor k in the pool q
module _ {Pool Seat : Type 0} (W : World Pool Seat) (p : Pool) (h : Hv Pool Seat) (q : Pool)
    (k : Hv Pool Seat) where
  -- its tables but for what domains share, its lists and its names are as they were
  pub record KeepsTables : Type 0 where
    pub registry : without_shares k.registry ≡ without_shares h.registry
    pub stock : k.heap.stock ≡ h.heap.stock
    pub names : W.names k.heap.seat ≡ W.names h.heap.seat

  -- the end of the domain d
  pub record HasEnded (d : DomLocal Pool Seat) : Type 0 where
    pub call : IsCall W p h q k (W.names d.seat)
    pub row : end_domain (shared_in W p h) d.id ≡ shared_in W q k
    pub frames : List ℕ
    pub stock : k.heap.stock ≡ lists_ended h.heap.stock d.id frames
    pub names : W.names k.heap.seat ≡ both_names (W.names h.heap.seat) (W.names d.seat)

  -- and from the domain's memory d to e
  module _ (d e : DomLocal Pool Seat) where
    -- the row of a command with this reply, told how many frames are free
    abbrev pub IsTrapRow : Command → Reply → Type 0
    IsTrapRow c r = (o : Own) → IsMemoryOf W p d o.pages o.vmap o.leaves
        → shared_line (shared_in W p h) d.id (lent o c) (told_in (length h.heap.stock.free) c) c
        ≡ locked (shared_in W q k) r

    -- a command that was done or refused
    pub record HasDone (c : Command) (r : Reply) : Type 0 where
      pub call : IsCall W p h q k (W.names d.seat)
      pub row : IsTrapRow c r
      pub kept : KeepsTables

    -- a clone that has begun, with this fork and this reply
    pub record HasBegun (c : Command) (fork : Fork Pool Seat) (r : Reply) : Type 0 where
      pub call : IsCall W p h q k (W.names d.seat)
      pub clone : c ≡ command.Clone
      pub told : r ≡ reply.Begun fork.child
      pub begun : IsBegun W p h d q k e fork

    -- a clone that found no memory
    pub record HasLacked : Type 0 where
      pub call : IsCall W p h q k (W.names d.seat)
      pub kept : KeepsTables
      pub shared : shared_in W q k ≡ shared_in W p h

    -- a command that has begun a clone with this fork, if any, and was answered so
    abbrev pub HasTrapped : Command → Option (Fork Pool Seat) → Result Reply NoMemory → Type 0
    HasTrapped c None (Ok r) = HasDone c r
    HasTrapped c (Some fork) (Ok r) = HasBegun c fork r
    HasTrapped c None (Err lacks) = HasLacked
    HasTrapped c (Some fork) (Err lacks) = ⊥

    -- a free frame was given, or there is none
    pub record HasSpared (took : Bool) : Type 0 where
      pub call : IsCall W p h q k (W.names d.seat)
      pub none : took ≡ false → h.heap.stock.free ≡ []
      pub free : h.heap.stock.free ≡ k.heap.stock.free ++ option_to_list e.own.spare
      pub stock : k.heap.stock ≡ record h.heap.stock { free = k.heap.stock.free }
      pub registry : k.registry ≡ h.registry
      pub shared : shared_in W q k ≡ shared_in W p h
      pub seat : Stays W q h.heap.seat k.heap.seat
      pub domain : Stays W q d.seat e.seat

    -- the fork has become this child, with this reply
    pub record HasBorn (fork : Fork Pool Seat) (c : DomLocal Pool Seat) (r : Reply) : Type 0 where
      pub row : shared_commit (shared_in W p h) d.id (guest_at d.id h.registry.tables).begun
          ≡ locked (shared_in W q k) r
      pub still : Forks W q e.seat c.seat c.id e.own.map.pages fork.next fork.frames.items
      pub pages : IsBorn h.heap.stock k.heap.stock fork.child

    -- the fork was given back
    pub record HasUnborn : Type 0 where
      pub registry : k.registry ≡ h.registry
      pub stock : k.heap.stock ≡ h.heap.stock
      pub shared : shared_in W q k ≡ shared_in W p h

    abbrev pub IsBornOrNot : Fork Pool Seat → Result (DomLocal Pool Seat × Reply) (Fork Pool Seat)
        → Type 0
    IsBornOrNot fork (Ok made) = HasBorn fork made.0 made.1
    IsBornOrNot fork (Err back) = HasUnborn

    -- a commit of this fork
    pub record HasCommitted (fork : Fork Pool Seat)
        (made : Result (DomLocal Pool Seat × Reply) (Fork Pool Seat)) : Type 0 where
      pub call : IsCall W p h q k (both_names (W.names d.seat) (W.names fork.seat))
      pub names : W.names k.heap.seat ≡ W.names h.heap.seat
      pub born : IsBornOrNot fork made

-- its calls
abbrev pub hv_calls : {Pool Seat : Type 0} → World Pool Seat → Calls Pool Seat (Hv Pool Seat)
hv_calls W = record {
  Pauses = λ h id b. IsPausing h id b;
  Serves = λ p h d. IsServed W p h d;
  MayCommit = λ p h d fork. MayCommit W p h d fork;
  Trapped = λ p h d c q k e begun answer. HasTrapped W p h q k d e c begun answer;
  Ungranted = λ p h d r q k e y. HasUngranted W p h d q k e r y;
  Spared = λ p h d q k e took. HasSpared W p h q k d e took;
  Committed = λ p h d fork q k e made. HasCommitted W p h q k d e fork made;
  Ended = λ p h d q k. HasEnded W p h q k d;
}
