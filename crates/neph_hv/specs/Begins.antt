-- What the begin of a clone comes to.
use Rattle.std.specs.Prelude.{◌≡◌, ◌++◌, length, slice_set}
use Rattle.neph_base.specs.declared.command.Command.TheVariants as command
use Rattle.neph_base.specs.declared.reply.Refusal.{Refusal}
use Rattle.neph_base.specs.declared.reply.Reply.{Reply}
use Rattle.neph_base.specs.declared.reply.Reply.TheVariants as reply
use Rattle.neph_model.specs.declared.told.Told.TheVariants.{Free}
use Rattle.neph_model.specs.Machine.{guest_at}
use Rattle.neph_model.specs.Step.{locked, shared_line}
use Rattle.neph_model.specs.Trap.{begin_clone}
use Rattle.neph_pool.specs.Names.{without_name}
use Rattle.neph_pool.specs.World.{World}
use Rattle.neph_memory.specs.declared.dom_local.DomLocal.{DomLocal}
use Rattle.neph_memory.specs.Domains.{domain_leaf_count}
use Rattle.neph_local.specs.declared.forking.Fork.{Fork}
use Rattle.neph_local.specs.Forks.{IsForkInHand}
use Rattle.neph_heap.specs.Lists.{exposed_of, aside_of}
use Rattle.neph_hv.specs.declared.begin.Begin.{Begin}
use Rattle.neph_hv.specs.declared.begin.Begin.TheVariants.{Refused, Begun}
use Rattle.neph_hv.specs.declared.hv.Hv.{Hv}
use Rattle.neph_hv.specs.Hv.{lent_leaves, shared_in}

-- from the hypervisor h and the domain d in the pool p to the hypervisor k and the domain e in the
-- pool q
module _ {Pool Seat : Type 0} (W : World Pool Seat) (p : Pool) (h : Hv Pool Seat)
    (d : DomLocal Pool Seat) (q : Pool) (k : Hv Pool Seat) (e : DomLocal Pool Seat) where
  -- the row of `clone`, told how many frames are free, is this answer
  abbrev pub IsCloneRow : Reply → Type 0
  IsCloneRow r = shared_line (shared_in W p h) d.id (lent_leaves (domain_leaf_count W p d))
      (Free (length h.heap.stock.free)) command.Clone ≡ locked (shared_in W q k) r

  -- refused so: nothing has changed
  pub record IsRefused (why : Refusal) : Type 0 where
    pub row : IsCloneRow (reply.Refused why)
    pub same : k ≡ h

  -- begun: the child's seat has so many frames to itself, and as many as its parent has exposed
  -- pages are aside for it
  pub record IsBegun (fork : Fork Pool Seat) : Type 0 where
    pub row : IsCloneRow (reply.Begun fork.child)
    pub child : fork.child ≡ h.registry.tables.next
    pub in_hand : IsForkInHand W q e fork
    pub first : fork.next ≡ 1
    pub free : h.heap.stock.free
        ≡ (k.heap.stock.free ++ aside_of fork.child k.heap.stock) ++ fork.frames.items
    pub aside : length (aside_of fork.child k.heap.stock) ≡ length (exposed_of d.id h.heap.stock)
    pub stock : k.heap.stock ≡ record h.heap.stock {
      free = k.heap.stock.free;
      aside = slice_set h.heap.stock.aside fork.child (aside_of fork.child k.heap.stock);
    }
    pub registry : k.registry ≡ record h.registry {
      tables = begin_clone h.registry.tables d.id (guest_at d.id h.registry.tables);
    }
    pub names : W.names k.heap.seat ≡ without_name (W.names h.heap.seat) fork.child

  abbrev pub IsAnswered : Begin Pool Seat → Type 0
  IsAnswered (Refused why) = IsRefused why
  IsAnswered (Begun fork) = IsBegun fork
