-- What a guest brings to a call of any hypervisor, and what it has behind it.
use Rattle.std.specs.Prelude.{◌≡◌, ◌/◌, ⊤, ℕ, Bool, is_some, List, Option, None, Some}
use Rattle.neph_base.specs.declared.command.Command.{Command}
use Rattle.neph_base.specs.declared.command.Command.TheVariants as command
use Rattle.neph_base.specs.declared.reply.Reply.{Reply}
use Rattle.neph_base.specs.declared.reply.Reply.TheVariants as reply
use Rattle.neph_base.specs.declared.sizes.TheConstants.{PAGE_BYTES}
use Rattle.neph_model.specs.declared.own.Own.{Own}
use Rattle.neph_model.specs.declared.memory.Mapping.{Mapping}
use Rattle.neph_model.specs.declared.told.Told.{Told}
use Rattle.neph_model.specs.Lent.{PageBack, lent, nothing_lent, with_page_back}
use Rattle.neph_model.specs.Machine.{Shared}
use Rattle.neph_model.specs.Step.{locked, shared_line, shared_commit}
use Rattle.neph_pool.specs.World.{World}
use Rattle.neph_memory.specs.declared.dom_local.DomLocal.{DomLocal}
use Rattle.neph_memory.specs.Domains.{IsStanding, KeepsSeats, KeepsPages, KeepsMap, KeepsLeaves, domain_mapping}
use Rattle.neph_memory.specs.OwnHalf.{IsMemoryOf}
use Rattle.neph_memory.specs.Pages.{frame_at}
use Rattle.neph_local.specs.declared.forking.Fork.{Fork}
use Rattle.neph_local.specs.Copies.{IsChildOf}
use Rattle.neph_local.specs.Forks.{IsForkInHand}

-- the address maps to a page that isn't the domain's own
pub record MeetsAway {Pool Seat : Type 0} (W : World Pool Seat) (p : Pool) (d : DomLocal Pool Seat)
    (addr : ℕ) : Type 0 where
  pub to : Mapping
  pub maps : domain_mapping W p d (addr / PAGE_BYTES) ≡ Some to
  pub away : frame_at d.own.map.pages to.pfn ≡ None

-- the hypervisor may be asked to do the command: it isn't an `exit`, a read is one of a page that
-- isn't the domain's own, and no page comes home by it
abbrev pub MayTrap : {Pool Seat : Type 0} → World Pool Seat → Pool → DomLocal Pool Seat → Command
    → Type 0
MayTrap W p d (command.R addr len) = MeetsAway W p d addr
MayTrap W p d command.Exit = ⊥
MayTrap W p d (command.Ungrant r) = ⊥
MayTrap W p d _ = ⊤

-- from the memory d in the pool p to the memory e in the pool q
module _ {Pool Seat : Type 0} (W : World Pool Seat) (p : Pool) (d : DomLocal Pool Seat) (q : Pool)
    (e : DomLocal Pool Seat) where
  -- The domain has gone on by itself: only its own seat has moved, and each page lies where it did.
  pub record GoesOn : Type 0 where
    pub moves : KeepsSeats W p d q e
    pub stands : IsStanding W q e
    pub id : e.id ≡ d.id
    pub pages : e.own.map.pages ≡ d.own.map.pages

  -- The memory is as it was but for a spare, which there is where it took one.
  pub record TakesSpare (took : Bool) : Type 0 where
    pub spare : took ≡ is_some e.own.spare
    pub own : e.own ≡ record d.own { spare = e.own.spare }
    pub pages : KeepsPages W p d q e
    pub mappings : KeepsMap W p d q e
    pub leaves : KeepsLeaves W p d q e
    pub id : e.id ≡ d.id
    pub root : e.tables.root ≡ d.tables.root
    pub hand : e.hand ≡ d.hand

  -- The command has this reply: it is the row of the definitions on some shared half, to which the
  -- domain's own half lends, and gives nothing back.
  pub record IsRow (c : Command) (r : Reply) : Type 0 where
    pub told : Told
    pub old : Shared
    pub new : Shared
    pub row : (o : Own) → IsMemoryOf W p d o.pages o.vmap o.leaves
        → shared_line old d.id (lent o c) told c ≡ locked new r

  -- The domain's call to take the entry of this reference away has this reply: it is the row of the
  -- definitions on some shared half. A page that it gives back is the domain's own, and all else of
  -- its memory is as it was.
  pub record IsUngranted (r : ℕ) (y : Reply) : Type 0 where
    pub old : Shared
    pub new : Shared
    pub back : Option PageBack
    pub row : (told : Told) → shared_line old d.id nothing_lent told (command.Ungrant r)
        ≡ record { shared = new; reply = y; back = back }
    pub means : (o : Own) → IsMemoryOf W p d o.pages o.vmap o.leaves
        → let n = with_page_back o back in IsMemoryOf W q e n.pages n.vmap n.leaves

  -- the fork of a clone that has begun, if any, is in hand, and the reply tells its child
  abbrev pub IsInHand : Option (Fork Pool Seat) → Reply → Type 0
  IsInHand None r = ⊤
  IsInHand (Some fork) r = IsForkInHand W q e fork × (r ≡ reply.Begun fork.child)

  -- the command, which has begun a clone with this fork, if any, has this reply
  pub record IsAnswered (c : Command) (begun : Option (Fork Pool Seat)) (r : Reply)
      : Type 0 where
    pub row : IsRow c r
    pub hand : IsInHand begun r

-- The fork k of the domain d in the pool p was committed, and has become the child c in the pool q,
-- with this reply: it is the row of the definitions on some shared half.
pub record IsCommitted {Pool Seat : Type 0} (W : World Pool Seat) (p : Pool)
    (d : DomLocal Pool Seat) (k : Fork Pool Seat) (q : Pool) (c : DomLocal Pool Seat) (r : Reply)
    : Type 0 where
  pub stands : IsStanding W q c
  pub born : IsChildOf W p d q c
  pub id : c.id ≡ k.child
  pub old : Shared
  pub new : Shared
  pub begun : List ℕ
  pub row : shared_commit old d.id begun ≡ locked new r
