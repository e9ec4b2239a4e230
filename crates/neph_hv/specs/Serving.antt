-- What the hypervisor needs of a domain that enters it.
use Rattle.std.proofs.Common.{sym, subst}
use Rattle.std.specs.Prelude.{◌≡◌, ◌<◌, ◌≤◌, ◌/◌, ◌^◌, ⊤, ℕ, Bool, true, [], List, is_some, length, None, Some, slice_get}
use Rattle.std.specs.declared.option.Option.{Option}
use Rattle.std.specs.FinMap as fm
use Rattle.neph_base.specs.declared.command.Command.{Command}
use Rattle.neph_base.specs.declared.command.Command.TheVariants as command
use Rattle.neph_base.specs.declared.sizes.TheConstants.{PAGE_BYTES}
use Rattle.neph_grant.specs.declared.entry.GrantEntry.{GrantEntry}
use Rattle.neph_grant.specs.Table.{Grants}
use Rattle.neph_model.specs.declared.memory.Mapping.{Mapping}
use Rattle.neph_model.specs.declared.told.Told.{Told}
use Rattle.neph_model.specs.declared.told.Told.TheVariants.{Enough, Free}
use Rattle.neph_model.specs.Machine.{guest_at, is_live}
use Rattle.neph_pool.specs.Names.{IsApart}
use Rattle.neph_pool.specs.World.{World}
use Rattle.neph_gmap.specs.declared.page.Page.{Page}
use Rattle.neph_gmap.specs.declared.page.Page.TheVariants.{Exposed}
use Rattle.neph_memory.specs.declared.dom_local.DomLocal.{DomLocal}
use Rattle.neph_memory.specs.declared.room.TheConstants.{MAX_HELD}
use Rattle.neph_memory.specs.Domains.{domain_mapping}
use Rattle.neph_memory.specs.Pages.{frame_at}
use Rattle.neph_local.specs.declared.forking.Fork.{Fork}
use Rattle.neph_heap.specs.Heap.{MayBear}
use Rattle.neph_heap.specs.Lists.{Lists, exposed_of, aside_of, frame_in}
use Rattle.neph_heap.proofs.Heaps.{heap_named}
use Rattle.neph_hyper.specs.Guests.{GoesOn}
use Rattle.neph_hv.specs.declared.hv.Hv.{Hv}
use Rattle.neph_hv.specs.Hv.{IsHv}

-- what a command is told where so many frames are free
abbrev pub told_in : ℕ → Command → Told
told_in free command.Free = Free free
told_in free command.Clone = Free free
told_in free _ = Enough

-- each of these pages of a domain that isn't its own is exposed
abbrev pub HasAway : Lists → ℕ → List Page → Type 0
HasAway stock id pages = (pfn : ℕ) → pfn < length pages → frame_at pages pfn ≡ None
    → is_some (frame_in pfn (exposed_of id stock)) ≡ true

-- a page of a domain is exposed, and isn't its own
pub record IsAway (stock : Lists) (id : ℕ) (pages : List Page) (pfn : ℕ) : Type 0 where
  pub exposed : is_some (frame_in pfn (exposed_of id stock)) ≡ true
  pub away : slice_get pages pfn ≡ Some Exposed

-- each page that an entry of these grants of a domain names is so
abbrev pub HasGranted : Lists → Grants → ℕ → List Page → Type 0
HasGranted stock t id pages = (r : ℕ) (e : GrantEntry) → fm.get t r ≡ Some e → IsAway stock id pages e.pfn

-- a read met what its address maps to, which is an address of the guest's
abbrev pub IsReadMet : {Pool Seat : Type 0} → World Pool Seat → Pool → DomLocal Pool Seat → Command
    → Option Mapping → Type 0
IsReadMet W p d (command.R addr len) met =
    (met ≡ domain_mapping W p d (addr / PAGE_BYTES)) × (addr / PAGE_BYTES < 2 ^ 18)
IsReadMet W p d _ met = ⊤

module _ {Pool Seat : Type 0} (W : World Pool Seat) where
  -- The domain is live. The hypervisor's frames are in order, its seat is another than the
  -- domain's, and it has the pages that aren't the domain's own, among them those that the domain
  -- has granted. The next id is its own still, with nothing put aside.
  pub record IsServed (p : Pool) (h : Hv Pool Seat) (d : DomLocal Pool Seat) : Type 0 where
    pub hv : IsHv W p h
    pub apart : IsApart (W.names h.heap.seat) (W.names d.seat)
    pub away : HasAway h.heap.stock d.id d.own.map.pages
    pub granted : HasGranted h.heap.stock (guest_at d.id h.registry.tables).grants d.id
        d.own.map.pages
    pub cap : MAX_HELD ≤ W.cap p
    pub name : h.registry.tables.next < 64
        → W.names h.heap.seat h.registry.tables.next ≡ true
    pub none : aside_of h.registry.tables.next h.heap.stock ≡ []
    pub live : is_live d.id h.registry.lives ≡ true

  -- The fork is the first clone that the domain, which is live, has begun, and the frames for its
  -- exposed pages are aside.
  pub record MayCommit (p : Pool) (h : Hv Pool Seat) (d : DomLocal Pool Seat) (k : Fork Pool Seat)
      : Type 0 where
    pub hv : IsHv W p h
    pub apart : IsApart (W.names h.heap.seat) (W.names d.seat)
    pub child : IsApart (W.names h.heap.seat) (W.names k.seat)
    pub live : is_live d.id h.registry.lives ≡ true
    pub begun : slice_get (guest_at d.id h.registry.tables).begun 0 ≡ Some k.child
    pub may : MayBear h.heap.stock k.child d.id

  apart_flip : (ms ns : ℕ → Bool) → IsApart ms ns → IsApart ns ms
  apart_flip ms ns a i x y = a i y x

  -- a domain that has gone on by itself is served still
  pub served_on : (h : Hv Pool Seat) (p : Pool) (d : DomLocal Pool Seat) (q : Pool)
      (e : DomLocal Pool Seat) → IsServed p h d → GoesOn W p d q e → IsServed q h e
  served_on h p d q e s g =
      let seat = h.heap.seat in
      let others = g.moves.others in
      let away = apart_flip (W.names seat) (W.names d.seat) s.apart in
      record {
        hv = heap_named W p q seat seat h.heap.stock [] s.hv (others.fits seat s.hv.fits away)
            s.hv.first others.frames (others.entries seat s.hv.fits away);
        apart = subst (IsApart (W.names seat)) (sym g.moves.names) s.apart;
        away = subst (HasAway h.heap.stock e.id) (sym g.pages)
            (subst (λ (i : ℕ). HasAway h.heap.stock i d.own.map.pages) (sym g.id) s.away);
        granted = subst (HasGranted h.heap.stock (guest_at e.id h.registry.tables).grants e.id) (sym g.pages)
            (subst (λ (i : ℕ). HasGranted h.heap.stock (guest_at i h.registry.tables).grants i d.own.map.pages) (sym g.id) s.granted);
        cap = subst (λ (n : ℕ). MAX_HELD ≤ n) (sym others.cap) s.cap;
        name = s.name;
        none = s.none;
        live = subst (λ (i : ℕ). is_live i h.registry.lives ≡ true) (sym g.id) s.live;
      }
