-- What the calls of a domain on its grants leave.
use Rattle.std.specs.Prelude.{◌≡◌, ◌<◌, ℕ, true, Option, Some, None, length, slice_set}
use Rattle.neph_base.specs.declared.command.Command.TheVariants as command
use Rattle.neph_base.specs.declared.reply.Reply.{Reply}
use Rattle.neph_model.specs.declared.told.Told.{Told}
use Rattle.neph_model.specs.Lent.{PageBack, nothing_lent}
use Rattle.neph_model.specs.Step.{shared_line}
use Rattle.neph_model.specs.Trap.{exposed_bytes}
use Rattle.neph_pool.specs.World.{World, Stays}
use Rattle.neph_gmap.specs.declared.page.Page.TheVariants.{Local}
use Rattle.neph_memory.specs.declared.dom_local.DomLocal.{DomLocal}
use Rattle.neph_memory.specs.Domains.{domain_page}
use Rattle.neph_memory.specs.Exposed.{PutsPage}
use Rattle.neph_heap.specs.Lists.{exposed_of, frame_in, pages_but}
use Rattle.neph_hv.specs.declared.hv.Hv.{Hv}
use Rattle.neph_hv.specs.Hv.{IsCall, exposed_in, shared_in}

-- from the hypervisor h and the domain d in the pool p to the hypervisor k and the domain e in the
-- pool q
module _ {Pool Seat : Type 0} (W : World Pool Seat) (p : Pool) (h : Hv Pool Seat)
    (d : DomLocal Pool Seat) (q : Pool) (k : Hv Pool Seat) (e : DomLocal Pool Seat) where
  -- The exposed page with this number is the domain's own, in the frame that it lay in, with the
  -- bytes that it had there. All else of the memory and of the hypervisor's lists is as it was.
  pub record Regains (pfn : ℕ) : Type 0 where
    pub inside : pfn < length d.own.map.pages
    pub frame : ℕ
    pub was : frame_in pfn (exposed_of d.id h.heap.stock) ≡ Some frame
    pub stock : k.heap.stock ≡ record h.heap.stock {
      exposed = slice_set h.heap.stock.exposed d.id
          (pages_but pfn (exposed_of d.id h.heap.stock));
    }
    pub page : PutsPage W p d q e pfn (Local frame) true
    pub bytes : domain_page W q e pfn ≡ Some (exposed_bytes (exposed_in W p h) d.id pfn)
    pub spare : e.own.spare ≡ d.own.spare
    pub hand : e.hand ≡ d.hand
    pub id : e.id ≡ d.id
    pub seat : Stays W q d.seat e.seat
    pub names : W.names k.heap.seat ≡ W.names h.heap.seat

  -- this page, if any, is the domain's own again
  abbrev pub HasBack : Option PageBack → Type 0
  HasBack None = (q ≡ p) × (e ≡ d) × (k.heap ≡ h.heap)
  HasBack (Some b) = Regains b.pfn × (b.bytes ≡ exposed_bytes (exposed_in W p h) d.id b.pfn)

  -- an entry was taken away, or the call refused
  pub record HasUngranted (r : ℕ) (y : Reply) : Type 0 where
    pub call : IsCall W p h q k (W.names d.seat)
    pub back : Option PageBack
    pub row : (told : Told) → shared_line (shared_in W p h) d.id nothing_lent told (command.Ungrant r)
        ≡ record { shared = shared_in W q k; reply = y; back = back }
    pub memory : HasBack back
