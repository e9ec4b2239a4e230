-- The hypervisor's state in a pool.
use Rattle.std.specs.Prelude.{◌≡◌, ◌++◌, ℕ, Bool, List, []}
use Rattle.neph_model.specs.Lent.{Lent, nothing_lent}
use Rattle.neph_model.specs.Machine.{Exposed, Shared}
use Rattle.neph_pool.specs.Names.{both_names}
use Rattle.neph_pool.specs.World.{World, Spares}
use Rattle.neph_rows.specs.Records.{shared_of}
use Rattle.neph_heap.specs.Heap.{IsHeap, lists_left}
use Rattle.neph_heap.specs.Lists.{Lists}
use Rattle.neph_heap.specs.Pages.{pages_in}
use Rattle.neph_hv.specs.declared.hv.Hv.{Hv}

-- its seat has its frames, and none is loose
abbrev pub IsHv : {Pool Seat : Type 0} → World Pool Seat → Pool → Hv Pool Seat → Type 0
IsHv W p hv = IsHeap W p hv.heap.seat hv.heap.stock []

-- the bytes of the exposed pages
abbrev pub exposed_in : {Pool Seat : Type 0} → World Pool Seat → Pool → Hv Pool Seat → List Exposed
exposed_in W p hv = pages_in (W.entries p hv.heap.seat) hv.heap.stock.exposed

-- its tables and these bytes are the shared half of the plain machine
abbrev pub shared_in : {Pool Seat : Type 0} → World Pool Seat → Pool → Hv Pool Seat → Shared
shared_in W p hv = shared_of hv.registry (exposed_in W p hv)

-- From the hypervisor h in the pool p to the hypervisor k in the pool q its frames are in order,
-- only seats of its names and of these have changed, and nothing was shared.
pub record IsCall {Pool Seat : Type 0} (W : World Pool Seat) (p : Pool) (h : Hv Pool Seat) (q : Pool)
    (k : Hv Pool Seat) (ns : ℕ → Bool) : Type 0 where
  pub hv : IsHv W q k
  pub others : Spares W (both_names (W.names h.heap.seat) ns) p q
  pub shares : W.shares q ≡ W.shares p

-- what a domain with so many leaf tables lends to its clone
abbrev pub lent_leaves : ℕ → Lent
lent_leaves n = record nothing_lent { leaves = n }

-- the lists after the end of a domain whose seat kept these frames: they are free, and so are those
-- of its exposed pages
abbrev pub lists_ended : Lists → ℕ → List ℕ → Lists
lists_ended l id frames = lists_left (record l { free = l.free ++ frames }) id
