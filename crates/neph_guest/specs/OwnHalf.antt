-- What a domain's memory in a pool means to the plain machine: the own half of the domain.
use Rattle.std.specs.Prelude.{◌≡◌, length}
use Rattle.neph_model.specs.declared.own.Own.{Own}
use Rattle.neph_pool.specs.World.{World}
use Rattle.neph_memory.specs.declared.dom_local.DomLocal.{DomLocal}
use Rattle.neph_memory.specs.OwnHalf.{IsMemoryOf}
use Rattle.neph_guest.specs.declared.live.Live.{Live}

-- The domain's memory is that of the own half, which has a mark for each page. Which pages are
-- marked is told by no frame.
pub record IsOwnMemory {Pool Seat : Type 0} (W : World Pool Seat) (p : Pool)
    (d : DomLocal Pool Seat) (o : Own) : Type 0 where
  pub memory : IsMemoryOf W p d o.pages o.vmap o.leaves
  pub marks : length o.alone ≡ length o.pages

-- the guest's line and marks and its memory in the pool are the own half
pub record IsOwnHalf {Pool Seat : Type 0} (W : World Pool Seat) (p : Pool) (l : Live Pool Seat)
    (o : Own) : Type 0 where
  pub line : o.line ≡ l.guest.line
  pub came : o.came ≡ l.guest.came
  pub refused : o.refused ≡ l.guest.failed
  pub own : IsOwnMemory W p l.local o
