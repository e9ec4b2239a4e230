-- How the lists are kept.
use Rattle.std.specs.Prelude.{◌≡◌, ◌≤◌, length}
use Rattle.std.specs.Vec.{vec_capacity}
use Rattle.neph_heap.specs.Lists.{Lists}
use Rattle.neph_heap.specs.declared.stock.Stock.TheInside.{Inside}

-- the lists that are kept so
abbrev pub lists_of : Inside → Lists
lists_of a = record { free = a.free.items; exposed = a.exposed.items; aside = a.aside.items }

-- each id has a place, and every frame has room among the free ones
pub record HasRoom (a : Inside) : Type 0 where
  pub room : 16384 ≤ vec_capacity a.free
  pub domains : length a.exposed.items ≡ 64
  pub children : length a.aside.items ≡ 64
