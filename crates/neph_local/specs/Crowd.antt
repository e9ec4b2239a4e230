-- The memories of many domains in one pool.
use Rattle.std.specs.Prelude.{◌≡◌, ℕ, List, slice_get, Some}
use Rattle.neph_pool.specs.World.{World}
use Rattle.neph_memory.specs.declared.dom_local.DomLocal.{DomLocal}
use Rattle.neph_memory.specs.Domains.{IsStanding}

-- each of them stands in the pool
abbrev pub AllStand : {Pool Seat : Type 0} → World Pool Seat → Pool → List (DomLocal Pool Seat)
    → Type 0
AllStand {Pool} {Seat} W p ds =
    (i : ℕ) (d : DomLocal Pool Seat) → slice_get ds i ≡ Some d → IsStanding W p d

-- no two have one id
abbrev pub HaveOwnIds : {Pool Seat : Type 0} → List (DomLocal Pool Seat) → Type 0
HaveOwnIds {Pool} {Seat} ds = (i j : ℕ) (d e : DomLocal Pool Seat)
    → slice_get ds i ≡ Some d → slice_get ds j ≡ Some e → d.id ≡ e.id → i ≡ j
