-- What the plain machine keeps.
use Rattle.std.specs.Prelude.{ℕ, ◌≡◌, ◌+◌, ◌<◌, ◌≤◌, true, length, IfSome}
use Rattle.std.specs.FinMap as map
use Rattle.neph_model.specs.declared.script.Script.{Script}
use Rattle.neph_model.specs.declared.memory.Mapping.{Mapping}
use Rattle.neph_model.specs.declared.life.Guest.{Guest}
use Rattle.neph_model.specs.declared.own.Own.{Own}
use Rattle.neph_model.specs.Machine.{Machine, own_at, is_live, guest_at}
use Rattle.neph_model.specs.Laws.{IsApart, IsGranted}
use Rattle.neph_model.specs.WellFormed.{IsWellFormed}

-- each virtual page maps to a page that is there
abbrev pub IsMapped : Own → Type 0
IsMapped o = (v : ℕ) → IfSome (map.get o.vmap v) (λ (to : Mapping). to.pfn < length o.pages)

-- the own half of a live domain: its pages are there, and its line and its tables are within their
-- bounds
pub record IsSoundOwn (o : Own) : Type 0 where
  pub pages_low : 8 ≤ length o.pages
  pub pages_high : length o.pages ≤ 1024
  pub mapped : IsMapped o
  pub alone : length o.alone ≡ length o.pages
  pub line : o.line ≤ 512
  pub leaves : length o.leaves ≤ 2 + o.line

-- a live domain with this own half, of which that is kept: each commit of a clone that it has begun
-- leaves it within its program
pub record IsSoundDomain (o : Own) (g : Guest) : Type 0 where
  pub own : IsSoundOwn o
  pub commits : o.line + length g.begun ≤ 512

-- each id from 0 to 63 has a place, each page is in one half alone, each entry of a grant table names
-- an exposed page, and each live domain is sound
pub record IsSound (s : Script) (m : Machine) : Type 0 where
  pub formed : IsWellFormed s
  pub places : length m.own ≡ 64
  pub exposed : length m.shared.pages ≡ 64
  pub apart : IsApart m
  pub granted : IsGranted m
  pub each : (id : ℕ) → is_live id m.shared.lives ≡ true
      → IsSoundDomain (own_at id m.own) (guest_at id m.shared.tables)
