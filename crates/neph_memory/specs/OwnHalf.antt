-- What a domain's memory in a pool means to the plain machine: the pages, the map and the leaf
-- tables of an own half.
use Rattle.std.specs.Prelude.{◌≡◌, ◌<◌, ◌≤◌, ◌^◌, ℕ, true, List, length, slice_index_or, is_some, None}
use Rattle.std.specs.declared.option.Option.{Option}
use Rattle.std.specs.Ordering.{nat_cmp}
use Rattle.std.specs.FinMap as map
use Rattle.neph_base.specs.declared.sizes.TheConstants.{TABLE_ENTRIES}
use Rattle.neph_model.specs.declared.memory.Mapping.{Mapping}
use Rattle.neph_pool.specs.Handing.{AreDistinct}
use Rattle.neph_pool.specs.World.{World}
use Rattle.neph_gmap.specs.GuestPages.{has_number}
use Rattle.neph_memory.specs.declared.dom_local.DomLocal.{DomLocal}
use Rattle.neph_memory.specs.Domains.{domain_page, domain_mapping, domain_leaf}

-- So many pages, of these bytes where they are the domain's own, virtual pages that map so, and
-- these leaf tables are the parts of an own half.
pub record IsReadAs (number : ℕ) (page_at : ℕ → Option (List ℕ)) (maps_to : ℕ → Option Mapping)
    (leaf_at : ℕ → Option ℕ) (pages : List (Option (List ℕ))) (vmap : map.FinMap nat_cmp Mapping)
    (leaves : List ℕ) : Type 0 where
  pub count : length pages ≡ number
  pub page : (q : ℕ) → slice_index_or pages q None ≡ page_at q
  -- no virtual page from 2 ^ 18 on is mapped
  pub mapping : (v : ℕ) → v < 2 ^ 18 → map.get vmap v ≡ maps_to v
  pub past : (v : ℕ) → 2 ^ 18 ≤ v → map.get vmap v ≡ None
  -- each group of virtual pages that has a leaf table is there once
  pub group : (g : ℕ) → g < TABLE_ENTRIES → has_number g leaves ≡ is_some (leaf_at g)
  pub low : (g : ℕ) → has_number g leaves ≡ true → g < TABLE_ENTRIES
  pub once : AreDistinct leaves

-- the domain's memory means these pages, this map of virtual pages and these leaf tables
abbrev pub IsMemoryOf : {Pool Seat : Type 0} → World Pool Seat → Pool → DomLocal Pool Seat
    → List (Option (List ℕ)) → map.FinMap nat_cmp Mapping → List ℕ → Type 0
IsMemoryOf W p d = IsReadAs (length d.own.map.pages) (domain_page W p d) (domain_mapping W p d)
    (domain_leaf W p d)
