-- How far the start of a domain has come.
use Rattle.std.specs.Prelude.{◌≡◌, ◌<◌, ◌≤◌, ◌^◌, ◌||◌, ◌&&◌, ◌==◌, if◌then◌else◌, ℕ, Bool, List, [], length, slice_get, nat_lt, slice_index_or, true, Some, None}
use Rattle.std.specs.declared.option.Option.{Option}
use Rattle.neph_model.specs.declared.memory.Mapping.{Mapping}
use Rattle.neph_model.specs.Memory.{zero_page}
use Rattle.neph_model.specs.Start.{start_mode, start_pages}
use Rattle.neph_pool.specs.World.{World}
use Rattle.neph_pool.specs.declared.entry.Entry.{Entry}
use Rattle.neph_gmap.specs.declared.page.Page.TheVariants.{Exposed as Away}
use Rattle.neph_gmap.specs.GuestPages.{vpns_at}
use Rattle.neph_memory.specs.declared.own.Own.{Own}
use Rattle.neph_memory.specs.declared.dom_local.DomLocal.{DomLocal}
use Rattle.neph_memory.specs.Domains.{domain_page, domain_mapping}
use Rattle.neph_memory.specs.Memory.{vpn_mapping, page_bytes, is_marked}

-- what the virtual page u maps to when the first n pages are mapped
abbrev pub start_mapping : ℕ → ℕ → Option Mapping
start_mapping n u = if nat_lt u n then Some (record { pfn = u; mode = start_mode u }) else None

-- a page that is the domain's own at its start: no device page
abbrev pub starts_local : ℕ → Bool
starts_local q = (q == 0) || nat_lt 3 q

-- the bytes of the page q when the first a pages have their place
abbrev pub start_bytes : ℕ → ℕ → Option (List ℕ)
start_bytes a q = if nat_lt q a && starts_local q then Some zero_page else None

-- the first a pages have their place, and the first n are mapped
pub record StartsTo (es : List (Option Entry)) (root : ℕ) (o : Own) (a n : ℕ) : Type 0 where
  pub waits : (q : ℕ) → a ≤ q → q < length o.map.pages → slice_get o.map.pages q ≡ Some Away
  pub unlisted : (q : ℕ) → n ≤ q → vpns_at o.map q ≡ []
  pub shows : (u : ℕ) → u < 2 ^ 18 → vpn_mapping es root o.map.pages u ≡ start_mapping n u
  pub bytes : (q : ℕ) → page_bytes es o.map.pages q ≡ start_bytes a q
  pub alone : (q : ℕ) → q < a → starts_local q ≡ true → is_marked o q ≡ true

-- the memory of a domain has come so far
abbrev pub HasStarted : {Pool Seat : Type 0} → World Pool Seat → Pool → DomLocal Pool Seat → ℕ → ℕ
    → Type 0
HasStarted W p d a n = StartsTo (W.entries p d.seat) d.tables.root d.own a n

-- the memory of the domain with this id and so many pages, as it is at the start
pub record IsStarted {Pool Seat : Type 0} (W : World Pool Seat) (p : Pool)
    (d : DomLocal Pool Seat) (id pages : ℕ) : Type 0 where
  pub count : length d.own.map.pages ≡ pages
  pub bytes : (q : ℕ) → domain_page W p d q ≡ slice_index_or (start_pages id pages) q None
  pub maps : (u : ℕ) → u < 2 ^ 18 → domain_mapping W p d u ≡ start_mapping pages u
  pub alone : (q : ℕ) → q < pages → starts_local q ≡ true → is_marked d.own q ≡ true
  pub spare : d.own.spare ≡ None
  pub hand : d.hand ≡ None
