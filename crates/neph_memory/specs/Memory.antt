-- The memory of a domain, as it stands in the entries of the domain's seat.
use Rattle.std.specs.Prelude.{◌≡◌, ◌≢◌, ◌<◌, ◌≤◌, ◌^◌, ◌+◌, zero, suc, is_some, ◌↔◌, ◌⊎◌, ◌||◌, ◌&&◌, if◌then◌else◌, ℕ, Bool, true, false, List, length, slice_get, slice_index_or, Some, None, IsSome}
use Rattle.std.specs.declared.option.Option.{Option}
use Rattle.neph_base.specs.declared.command.Mode.{Mode}
use Rattle.neph_base.specs.declared.command.Mode.TheVariants.{Ro, Rw}
use Rattle.neph_base.specs.declared.sizes.TheConstants.{MAX_PAGES, TABLE_ENTRIES}
use Rattle.neph_model.specs.declared.memory.Mapping.{Mapping}
use Rattle.neph_pool.specs.declared.entry.Entry.{Entry}
use Rattle.neph_pool.specs.Bytes.{bytes_at}
use Rattle.neph_pool.specs.Entries.{hold_at, is_here, IsOnceAt, IsSoleAt}
use Rattle.neph_pool.specs.Names.{only_name}
use Rattle.neph_pool.specs.World.{World}
use Rattle.neph_ptab.specs.declared.walk.Walk.{Walk}
use Rattle.neph_ptab.specs.declared.walk.Walk.TheVariants.{None as Unmapped, Local, Exposed}
use Rattle.neph_ptab.specs.Tables.{leaf_at, walk_at, IsTable, IsTables}
use Rattle.neph_gmap.specs.declared.page.Page.{Page}
use Rattle.neph_gmap.specs.declared.page.Page.TheVariants.{Exposed as Away}
use Rattle.neph_gmap.specs.GuestPages.{has_number, page_in, vpns_at}
use Rattle.neph_memory.specs.declared.own.Own.{Own}
use Rattle.neph_memory.specs.Pages.{frame_at}

abbrev pub mode_of : Bool → Mode
mode_of b = if b then Rw else Ro

abbrev pub mapping : Option ℕ → Bool → Option Mapping
mapping None b = None
mapping (Some p) b = Some (record { pfn = p; mode = mode_of b })

-- the page to which a walk leads: of a local walk, the first that lies in the frame
abbrev pub pfn_by : List Page → Walk → Option ℕ
pfn_by ps Unmapped = None
pfn_by ps (Local f rw shared) = page_in f ps
pfn_by ps (Exposed p rw) = Some p

-- whether a walk leads to a page that is wanted writable
abbrev pub wanted_by : Walk → Bool
wanted_by Unmapped = false
wanted_by (Local f rw shared) = rw || shared
wanted_by (Exposed p rw) = rw

-- what a virtual page maps to
abbrev pub vpn_mapping : List (Option Entry) → ℕ → List Page → ℕ → Option Mapping
vpn_mapping es root ps v = mapping (pfn_by ps (walk_at es root v)) (wanted_by (walk_at es root v))

abbrev pub bytes_for : List (Option Entry) → Option ℕ → Option (List ℕ)
bytes_for es None = None
bytes_for es (Some f) = Some (bytes_at es f)

-- the bytes of a page that is the domain's own
abbrev pub page_bytes : List (Option Entry) → List Page → ℕ → Option (List ℕ)
page_bytes es ps p = bytes_for es (frame_at ps p)

-- a page is known to be in no other domain
abbrev pub is_marked : Own → ℕ → Bool
is_marked o p = slice_index_or o.marks.items p false

-- the frame is that of a page
abbrev pub IsPageAt : Own → ℕ → Type 0
IsPageAt o f = (p : ℕ) × (frame_at o.map.pages p ≡ Some f)

-- the frame is the spare
abbrev pub IsSpareAt : Own → ℕ → Type 0
IsSpareAt o f = o.spare ≡ Some f

-- A walk leads to a page that lies where the walk says, and may be written at once only where
-- nobody else has it.
abbrev pub LeadsTo : List (Option Entry) → Own → Walk → Type 0
LeadsTo es o Unmapped = Unit {0}
LeadsTo es o (Local f rw shared) =
    IsPageAt o f × (rw ≡ true → IsSoleAt es f) × ((rw && shared) ≡ false)
LeadsTo es o (Exposed p rw) = slice_get o.map.pages p ≡ Some Away

-- Tables and pages stand in these entries. All other entries are the frames of `Waits`.
pub record IsMade (es : List (Option Entry)) (root : ℕ) (o : Own) (Waits : ℕ → Type 0)
    : Type 0 where
  pub tables : IsTables es root
  -- a list of virtual pages and a mark for each page
  pub few : length o.map.pages ≤ MAX_PAGES
  pub lists : length o.map.vpns ≡ length o.map.pages
  pub marks : length o.marks.items ≡ length o.map.pages
  -- each page of its own has one reference of a frame, which no table and no other page has
  pub held : (p f : ℕ) → frame_at o.map.pages p ≡ Some f → IsOnceAt es f
  pub plain : (p f : ℕ) → frame_at o.map.pages p ≡ Some f → IsTable es root f → ⊥
  pub apart : (p q f : ℕ) → frame_at o.map.pages p ≡ Some f → frame_at o.map.pages q ≡ Some f
      → p ≡ q
  -- the marks are exact
  pub sole : (p f : ℕ) → frame_at o.map.pages p ≡ Some f → (is_marked o p ≡ true) ↔ IsSoleAt es f
  -- a frame that waits has one reference, and is no table and no page
  pub once : (f : ℕ) → Waits f → IsOnceAt es f
  pub unused : (f : ℕ) → Waits f → IsTable es root f → ⊥
  pub blank : (p f : ℕ) → Waits f → frame_at o.map.pages p ≢ Some f
  pub only : (f : ℕ) → is_here (hold_at es f) ≡ true
      → IsTable es root f ⊎ (IsPageAt o f ⊎ Waits f)
  -- each walk leads to a page, and the page's list has it
  pub walks : (v : ℕ) → v < 2 ^ 18 → LeadsTo es o (walk_at es root v)
  pub listed : (p v : ℕ) → v < 2 ^ 18 → (has_number v (vpns_at o.map p) ≡ true)
      ↔ (pfn_by o.map.pages (walk_at es root v) ≡ Some p)

-- A domain's memory stands in these entries: the one frame that waits is the spare, which the seat
-- has to itself.
pub record IsMemory (es : List (Option Entry)) (root : ℕ) (o : Own) : Type 0 where
  pub made : IsMade es root o (IsSpareAt o)
  pub spare : (f : ℕ) → IsSpareAt o f → IsSoleAt es f

-- how many leaf tables there are below a place of the root
unfoldable pub leaf_count_below : List (Option Entry) → ℕ → ℕ → ℕ
leaf_count_below es root zero = 0
leaf_count_below es root (suc i) =
    (if is_some (leaf_at es root i) then 1 else 0) + leaf_count_below es root i

-- how many leaf tables there are
abbrev pub leaf_count : List (Option Entry) → ℕ → ℕ
leaf_count es root = leaf_count_below es root TABLE_ENTRIES

-- The seat is the domain's, and the memory stands in its entries. The identity page, page 0, is the
-- domain's own. The cap leaves room for an entry of each page, the root, each leaf table and the
-- spare.
pub record Stands {Pool Seat : Type 0} (W : World Pool Seat) (p : Pool) (s : Seat) (id root : ℕ)
    (o : Own) : Type 0 where
  pub fits : W.fits p s
  pub names : W.names s ≡ only_name id
  pub memory : IsMemory (W.entries p s) root o
  pub identity : IsSome (frame_at o.map.pages 0)
  pub room : length o.map.pages + 2 + leaf_count (W.entries p s) root ≤ W.cap p
