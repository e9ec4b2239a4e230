-- A child's memory is built beside its parent's.
use Rattle.std.specs.Prelude.{◌≡◌, ◌≢◌, ◌<◌, ◌≤◌, ◌/◌, ◌^◌, ◌⊎◌, ℕ, List, [], length, replicate, is_some, option_map, true, None, Some, IsSome}
use Rattle.std.specs.declared.option.Option.{Option}
use Rattle.neph_model.specs.Memory.{page_with_identity}
use Rattle.neph_memory.specs.Memory.{is_marked}
use Rattle.neph_base.specs.declared.sizes.TheConstants.{TABLE_ENTRIES}
use Rattle.neph_pool.specs.declared.entry.Entry.{Entry}
use Rattle.neph_pool.specs.Entries.{hold_at, words_at, IsSoleAt}
use Rattle.neph_pool.specs.Handing.{AreDistinct}
use Rattle.neph_pool.specs.Names.{both_names}
use Rattle.neph_pool.specs.World.{World, Spares, SameCounts}
use Rattle.neph_ptab.specs.Tables.{leaf_at, walk_at, IsTable, IsTables}
use Rattle.neph_gmap.specs.GuestPages.{vpns_at}
use Rattle.neph_memory.specs.declared.dom_local.DomLocal.{DomLocal}
use Rattle.neph_memory.specs.Pages.{frame_at}
use Rattle.neph_memory.specs.Domains.{domain_page, domain_mapping, domain_leaf, IsUnchanged}
use Rattle.neph_memory.specs.Building.{IsAmong}
use Rattle.neph_memory.specs.Shared.{SharedStays, KeepsShared}
use Rattle.neph_gmap.specs.declared.page.Page.TheVariants.{Exposed as Away}
use Rattle.neph_memory.specs.declared.own.Own.{Own}
use Rattle.neph_local.specs.declared.forking.Fork.{Fork}

-- A step from the memories d and c in the pool p to the memories e and k in the pool q: that of the
-- parent is as it was, and so are all other seats and all counts. The child keeps its frames, and
-- the words of those that it shares.
pub record IsChildStep {Pool Seat : Type 0} (W : World Pool Seat) (p : Pool)
    (d c : DomLocal Pool Seat) (q : Pool) (e k : DomLocal Pool Seat) : Type 0 where
  pub parent : IsUnchanged W p d q e
  pub fits : W.fits q k.seat
  pub names : W.names k.seat ≡ W.names c.seat
  pub id : k.id ≡ c.id
  pub hand : k.hand ≡ c.hand
  pub shared : KeepsShared W p c q k
  pub others : Spares W (both_names (W.names d.seat) (W.names c.seat)) p q
  pub counts : SameCounts W p q

-- The seat t in the pool q is the seat s of the pool p: it has the frames that it had, and the
-- words of those that it shares.
pub record KeepsFrames {Pool Seat : Type 0} (W : World Pool Seat) (p : Pool) (s : Seat) (q : Pool)
    (t : Seat) : Type 0 where
  pub fits : W.fits q t
  pub names : W.names t ≡ W.names s
  pub shared : SharedStays (W.entries p s) (W.entries q t)

-- the fork e is the fork k: the same child, the same frames put aside, and as many pages shared
pub record IsSameFork {Pool Seat : Type 0} (W : World Pool Seat) (k e : Fork Pool Seat) : Type 0
  where
    pub child : e.child ≡ k.child
    pub next : e.next ≡ k.next
    pub frames : e.frames.items ≡ k.frames.items
    pub names : W.names e.seat ≡ W.names k.seat

-- so many pages, all exposed and mapped nowhere, and no spare
pub record IsBlank (o : Own) (n : ℕ) : Type 0 where
  pub map : o.map ≡ record { pages = replicate n Away; vpns = replicate n [] }
  pub marks : length o.marks.items ≡ n
  pub spare : o.spare ≡ None

-- The parent's leaf tables before place n have been copied: they stand in its entries es, by the
-- root `top`. The child's entries were cs, with a root and no leaf, and are fs. The frames of
-- `waits` waited, and those of `left` still do: the others are leaf tables. Where the parent has a
-- leaf table, what the parent has to itself the child lacks.
pub record AreCopied (es : List (Option Entry)) (top : ℕ) (cs fs : List (Option Entry)) (root : ℕ)
    (waits left : List ℕ) (n : ℕ) : Type 0 where
  pub tables : IsTables fs root
  pub holds : (g : ℕ) → hold_at fs g ≡ hold_at cs g
  pub words : (g : ℕ) → g ≢ root → (IsAmong waits g → ⊥) → words_at fs g ≡ words_at cs g
  pub there : (i : ℕ) → i < n → is_some (leaf_at fs root i) ≡ is_some (leaf_at es top i)
  pub none : (i : ℕ) → n ≤ i → i < TABLE_ENTRIES → leaf_at fs root i ≡ None
  pub walks : (u : ℕ) → u < 2 ^ 18 → u / TABLE_ENTRIES < n → walk_at fs root u ≡ walk_at es top u
  pub named : (i f : ℕ) → i < TABLE_ENTRIES → leaf_at fs root i ≡ Some f → IsAmong waits f
  pub alone : (i : ℕ) → i < n → IsSome (leaf_at es top i)
      → (g : ℕ) → IsSoleAt es g → hold_at cs g ≡ None
  pub waiting : (g : ℕ) → IsAmong left g → IsAmong waits g
  pub free : (g : ℕ) → IsAmong left g → IsTable fs root g → ⊥
  pub used : (g : ℕ) → IsAmong waits g → IsAmong left g ⊎ IsTable fs root g
  pub once : AreDistinct left

-- The child c has the pages of its parent d but for the identity page, which waits for its frame.
-- It has no leaf table yet.
pub record IsSprout {Pool Seat : Type 0} (W : World Pool Seat) (p : Pool)
    (d c : DomLocal Pool Seat) : Type 0 where
  pub count : length c.own.map.pages ≡ length d.own.map.pages
  pub frames : (x : ℕ) → 1 ≤ x → frame_at c.own.map.pages x ≡ frame_at d.own.map.pages x
  pub bytes : (x : ℕ) → 1 ≤ x → domain_page W p c x ≡ domain_page W p d x
  pub unlisted : (x : ℕ) → vpns_at c.own.map x ≡ []
  pub leaves : (i : ℕ) → i < TABLE_ENTRIES → domain_leaf W p c i ≡ None
  pub maps : (u : ℕ) → u < 2 ^ 18 → domain_mapping W p c u ≡ None

-- The child c in the pool q has from its parent d, as that was in the pool p, all but the bytes of
-- its identity page, which is marked.
pub record IsGrown {Pool Seat : Type 0} (W : World Pool Seat) (p : Pool) (d : DomLocal Pool Seat)
    (q : Pool) (c : DomLocal Pool Seat) : Type 0 where
  pub count : length c.own.map.pages ≡ length d.own.map.pages
  pub frames : (x : ℕ) → 1 ≤ x → frame_at c.own.map.pages x ≡ frame_at d.own.map.pages x
  pub bytes : (x : ℕ) → 1 ≤ x → domain_page W q c x ≡ domain_page W p d x
  pub maps : (u : ℕ) → u < 2 ^ 18 → domain_mapping W q c u ≡ domain_mapping W p d u
  pub leaves : (i : ℕ) → i < TABLE_ENTRIES
      → is_some (domain_leaf W q c i) ≡ is_some (domain_leaf W p d i)
  pub alone : is_marked c.own 0 ≡ true
  pub spare : c.own.spare ≡ None
  pub hand : c.hand ≡ None

-- The child c in the pool q is that of the parent d, as it was in the pool p: it has the parent's
-- frames for its pages, with their bytes, and maps what the parent does. Its identity page alone
-- lies in a frame of its own, with the child's numbers before the parent's bytes.
pub record IsChildOf {Pool Seat : Type 0} (W : World Pool Seat) (p : Pool) (d : DomLocal Pool Seat)
    (q : Pool) (c : DomLocal Pool Seat) : Type 0 where
  pub count : length c.own.map.pages ≡ length d.own.map.pages
  pub frames : (x : ℕ) → 1 ≤ x → frame_at c.own.map.pages x ≡ frame_at d.own.map.pages x
  pub bytes : (x : ℕ) → 1 ≤ x → domain_page W q c x ≡ domain_page W p d x
  pub identity : domain_page W q c 0
      ≡ option_map (λ page. page_with_identity page c.id d.id (length d.own.map.pages))
      (domain_page W p d 0)
  pub maps : (u : ℕ) → u < 2 ^ 18 → domain_mapping W q c u ≡ domain_mapping W p d u
  pub leaves : (i : ℕ) → i < TABLE_ENTRIES
      → is_some (domain_leaf W q c i) ≡ is_some (domain_leaf W p d i)
  pub spare : c.own.spare ≡ None
  pub hand : c.hand ≡ None
