-- What a guest's own half is behind a call on its memory.
use Rattle.std.proofs.Common.{◌≡◌, ◌≢◌, ◌==◌, if◌then◌else◌, OnOk, OnErr, IfOk, IfSome, is_some, Bool, true, false, ◌<◌, ◌^◌, ◌/◌, ◌%◌, ℕ, List, length, IsSome, Some, None, Ok, Err, refl, sym, ap, subst, ◌∙◌, arith}
use Rattle.std.specs.declared.option.Option.{Option}
use Rattle.std.specs.declared.result.Result.{Result}
use Rattle.neph_base.specs.declared.command.Command.{Command}
use Rattle.neph_base.specs.declared.command.Command.TheVariants as command
use Rattle.neph_base.specs.declared.command.Mode.{Mode}
use Rattle.neph_base.specs.declared.command.Mode.TheVariants.{Ro, Rw}
use Rattle.neph_base.specs.declared.memory.NoMemory.{NoMemory}
use Rattle.neph_gmap.specs.declared.page.Page.{Page}
use Rattle.neph_model.specs.declared.memory.Mapping.{Mapping}
use Rattle.neph_base.specs.declared.sizes.TheConstants.{PAGE_BYTES, TABLE_ENTRIES}
use Rattle.neph_model.specs.declared.own.Own.{Own}
use Rattle.neph_pool.specs.declared.entry.Entry.{Entry}
use Rattle.neph_pool.specs.Names.{only_name}
use Rattle.neph_pool.specs.World.{World}
use Rattle.neph_ptab.specs.Tables.{leaf_at}
use Rattle.neph_memory.specs.declared.dom_local.DomLocal.{DomLocal}
use Rattle.neph_memory.specs.declared.own.Own.{Own as Memory}
use Rattle.neph_memory.specs.declared.touch.Touch.{Touch}
use Rattle.neph_memory.specs.declared.write.WriteStep.{WriteStep}
use Rattle.neph_memory.specs.Pages.{frame_at}
use Rattle.neph_memory.specs.Memory.{IsMemory, bytes_for, is_marked}
use Rattle.neph_memory.specs.Steps.{read_answer, IsStepOn, IsWriteStep, page_after_step, hand_after_step}
use Rattle.neph_memory.specs.Mapped.{is_bad_page, IsMapAnswer, leaf_after_map, spare_after_map}
use Rattle.neph_memory.specs.declared.fault.MapFault.{MapFault}
use Rattle.neph_memory.specs.declared.fault.MapFault.TheVariants as fault
use Rattle.neph_memory.specs.declared.touch.Touch.TheVariants as touch
use Rattle.neph_memory.specs.declared.write.Write.{Write}
use Rattle.neph_memory.specs.declared.write.WriteStep.TheVariants as step
use Rattle.neph_memory.specs.Domains.{IsStanding, domain_page, domain_mapping, domain_leaf, KeepsPages, KeepsMap, KeepsLeaves, IsUnchanged, IsSharedPage}
use Rattle.neph_memory.proofs.Standing.{moved_page, moved_shown}
use Rattle.neph_memory.proofs.Rooming.{room_after}
use Rattle.neph_memory.specs.OwnHalf.{IsReadAs}
use Rattle.neph_guest.specs.OwnHalf.{IsOwnMemory}
use Rattle.neph_guest.specs.declared.row.Row.{Row}
use Rattle.neph_guest.specs.Turns.{RowDone, RowDoneOrLacks, IsRowOfMap, HandDone, LookDone, HeldSpare, IsWithoutSpare, IsWriteInHand, memory_step, row_of_write, row_of_read, row_of_unmap, spare_after, turn_of}
use Rattle.neph_memory.proofs.HalfParts.{same}
use Rattle.neph_guest.proofs.HalfRows.{write_row, read_row, map_row, unmap_row}

pub virtual_page : (addr : ℕ) → addr < 2 ^ 30 → addr / PAGE_BYTES < 2 ^ 18
virtual_page addr lt = omega arith

-- from the memory d in the pool p to the memory e in the pool q
module _ {Pool Seat : Type 0} (W : World Pool Seat) (p : Pool) (d : DomLocal Pool Seat) (q : Pool) (e : DomLocal Pool Seat) where
  own_memory : (x : Own) → IsReadAs (length e.own.map.pages) (domain_page W q e) (domain_mapping W q e) (domain_leaf W q e) x.pages x.vmap x.leaves → length x.alone ≡ length x.pages → IsOwnMemory W q e x
  own_memory x r k = record { memory = r; marks = k }

  module _ (u : IsUnchanged W p d q e) where
    pub still_stands : IsStanding W p d → IsStanding W q e
    still_stands h =
        let m : IsMemory (W.entries q e.seat) d.tables.root d.own = subst (λ (es : List (Option Entry)). IsMemory es d.tables.root d.own) (sym u.entries) h.memory in
        let n : IsMemory (W.entries q e.seat) e.tables.root d.own = subst (λ (r : ℕ). IsMemory (W.entries q e.seat) r d.own) (sym u.root) m in record {
          fits = u.fits;
          names = u.names ∙ h.names ∙ ap only_name (sym u.id);
          memory = subst (λ (o : Memory). IsMemory (W.entries q e.seat) e.tables.root o) (sym u.own) n;
          identity = subst (λ (o : Memory). IsSome (frame_at o.map.pages 0)) (sym u.own) h.identity;
          room = room_after (W.entries p d.seat) (W.entries q e.seat) d.tables.root e.tables.root (length d.own.map.pages) (length e.own.map.pages) (W.cap p) (W.cap q) h.room (ap (λ (o : Memory). length o.map.pages) u.own)
              (λ g lt. ap (λ (es : List (Option Entry)). leaf_at es e.tables.root g) u.entries ∙ ap (λ (r : ℕ). leaf_at (W.entries p d.seat) r g) u.root) u.cap;
        }

    pub pages_stay : KeepsPages W p d q e
    pages_stay x = moved_page (W.entries p d.seat) (W.entries q e.seat) d.own e.own x u.entries u.own

    pub map_stays : KeepsMap W p d q e
    map_stays v lt = moved_shown (W.entries p d.seat) (W.entries q e.seat) d.tables.root e.tables.root d.own e.own v u.entries u.root u.own

    pub leaves_stay : KeepsLeaves W p d q e
    leaves_stay g lt = ap (λ (es : List (Option Entry)). leaf_at es e.tables.root g) u.entries ∙ ap (λ (r : ℕ). leaf_at (W.entries p d.seat) r g) u.root

    count_stays : length e.own.map.pages ≡ length d.own.map.pages
    count_stays = ap (λ (o : Memory). length o.map.pages) u.own

    pub half_stays : (o : Own) → IsOwnMemory W p d o → IsOwnMemory W q e o
    half_stays o h = own_memory o
        (same (length d.own.map.pages) (domain_page W p d) (domain_mapping W p d) (domain_leaf W p d) o.pages o.vmap o.leaves h.memory
        (length e.own.map.pages) (domain_page W q e) (domain_mapping W q e) (domain_leaf W q e) count_stays pages_stay map_stays leaves_stay)
        h.marks

    pub read_done : (o : Own) → IsOwnMemory W p d o → (addr len : ℕ) → addr < 2 ^ 30 → (r : Result (List ℕ) Touch)
        → r ≡ read_answer (domain_page W p d) (domain_mapping W p d (addr / PAGE_BYTES)) (addr % PAGE_BYTES) len
        → RowDone (IsOwnMemory W q e) o (command.R addr len) (memory_step o (command.R addr len)) (row_of_read r)
    read_done o h addr len lt r s =
        read_row (length d.own.map.pages) (domain_page W p d) (domain_mapping W p d) (domain_leaf W p d) o h.memory h.marks
        (length e.own.map.pages) (domain_page W q e) (domain_mapping W q e) (domain_leaf W q e) count_stays (IsOwnMemory W q e) own_memory leaves_stay
        (command.R addr len) (addr / PAGE_BYTES) (addr % PAGE_BYTES) len pages_stay map_stays (virtual_page addr lt) r s

  pub write_done : length e.own.map.pages ≡ length d.own.map.pages → KeepsMap W p d q e → KeepsLeaves W p d q e
      → (o : Own) → IsOwnMemory W p d o → (addr : ℕ) (bytes : List ℕ) → addr / PAGE_BYTES < 2 ^ 18 → (s : WriteStep)
      → IsWriteStep (domain_page W p d) (domain_mapping W p d (addr / PAGE_BYTES)) s
      → ((x : ℕ) → domain_page W q e x ≡ page_after_step s (domain_mapping W p d (addr / PAGE_BYTES)) (domain_page W p d) (addr % PAGE_BYTES) bytes x)
      → RowDone (IsOwnMemory W q e) o (command.W addr bytes) (memory_step o (command.W addr bytes)) (row_of_write s)
  write_done count maps leaves o h addr bytes lt s t a =
      write_row (length d.own.map.pages) (domain_page W p d) (domain_mapping W p d) (domain_leaf W p d) o h.memory h.marks
      (length e.own.map.pages) (domain_page W q e) (domain_mapping W q e) (domain_leaf W q e) count (IsOwnMemory W q e) own_memory leaves
      (command.W addr bytes) (addr / PAGE_BYTES) (addr % PAGE_BYTES) bytes maps lt s t a

  pub map_done : IsStanding W p d → length e.own.map.pages ≡ length d.own.map.pages → KeepsPages W p d q e → (o : Own) → IsOwnMemory W p d o → (v pfn : ℕ) (mode : Mode) → v < 2 ^ 18 → (r : Result Unit MapFault)
      → IsMapAnswer (is_bad_page (length d.own.map.pages) pfn mode) (domain_leaf W p d (v / TABLE_ENTRIES)) d.own.spare r
      → OnOk r ((u : ℕ) → u < 2 ^ 18 → domain_mapping W q e u ≡ (if u == v then Some (record { pfn = pfn; mode = mode }) else domain_mapping W p d u))
      → OnOk r ((g : ℕ) → g < TABLE_ENTRIES → domain_leaf W q e g ≡ (if g == v / TABLE_ENTRIES then leaf_after_map (domain_leaf W p d g) d.own.spare else domain_leaf W p d g))
      → OnErr r (e.own ≡ d.own) → OnErr r (W.entries q e.seat ≡ W.entries p d.seat) → e.tables.root ≡ d.tables.root
      → (y : Result Row NoMemory) → IsRowOfMap r y → RowDoneOrLacks (IsOwnMemory W q e) o (command.Map v pfn mode) (memory_step o (command.Map v pfn mode)) y
  map_done stands count pages o h v pfn mode lt r ans maps leafs own entries root y t =
      map_row (length d.own.map.pages) (domain_page W p d) (domain_mapping W p d) (domain_leaf W p d) o h.memory h.marks
      (length e.own.map.pages) (domain_page W q e) (domain_mapping W q e) (domain_leaf W q e) count (IsOwnMemory W q e) own_memory pages v lt
      pfn mode d.own.spare r ans maps leafs (stays r own entries) y t where
        stays : (r : Result Unit MapFault) → OnErr r (e.own ≡ d.own) → OnErr r (W.entries q e.seat ≡ W.entries p d.seat) → OnErr r (((u : ℕ) → u < 2 ^ 18 → domain_mapping W q e u ≡ domain_mapping W p d u) × ((g : ℕ) → g < TABLE_ENTRIES → domain_leaf W q e g ≡ domain_leaf W p d g))
        stays (Ok done) a b = tt
        stays (Err why) a b = (
          λ u l. moved_shown (W.entries p d.seat) (W.entries q e.seat) d.tables.root e.tables.root d.own e.own u b root a,
          λ g l. ap (λ (es : List (Option Entry)). leaf_at es e.tables.root g) b ∙ ap (λ (k : ℕ). leaf_at (W.entries p d.seat) k g) root,
        )

  pub unmap_done : length e.own.map.pages ≡ length d.own.map.pages → KeepsPages W p d q e → KeepsLeaves W p d q e → (o : Own) → IsOwnMemory W p d o → (v : ℕ) → v < 2 ^ 18
      → ((u : ℕ) → u < 2 ^ 18 → domain_mapping W q e u ≡ (if u == v then None else domain_mapping W p d u))
      → RowDone (IsOwnMemory W q e) o (command.Unmap v) (memory_step o (command.Unmap v)) (row_of_unmap (is_some (domain_mapping W p d v)))
  unmap_done count pages leaves o h v lt maps =
      unmap_row (length d.own.map.pages) (domain_page W p d) (domain_mapping W p d) (domain_leaf W p d) o h.memory h.marks
      (length e.own.map.pages) (domain_page W q e) (domain_mapping W q e) (domain_leaf W q e) count (IsOwnMemory W q e) own_memory pages v lt maps leaves

  -- a page that has bytes lies in a frame of the domain's own
  page_lies : (es : List (Option Entry)) (x : Option ℕ) (bytes : List ℕ) → bytes_for es x ≡ Some bytes → IsSome x
  page_lies es None bytes s = absurd (cc)
  page_lies es (Some f) bytes s = refl

  module _ (addr : ℕ) (bytes : List ℕ) (hand : Option Write) (maps : KeepsMap W p d q e) (pages : e.own.map.pages ≡ d.own.map.pages) (lt : addr / PAGE_BYTES < 2 ^ 18) where
    in_hand : (pfn : ℕ) (mode : Mode) (y : Option (List ℕ)) → domain_mapping W p d (addr / PAGE_BYTES) ≡ Some (record { pfn = pfn; mode = mode }) → domain_page W p d pfn ≡ y
        → IsStepOn y (record { pfn = pfn; mode = mode }) step.Copying → e.hand ≡ Some (record { pfn = pfn; at = addr % PAGE_BYTES; bytes = bytes }) → IsWriteInHand W q e addr bytes
    in_hand pfn mode None is at s k = absurd (cc)
    in_hand pfn Ro (Some page) is at s k = absurd (cc)
    in_hand pfn Rw (Some page) is at s k = record {
      pfn = pfn;
      range = lt;
      mapped = maps (addr / PAGE_BYTES) lt ∙ is;
      own = subst (λ (ps : List Page). IsSome (frame_at ps pfn)) (sym pages) (page_lies (W.entries p d.seat) (frame_at d.own.map.pages pfn) page at);
      hand = k;
    }

    copies : (x : Option Mapping) → domain_mapping W p d (addr / PAGE_BYTES) ≡ x → IsWriteStep (domain_page W p d) x step.Copying → e.hand ≡ hand_after_step step.Copying x (addr % PAGE_BYTES) bytes hand → IsWriteInHand W q e addr bytes
    copies None is s k = absurd (cc)
    copies (Some to) is s k = in_hand to.pfn to.mode (domain_page W p d to.pfn) is refl s k

    -- the write in hand behind a step of a write
    pub write_hand : (s : WriteStep) → IsWriteStep (domain_page W p d) (domain_mapping W p d (addr / PAGE_BYTES)) s
        → e.hand ≡ hand_after_step s (domain_mapping W p d (addr / PAGE_BYTES)) (addr % PAGE_BYTES) bytes hand → (s ≡ step.Copying → W.met e.seat ≢ 1)
        → HandDone W q e (command.W addr bytes) hand (turn_of (row_of_write s))
    write_hand step.Done s k met = done (domain_mapping W p d (addr / PAGE_BYTES)) k where
      done : (x : Option Mapping) → e.hand ≡ hand_after_step step.Done x (addr % PAGE_BYTES) bytes hand → e.hand ≡ hand
      done x k = k
    write_hand step.Copying s k met = (copies (domain_mapping W p d (addr / PAGE_BYTES)) refl s k, met refl)
    write_hand step.Unmapped s k met = k
    write_hand step.ReadOnly s k met = k
    write_hand (step.Exposed x) s k met = k

  -- what a step of a write tells of its page
  pub write_look : (addr : ℕ) (bytes : List ℕ) (s : WriteStep)
      → (s ≡ step.Done → IfSome (domain_mapping W p d (addr / PAGE_BYTES)) (λ to. is_marked e.own to.pfn ≡ true))
      → (s ≡ step.Copying → IfSome (domain_mapping W p d (addr / PAGE_BYTES)) (λ to. IsSharedPage W p d to.pfn))
      → (s ≡ step.Copying → e.own ≡ d.own)
      → LookDone W p d e.own (command.W addr bytes) (turn_of (row_of_write s))
  write_look addr bytes step.Done alone shared own = alone refl
  write_look addr bytes step.Copying alone shared own = (own refl, shared refl)
  write_look addr bytes step.Unmapped alone shared own = tt
  write_look addr bytes step.ReadOnly alone shared own = tt
  write_look addr bytes (step.Exposed x) alone shared own = tt

  pub read_hand : (c : Command) (hand : Option Write) (r : Result (List ℕ) Touch) → e.hand ≡ hand → HandDone W q e c hand (turn_of (row_of_read r))
  read_hand c hand (Ok bytes) k = k
  read_hand c hand (Err touch.Unmapped) k = k
  read_hand c hand (Err (touch.Exposed x)) k = k

  pub unmap_hand : (c : Command) (hand : Option Write) (r : Bool) → e.hand ≡ hand → HandDone W q e c hand (turn_of (row_of_unmap r))
  unmap_hand c hand true k = k
  unmap_hand c hand false k = k

  module _ (stays : e.hand ≡ d.hand) where
    pub map_hand : (c : Command) (r : Result Unit MapFault) (y : Result Row NoMemory) → IsRowOfMap r y → IfOk y (λ row. HandDone W q e c d.hand (turn_of row))
    map_hand c (Ok done) y t = subst (λ (z : Result Row NoMemory). IfOk z (λ row. HandDone W q e c d.hand (turn_of row))) (sym t) stays
    map_hand c (Err fault.BadPfn) y t = subst (λ (z : Result Row NoMemory). IfOk z (λ row. HandDone W q e c d.hand (turn_of row))) (sym t) stays
    map_hand c (Err fault.NeedSpare) y t = subst (λ (z : Result Row NoMemory). IfOk z (λ row. HandDone W q e c d.hand (turn_of row))) (sym t) stays
    map_hand c (Err fault.NoMemory) (Ok row) t = absurd t
    map_hand c (Err fault.NoMemory) (Err lacks) t = tt

  module _ (v pfn : ℕ) (mode : Mode) where
    abbrev SpareDone : Result Row NoMemory → Type 0
    SpareDone y = IfOk y (λ row. e.own.spare ≡ spare_after W p d (command.Map v pfn mode) (turn_of row))

    pub map_spare : (r : Result Unit MapFault) (y : Result Row NoMemory) → IsRowOfMap r y → OnErr r (e.own ≡ d.own)
        → OnOk r (e.own.spare ≡ spare_after_map (domain_leaf W p d (v / TABLE_ENTRIES)) d.own.spare) → SpareDone y
    map_spare (Ok done) y t a b = subst SpareDone (sym t) b
    map_spare (Err fault.BadPfn) y t a b = subst SpareDone (sym t) (ap (λ (o : Memory). o.spare) a)
    map_spare (Err fault.NeedSpare) y t a b = subst SpareDone (sym t) (ap (λ (o : Memory). o.spare) a)
    map_spare (Err fault.NoMemory) (Ok row) t a b = absurd t
    map_spare (Err fault.NoMemory) (Err lacks) t a b = tt

  -- a fault has changed nothing
  pub map_err : (r : Result Unit MapFault) (y : Result Row NoMemory) → IsRowOfMap r y → (OnErr r (e.own ≡ d.own)) → OnErr r (W.entries q e.seat ≡ W.entries p d.seat)
      → e.tables.root ≡ d.tables.root → e.id ≡ d.id → e.hand ≡ d.hand → W.cap q ≡ W.cap p → W.fits q e.seat → W.names e.seat ≡ W.names d.seat → OnErr y (IsUnchanged W p d q e)
  map_err (Ok done) y t a b root id hand cap fits names = subst (λ (z : Result Row NoMemory). OnErr z (IsUnchanged W p d q e)) (sym t) tt
  map_err (Err fault.BadPfn) y t a b root id hand cap fits names = subst (λ (z : Result Row NoMemory). OnErr z (IsUnchanged W p d q e)) (sym t) tt
  map_err (Err fault.NeedSpare) y t a b root id hand cap fits names = subst (λ (z : Result Row NoMemory). OnErr z (IsUnchanged W p d q e)) (sym t) tt
  map_err (Err fault.NoMemory) (Ok row) t a b root id hand cap fits names = tt
  map_err (Err fault.NoMemory) (Err lacks) t a b root id hand cap fits names = record { entries = b; own = a; root = root; id = id; hand = hand; cap = cap; fits = fits; names = names }

pub write_lacks : (s : WriteStep) (spare : Option ℕ) → IsWithoutSpare (turn_of (row_of_write s)) spare
write_lacks step.Done spare = tt
write_lacks step.Copying spare = tt
write_lacks step.Unmapped spare = tt
write_lacks step.ReadOnly spare = tt
write_lacks (step.Exposed x) spare = tt

pub read_lacks : (r : Result (List ℕ) Touch) (spare : Option ℕ) → IsWithoutSpare (turn_of (row_of_read r)) spare
read_lacks (Ok bytes) spare = tt
read_lacks (Err touch.Unmapped) spare = tt
read_lacks (Err (touch.Exposed x)) spare = tt

pub unmap_lacks : (r : Bool) (spare : Option ℕ) → IsWithoutSpare (turn_of (row_of_unmap r)) spare
unmap_lacks true spare = tt
unmap_lacks false spare = tt

abbrev LacksSpare : Option ℕ → Result Row NoMemory → Type 0
LacksSpare spare y = IfOk y (λ row. IsWithoutSpare (turn_of row) spare)

pub map_lacks : (bad : Bool) (leaf spare : Option ℕ) (r : Result Unit MapFault) → IsMapAnswer bad leaf spare r → (y : Result Row NoMemory) → IsRowOfMap r y → LacksSpare spare y
map_lacks bad leaf spare (Ok done) ans y t = subst (LacksSpare spare) (sym t) tt
map_lacks bad leaf spare (Err fault.BadPfn) ans y t = subst (LacksSpare spare) (sym t) tt
map_lacks true leaf spare (Err fault.NeedSpare) ans y t = absurd (cc)
map_lacks false None None (Err fault.NeedSpare) ans y t = subst (LacksSpare None) (sym t) refl
map_lacks false None (Some f) (Err fault.NeedSpare) ans y t = absurd ans
map_lacks false (Some leaf) spare (Err fault.NeedSpare) ans y t = absurd ans
map_lacks bad leaf spare (Err fault.NoMemory) ans (Ok row) t = absurd t
map_lacks bad leaf spare (Err fault.NoMemory) ans (Err lacks) t = tt

held_by : (bad : Bool) (leaf spare : Option ℕ) (done : Unit) → IsMapAnswer bad leaf spare (Ok done) → leaf ≡ None → IsSome spare
held_by true leaf spare done ans e = absurd (cc)
held_by false None None done ans e = absurd (cc)
held_by false None (Some f) done ans e = refl
held_by false (Some leaf) spare done ans e = absurd (cc)

-- a `map` that was done without its leaf table held a spare
pub map_held : {Pool Seat : Type 0} (W : World Pool Seat) (p : Pool) (d : DomLocal Pool Seat) (vpn pfn : ℕ) (mode : Mode) → vpn < 2 ^ 18 → (bad : Bool) (r : Result Unit MapFault) → IsMapAnswer bad (domain_leaf W p d (vpn / TABLE_ENTRIES)) d.own.spare r → (y : Result Row NoMemory) → IsRowOfMap r y
    → IfOk y (λ row. HeldSpare W p d (command.Map vpn pfn mode) (turn_of row))
map_held W p d vpn pfn mode lt bad (Ok done) ans y t = subst (λ (z : Result Row NoMemory). IfOk z (λ row. HeldSpare W p d (command.Map vpn pfn mode) (turn_of row))) (sym t) (lt, held_by bad _ d.own.spare done ans)
map_held W p d vpn pfn mode lt bad (Err fault.BadPfn) ans y t = subst (λ (z : Result Row NoMemory). IfOk z (λ row. HeldSpare W p d (command.Map vpn pfn mode) (turn_of row))) (sym t) tt
map_held W p d vpn pfn mode lt bad (Err fault.NeedSpare) ans y t = subst (λ (z : Result Row NoMemory). IfOk z (λ row. HeldSpare W p d (command.Map vpn pfn mode) (turn_of row))) (sym t) tt
map_held W p d vpn pfn mode lt bad (Err fault.NoMemory) ans (Ok row) t = absurd t
map_held W p d vpn pfn mode lt bad (Err fault.NoMemory) ans (Err lacks) t = tt
