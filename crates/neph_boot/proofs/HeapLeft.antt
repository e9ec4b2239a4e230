-- What one domain's start leaves of the hypervisor's frames.
use Rattle.std.proofs.Common.{◌≡◌, ℕ, ◌+◌, ◌≤◌, Bool, true, false, cond, List, [], ◌++◌, length, set, refl, sym, ap, subst, ◌∙◌, arith}
use Rattle.std.specs.Prelude.{nat_lt}
use Rattle.std.specs.FinMap as fm
use Rattle.std.specs.Cmp.{nat_cmp_total}
use Rattle.std.specs.Ordering.{nat_cmp}
use Rattle.std.specs.declared.option.Option.{Option}
use Rattle.std.proofs.lemmas.Bool.{eqb-true, ltb-true, ltb-false}
use Rattle.std.proofs.lemmas.List.{length-append, length-map, get_or-set_same, get_or_past}
use Rattle.neph_model.specs.Memory.{zero_page}
use Rattle.neph_model.specs.Machine.{Exposed, exposed_at}
use Rattle.neph_model.specs.Start.{start_exposed}
use Rattle.neph_pool.specs.declared.entry.Entry.{Entry}
use Rattle.neph_pool.specs.Names.{IsApart, only_name, without_name}
use Rattle.neph_pool.specs.World.{World, Moves, Spares}
use Rattle.neph_heap.specs.declared.exposed_frame.ExposedFrame.{ExposedFrame}
use Rattle.neph_heap.specs.Heap.{IsHeap, ArePages}
use Rattle.neph_heap.specs.Lists.{Lists, exposed_of, frames_of}
use Rattle.neph_heap.specs.Pages.{page_map, pages_in}
use Rattle.neph_heap.proofs.Filled.{page_count}
use Rattle.neph_heap.proofs.Heaps.{apart_left, spares_widen, spares_then}
use Rattle.neph_heap.proofs.Maps.{pages_at}
use Rattle.neph_hv.proofs.Sparing.{apart_flip, apart_same, heap_spared, shown_spared}

-- one entry more at most
len_put : (m : Exposed) (k : ℕ) (v : List ℕ) → fm.len (fm.insert m k v) ≤ fm.len m + 1
len_put m k v = rw (fm.len-insert nat_cmp_total m k v) (by (fm.contains_key m k)) where
  by : (b : Bool) → cond b (fm.len m) (fm.len m + 1) ≤ fm.len m + 1
  by true = omega arith
  by false = omega arith

few_start : fm.len start_exposed ≤ 3
few_start =
    let none : Exposed = fm.empty in
    let one = fm.insert none 1 zero_page in
    let two = fm.insert one 2 zero_page in
    omega (arith, fm.len-empty nat_cmp (List ℕ), len_put none 1 zero_page, len_put one 2 zero_page, len_put two 3 zero_page)

pages_long : (es : List (Option Entry)) (xss : List (List ExposedFrame)) → length (pages_in es xss) ≡ length xss
unfolding pages_in
pages_long es xss = length-map xss (page_map es)

-- the device pages of a domain are three at most
few_exposed : (es fs : List (Option Entry)) (old mid : Lists) (id : ℕ) → pages_in fs mid.exposed ≡ set (pages_in es old.exposed) id start_exposed → length old.exposed ≡ 64 → length mid.exposed ≡ 64 → ArePages (exposed_of id mid) → length (exposed_of id mid) ≤ 3
few_exposed es fs old mid id shown long after pages = by (nat_lt id 64) refl where
  by : (b : Bool) → nat_lt id 64 ≡ b → length (exposed_of id mid) ≤ 3
  by true e =
      let lt = ltb-true id 64 e in
      let here : exposed_at id (pages_in fs mid.exposed) ≡ start_exposed = ap (exposed_at id) shown ∙ get_or-set_same (pages_in es old.exposed) id start_exposed fm.empty (omega (arith, pages_long es old.exposed, long, lt)) in
      let count : fm.len start_exposed ≡ length (exposed_of id mid) = ap fm.len (sym here ∙ pages_at fs mid.exposed id) ∙ page_count fs (exposed_of id mid) pages.once in
      omega (arith, count, few_start)
  by false e =
      let none : exposed_of id mid ≡ [] = get_or_past mid.exposed id [] (let le = ltb-false id 64 e in omega (arith, le, after)) in
      let zero = ap (λ (xs : List ExposedFrame). length xs) none in
      omega (arith, zero)

-- the frames that go to them
pub devices_left : (es fs : List (Option Entry)) (old mid : Lists) (id : ℕ) → pages_in fs mid.exposed ≡ set (pages_in es old.exposed) id start_exposed → length old.exposed ≡ 64 → length mid.exposed ≡ 64 → ArePages (exposed_of id mid) → old.free ≡ mid.free ++ frames_of (exposed_of id mid) → length old.free ≤ length mid.free + 3
devices_left es fs old mid id shown long after pages free =
    let few = few_exposed es fs old mid id shown long after pages in
    let all = ap (λ (xs : List ℕ). length xs) free ∙ length-append mid.free (frames_of (exposed_of id mid)) in
    let same : length (frames_of (exposed_of id mid)) ≡ length (exposed_of id mid) = length-map (exposed_of id mid) (λ (x : ExposedFrame). x.frame) in
    omega (arith, few, all, same)

-- the lists, whose frames went to the device pages and then to the domain
pub lists_left : (old mid new : Lists) (id : ℕ) → mid ≡ record old { free = mid.free; exposed = set old.exposed id (exposed_of id mid) } → new ≡ record mid { free = new.free } → (new.exposed ≡ set old.exposed id (exposed_of id new)) × (new.aside ≡ old.aside)
lists_left old mid new id first second =
    let same : exposed_of id new ≡ exposed_of id mid = ap (exposed_of id) second in (
      ap (λ (l : Lists). l.exposed) second ∙ ap (λ (l : Lists). l.exposed) first ∙ ap (λ (xs : List ExposedFrame). set old.exposed id xs) (sym same),
      ap (λ (l : Lists). l.aside) second ∙ ap (λ (l : Lists). l.aside) first,
    )

-- The hypervisor's seat s became t when the device pages were laid, and u when it gave its name id
-- and frames to the seat v, which moved then.
module _ {Pool Seat : Type 0} (W : World Pool Seat) (o p q r : Pool) (s t u v : Seat) (l : Lists) (id : ℕ) where
  -- what is left behind the start of the domain
  pub record IsBehind : Type 0 where
    pub heap : IsHeap W r u l []
    pub shown : pages_in (W.entries r u) l.exposed ≡ pages_in (W.entries q u) l.exposed
    pub names : W.names u ≡ without_name (W.names s) id
    pub spares : Spares W (W.names s) o r

  pub behind : Moves W o s p t → Spares W (W.names t) p q → W.names u ≡ without_name (W.names t) id → W.names v ≡ only_name id → Spares W (W.names v) q r → W.names s id ≡ true → IsHeap W q u l [] → IsBehind
  behind first second left only third named heap = record {
    heap = heap_spared W (W.names v) q r u l [] heap third apart;
    shown = shown_spared W (W.names v) q r u l [] heap third apart;
    names = left ∙ ap (λ (ns : ℕ → Bool). without_name ns id) first.names;
    spares = spares_then W (W.names s) o q r
        (spares_then W (W.names s) o p q first.others (subst (λ (ns : ℕ → Bool). Spares W ns p q) first.names second))
        (spares_widen W (W.names s) (W.names v) q r within third);
  } where
    apart : IsApart (W.names v) (W.names u)
    apart = apart_same (W.names v) (only_name id) (W.names u) only (apart_flip (W.names u) (only_name id) (apart_left (W.names t) (W.names u) id left))

    within : (e : ℕ) → W.names v e ≡ true → W.names s e ≡ true
    within e h = ap (W.names s) (eqb-true e id (sym (ap (λ (ns : ℕ → Bool). ns e) only) ∙ h)) ∙ named
