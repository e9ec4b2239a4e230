-- What each seat of the machine has.
use Rattle.std.proofs.Common.{◌≡◌, ℕ, zero, suc, ◌+◌, ◌<◌, ◌≤◌, ◌⊎◌, inl, inr, List, [], ◌∷◌, ◌++◌, length, length-append, option_to_list, Some, None, sym, ap, ◌∙◌, arith}
use Rattle.std.specs.declared.option.Option.{Option}
use Rattle.neph_base.specs.declared.sizes.TheConstants.{TABLE_ENTRIES}
use Rattle.neph_pool.specs.declared.entry.Entry.{Entry}
use Rattle.neph_pool.specs.declared.entry.Hold.{Hold}
use Rattle.neph_pool.specs.declared.entry.Hold.TheVariants.{Zero, Sole, Counted}
use Rattle.neph_pool.specs.Entries.{hold_at}
use Rattle.neph_ptab.specs.Tables.{leaf_at, IsTable}
use Rattle.neph_gmap.specs.declared.page.Page.{Page}
use Rattle.neph_memory.specs.declared.own.Own.{Own}
use Rattle.neph_memory.specs.Memory.{IsMemory, IsPageAt, IsSpareAt, leaf_count, leaf_count_below}
use Rattle.neph_local.specs.Forks.{IsForking}
use Rattle.neph_heap.specs.Lists.{Lists, exposed_frames, aside_frames}
use Rattle.neph_heap.specs.Heap.{own_frames}
use Rattle.neph_heap.specs.Holds.{Has as HeapHas, HasAt as HeapHasAt}
use Rattle.neph_heap.proofs.Heaps.{times_own}
use Rattle.neph_accounts.specs.Holdings.{times, Holding, HasAt, Has}
use Rattle.neph_accounts.specs.Heaps.{local_frames}
use Rattle.neph_accounts.proofs.Makings.{has_so}
use Rattle.neph_accounts.proofs.Times.{one_at, one_self, one_else, same_or_not, times_cons, times_both}
use Rattle.neph_accounts.proofs.Handable.{distinct_once}
use Rattle.neph_accounts.proofs.Handovers.{among_some}
use Rattle.neph_heap.proofs.Among.{times_among}
use Rattle.neph_machine.specs.Rows.{frames_in}
use Rattle.neph_machine.proofs.Listed.{one_most, one_of, option_some, some_option, option_once, frames_below, below_at, at_below, below_once, below_length, below_none, AreApart, page_frame, frame_page, page_once, shared_frames, shared_done, done_shared, shared_once}

-- the frames of a domain's tables
abbrev pub table_frames : List (Option Entry) → ℕ → List ℕ
table_frames es root = root ∷ frames_below (leaf_at es root) TABLE_ENTRIES

-- what a domain's seat has
abbrev pub domain_holding : List (Option Entry) → ℕ → Own → Holding
domain_holding es root o = record {
  pages = local_frames (frames_in o.map.pages);
  flying = [];
  own = table_frames es root ++ option_to_list o.spare;
  kept = [];
}

-- what the seat of a child in flight has
abbrev pub flight_holding : List Page → ℕ → List ℕ → Holding
flight_holding ps next frames =
    record { pages = []; flying = shared_frames ps next; own = frames; kept = [] }

-- what the hypervisor's seat has
abbrev pub heap_holding : Lists → Holding
heap_holding l = record {
  pages = exposed_frames l.exposed;
  flying = [];
  own = aside_frames l.aside;
  kept = l.free;
}

one_is : (g f : ℕ) → 0 < one_at g f → g ≡ f
one_is g f lt = elim (same_or_not g f) [
  | inl e ↦ e
  | inr n ↦ absurd (omega (arith, lt, one_else g f n))
]

one_few : (g f : ℕ) → one_at g f ≤ 1
one_few g f = elim (same_or_not g f) [
  | inl e ↦ (let s : one_at g f ≡ 1 = ap (λ (y : ℕ). one_at y f) e ∙ one_self f in omega (arith, s))
  | inr n ↦ omega (arith, one_else g f n)
]

-- as many as there are leaf tables
pub leaf_length : (es : List (Option Entry)) (root n : ℕ)
    → length (frames_below (leaf_at es root) n) ≡ leaf_count_below es root n
unfolding leaf_count_below
leaf_length es root zero = below_none (leaf_at es root)
leaf_length es root (suc n) =
    let rest = leaf_length es root n in
    omega (arith, below_length (leaf_at es root) n, rest)

module _ (es : List (Option Entry)) (root : ℕ) (o : Own) (h : IsMemory es root o) where
  abbrev leaves : List ℕ
  leaves = frames_below (leaf_at es root) TABLE_ENTRIES

  abbrev own : List ℕ
  own = table_frames es root ++ option_to_list o.spare

  -- a table, and the spare
  own_is : (f : ℕ)
      → times f own ≡ one_at root f + times f leaves + times f (option_to_list o.spare)
  own_is f = omega (
    arith,
    times_both f (table_frames es root) (option_to_list o.spare),
    times_cons f root leaves,
  )

  table_own : (f : ℕ) → 0 < one_at root f + times f leaves → IsTable es root f
  table_own f lt = elim (one_of (one_at root f) (times f leaves) lt) [
    | inl k ↦ inl (sym (one_is root f k))
    | inr k ↦ (let t = below_at (leaf_at es root) TABLE_ENTRIES f k in inr (t.0, t.1, t.2))
  ]

  own_table : (f : ℕ) → IsTable es root f → 0 < one_at root f + times f leaves
  own_table f t = elim t [
    | inl e ↦ (let s : one_at root f ≡ 1 = ap (λ (y : ℕ). one_at y f) (sym e) ∙ one_self f in omega (arith, s))
    | inr k ↦ (let l = at_below (leaf_at es root) TABLE_ENTRIES k.0 f k.1 k.2 in omega (arith, l))
  ]

  tables_once : (f : ℕ) → one_at root f + times f leaves ≤ 1
  tables_once f =
      one_most (one_at root f) (times f leaves) (one_few root f)
      (below_once (leaf_at es root) TABLE_ENTRIES f
      (λ i j a b x y. h.made.tables.apart i j f a b x y))
      (λ a b. let t = below_at (leaf_at es root) TABLE_ENTRIES f b in
      h.made.tables.below t.0 f t.1 t.2 (sym (one_is root f a)))

  own_once : (f : ℕ) → times f own ≤ 1
  own_once f =
      let k = one_most (one_at root f + times f leaves) (times f (option_to_list o.spare))
      (tables_once f) (option_once o.spare f)
      (λ a b. h.made.unused f (option_some o.spare f b) (table_own f a)) in
      omega (arith, k, own_is f)

  pub own_kind : (f : ℕ) → 0 < times f own → IsTable es root f ⊎ IsSpareAt o f
  own_kind f lt =
      elim (one_of (one_at root f + times f leaves) (times f (option_to_list o.spare)) (omega (arith, lt, own_is f))) [
        | inl k ↦ inl (table_own f k)
        | inr k ↦ inr (option_some o.spare f k)
      ]

  pub kind_own : (f : ℕ) → IsTable es root f ⊎ IsSpareAt o f → 0 < times f own
  kind_own f k = elim k [
    | inl t ↦ (let l = own_table f t in omega (arith, l, own_is f))
    | inr s ↦ (let l = some_option o.spare f s in omega (arith, l, own_is f))
  ]

  own_sole : (f : ℕ) → IsTable es root f ⊎ IsSpareAt o f → hold_at es f ≡ Some Sole
  own_sole f k = elim k [
    | inl t ↦ elim t [
      | inl e ↦ ap (hold_at es) e ∙ h.made.tables.top
      | inr l ↦ h.made.tables.leaves l.0 f l.1 l.2
    ]
    | inr s ↦ h.spare f s
  ]

  pages_once : (f : ℕ) → times f (local_frames (frames_in o.map.pages)) ≤ 1
  pages_once f = page_once o.map.pages (λ p q g a b. h.made.apart p q g a b) f

  apart : (f : ℕ) → 0 < times f (local_frames (frames_in o.map.pages)) → 0 < times f own → ⊥
  apart f a b =
      let t = page_frame o.map.pages f a in
      elim (own_kind f b) [
        | inl k ↦ h.made.plain t.0 f t.1 k
        | inr s ↦ h.made.blank t.0 f s t.1
      ]

  here_named : (f : ℕ) → IsTable es root f ⊎ (IsPageAt o f ⊎ IsSpareAt o f)
      → 0 < times f (local_frames (frames_in o.map.pages)) + times f own
  here_named f k = elim k [
    | inl t ↦ (let l = kind_own f (inl t) in omega (arith, l))
    | inr j ↦ elim j [
      | inl t ↦ (let l = frame_page o.map.pages t.0 f t.1 in omega (arith, l))
      | inr s ↦ (let l = kind_own f (inr s) in omega (arith, l))
    ]
  ]

  -- the seat of a domain whose memory stands
  pub domain_has : Has es (domain_holding es root o)
  domain_has = has_so es (domain_holding es root o) (record {
    once = λ f. (let k = one_most (times f (local_frames (frames_in o.map.pages))) (times f own)
        (pages_once f) (own_once f) (apart f) in omega (arith, k));
    pages = λ f lt. (let t = page_frame o.map.pages f lt in h.made.held t.0 f t.1);
    flying = λ f lt. absurd (omega arith);
    own = λ f lt. own_sole f (own_kind f lt);
    kept = λ f lt. absurd (omega arith);
    only = λ f there. (let k = here_named f (h.made.only f there) in omega (arith, k));
  })

  -- how many frames it has for tables, and a spare
  pub own_length : length own
      ≡ 1 + leaf_count es root + length (option_to_list o.spare)
  own_length = omega (
    arith,
    length-append (table_frames es root) (option_to_list o.spare),
    leaf_length es root TABLE_ENTRIES,
  )

-- the seat of a child in flight
module _ (es ef : List (Option Entry)) (ps : List Page) (next : ℕ) (frames : List ℕ)
    (h : IsForking es ef ps next frames) (alone : AreApart ps) where
  flying_own : (f : ℕ) → 0 < times f (shared_frames ps next) → 0 < times f frames → ⊥
  flying_own f a b =
      let lent = h.lent f (shared_done ps next f a) in
      let sole = h.aside f (times_among f frames b) in
      absurd (let e = sym lent ∙ sole in cc)

  pub flight_has : Has ef (flight_holding ps next frames)
  flight_has = has_so ef (flight_holding ps next frames) (record {
    once = λ f. (let k = one_most (times f (shared_frames ps next)) (times f frames)
        (shared_once ps alone next f) (distinct_once frames h.once f) (flying_own f) in omega (arith, k));
    pages = λ f lt. absurd (omega arith);
    flying = λ f lt. h.lent f (shared_done ps next f lt);
    own = λ f lt. h.aside f (times_among f frames lt);
    kept = λ f lt. absurd (omega arith);
    only = λ f there. elim (h.only f there) [
      | inl d ↦ (let k = done_shared ps next f d in omega (arith, k))
      | inr a ↦ (let k = among_some f frames a in omega (arith, k))
    ];
  })

-- a frame as the hypervisor has it
heap_at : (h : Option Hold) (own pages aside kept : ℕ) → own ≡ pages + aside
    → HeapHasAt h 0 own kept → HasAt h pages 0 aside kept
heap_at None own pages aside kept e k = omega (arith, e, k)
heap_at (Some Zero) own pages aside kept e k = (omega (arith, e, k.0), k.1)
heap_at (Some Sole) own pages aside kept e k = (omega (arith, e, k.0), omega (arith, k.1))
heap_at (Some (Counted n)) own pages aside kept e k = absurd (omega (arith, k.1))

-- the hypervisor's seat
pub heap_has : (es : List (Option Entry)) (l : Lists) → HeapHas es [] (own_frames l []) l.free
    → Has es (heap_holding l)
heap_has es l h f =
    heap_at (hold_at es f) (times f (own_frames l [])) (times f (exposed_frames l.exposed))
    (times f (aside_frames l.aside)) (times f l.free) (omega (arith, times_own f l [])) (h.each f)
