-- How far a start has come.
use Rattle.std.proofs.Common.{zero, suc, ◌≡◌, ◌≢◌, ◌<◌, ◌≤◌, ◌+◌, ◌^◌, ◌⊎◌, ◌||◌, ◌&&◌, ◌==◌, if◌then◌else◌, inl, inr, ℕ, Bool, true, false, List, [], length, slice_get, slice_index_or, nat_lt, Some, None, IsSome, refl, sym, ap, subst, ◌∙◌, arith, eq-eqb, ne_eqb, Vec, Global, replicate, option_map, ◌-◌}
use Rattle.neph_memory.specs.Pages.{frame_at}
use Rattle.neph_base.specs.declared.command.Mode.TheVariants.{Ro, Rw}
use Rattle.neph_base.specs.declared.command.Mode.{Mode}
use Rattle.neph_model.specs.Start.{start_mode, start_pages, identity_page}
use Rattle.neph_model.specs.Memory.{zero_page, page_with_identity}
use Rattle.std.specs.Option.{SomeIff}
use Rattle.std.proofs.lemmas.Bool.{lt-ltb, ltb-true, le-ltb, ltb-false}
use Rattle.std.specs.declared.option.Option.{Option}
use Rattle.neph_model.specs.declared.memory.Mapping.{Mapping}
use Rattle.neph_pool.specs.declared.entry.Entry.{Entry}
use Rattle.neph_pool.specs.Entries.{hold_at}
use Rattle.neph_pool.specs.World.{World, Moves}
use Rattle.neph_pool.proofs.Rows.{same_or_not}
use Rattle.neph_ptab.specs.declared.walk.Walk.{Walk}
use Rattle.neph_ptab.specs.declared.walk.Walk.TheVariants.{None as Unmapped, Local, Exposed}
use Rattle.neph_ptab.specs.Tables.{leaf_at, walk_at}
use Rattle.neph_gmap.specs.declared.page.Page.{Page}
use Rattle.neph_gmap.specs.declared.page.Page.TheVariants.{Exposed as Away}
use Rattle.neph_gmap.specs.GuestPages.{vpns_at}
use Rattle.neph_memory.specs.declared.own.Own.{Own}
use Rattle.neph_memory.proofs.Places.{some_same, page_in_at}
use Rattle.neph_memory.proofs.Making.{made_as, to_rest, from_rest}
use Rattle.neph_memory.specs.Memory.{mode_of, mapping, pfn_by, wanted_by, vpn_mapping, bytes_for, is_marked, page_bytes, LeadsTo, IsMade}
use Rattle.neph_memory.specs.Building.{IsAmong, Rest, Builds}
use Rattle.neph_local.specs.Starts.{StartsTo, start_mapping, starts_local, start_bytes}

some_none : (x : ℕ) (b : Bool) → mapping (Some x) b ≡ None → ⊥
some_none x b e = cc

module _ (es : List (Option Entry)) (root : ℕ) (o : Own) (A : ℕ → Type 0) (m : IsMade es root o A) where
  unmapped_by : (w : Walk) → LeadsTo es o w → mapping (pfn_by o.map.pages w) (wanted_by w) ≡ None → w ≡ Unmapped
  unmapped_by Unmapped l e = refl
  unmapped_by (Local f b c) l e = absurd (some_none l.0.0 (b || c) (sym (ap (λ (x : Option ℕ). mapping x (b || c)) (page_in_at o.map.pages l.0.0 f l.0.1 (λ q h. m.apart q l.0.0 f h l.0.1))) ∙ e))
  unmapped_by (Exposed p b) l e = absurd (some_none p b e)

  pub unmapped : (u : ℕ) → u < 2 ^ 18 → vpn_mapping es root o.map.pages u ≡ None → walk_at es root u ≡ Unmapped
  unmapped u lt e = unmapped_by (walk_at es root u) (m.walks u lt) e

abbrev pub showing : ℕ → Bool → Option Mapping
showing n b = if b then Some (record { pfn = n; mode = start_mode n }) else None

shown_past : (n : ℕ) → start_mapping n n ≡ None
shown_past n = ap (showing n) (le-ltb n n (omega arith))

pub starts_none : (es : List (Option Entry)) (root : ℕ) (o : Own) (A : ℕ → Type 0) (a n : ℕ) → IsMade es root o A → StartsTo es root o a n → n < 2 ^ 18 → walk_at es root n ≡ Unmapped
starts_none es root o A a n m s lt = unmapped es root o A m n lt (s.shows n lt ∙ shown_past n)

-- the same pages and walks
pub starts_same : (es fs : List (Option Entry)) (root : ℕ) (o : Own) (a n : ℕ) → StartsTo es root o a n → ((u : ℕ) → u < 2 ^ 18 → vpn_mapping fs root o.map.pages u ≡ vpn_mapping es root o.map.pages u)
    → ((q : ℕ) → page_bytes fs o.map.pages q ≡ page_bytes es o.map.pages q) → StartsTo fs root o a n
starts_same es fs root o a n s shows bytes = record {
  waits = s.waits;
  unlisted = s.unlisted;
  shows = λ u lt. shows u lt ∙ s.shows u lt;
  bytes = λ q. bytes q ∙ s.bytes q;
  alone = s.alone;
}

-- one more page has a frame
abbrev pub starting : Bool → Option (List ℕ)
starting b = if b then Some zero_page else None

bytes_more : (a q : ℕ) → q ≢ a → start_bytes a q ≡ start_bytes (a + 1) q
bytes_more a q n = ap (λ (b : Bool). starting (b && starts_local q)) (by_case (nat_lt q a) refl) where
  by_case : (x : Bool) → nat_lt q a ≡ x → nat_lt q a ≡ nat_lt q (a + 1)
  by_case true e = let l = ltb-true q a e in e ∙ sym (lt-ltb q (a + 1) (omega (arith, l)))
  by_case false e = let l = ltb-false q a e in e ∙ sym (le-ltb q (a + 1) (omega (arith, l, n)))

or_true : (b : Bool) → (b || true) ≡ true
or_true true = refl
or_true false = refl

local_start : (n : ℕ) → (n ≡ 0) ⊎ (4 ≤ n) → starts_local n ≡ true
local_start n (inl e) = ap (λ (b : Bool). b || nat_lt 3 n) (eq-eqb n 0 e)
local_start n (inr h) = ap (λ (b : Bool). (n == 0) || b) (lt-ltb 3 n (omega (arith, h))) ∙ or_true (n == 0)

not_local : (n : ℕ) → 0 < n → n < 4 → starts_local n ≡ false
not_local n l h = ap (λ (b : Bool). b || nat_lt 3 n) (ne_eqb n 0 (λ e. omega (arith, e, l))) ∙ le-ltb 3 n (omega (arith, h))

bytes_new : (a : ℕ) → starts_local a ≡ true → start_bytes (a + 1) a ≡ Some zero_page
bytes_new a e = ap (λ (b : Bool). starting (b && starts_local a)) (lt-ltb a (a + 1) (omega arith)) ∙ ap starting e

and_false : (b c : Bool) → c ≡ false → (b && c) ≡ false
and_false true c h = h
and_false false c h = refl

bytes_skip : (a q : ℕ) → starts_local a ≡ false → start_bytes a q ≡ start_bytes (a + 1) q
bytes_skip a q e = by_case (same_or_not q a) where
  by_case : (q ≡ a) ⊎ (q ≢ a) → start_bytes a q ≡ start_bytes (a + 1) q
  by_case (inl d) = ap starting (and_false (nat_lt q a) (starts_local q) (ap starts_local d ∙ e)) ∙ sym (ap starting (and_false (nat_lt q (a + 1)) (starts_local q) (ap starts_local d ∙ e)))
  by_case (inr n) = bytes_more a q n

pub starts_placed : (es fs : List (Option Entry)) (root top : ℕ) (o o' : Own) (a n : ℕ) → StartsTo es root o a n → (a ≡ 0) ⊎ (4 ≤ a) → page_bytes fs o'.map.pages a ≡ Some zero_page
    → ((q : ℕ) → q ≢ a → page_bytes fs o'.map.pages q ≡ page_bytes es o.map.pages q) → ((u : ℕ) → u < 2 ^ 18 → vpn_mapping fs top o'.map.pages u ≡ vpn_mapping es root o.map.pages u)
    → ((q : ℕ) → q ≢ a → slice_get o'.map.pages q ≡ slice_get o.map.pages q) → o'.map.vpns ≡ o.map.vpns → length o'.map.pages ≡ length o.map.pages → is_marked o' a ≡ true → ((q : ℕ) → q ≢ a → is_marked o' q ≡ is_marked o q) → StartsTo fs top o' (a + 1) n
starts_placed es fs root top o o' a n s own new bytes shows others vpns count mark marks = record {
  alone = λ q lt h. mark_by q lt h (same_or_not q a);
  waits = λ q le lt. others q (λ e. omega (arith, e, le)) ∙ s.waits q (omega (arith, le)) (subst (λ (k : ℕ). q < k) count lt);
  unlisted = λ q le. ap (λ (ls : List (List ℕ)). slice_index_or ls q []) vpns ∙ s.unlisted q le;
  shows = λ u lt. shows u lt ∙ s.shows u lt;
  bytes = λ q. by_case q (same_or_not q a);
} where
  mark_by : (q : ℕ) → q < a + 1 → starts_local q ≡ true → (q ≡ a) ⊎ (q ≢ a) → is_marked o' q ≡ true
  mark_by q lt h (inl e) = ap (is_marked o') e ∙ mark
  mark_by q lt h (inr k) = marks q k ∙ s.alone q (omega (arith, k, lt)) h

  by_case : (q : ℕ) → (q ≡ a) ⊎ (q ≢ a) → page_bytes fs o'.map.pages q ≡ start_bytes (a + 1) q
  by_case q (inl e) = ap (page_bytes fs o'.map.pages) e ∙ new ∙ sym (bytes_new a (local_start a own)) ∙ ap (start_bytes (a + 1)) (sym e)
  by_case q (inr k) = bytes q k ∙ s.bytes q ∙ bytes_more a q k

-- a device page has none
pub starts_skipped : (es : List (Option Entry)) (root : ℕ) (o : Own) (a n : ℕ) → StartsTo es root o a n → 0 < a → a < 4 → StartsTo es root o (a + 1) n
starts_skipped es root o a n s l h = record {
  alone = λ q lt k. skip q lt k (same_or_not q a);
  waits = λ q le lt. s.waits q (omega (arith, le)) lt;
  unlisted = s.unlisted;
  shows = s.shows;
  bytes = λ q. s.bytes q ∙ bytes_skip a q (not_local a l h);
} where
  unlike : (b : Bool) → b ≡ true → b ≡ false → ⊥
  unlike b x y = cc

  skip : (q : ℕ) → q < a + 1 → starts_local q ≡ true → (q ≡ a) ⊎ (q ≢ a) → is_marked o q ≡ true
  skip q lt k (inl e) = absurd (unlike (starts_local q) k (ap starts_local e ∙ not_local a l h))
  skip q lt k (inr n) = s.alone q (omega (arith, n, lt)) k

mode_is : (n : ℕ) → mode_of (nat_lt 3 n) ≡ start_mode n
mode_is n = by_case (nat_lt 3 n) refl where
  by_case : (b : Bool) → nat_lt 3 n ≡ b → mode_of b ≡ start_mode n
  by_case true e = let l = ltb-true 3 n e in sym (ap (λ (x : Bool). if x then Ro else Rw) (le-ltb n 4 (omega (arith, l))))
  by_case false e = let l = ltb-false 3 n e in sym (ap (λ (x : Bool). if x then Ro else Rw) (lt-ltb n 4 (omega (arith, l))))

-- one more page is mapped
abbrev mapped_as : ℕ → Mode → Option Mapping
mapped_as n m = Some (record { pfn = n; mode = m })

abbrev shown_at : ℕ → Bool → Option Mapping
shown_at n b = Some (record { pfn = n; mode = mode_of b })

shown_more : (n u : ℕ) (b : Bool) → b ≡ nat_lt 3 n → (if u == n then shown_at n b else start_mapping n u) ≡ start_mapping (n + 1) u
shown_more n u b is = by_case (same_or_not u n) where
  less : (x : Bool) → nat_lt u n ≡ x → u ≢ n → nat_lt u n ≡ nat_lt u (n + 1)
  less true e k = let l = ltb-true u n e in e ∙ sym (lt-ltb u (n + 1) (omega (arith, l)))
  less false e k = let l = ltb-false u n e in e ∙ sym (le-ltb u (n + 1) (omega (arith, l, k)))

  by_case : (u ≡ n) ⊎ (u ≢ n) → (if u == n then shown_at n b else start_mapping n u) ≡ start_mapping (n + 1) u
  by_case (inl e) =
      ap (λ (x : Bool). if x then shown_at n b else start_mapping n u) (eq-eqb u n e)
      ∙ ap (shown_at n) is ∙ ap (λ (k : ℕ). shown_at k (nat_lt 3 k)) (sym e) ∙ ap (mapped_as u) (mode_is u)
      ∙ sym (ap (showing u) (lt-ltb u (n + 1) (omega (arith, e))))
  by_case (inr k) = ap (λ (x : Bool). if x then shown_at n b else start_mapping n u) (ne_eqb u n k) ∙ ap (showing u) (less (nat_lt u n) refl k)

pub starts_put : (es fs : List (Option Entry)) (root top : ℕ) (o o' : Own) (a n : ℕ) (b : Bool) → StartsTo es root o a n → b ≡ nat_lt 3 n
    → ((u : ℕ) → u < 2 ^ 18 → vpn_mapping fs top o'.map.pages u ≡ (if u == n then Some (record { pfn = n; mode = mode_of b }) else vpn_mapping es root o.map.pages u))
    → ((q : ℕ) → page_bytes fs o'.map.pages q ≡ page_bytes es o.map.pages q) → o'.map.pages ≡ o.map.pages → ((q : ℕ) → q ≢ n → vpns_at o'.map q ≡ vpns_at o.map q) → o'.marks ≡ o.marks → StartsTo fs top o' a (n + 1)
starts_put es fs root top o o' a n b s is shows bytes pages lists marks = record {
  alone = λ q lt h. ap (λ (ms : Vec Bool Global). slice_index_or ms.items q false) marks ∙ s.alone q lt h;
  waits = λ q le lt. ap (λ (ps : List Page). slice_get ps q) pages ∙ s.waits q le (subst (λ (ps : List Page). q < length ps) pages lt);
  unlisted = λ q le. lists q (λ e. omega (arith, e, le)) ∙ s.unlisted q (omega (arith, le));
  shows = λ u lt. shows u lt ∙ ap (λ (x : Option Mapping). if u == n then Some (record { pfn = n; mode = mode_of b }) else x) (s.shows u lt) ∙ shown_more n u b is;
  bytes = λ q. bytes q ∙ s.bytes q;
}

-- the build goes on with the frames that wait
module _ {Pool Seat : Type 0} (W : World Pool Seat) where
  pub builds_after : (p : Pool) (s : Seat) (q : Pool) (t : Seat) (id root top : ℕ) (o o' : Own) (xs : List ℕ) → Builds W p s id root o xs → Moves W p s q t → IsMade (W.entries q t) top o' (Rest (W.entries p s) root o)
      → ((g : ℕ) → hold_at (W.entries q t) g ≡ hold_at (W.entries p s) g) → Builds W q t id top o' xs
  builds_after p s q t id root top o o' xs b m made holds = record {
    fits = m.fits;
    names = m.names ∙ b.names;
    made = made_as (W.entries q t) top o' (Rest (W.entries p s) root o) made (IsAmong xs) (from_rest (W.entries p s) root o (IsAmong xs) b.made) (to_rest (W.entries p s) root o (IsAmong xs) b.made);
    sole = λ g h. holds g ∙ b.sole g h;
    once = b.once;
  }

pub starts_leafed : (es fs : List (Option Entry)) (root top : ℕ) (o o' : Own) (a n : ℕ) → o' ≡ o → StartsTo es root o a n → ((u : ℕ) → u < 2 ^ 18 → vpn_mapping fs top o'.map.pages u ≡ vpn_mapping es root o.map.pages u)
    → ((q : ℕ) → page_bytes fs o'.map.pages q ≡ page_bytes es o.map.pages q) → StartsTo fs top o' a n
starts_leafed es fs root top o o' a n e s shows bytes = record {
  alone = subst (λ (x : Own). (q : ℕ) → q < a → starts_local q ≡ true → is_marked x q ≡ true) (sym e) s.alone;
  waits = subst (λ (x : Own). (q : ℕ) → a ≤ q → q < length x.map.pages → slice_get x.map.pages q ≡ Some Away) (sym e) s.waits;
  unlisted = subst (λ (x : Own). (q : ℕ) → n ≤ q → vpns_at x.map q ≡ []) (sym e) s.unlisted;
  shows = λ u lt. shows u lt ∙ s.shows u lt;
  bytes = λ q. bytes q ∙ s.bytes q;
}

pub number_is : (r : Option ℕ) (x : ℕ) (A : Type 0) (n : ℕ) → SomeIff r A n → r ≡ Some x → x ≡ n
number_is None x A n h e = absurd (cc)
number_is (Some y) x A n h e = some_same x y (sym e) ∙ h.1

pub leaf_more : (es fs : List (Option Entry)) (root top i j : ℕ) → (j ≡ i) ⊎ (j ≢ i) → i < 512 → j < i + 1 → IsSome (leaf_at fs top i) → ((k : ℕ) → k < 512 → k ≢ i → leaf_at fs top k ≡ leaf_at es root k)
    → ((k : ℕ) → k < i → IsSome (leaf_at es root k)) → IsSome (leaf_at fs top j)
leaf_more es fs root top i j (inl e) small lt here other was = subst (λ (k : ℕ). IsSome (leaf_at fs top k)) (sym e) here
leaf_more es fs root top i j (inr n) small lt here other was = subst IsSome (sym (other j (omega (arith, small, lt)) n)) (was j (omega (arith, lt, n)))

pub starts_shown : (es fs : List (Option Entry)) (root top : ℕ) (o o' : Own) (a n v p : ℕ) (b : Bool) → StartsTo es root o a n → v ≡ n → p ≡ n → b ≡ nat_lt 3 n
    → ((u : ℕ) → u < 2 ^ 18 → vpn_mapping fs top o'.map.pages u ≡ (if u == v then Some (record { pfn = p; mode = mode_of b }) else vpn_mapping es root o.map.pages u))
    → ((q : ℕ) → page_bytes fs o'.map.pages q ≡ page_bytes es o.map.pages q) → o'.map.pages ≡ o.map.pages → ((q : ℕ) → q ≢ p → vpns_at o'.map q ≡ vpns_at o.map q) → o'.marks ≡ o.marks → StartsTo fs top o' a (n + 1)
starts_shown es fs root top o o' a n v p b s ev ep is shows bytes pages lists marks =
    starts_put es fs root top o o' a n b s is
    (λ u lt. shows u lt ∙ ap (λ (k : ℕ). if u == k then Some (record { pfn = p; mode = mode_of b }) else vpn_mapping es root o.map.pages u) ev ∙ ap (λ (k : ℕ). if u == n then Some (record { pfn = k; mode = mode_of b }) else vpn_mapping es root o.map.pages u) ep)
    bytes pages (λ q k. lists q (λ e. k (e ∙ ep))) marks

some_for : (es : List (Option Entry)) (x : Option ℕ) (b : List ℕ) → bytes_for es x ≡ Some b → IsSome x
some_for es None b e = absurd (cc)
some_for es (Some f) b e = refl

-- the identity page is the domain's own
pub starts_identity : (es : List (Option Entry)) (root : ℕ) (o : Own) (a n : ℕ) → StartsTo es root o a n → 0 < a → IsSome (frame_at o.map.pages 0)
starts_identity es root o a n s lt =
    some_for es (frame_at o.map.pages 0) zero_page (s.bytes 0 ∙ ap (λ (b : Bool). starting (b && starts_local 0)) (lt-ltb 0 a lt))

blank_at : (n i : ℕ) → slice_index_or (replicate n (Some zero_page)) i None ≡ (if nat_lt i n then Some zero_page else None)
blank_at zero i = sym (ap (λ (b : Bool). if b then Some zero_page else None) (le-ltb i 0 (omega arith)))
blank_at (suc n) zero = sym (ap (λ (b : Bool). if b then Some zero_page else None) (lt-ltb 0 (suc n) (omega arith)))
blank_at (suc n) (suc i) = blank_at n i ∙ ap (λ (b : Bool). if b then Some zero_page else None) (same_less (nat_lt i n) refl) where
  same_less : (b : Bool) → nat_lt i n ≡ b → nat_lt i n ≡ nat_lt (suc i) (suc n)
  same_less true e = let l = ltb-true i n e in e ∙ sym (lt-ltb (suc i) (suc n) (omega (arith, l)))
  same_less false e = let l = ltb-false i n e in e ∙ sym (le-ltb (suc i) (suc n) (omega (arith, l)))

-- the bytes of the other pages at the start
later_page : (id pages q : ℕ) → 8 ≤ pages → q ≢ 0 → start_bytes pages q ≡ slice_index_or (start_pages id pages) q None
later_page id pages zero le n = absurd (n refl)
later_page id pages (suc zero) le n = ap starting (and_false (nat_lt 1 pages) (starts_local 1) refl)
later_page id pages (suc (suc zero)) le n = ap starting (and_false (nat_lt 2 pages) (starts_local 2) refl)
later_page id pages (suc (suc (suc zero))) le n = ap starting (and_false (nat_lt 3 pages) (starts_local 3) refl)
later_page id pages (suc (suc (suc (suc i)))) le n = ap starting (and_local (nat_lt (suc (suc (suc (suc i)))) pages)) ∙ ap (λ (b : Bool). starting b) (less (nat_lt (suc (suc (suc (suc i)))) pages) refl) ∙ sym (blank_at (pages - 4) i) where
  and_local : (b : Bool) → (b && starts_local (suc (suc (suc (suc i))))) ≡ b
  and_local true = local_start (suc (suc (suc (suc i)))) (inr (omega arith))
  and_local false = refl

  less : (b : Bool) → nat_lt (suc (suc (suc (suc i)))) pages ≡ b → nat_lt (suc (suc (suc (suc i)))) pages ≡ nat_lt i (pages - 4)
  less true e = let l = ltb-true (suc (suc (suc (suc i)))) pages e in e ∙ sym (lt-ltb i (pages - 4) (omega (arith, l)))
  less false e = let l = ltb-false (suc (suc (suc (suc i)))) pages e in e ∙ sym (le-ltb i (pages - 4) (omega (arith, l, le)))

abbrev numbered : Option (List ℕ) → ℕ → ℕ → ℕ → Option (List ℕ)
numbered x id parent pages = option_map (λ page. page_with_identity page id parent pages) x

pub started_bytes : (f g : ℕ → Option (List ℕ)) (id own parent pages : ℕ) → 8 ≤ pages → own ≡ id → parent ≡ 0 → ((q : ℕ) → f q ≡ start_bytes pages q) → g 0 ≡ numbered (f 0) own parent pages → ((q : ℕ) → q ≢ 0 → g q ≡ f q)
    → (q : ℕ) → g q ≡ slice_index_or (start_pages id pages) q None
unfolding identity_page
started_bytes f g id own parent pages le e h was first other q = by_case (same_or_not q 0) where
  by_case : (q ≡ 0) ⊎ (q ≢ 0) → g q ≡ slice_index_or (start_pages id pages) q None
  by_case (inl z) =
      ap g z ∙ first
      ∙ ap (λ (x : Option (List ℕ)). numbered x own parent pages) (was 0 ∙ ap (λ (b : Bool). starting (b && starts_local 0)) (lt-ltb 0 pages (omega (arith, le))))
      ∙ ap (λ (k : ℕ). numbered (Some zero_page) k parent pages) e ∙ ap (λ (k : ℕ). numbered (Some zero_page) id k pages) h
      ∙ ap (λ (k : ℕ). slice_index_or (start_pages id pages) k None) (sym z)
  by_case (inr n) = other q n ∙ was q ∙ later_page id pages q le n
