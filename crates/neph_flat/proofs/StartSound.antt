-- The machine at the start of a script is sound.
use Rattle.std.proofs.Common.{◌≡◌, ◌≢◌, ℕ, zero, suc, ◌+◌, ◌-◌, ◌<◌, ◌≤◌, Bool, true, false, cond, not, List, [], ◌∷◌, ◌++◌, length, get_or, replicate, Option, Some, None, All, refl, sym, ap, subst, ◌∙◌, arith}
use Rattle.std.specs.Prelude.{IfSome, is_some}
use Rattle.std.specs.List.{range_with_len}
use Rattle.std.specs.Option.{option_map_or}
use Rattle.std.specs.declared.cmp.Ordering.TheVariants.{Less, Equal, Greater}
use Rattle.std.specs.Ordering.{nat_cmp, eq_by_cmp, is_eq}
use Rattle.std.specs.Cmp.{nat_cmp_total}
use Rattle.std.specs.FinMap as map
use Rattle.std.proofs.lemmas.List.{length-replicate, length-append}
use Rattle.std.proofs.lemmas.List.Elements.{All-nil, All-head, All-tail, All-from_get_or}
use Rattle.neph_model.specs.declared.script.Script.{Script}
use Rattle.neph_model.specs.declared.script.Start.{Start}
use Rattle.neph_model.specs.declared.memory.Mapping.{Mapping}
use Rattle.neph_model.specs.declared.own.Own.{Own}
use Rattle.neph_model.specs.declared.life.Life.{Life}
use Rattle.neph_model.specs.declared.life.Guest.{Guest}
use Rattle.neph_model.specs.Memory.{zero_page}
use Rattle.neph_model.specs.Machine.{Exposed, no_own, no_guest, own_at, is_live, guest_at, exposed_at}
use Rattle.neph_model.specs.Own.{page_of}
use Rattle.neph_model.specs.Start.{started_512s, start_mode, start_vmap, start_pages, start_exposed, start_own, start_life, start_guest, of_starts, places, start_machine}
use Rattle.neph_model.specs.WellFormed.{IsWellFormed, IsWellFormedStart}
use Rattle.std.specs.Prelude.{map as map_list}
use Rattle.neph_grant.specs.declared.entry.GrantEntry.{GrantEntry}
use Rattle.neph_model.specs.Laws.{AreGranted}
use Rattle.neph_laws.proofs.GrantRows.{device_granted}
use Rattle.neph_rows.specs.Records.{Records, first_records, records_in}
use Rattle.neph_rows.specs.Slots.{first_guest}
use Rattle.neph_rows.specs.Sound.{IsSoundRecords, IsSoundGuest, IsSoundLife, IsChildOf, IsPair}
use Rattle.neph_flat.specs.Pages.{HasFew, IsPlaced}
use Rattle.neph_flat.specs.Sound.{IsSoundOwn, IsSound}
use Rattle.neph_flat.proofs.OwnKeeps.{put_or_old, some_is}

-- the domain line of an id, with its number
start_at : ℕ → List Start → ℕ → Option (ℕ × Start)
start_at n [] j = None
start_at n (t ∷ ts) zero = Some (n, t)
start_at n (t ∷ ts) (suc j) = start_at (n + 1) ts j

place : List Start → ℕ → Option (ℕ × Start)
place ts zero = None
place ts (suc j) = start_at 1 ts j

-- something of a domain line, or nothing
abbrev of_place : {X : Type 0} → X → (ℕ → Start → X) → Option (ℕ × Start) → X
of_place none f o = option_map_or (λ (p : ℕ × Start). f p.0 p.1) o none

pub repeated : {X : Type 0} (k j : ℕ) (x : X) → get_or (replicate k x) j x ≡ x
repeated zero j x = refl
repeated (suc k) zero x = refl
repeated (suc k) (suc j) x = repeated k j x

within : {X : Type 0} (k j : ℕ) (x d : X) → j < k → get_or (replicate k x) j d ≡ x
within zero j x d lt = absurd (omega (arith, lt))
within (suc k) zero x d lt = refl
within (suc k) (suc j) x d lt = within k j x d (omega (arith, lt))

at_starts : {X : Type 0} (none : X) (f : ℕ → Start → X) (n : ℕ) (ts : List Start) (k j : ℕ) → get_or (of_starts f n ts ++ replicate k none) j none ≡ of_place none f (start_at n ts j)
unfolding start_at
at_starts none f n [] k j = repeated k j none
at_starts none f n (t ∷ ts) k zero = refl
at_starts none f n (t ∷ ts) k (suc j) = at_starts none f (n + 1) ts k j

place_at : {X : Type 0} (none : X) (f : ℕ → Start → X) (ts : List Start) (id : ℕ) → get_or (places none f ts) id none ≡ of_place none f (place ts id)
unfolding place
place_at none f ts zero = refl
place_at none f ts (suc j) = at_starts none f 1 ts (63 - length ts) j

-- what is known of the domain line of an id
record IsPlace (P : Start → Type 0) (ts : List Start) (id : ℕ) (p : ℕ × Start) : Type 0 where
  holds : P p.1
  number : p.0 ≡ id
  low : id < 1 + length ts

start_facts : (P : Start → Type 0) (n : ℕ) (ts : List Start) (j : ℕ) (p : ℕ × Start) → All P ts → start_at n ts j ≡ Some p → P p.1 × (p.0 ≡ n + j) × (j < length ts)
unfolding start_at
start_facts P n [] j p h e = absurd (cc)
start_facts P n (t ∷ ts) zero p h e =
    let q : ◌≡◌ {A = ℕ × Start} (n, t) p = some_is e in
    (subst (λ (x : ℕ × Start). P x.1) q (All-head P t ts h), omega (arith, ap (λ (x : ℕ × Start). x.0) q), omega arith)
start_facts P n (t ∷ ts) (suc j) p h e =
    let r = start_facts P (n + 1) ts j p (All-tail P t ts h) e in
    (r.0, omega (arith, r.1), omega (arith, r.2))

place_facts : (P : Start → Type 0) (ts : List Start) (id : ℕ) (p : ℕ × Start) → All P ts → place ts id ≡ Some p → IsPlace P ts id p
unfolding place
place_facts P ts zero p h e = absurd (cc)
place_facts P ts (suc j) p h e =
    let r = start_facts P 1 ts j p h e in
    record { holds = r.0; number = omega (arith, r.1); low = omega (arith, r.2) }

-- what holds of nothing and of each domain line holds at each id
each_place : {X : Type 0} (Q : ℕ → X → Type 0) (P : Start → Type 0) (none : X) (f : ℕ → Start → X) (ts : List Start) → All P ts → ((id : ℕ) → Q id none) → ((id : ℕ) (p : ℕ × Start) → IsPlace P ts id p → Q id (f p.0 p.1)) → (id : ℕ) → Q id (get_or (places none f ts) id none)
each_place {X = X} Q P none f ts h nothing one id = subst (Q id) (sym (place_at none f ts id)) (at (place ts id) refl) where
  at : (o : Option (ℕ × Start)) → place ts id ≡ o → Q id (of_place none f o)
  at None e = nothing id
  at (Some p) e = one id p (place_facts P ts id p h e)

length_starts : {X : Type 0} (f : ℕ → Start → X) (n : ℕ) (ts : List Start) → length (of_starts f n ts) ≡ length ts
length_starts f n [] = refl
length_starts f n (t ∷ ts) = omega (arith, length_starts f (n + 1) ts)

pub length_places : {X : Type 0} (none : X) (f : ℕ → Start → X) (ts : List Start) → length ts ≤ 63 → length (places none f ts) ≡ 64
length_places none f ts few =
    let k = 63 - length ts in
    omega (arith, few, length-append (of_starts f 1 ts) (replicate k none), length_starts f 1 ts, length-replicate k none)

none_guests : (k : ℕ) → map_list first_guest (replicate k None) ≡ replicate k no_guest
none_guests zero = refl
none_guests (suc k) = ap (λ gs. no_guest ∷ gs) (none_guests k)

some_guests : (n k : ℕ) (ts : List Start) → map_list first_guest (of_starts (λ n t. Some (start_life n t)) n ts ++ replicate k None) ≡ of_starts (λ n t. start_guest) n ts ++ replicate k no_guest
some_guests n k [] = none_guests k
some_guests n k (t ∷ ts) = ap (λ gs. start_guest ∷ gs) (some_guests (n + 1) k ts)

-- the records at first are those of the start
pub start_is : (s : Script) (lives : List (Option Life)) (starts : List Start) → starts ≡ s.starts → lives ≡ places None (λ n t. Some (start_life n t)) starts → first_records lives (1 + length starts) ≡ records_in (start_machine s).shared
start_is s lives starts same is =
    let with = λ (gs : List Guest). let r : Records = record { lives = places None (λ n t. Some (start_life n t)) s.starts; tables = record { guests = gs; next = 1 + length s.starts; waiting = [] } } in r in
    ap (λ (ls : List (Option Life)). first_records ls (1 + length starts)) is ∙ ap (λ (ts : List Start). first_records (places None (λ n t. Some (start_life n t)) ts) (1 + length ts)) same
    ∙ ap (λ gs. with (no_guest ∷ gs)) (some_guests 1 (63 - length s.starts) s.starts)

-- the hypervisor's tables at the start
pub start_records : (s : Script) → IsWellFormed s → IsSoundRecords (records_in (start_machine s).shared)
start_records s h =
    let next = 1 + length s.starts in
    let P = IsWellFormedStart (length s.programs) in
    record {
      places = length_places None (λ n t. Some (start_life n t)) s.starts (omega (arith, h.few));
      guests = length_places no_guest (λ n t. start_guest) s.starts (omega (arith, h.few));
      next_low = omega arith;
      next_high = omega (arith, h.few);
      first = refl;
      lives = each_place (λ id o. IfSome o (IsSoundLife next id)) P None (λ n t. Some (start_life n t)) s.starts h.starts (λ id. tt) (λ id p k. record { drawn = k.low; limit = k.holds.limit });
      each = each_place (IsSoundGuest next) P no_guest (λ n t. start_guest) s.starts h.starts (λ id. record { begun = All-nil (IsChildOf next id); counted = omega arith; few = omega arith }) (λ id p k. record { begun = All-nil (IsChildOf next id); counted = omega arith; few = omega arith });
      waiting = All-nil (IsPair next);
    }

-- one entry more at most
len_put : (m : Exposed) (k : ℕ) (v : List ℕ) → map.len (map.insert m k v) ≤ map.len m + 1
len_put m k v = rw (map.len-insert nat_cmp_total m k v) (by (map.contains_key m k)) where
  by : (b : Bool) → cond b (map.len m) (map.len m + 1) ≤ map.len m + 1
  by true = omega arith
  by false = omega arith

few_start : HasFew start_exposed
few_start =
    let none : Exposed = map.empty in
    let one = map.insert none 1 zero_page in
    let two = map.insert one 2 zero_page in
    omega (arith, map.len-empty nat_cmp (List ℕ), len_put none 1 zero_page, len_put one 2 zero_page, len_put two 3 zero_page)

-- the exposed pages at the start are few
pub start_placed : (s : Script) → IsWellFormed s → IsPlaced (places map.empty (λ n t. start_exposed) s.starts)
start_placed s h =
    let P = IsWellFormedStart (length s.programs) in
    let none : Exposed = map.empty in
    let each = each_place (λ id m. HasFew m) P none (λ n t. start_exposed) s.starts h.starts (λ id. omega (arith, map.len-empty nat_cmp (List ℕ))) (λ id p k. few_start) in
    record { places = length_places none (λ n t. start_exposed) s.starts (omega (arith, h.few)); few = All-from_get_or HasFew (places none (λ n t. start_exposed) s.starts) none (λ i lt. each i) }

weaker : (o : Option Mapping) (n : ℕ) → IfSome o (λ y. y.pfn < n) → IfSome o (λ y. y.pfn < suc n)
weaker None n h = tt
weaker (Some x) n h = omega arith

shown_below : (n v : ℕ) → IfSome (map.get (start_vmap n) v) (λ y. y.pfn < n)
shown_below zero v = rw (map.get-empty nat_cmp v) tt
shown_below (suc n) v =
    let to : Mapping = record { pfn = n; mode = start_mode n } in
    rw (map.get-insert nat_cmp_total (start_vmap n) n to v) (put_or_old (eq_by_cmp nat_cmp v n) to (suc n) (map.get (start_vmap n) v) (omega arith) (weaker (map.get (start_vmap n) v) n (shown_below n v)))

length_range : (a n : ℕ) → length (range_with_len a n) ≡ n
length_range a zero = refl
length_range a (suc n) = omega (arith, length_range (a + 1) n)

length_pages : (id n : ℕ) → 4 ≤ n → length (start_pages id n) ≡ n
length_pages id n le = omega (arith, le, length-replicate (n - 4) (Some zero_page))

own_start : (programs n : ℕ) (t : Start) → IsWellFormedStart programs t → IsSoundOwn (start_own n t)
own_start programs n t h =
    let pages = length_pages n t.pages (omega (arith, h.pages_low)) in
    record {
      pages_low = omega (arith, pages, h.pages_low);
      pages_high = omega (arith, pages, h.pages_high);
      mapped = λ v. rw pages (shown_below t.pages v);
      alone = length-replicate t.pages true ∙ sym pages;
      line = omega arith;
      leaves = omega (arith, length_range 0 (started_512s t.pages), h.pages_high);
    }

far_key : (a b : ℕ) → a ≢ b → eq_by_cmp nat_cmp a b ≡ false
far_key a b far = elim (nat_cmp a b) as (λ r. nat_cmp a b ≡ r → is_eq r ≡ false) [ Less ↦ λ e. refl | Equal ↦ λ e. absurd (far (map.nat_cmp-IsAntisymmetric a b e)) | Greater ↦ λ e. refl ] refl

exposed_get : (q : ℕ) → map.get start_exposed q ≡ cond (eq_by_cmp nat_cmp q 3) (Some zero_page) (cond (eq_by_cmp nat_cmp q 2) (Some zero_page) (cond (eq_by_cmp nat_cmp q 1) (Some zero_page) None))
exposed_get q =
    let none : Exposed = map.empty in
    let one = map.insert none 1 zero_page in
    let two = map.insert one 2 zero_page in
    map.get-insert nat_cmp_total two 3 zero_page q ∙ ap (cond (eq_by_cmp nat_cmp q 3) (Some zero_page)) (map.get-insert nat_cmp_total one 2 zero_page q ∙ ap (cond (eq_by_cmp nat_cmp q 2) (Some zero_page)) (map.get-insert nat_cmp_total none 1 zero_page q ∙ ap (cond (eq_by_cmp nat_cmp q 1) (Some zero_page)) (map.get-empty nat_cmp q)))

-- the exposed pages at the start have numbers below 4
pub far_pages : (q : ℕ) → 4 ≤ q → map.get start_exposed q ≡ None
far_pages q le =
    let a = far_key q 3 (λ e. absurd (omega (arith, e, le))) in
    let b = far_key q 2 (λ e. absurd (omega (arith, e, le))) in
    let c = far_key q 1 (λ e. absurd (omega (arith, e, le))) in
    exposed_get q ∙ rw (a, b, c) refl

-- each page of these is in one half alone
abbrev Apart : Own → Exposed → Type 0
Apart o pages = (pfn : ℕ) → pfn < length o.pages → is_some (page_of o pfn) ≡ not (is_some (map.get pages pfn))

pages_apart : (id n : ℕ) (q : ℕ) → q < length (start_pages id n) → is_some (get_or (start_pages id n) q None) ≡ not (is_some (map.get start_exposed q))
pages_apart id n zero lt = rw (exposed_get 0) refl
pages_apart id n (suc zero) lt = rw (exposed_get 1) refl
pages_apart id n (suc (suc zero)) lt = rw (exposed_get 2) refl
pages_apart id n (suc (suc (suc zero))) lt = rw (exposed_get 3) refl
pages_apart id n (suc (suc (suc (suc k)))) lt =
    let own : get_or (replicate (n - 4) (Some zero_page)) k None ≡ Some zero_page = within (n - 4) k (Some zero_page) None (omega (arith, lt, length-replicate (n - 4) (Some zero_page))) in
    ap is_some own ∙ sym (ap (λ (o : Option (List ℕ)). not (is_some o)) (far_pages (suc (suc (suc (suc k)))) (omega arith)))

apart_start : (s : Script) → IsWellFormed s → (id : ℕ) → Apart (own_at id (start_machine s).own) (exposed_at id (start_machine s).shared.pages)
apart_start s h id =
    let none : Exposed = map.empty in
    subst (λ (o : Own). Apart o (exposed_at id (start_machine s).shared.pages)) (sym (place_at no_own start_own s.starts id))
    (subst (Apart (of_place no_own start_own (place s.starts id))) (sym (place_at none (λ n t. start_exposed) s.starts id)) (at (place s.starts id))) where
      at : (o : Option (ℕ × Start)) → Apart (of_place no_own start_own o) (of_place map.empty (λ n t. start_exposed) o)
      at None = λ pfn lt. absurd (omega (arith, lt))
      at (Some p) = pages_apart p.0 p.1.pages

live_start : (s : Script) → IsWellFormed s → (id : ℕ) → is_live id (start_machine s).shared.lives ≡ true → IsSoundOwn (own_at id (start_machine s).own)
live_start s h id =
    subst (λ (o : Own). is_live id (start_machine s).shared.lives ≡ true → IsSoundOwn o) (sym (place_at no_own start_own s.starts id))
    (subst (λ (l : Option Life). is_some l ≡ true → IsSoundOwn (of_place no_own start_own (place s.starts id))) (sym (place_at None (λ n t. Some (start_life n t)) s.starts id)) (at (place s.starts id) refl)) where
      at : (o : Option (ℕ × Start)) → place s.starts id ≡ o → is_some (of_place None (λ n t. Some (start_life n t)) o) ≡ true → IsSoundOwn (of_place no_own start_own o)
      at None e live = absurd (cc)
      at (Some p) e live = own_start (length s.programs) p.0 p.1 (place_facts (IsWellFormedStart (length s.programs)) s.starts id p h.starts e).holds

-- each device page is exposed
devices_exposed : (pfn : ℕ) → 0 < pfn → pfn < 4 → is_some (map.get start_exposed pfn) ≡ true
devices_exposed zero low high = absurd (omega arith)
devices_exposed (suc zero) low high = rw (exposed_get 1) refl
devices_exposed (suc (suc zero)) low high = rw (exposed_get 2) refl
devices_exposed (suc (suc (suc zero))) low high = rw (exposed_get 3) refl
devices_exposed (suc (suc (suc (suc k)))) low high = absurd (omega arith)

-- the grants of a domain at the start
granted_start : (s : Script) → (id : ℕ) → AreGranted (guest_at id (start_machine s).shared.tables).grants (length (own_at id (start_machine s).own).pages) (exposed_at id (start_machine s).shared.pages)
granted_start s id =
    let none : Exposed = map.empty in
    subst (λ (g : Guest). AreGranted g.grants (length (own_at id (start_machine s).own).pages) (exposed_at id (start_machine s).shared.pages)) (sym (place_at no_guest (λ n t. start_guest) s.starts id))
    (subst (λ (o : Own). AreGranted (of_place no_guest (λ n t. start_guest) (place s.starts id)).grants (length o.pages) (exposed_at id (start_machine s).shared.pages)) (sym (place_at no_own start_own s.starts id))
    (subst (AreGranted (of_place no_guest (λ n t. start_guest) (place s.starts id)).grants (length (of_place no_own start_own (place s.starts id)).pages)) (sym (place_at none (λ n t. start_exposed) s.starts id)) (at (place s.starts id)))) where
      nothing : {e : GrantEntry} → None ≡ Some e → ⊥
      nothing e = cc

      at : (o : Option (ℕ × Start)) → AreGranted (of_place no_guest (λ n t. start_guest) o).grants (length (of_place no_own start_own o).pages) (of_place map.empty (λ n t. start_exposed) o)
      at None r e is = absurd (nothing (sym (map.get-empty nat_cmp r) ∙ is))
      at (Some p) r e is =
          let d = device_granted r e is in
          let long = length-replicate (p.1.pages - 4) (Some zero_page) in
          record { low = omega (arith, d.0); exposed = devices_exposed e.pfn (omega (arith, d.1)) (omega (arith, d.0, d.1)); inside = omega (arith, d.0, d.1, long) }

-- the machine at the start
pub sound_start : (s : Script) → IsWellFormed s → IsSound s (start_machine s)
sound_start s h =
    record {
      formed = h;
      places = length_places no_own start_own s.starts (omega (arith, h.few));
      exposed = length_places map.empty (λ n t. start_exposed) s.starts (omega (arith, h.few));
      apart = λ id pfn lt. apart_start s h id pfn lt;
      granted = granted_start s;
      each = λ id live.
          let own = live_start s h id live in
          let g : length (guest_at id (start_machine s).shared.tables).begun ≡ 0 =
          each_place (λ id (x : Guest). length x.begun ≡ 0) (IsWellFormedStart (length s.programs)) no_guest (λ n t. start_guest) s.starts h.starts (λ i. refl) (λ i p k. refl) id in
          record { own = own; commits = omega (arith, own.line, g) };
    }
