-- What a line leaves of the pages, the map and the leaf tables of its domain.
use Rattle.std.proofs.Common.{◌≡◌, ◌≢◌, ℕ, zero, suc, ◌+◌, ◌/◌, ◌<◌, ◌≤◌, Bool, true, false, cond, ◌⊎◌, inl, inr, List, [], ◌∷◌, length, get_or, set, Option, Some, None, refl, sym, ap, subst, ◌∙◌, arith}
use Rattle.std.specs.Prelude.{not, count_by, IfSome, ◌==◌, nat_lt}
use Rattle.std.specs.Option.{is_some}
use Rattle.std.specs.Ordering.{nat_cmp, eq_by_cmp, is_eq}
use Rattle.std.proofs.Common.{Equal, Less, Greater}
use Rattle.std.specs.Cmp.{nat_cmp_total, eq_by_cmp_equiv}
use Rattle.std.specs.FinMap as fm
use Rattle.std.specs.FinMap.{get-insert, get-remove, len-insert}
use Rattle.std.proofs.lemmas.Bool.{false≢true, ne_eqb}
use Rattle.std.proofs.lemmas.List.{length-set, length-append, get_or-set_other}
use Rattle.std.proofs.lemmas.List.Sums.{sum_by-cons}
use Rattle.neph_base.specs.declared.command.Mode.{Mode}
use Rattle.neph_grant.specs.declared.entry.GrantEntry.{GrantEntry}
use Rattle.neph_grant.specs.Table.{Grants}
use Rattle.neph_model.specs.declared.own.Own.{Own}
use Rattle.neph_model.specs.declared.memory.Mapping.{Mapping}
use Rattle.neph_model.specs.Memory.{page_with_bytes}
use Rattle.neph_model.specs.Machine.{Exposed, Machine, own_at, guest_at, exposed_at}
use Rattle.neph_model.specs.Trap.{is_exposed, exposed_bytes, with_exposed_bytes}
use Rattle.neph_model.specs.Own.{page_of, with_page, with_alone, with_bytes, with_mapping, with_leaf}
use Rattle.neph_laws.proofs.HandleRows.{put_as}
use Rattle.neph_runs.specs.Orderly.{Outline, Seat, outline}
use Rattle.neph_runs.proofs.Sums.{same_or}

-- how many pages of an own half are exposed
abbrev pub hidden : Own → ℕ
hidden o = count_by (λ (p : Option (List ℕ)). not (is_some p)) o.pages

-- each virtual page maps to a page of the domain
abbrev pub MapsWithin : Own → Type 0
MapsWithin o = (vpn : ℕ) → IfSome (fm.get o.vmap vpn) (λ (to : Mapping). to.pfn < length o.pages)

-- a domain's own half, which of its pages are exposed, and its grants
pub record Half : Type 0 where
  pub own : Own
  pub exposed : Outline
  pub grants : Grants

abbrev pub half_of : Seat → Half
half_of x = record { own = x.own; exposed = x.exposed; grants = x.guest.grants }

abbrev pub half_at : Machine → ℕ → Half
half_at m id = record {
  own = own_at id m.own;
  exposed = outline (exposed_at id m.shared.pages);
  grants = (guest_at id m.shared.tables).grants;
}

-- each of these entries is one of those
abbrev pub Fewer : Grants → Grants → Type 0
Fewer old new = (r : ℕ) (g : GrantEntry) → fm.get new r ≡ Some g → fm.get old r ≡ Some g

-- the same pages are in each half, and no entry is new
pub record Stays (x y : Half) : Type 0 where
  pub halves : (pfn : ℕ) → is_some (page_of y.own pfn) ≡ is_some (page_of x.own pfn)
  pub hides : hidden y.own ≡ hidden x.own
  pub shown : (pfn : ℕ) → y.exposed.has pfn ≡ x.exposed.has pfn
  pub count : y.exposed.count ≡ x.exposed.count
  pub fewer : Fewer x.grants y.grants

-- This exposed page is the domain's own again. None of the entries names it.
pub record ComesHome (x y : Half) (pfn : ℕ) : Type 0 where
  pub bytes : List ℕ
  pub pages : y.own.pages ≡ set x.own.pages pfn (Some bytes)
  pub high : 4 ≤ pfn
  pub inside : pfn < length x.own.pages
  pub was : x.exposed.has pfn ≡ true
  pub shown : (q : ℕ) → y.exposed.has q ≡ cond (q == pfn) false (x.exposed.has q)
  pub count : y.exposed.count + 1 ≡ x.exposed.count
  pub fewer : Fewer x.grants y.grants
  pub unnamed : (r : ℕ) (g : GrantEntry) → fm.get y.grants r ≡ Some g → g.pfn ≢ pfn

-- What a line leaves of the halves of its domain: the same pages in each, but for one that comes home, so many more leaf tables, and no page newly known to be alone but an exposed one or the one that was written.
pub record Steps (x y : Half) (more : ℕ) (wrote : Option ℕ) : Type 0 where
  pub pages : length y.own.pages ≡ length x.own.pages
  pub moved : Stays x y ⊎ ((pfn : ℕ) × ComesHome x y pfn)
  pub maps : MapsWithin x.own → MapsWithin y.own
  pub leaves : length y.own.leaves ≡ length x.own.leaves + more
  pub marks : length y.own.alone ≡ length x.own.alone
  pub alone : (pfn : ℕ) → get_or y.own.alone pfn false ≡ true → ((get_or x.own.alone pfn false ≡ true) ⊎ (x.exposed.has pfn ≡ true)) ⊎ (wrote ≡ Some pfn)

abbrev pub with_own : Half → Own → Half
with_own x o = record x { own = o }

nothing_moved : (x : Half) (n : Own) → n.pages ≡ x.own.pages → Stays x (with_own x n)
nothing_moved x n same =
    record { halves = λ pfn. ap (λ (l : List (Option (List ℕ))). is_some (get_or l pfn None)) same; hides = ap (λ (l : List (Option (List ℕ))). count_by (λ (p : Option (List ℕ)). not (is_some p)) l) same; shown = λ pfn. refl; count = refl; fewer = λ r g at. at }

-- nothing but line and marks changed
pub steps_same : (x : Half) (line : ℕ) (refused : Bool) (wrote : Option ℕ) → Steps x (with_own x (record x.own { line = line; refused = refused })) 0 wrote
steps_same x line refused wrote =
    record { pages = refl; moved = inl (nothing_moved x (record x.own { line = line; refused = refused }) refl); maps = λ h. h; leaves = omega arith; marks = refl; alone = λ pfn h. inl (inl h) }

home_line : (x y : Half) (pfn line : ℕ) (refused : Bool) → ComesHome x y pfn → ComesHome x (with_own y (record y.own { line = line; refused = refused })) pfn
home_line x y pfn line refused h =
    record { bytes = h.bytes; pages = h.pages; high = h.high; inside = h.inside; was = h.was; shown = h.shown; count = h.count; fewer = h.fewer; unnamed = h.unnamed }

pub steps_line : (x y : Half) (more : ℕ) (wrote : Option ℕ) (line : ℕ) (refused : Bool) → Steps x y more wrote → Steps x (with_own y (record y.own { line = line; refused = refused })) more wrote
steps_line x y more wrote line refused h =
    record { pages = h.pages; moved = elim h.moved [ inl s ↦ inl (record { halves = s.halves; hides = s.hides; shown = s.shown; count = s.count; fewer = s.fewer }) | inr g ↦ inr (g.0, home_line x y g.0 line refused g.1) ]; maps = h.maps; leaves = h.leaves; marks = h.marks; alone = h.alone }

-- a page of a list in the place of another
some_set : (pages : List (Option (List ℕ))) (pfn : ℕ) (page : List ℕ) (at : ℕ) → is_some (get_or pages pfn None) ≡ true → is_some (get_or (set pages pfn (Some page)) at None) ≡ is_some (get_or pages at None)
some_set [] pfn page at e = refl
some_set (p ∷ ps) zero page zero e = sym e
some_set (p ∷ ps) zero page (suc at) e = refl
some_set (p ∷ ps) (suc pfn) page zero e = refl
some_set (p ∷ ps) (suc pfn) page (suc at) e = some_set ps pfn page at e

hidden_set : (pages : List (Option (List ℕ))) (pfn : ℕ) (page : List ℕ) → is_some (get_or pages pfn None) ≡ true → count_by (λ p. not (is_some p)) (set pages pfn (Some page)) ≡ count_by (λ p. not (is_some p)) pages
hidden_set [] pfn page e = refl
hidden_set (None ∷ ps) zero page e = absurd (false≢true e)
hidden_set (Some p ∷ ps) zero page e = refl
hidden_set (p ∷ ps) (suc pfn) page e =
    let one : Option (List ℕ) → ℕ = λ (q : Option (List ℕ)). cond (not (is_some q)) 1 0 in
    omega (arith, hidden_set ps pfn page e, sum_by-cons one p ps, sum_by-cons one p (set ps pfn (Some page)))

same_key : {x y : ℕ} → Some x ≡ Some y → x ≡ y
same_key e = cc

alone_set : (alone : List Bool) (pfn at : ℕ) → get_or (set alone pfn true) at false ≡ true → (get_or alone at false ≡ true) ⊎ (Some pfn ≡ Some at)
alone_set alone pfn at h = same_or at pfn (λ e. inr (ap Some (sym e))) (λ ne. inl (sym (get_or-set_other alone pfn at true false ne) ∙ h))

-- a write to a page of its own
pub steps_bytes : (x : Half) (pfn : ℕ) (page : List ℕ) (at : ℕ) (bytes : List ℕ) → page_of x.own pfn ≡ Some page → Steps x (with_own x (with_bytes x.own pfn page at bytes)) 0 (Some pfn)
steps_bytes x pfn page at bytes is =
    let o = x.own in
    let some : is_some (page_of o pfn) ≡ true = ap is_some is in
    let lengths = length-set o.pages pfn _ in
    record {
      pages = lengths;
      moved = inl (record { halves = λ q. some_set o.pages pfn _ q some; hides = hidden_set o.pages pfn _ some; shown = λ q. refl; count = refl; fewer = λ r g at. at });
      maps = λ h vpn. subst (λ k. IfSome (fm.get o.vmap vpn) (λ (to : Mapping). to.pfn < k)) (sym lengths) (h vpn);
      leaves = omega arith;
      marks = length-set o.alone pfn true;
      alone = λ q h. elim (alone_set o.alone pfn q h) [ inl k ↦ inl (inl k) | inr k ↦ inr k ];
    }

-- an exposed page that was written
pub steps_alone : (x : Half) (f : Outline) (pfn : ℕ) (wrote : Option ℕ) → x.exposed.has pfn ≡ true → ((q : ℕ) → f.has q ≡ x.exposed.has q) → f.count ≡ x.exposed.count → Steps x (record x { own = with_alone x.own pfn; exposed = f }) 0 wrote
steps_alone x f pfn wrote some shown count =
    record {
      pages = refl;
      moved = inl (record { halves = λ q. refl; hides = refl; shown = shown; count = count; fewer = λ r g at. at });
      maps = λ h. h;
      leaves = omega arith;
      marks = length-set x.own.alone pfn true;
      alone = λ q h. elim (alone_set x.own.alone pfn q h) [ inl k ↦ inl (inl k) | inr k ↦ inl (inr (ap (λ p. x.exposed.has p) (sym (same_key k)) ∙ some)) ];
    }

-- fewer entries
pub steps_ended : (x : Half) (left : Grants) → Fewer x.grants left → Steps x (record x { grants = left }) 0 None
steps_ended x left fewer =
    record { pages = refl; moved = inl (record { halves = λ q. refl; hides = refl; shown = λ q. refl; count = refl; fewer = fewer }); maps = λ h. h; leaves = omega arith; marks = refl; alone = λ q h. inl (inl h) }

-- fewer entries, and a page that comes home
pub steps_home : (x : Half) (f : Outline) (left : Grants) (pfn : ℕ) (bytes : List ℕ) → ComesHome x (record { own = with_page x.own pfn (Some bytes); exposed = f; grants = left }) pfn → Steps x (record { own = with_page x.own pfn (Some bytes); exposed = f; grants = left }) 0 None
steps_home x f left pfn bytes home =
    let lengths = length-set x.own.pages pfn (Some bytes) in
    record {
      pages = lengths;
      moved = inr (pfn, home);
      maps = λ h vpn. subst (λ k. IfSome (fm.get x.own.vmap vpn) (λ (to : Mapping). to.pfn < k)) (sym lengths) (h vpn);
      leaves = omega arith;
      marks = refl;
      alone = λ q h. inl (inl h);
    }

-- two keys are the same, or told apart
pub key_cases : (q k : ℕ) → (q ≡ k) ⊎ (eq_by_cmp nat_cmp q k ≡ false)
key_cases q k = same_or q k (λ e. inl e) (λ ne. inr (by (nat_lt q k) (q == k) (ne_eqb q k ne))) where
  by : (less same : Bool) → same ≡ false → is_eq (cond less Less (cond same Equal Greater)) ≡ false
  by true same e = refl
  by false true e = absurd (false≢true (sym e))
  by false false e = refl

-- an entry in the place of another of its key
pub insert_shown : (e : Exposed) (k : ℕ) (v : List ℕ) (q : ℕ) → is_some (fm.get e k) ≡ true → is_some (fm.get (fm.insert e k v) q) ≡ is_some (fm.get e q)
insert_shown e k v q some = elim (key_cases q k) [
  | inl same ↦ ap (λ x. is_some (fm.get (fm.insert e k v) x)) same ∙ ap is_some (get-insert nat_cmp_total e k v k ∙ ap (λ b. cond b (Some v) (fm.get e k)) ((eq_by_cmp_equiv nat_cmp_total).refl k)) ∙ sym some ∙ ap (λ x. is_some (fm.get e x)) (sym same)
  | inr far ↦ ap is_some (get-insert nat_cmp_total e k v q ∙ ap (λ b. cond b (Some v) (fm.get e q)) far)
]

pub insert_count : (e : Exposed) (k : ℕ) (v : List ℕ) → is_some (fm.get e k) ≡ true → fm.len (fm.insert e k v) ≡ fm.len e
insert_count e k v some = len-insert nat_cmp_total e k v ∙ ap (λ b. cond b (fm.len e) (fm.len e + 1)) some

-- pages that are exposed as these are have the same outline
pub same_outline : (e f : Exposed) → ((q : ℕ) → is_some (fm.get f q) ≡ is_some (fm.get e q)) → fm.len f ≡ fm.len e → outline f ≡ outline e
same_outline e f shown count = λ i. record { has = λ q. shown q i; count = count i }

pub insert_outline : (e : Exposed) (k : ℕ) (v : List ℕ) → is_some (fm.get e k) ≡ true → outline (fm.insert e k v) ≡ outline e
insert_outline e k v some = same_outline e (fm.insert e k v) (λ q. insert_shown e k v q some) (insert_count e k v some)

pub written_outline : (pages : List Exposed) (id pfn at : ℕ) (bytes : List ℕ) → is_exposed pages id pfn ≡ true → (j : ℕ) → outline (exposed_at j (with_exposed_bytes pages id pfn at bytes)) ≡ outline (exposed_at j pages)
written_outline pages id pfn at bytes has =
    put_as outline pages id (fm.insert (exposed_at id pages) pfn (page_with_bytes (exposed_bytes pages id pfn) at bytes)) fm.empty (insert_outline (exposed_at id pages) pfn _ has)

pub within_insert : (m : fm.FinMap nat_cmp Mapping) (vpn : ℕ) (to : Mapping) (n : ℕ) → to.pfn < n → ((v : ℕ) → IfSome (fm.get m v) (λ (x : Mapping). x.pfn < n)) → (v : ℕ) → IfSome (fm.get (fm.insert m vpn to) v) (λ (x : Mapping). x.pfn < n)
within_insert m vpn to n lt h v = subst (λ x. IfSome x (λ (x : Mapping). x.pfn < n)) (sym (get-insert nat_cmp_total m vpn to v)) (by (eq_by_cmp nat_cmp v vpn)) where
  by : (b : Bool) → IfSome (cond b (Some to) (fm.get m v)) (λ (x : Mapping). x.pfn < n)
  by true = lt
  by false = h v

within_remove : (m : fm.FinMap nat_cmp Mapping) (vpn n : ℕ) → ((v : ℕ) → IfSome (fm.get m v) (λ (x : Mapping). x.pfn < n)) → (v : ℕ) → IfSome (fm.get (fm.remove m vpn) v) (λ (x : Mapping). x.pfn < n)
within_remove m vpn n h v = subst (λ x. IfSome x (λ (x : Mapping). x.pfn < n)) (sym (get-remove nat_cmp_total m vpn v)) (by (eq_by_cmp nat_cmp v vpn)) where
  by : (b : Bool) → IfSome (cond b None (fm.get m v)) (λ (x : Mapping). x.pfn < n)
  by true = tt
  by false = h v

-- a mapping, with a new leaf table or without
pub steps_mapping : (x : Half) (vpn pfn : ℕ) (mode : Mode) → pfn < length x.own.pages → Steps x (with_own x (with_mapping x.own vpn pfn mode)) 0 None
steps_mapping x vpn pfn mode lt =
    record {
      pages = refl;
      moved = inl (nothing_moved x (with_mapping x.own vpn pfn mode) refl);
      maps = λ h. within_insert x.own.vmap vpn (record { pfn = pfn; mode = mode }) (length x.own.pages) lt h;
      leaves = omega arith;
      marks = refl;
      alone = λ q h. inl (inl h);
    }

pub steps_leaf : (x : Half) (vpn pfn : ℕ) (mode : Mode) → pfn < length x.own.pages → Steps x (with_own x (with_leaf (with_mapping x.own vpn pfn mode) vpn)) 1 None
steps_leaf x vpn pfn mode lt =
    let h = steps_mapping x vpn pfn mode lt in
    record { pages = refl; moved = inl (nothing_moved x (with_leaf (with_mapping x.own vpn pfn mode) vpn) refl); maps = h.maps; leaves = length-append x.own.leaves (vpn / 512 ∷ []); marks = refl; alone = λ q h. inl (inl h) }

pub steps_unmap : (x : Half) (vpn : ℕ) → Steps x (with_own x (record x.own { vmap = fm.remove x.own.vmap vpn })) 0 None
steps_unmap x vpn =
    record {
      pages = refl;
      moved = inl (nothing_moved x (record x.own { vmap = fm.remove x.own.vmap vpn }) refl);
      maps = λ h. within_remove x.own.vmap vpn (length x.own.pages) h;
      leaves = omega arith;
      marks = refl;
      alone = λ q h. inl (inl h);
    }
