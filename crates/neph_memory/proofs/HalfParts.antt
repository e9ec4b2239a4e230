-- What the parts of an own half read as after a step.
use Rattle.std.proofs.Common.{◌≡◌, ◌≢◌, ◌<◌, ◌≤◌, ◌^◌, ◌==◌, ◌||◌, ◌⊎◌, inl, inr, ℕ, zero, suc, Bool, true, false, cond, List, [], ◌∷◌, ◌++◌, length, set, get_or, slice_index_or, is_some, Some, None, refl, sym, ap, ◌∙◌, arith, eq-eqb, ne_eqb, if◌then◌else◌}
use Rattle.std.specs.declared.option.Option.{Option}
use Rattle.std.specs.Ordering.{nat_cmp}
use Rattle.std.specs.Cmp.{nat_cmp_total, unsigned_tied}
use Rattle.std.specs.FinMap as map
use Rattle.std.proofs.lemmas.List.{length-set, get_or-set_same, get_or-set_other}
use Rattle.neph_base.specs.declared.sizes.TheConstants.{TABLE_ENTRIES}
use Rattle.neph_model.specs.declared.memory.Mapping.{Mapping}
use Rattle.neph_model.specs.Memory.{page_with_bytes}
use Rattle.neph_pool.specs.Handing.{is_among, AreDistinct}
use Rattle.neph_pool.proofs.Rows.{same_or_not}
use Rattle.neph_gmap.specs.GuestPages.{has_number}
use Rattle.neph_memory.proofs.Places.{has_more}
use Rattle.neph_memory.specs.Steps.{with_write, own_page_with_bytes}
use Rattle.neph_memory.specs.OwnHalf.{IsReadAs}

index_small : (pages : List (Option (List ℕ))) (p : ℕ) (page : List ℕ) → slice_index_or pages p None ≡ Some page → p < length pages
index_small [] p page e = absurd (cc)
index_small (x ∷ pages) zero page e = omega arith
index_small (x ∷ pages) (suc p) page e = let k = index_small pages p page e in omega arith

-- a look-up at another key
other_key : (b : Bool) (u v : ℕ) (x y : Option Mapping) → (u == v) ≡ b → u ≢ v → (if b then x else y) ≡ y
other_key true u v x y e n = absurd (let z : false ≡ true = sym (ne_eqb u v n) ∙ e in cc)
other_key false u v x y e n = refl

-- a list of different numbers and one more
once_more : (xs : List ℕ) (x : ℕ) → AreDistinct xs → has_number x xs ≡ false → AreDistinct (xs ++ x ∷ [])
once_more [] x once e = (refl, tt)
once_more (y ∷ xs) x once e = (has_more y xs x ∙ both (is_among y xs) (x == y) once.0 (apart (y == x) (same_or_not y x) e), once_more xs x once.1 (rest (y == x) (has_number x xs) e)) where
  both : (a b : Bool) → a ≡ false → b ≡ false → (a || b) ≡ false
  both true b e d = e
  both false b e d = d

  rest : (a b : Bool) → (a || b) ≡ false → b ≡ false
  rest true b e = absurd (cc)
  rest false b e = e

  apart : (a : Bool) → (y ≡ x) ⊎ (y ≢ x) → ((y == x) || has_number x xs) ≡ false → (x == y) ≡ false
  apart a (inl s) e = absurd (let z : true ≡ false = sym (ap (λ (b : Bool). b || has_number x xs) (eq-eqb y x s)) ∙ e in cc)
  apart a (inr n) e = ne_eqb x y (λ s. n (sym s))

module _ (n : ℕ) (P : ℕ → Option (List ℕ)) (M : ℕ → Option Mapping) (L : ℕ → Option ℕ)
    (pages : List (Option (List ℕ))) (vmap : map.FinMap nat_cmp Mapping) (leaves : List ℕ)
    (h : IsReadAs n P M L pages vmap leaves)
    (m : ℕ) (Q : ℕ → Option (List ℕ)) (N : ℕ → Option Mapping) (K : ℕ → Option ℕ) (e : m ≡ n) where
  -- nothing changes
  pub same : ((q : ℕ) → Q q ≡ P q) → ((u : ℕ) → u < 2 ^ 18 → N u ≡ M u) → ((g : ℕ) → g < TABLE_ENTRIES → K g ≡ L g) → IsReadAs m Q N K pages vmap leaves
  same a b c = record {
    count = h.count ∙ sym e;
    page = λ q. h.page q ∙ sym (a q);
    mapping = λ v lt. h.mapping v lt ∙ sym (b v lt);
    past = h.past;
    group = λ g lt. h.group g lt ∙ sym (ap is_some (c g lt));
    low = h.low;
    once = h.once;
  }

  -- bytes are written into the page p
  module _ (p at : ℕ) (bytes page : List ℕ) (is : P p ≡ Some page) (a : (q : ℕ) → Q q ≡ with_write P p at bytes q) where
    at_page : (q : ℕ) → (q ≡ p) ⊎ (q ≢ p) → get_or (set pages p (Some (page_with_bytes page at bytes))) q None ≡ Q q
    at_page q (inl s) =
        let lt : p < length pages = index_small pages p page (h.page p ∙ is) in
        ap (λ (k : ℕ). get_or (set pages p (Some (page_with_bytes page at bytes))) k None) s
        ∙ get_or-set_same pages p (Some (page_with_bytes page at bytes)) None lt
        ∙ sym (ap Q s ∙ a p ∙ ap (λ (b : Bool). if b then own_page_with_bytes (P p) at bytes else P p) (eq-eqb p p refl) ∙ ap (λ (x : Option (List ℕ)). own_page_with_bytes x at bytes) is)
    at_page q (inr d) =
        get_or-set_other pages p q (Some (page_with_bytes page at bytes)) None d ∙ h.page q
        ∙ sym (a q ∙ ap (λ (b : Bool). if b then own_page_with_bytes (P q) at bytes else P q) (ne_eqb q p d))

    pub written : ((u : ℕ) → u < 2 ^ 18 → N u ≡ M u) → ((g : ℕ) → g < TABLE_ENTRIES → K g ≡ L g) → IsReadAs m Q N K (set pages p (Some (page_with_bytes page at bytes))) vmap leaves
    written b c = record {
      count = length-set pages p (Some (page_with_bytes page at bytes)) ∙ h.count ∙ sym e;
      page = λ q. at_page q (same_or_not q p);
      mapping = λ v lt. h.mapping v lt ∙ sym (b v lt);
      past = h.past;
      group = λ g lt. h.group g lt ∙ sym (ap is_some (c g lt));
      low = h.low;
      once = h.once;
    }

  module _ (v : ℕ) (small : v < 2 ^ 18) (a : (q : ℕ) → Q q ≡ P q) where
    far : (u : ℕ) → 2 ^ 18 ≤ u → u ≢ v
    far u le s = let k : u ≡ v = s in omega arith

    -- the virtual page v maps to this
    module _ (to : Mapping) (b : (u : ℕ) → u < 2 ^ 18 → N u ≡ (if u == v then Some to else M u)) where
      mapping_in : (u : ℕ) → map.get (map.insert vmap v to) u ≡ (if u == v then Some to else map.get vmap u)
      mapping_in u = map.get-insert nat_cmp_total vmap v to u ∙ ap (λ (t : Bool). cond t (Some to) (map.get vmap u)) (unsigned_tied u v)

      maps : (u : ℕ) → u < 2 ^ 18 → map.get (map.insert vmap v to) u ≡ N u
      maps u lt = mapping_in u ∙ ap (λ (x : Option Mapping). if u == v then Some to else x) (h.mapping u lt) ∙ sym (b u lt)

      past_in : (u : ℕ) → 2 ^ 18 ≤ u → map.get (map.insert vmap v to) u ≡ None
      past_in u le = mapping_in u ∙ other_key (u == v) u v (Some to) (map.get vmap u) refl (far u le) ∙ h.past u le

      pub mapped : ((g : ℕ) → g < TABLE_ENTRIES → K g ≡ L g) → IsReadAs m Q N K pages (map.insert vmap v to) leaves
      mapped c = record {
        count = h.count ∙ sym e;
        page = λ q. h.page q ∙ sym (a q);
        mapping = maps;
        past = past_in;
        group = λ g lt. h.group g lt ∙ sym (ap is_some (c g lt));
        low = h.low;
        once = h.once;
      }

      -- and a leaf table is made for the group i
      module _ (i f : ℕ) (lt : i < TABLE_ENTRIES) (lacks : L i ≡ None) (c : (g : ℕ) → g < TABLE_ENTRIES → K g ≡ (if g == i then Some f else L g)) where
        lacking : has_number i leaves ≡ false
        lacking = h.group i lt ∙ ap is_some lacks

        group_in : (g : ℕ) → g < TABLE_ENTRIES → (g ≡ i) ⊎ (g ≢ i) → has_number g (leaves ++ i ∷ []) ≡ is_some (K g)
        group_in g le (inl s) = has_more g leaves i ∙ ap (λ (t : Bool). has_number g leaves || t) (eq-eqb i g (sym s)) ∙ or_true (has_number g leaves) ∙ sym (ap is_some (c g le ∙ ap (λ (t : Bool). if t then Some f else L g) (eq-eqb g i s))) where
          or_true : (t : Bool) → (t || true) ≡ true
          or_true true = refl
          or_true false = refl
        group_in g le (inr d) = has_more g leaves i ∙ ap (λ (t : Bool). has_number g leaves || t) (ne_eqb i g (λ s. d (sym s))) ∙ or_false (has_number g leaves) ∙ h.group g le ∙ sym (ap is_some (c g le ∙ ap (λ (t : Bool). if t then Some f else L g) (ne_eqb g i d))) where
          or_false : (t : Bool) → (t || false) ≡ t
          or_false true = refl
          or_false false = refl

        low_in : (g : ℕ) → (g ≡ i) ⊎ (g ≢ i) → has_number g (leaves ++ i ∷ []) ≡ true → g < TABLE_ENTRIES
        low_in g (inl s) t = let k : g ≡ i = s in omega arith
        low_in g (inr d) t = h.low g (sym (has_more g leaves i ∙ ap (λ (t : Bool). has_number g leaves || t) (ne_eqb i g (λ s. d (sym s))) ∙ or_false (has_number g leaves)) ∙ t) where
          or_false : (t : Bool) → (t || false) ≡ t
          or_false true = refl
          or_false false = refl

        pub leafed : IsReadAs m Q N K pages (map.insert vmap v to) (leaves ++ i ∷ [])
        leafed = record {
          count = h.count ∙ sym e;
          page = λ q. h.page q ∙ sym (a q);
          mapping = maps;
          past = past_in;
          group = λ g le. group_in g le (same_or_not g i);
          low = λ g t. low_in g (same_or_not g i) t;
          once = once_more leaves i h.once lacking;
        }

    -- it maps to nothing
    module _ (b : (u : ℕ) → u < 2 ^ 18 → N u ≡ (if u == v then None else M u)) where
      mapping_out : (u : ℕ) → map.get (map.remove vmap v) u ≡ (if u == v then None else map.get vmap u)
      mapping_out u = map.get-remove nat_cmp_total vmap v u ∙ ap (λ (t : Bool). cond t None (map.get vmap u)) (unsigned_tied u v)

      pub unmapped : ((g : ℕ) → g < TABLE_ENTRIES → K g ≡ L g) → IsReadAs m Q N K pages (map.remove vmap v) leaves
      unmapped c = record {
        count = h.count ∙ sym e;
        page = λ q. h.page q ∙ sym (a q);
        mapping = λ u lt. mapping_out u ∙ ap (λ (x : Option Mapping). if u == v then None else x) (h.mapping u lt) ∙ sym (b u lt);
        past = λ u le. mapping_out u ∙ other_key (u == v) u v None (map.get vmap u) refl (far u le) ∙ h.past u le;
        group = λ g lt. h.group g lt ∙ sym (ap is_some (c g lt));
        low = h.low;
        once = h.once;
      }
