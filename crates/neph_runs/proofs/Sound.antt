-- What holds of the halves of each live domain, and what lines and births leave of it.
use Rattle.std.proofs.Common.{◌≡◌, ◌≢◌, inl, inr, ℕ, zero, suc, ◌+◌, ◌<◌, ◌≤◌, Bool, true, false, cond, List, [], ◌∷◌, length, get_or, set, Option, Some, None, refl, sym, ap, subst, ◌∙◌, arith, eq-eqb}
use Rattle.std.specs.Prelude.{option_map, not, count_by, IfSome, ◌&&◌, ◌==◌}
use Rattle.std.specs.Option.{is_some, option_map_or}
use Rattle.std.specs.FinMap as fm
use Rattle.std.proofs.lemmas.Bool.{ne_eqb}
use Rattle.std.proofs.lemmas.List.{length-set, get_or-set_same, get_or-set_other}
use Rattle.std.proofs.lemmas.List.Sums.{sum_by-cons}
use Rattle.neph_grant.specs.declared.entry.GrantEntry.{GrantEntry}
use Rattle.neph_grant.specs.declared.table.TheConstants.{GRANT_REFS}
use Rattle.neph_grant.specs.Table.{is_device_grant}
use Rattle.neph_model.specs.declared.own.Own.{Own}
use Rattle.neph_model.specs.declared.memory.Mapping.{Mapping}
use Rattle.neph_model.specs.Memory.{zero_page, page_with_identity, child_network_page}
use Rattle.neph_model.specs.Machine.{Exposed}
use Rattle.neph_model.specs.Own.{page_of}
use Rattle.neph_model.specs.Births.{none_alone, parent_own, child_own, with_changed, child_exposed}
use Rattle.neph_model.specs.Books.{goes_shared, new_count}
use Rattle.neph_runs.specs.Orderly.{Outline, outline}
use Rattle.neph_runs.proofs.Sums.{same_or}
use Rattle.neph_runs.proofs.Steps.{Half, Stays, ComesHome, Steps, with_own, hidden, MapsWithin, insert_shown, insert_count, same_outline}

-- The halves of a domain: each page is in one of them, the device pages are exposed and the identity page isn't, and each virtual page maps to one. Each entry of its grants names an exposed page of its own, and no device page but by its first references.
pub record AreHalves (x : Half) : Type 0 where
  pub hides : hidden x.own ≡ x.exposed.count
  pub apart : (pfn : ℕ) → pfn < length x.own.pages → is_some (page_of x.own pfn) ≡ not (x.exposed.has pfn)
  pub maps : MapsWithin x.own
  pub marks : length x.own.alone ≡ length x.own.pages
  pub devices : (pfn : ℕ) → 0 < pfn → pfn < 4 → x.exposed.has pfn ≡ true
  pub identity : x.exposed.has 0 ≡ false
  pub named : (r : ℕ) (g : GrantEntry) → fm.get x.grants r ≡ Some g → x.exposed.has g.pfn ≡ true
  pub inside : (r : ℕ) (g : GrantEntry) → fm.get x.grants r ≡ Some g → g.pfn < length x.own.pages
  pub low : (r : ℕ) (g : GrantEntry) → fm.get x.grants r ≡ Some g → r < GRANT_REFS
  pub high : (r : ℕ) (g : GrantEntry) → fm.get x.grants r ≡ Some g → is_device_grant r ≡ false → 4 ≤ g.pfn

-- how many pages are hidden where one that was is shown
pub home_hidden : (pages : List (Option (List ℕ))) (pfn : ℕ) (bytes : List ℕ) → pfn < length pages → get_or pages pfn None ≡ None
    → count_by (λ (p : Option (List ℕ)). not (is_some p)) (set pages pfn (Some bytes)) + 1 ≡ count_by (λ (p : Option (List ℕ)). not (is_some p)) pages
home_hidden [] pfn bytes lt e = absurd (omega arith)
home_hidden (None ∷ ps) zero bytes lt e =
    let one : Option (List ℕ) → ℕ = λ (q : Option (List ℕ)). cond (not (is_some q)) 1 0 in
    omega (arith, sum_by-cons one None ps, sum_by-cons one (Some bytes) ps)
home_hidden (Some p ∷ ps) zero bytes lt e = absurd cc
home_hidden (p ∷ ps) (suc pfn) bytes lt e =
    let one : Option (List ℕ) → ℕ = λ (q : Option (List ℕ)). cond (not (is_some q)) 1 0 in
    omega (arith, home_hidden ps pfn bytes (omega (arith, lt)) e, sum_by-cons one p ps, sum_by-cons one p (set ps pfn (Some bytes)))

pub hidden_none : (o : Option (List ℕ)) → is_some o ≡ false → o ≡ None
hidden_none None e = refl
hidden_none (Some p) e = absurd cc

-- which pages are there, where one more is
home_there : (pages : List (Option (List ℕ))) (pfn q : ℕ) (bytes : List ℕ) → pfn < length pages → is_some (get_or (set pages pfn (Some bytes)) q None) ≡ cond (q == pfn) true (is_some (get_or pages q None))
home_there pages pfn q bytes lt = same_or {P = is_some (get_or (set pages pfn (Some bytes)) q None) ≡ cond (q == pfn) true (is_some (get_or pages q None))} q pfn
    (λ e. rw e (ap is_some (get_or-set_same pages pfn (Some bytes) None lt) ∙ sym (ap (λ b. cond b true (is_some (get_or pages pfn None))) (eq-eqb pfn pfn refl))))
    (λ ne. ap is_some (get_or-set_other pages pfn q (Some bytes) None ne) ∙ sym (ap (λ b. cond b true (is_some (get_or pages q None))) (ne_eqb q pfn ne)))

-- a line leaves the halves apart
module _ (x y : Half) (more : ℕ) (wrote : Option ℕ) (steps : Steps x y more wrote) (h : AreHalves x) where
  stay_halves : Stays x y → AreHalves y
  stay_halves s =
      record {
        hides = s.hides ∙ h.hides ∙ sym s.count;
        apart = λ pfn lt. s.halves pfn ∙ h.apart pfn (omega (arith, lt, steps.pages)) ∙ ap not (sym (s.shown pfn));
        maps = steps.maps h.maps;
        marks = steps.marks ∙ h.marks ∙ sym steps.pages;
        devices = λ pfn low high. s.shown pfn ∙ h.devices pfn low high;
        identity = s.shown 0 ∙ h.identity;
        named = λ r g at. s.shown g.pfn ∙ h.named r g (s.fewer r g at);
        inside = λ r g at. let lt = h.inside r g (s.fewer r g at) in omega (arith, lt, steps.pages);
        low = λ r g at. h.low r g (s.fewer r g at);
        high = λ r g at. h.high r g (s.fewer r g at);
      }

  home_halves : (pfn : ℕ) → ComesHome x y pfn → AreHalves y
  home_halves pfn s =
      let was : page_of x.own pfn ≡ None = hidden_none (page_of x.own pfn) (h.apart pfn s.inside ∙ ap not s.was) in
      let far : (q : ℕ) → q ≢ pfn → y.exposed.has q ≡ x.exposed.has q = λ q ne. s.shown q ∙ ap (λ b. cond b false (x.exposed.has q)) (ne_eqb q pfn ne) in
      let hides = home_hidden x.own.pages pfn s.bytes s.inside was in
      let mine = ap (λ (l : List (Option (List ℕ))). count_by (λ (p : Option (List ℕ)). not (is_some p)) l) s.pages in
      let one = h.hides in
      let count = s.count in
      record {
        hides = omega (arith, hides, mine, one, count);
        apart = λ q lt.
            ap (λ (l : List (Option (List ℕ))). is_some (get_or l q None)) s.pages ∙ home_there x.own.pages pfn q s.bytes s.inside ∙ turned (q == pfn) (x.exposed.has q) (h.apart q (omega (arith, lt, steps.pages))) ∙ ap not (sym (s.shown q));
        maps = steps.maps h.maps;
        marks = steps.marks ∙ h.marks ∙ sym steps.pages;
        devices = λ q low high. let least = s.high in far q (λ e. absurd (omega arith)) ∙ h.devices q low high;
        identity = let least = s.high in far 0 (λ e. absurd (omega arith)) ∙ h.identity;
        named = λ r g at. far g.pfn (s.unnamed r g at) ∙ h.named r g (s.fewer r g at);
        inside = λ r g at. let lt = h.inside r g (s.fewer r g at) in omega (arith, lt, steps.pages);
        low = λ r g at. h.low r g (s.fewer r g at);
        high = λ r g at. h.high r g (s.fewer r g at);
      }
    where
      turned : (b c : Bool) {a : Bool} → a ≡ not c → cond b true a ≡ not (cond b false c)
      turned true c e = refl
      turned false c e = e

  pub steps_halves : AreHalves y
  steps_halves = elim steps.moved [ inl s ↦ stay_halves s | inr s ↦ home_halves s.0 s.1 ]

-- a page that isn't the domain's own behind a line wasn't before
pub still_hidden : (x y : Half) (more : ℕ) (wrote : Option ℕ) → Steps x y more wrote → (q : ℕ) → q < length x.own.pages → is_some (page_of y.own q) ≡ false → is_some (page_of x.own q) ≡ false
still_hidden x y more wrote steps q lt none = elim steps.moved [
  | inl s ↦ sym (s.halves q) ∙ none
  | inr s ↦ by (q == s.0) (sym (ap (λ (l : List (Option (List ℕ))). is_some (get_or l q None)) s.1.pages ∙ home_there x.own.pages s.0 q s.1.bytes s.1.inside) ∙ none)
] where
  by : (b : Bool) {a : Bool} → cond b true a ≡ false → a ≡ false
  by true e = absurd cc
  by false e = e

none_size : (alone : List Bool) → length (none_alone alone) ≡ length alone
none_size [] = refl
none_size (a ∷ rest) = ap suc (none_size rest)

pub parent_halves : (x : Half) → AreHalves x → AreHalves (with_own x (parent_own x.own))
parent_halves x h =
    record {
      hides = h.hides;
      apart = h.apart;
      maps = h.maps;
      marks = none_size x.own.alone ∙ h.marks;
      devices = h.devices;
      identity = h.identity;
      named = h.named;
      inside = h.inside;
      low = h.low;
      high = h.high;
    }

-- another page in the place of the first, where there is one
pub first_some : (pages : List (Option (List ℕ))) (f : List ℕ → List ℕ) (at : ℕ) → is_some (get_or (set pages 0 (option_map f (get_or pages 0 None))) at None) ≡ is_some (get_or pages at None)
first_some [] f at = refl
first_some (None ∷ ps) f zero = refl
first_some (Some p ∷ ps) f zero = refl
first_some (p ∷ ps) f (suc at) = refl

first_hidden : (pages : List (Option (List ℕ))) (f : List ℕ → List ℕ) → count_by (λ p. not (is_some p)) (set pages 0 (option_map f (get_or pages 0 None))) ≡ count_by (λ p. not (is_some p)) pages
first_hidden [] f = refl
first_hidden (None ∷ ps) f = refl
first_hidden (Some p ∷ ps) f = refl

changed_shown : (e : Exposed) (k : ℕ) (by : List ℕ → List ℕ) (q : ℕ) → is_some (fm.get (with_changed e k by) q) ≡ is_some (fm.get e q)
changed_shown e k by q = go (fm.get e k) refl where
  go : (x : Option (List ℕ)) → fm.get e k ≡ x → is_some (fm.get (option_map_or (λ page. fm.insert e k (by page)) x e) q) ≡ is_some (fm.get e q)
  go None is = refl
  go (Some page) is = insert_shown e k (by page) q (ap is_some is)

changed_count : (e : Exposed) (k : ℕ) (by : List ℕ → List ℕ) → fm.len (with_changed e k by) ≡ fm.len e
changed_count e k by = go (fm.get e k) refl where
  go : (x : Option (List ℕ)) → fm.get e k ≡ x → fm.len (option_map_or (λ page. fm.insert e k (by page)) x e) ≡ fm.len e
  go None is = refl
  go (Some page) is = insert_count e k (by page) (ap is_some is)

module _ (e : Exposed) where
  abbrev one : Exposed
  one = with_changed e 1 (λ page. zero_page)

  abbrev two : Exposed
  two = with_changed one 2 child_network_page

  pub child_shown : (q : ℕ) → is_some (fm.get (child_exposed e) q) ≡ is_some (fm.get e q)
  child_shown q = changed_shown two 3 (λ page. zero_page) q ∙ changed_shown one 2 child_network_page q ∙ changed_shown e 1 (λ page. zero_page) q

  pub child_count : fm.len (child_exposed e) ≡ fm.len e
  child_count = changed_count two 3 (λ page. zero_page) ∙ changed_count one 2 child_network_page ∙ changed_count e 1 (λ page. zero_page)

-- a child has the exposed pages of its parent
pub child_outline : (e : Exposed) → outline (child_exposed e) ≡ outline e
child_outline e = same_outline e (child_exposed e) (child_shown e) (child_count e)

pub child_halves : (child id : ℕ) (x : Half) → AreHalves x → AreHalves (with_own x (child_own child id x.own))
child_halves child id x h =
    let o = x.own in
    let f : List ℕ → List ℕ = λ page. page_with_identity page child id (length o.pages) in
    let lengths = length-set o.pages 0 (option_map f (page_of o 0)) in
    record {
      hides = first_hidden o.pages f ∙ h.hides;
      apart = λ pfn lt. first_some o.pages f pfn ∙ h.apart pfn (omega (arith, lt, lengths));
      maps = λ vpn. subst (λ k. IfSome (fm.get o.vmap vpn) (λ (to : Mapping). to.pfn < k)) (sym lengths) (h.maps vpn);
      marks = none_size o.alone ∙ h.marks ∙ sym lengths;
      devices = λ pfn low high. h.devices pfn low high;
      identity = h.identity;
      named = h.named;
      inside = λ r g at. let lt = h.inside r g at in omega (arith, lt, lengths);
      low = h.low;
      high = h.high;
    }

-- how many new colours a child needs for these pages, which aren't the first
new_from : (o : Own) (pfn : ℕ) (ps : List (Option (List ℕ))) (cs : List ℕ) → ((j : ℕ) → page_of o (pfn + j) ≡ get_or ps j None) → 0 < pfn → length cs ≤ length ps → new_count o pfn cs ≤ count_by (λ p. not (is_some p)) ps
new_from o pfn ps [] at pos le = omega arith
new_from o pfn [] (c ∷ cs) at pos le = absurd (omega arith)
new_from o pfn (p ∷ ps) (c ∷ cs) at pos le =
    let here : page_of o pfn ≡ p = ap (page_of o) (omega arith) ∙ at 0 in
    let rest = new_from o (suc pfn) ps cs (λ j. ap (page_of o) (omega arith) ∙ at (suc j)) (omega arith) (omega arith) in
    let all = sum_by-cons (λ (q : Option (List ℕ)). cond (not (is_some q)) 1 0) p ps in
    let shared : goes_shared o pfn ≡ is_some p = ap (λ b. not b && is_some (page_of o pfn)) (ne_eqb pfn 0 (λ e. absurd (omega arith))) ∙ ap is_some here in
    let one = bits (is_some p) (new_count o (suc pfn) cs) (count_by (λ q. not (is_some q)) ps) rest in
    let cut = ap (λ b. cond b (new_count o (suc pfn) cs) (1 + new_count o (suc pfn) cs)) shared in
    omega (arith, all, one, cut)
  where
    bits : (b : Bool) (n k : ℕ) → n ≤ k → cond b n (1 + n) ≤ cond (not b) 1 0 + k
    bits true n k le = omega arith
    bits false n k le = omega arith

-- a child needs a new colour for its identity page, and for each exposed page
pub new_most : (o : Own) (cs : List ℕ) → length cs ≤ length o.pages → new_count o 0 cs ≤ 1 + hidden o
new_most o cs le = go o.pages refl cs le where
  go : (ps : List (Option (List ℕ))) → o.pages ≡ ps → (cs : List ℕ) → length cs ≤ length o.pages → new_count o 0 cs ≤ 1 + hidden o
  go ps is [] le = omega arith
  go [] is (c ∷ cs) le = let none = ap (λ l. length l) is in absurd (omega arith)
  go (p ∷ ps) is (c ∷ cs) le =
      let many = ap (λ l. length l) is in
      let at : (j : ℕ) → page_of o (1 + j) ≡ get_or ps j None = λ j. ap (page_of o) (omega arith) ∙ ap (λ l. get_or l (suc j) None) is in
      let rest = new_from o 1 ps cs at (omega arith) (omega arith) in
      let all = sum_by-cons (λ (q : Option (List ℕ)). cond (not (is_some q)) 1 0) p ps in
      let same = ap (count_by (λ (q : Option (List ℕ)). not (is_some q))) is in
      omega (arith, rest, all, same)
