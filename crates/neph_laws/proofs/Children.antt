-- The child of a commit is its parent in all but the listed parts.
use Rattle.std.proofs.Common.{◌≡◌, ◌≢◌, ℕ, ◌<◌, ◌≤◌, true, false, not, cond, eqb, List, [], ◌∷◌, length, get_or, set, map, Option, Some, None, inl, inr, refl, sym, ap, subst, ◌∙◌, arith}
use Rattle.std.specs.Prelude.{is_some, unwrap_or, option_map}
use Rattle.std.specs.List.{range_with_len}
use Rattle.std.specs.Option.{option_map_or}
use Rattle.std.specs.Ordering.{nat_cmp, eq_by_cmp}
use Rattle.std.specs.Cmp.{nat_cmp_total, eq_by_cmp_equiv, unsigned_tied}
use Rattle.std.specs.FinMap as fm
use Rattle.std.proofs.lemmas.Bool.{eqb-true, cases_lt}
use Rattle.std.proofs.lemmas.List.{get_or-set_same, get_or-set_other, get_or_past, length-set}
use Rattle.std.proofs.lemmas.List.FromFn.{length-map-range_with_len, get_or-map-range_with_len}
use Rattle.neph_base.specs.declared.reply.Entry.TheVariants.{Commit}
use Rattle.neph_base.specs.declared.reply.Reply.TheVariants as reply
use Rattle.neph_model.specs.declared.script.Script.{Script}
use Rattle.neph_model.specs.declared.told.Told.{Told}
use Rattle.neph_model.specs.declared.own.Own.{Own}
use Rattle.neph_model.specs.declared.life.Life.{Life}
use Rattle.neph_model.specs.declared.life.Guest.{Guest}
use Rattle.neph_model.specs.Memory.{page_with_identity, zero_page, child_network_page}
use Rattle.neph_model.specs.Machine.{Exposed, Machine, no_own, no_guest, own_at, life_at, guest_at, exposed_at}
use Rattle.neph_model.specs.Own.{page_of}
use Rattle.neph_model.specs.Births.{child_own, parent_own, child_guest, child_exposed, with_changed, commit}
use Rattle.neph_model.specs.Flat.{Domain, domain_at, flat_domain}
use Rattle.neph_model.specs.Step.{Locked, bear, child_made, shared_commit, step}
use Rattle.neph_model.specs.Laws.{IsChild, LeavesChild, CopiesItsParent}

-- a page of an own half and these exposed pages
abbrev page_in : Own → Exposed → ℕ → List ℕ
page_in o exposed pfn = unwrap_or (page_of o pfn) (unwrap_or (fm.get exposed pfn) [])

-- the flat domain of an own half, these exposed pages and what is kept of it
abbrev flat_from : Own → Exposed → Guest → ℕ → Life → Domain
flat_from o exposed g id l =
    record {
      id = id;
      parent = l.parent;
      family = l.family;
      program = l.program;
      line = o.line;
      came = o.came;
      refused = o.refused;
      limit = l.limit;
      accepted = g.accepted;
      pages = map (page_in o exposed) (range_with_len 0 l.size);
      vmap = o.vmap;
      leaves = o.leaves;
      grants = g.grants;
      handles = g.handles;
    }

page_at : (f : ℕ → List ℕ) (n pfn : ℕ) → pfn < n → get_or (map f (range_with_len 0 n)) pfn [] ≡ f pfn
page_at f n pfn lt = get_or-map-range_with_len f 0 n pfn pfn [] lt (omega arith)

no_page : (f : ℕ → List ℕ) (n pfn : ℕ) → n ≤ pfn → get_or (map f (range_with_len 0 n)) pfn [] ≡ []
no_page f n pfn le = get_or_past (map f (range_with_len 0 n)) pfn [] (omega (arith, length-map-range_with_len f 0 n))

-- exposed pages behind a change of one
changed_other : (ps : Exposed) (p : ℕ) (f : List ℕ → List ℕ) (q : ℕ) → q ≢ p → fm.get (with_changed ps p f) q ≡ fm.get ps q
changed_other ps p f q far = at (fm.get ps p) where
  apart : eq_by_cmp nat_cmp q p ≡ false
  apart = unsigned_tied q p ∙ elim (eqb q p) as (λ v. eqb q p ≡ v → v ≡ false) [
    | true ↦ λ e. absurd (far (eqb-true q p e))
    | false ↦ λ e. refl
  ] refl

  at : (o : Option (List ℕ)) → fm.get (option_map_or (λ page. fm.insert ps p (f page)) o ps) q ≡ fm.get ps q
  at None = refl
  at (Some x) = fm.get-insert nat_cmp_total ps p (f x) q ∙ ap (λ b. cond b (Some (f x)) (fm.get ps q)) apart

changed_same : (ps : Exposed) (p : ℕ) (f : List ℕ → List ℕ) (x : List ℕ) → fm.get ps p ≡ Some x → fm.get (with_changed ps p f) p ≡ Some (f x)
changed_same ps p f x is =
    ap (λ o. fm.get (option_map_or (λ page. fm.insert ps p (f page)) o ps) p) is ∙ fm.get-insert nat_cmp_total ps p (f x) p
    ∙ ap (λ b. cond b (Some (f x)) (fm.get ps p)) ((eq_by_cmp_equiv nat_cmp_total).refl p)

there : (o : Option (List ℕ)) → is_some o ≡ true → (x : List ℕ) × (o ≡ Some x)
there None e = absurd cc
there (Some x) e = (x, refl)

away : (o : Option (List ℕ)) → is_some o ≡ false → o ≡ None
away None e = refl
away (Some x) e = absurd cc

module _ (o : Own) (ps : Exposed) (child id n : ℕ) (size : length o.pages ≡ n) (apart : (pfn : ℕ) → pfn < n → is_some (page_of o pfn) ≡ not (is_some (fm.get ps pfn))) (devices : (pfn : ℕ) → 0 < pfn → pfn < 4 → is_some (fm.get ps pfn) ≡ true) (identity : is_some (fm.get ps 0) ≡ false) where
  abbrev new : ℕ → List ℕ
  new = page_in (child_own child id o) (child_exposed ps)

  abbrev first : Exposed
  first = with_changed ps 1 (λ page. zero_page)

  abbrev second : Exposed
  second = with_changed first 2 child_network_page

  own_other : (pfn : ℕ) → 0 < pfn → page_of (child_own child id o) pfn ≡ page_of o pfn
  own_other pfn lt = get_or-set_other o.pages 0 pfn (option_map (λ page. page_with_identity page child id (length o.pages)) (page_of o 0)) None (omega arith)

  other_page : (pfn : ℕ) → 4 ≤ pfn → new pfn ≡ page_in o ps pfn
  other_page pfn le =
      let exposed : fm.get (child_exposed ps) pfn ≡ fm.get ps pfn =
      changed_other second 3 (λ page. zero_page) pfn (omega arith) ∙ changed_other first 2 child_network_page pfn (omega arith) ∙ changed_other ps 1 (λ page. zero_page) pfn (omega arith) in
      ap (λ q. unwrap_or q (unwrap_or (fm.get (child_exposed ps) pfn) [])) (own_other pfn (omega arith)) ∙ ap (λ q. unwrap_or (page_of o pfn) (unwrap_or q [])) exposed

  -- a device page is what stands in the shared half
  device_page : (pfn : ℕ) (x : List ℕ) → 0 < pfn → pfn < 4 → pfn < n → fm.get (child_exposed ps) pfn ≡ Some x → new pfn ≡ x
  device_page pfn x low high within is =
      let gone : page_of o pfn ≡ None = away (page_of o pfn) (apart pfn within ∙ ap not (devices pfn low high)) in
      ap (λ q. unwrap_or q (unwrap_or (fm.get (child_exposed ps) pfn) [])) (own_other pfn low ∙ gone) ∙ ap (λ q. unwrap_or q []) is

  old_device : (pfn : ℕ) (x : List ℕ) → 0 < pfn → pfn < 4 → pfn < n → fm.get ps pfn ≡ Some x → page_in o ps pfn ≡ x
  old_device pfn x low high within is =
      let gone : page_of o pfn ≡ None = away (page_of o pfn) (apart pfn within ∙ ap not (devices pfn low high)) in
      ap (λ q. unwrap_or q (unwrap_or (fm.get ps pfn) [])) gone ∙ ap (λ q. unwrap_or q []) is

  console_page : 1 < n → new 1 ≡ zero_page
  console_page lt =
      let x = there (fm.get ps 1) (devices 1 (omega arith) (omega arith)) in
      device_page 1 zero_page (omega arith) (omega arith) lt
      (changed_other second 3 (λ page. zero_page) 1 (omega arith) ∙ changed_other first 2 child_network_page 1 (omega arith) ∙ changed_same ps 1 (λ page. zero_page) x.0 x.1)

  network_page : 2 < n → new 2 ≡ child_network_page (page_in o ps 2)
  network_page lt =
      let x = there (fm.get ps 2) (devices 2 (omega arith) (omega arith)) in
      let before : fm.get first 2 ≡ Some x.0 = changed_other ps 1 (λ page. zero_page) 2 (omega arith) ∙ x.1 in
      device_page 2 (child_network_page x.0) (omega arith) (omega arith) lt
      (changed_other second 3 (λ page. zero_page) 2 (omega arith) ∙ changed_same first 2 child_network_page x.0 before)
      ∙ ap child_network_page (sym (old_device 2 x.0 (omega arith) (omega arith) lt x.1))

  files_page : 3 < n → new 3 ≡ zero_page
  files_page lt =
      let x = there (fm.get ps 3) (devices 3 (omega arith) (omega arith)) in
      let before : fm.get second 3 ≡ Some x.0 = changed_other first 2 child_network_page 3 (omega arith) ∙ changed_other ps 1 (λ page. zero_page) 3 (omega arith) ∙ x.1 in
      device_page 3 zero_page (omega arith) (omega arith) lt (changed_same second 3 (λ page. zero_page) x.0 before)

  identity_page : 0 < n → new 0 ≡ page_with_identity (page_in o ps 0) child id n
  identity_page lt =
      let x = there (page_of o 0) (apart 0 lt ∙ ap not identity) in
      let f : List ℕ → List ℕ = λ page. page_with_identity page child id (length o.pages) in
      let put : page_of (child_own child id o) 0 ≡ option_map f (page_of o 0) = get_or-set_same o.pages 0 (option_map f (page_of o 0)) None (omega (arith, size)) in
      ap (λ q. unwrap_or q (unwrap_or (fm.get (child_exposed ps) 0) [])) (put ∙ ap (option_map f) x.1)
      ∙ ap (λ k. page_with_identity x.0 child id k) size
      ∙ ap (λ page. page_with_identity page child id n) (sym (ap (λ q. unwrap_or q (unwrap_or (fm.get ps 0) [])) x.1))

  child_pages : (pfn : ℕ) → 4 ≤ pfn → get_or (map new (range_with_len 0 n)) pfn [] ≡ get_or (map (page_in o ps) (range_with_len 0 n)) pfn []
  child_pages pfn le = elim (cases_lt pfn n) [
    | inl lt ↦ page_at new n pfn lt ∙ other_page pfn le ∙ sym (page_at (page_in o ps) n pfn lt)
    | inr ge ↦ no_page new n pfn ge ∙ sym (no_page (page_in o ps) n pfn ge)
  ]

-- the child of a flat domain with such pages
is_child : (o : Own) (ps : Exposed) (child id : ℕ) (l : Life) (g : Guest) → length o.pages ≡ l.size → ((pfn : ℕ) → pfn < l.size → is_some (page_of o pfn) ≡ not (is_some (fm.get ps pfn)))
    → ((pfn : ℕ) → 0 < pfn → pfn < 4 → is_some (fm.get ps pfn) ≡ true) → is_some (fm.get ps 0) ≡ false
    → IsChild child id (flat_from o ps g id l) (flat_from (child_own child id o) (child_exposed ps) (child_guest g) child (record l { parent = id }))
is_child o ps child id l g size apart devices identity =
    let old = page_in o ps in
    let n = l.size in
    let count : length (map old (range_with_len 0 n)) ≡ n = length-map-range_with_len old 0 n in
    let f = new o ps child id n size apart devices identity in
    record {
      names = (refl, refl);
      family = refl;
      program = refl;
      line = refl;
      marks = (refl, refl);
      limit = refl;
      clones = refl;
      vmap = refl;
      leaves = refl;
      grants = refl;
      handles = refl;
      count = length-map-range_with_len f 0 n ∙ sym count;
      identity = λ lt.
          let within : 0 < n = omega (arith, lt, count) in
          page_at f n 0 within ∙ identity_page o ps child id n size apart devices identity within
          ∙ ap (λ k. page_with_identity (old 0) child id k) (sym count) ∙ ap (λ page. page_with_identity page child id (length (map old (range_with_len 0 n)))) (sym (page_at old n 0 within));
      console = λ lt.
          let within : 1 < n = omega (arith, lt, count) in page_at f n 1 within ∙ console_page o ps child id n size apart devices identity within;
      network = λ lt.
          let within : 2 < n = omega (arith, lt, count) in
          page_at f n 2 within ∙ network_page o ps child id n size apart devices identity within ∙ ap child_network_page (sym (page_at old n 2 within));
      files = λ lt.
          let within : 3 < n = omega (arith, lt, count) in page_at f n 3 within ∙ files_page o ps child id n size apart devices identity within;
      others = λ pfn le. child_pages o ps child id n size apart devices identity pfn le;
    }

some_is : {x y : Domain} → Some x ≡ Some y → x ≡ y
some_is e = cc

-- the commit on the shared half, where these children are begun
commits : (s : Script) (m : Machine) (id line child : ℕ) (left : List ℕ) (told : Told) → (guest_at id m.shared.tables).begun ≡ child ∷ left
    → step s m (Commit id line) told
    ≡ record { machine = record { own = set (set m.own child (child_own child id (own_at id m.own))) id (parent_own (own_at id m.own)); shared = commit m.shared id child left }; reply = reply.Child child }
commits s m id line child left told begun =
    ap (λ (d : Locked). let o = own_at id m.own in record { machine = record { own = set (bear m.own id o (child_made (Commit id line) d.reply)) id (parent_own o); shared = d.shared }; reply = d.reply })
    (ap (shared_commit m.shared id) begun)

pub copies_its_parent : CopiesItsParent
copies_its_parent s m id line child left told p l at life shape begun far id_in_own in_own in_lives in_pages in_guests =
    let o = own_at id m.own in
    let ps = exposed_at id m.shared.pages in
    let goes = commits s m id line child left told begun in
    let sh = commit m.shared id child left in
    let owns = set (set m.own child (child_own child id o)) id (parent_own o) in
    let m2 : Machine = record { own = owns; shared = sh } in
    let kid : Life = record l { parent = id } in
    let back : id ≢ child = λ e. far (sym e) in
    let own_there : own_at child owns ≡ child_own child id o =
    get_or-set_other (set m.own child (child_own child id o)) id child (parent_own o) no_own far ∙ get_or-set_same m.own child (child_own child id o) no_own in_own in
    let life_there : life_at child sh.lives ≡ Some kid =
    get_or-set_same m.shared.lives child _ None in_lives ∙ ap (option_map (λ (l : Life). record l { parent = id })) life in
    let pages_there : exposed_at child sh.pages ≡ child_exposed ps = get_or-set_same m.shared.pages child (child_exposed ps) fm.empty in_pages in
    let g = guest_at id m.shared.tables in
    let guest_there : guest_at child sh.tables ≡ child_guest g =
    get_or-set_same (set m.shared.tables.guests id (record (guest_at id m.shared.tables) { begun = left })) child (child_guest g) no_guest (omega (arith, in_guests, length-set m.shared.tables.guests id (record (guest_at id m.shared.tables) { begun = left }))) in
    let c : Domain = flat_from (child_own child id o) (child_exposed ps) (child_guest g) child kid in
    let flat : flat_domain m2 child kid ≡ c =
    ap (λ (h : Own). flat_from h (exposed_at child sh.pages) (guest_at child sh.tables) child kid) own_there
    ∙ ap (λ (q : Exposed). flat_from (child_own child id o) q (guest_at child sh.tables) child kid) pages_there
    ∙ ap (λ (g : Guest). flat_from (child_own child id o) (child_exposed ps) g child kid) guest_there in
    let born : domain_at child m2 ≡ Some c = ap (option_map (flat_domain m2 child)) life_there ∙ ap (λ d. Some d) flat in
    let same : p ≡ flat_domain m id l = some_is (sym at ∙ ap (option_map (flat_domain m id)) life) in
    let count : length p.pages ≡ l.size = ap (λ (d : Domain). length d.pages) same ∙ length-map-range_with_len (page_in o ps) 0 l.size in
    let old : Domain = flat_domain m id l in
    let child_is : IsChild child id old c = is_child o ps child id l g shape.size shape.apart shape.devices shape.identity in
    let others : (other : ℕ) → other ≢ id → other ≢ child → domain_at other m2 ≡ domain_at other m = λ other a b.
    let own_is : own_at other owns ≡ own_at other m.own =
    get_or-set_other (set m.own child (child_own child id o)) id other (parent_own o) no_own a ∙ get_or-set_other m.own child other (child_own child id o) no_own b in
    let life_is : life_at other sh.lives ≡ life_at other m.shared.lives = get_or-set_other m.shared.lives child other _ None b in
    let pages_is : exposed_at other sh.pages ≡ exposed_at other m.shared.pages = get_or-set_other m.shared.pages child other (child_exposed ps) fm.empty b in
    let guest_is : guest_at other sh.tables ≡ guest_at other m.shared.tables =
    get_or-set_other (set m.shared.tables.guests id (record (guest_at id m.shared.tables) { begun = left })) child other (child_guest g) no_guest b
    ∙ get_or-set_other m.shared.tables.guests id other (record (guest_at id m.shared.tables) { begun = left }) no_guest a in
    ap (λ (h : Own). option_map (flat_from h (exposed_at other sh.pages) (guest_at other sh.tables) other) (life_at other sh.lives)) own_is
    ∙ ap (λ (q : Exposed). option_map (flat_from (own_at other m.own) q (guest_at other sh.tables) other) (life_at other sh.lives)) pages_is
    ∙ ap (λ (g : Guest). option_map (flat_from (own_at other m.own) (exposed_at other m.shared.pages) g other) (life_at other sh.lives)) guest_is
    ∙ ap (option_map (flat_from (own_at other m.own) (exposed_at other m.shared.pages) (guest_at other m.shared.tables) other)) life_is in
    subst (LeavesChild m id child p) (sym goes)
    record {
      born = (c, born, subst (λ d. IsChild child id d c) (sym same) child_is);
      parent = get_or-set_same (set m.own child (child_own child id o)) id (parent_own o) no_own (omega (arith, id_in_own, length-set m.own child (child_own child id o)));
      others = others;
      waits = refl;
      answer = refl;
    }
