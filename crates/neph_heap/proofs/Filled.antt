-- A child's exposed pages, page by page.
use Rattle.std.proofs.Common.{◌≡◌, ◌≢◌, ℕ, suc, ◌+◌, ◌<◌, ◌≤◌, ◌==◌, Bool, true, false, cond, List, [], ◌∷◌, ◌++◌, map, length, take, get_or, Some, None, refl, sym, ap, ◌∙◌, subst, arith, inl, inr, eq-eqb, ne_eqb}
use Rattle.std.specs.Prelude.{option_map, is_some}
use Rattle.std.specs.Option.{option_map_or}
use Rattle.std.specs.List.{range_with_len}
use Rattle.std.specs.Ordering.{nat_cmp, eq_by_cmp}
use Rattle.std.specs.Cmp.{nat_cmp_total, unsigned_tied}
use Rattle.std.specs.FinMap as fm
use Rattle.std.specs.FinMap.{get-from_entries, get-insert, len-insert, len-empty, same_map, nat_cmp-IsAntisymmetric}
use Rattle.std.specs.declared.option.Option.{Option}
use Rattle.std.proofs.lemmas.List.{take_more, map-append, length-map}
use Rattle.neph_model.specs.Memory.{zero_page, child_network_page}
use Rattle.neph_model.specs.Machine.{Exposed}
use Rattle.neph_model.specs.Start.{start_exposed}
use Rattle.neph_model.specs.Births.{with_changed, child_exposed}
use Rattle.neph_pool.specs.declared.entry.Entry.{Entry}
use Rattle.neph_pool.specs.Entries.{words_at, with_words}
use Rattle.neph_pool.specs.Bytes.{bytes_at, bytes_of}
use Rattle.neph_pool.proofs.Entries.{words_at-with_words_other}
use Rattle.neph_pool.proofs.Rows.{same_or_not}
use Rattle.neph_heap.specs.declared.exposed_frame.ExposedFrame.{ExposedFrame}
use Rattle.neph_heap.specs.Lists.{frames_of, pfns_of, frame_in}
use Rattle.neph_heap.specs.Holds.{times}
use Rattle.neph_heap.specs.Heap.{ArePages}
use Rattle.neph_heap.specs.Pages.{page_in, page_map, child_page, child_page_in, zero_page_at}
use Rattle.neph_heap.proofs.Counting.{one_at, one_same, times_cons, times_more, times_take, range_once, range_more}
use Rattle.neph_heap.proofs.Among.{frame_next}
use Rattle.neph_heap.proofs.Shown.{pairs_same}
use Rattle.neph_heap.proofs.Maps.{page_at}
use Rattle.neph_heap.proofs.Spans.{console_page, network_page, p9_page, other_page}

-- a page's frame is one of their frames
pub page_named : (xs : List ExposedFrame) (i : ℕ) (x : ExposedFrame) → i < length xs → x ≡ get_or xs i x → 0 < times x.frame (frames_of xs)
page_named xs i x lt e =
    let next = frame_next xs i x lt e in
    let one : one_at x.frame (get_or (frames_of xs) i x.frame) ≡ 1 = one_same x.frame (get_or (frames_of xs) i x.frame) (sym next.1) in
    omega (arith, times_more x.frame (frames_of xs) i x.frame next.0, times_take x.frame (frames_of xs) (i + 1), one)

-- one page more of a child is filled
pub record IsMore (es fs : List (Option Entry)) (parent : List ExposedFrame) (put : List ℕ) (i : ℕ) (born : List ExposedFrame) : Type 0 where
  pub pages : map (page_in fs) born ≡ map (child_page_in es) (take i parent)
  pub frames : frames_of born ≡ take i put
  pub words : (f : ℕ) → times f (take i put) ≡ 0 → words_at fs f ≡ words_at es f

pub filled_more : (es now fs : List (Option Entry)) (parent : List ExposedFrame) (frames : List ℕ) (i : ℕ) (born all : List ExposedFrame) (x : ExposedFrame) (y : ℕ) → IsMore es now parent frames i born → i < length parent → i < length frames → x ≡ get_or parent i x → y ≡ get_or frames i y
    → ((f : ℕ) → times f frames ≤ 1) → times x.frame frames ≡ 0 → fs ≡ with_words now y (words_at fs y) → bytes_at fs y ≡ child_page x.pfn (bytes_at now x.frame) → all ≡ born ++ record { pfn = x.pfn; frame = y } ∷ [] → IsMore es fs parent frames (i + 1) all
filled_more es now fs parent frames i born all x y was lp lf ex ey once apart is bytes grown =
    let other : (f : ℕ) → f ≢ y → words_at fs f ≡ words_at now f = λ f n. ap (λ (zs : List (Option Entry)). words_at zs f) is ∙ words_at-with_words_other now y (words_at fs y) f n in
    let new : times y (take i frames) ≡ 0 = omega (arith, times_more y frames i y lf, one_same y (get_or frames i y) (sym ey), times_take y frames (i + 1), once y) in
    let still : map (page_in fs) born ≡ map (page_in now) born = pairs_same now fs born (λ f lt. other f (λ (e : f ≡ y).
    let k : times f (frames_of born) ≡ times y (take i frames) = ap (λ (zs : List ℕ). times f zs) was.frames ∙ ap (λ (g : ℕ). times g (take i frames)) e in omega (arith, k, new, lt))) in
    let old : words_at now x.frame ≡ words_at es x.frame = was.words x.frame (omega (arith, times_take x.frame frames i, apart)) in
    let page : page_in fs (record { pfn = x.pfn; frame = y }) ≡ child_page_in es x = ap (λ (p : List ℕ). (x.pfn, p)) (bytes ∙ ap (λ (ws : List ℕ). child_page x.pfn (bytes_of ws)) old) in record {
      pages = ap (map (page_in fs)) grown ∙ map-append (page_in fs) born (record { pfn = x.pfn; frame = y } ∷ []) ∙ ap (λ ps. ps ++ page_in fs (record { pfn = x.pfn; frame = y }) ∷ []) (still ∙ was.pages)
          ∙ ap (λ p. map (child_page_in es) (take i parent) ++ p ∷ []) (page ∙ ap (child_page_in es) ex) ∙ sym (map-append (child_page_in es) (take i parent) (get_or parent i x ∷ [])) ∙ ap (map (child_page_in es)) (sym (take_more parent i x lp));
      frames = ap frames_of grown ∙ map-append (λ (z : ExposedFrame). z.frame) born (record { pfn = x.pfn; frame = y } ∷ []) ∙ ap (λ (zs : List ℕ). zs ++ y ∷ []) was.frames ∙ ap (λ (f : ℕ). take i frames ++ f ∷ []) ey ∙ sym (take_more frames i y lf);
      words = λ f none.
          let more = times_more f frames i y lf in
          let n : f ≢ y = (λ (e : f ≡ y). let one = one_same f (get_or frames i y) (sym ey ∙ sym e) in omega arith) in
          other f n ∙ was.words f (omega arith);
    }

-- a page that is changed where it is the one
unfoldable if_same : ℕ → ℕ → (List ℕ → List ℕ) → List ℕ → List ℕ
if_same q k by p = cond (q == k) (by p) p

if_yes : (q k : ℕ) (by : List ℕ → List ℕ) (p : List ℕ) → q ≡ k → if_same q k by p ≡ by p
unfolding if_same
if_yes q k by p e = rw (eq-eqb q k e) refl

if_else : (q k : ℕ) (by : List ℕ → List ℕ) (p : List ℕ) → q ≢ k → if_same q k by p ≡ p
unfolding if_same
if_else q k by p n = rw (ne_eqb q k n) refl

same_all : (o : Option (List ℕ)) (h : List ℕ → List ℕ) → ((p : List ℕ) → h p ≡ p) → o ≡ option_map h o
same_all None h e = refl
same_all (Some p) h e = ap (λ (x : List ℕ). Some x) (sym (e p))

-- a map with one page changed, page by page
changed_at : (m : Exposed) (k : ℕ) (by : List ℕ → List ℕ) (q : ℕ) → fm.get (with_changed m k by) q ≡ option_map (λ p. if_same q k by p) (fm.get m q)
changed_at m k by q = at (fm.get m k) refl where
  at : (o : Option (List ℕ)) → fm.get m k ≡ o → fm.get (option_map_or (λ p. fm.insert m k (by p)) o m) q ≡ option_map (λ p. if_same q k by p) (fm.get m q)
  at None e = elim (same_or_not q k) [
    | inl s ↦ let z : fm.get m q ≡ None = ap (fm.get m) s ∙ e in rw z refl
    | inr n ↦ same_all (fm.get m q) (λ p. if_same q k by p) (λ p. if_else q k by p n)
  ]
  at (Some p) e = get-insert nat_cmp_total m k (by p) q ∙ elim (same_or_not q k) [
    | inl s ↦ let z : fm.get m q ≡ Some p = ap (fm.get m) s ∙ e in rw (unsigned_tied q k, eq-eqb q k s, z) (ap (λ (x : List ℕ). Some x) (sym (if_yes q k by p s)))
    | inr n ↦ rw (unsigned_tied q k, ne_eqb q k n) (same_all (fm.get m q) (λ p. if_same q k by p) (λ p. if_else q k by p n))
  ]

twice : (o : Option (List ℕ)) (h k : List ℕ → List ℕ) → option_map k (option_map h o) ≡ option_map (λ p. k (h p)) o
twice None h k = refl
twice (Some p) h k = refl

by_all : (o : Option (List ℕ)) (h k : List ℕ → List ℕ) → ((p : List ℕ) → h p ≡ k p) → option_map h o ≡ option_map k o
by_all None h k e = refl
by_all (Some p) h k e = ap (λ (x : List ℕ). Some x) (e p)

-- the three changes of a child's pages are those of each page
three : (q : ℕ) (p : List ℕ) → if_same q 3 (λ x. zero_page) (if_same q 2 child_network_page (if_same q 1 (λ x. zero_page) p)) ≡ child_page q p
three q p = elim (same_or_not q 1) [
  | inl a ↦
      let b : q ≢ 2 = (λ (e : q ≡ 2). omega arith) in
      let c : q ≢ 3 = (λ (e : q ≡ 3). omega arith) in
      if_else q 3 (λ x. zero_page) _ c ∙ if_else q 2 child_network_page _ b ∙ if_yes q 1 (λ x. zero_page) p a ∙ sym (console_page q p a)
  | inr a ↦ elim (same_or_not q 2) [
    | inl b ↦
        let c : q ≢ 3 = (λ (e : q ≡ 3). omega arith) in
        if_else q 3 (λ x. zero_page) _ c ∙ if_yes q 2 child_network_page _ b ∙ ap child_network_page (if_else q 1 (λ x. zero_page) p a) ∙ sym (network_page q p b)
    | inr b ↦ elim (same_or_not q 3) [
      | inl c ↦ if_yes q 3 (λ x. zero_page) _ c ∙ sym (p9_page q p c)
      | inr c ↦ if_else q 3 (λ x. zero_page) _ c ∙ if_else q 2 child_network_page _ b ∙ if_else q 1 (λ x. zero_page) p a ∙ sym (other_page q p a b c)
    ]
  ]
]

child_at : (m : Exposed) (q : ℕ) → fm.get (child_exposed m) q ≡ option_map (child_page q) (fm.get m q)
child_at m q =
    let one = with_changed m 1 (λ p. zero_page) in
    let two = with_changed one 2 child_network_page in
    changed_at two 3 (λ p. zero_page) q ∙ ap (option_map (λ p. if_same q 3 (λ x. zero_page) p)) (changed_at one 2 child_network_page q ∙ ap (option_map (λ p. if_same q 2 child_network_page p)) (changed_at m 1 (λ p. zero_page) q))
    ∙ ap (option_map (λ p. if_same q 3 (λ x. zero_page) p)) (twice (fm.get m q) (λ p. if_same q 1 (λ x. zero_page) p) (λ p. if_same q 2 child_network_page p))
    ∙ twice (fm.get m q) (λ p. if_same q 2 child_network_page (if_same q 1 (λ x. zero_page) p)) (λ p. if_same q 3 (λ x. zero_page) p)
    ∙ by_all (fm.get m q) (λ p. if_same q 3 (λ x. zero_page) (if_same q 2 child_network_page (if_same q 1 (λ x. zero_page) p))) (child_page q) (three q)

found : (es : List (Option Entry)) (xs : List ExposedFrame) (q : ℕ) → fm.find nat_cmp q (map (child_page_in es) xs) ≡ option_map (child_page q) (fm.find nat_cmp q (map (page_in es) xs))
found es [] q = refl
found es (x ∷ xs) q = elim (same_or_not q x.pfn) [
  | inl s ↦ rw (unsigned_tied q x.pfn, eq-eqb q x.pfn s) (ap (λ (k : ℕ). Some (child_page k (bytes_at es x.frame))) (sym s))
  | inr n ↦ rw (unsigned_tied q x.pfn, ne_eqb q x.pfn n) (found es xs q)
]

-- a child's pages, each filled as it is, are those of the child
pub child_map : (es fs : List (Option Entry)) (parent born : List ExposedFrame) → map (page_in fs) born ≡ map (child_page_in es) parent → page_map fs born ≡ child_exposed (page_map es parent)
unfolding page_map
child_map es fs parent born e =
    ap (λ (ps : List (ℕ × List ℕ)). fm.from_entries ps) e
    ∙ same_map nat_cmp_total nat_cmp-IsAntisymmetric _ _ (λ q.
    get-from_entries nat_cmp_total (map (child_page_in es) parent) q ∙ found es parent q ∙ ap (option_map (child_page q)) (sym (get-from_entries nat_cmp_total (map (page_in es) parent) q))
    ∙ sym (child_at (fm.from_entries (map (page_in es) parent)) q))

firsts : (es : List (Option Entry)) (xs : List ExposedFrame) → map (λ (p : ℕ × List ℕ). p.0) (map (page_in es) xs) ≡ pfns_of xs
firsts es [] = refl
firsts es (x ∷ xs) = ap (λ (ys : List ℕ). x.pfn ∷ ys) (firsts es xs)

child_firsts : (es : List (Option Entry)) (xs : List ExposedFrame) → map (λ (p : ℕ × List ℕ). p.0) (map (child_page_in es) xs) ≡ pfns_of xs
child_firsts es [] = refl
child_firsts es (x ∷ xs) = ap (λ (ys : List ℕ). x.pfn ∷ ys) (child_firsts es xs)

-- a child's pages have their parent's numbers
pub born_pages : (es fs : List (Option Entry)) (parent born : List ExposedFrame) → map (page_in fs) born ≡ map (child_page_in es) parent → ArePages parent → ArePages born
born_pages es fs parent born e h =
    let same : pfns_of born ≡ pfns_of parent = sym (firsts fs born) ∙ ap (map (λ (p : ℕ × List ℕ). p.0)) e ∙ child_firsts es parent in
    let size : length born ≡ length parent = sym (length-map born (page_in fs)) ∙ ap length e ∙ length-map parent (child_page_in es) in record {
      once = λ pfn. subst (λ (ys : List ℕ). times pfn ys ≤ 1) (sym same) (h.once pfn);
      few = omega (arith, size, h.few);
    }

no_frame : (q : ℕ) (xs : List ExposedFrame) → times q (pfns_of xs) ≡ 0 → frame_in q xs ≡ None
no_frame q [] z = refl
no_frame q (x ∷ xs) z = elim (same_or_not x.pfn q) [
  | inl s ↦ absurd (omega (arith, z, times_cons q x.pfn (pfns_of xs), one_same q x.pfn s))
  | inr n ↦ rw (ne_eqb x.pfn q n) (no_frame q xs (omega (arith, z, times_cons q x.pfn (pfns_of xs))))
]

-- as many pages as are listed
pub page_count : (es : List (Option Entry)) (xs : List ExposedFrame) → ((pfn : ℕ) → times pfn (pfns_of xs) ≤ 1) → fm.len (page_map es xs) ≡ length xs
unfolding page_map
page_count es [] once = len-empty nat_cmp (List ℕ)
page_count es (x ∷ xs) once =
    let m : Exposed = fm.from_entries (map (page_in es) xs) in
    let none : fm.get m x.pfn ≡ None = page_at es xs x.pfn ∙ ap (option_map (λ f. bytes_at es f)) (no_frame x.pfn xs (omega (arith, once x.pfn, times_cons x.pfn x.pfn (pfns_of xs), one_same x.pfn x.pfn refl))) in
    let rest = page_count es xs (λ pfn. omega (arith, once pfn, times_cons pfn x.pfn (pfns_of xs))) in
    len-insert nat_cmp_total m x.pfn (bytes_at es x.frame) ∙ ap (λ (b : Bool). cond b (fm.len m) (fm.len m + 1)) (ap is_some none) ∙ omega (arith, rest)

-- one device page more is laid
pub record IsLaid (es fs : List (Option Entry)) (put : List ℕ) (i : ℕ) (born : List ExposedFrame) : Type 0 where
  pub pages : map (page_in fs) born ≡ map zero_page_at (range_with_len 1 i)
  pub frames : frames_of born ≡ take i put
  pub words : (f : ℕ) → times f (take i put) ≡ 0 → words_at fs f ≡ words_at es f

pub laid_more : (es now fs : List (Option Entry)) (frames : List ℕ) (i : ℕ) (born all : List ExposedFrame) (pfn y : ℕ) (ws : List ℕ) → IsLaid es now frames i born → i < length frames → pfn ≡ i + 1 → y ≡ get_or frames i y → ((f : ℕ) → times f frames ≤ 1) → fs ≡ with_words now y ws → bytes_at fs y ≡ zero_page → all ≡ born ++ record { pfn = pfn; frame = y } ∷ [] → IsLaid es fs frames (i + 1) all
laid_more es now fs frames i born all pfn y ws was lf en ey once is bytes grown =
    let other : (f : ℕ) → f ≢ y → words_at fs f ≡ words_at now f = λ f n. ap (λ (zs : List (Option Entry)). words_at zs f) is ∙ words_at-with_words_other now y ws f n in
    let new : times y (take i frames) ≡ 0 = omega (arith, times_more y frames i y lf, one_same y (get_or frames i y) (sym ey), times_take y frames (i + 1), once y) in
    let still : map (page_in fs) born ≡ map (page_in now) born = pairs_same now fs born (λ f lt. other f (λ (e : f ≡ y).
    let k : times f (frames_of born) ≡ times y (take i frames) = ap (λ (zs : List ℕ). times f zs) was.frames ∙ ap (λ (g : ℕ). times g (take i frames)) e in omega (arith, k, new, lt))) in
    let number : pfn ≡ 1 + i = omega (arith, en) in
    let page : page_in fs (record { pfn = pfn; frame = y }) ≡ zero_page_at (1 + i) = ap (λ (p : List ℕ). (pfn, p)) bytes ∙ ap zero_page_at number in
    let range : range_with_len 1 (i + 1) ≡ range_with_len 1 i ++ (1 + i) ∷ [] = (let e : i + 1 ≡ suc i = omega arith in ap (range_with_len 1) e ∙ range_more 1 i) in record {
      pages = ap (map (page_in fs)) grown ∙ map-append (page_in fs) born (record { pfn = pfn; frame = y } ∷ []) ∙ ap (λ ps. ps ++ page_in fs (record { pfn = pfn; frame = y }) ∷ []) (still ∙ was.pages)
          ∙ ap (λ p. map zero_page_at (range_with_len 1 i) ++ p ∷ []) page ∙ sym (map-append zero_page_at (range_with_len 1 i) ((1 + i) ∷ [])) ∙ ap (map zero_page_at) (sym range);
      frames = ap frames_of grown ∙ map-append (λ (z : ExposedFrame). z.frame) born (record { pfn = pfn; frame = y } ∷ []) ∙ ap (λ (zs : List ℕ). zs ++ y ∷ []) was.frames ∙ ap (λ (f : ℕ). take i frames ++ f ∷ []) ey ∙ sym (take_more frames i y lf);
      words = λ f none.
          let more = times_more f frames i y lf in
          let n : f ≢ y = (λ (e : f ≡ y). let one = one_same f (get_or frames i y) (sym ey ∙ sym e) in omega arith) in
          other f n ∙ was.words f (omega arith);
    }

zero_firsts : (ns : List ℕ) → map (λ (p : ℕ × List ℕ). p.0) (map zero_page_at ns) ≡ ns
zero_firsts [] = refl
zero_firsts (n ∷ ns) = ap (λ (ys : List ℕ). n ∷ ys) (zero_firsts ns)

-- the device pages are three
pub laid_pages : (fs : List (Option Entry)) (born : List ExposedFrame) → map (page_in fs) born ≡ map zero_page_at (range_with_len 1 3) → ArePages born
laid_pages fs born e =
    let same : pfns_of born ≡ range_with_len 1 3 = sym (firsts fs born) ∙ ap (map (λ (p : ℕ × List ℕ). p.0)) e ∙ zero_firsts (range_with_len 1 3) in
    let size : length born ≡ 3 = sym (length-map born (page_in fs)) ∙ ap length e in record {
      once = λ pfn. subst (λ (ys : List ℕ). times pfn ys ≤ 1) (sym same) (range_once pfn 1 3);
      few = omega (arith, size);
    }

swapped : (a b c : Bool) (x y : Option (List ℕ)) → cond a x (cond b x (cond c x y)) ≡ cond c x (cond b x (cond a x y))
swapped true true true x y = refl
swapped true true false x y = refl
swapped true false true x y = refl
swapped true false false x y = refl
swapped false true true x y = refl
swapped false true false x y = refl
swapped false false true x y = refl
swapped false false false x y = refl

put_three : (i j k : ℕ) (z : List ℕ) (q : ℕ) → fm.get (fm.insert (fm.insert (fm.insert (fm.empty {X = List ℕ} {R = nat_cmp}) k z) j z) i z) q ≡ cond (eq_by_cmp nat_cmp q i) (Some z) (cond (eq_by_cmp nat_cmp q j) (Some z) (cond (eq_by_cmp nat_cmp q k) (Some z) (fm.get (fm.empty {X = List ℕ} {R = nat_cmp}) q)))
put_three i j k z q =
    get-insert nat_cmp_total (fm.insert (fm.insert fm.empty k z) j z) i z q
    ∙ ap (cond (eq_by_cmp nat_cmp q i) (Some z)) (get-insert nat_cmp_total (fm.insert fm.empty k z) j z q ∙ ap (cond (eq_by_cmp nat_cmp q j) (Some z)) (get-insert nat_cmp_total fm.empty k z q))

-- and they are those of a starting domain
pub laid_map : (fs : List (Option Entry)) (born : List ExposedFrame) → map (page_in fs) born ≡ map zero_page_at (range_with_len 1 3) → page_map fs born ≡ start_exposed
unfolding page_map
laid_map fs born e =
    ap (λ (ps : List (ℕ × List ℕ)). fm.from_entries ps) e
    ∙ same_map nat_cmp_total nat_cmp-IsAntisymmetric _ _ (λ q. put_three 1 2 3 zero_page q
    ∙ swapped (eq_by_cmp nat_cmp q 1) (eq_by_cmp nat_cmp q 2) (eq_by_cmp nat_cmp q 3) (Some zero_page) (fm.get (fm.empty {X = List ℕ} {R = nat_cmp}) q) ∙ sym (put_three 3 2 1 zero_page q))
