-- Exposed pages by their numbers.
use Rattle.std.proofs.Common.{◌≡◌, ◌≢◌, ℕ, zero, suc, ◌+◌, ◌<◌, ◌≤◌, cond, List, [], ◌∷◌, map, length, set, get_or, Some, None, refl, sym, ap, ◌∙◌, subst, arith, inl, inr, eq-eqb, ne_eqb}
use Rattle.std.specs.Prelude.{option_map, is_some, unwrap_or}
use Rattle.std.specs.List.{flat_map}
use Rattle.std.specs.Ordering.{nat_cmp, eq_by_cmp}
use Rattle.std.specs.Cmp.{nat_cmp_total, unsigned_tied}
use Rattle.std.specs.FinMap as fm
use Rattle.std.specs.FinMap.{get-from_entries, get-insert, same_map, nat_cmp-IsAntisymmetric}
use Rattle.std.specs.declared.option.Option.{Option}
use Rattle.std.proofs.lemmas.List.{map-set}
use Rattle.neph_model.specs.Machine.{Exposed, exposed_at}
use Rattle.neph_model.specs.Trap.{is_exposed, exposed_bytes}
use Rattle.neph_pool.specs.declared.entry.Entry.{Entry}
use Rattle.neph_pool.specs.Entries.{words_at}
use Rattle.neph_pool.specs.Bytes.{bytes_at, bytes_of}
use Rattle.neph_pool.proofs.Rows.{same_or_not}
use Rattle.neph_heap.specs.declared.exposed_frame.ExposedFrame.{ExposedFrame}
use Rattle.neph_heap.specs.Lists.{frames_of, frame_in, exposed_frames}
use Rattle.neph_heap.specs.Holds.{times}
use Rattle.neph_heap.specs.Pages.{page_in, page_map, pages_in}
use Rattle.neph_heap.proofs.Counting.{one_same, times_cons, times_append, times_in}
use Rattle.neph_heap.proofs.Shown.{page_map_same, pages_same}

pub frame_yes : (q : ℕ) (x : ExposedFrame) (xs : List ExposedFrame) → x.pfn ≡ q → frame_in q (x ∷ xs) ≡ Some x.frame
frame_yes q x xs e = rw (eq-eqb x.pfn q e) refl

pub frame_no : (q : ℕ) (x : ExposedFrame) (xs : List ExposedFrame) → x.pfn ≢ q → frame_in q (x ∷ xs) ≡ frame_in q xs
frame_no q x xs n = rw (ne_eqb x.pfn q n) refl

pub some_same : (a b : ℕ) → Some a ≡ Some b → a ≡ b
some_same a b e = ap (λ (o : Option ℕ). unwrap_or o 0) e

-- a page's frame is one of their frames
pub frame_named : (q f : ℕ) (xs : List ExposedFrame) → frame_in q xs ≡ Some f → 0 < times f (frames_of xs)
frame_named q f [] e = absurd (cc)
frame_named q f (x ∷ xs) e = elim (same_or_not x.pfn q) [
  | inl s ↦ let k : x.frame ≡ f = some_same x.frame f (sym (frame_yes q x xs s) ∙ e) in omega (arith, times_cons f x.frame (frames_of xs), one_same f x.frame k)
  | inr n ↦ omega (arith, times_cons f x.frame (frames_of xs), frame_named q f xs (sym (frame_no q x xs n) ∙ e))
]

-- two pages in one frame name it twice
pub frame_twice : (q p f : ℕ) (xs : List ExposedFrame) → q ≢ p → frame_in q xs ≡ Some f → frame_in p xs ≡ Some f → 2 ≤ times f (frames_of xs)
frame_twice q p f [] ne a b = absurd (cc)
frame_twice q p f (x ∷ xs) ne a b = elim (same_or_not x.pfn q) [
  | inl s ↦
      let k : x.frame ≡ f = some_same x.frame f (sym (frame_yes q x xs s) ∙ a) in
      let n : x.pfn ≢ p = (λ (e : x.pfn ≡ p). ne (sym s ∙ e)) in
      omega (arith, times_cons f x.frame (frames_of xs), one_same f x.frame k, frame_named p f xs (sym (frame_no p x xs n) ∙ b))
  | inr n ↦ elim (same_or_not x.pfn p) [
    | inl s ↦
        let k : x.frame ≡ f = some_same x.frame f (sym (frame_yes p x xs s) ∙ b) in
        omega (arith, times_cons f x.frame (frames_of xs), one_same f x.frame k, frame_named q f xs (sym (frame_no q x xs n) ∙ a))
    | inr m ↦ omega (arith, times_cons f x.frame (frames_of xs), frame_twice q p f xs ne (sym (frame_no q x xs n) ∙ a) (sym (frame_no p x xs m) ∙ b))
  ]
]

pub find_in : (es : List (Option Entry)) (xs : List ExposedFrame) (q : ℕ) → fm.find nat_cmp q (map (page_in es) xs) ≡ option_map (λ f. bytes_at es f) (frame_in q xs)
find_in es [] q = refl
find_in es (x ∷ xs) q = elim (same_or_not x.pfn q) [
  | inl s ↦ rw (unsigned_tied q x.pfn, eq-eqb q x.pfn (sym s), eq-eqb x.pfn q s) refl
  | inr n ↦ rw (unsigned_tied q x.pfn, ne_eqb q x.pfn (λ e. n (sym e)), ne_eqb x.pfn q n) (find_in es xs q)
]

-- the page with a number has the bytes of its frame
pub page_at : (es : List (Option Entry)) (xs : List ExposedFrame) (q : ℕ) → fm.get (page_map es xs) q ≡ option_map (λ f. bytes_at es f) (frame_in q xs)
unfolding page_map
page_at es xs q = get-from_entries nat_cmp_total (map (page_in es) xs) q ∙ find_in es xs q

pub no_page : (es : List (Option Entry)) → page_map es [] ≡ fm.empty
unfolding page_map
no_page es = refl

-- the pages of an id
pub pages_at : (es : List (Option Entry)) (xss : List (List ExposedFrame)) (id : ℕ) → exposed_at id (pages_in es xss) ≡ page_map es (get_or xss id [])
unfolding pages_in
pages_at es [] id = sym (no_page es)
pages_at es (xs ∷ xss) zero = refl
pages_at es (xs ∷ xss) (suc id) = pages_at es xss id

is_some-map : (o : Option ℕ) (h : ℕ → List ℕ) → is_some (option_map h o) ≡ is_some o
is_some-map None h = refl
is_some-map (Some f) h = refl

-- a page is exposed exactly where it has a frame
pub shown_is : (es : List (Option Entry)) (xss : List (List ExposedFrame)) (id pfn : ℕ) → is_exposed (pages_in es xss) id pfn ≡ is_some (frame_in pfn (get_or xss id []))
shown_is es xss id pfn =
    ap (λ (m : Exposed). is_some (fm.get m pfn)) (pages_at es xss id) ∙ ap is_some (page_at es (get_or xss id []) pfn) ∙ is_some-map (frame_in pfn (get_or xss id [])) (λ f. bytes_at es f)

-- its bytes
pub shown_bytes : (es : List (Option Entry)) (xss : List (List ExposedFrame)) (id pfn f : ℕ) → frame_in pfn (get_or xss id []) ≡ Some f → exposed_bytes (pages_in es xss) id pfn ≡ bytes_at es f
shown_bytes es xss id pfn f e =
    ap (λ (m : Exposed). unwrap_or (fm.get m pfn) []) (pages_at es xss id) ∙ ap (λ (o : Option (List ℕ)). unwrap_or o []) (page_at es (get_or xss id []) pfn ∙ ap (option_map (λ f. bytes_at es f)) e)

option_same : (o : Option ℕ) (h k : ℕ → List ℕ) → ((f : ℕ) → o ≡ Some f → h f ≡ k f) → option_map h o ≡ option_map k o
option_same None h k e = refl
option_same (Some f) h k e = ap (λ (p : List ℕ). Some p) (e f refl)

-- one page has other bytes
put_page : (es fs : List (Option Entry)) (xs : List ExposedFrame) (pfn f : ℕ) (page : List ℕ) → frame_in pfn xs ≡ Some f → times f (frames_of xs) ≤ 1 → ((g : ℕ) → g ≢ f → words_at fs g ≡ words_at es g) → bytes_at fs f ≡ page → page_map fs xs ≡ fm.insert (page_map es xs) pfn page
put_page es fs xs pfn f page at once same is = same_map nat_cmp_total nat_cmp-IsAntisymmetric _ _ (λ q. page_at fs xs q ∙ by q ∙ sym (get-insert nat_cmp_total (page_map es xs) pfn page q)) where
  by : (q : ℕ) → option_map (λ g. bytes_at fs g) (frame_in q xs) ≡ cond (eq_by_cmp nat_cmp q pfn) (Some page) (fm.get (page_map es xs) q)
  by q = elim (same_or_not q pfn) [
    | inl s ↦ rw (unsigned_tied q pfn, eq-eqb q pfn s) (ap (λ (k : ℕ). option_map (λ g. bytes_at fs g) (frame_in k xs)) s ∙ ap (option_map (λ g. bytes_at fs g)) at ∙ ap (λ (p : List ℕ). Some p) is)
    | inr n ↦ rw (unsigned_tied q pfn, ne_eqb q pfn n) (option_same (frame_in q xs) (λ g. bytes_at fs g) (λ g. bytes_at es g) (λ g e.
        let apart : g ≢ f = (λ (k : g ≡ f). let two = frame_twice q pfn f xs n (e ∙ ap (λ (j : ℕ). Some j) k) at in omega arith) in
        ap bytes_of (same g apart)) ∙ sym (page_at es xs q))
  ]

map_all : {X Y : Type 0} (h k : X → Y) (xs : List X) (d : X) → ((j : ℕ) → j < length xs → k (get_or xs j d) ≡ h (get_or xs j d)) → map k xs ≡ map h xs
map_all h k [] d same = refl
map_all h k (x ∷ xs) d same =
    let first = same 0 (omega arith) in
    let rest = map_all h k xs d (λ j lt. same (suc j) (omega arith)) in
    λ i. first i ∷ rest i

-- a map that differs at one place
pub map_but : {X Y : Type 0} (h k : X → Y) (xs : List X) (i : ℕ) (d : X) → i < length xs → ((j : ℕ) → j < length xs → j ≢ i → k (get_or xs j d) ≡ h (get_or xs j d)) → map k xs ≡ set (map h xs) i (k (get_or xs i d))
map_but h k [] i d lt same = absurd (omega arith)
map_but h k (x ∷ xs) zero d lt same = let rest = map_all h k xs d (λ j b. same (suc j) (omega arith) (λ e. omega arith)) in ap (λ ys. k x ∷ ys) rest
map_but h k (x ∷ xs) (suc i) d lt same =
    let first = same 0 (omega arith) (λ e. omega arith) in
    let rest = map_but h k xs i d (omega arith) (λ j b n. same (suc j) (omega arith) (λ e. n (omega arith))) in
    λ a. first a ∷ rest a

-- what two places name is no more than what all name
two_in : (f : ℕ) (xss : List (List ExposedFrame)) (i j : ℕ) → i < length xss → j < length xss → j ≢ i → times f (frames_of (get_or xss i [])) + times f (frames_of (get_or xss j [])) ≤ times f (flat_map frames_of xss)
two_in f [] i j li lj n = absurd (omega arith)
two_in f (xs ∷ xss) zero zero li lj n = absurd (n refl)
two_in f (xs ∷ xss) zero (suc j) li lj n = omega (arith, times_append f (frames_of xs) (flat_map frames_of xss), times_in f frames_of xss j [] (omega arith))
two_in f (xs ∷ xss) (suc i) zero li lj n = omega (arith, times_append f (frames_of xs) (flat_map frames_of xss), times_in f frames_of xss i [] (omega arith))
two_in f (xs ∷ xss) (suc i) (suc j) li lj n = omega (arith, times_append f (frames_of xs) (flat_map frames_of xss), two_in f xss i j (omega arith) (omega arith) (λ e. n (ap suc e)))

-- one page of one id has other bytes
pub pages_put : (es fs : List (Option Entry)) (xss : List (List ExposedFrame)) (id pfn f : ℕ) (page : List ℕ) → id < length xss → frame_in pfn (get_or xss id []) ≡ Some f → times f (exposed_frames xss) ≤ 1 → ((g : ℕ) → g ≢ f → words_at fs g ≡ words_at es g) → bytes_at fs f ≡ page
    → pages_in fs xss ≡ set (pages_in es xss) id (fm.insert (exposed_at id (pages_in es xss)) pfn page)
unfolding pages_in exposed_frames
pages_put es fs xss id pfn f page lt at once same is =
    let here = frame_named pfn f (get_or xss id []) at in
    let most = times_in f frames_of xss id [] lt in
    map_but (page_map es) (page_map fs) xss id [] lt (λ j lj n. page_map_same es fs (get_or xss j []) (λ g some. same g (λ (e : g ≡ f). let two = two_in f xss id j lt lj n in let k : 0 < times f (frames_of (get_or xss j [])) = subst (λ (h : ℕ). 0 < times h (frames_of (get_or xss j []))) e some in omega arith)))
    ∙ ap (λ (m : Exposed). set (map (page_map es) xss) id m) (put_page es fs (get_or xss id []) pfn f page at (omega (arith, most, once)) same is ∙ ap (λ (m : Exposed). fm.insert m pfn page) (sym (pages_at es xss id)))

-- an id has other pages, and the words of all other pages' frames are as before
pub pages_set : (es fs : List (Option Entry)) (xss : List (List ExposedFrame)) (id : ℕ) (ys : List ExposedFrame) → ((f : ℕ) → 0 < times f (exposed_frames xss) → words_at fs f ≡ words_at es f) → pages_in fs (set xss id ys) ≡ set (pages_in es xss) id (page_map fs ys)
unfolding pages_in
pages_set es fs xss id ys same = map-set (page_map fs) xss id ys ∙ ap (λ (ms : List Exposed). set ms id (page_map fs ys)) (pages_same es fs xss same)
