-- How many entries the seat of a memory has.
use Rattle.std.proofs.Common.{◌≡◌, ◌≢◌, ◌<◌, ◌≤◌, ◌+◌, ◌==◌, ◌||◌, ◌⊎◌, inl, inr, ℕ, zero, suc, Bool, true, false, List, [], ◌∷◌, length, if◌then◌else◌, is_some, slice_get, Some, None, refl, sym, ap, subst, ◌∙◌, arith, eq-eqb, ne_eqb}
use Rattle.std.specs.declared.option.Option.{Option}
use Rattle.neph_pool.specs.declared.entry.Entry.{Entry}
use Rattle.neph_pool.specs.Entries.{hold_at, is_here, is_entry, entry_count, without}
use Rattle.neph_pool.specs.Handing.{is_among}
use Rattle.neph_pool.proofs.Entries.{hold_at-without, hold_at-without_other}
use Rattle.neph_pool.proofs.Rows.{same_or_not, count_cons}
use Rattle.neph_ptab.specs.Tables.{leaf_at, IsTable}
use Rattle.neph_gmap.specs.declared.page.Page.{Page}
use Rattle.neph_gmap.specs.declared.page.Page.TheVariants.{Local as At, Exposed as Away}
use Rattle.neph_memory.specs.declared.own.Own.{Own}
use Rattle.neph_memory.specs.Pages.{frame_of, frame_at}
use Rattle.neph_memory.specs.Memory.{leaf_count_below, leaf_count, IsPageAt, IsSpareAt, IsMemory}
use Rattle.neph_memory.specs.Building.{IsAmong}

abbrev bit : Bool → ℕ
bit b = if b then 1 else 0

bit_small : (b : Bool) → bit b ≤ 1
bit_small true = omega arith
bit_small false = omega arith

-- leaf tables at the same places are as many
pub leaves_alike : (es fs : List (Option Entry)) (root top n : ℕ) → ((i : ℕ) → i < n → is_some (leaf_at fs top i) ≡ is_some (leaf_at es root i)) → leaf_count_below fs top n ≡ leaf_count_below es root n
unfolding leaf_count_below
leaves_alike es fs root top zero h = refl
leaves_alike es fs root top (suc n) h =
    let here : bit (is_some (leaf_at fs top n)) ≡ bit (is_some (leaf_at es root n)) = ap bit (h n (omega arith)) in
    let rest : leaf_count_below fs top n ≡ leaf_count_below es root n = leaves_alike es fs root top n (λ i lt. h i (omega (arith, lt))) in
    omega (arith, here, rest)

pub leaves_same : (es fs : List (Option Entry)) (root top n : ℕ) → ((i : ℕ) → i < n → leaf_at fs top i ≡ leaf_at es root i) → leaf_count_below fs top n ≡ leaf_count_below es root n
leaves_same es fs root top n h = leaves_alike es fs root top n (λ i lt. ap is_some (h i lt))

-- one more leaf table is at most one more
pub leaves_more : (es fs : List (Option Entry)) (root top k n : ℕ) → ((i : ℕ) → i < n → i ≢ k → leaf_at fs top i ≡ leaf_at es root i) → leaf_count_below fs top n ≤ leaf_count_below es root n + 1
unfolding leaf_count_below
leaves_more es fs root top k zero h = omega arith
leaves_more es fs root top k (suc n) h = by_case (leaves_more es fs root top k n (λ i lt d. h i (omega (arith, lt)) d)) (same_or_not n k) where
  by_case : leaf_count_below fs top n ≤ leaf_count_below es root n + 1 → (n ≡ k) ⊎ (n ≢ k) → bit (is_some (leaf_at fs top n)) + leaf_count_below fs top n ≤ bit (is_some (leaf_at es root n)) + leaf_count_below es root n + 1
  by_case rest (inl e) =
      let same : leaf_count_below fs top n ≡ leaf_count_below es root n = leaves_same es fs root top n (λ i lt. h i (omega (arith, lt)) (λ d. omega (arith, d, e, lt))) in
      let small = bit_small (is_some (leaf_at fs top n)) in
      omega (arith, same, small)
  by_case rest (inr d) =
      let here : bit (is_some (leaf_at fs top n)) ≡ bit (is_some (leaf_at es root n)) = ap (λ (x : Option ℕ). bit (is_some x)) (h n (omega arith) d) in
      omega (arith, here, rest)

leaves_few : (es : List (Option Entry)) (root n : ℕ) → leaf_count_below es root n ≤ n
unfolding leaf_count_below
leaves_few es root zero = omega arith
leaves_few es root (suc n) = let a = bit_small (is_some (leaf_at es root n)) in let b = leaves_few es root n in omega (arith, a, b)

below_or_not : (a b : ℕ) → (a ≤ b) ⊎ (b < a)
below_or_not zero b = inl (omega arith)
below_or_not (suc a) zero = inr (omega arith)
below_or_not (suc a) (suc b) = by (below_or_not a b) where
  by : (a ≤ b) ⊎ (b < a) → (suc a ≤ suc b) ⊎ (suc b < suc a)
  by (inl e) = inl (omega (arith, e))
  by (inr e) = inr (omega (arith, e))

-- up to a later place there are no fewer
pub leaves_below : (es : List (Option Entry)) (root n m : ℕ) → n ≤ m → leaf_count_below es root n ≤ leaf_count_below es root m
unfolding leaf_count_below
leaves_below es root n zero le = let e : n ≡ 0 = omega (arith, le) in subst (λ (k : ℕ). leaf_count_below es root k ≤ leaf_count_below es root 0) (sym e) (omega arith)
leaves_below es root n (suc m) le = by_case (λ l. leaves_below es root n m l) (same_or_not n (suc m)) where
  by_case : (n ≤ m → leaf_count_below es root n ≤ leaf_count_below es root m) → (n ≡ suc m) ⊎ (n ≢ suc m) → leaf_count_below es root n ≤ leaf_count_below es root (suc m)
  by_case rest (inl e) = subst (λ (k : ℕ). leaf_count_below es root k ≤ leaf_count_below es root (suc m)) (sym e) (omega arith)
  by_case rest (inr d) = let r : leaf_count_below es root n ≤ leaf_count_below es root m = rest (omega (arith, le, d)) in omega (arith, r)

-- no leaf table from n on: at most n
pub leaves_first : (es : List (Option Entry)) (root n m : ℕ) → ((i : ℕ) → n ≤ i → i < m → leaf_at es root i ≡ None) → leaf_count_below es root m ≤ n
unfolding leaf_count_below
leaves_first es root n zero h = omega arith
leaves_first es root n (suc m) h = by_case (leaves_first es root n m (λ i le lt. h i le (omega (arith, lt)))) (below_or_not n m) where
  by_case : leaf_count_below es root m ≤ n → (n ≤ m) ⊎ (m < n) → bit (is_some (leaf_at es root m)) + leaf_count_below es root m ≤ n
  by_case rest (inl le) =
      let here : bit (is_some (leaf_at es root m)) ≡ 0 = ap (λ (x : Option ℕ). bit (is_some x)) (h m le (omega arith)) in
      omega (arith, here, rest)
  by_case rest (inr lt) = let a = bit_small (is_some (leaf_at es root m)) in let b = leaves_few es root m in omega (arith, a, b, lt)

-- where one leaf table lacks, there are fewer than places
pub leaf_lacking : (es : List (Option Entry)) (root i n : ℕ) → i < n → leaf_at es root i ≡ None → leaf_count_below es root n + 1 ≤ n
unfolding leaf_count_below
leaf_lacking es root i zero lt e = absurd (omega (arith, lt))
leaf_lacking es root i (suc n) lt e = by_case (λ l. leaf_lacking es root i n l e) (same_or_not i n) where
  by_case : (i < n → leaf_count_below es root n + 1 ≤ n) → (i ≡ n) ⊎ (i ≢ n) → bit (is_some (leaf_at es root n)) + leaf_count_below es root n + 1 ≤ suc n
  by_case rest (inl d) =
      let here : bit (is_some (leaf_at es root n)) ≡ 0 = ap (λ (x : Option ℕ). bit (is_some x)) (ap (leaf_at es root) (sym d) ∙ e) in
      let few : leaf_count_below es root n ≤ n = leaves_few es root n in
      omega (arith, here, few)
  by_case rest (inr k) =
      let r : leaf_count_below es root n + 1 ≤ n = rest (omega (arith, lt, k)) in
      let small = bit_small (is_some (leaf_at es root n)) in
      omega (arith, r, small)

-- a cap of 1024 pages, 512 leaf tables, the root and the spare has room for one more leaf table
pub room_capped : (es : List (Option Entry)) (root i k c : ℕ) → k ≤ 1024 → i < 512 → leaf_at es root i ≡ None → 1538 ≤ c → k + 3 + leaf_count es root ≤ c
room_capped es root i k c few lt e le = let l : leaf_count es root + 1 ≤ 512 = leaf_lacking es root i 512 lt e in omega (arith, few, l, le)

-- the entries, where all of them are of these frames
none_here : (es : List (Option Entry)) → ((g : ℕ) → is_here (hold_at es g) ≡ true → ⊥) → entry_count es ≡ 0
unfolding hold_at
none_here [] h = refl
none_here (None ∷ es) h = let a = count_cons None es in let b : entry_count es ≡ 0 = none_here es (λ g. h (suc g)) in omega (arith, a, b)
none_here (Some e ∷ es) h = absurd (h zero refl)

count_without : (es : List (Option Entry)) (f : ℕ) → entry_count es ≤ entry_count (without es f) + 1
unfolding without
count_without [] f = omega arith
count_without (x ∷ es) zero = let a = count_cons x es in let b = count_cons None es in let c = bit_small (is_entry x) in omega (arith, a, b, c)
count_without (x ∷ es) (suc f) = let a = count_cons x es in let b = count_cons x (without es f) in let c = count_without es f in omega (arith, a, b, c)

not_here : (es : List (Option Entry)) (f : ℕ) → is_here (hold_at (without es f) f) ≡ true → ⊥
not_here es f h = let z : true ≡ false = sym h ∙ ap is_here (hold_at-without es f) in cc

else_among : (x g : ℕ) (xs : List ℕ) → g ≢ x → IsAmong (x ∷ xs) g → IsAmong xs g
else_among x g xs n h = sym (ap (λ (b : Bool). b || is_among g xs) (ne_eqb x g (λ e. n (sym e)))) ∙ h

pub covered : (xs : List ℕ) (es : List (Option Entry)) → ((g : ℕ) → is_here (hold_at es g) ≡ true → IsAmong xs g) → entry_count es ≤ length xs
covered [] es h = let k = none_here es (λ g t. let z : false ≡ true = h g t in absurd (cc)) in omega (arith, k)
covered (x ∷ xs) es h =
    let rest : entry_count (without es x) ≤ length xs = covered xs (without es x) (λ g t. by g t (same_or_not g x)) in
    let one = count_without es x in
    omega (arith, rest, one) where
      by : (g : ℕ) → is_here (hold_at (without es x) g) ≡ true → (g ≡ x) ⊎ (g ≢ x) → IsAmong xs g
      by g t (inl e) = absurd (not_here es x (ap (λ (k : ℕ). is_here (hold_at (without es x) k)) (sym e) ∙ t))
      by g t (inr n) = else_among x g xs n (h g (ap is_here (sym (hold_at-without_other es x g n)) ∙ t))

-- a list with one more frame, if there is one
abbrev add_some : Option ℕ → List ℕ → List ℕ
add_some None xs = xs
add_some (Some f) xs = f ∷ xs

add_length : (x : Option ℕ) (xs : List ℕ) → length (add_some x xs) ≡ bit (is_some x) + length xs
add_length None xs = omega arith
add_length (Some f) xs = omega arith

or_true : (b : Bool) → (b || true) ≡ true
or_true true = refl
or_true false = refl

add_here : (x : Option ℕ) (xs : List ℕ) (g : ℕ) → x ≡ Some g → IsAmong (add_some x xs) g
add_here None xs g e = absurd (cc)
add_here (Some f) xs g e = let d : f ≡ g = cc in ap (λ (b : Bool). b || is_among g xs) (eq-eqb f g d)

add_more : (x : Option ℕ) (xs : List ℕ) (g : ℕ) → IsAmong xs g → IsAmong (add_some x xs) g
add_more None xs g h = h
add_more (Some f) xs g h = ap (λ (b : Bool). (f == g) || b) h ∙ or_true (f == g)

leaf_frames : List (Option Entry) → ℕ → ℕ → List ℕ → List ℕ
leaf_frames es root zero xs = xs
leaf_frames es root (suc n) xs = add_some (leaf_at es root n) (leaf_frames es root n xs)

leaf_length : (es : List (Option Entry)) (root n : ℕ) (xs : List ℕ) → length (leaf_frames es root n xs) ≡ leaf_count_below es root n + length xs
unfolding leaf_count_below leaf_frames
leaf_length es root zero xs = omega arith
leaf_length es root (suc n) xs = let a = add_length (leaf_at es root n) (leaf_frames es root n xs) in let b = leaf_length es root n xs in omega (arith, a, b)

leaf_among : (es : List (Option Entry)) (root n i g : ℕ) (xs : List ℕ) → i < n → leaf_at es root i ≡ Some g → IsAmong (leaf_frames es root n xs) g
unfolding leaf_frames
leaf_among es root zero i g xs lt e = absurd (omega (arith, lt))
leaf_among es root (suc n) i g xs lt e = by_case (λ k. leaf_among es root n i g xs (omega (arith, lt, k)) e) (same_or_not i n) where
  by_case : (i ≢ n → IsAmong (leaf_frames es root n xs) g) → (i ≡ n) ⊎ (i ≢ n) → IsAmong (add_some (leaf_at es root n) (leaf_frames es root n xs)) g
  by_case rest (inl d) = add_here (leaf_at es root n) (leaf_frames es root n xs) g (ap (leaf_at es root) (sym d) ∙ e)
  by_case rest (inr k) = add_more (leaf_at es root n) (leaf_frames es root n xs) g (rest k)

leaf_later : (es : List (Option Entry)) (root n g : ℕ) (xs : List ℕ) → IsAmong xs g → IsAmong (leaf_frames es root n xs) g
unfolding leaf_frames
leaf_later es root zero g xs h = h
leaf_later es root (suc n) g xs h = add_more (leaf_at es root n) (leaf_frames es root n xs) g (leaf_later es root n g xs h)

page_frames : List Page → List ℕ
page_frames [] = []
page_frames (p ∷ ps) = add_some (frame_of (Some p)) (page_frames ps)

page_length : (ps : List Page) → length (page_frames ps) ≤ length ps
unfolding page_frames
page_length [] = omega arith
page_length (p ∷ ps) = let a = add_length (frame_of (Some p)) (page_frames ps) in let b = page_length ps in let c = bit_small (is_some (frame_of (Some p))) in omega (arith, a, b, c)

page_among : (ps : List Page) (p g : ℕ) → frame_at ps p ≡ Some g → IsAmong (page_frames ps) g
unfolding page_frames frame_at
page_among [] p g e = absurd (cc)
page_among (x ∷ ps) zero g e = add_here (frame_of (Some x)) (page_frames ps) g e
page_among (x ∷ ps) (suc p) g e = add_more (frame_of (Some x)) (page_frames ps) g (page_among ps p g e)

no_spare : (x : Option ℕ) (g : ℕ) → x ≡ None → x ≡ Some g → ⊥
no_spare x g a b = cc

-- the root, the leaf tables and at most a frame for each page
pub entries_few : (es : List (Option Entry)) (root : ℕ) (o : Own) → IsMemory es root o → o.spare ≡ None → entry_count es ≤ length o.map.pages + 1 + leaf_count es root
entries_few es root o m none =
    let ps = page_frames o.map.pages in
    let all = covered (root ∷ leaf_frames es root 512 ps) es (λ g h. by g (m.made.only g h)) in
    let a = leaf_length es root 512 ps in
    let b = page_length o.map.pages in
    omega (arith, all, a, b) where
      by : (g : ℕ) → IsTable es root g ⊎ (IsPageAt o g ⊎ IsSpareAt o g) → IsAmong (root ∷ leaf_frames es root 512 (page_frames o.map.pages)) g
      by g (inl (inl e)) = add_here (Some root) (leaf_frames es root 512 (page_frames o.map.pages)) g (ap Some (sym e))
      by g (inl (inr t)) = add_more (Some root) (leaf_frames es root 512 (page_frames o.map.pages)) g (leaf_among es root 512 t.0 g (page_frames o.map.pages) t.1 t.2)
      by g (inr (inl q)) = add_more (Some root) (leaf_frames es root 512 (page_frames o.map.pages)) g (leaf_later es root 512 g (page_frames o.map.pages) (page_among o.map.pages q.0 g q.1))
      by g (inr (inr s)) = absurd (no_spare o.spare g none s)

-- these frames behind those of some pages
pages_before : List Page → List ℕ → List ℕ
pages_before [] xs = xs
pages_before (p ∷ ps) xs = add_some (frame_of (Some p)) (pages_before ps xs)

before_length : (ps : List Page) (xs : List ℕ) → length (pages_before ps xs) ≤ length ps + length xs
unfolding pages_before
before_length [] xs = omega arith
before_length (p ∷ ps) xs = let a = add_length (frame_of (Some p)) (pages_before ps xs) in let b = before_length ps xs in let c = bit_small (is_some (frame_of (Some p))) in omega (arith, a, b, c)

before_page : (ps : List Page) (xs : List ℕ) (p g : ℕ) → frame_at ps p ≡ Some g → IsAmong (pages_before ps xs) g
unfolding pages_before frame_at
before_page [] xs p g e = absurd (cc)
before_page (x ∷ ps) xs zero g e = add_here (frame_of (Some x)) (pages_before ps xs) g e
before_page (x ∷ ps) xs (suc p) g e = add_more (frame_of (Some x)) (pages_before ps xs) g (before_page ps xs p g e)

before_later : (ps : List Page) (xs : List ℕ) (g : ℕ) → IsAmong xs g → IsAmong (pages_before ps xs) g
unfolding pages_before
before_later [] xs g h = h
before_later (p ∷ ps) xs g h = add_more (frame_of (Some p)) (pages_before ps xs) g (before_later ps xs g h)

-- entries of pages but for page 0, and of these frames
pub later_few : (ps : List Page) (xs : List ℕ) (es : List (Option Entry)) → 0 < length ps → ((g : ℕ) → is_here (hold_at es g) ≡ true → ((p : ℕ) × (1 ≤ p) × (frame_at ps p ≡ Some g)) ⊎ IsAmong xs g) → entry_count es + 1 ≤ length ps + length xs
unfolding frame_at
later_few [] xs es lt h = absurd (omega (arith, lt))
later_few (x ∷ ps) xs es lt h =
    let a : entry_count es ≤ length (pages_before ps xs) = covered (pages_before ps xs) es (λ g t. by g (h g t)) in
    let b = before_length ps xs in
    omega (arith, a, b) where
      by_page : (p g : ℕ) → 1 ≤ p → frame_at (x ∷ ps) p ≡ Some g → IsAmong (pages_before ps xs) g
      by_page zero g le e = absurd (omega (arith, le))
      by_page (suc p) g le e = before_page ps xs p g e

      by : (g : ℕ) → ((p : ℕ) × (1 ≤ p) × (frame_at (x ∷ ps) p ≡ Some g)) ⊎ IsAmong xs g → IsAmong (pages_before ps xs) g
      by g (inl q) = by_page q.0 g q.1 q.2
      by g (inr t) = before_later ps xs g t

-- room for the entries of a memory under this cap
pub room_after : (es fs : List (Option Entry)) (root top n k b c : ℕ) → n + 2 + leaf_count es root ≤ b → k ≡ n → ((i : ℕ) → i < 512 → leaf_at fs top i ≡ leaf_at es root i) → c ≡ b → k + 2 + leaf_count fs top ≤ c
room_after es fs root top n k b c room e h d = let same : leaf_count fs top ≡ leaf_count es root = leaves_same es fs root top 512 h in omega (arith, room, e, same, d)

-- room for the entries of another memory with as many pages, and leaf tables at the same places
pub room_alike : (es fs : List (Option Entry)) (root top n k b c : ℕ) → n + 2 + leaf_count es root ≤ b → k ≡ n → ((i : ℕ) → i < 512 → is_some (leaf_at fs top i) ≡ is_some (leaf_at es root i)) → c ≡ b → k + 2 + leaf_count fs top ≤ c
room_alike es fs root top n k b c room e h d = let same : leaf_count fs top ≡ leaf_count es root = leaves_alike es fs root top 512 h in omega (arith, room, e, same, d)

-- the same with one more leaf table
pub room_more : (es fs : List (Option Entry)) (root top i n k b c : ℕ) → n + 3 + leaf_count es root ≤ b → k ≡ n → ((j : ℕ) → j < 512 → j ≢ i → leaf_at fs top j ≡ leaf_at es root j) → c ≡ b → k + 2 + leaf_count fs top ≤ c
room_more es fs root top i n k b c room e h d = let more : leaf_count fs top ≤ leaf_count es root + 1 = leaves_more es fs root top i 512 h in omega (arith, room, e, more, d)

away_length : (ps : List Page) (p : ℕ) → slice_get ps p ≡ Some Away → length (page_frames ps) + 1 ≤ length ps
unfolding page_frames
away_length [] p e = absurd (cc)
away_length (At f ∷ ps) zero e = absurd (cc)
away_length (Away ∷ ps) zero e = let b = page_length ps in omega (arith, b)
away_length (x ∷ ps) (suc p) e = let a = add_length (frame_of (Some x)) (page_frames ps) in let b = away_length ps p e in let c = bit_small (is_some (frame_of (Some x))) in omega (arith, a, b, c)

-- where a page is exposed, no more than without a spare
pub entries_away : (es : List (Option Entry)) (root : ℕ) (o : Own) → IsMemory es root o → (p : ℕ) → slice_get o.map.pages p ≡ Some Away → entry_count es ≤ length o.map.pages + 1 + leaf_count es root
entries_away es root o m p away =
    let ps = page_frames o.map.pages in
    let ls = add_some o.spare ps in
    let all = covered (root ∷ leaf_frames es root 512 ls) es (λ g h. by g (m.made.only g h)) in
    let a = leaf_length es root 512 ls in
    let b = away_length o.map.pages p away in
    let c = add_length o.spare ps in
    let d = bit_small (is_some o.spare) in
    omega (arith, all, a, b, c, d) where
      by : (g : ℕ) → IsTable es root g ⊎ (IsPageAt o g ⊎ IsSpareAt o g) → IsAmong (root ∷ leaf_frames es root 512 (add_some o.spare (page_frames o.map.pages))) g
      by g (inl (inl e)) = add_here (Some root) (leaf_frames es root 512 (add_some o.spare (page_frames o.map.pages))) g (ap Some (sym e))
      by g (inl (inr t)) = add_more (Some root) (leaf_frames es root 512 (add_some o.spare (page_frames o.map.pages))) g (leaf_among es root 512 t.0 g (add_some o.spare (page_frames o.map.pages)) t.1 t.2)
      by g (inr (inl q)) =
          add_more (Some root) (leaf_frames es root 512 (add_some o.spare (page_frames o.map.pages))) g
          (leaf_later es root 512 g (add_some o.spare (page_frames o.map.pages)) (add_more o.spare (page_frames o.map.pages) g (page_among o.map.pages q.0 g q.1)))
      by g (inr (inr s)) =
          add_more (Some root) (leaf_frames es root 512 (add_some o.spare (page_frames o.map.pages))) g
          (leaf_later es root 512 g (add_some o.spare (page_frames o.map.pages)) (add_here o.spare (page_frames o.map.pages) g s))
