-- The start of a script uses no more frames than there are, and its domains' halves are apart.
use Rattle.std.proofs.Common.{◌≡◌, ◌≢◌, ℕ, zero, suc, ◌+◌, ◌-◌, ◌*◌, ◌<◌, ◌≤◌, Bool, true, false, cond, inl, inr, List, [], ◌∷◌, ◌++◌, length, replicate, get_or, Option, Some, None, All, refl, sym, ap, subst, ◌∙◌, arith}
use Rattle.std.specs.Prelude.{not, count_by, IfSome, nat_lt}
use Rattle.std.specs.Option.{is_some}
use Rattle.std.specs.Ordering.{nat_cmp, eq_by_cmp}
use Rattle.std.specs.Cmp.{nat_cmp_total}
use Rattle.std.specs.List.{sum_by, range_with_len}
use Rattle.std.specs.FinMap as fm
use Rattle.std.specs.FinMap.{get-insert, get-empty, len-insert, len-empty}
use Rattle.std.proofs.lemmas.Bool.{false≢true, ltb-false}
use Rattle.std.proofs.lemmas.List.{length-replicate, get_or-replicate}
use Rattle.std.proofs.lemmas.List.Elements.{All-head, All-tail}
use Rattle.std.proofs.lemmas.List.FromFn.{length-range_with_len}
use Rattle.std.proofs.lemmas.List.Sums.{sum_by-cons, count_by-le-length}
use Rattle.neph_grant.specs.Table.{device_grants}
use Rattle.neph_model.specs.declared.script.Script.{Script}
use Rattle.neph_model.specs.declared.script.Start.{Start}
use Rattle.neph_model.specs.declared.memory.Mapping.{Mapping}
use Rattle.neph_model.specs.declared.life.Guest.{Guest}
use Rattle.neph_model.specs.declared.book.Book.{Book}
use Rattle.neph_model.specs.declared.book.Stage.TheVariants.{Ready}
use Rattle.neph_model.specs.Memory.{zero_page}
use Rattle.neph_model.specs.WellFormed.{IsWellFormed, IsWellFormedStart, frames_of_starts}
use Rattle.neph_model.specs.Machine.{Exposed, no_own, no_guest, size_of}
use Rattle.neph_model.specs.Start.{started_512s, start_own, start_life, start_guest, start_exposed, start_vmap, start_mode, start_pages, identity_page, of_starts}
use Rattle.neph_model.specs.Books.{no_book, pages_in, book_of, start_books, start_state, page_count, colours_used, pages_of}
use Rattle.neph_laws.proofs.GrantRows.{device_granted}
use Rattle.neph_runs.specs.Orderly.{seat, outline}
use Rattle.neph_runs.specs.Work.{all_ids}
use Rattle.neph_runs.proofs.Sums.{sum_le}
use Rattle.neph_runs.proofs.Opening.{start_orderly, opens_at, start_begun}
use Rattle.neph_runs.proofs.Says.{WritesWhere}
use Rattle.neph_runs.proofs.Steps.{key_cases, within_insert}
use Rattle.neph_runs.proofs.Colours.{bit, bit_cases, times, times_cons}
use Rattle.neph_runs.proofs.Hues.{AreColoured}
use Rattle.std.proofs.lemmas.Bool.Decides.{leb_tells}
use Rattle.neph_runs.proofs.Accounts.{need_with, tables_at, aside_at}
use Rattle.neph_runs.proofs.Sound.{AreHalves}
use Rattle.neph_model.specs.Counting.{cap}
use Rattle.neph_runs.proofs.Caps.{IsCapped, maps_left, cap_head, cap_tail}
use Rattle.neph_runs.proofs.Rooms.{IsSoundAt, IsSound, seat_command}

none_hidden : (n : ℕ) (page : List ℕ) → count_by (λ (p : Option (List ℕ)). not (is_some p)) (replicate n (Some page)) ≡ 0
none_hidden zero page = refl
none_hidden (suc n) page = omega (arith, none_hidden n page, sum_by-cons (λ (p : Option (List ℕ)). bit (not (is_some p))) (Some page) (replicate n (Some page)))

three_hidden : (a : List ℕ) (n : ℕ) (page : List ℕ) → count_by (λ (p : Option (List ℕ)). not (is_some p)) (Some a ∷ None ∷ None ∷ None ∷ replicate n (Some page)) ≡ 3
three_hidden a n page =
    let f : Option (List ℕ) → ℕ = λ (p : Option (List ℕ)). bit (not (is_some p)) in
    let ps : List (Option (List ℕ)) = replicate n (Some page) in
    omega (arith, none_hidden n page, sum_by-cons f None ps, sum_by-cons f None (None ∷ ps), sum_by-cons f None (None ∷ None ∷ ps), sum_by-cons f (Some a) (None ∷ None ∷ None ∷ ps))

-- where the three device pages are exposed
abbrev three : (q : ℕ) → Option (List ℕ)
three q = cond (eq_by_cmp nat_cmp q 3) (Some zero_page) (cond (eq_by_cmp nat_cmp q 2) (Some zero_page) (cond (eq_by_cmp nat_cmp q 1) (Some zero_page) None))

get_three : (q : ℕ) → fm.get start_exposed q ≡ three q
get_three q =
    let one : Exposed = fm.insert fm.empty 1 zero_page in
    let two : Exposed = fm.insert one 2 zero_page in
    get-insert nat_cmp_total two 3 zero_page q
    ∙ ap (cond (eq_by_cmp nat_cmp q 3) (Some zero_page)) (get-insert nat_cmp_total one 2 zero_page q ∙ ap (cond (eq_by_cmp nat_cmp q 2) (Some zero_page)) (get-insert nat_cmp_total fm.empty 1 zero_page q ∙ ap (cond (eq_by_cmp nat_cmp q 1) (Some zero_page)) (get-empty nat_cmp q)))

len_three : fm.len start_exposed ≡ 3
len_three =
    let one : Exposed = fm.insert fm.empty 1 zero_page in
    let two : Exposed = fm.insert one 2 zero_page in
    let get_one : (q : ℕ) → fm.get one q ≡ cond (eq_by_cmp nat_cmp q 1) (Some zero_page) None = λ q. get-insert nat_cmp_total fm.empty 1 zero_page q ∙ ap (cond (eq_by_cmp nat_cmp q 1) (Some zero_page)) (get-empty nat_cmp q) in
    let get_two : (q : ℕ) → fm.get two q ≡ cond (eq_by_cmp nat_cmp q 2) (Some zero_page) (cond (eq_by_cmp nat_cmp q 1) (Some zero_page) None) = λ q. get-insert nat_cmp_total one 2 zero_page q ∙ ap (cond (eq_by_cmp nat_cmp q 2) (Some zero_page)) (get_one q) in
    let a : fm.len one ≡ 0 + 1 = len-insert nat_cmp_total fm.empty 1 zero_page ∙ ap (λ x. cond (is_some x) (fm.len {X = List ℕ} {R = nat_cmp} fm.empty) (fm.len {X = List ℕ} {R = nat_cmp} fm.empty + 1)) (get-empty nat_cmp 1) ∙ ap (λ n. n + 1) (len-empty nat_cmp (List ℕ)) in
    let b : fm.len two ≡ fm.len one + 1 = len-insert nat_cmp_total one 2 zero_page ∙ ap (λ x. cond (is_some x) (fm.len one) (fm.len one + 1)) (get_one 2) in
    let c : fm.len start_exposed ≡ fm.len two + 1 = len-insert nat_cmp_total two 3 zero_page ∙ ap (λ x. cond (is_some x) (fm.len two) (fm.len two + 1)) (get_two 3) in
    omega (arith, a, b, c)

far_key : (q k : ℕ) → q ≢ k → eq_by_cmp nat_cmp q k ≡ false
far_key q k ne = elim (key_cases q k) [ inl e ↦ absurd (ne e) | inr e ↦ e ]

maps_below : (n v : ℕ) → IfSome (fm.get (start_vmap n) v) (λ (to : Mapping). to.pfn < n)
maps_below zero v = subst (λ x. IfSome x (λ (to : Mapping). to.pfn < 0)) (sym (get-empty nat_cmp v)) tt
maps_below (suc n) v = within_insert (start_vmap n) n (record { pfn = n; mode = start_mode n }) (suc n) (omega arith) (λ w. weaker (fm.get (start_vmap n) w) (maps_below n w)) v where
  weaker : (x : Option Mapping) → IfSome x (λ (to : Mapping). to.pfn < n) → IfSome x (λ (to : Mapping). to.pfn < suc n)
  weaker None h = tt
  weaker (Some to) h = omega arith

start_halves : (n programs : ℕ) (t : Start) → IsWellFormedStart programs t → AreHalves (record { own = start_own n t; exposed = outline start_exposed; grants = device_grants })
start_halves n programs t well =
    let low = well.pages_low in
    let size : length (start_pages n t.pages) ≡ t.pages = omega (arith, length-replicate (t.pages - 4) (Some zero_page)) in
    record {
      hides = three_hidden (identity_page n 0 t.pages) (t.pages - 4) zero_page ∙ sym len_three;
      apart = λ pfn lt. here pfn (omega (arith, size, lt)) ∙ ap (λ x. not (is_some x)) (sym (get_three pfn));
      maps = λ v. subst (λ k. IfSome (fm.get (start_vmap t.pages) v) (λ (to : Mapping). to.pfn < k)) (sym size) (maps_below t.pages v);
      marks = length-replicate t.pages true ∙ sym size;
      devices = λ pfn low high. ap is_some (get_three pfn) ∙ device pfn low high;
      identity = ap is_some (get_three 0);
      named = λ r g at. let d = device_granted r g at in ap is_some (get_three g.pfn) ∙ device g.pfn (omega (arith, d.1)) (omega (arith, d.0, d.1));
      inside = λ r g at. let d = device_granted r g at in omega (arith, d.0, d.1, low, size);
      low = λ r g at. let d = device_granted r g at in omega (arith, d.0);
      high = λ r g at far. let d = device_granted r g at in absurd (omega (arith, d.0, ltb-false r 3 far));
    }
  where
    device : (pfn : ℕ) → 0 < pfn → pfn < 4 → is_some (three pfn) ≡ true
    device zero low high = absurd (omega arith)
    device (suc zero) low high = refl
    device (suc (suc zero)) low high = refl
    device (suc (suc (suc zero))) low high = refl
    device (suc (suc (suc (suc j)))) low high = absurd (omega arith)

    here : (pfn : ℕ) → pfn < t.pages → is_some (get_or (start_pages n t.pages) pfn None) ≡ not (is_some (three pfn))
    here zero lt = refl
    here (suc zero) lt = refl
    here (suc (suc zero)) lt = refl
    here (suc (suc (suc zero))) lt = refl
    here (suc (suc (suc (suc j)))) lt =
        let q = suc (suc (suc (suc j))) in
        let none : three q ≡ None = ap (λ b. cond b (Some zero_page) (cond (eq_by_cmp nat_cmp q 2) (Some zero_page) (cond (eq_by_cmp nat_cmp q 1) (Some zero_page) None))) (far_key q 3 (λ e. absurd (omega arith)))
        ∙ ap (λ b. cond b (Some zero_page) (cond (eq_by_cmp nat_cmp q 1) (Some zero_page) None)) (far_key q 2 (λ e. absurd (omega arith))) ∙ ap (λ b. cond b (Some zero_page) None) (far_key q 1 (λ e. absurd (omega arith))) in
        ap is_some (get_or-replicate (t.pages - 4) j (Some zero_page) None (omega arith)) ∙ ap (λ x. not (is_some x)) (sym none)

halves_at : (programs n k : ℕ) (ts : List Start) → All (IsWellFormedStart programs) ts → (j : ℕ) → is_some (get_or (of_starts (λ i t. Some (start_life i t)) n ts ++ replicate k None) j None) ≡ true
    → AreHalves (record {
      own = get_or (of_starts start_own n ts ++ replicate k no_own) j no_own;
      exposed = outline (get_or (of_starts {X = Exposed} (λ i t. start_exposed) n ts ++ replicate k fm.empty) j fm.empty);
      grants = (get_or (of_starts {X = Guest} (λ i t. start_guest) n ts ++ replicate k no_guest) j no_guest).grants;
    })
halves_at programs n zero [] all j live = absurd (false≢true live)
halves_at programs n (suc k) [] all zero live = absurd (false≢true live)
halves_at programs n (suc k) [] all (suc j) live = halves_at programs n k [] all j live
halves_at programs n k (t ∷ ts) all zero live = start_halves n programs t (All-head (IsWellFormedStart programs) t ts all)
halves_at programs n k (t ∷ ts) all (suc j) live = halves_at programs (n + 1) k ts (All-tail (IsWellFormedStart programs) t ts all) j live

-- a starting domain has the pages that its life tells
sized_at : (programs n k : ℕ) (ts : List Start) → All (IsWellFormedStart programs) ts → (j : ℕ) → is_some (get_or (of_starts (λ i t. Some (start_life i t)) n ts ++ replicate k None) j None) ≡ true
    → length (get_or (of_starts start_own n ts ++ replicate k no_own) j no_own).pages ≡ size_of (get_or (of_starts (λ i t. Some (start_life i t)) n ts ++ replicate k None) j None)
sized_at programs n zero [] all j live = absurd (false≢true live)
sized_at programs n (suc k) [] all zero live = absurd (false≢true live)
sized_at programs n (suc k) [] all (suc j) live = sized_at programs n k [] all j live
sized_at programs n k (t ∷ ts) all zero live =
    let first = All-head (IsWellFormedStart programs) t ts all in
    omega (arith, first.pages_low, length-replicate (t.pages - 4) (Some zero_page))
sized_at programs n k (t ∷ ts) all (suc j) live = sized_at programs (n + 1) k ts (All-tail (IsWellFormedStart programs) t ts all) j live

pub shifted : (f : ℕ → ℕ) (a n : ℕ) → sum_by f (range_with_len (a + 1) n) ≡ sum_by (λ j. f (suc j)) (range_with_len a n)
shifted f a zero = refl
shifted f a (suc n) =
    let here : f (a + 1) ≡ f (suc a) = ap f (omega arith) in
    omega (arith, shifted f (a + 1) n, sum_by-cons f (a + 1) (range_with_len (a + 1 + 1) n), sum_by-cons (λ j. f (suc j)) a (range_with_len (a + 1) n), here)

-- the tables of a start, by place
abbrev tables_from : ℕ → ℕ → List Start → ℕ → ℕ
tables_from n k ts j = cond (is_some (get_or (of_starts (λ i t. Some (start_life i t)) n ts ++ replicate k None) j None)) (1 + length (get_or (of_starts start_own n ts ++ replicate k no_own) j no_own).leaves) 0

tables_sum : (m n k : ℕ) (ts : List Start) → sum_by (tables_from n k ts) (range_with_len 0 m) ≤ sum_by (λ (t : Start). 1 + started_512s t.pages) ts
tables_sum zero n k ts = omega arith
tables_sum (suc m) n zero [] =
    omega (arith, sum_by-cons (tables_from n 0 []) 0 (range_with_len 1 m), shifted (tables_from n 0 []) 0 m, tables_sum m n 0 [])
tables_sum (suc m) n (suc k) [] =
    omega (arith, sum_by-cons (tables_from n (suc k) []) 0 (range_with_len 1 m), shifted (tables_from n (suc k) []) 0 m, tables_sum m n k [])
tables_sum (suc m) n k (t ∷ ts) =
    omega (arith, sum_by-cons (tables_from n k (t ∷ ts)) 0 (range_with_len 1 m), shifted (tables_from n k (t ∷ ts)) 0 m, tables_sum m (n + 1) k ts, sum_by-cons (λ (x : Start). 1 + started_512s x.pages) t ts, length-range_with_len 0 (started_512s t.pages))

pub sum_none : (a n : ℕ) → sum_by (λ (j : ℕ). 0) (range_with_len a n) ≡ 0
sum_none a zero = refl
sum_none a (suc n) = omega (arith, sum_none (a + 1) n, sum_by-cons (λ (j : ℕ). 0) a (range_with_len (a + 1) n))

no_spares : (colour k : ℕ) (ts : List Start) → count_by (λ (b : Book). b.spare) (start_books colour ts ++ replicate k no_book) ≡ 0
no_spares colour zero [] = refl
no_spares colour (suc k) [] = omega (arith, no_spares colour k [], sum_by-cons (λ (b : Book). bit b.spare) no_book (replicate k no_book))
no_spares colour k (t ∷ ts) = omega (arith, no_spares (colour + t.pages) k ts, sum_by-cons (λ (b : Book). bit b.spare) (book_of (range_with_len colour t.pages)) (start_books (colour + t.pages) ts ++ replicate k no_book))

frames_are : (ts : List Start) → page_count ts + sum_by (λ (t : Start). 1 + started_512s t.pages) ts ≡ frames_of_starts ts
frames_are [] = refl
frames_are (t ∷ ts) = omega (arith, frames_are ts, sum_by-cons (λ (x : Start). x.pages) t ts, sum_by-cons (λ (x : Start). 1 + started_512s x.pages) t ts, sum_by-cons (λ (x : Start). x.pages + 1 + started_512s x.pages) t ts)

start_tables : (s : Script) → all_ids (λ id. tables_at (seat (start_state s) id)) ≤ sum_by (λ (t : Start). 1 + started_512s t.pages) s.starts
unfolding all_ids
start_tables s =
    let f : ℕ → ℕ = λ id. tables_at (seat (start_state s) id) in
    let k = 63 - length s.starts in
    let first = sum_by-cons f 0 (range_with_len 1 63) in
    let shift = shifted f 0 63 in
    let rest = tables_sum 63 1 k s.starts in
    omega (arith, first, shift, rest)

start_aside : (s : Script) → all_ids (λ id. aside_at (seat (start_state s) id)) ≤ 0
unfolding all_ids
start_aside s =
    let f : ℕ → ℕ = λ id. aside_at (seat (start_state s) id) in
    let each : (id : ℕ) → 0 ≤ id → id < 64 → f id ≤ 0 = λ id low high.
    let x = seat (start_state s) id in
    let n = need_with x.exposed (length x.own.leaves) in
    let none : length x.guest.begun ≡ 0 = ap (λ l. length l) (start_begun s id) in
    let zero : length x.guest.begun * n ≡ 0 = ap (λ k. k * n) none ∙ omega arith in
    most (is_some x.life) (length x.guest.begun * n) zero in
    let sums = sum_le (λ j. 0) f 0 64 each in
    omega (arith, sums, sum_none 0 64)
  where
    most : (b : Bool) (n : ℕ) → n ≡ 0 → cond b n 0 ≤ 0
    most true n e = omega arith
    most false n e = omega arith

-- each starting domain is within the cap
capped_at : (s : Script) (programs n k : ℕ) (ts : List Start) → All (IsWellFormedStart programs) ts → ((m : ℕ) → m ≤ cap s ts → m ≤ cap s s.starts) → (j : ℕ) → is_some (get_or (of_starts (λ i t. Some (start_life i t)) n ts ++ replicate k None) j None) ≡ true
    → IsCapped s (get_or (of_starts (λ i t. Some (start_life i t)) n ts ++ replicate k None) j None) (get_or (of_starts start_own n ts ++ replicate k no_own) j no_own)
capped_at s programs n zero [] all le j live = absurd (false≢true live)
capped_at s programs n (suc k) [] all le zero live = absurd (false≢true live)
capped_at s programs n (suc k) [] all le (suc j) live = capped_at s programs n k [] all le j live
capped_at s programs n k (t ∷ ts) all le zero live =
    let first = All-head (IsWellFormedStart programs) t ts all in
    let o = start_own n t in
    let here : length o.pages + 2 + length o.leaves + maps_left s (Some (start_life n t)) 0 ≤ cap s (t ∷ ts) =
    omega (arith, first.pages_low, length-replicate (t.pages - 4) (Some zero_page), cap_head s t ts, length-range_with_len 0 (started_512s t.pages)) in
    le (length o.pages + 2 + length o.leaves + maps_left s (Some (start_life n t)) 0) here
capped_at s programs n k (t ∷ ts) all le (suc j) live = capped_at s programs (n + 1) k ts (All-tail (IsWellFormedStart programs) t ts all) (λ m h. le m (omega (arith, h, cap_tail s t ts))) j live

pub start_sound : (s : Script) → IsWellFormed s → IsSound s (start_state s)
start_sound s well =
    let st = start_state s in
    let colours : colours_used st.books ≤ page_count s.starts = omega (arith, count_by-le-length (λ c. nat_lt 0 (pages_of c st.books)) (range_with_len 0 st.books.fresh), length-range_with_len 0 st.books.fresh) in
    let spares = no_spares 0 (63 - length s.starts) s.starts in
    let first = sum_by-cons (λ (b : Book). bit b.spare) no_book (start_books 0 s.starts ++ replicate (63 - length s.starts) no_book) in
    let all = well.room in
    record { orderly = start_orderly s well; seats = seats; room = omega (arith, colours, spares, first, start_tables s, start_aside s, frames_are s.starts, all) }
  where
    seats : (id : ℕ) → is_some (seat (start_state s) id).life ≡ true → IsSoundAt s (seat (start_state s) id)
    seats zero live = absurd (false≢true live)
    seats (suc j) live =
        let x = seat (start_state s) (suc j) in
        let k = 63 - length s.starts in
        let opens = opens_at (length s.programs) 1 0 k s.starts well.starts j live in
        let ready : x.book.stage ≡ Ready = ap (λ (b : Book). b.stage) opens.ready in
        record { halves = halves_at (length s.programs) 1 k s.starts well.starts j live; writes = subst (λ v. WritesWhere v (seat_command s x)) (sym ready) tt; capped = capped_at s (length s.programs) 1 k s.starts well.starts (λ m h. h) j live; sized = sized_at (length s.programs) 1 k s.starts well.starts j live }

range_none_low : (c a n : ℕ) → c < a → times c (range_with_len a n) ≡ 0
range_none_low c a zero lt = refl
range_none_low c a (suc n) lt = elim (bit_cases a c) [
  | inl h ↦ absurd (omega (arith, h.0))
  | inr h ↦ omega (arith, h.1, range_none_low c (a + 1) n (omega arith), times_cons c a (range_with_len (a + 1) n))
]

range_small : (c a n : ℕ) → 0 < times c (range_with_len a n) → c < a + n
range_small c a zero pos = absurd (omega arith)
range_small c a (suc n) pos = elim (bit_cases a c) [
  | inl h ↦ omega (arith, h.0)
  | inr h ↦ let rest = range_small c (a + 1) n (omega (arith, h.1, pos, times_cons c a (range_with_len (a + 1) n))) in omega (arith, rest)
]

range_once : (c a n : ℕ) → times c (range_with_len a n) ≤ 1
range_once c a zero = omega arith
range_once c a (suc n) = elim (bit_cases a c) [
  | inl h ↦ omega (arith, h.1, range_none_low c (a + 1) n (omega (arith, h.0)), times_cons c a (range_with_len (a + 1) n))
  | inr h ↦ omega (arith, h.1, range_once c (a + 1) n, times_cons c a (range_with_len (a + 1) n))
]

-- how many pages of some starts have a colour
abbrev pages_from : ℕ → ℕ → ℕ → List Start → ℕ
pages_from c colour k ts = sum_by (pages_in c) (start_books colour ts ++ replicate k no_book)

from_cons : (c colour k : ℕ) (t : Start) (ts : List Start) → pages_from c colour k (t ∷ ts) ≡ times c (range_with_len colour t.pages) + pages_from c (colour + t.pages) k ts
from_cons c colour k t ts = sum_by-cons (pages_in c) (book_of (range_with_len colour t.pages)) (start_books (colour + t.pages) ts ++ replicate k no_book)

from_none : (c colour k : ℕ) (ts : List Start) → c < colour → pages_from c colour k ts ≡ 0
from_none c colour zero [] lt = refl
from_none c colour (suc k) [] lt = omega (arith, from_none c colour k [] lt, sum_by-cons (pages_in c) no_book (replicate k no_book))
from_none c colour k (t ∷ ts) lt = omega (arith, from_cons c colour k t ts, range_none_low c colour t.pages lt, from_none c (colour + t.pages) k ts (omega arith))

from_once : (c colour k : ℕ) (ts : List Start) → pages_from c colour k ts ≤ 1
from_once c colour zero [] = omega arith
from_once c colour (suc k) [] = omega (arith, from_once c colour k [], sum_by-cons (pages_in c) no_book (replicate k no_book))
from_once c colour k (t ∷ ts) = elim (leb_tells (suc c) (colour + t.pages)) [
  | inl h ↦ omega (arith, from_cons c colour k t ts, range_once c colour t.pages, from_none c (colour + t.pages) k ts (omega (arith, h.1)))
  | inr h ↦
      elim (leb_tells (times c (range_with_len colour t.pages)) 0) [
        | inl z ↦ omega (arith, z.1, from_cons c colour k t ts, from_once c (colour + t.pages) k ts)
        | inr z ↦ let l = range_small c colour t.pages (omega (arith, z.1)) in absurd (omega (arith, l, h.1))
      ]
]

from_small : (c colour k : ℕ) (ts : List Start) → 0 < pages_from c colour k ts → c < colour + page_count ts
from_small c colour zero [] pos = absurd (omega arith)
from_small c colour (suc k) [] pos = from_small c colour k [] (omega (arith, pos, sum_by-cons (pages_in c) no_book (replicate k no_book)))
from_small c colour k (t ∷ ts) pos = elim (leb_tells (times c (range_with_len colour t.pages)) 0) [
  | inl z ↦
      let rest = from_small c (colour + t.pages) k ts (omega (arith, z.1, pos, from_cons c colour k t ts)) in
      omega (arith, rest, sum_by-cons (λ (x : Start). x.pages) t ts)
  | inr z ↦ let l = range_small c colour t.pages (omega (arith, z.1)) in omega (arith, l, sum_by-cons (λ (x : Start). x.pages) t ts)
]

books_dead : (n colour k : ℕ) (ts : List Start) (j : ℕ) → is_some (get_or (of_starts (λ i t. Some (start_life i t)) n ts ++ replicate k None) j None) ≡ false → get_or (start_books colour ts ++ replicate k no_book) j no_book ≡ no_book
books_dead n colour zero [] j dead = refl
books_dead n colour (suc k) [] zero dead = refl
books_dead n colour (suc k) [] (suc j) dead = books_dead n colour k [] j dead
books_dead n colour k (t ∷ ts) zero dead = absurd (false≢true (sym dead))
books_dead n colour k (t ∷ ts) (suc j) dead = books_dead (n + 1) (colour + t.pages) k ts j dead

pub start_coloured : (s : Script) → AreColoured (start_state s)
start_coloured s =
    record { small = λ c pos. (let h = from_small c 0 k s.starts (omega (arith, pos, first c)) in omega (arith, h)); dead = dead; solo = λ id live pfn inside own. (let c = get_or (seat (start_state s) id).book.colours pfn 0 in omega (arith, first c, from_once c 0 k s.starts)) }
  where
    k : ℕ
    k = 63 - length s.starts

    first : (c : ℕ) → pages_of c (start_state s).books ≡ pages_from c 0 k s.starts
    first c = omega (arith, sum_by-cons (pages_in c) no_book (start_books 0 s.starts ++ replicate k no_book))

    dead : (id : ℕ) → is_some (seat (start_state s) id).life ≡ false → (seat (start_state s) id).book ≡ no_book
    dead zero e = refl
    dead (suc j) e = books_dead 1 0 k s.starts j e
