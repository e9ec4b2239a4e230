-- The exposed pages of a domain, with one more and with one fewer.
use Rattle.std.proofs.Common.{◌≡◌, ◌≢◌, ℕ, suc, ◌+◌, ◌<◌, ◌≤◌, cond, Bool, true, false, List, [], ◌∷◌, ◌++◌, map, length, Some, None, refl, sym, ap, ◌∙◌, arith, inl, inr, eq-eqb, ne_eqb}
use Rattle.std.specs.Prelude.{option_map, is_some}
use Rattle.std.specs.List.{All}
use Rattle.std.specs.Ordering.{nat_cmp, eq_by_cmp}
use Rattle.std.specs.Cmp.{nat_cmp_total, unsigned_tied}
use Rattle.std.specs.FinMap as fm
use Rattle.std.specs.FinMap.{get-remove, from_entries_push, same_map, nat_cmp-IsAntisymmetric}
use Rattle.std.specs.declared.option.Option.{Option}
use Rattle.std.proofs.lemmas.List.{map-append, length-map}
use Rattle.neph_pool.specs.declared.entry.Entry.{Entry}
use Rattle.neph_pool.specs.Bytes.{bytes_at}
use Rattle.neph_pool.proofs.Rows.{same_or_not}
use Rattle.neph_heap.specs.declared.exposed_frame.ExposedFrame.{ExposedFrame}
use Rattle.neph_heap.specs.Lists.{pfns_of, frames_of, frame_in, pages_but}
use Rattle.neph_heap.specs.Holds.{times}
use Rattle.neph_heap.specs.Heap.{ArePages}
use Rattle.neph_heap.specs.Pages.{page_in, page_map}
use Rattle.neph_heap.proofs.Counting.{one_at, one_same, one_else, times_cons, times_append, few_of}
use Rattle.neph_heap.proofs.Maps.{frame_yes, frame_no, some_same, find_in, page_at}

-- a number without a frame is none of theirs
pub not_listed : (q : ℕ) (xs : List ExposedFrame) → frame_in q xs ≡ None → times q (pfns_of xs) ≡ 0
not_listed q [] e = refl
not_listed q (x ∷ xs) e = elim (same_or_not x.pfn q) [
  | inl s ↦ absurd (let clash : Some x.frame ≡ None = sym (frame_yes q x xs s) ∙ e in cc)
  | inr n ↦ omega (arith, times_cons q x.pfn (pfns_of xs), one_else q x.pfn n, not_listed q xs (sym (frame_no q x xs n) ∙ e))
]

pub unseen : (o : Option ℕ) → is_some o ≡ false → o ≡ None
unseen None e = refl
unseen (Some f) e = absurd (cc)

-- the numbers of pages are below this one
below : (n q : ℕ) (xs : List ExposedFrame) → All (λ (x : ExposedFrame). x.pfn < n) xs → 0 < times q (pfns_of xs) → q < n
below n q [] small lt = absurd (omega arith)
below n q (x ∷ xs) small lt = elim (same_or_not x.pfn q) [
  | inl s ↦ let first : x.pfn < n = small 0 x (omega arith) in omega (arith, first, s)
  | inr m ↦ below n q xs (λ k d lk. small (suc k) d (omega arith)) (omega (arith, times_cons q x.pfn (pfns_of xs), one_else q x.pfn m, lt))
]

one_most : (f x : ℕ) → one_at f x ≤ 1
one_most f x = elim (same_or_not x f) [ inl e ↦ omega (arith, one_same f x e) | inr n ↦ omega (arith, one_else f x n) ]

times_more_pages : (q : ℕ) (xs : List ExposedFrame) (x : ExposedFrame) → times q (pfns_of (xs ++ x ∷ [])) ≡ times q (pfns_of xs) + one_at q x.pfn
times_more_pages q xs x =
    ap (λ (ps : List ℕ). times q ps) (map-append (λ (y : ExposedFrame). y.pfn) xs (x ∷ []))
    ∙ (let e = times_append q (pfns_of xs) (x.pfn ∷ []) in let c = times_cons q x.pfn [] in omega arith)

pub times_more_frames : (f : ℕ) (xs : List ExposedFrame) (x : ExposedFrame) → times f (frames_of (xs ++ x ∷ [])) ≡ times f (frames_of xs) + times f (x.frame ∷ [])
times_more_frames f xs x =
    ap (λ (ps : List ℕ). times f ps) (map-append (λ (y : ExposedFrame). y.frame) xs (x ∷ [])) ∙ times_append f (frames_of xs) (x.frame ∷ [])

-- a page with a new number may be exposed: there are no more pages than numbers
pub more_pages : (xs : List ExposedFrame) (x : ExposedFrame) → ArePages xs → frame_in x.pfn xs ≡ None → All (λ (y : ExposedFrame). y.pfn < 1024) (xs ++ x ∷ []) → ArePages (xs ++ x ∷ [])
more_pages xs x are new small = record { once = once; few = few } where
  once : (q : ℕ) → times q (pfns_of (xs ++ x ∷ [])) ≤ 1
  once q = elim (same_or_not x.pfn q) [
    | inl e ↦
        let z : times q (pfns_of xs) ≡ 0 = not_listed q xs (ap (λ (k : ℕ). frame_in k xs) (sym e) ∙ new) in
        omega (arith, times_more_pages q xs x, z, one_most q x.pfn)
    | inr n ↦ omega (arith, times_more_pages q xs x, one_else q x.pfn n, are.once q)
  ]

  few : length (xs ++ x ∷ []) ≤ 1024
  few = omega (arith, few_of 1024 (pfns_of (xs ++ x ∷ [])) once (λ q lt. below 1024 q (xs ++ x ∷ []) small lt), length-map (xs ++ x ∷ []) (λ (y : ExposedFrame). y.pfn))

-- the bytes of the pages then
pub map_more : (es : List (Option Entry)) (xs : List ExposedFrame) (x : ExposedFrame) → frame_in x.pfn xs ≡ None → page_map es (xs ++ x ∷ []) ≡ fm.insert (page_map es xs) x.pfn (bytes_at es x.frame)
unfolding page_map
map_more es xs x new =
    ap (λ (ps : List (ℕ × List ℕ)). fm.from_entries ps) (map-append (page_in es) xs (x ∷ []))
    ∙ from_entries_push nat_cmp_total nat_cmp-IsAntisymmetric (map (page_in es) xs) x.pfn (bytes_at es x.frame) (find_in es xs x.pfn ∙ ap (option_map (λ f. bytes_at es f)) new)

but_yes : (q : ℕ) (x : ExposedFrame) (xs : List ExposedFrame) → x.pfn ≡ q → pages_but q (x ∷ xs) ≡ pages_but q xs
but_yes q x xs e = rw (eq-eqb x.pfn q e) refl

but_no : (q : ℕ) (x : ExposedFrame) (xs : List ExposedFrame) → x.pfn ≢ q → pages_but q (x ∷ xs) ≡ x ∷ pages_but q xs
but_no q x xs n = rw (ne_eqb x.pfn q n) refl

-- the frame of a number among the others
pub but_frame : (p q : ℕ) (xs : List ExposedFrame) → frame_in q (pages_but p xs) ≡ cond (eq_by_cmp nat_cmp q p) None (frame_in q xs)
but_frame p q xs = elim (same_or_not q p) [
  | inl s ↦ rw (unsigned_tied q p, eq-eqb q p s) (gone q xs s)
  | inr n ↦ rw (unsigned_tied q p, ne_eqb q p n) (kept q xs n)
] where
  gone : (q : ℕ) (xs : List ExposedFrame) → q ≡ p → frame_in q (pages_but p xs) ≡ None
  gone q [] s = refl
  gone q (x ∷ xs) s = elim (same_or_not x.pfn p) [
    | inl e ↦ ap (frame_in q) (but_yes p x xs e) ∙ gone q xs s
    | inr n ↦ ap (frame_in q) (but_no p x xs n) ∙ frame_no q x (pages_but p xs) (λ e. n (e ∙ s)) ∙ gone q xs s
  ]

  kept : (q : ℕ) (xs : List ExposedFrame) → q ≢ p → frame_in q (pages_but p xs) ≡ frame_in q xs
  kept q [] n = refl
  kept q (x ∷ xs) n = elim (same_or_not x.pfn p) [
    | inl e ↦ ap (frame_in q) (but_yes p x xs e) ∙ kept q xs n ∙ sym (frame_no q x xs (λ k. n (sym k ∙ e)))
    | inr m ↦ ap (frame_in q) (but_no p x xs m) ∙ elim (same_or_not x.pfn q) [
      | inl k ↦ frame_yes q x (pages_but p xs) k ∙ sym (frame_yes q x xs k)
      | inr k ↦ frame_no q x (pages_but p xs) k ∙ kept q xs n ∙ sym (frame_no q x xs k)
    ]
  ]

-- the bytes of the others
pub map_fewer : (es : List (Option Entry)) (xs : List ExposedFrame) (p : ℕ) → page_map es (pages_but p xs) ≡ fm.remove (page_map es xs) p
map_fewer es xs p = same_map nat_cmp_total nat_cmp-IsAntisymmetric _ _ (λ q.
    page_at es (pages_but p xs) q ∙ ap (option_map (λ f. bytes_at es f)) (but_frame p q xs) ∙ past (eq_by_cmp nat_cmp q p) (frame_in q xs)
    ∙ ap (cond (eq_by_cmp nat_cmp q p) None) (sym (page_at es xs q)) ∙ sym (get-remove nat_cmp_total (page_map es xs) p q)) where
      past : (b : Bool) (o : Option ℕ) → option_map (λ f. bytes_at es f) (cond b None o) ≡ cond b None (option_map (λ f. bytes_at es f) o)
      past true o = refl
      past false o = refl

fewer_times : (p q : ℕ) (xs : List ExposedFrame) → times q (pfns_of (pages_but p xs)) ≤ times q (pfns_of xs)
fewer_times p q [] = omega arith
fewer_times p q (x ∷ xs) = elim (same_or_not x.pfn p) [
  | inl e ↦ omega (arith, ap (λ (ys : List ExposedFrame). times q (pfns_of ys)) (but_yes p x xs e), times_cons q x.pfn (pfns_of xs), fewer_times p q xs)
  | inr n ↦ omega (arith, ap (λ (ys : List ExposedFrame). times q (pfns_of ys)) (but_no p x xs n), times_cons q x.pfn (pfns_of (pages_but p xs)), times_cons q x.pfn (pfns_of xs), fewer_times p q xs)
]

fewer_length : (p : ℕ) (xs : List ExposedFrame) → length (pages_but p xs) ≤ length xs
fewer_length p [] = omega arith
fewer_length p (x ∷ xs) = elim (same_or_not x.pfn p) [
  | inl e ↦ omega (arith, ap length (but_yes p x xs e), fewer_length p xs)
  | inr n ↦ omega (arith, ap length (but_no p x xs n), fewer_length p xs)
]

pub fewer_pages : (p : ℕ) (xs : List ExposedFrame) → ArePages xs → ArePages (pages_but p xs)
fewer_pages p xs are = record { once = λ q. omega (arith, fewer_times p q xs, are.once q); few = omega (arith, fewer_length p xs, are.few) }

-- all are the others, where the number is none of theirs
but_all : (p : ℕ) (xs : List ExposedFrame) → times p (pfns_of xs) ≡ 0 → pages_but p xs ≡ xs
but_all p [] z = refl
but_all p (x ∷ xs) z = elim (same_or_not x.pfn p) [
  | inl e ↦ absurd (omega (arith, times_cons p x.pfn (pfns_of xs), one_same p x.pfn e, z))
  | inr n ↦ but_no p x xs n ∙ ap (λ (ys : List ExposedFrame). x ∷ ys) (but_all p xs (omega (arith, times_cons p x.pfn (pfns_of xs), z)))
]

-- the frames of the others, and that of the page
pub fewer_frames : (p f g : ℕ) (xs : List ExposedFrame) → times p (pfns_of xs) ≤ 1 → frame_in p xs ≡ Some f → times g (frames_of (pages_but p xs)) + times g (f ∷ []) ≡ times g (frames_of xs)
fewer_frames p f g [] once at = absurd (cc)
fewer_frames p f g (x ∷ xs) once at = elim (same_or_not x.pfn p) [
  | inl e ↦
      let k : x.frame ≡ f = some_same x.frame f (sym (frame_yes p x xs e) ∙ at) in
      let z : times p (pfns_of xs) ≡ 0 = omega (arith, times_cons p x.pfn (pfns_of xs), one_same p x.pfn e, once) in
      let rest = ap (λ (ys : List ExposedFrame). times g (frames_of ys)) (but_yes p x xs e ∙ but_all p xs z) in
      omega (arith, rest, times_cons g x.frame (frames_of xs), times_cons g f [], ap (λ (h : ℕ). one_at g h) k)
  | inr n ↦
      let rest = ap (λ (ys : List ExposedFrame). times g (frames_of ys)) (but_no p x xs n) in
      omega (arith, rest, times_cons g x.frame (frames_of (pages_but p xs)), times_cons g x.frame (frames_of xs), fewer_frames p f g xs (omega (arith, times_cons p x.pfn (pfns_of xs), once)) (sym (frame_no p x xs n) ∙ at))
]
