-- The exposed pages of a domain by their numbers, and as the hypervisor lists them.
use Rattle.std.proofs.Common.{◌≡◌, ◌≢◌, ℕ, zero, suc, ◌+◌, ◌<◌, ◌≤◌, ◌==◌, inl, inr, true, not, List, [], ◌∷◌, length, get_or, is_some, unwrap_or, Some, None, refl, sym, ap, ◌∙◌, arith, if◌then◌else◌, eq-eqb, ne_eqb}
use Rattle.std.specs.List.{sum_by, range_with_len}
use Rattle.std.specs.declared.option.Option.{Option}
use Rattle.std.proofs.lemmas.List.Sums.{sum_by-cons}
use Rattle.neph_heap.specs.declared.exposed_frame.ExposedFrame.{ExposedFrame}
use Rattle.neph_heap.specs.Lists.{pfns_of, frames_of, frame_in}
use Rattle.neph_accounts.specs.Holdings.{times}
use Rattle.neph_accounts.specs.Heaps.{exposed_frames}
use Rattle.neph_accounts.proofs.Sums.{swap}
use Rattle.neph_accounts.proofs.Times.{one_at, one_self, one_else, same_or_not, times_cons, times_head}
use Rattle.neph_machine.proofs.Summing.{sum_single}

-- 1 where an exposed page is that of this number, in this frame
abbrev hit : ℕ → ℕ → ExposedFrame → ℕ
hit f q x = if x.pfn == q then one_at x.frame f else 0

hit_here : (f q : ℕ) (x : ExposedFrame) → x.pfn ≡ q → hit f q x ≡ one_at x.frame f
hit_here f q x e = rw (eq-eqb x.pfn q e) refl

hit_else : (f q : ℕ) (x : ExposedFrame) → x.pfn ≢ q → hit f q x ≡ 0
hit_else f q x n = rw (ne_eqb x.pfn q n) refl

-- the frame is the one where a page is, if it is
abbrev is_at : ℕ → Option ℕ → ℕ
is_at f None = 0
is_at f (Some g) = one_at g f

frame_here : (q : ℕ) (x : ExposedFrame) (xs : List ExposedFrame) → x.pfn ≡ q
    → frame_in q (x ∷ xs) ≡ Some x.frame
frame_here q x xs e = rw (eq-eqb x.pfn q e) refl

frame_else : (q : ℕ) (x : ExposedFrame) (xs : List ExposedFrame) → x.pfn ≢ q
    → frame_in q (x ∷ xs) ≡ frame_in q xs
frame_else q x xs n = rw (ne_eqb x.pfn q n) refl

no_hit : (f q : ℕ) (xs : List ExposedFrame) → times q (pfns_of xs) ≡ 0
    → sum_by (hit f q) xs ≡ 0
no_hit f q [] z = refl
no_hit f q (x ∷ xs) z = elim (same_or_not x.pfn q) [
  | inl e ↦ absurd
      (let o : one_at x.pfn q ≡ 1 = ap (λ (y : ℕ). one_at y q) e ∙ one_self q in
      omega (arith, z, o, times_cons q x.pfn (pfns_of xs)))
  | inr n ↦ omega (
    arith,
    hit_else f q x n,
    no_hit f q xs (omega (arith, z, times_cons q x.pfn (pfns_of xs))),
    sum_by-cons (hit f q) x xs,
  )
]

-- of the pages of one number there is at most one
hits : (f q : ℕ) (xs : List ExposedFrame) → times q (pfns_of xs) ≤ 1
    → sum_by (hit f q) xs ≡ is_at f (frame_in q xs)
hits f q [] once = refl
hits f q (x ∷ xs) once = elim (same_or_not x.pfn q) [
  | inl e ↦
      (let o : one_at x.pfn q ≡ 1 = ap (λ (y : ℕ). one_at y q) e ∙ one_self q in
      let none = no_hit f q xs (omega (arith, once, o, times_cons q x.pfn (pfns_of xs))) in
      let here : is_at f (frame_in q (x ∷ xs)) ≡ one_at x.frame f = ap (is_at f) (frame_here q x xs e) in
      omega (arith, none, here, hit_here f q x e, sum_by-cons (hit f q) x xs))
  | inr n ↦
      (let rest = hits f q xs (omega (arith, once, times_cons q x.pfn (pfns_of xs))) in
      let there : is_at f (frame_in q (x ∷ xs)) ≡ is_at f (frame_in q xs) = ap (is_at f) (frame_else q x xs n) in
      omega (arith, rest, there, hit_else f q x n, sum_by-cons (hit f q) x xs))
]

-- a page that is listed is found
found : (q : ℕ) (xs : List ExposedFrame) → 0 < times q (pfns_of xs)
    → is_some (frame_in q xs) ≡ true
found q [] lt = absurd (omega arith)
found q (x ∷ xs) lt = elim (same_or_not x.pfn q) [
  | inl e ↦ ap is_some (frame_here q x xs e)
  | inr n ↦ ap is_some (frame_else q x xs n)
      ∙ found q xs (omega (arith, lt, times_cons q x.pfn (pfns_of xs), one_else x.pfn q n))
]

-- one page of them
one_page : (away : ℕ → ℕ) (pages : List (Option ℕ)) (f pfn : ℕ) (page o : Option ℕ)
    → away pfn ≡ unwrap_or o 0 → is_some o ≡ not (is_some page)
    → times f (exposed_frames (page ∷ pages) away pfn)
    ≡ is_at f o + times f (exposed_frames pages away (suc pfn))
one_page away pages f pfn None None e s = absurd (cc)
one_page away pages f pfn None (Some g) e s =
    let here : one_at (away pfn) f ≡ one_at g f = ap (λ (y : ℕ). one_at y f) e in
    omega (arith, here, times_cons f (away pfn) (exposed_frames pages away (suc pfn)))
one_page away pages f pfn (Some h) None e s = omega arith
one_page away pages f pfn (Some h) (Some g) e s = absurd (cc)

-- the pages by number
by_number : (pages : List (Option ℕ)) (xs : List ExposedFrame) (pfn f : ℕ)
    → ((q : ℕ) → times q (pfns_of xs) ≤ 1)
    → ((i : ℕ) → i < length pages
    → is_some (frame_in (pfn + i) xs) ≡ not (is_some (get_or pages i None)))
    → times f (exposed_frames pages (λ q. unwrap_or (frame_in q xs) 0) pfn)
    ≡ sum_by (λ q. sum_by (hit f q) xs) (range_with_len pfn (length pages))
by_number [] xs pfn f once split = refl
by_number (page ∷ pages) xs pfn f once split =
    let away : ℕ → ℕ = λ q. unwrap_or (frame_in q xs) 0 in
    let rest = by_number pages xs (pfn + 1) f once
    (λ i lt. ap (λ (q : ℕ). is_some (frame_in q xs)) (omega arith) ∙ split (suc i) (omega arith)) in
    let first = one_page away pages f pfn page (frame_in pfn xs) refl
    (ap (λ (q : ℕ). is_some (frame_in q xs)) (omega arith) ∙ split zero (omega arith)) in
    let next : times f (exposed_frames pages away (suc pfn)) ≡ times f (exposed_frames pages away (pfn + 1)) =
    ap (λ (k : ℕ). times f (exposed_frames pages away k)) (omega arith) in
    omega (
      arith,
      rest,
      first,
      next,
      hits f pfn xs (once pfn),
      sum_by-cons (λ (q : ℕ). sum_by (hit f q) xs) pfn (range_with_len (pfn + 1) (length pages)),
    )

-- each listed page has its number
by_page : (n f : ℕ) (xs : List ExposedFrame)
    → ((q : ℕ) → 0 < times q (pfns_of xs) → q < n)
    → sum_by (λ x. sum_by (λ q. hit f q x) (range_with_len 0 n)) xs ≡ times f (frames_of xs)
by_page n f [] small = refl
by_page n f (x ∷ xs) small =
    let one : sum_by (λ q. hit f q x) (range_with_len 0 n) ≡ hit f x.pfn x =
    sum_single n x.pfn (λ q. hit f q x) (small x.pfn (times_head x.pfn (pfns_of xs)))
    (λ q lt ne. hit_else f q x (λ e. ne (sym e))) in
    omega (
      arith,
      one,
      hit_here f x.pfn x refl,
      by_page n f xs (λ q lt. small q (omega (arith, lt, times_cons q x.pfn (pfns_of xs)))),
      times_cons f x.frame (frames_of xs),
      sum_by-cons (λ (y : ExposedFrame). sum_by (λ q. hit f q y) (range_with_len 0 n)) x xs,
    )

-- the frames of a domain's exposed pages are those that the hypervisor lists
pub exposed_listed : (pages : List (Option ℕ)) (xs : List ExposedFrame) (f : ℕ)
    → ((q : ℕ) → times q (pfns_of xs) ≤ 1)
    → ((i : ℕ) → i < length pages
    → is_some (frame_in i xs) ≡ not (is_some (get_or pages i None)))
    → ((q : ℕ) → is_some (frame_in q xs) ≡ true → q < length pages)
    → times f (exposed_frames pages (λ q. unwrap_or (frame_in q xs) 0) 0)
    ≡ times f (frames_of xs)
exposed_listed pages xs f once split within =
    by_number pages xs 0 f once (λ i lt. ap (λ (q : ℕ). is_some (frame_in q xs)) (omega arith) ∙ split i lt)
    ∙ swap (λ x q. hit f q x) xs (range_with_len 0 (length pages))
    ∙ by_page (length pages) f xs (λ q lt. within q (found q xs lt))
