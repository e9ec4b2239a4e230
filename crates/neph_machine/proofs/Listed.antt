-- Lists of the frames under pages and in tables, and what is in them.
use Rattle.std.proofs.Common.{◌≡◌, ◌≢◌, ℕ, zero, suc, ◌+◌, ◌<◌, ◌≤◌, ◌⊎◌, inl, inr, List, [], ◌∷◌, ◌++◌, length, length-append, take, drop, get_or, is_some, option_to_list, Some, None, refl, sym, ap, ◌∙◌, arith, if◌then◌else◌}
use Rattle.std.specs.declared.option.Option.{Option}
use Rattle.neph_gmap.specs.declared.page.Page.{Page}
use Rattle.neph_memory.specs.Pages.{frame_at}
use Rattle.neph_local.specs.Forks.{IsDone}
use Rattle.neph_accounts.specs.Holdings.{times}
use Rattle.neph_accounts.specs.Heaps.{local_frames}
use Rattle.neph_accounts.proofs.Times.{one_at, one_self, one_else, same_or_not, times_cons, times_both}
use Rattle.neph_machine.specs.Rows.{frames_in}

pub some_same : {A : Type 0} {x y : A} → Some x ≡ Some y → x ≡ y
some_same e = cc

-- two numbers, of which one at most is 1
pub one_most : (a b : ℕ) → a ≤ 1 → b ≤ 1 → (0 < a → 0 < b → ⊥) → a + b ≤ 1
one_most zero b x y n = omega (arith, y)
one_most (suc a) zero x y n = omega (arith, x)
one_most (suc a) (suc b) x y n = absurd (n (omega arith) (omega arith))

pub one_of : (a b : ℕ) → 0 < a + b → (0 < a) ⊎ (0 < b)
one_of zero b lt = inr (omega (arith, lt))
one_of (suc a) b lt = inl (omega arith)

pub none_or : (n : ℕ) → (0 < n → ⊥) → n ≡ 0
none_or zero h = refl
none_or (suc n) h = absurd (h (omega arith))

-- a frame that may be there
pub option_some : (o : Option ℕ) (f : ℕ) → 0 < times f (option_to_list o) → o ≡ Some f
option_some None f lt = absurd (omega arith)
option_some (Some g) f lt = elim (same_or_not g f) [
  | inl e ↦ ap Some e
  | inr n ↦ absurd (omega (arith, lt, times_cons f g [], one_else g f n))
]

pub some_option : (o : Option ℕ) (f : ℕ) → o ≡ Some f → 0 < times f (option_to_list o)
some_option None f e = absurd (cc)
some_option (Some g) f e = let s : one_at g f ≡ 1 = ap (λ (y : ℕ). one_at y f) (some_same e) ∙ one_self f in
    omega (arith, s, times_cons f g [])

pub option_once : (o : Option ℕ) (f : ℕ) → times f (option_to_list o) ≤ 1
option_once None f = omega arith
option_once (Some g) f = elim (same_or_not g f) [
  | inl e ↦ (let s : one_at g f ≡ 1 = ap (λ (y : ℕ). one_at y f) e ∙ one_self f in omega (arith, s, times_cons f g []))
  | inr n ↦ omega (arith, times_cons f g [], one_else g f n)
]

pub option_length : (o : Option ℕ) → length (option_to_list o) ≡ (if is_some o then 1 else 0)
option_length None = refl
option_length (Some g) = refl

-- the frames that these are at the places below n
pub frames_below : (ℕ → Option ℕ) → ℕ → List ℕ
frames_below at zero = []
frames_below at (suc i) = option_to_list (at i) ++ frames_below at i

pub below_at : (at : ℕ → Option ℕ) (n f : ℕ) → 0 < times f (frames_below at n)
    → (i : ℕ) × (i < n) × (at i ≡ Some f)
unfolding frames_below
below_at at zero f lt = absurd (omega arith)
below_at at (suc n) f lt =
    elim (one_of (times f (option_to_list (at n))) (times f (frames_below at n)) (omega (arith, lt, times_both f (option_to_list (at n)) (frames_below at n)))) [
      | inl k ↦ (n, omega arith, option_some (at n) f k)
      | inr k ↦ (let t = below_at at n f k in (t.0, (let l = t.1 in omega arith), t.2))
    ]

pub at_below : (at : ℕ → Option ℕ) (n i f : ℕ) → i < n → at i ≡ Some f
    → 0 < times f (frames_below at n)
unfolding frames_below
at_below at zero i f lt e = absurd (omega arith)
at_below at (suc n) i f lt e = elim (same_or_not i n) [
  | inl s ↦ (let k = some_option (at n) f (ap at (sym s) ∙ e) in omega (arith, k, times_both f (option_to_list (at n)) (frames_below at n)))
  | inr ne ↦ (let k = at_below at n i f (below_suc ne lt) e in omega (arith, k, times_both f (option_to_list (at n)) (frames_below at n)))
] where
  below_suc : i ≢ n → i < suc n → i < n
  below_suc ne lt = by i n ne lt where
    by : (i n : ℕ) → i ≢ n → i < suc n → i < n
    by zero zero ne lt = absurd (ne refl)
    by zero (suc n) ne lt = omega arith
    by (suc i) zero ne lt = absurd (omega arith)
    by (suc i) (suc n) ne lt = omega (arith, by i n (λ e. ne (ap suc e)) (omega arith))

pub below_once : (at : ℕ → Option ℕ) (n f : ℕ)
    → ((i j : ℕ) → i < n → j < n → at i ≡ Some f → at j ≡ Some f → i ≡ j)
    → times f (frames_below at n) ≤ 1
unfolding frames_below
below_once at zero f apart = omega arith
below_once at (suc n) f apart =
    let rest = below_once at n f (λ i j a b. apart i j (omega arith) (omega arith)) in
    let one = one_most (times f (option_to_list (at n))) (times f (frames_below at n)) (option_once (at n) f) rest
    (λ a b. let t = below_at at n f b in let e = apart n t.0 (omega arith) (let l = t.1 in omega arith) (option_some (at n) f a) t.2 in let l = t.1 in omega (arith, e, l)) in
    omega (arith, one, times_both f (option_to_list (at n)) (frames_below at n))

pub below_length : (at : ℕ → Option ℕ) (n : ℕ)
    → length (frames_below at (suc n)) ≡ (if is_some (at n) then 1 else 0) + length (frames_below at n)
unfolding frames_below
below_length at n = length-append (option_to_list (at n)) (frames_below at n) ∙ ap (λ (k : ℕ). k + length (frames_below at n)) (option_length (at n))

pub below_none : (at : ℕ → Option ℕ) → length (frames_below at zero) ≡ 0
unfolding frames_below
below_none at = refl

-- the frames of a domain's own pages
pub local_at : (xs : List (Option ℕ)) (f : ℕ) → 0 < times f (local_frames xs)
    → (p : ℕ) × (get_or xs p None ≡ Some f)
local_at [] f lt = absurd (omega arith)
local_at (None ∷ xs) f lt = let t = local_at xs f lt in (suc t.0, t.1)
local_at (Some g ∷ xs) f lt = elim (same_or_not g f) [
  | inl e ↦ (zero, ap Some e)
  | inr n ↦ (let t = local_at xs f (omega (arith, lt, times_cons f g (local_frames xs), one_else g f n)) in
      (suc t.0, t.1))
]

pub at_local : (xs : List (Option ℕ)) (p f : ℕ) → get_or xs p None ≡ Some f
    → 0 < times f (local_frames xs)
at_local [] p f e = absurd (cc)
at_local (None ∷ xs) zero f e = absurd (cc)
at_local (None ∷ xs) (suc p) f e = at_local xs p f e
at_local (Some g ∷ xs) zero f e =
    let s : one_at g f ≡ 1 = ap (λ (y : ℕ). one_at y f) (some_same e) ∙ one_self f in
    omega (arith, s, times_cons f g (local_frames xs))
at_local (Some g ∷ xs) (suc p) f e = let k = at_local xs p f e in
    omega (arith, k, times_cons f g (local_frames xs))

-- the frames lie under one page each
abbrev pub ArePlaced : List (Option ℕ) → Type 0
ArePlaced xs = (p q f : ℕ) → get_or xs p None ≡ Some f → get_or xs q None ≡ Some f → p ≡ q

pub local_once : (xs : List (Option ℕ)) → ArePlaced xs → (f : ℕ) → times f (local_frames xs) ≤ 1
local_once [] apart f = omega arith
local_once (None ∷ xs) apart f =
    local_once xs (λ p q g a b. omega (arith, apart (suc p) (suc q) g a b)) f
local_once (Some g ∷ xs) apart f =
    let rest = local_once xs (λ p q h a b. omega (arith, apart (suc p) (suc q) h a b)) f in
    elim (same_or_not g f) [
      | inl e ↦
          (let none = none_or (times f (local_frames xs)) (λ lt. let t = local_at xs f lt in
          let z = apart zero (suc t.0) f (ap Some e) t.1 in omega (arith, z)) in
          let s : one_at g f ≡ 1 = ap (λ (y : ℕ). one_at y f) e ∙ one_self f in
          omega (arith, none, s, times_cons f g (local_frames xs)))
      | inr n ↦ omega (arith, rest, times_cons f g (local_frames xs), one_else g f n)
    ]

-- the first n pages, and all but the first
pub take_some : (n : ℕ) (xs : List (Option ℕ)) (p f : ℕ) → get_or (take n xs) p None ≡ Some f
    → (p < n) × (get_or xs p None ≡ Some f)
take_some zero xs p f e = absurd (cc)
take_some (suc n) [] p f e = absurd (cc)
take_some (suc n) (x ∷ xs) zero f e = (omega arith, e)
take_some (suc n) (x ∷ xs) (suc p) f e = let t = take_some n xs p f e in
    ((let l = t.0 in omega arith), t.1)

pub some_take : (n : ℕ) (xs : List (Option ℕ)) (p f : ℕ) → p < n → get_or xs p None ≡ Some f
    → get_or (take n xs) p None ≡ Some f
some_take zero xs p f lt e = absurd (omega arith)
some_take (suc n) [] p f lt e = absurd (cc)
some_take (suc n) (x ∷ xs) zero f lt e = e
some_take (suc n) (x ∷ xs) (suc p) f lt e = some_take n xs p f (omega arith) e

pub drop_one : (xs : List (Option ℕ)) (p : ℕ)
    → get_or (drop 1 xs) p None ≡ get_or xs (suc p) None
drop_one [] p = refl
drop_one (x ∷ xs) p = refl

-- a page's frame is the one at its place
pub frame_is : (ps : List Page) (p : ℕ) → frame_at ps p ≡ get_or (frames_in ps) p None
unfolding frame_at
frame_is [] p = refl
frame_is (x ∷ ps) zero = refl
frame_is (x ∷ ps) (suc p) = frame_is ps p

-- the frames of the local pages before the page `next`, but not of the identity page
abbrev pub shared_frames : List Page → ℕ → List ℕ
shared_frames ps next = local_frames (drop 1 (take next (frames_in ps)))

-- the pages lie in frames of their own
abbrev pub AreApart : List Page → Type 0
AreApart ps = (p q f : ℕ) → frame_at ps p ≡ Some f → frame_at ps q ≡ Some f → p ≡ q

module _ (ps : List Page) where
  pub page_frame : (f : ℕ) → 0 < times f (local_frames (frames_in ps))
      → (p : ℕ) × (frame_at ps p ≡ Some f)
  page_frame f lt = let t = local_at (frames_in ps) f lt in (t.0, frame_is ps t.0 ∙ t.1)

  pub frame_page : (p f : ℕ) → frame_at ps p ≡ Some f → 0 < times f (local_frames (frames_in ps))
  frame_page p f e = at_local (frames_in ps) p f (sym (frame_is ps p) ∙ e)

  pub page_once : AreApart ps → (f : ℕ) → times f (local_frames (frames_in ps)) ≤ 1
  page_once apart f =
      local_once (frames_in ps) (λ p q g a b. apart p q g (frame_is ps p ∙ a) (frame_is ps q ∙ b)) f

  some_done : (next p f : ℕ) → get_or (drop 1 (take next (frames_in ps))) p None ≡ Some f
      → (suc p < next) × (frame_at ps (suc p) ≡ Some f)
  some_done next p f e =
      let t = take_some next (frames_in ps) (suc p) f (sym (drop_one (take next (frames_in ps)) p) ∙ e) in
      (t.0, frame_is ps (suc p) ∙ t.1)

  pub shared_done : (next f : ℕ) → 0 < times f (shared_frames ps next) → IsDone ps next f
  shared_done next f lt =
      let t = local_at (drop 1 (take next (frames_in ps))) f lt in
      let d = some_done next t.0 f t.1 in
      (suc t.0, omega arith, d.0, d.1)

  pub done_shared : (next f : ℕ) → IsDone ps next f → 0 < times f (shared_frames ps next)
  done_shared next f d = by d.0 d.1 d.2 d.3 where
    by : (p : ℕ) → 1 ≤ p → p < next → frame_at ps p ≡ Some f → 0 < times f (shared_frames ps next)
    by zero a b e = absurd (omega arith)
    by (suc p) a b e =
        at_local (drop 1 (take next (frames_in ps))) p f
        (drop_one (take next (frames_in ps)) p ∙ some_take next (frames_in ps) (suc p) f b (sym (frame_is ps (suc p)) ∙ e))

  pub shared_once : AreApart ps → (next f : ℕ) → times f (shared_frames ps next) ≤ 1
  shared_once apart next f =
      local_once (drop 1 (take next (frames_in ps)))
      (λ p q g a b. let x = some_done next p g a in let y = some_done next q g b in
      omega (arith, apart (suc p) (suc q) g x.1 y.1)) f
