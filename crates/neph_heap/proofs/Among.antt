-- Frames that are named by a list, as the pool's calls say it and as counts.
use Rattle.std.proofs.Common.{◌≡◌, ◌≢◌, ℕ, zero, suc, ◌+◌, ◌<◌, ◌≤◌, ◌||◌, Bool, true, false, List, [], ◌∷◌, ◌++◌, length, take, get_or, Some, refl, sym, ap, ◌∙◌, arith, subst, inl, inr, eq-eqb, ne_eqb}
use Rattle.std.specs.declared.option.Option.{Option}
use Rattle.std.proofs.lemmas.List.{take_more}
use Rattle.neph_pool.specs.declared.entry.Entry.{Entry}
use Rattle.neph_pool.specs.declared.entry.Hold.{Hold}
use Rattle.neph_pool.specs.Entries.{hold_at, words_at, is_here, with_hold}
use Rattle.neph_pool.specs.Handing.{is_among, AreDistinct}
use Rattle.neph_pool.proofs.Entries.{hold_at-with_hold, hold_at-with_hold_other, words_at-with_hold}
use Rattle.neph_pool.proofs.Rows.{same_or_not}
use Rattle.neph_heap.specs.declared.exposed_frame.ExposedFrame.{ExposedFrame}
use Rattle.neph_heap.specs.Lists.{frames_of}
use Rattle.neph_heap.specs.Holds.{times, HoldsAmong}
use Rattle.neph_heap.proofs.Counting.{one_at, one_same, one_else, times_cons, times_more, times_take}

pub among_times : (f : ℕ) (xs : List ℕ) → is_among f xs ≡ true → 0 < times f xs
among_times f [] e = absurd (cc)
among_times f (x ∷ xs) e = elim (same_or_not x f) [
  | inl s ↦ omega (arith, times_cons f x xs, one_same f x s)
  | inr n ↦ let tail : is_among f xs ≡ true = ap (λ (b : Bool). b || is_among f xs) (sym (ne_eqb x f n)) ∙ e in omega (arith, times_cons f x xs, among_times f xs tail)
]

pub none_times : (f : ℕ) (xs : List ℕ) → is_among f xs ≡ false → times f xs ≡ 0
none_times f [] e = refl
none_times f (x ∷ xs) e = elim (same_or_not x f) [
  | inl s ↦ let yes : true ≡ false = ap (λ (b : Bool). b || is_among f xs) (sym (eq-eqb x f s)) ∙ e in absurd (cc)
  | inr n ↦ let tail : is_among f xs ≡ false = ap (λ (b : Bool). b || is_among f xs) (sym (ne_eqb x f n)) ∙ e in omega (arith, times_cons f x xs, one_else f x n, none_times f xs tail)
]

bool_by : (b : Bool) (P : Bool → Type 0) → (b ≡ true → P true) → (b ≡ false → P false) → P b
bool_by true P t f = t refl
bool_by false P t f = f refl

pub times_among : (f : ℕ) (xs : List ℕ) → 0 < times f xs → is_among f xs ≡ true
times_among f xs lt = bool_by (is_among f xs) (λ b. b ≡ true) (λ e. refl) (λ e. absurd (omega (arith, none_times f xs e)))

pub times_none : (f : ℕ) (xs : List ℕ) → times f xs ≡ 0 → is_among f xs ≡ false
times_none f xs z = bool_by (is_among f xs) (λ b. b ≡ false) (λ e. absurd (omega (arith, among_times f xs e))) (λ e. refl)

-- where each is named once, they are different
pub distinct_of : (xs : List ℕ) → ((f : ℕ) → times f xs ≤ 1) → AreDistinct xs
distinct_of [] once = tt
distinct_of (x ∷ xs) once =
    (times_none x xs (omega (arith, once x, times_cons x x xs, one_same x x refl)), distinct_of xs (λ f. omega (arith, once f, times_cons f x xs)))

-- no frame has changed yet
pub among_start : (xs : List ℕ) (h : Option Hold) (es : List (Option Entry)) → HoldsAmong (take 0 xs) h es es
among_start xs h es = record { within = λ f lt. absurd (let z : times f (take 0 xs) ≡ 0 = none xs f in omega arith); others = λ f z. refl } where
  none : (ys : List ℕ) (f : ℕ) → times f (take 0 ys) ≡ 0
  none [] f = refl
  none (y ∷ ys) f = refl

-- the next frame, which is none of those before
pub next_new : (xs : List ℕ) (i f : ℕ) → i < length xs → ((g : ℕ) → times g xs ≤ 1) → f ≡ get_or xs i f → (times f (take i xs) ≡ 0) × (0 < times f xs)
next_new xs i f lt once e =
    let one : one_at f (get_or xs i f) ≡ 1 = one_same f (get_or xs i f) (sym e) in
    (omega (arith, times_more f xs i f lt, times_take f xs (i + 1), once f, one), omega (arith, times_more f xs i f lt, times_take f xs (i + 1), one))

-- one frame more
pub among_next : (xs : List ℕ) (i f : ℕ) (h : Hold) (es now gs : List (Option Entry)) → i < length xs → f ≡ get_or xs i f → HoldsAmong (take i xs) (Some h) es now → gs ≡ with_hold now f h → is_here (hold_at now f) ≡ true → HoldsAmong (take (i + 1) xs) (Some h) es gs
among_next xs i f h es now gs lt e was is here =
    let at : (g : ℕ) → hold_at gs g ≡ hold_at (with_hold now f h) g = λ g. ap (λ (x : List (Option Entry)). hold_at x g) is in record {
      within = λ g some. elim (same_or_not g f) [
        | inl s ↦ at g ∙ ap (λ (k : ℕ). hold_at (with_hold now f h) k) s ∙ hold_at-with_hold now f h here
        | inr n ↦
            let more = times_more g xs i f lt in
            let zero_one : one_at g (get_or xs i f) ≡ 0 = one_else g (get_or xs i f) (λ k. n (sym (e ∙ k))) in
            at g ∙ hold_at-with_hold_other now f h g n ∙ was.within g (omega arith)
      ];
      others = λ g none.
          let more = times_more g xs i f lt in
          let n : g ≢ f = (λ (k : g ≡ f). let one : one_at g (get_or xs i f) ≡ 1 = one_same g (get_or xs i f) (sym e ∙ sym k) in omega arith) in
          at g ∙ hold_at-with_hold_other now f h g n ∙ was.others g (omega arith);
    }

take_past : (xs : List ℕ) (i : ℕ) → length xs ≤ i → take i xs ≡ xs
take_past [] zero le = refl
take_past [] (suc i) le = refl
take_past (x ∷ xs) zero le = absurd (omega arith)
take_past (x ∷ xs) (suc i) le = ap (λ (ys : List ℕ). x ∷ ys) (take_past xs i (omega arith))

-- all of them
pub among_end : (xs : List ℕ) (i : ℕ) (h : Option Hold) (es fs : List (Option Entry)) → length xs ≤ i → HoldsAmong (take i xs) h es fs → HoldsAmong xs h es fs
among_end xs i h es fs le was = subst (λ (ys : List ℕ). HoldsAmong ys h es fs) (take_past xs i le) was

-- another hold of a frame leaves the words
pub words_held : (es fs : List (Option Entry)) (f : ℕ) (h : Hold) → fs ≡ with_hold es f h → (g : ℕ) → words_at fs g ≡ words_at es g
words_held es fs f h e g = ap (λ (xs : List (Option Entry)). words_at xs g) e ∙ words_at-with_hold es f h g

frame_at : (xs : List ExposedFrame) (i : ℕ) (x : ExposedFrame) (d : ℕ) → i < length xs → x ≡ get_or xs i x → x.frame ≡ get_or (frames_of xs) i d
frame_at [] i x d lt e = absurd (omega arith)
frame_at (y ∷ xs) zero x d lt e = ap (λ (z : ExposedFrame). z.frame) e
frame_at (y ∷ xs) (suc i) x d lt e = frame_at xs i x d (omega arith) e

frame_fits : (xs : List ExposedFrame) (i : ℕ) → i < length xs → i < length (frames_of xs)
frame_fits [] i lt = absurd (omega arith)
frame_fits (y ∷ xs) zero lt = omega arith
frame_fits (y ∷ xs) (suc i) lt = let k = frame_fits xs i (omega arith) in omega arith

-- the frame of the next page
pub frame_next : (xs : List ExposedFrame) (i : ℕ) (x : ExposedFrame) → i < length xs → x ≡ get_or xs i x → (i < length (frames_of xs)) × (x.frame ≡ get_or (frames_of xs) i x.frame)
frame_next xs i x lt e = (frame_fits xs i lt, frame_at xs i x x.frame lt e)

-- the next frame is held as it was at first
pub held_next : (xs : List ℕ) (i f : ℕ) (h k : Option Hold) (es now : List (Option Entry)) → i < length xs → f ≡ get_or xs i f → ((g : ℕ) → times g xs ≤ 1) → HoldsAmong (take i xs) h es now → ((g : ℕ) → 0 < times g xs → hold_at es g ≡ k) → hold_at now f ≡ k
held_next xs i f h k es now lt e once was first = let new = next_new xs i f lt once e in was.others f new.0 ∙ first f new.1

-- one frame has changed
pub among_one : (f : ℕ) (h : Hold) (es gs : List (Option Entry)) → gs ≡ with_hold es f h → is_here (hold_at es f) ≡ true → HoldsAmong (f ∷ []) (Some h) es gs
among_one f h es gs e here = among_next (f ∷ []) 0 f h es es gs (omega arith) refl (among_start (f ∷ []) (Some h) es) e here

pub take_frame : (xs : List ExposedFrame) (i : ℕ) (x : ExposedFrame) → i < length xs → x ≡ get_or xs i x → take (i + 1) (frames_of xs) ≡ take i (frames_of xs) ++ x.frame ∷ []
take_frame xs i x lt e = let next = frame_next xs i x lt e in take_more (frames_of xs) i x.frame next.0 ∙ ap (λ (f : ℕ). take i (frames_of xs) ++ f ∷ []) (sym next.1)
