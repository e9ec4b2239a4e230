-- What a caller of `hand` shows: that its part may be handed over, and that the cap holds.
use Rattle.std.proofs.Common.{◌≡◌, ◌≢◌, ℕ, zero, suc, ◌+◌, ◌<◌, ◌≤◌, Bool, true, List, [], ◌∷◌, length, set, get_or, replicate, Some, None, refl, ap, ◌∙◌, arith, if◌then◌else◌}
use Rattle.std.specs.List.{range_with_len, count_by}
use Rattle.std.proofs.lemmas.List.{get_or-set_other, get_or-set_same}
use Rattle.std.proofs.lemmas.List.FromFn.{get_or-range_with_len, length-range_with_len}
use Rattle.std.proofs.lemmas.List.Sums.{get_or-le-sum_by}
use Rattle.std.specs.declared.option.Option.{Option}
use Rattle.neph_pool.specs.declared.entry.Entry.{Entry}
use Rattle.neph_pool.specs.declared.entry.Hold.{Hold}
use Rattle.neph_pool.specs.Names.{name_count}
use Rattle.neph_pool.specs.Entries.{entry_as, hold_of, words_of, hold_at, words_at, entry_at, is_here, is_entry, entry_count}
use Rattle.neph_pool.specs.Handing.{left_of, left_hold, moved_of, moved_hold, giving, taking, AreDistinct, moved_into, nothing}
use Rattle.neph_pool.proofs.Walks.{walk_moved, moved_walked}
use Rattle.neph_pool.proofs.Rows.{count_cons}

hold_else : (es : List (Option Entry)) (f g : ℕ) (x : Option Entry) → g ≢ f → hold_at (set es f x) g ≡ hold_at es g
unfolding hold_at
hold_else es f g x n = ap hold_of (get_or-set_other es f g x None n)

one_most : (x : Option Entry) → (if is_entry x then 1 else 0) ≤ 1
one_most None = omega arith
one_most (Some e) = omega arith

count_set : (es : List (Option Entry)) (f : ℕ) (x : Option Entry) → entry_count (set es f x) ≤ entry_count es + 1
count_set [] f x = omega arith
count_set (e ∷ es) zero x = omega (arith, count_cons x es, count_cons e es, one_most x)
count_set (e ∷ es) (suc f) x = omega (arith, count_cons e (set es f x), count_cons e es, count_set es f x)

count_walk : (es to : List (Option Entry)) (fs : List ℕ) → entry_count (walk_moved es to fs) ≤ entry_count to + length fs
count_walk es to [] = omega arith
count_walk es to (f ∷ fs) = omega (arith, count_walk (giving es f) (taking es to f) fs, count_set to f (moved_of (entry_at es f)))

-- the taker gains at most an entry a frame
pub count_moved : (es to : List (Option Entry)) (fs : List ℕ) → AreDistinct fs → entry_count (moved_into es to fs) ≤ entry_count to + length fs
count_moved es to fs d = rw (← moved_walked es to fs d) (count_walk es to fs)

none_at : (n f : ℕ) → entry_at (nothing n) f ≡ None
none_at zero f = refl
none_at (suc n) zero = refl
none_at (suc n) (suc f) = none_at n f

-- a new seat has no hold of any frame
pub hold_at-nothing : (n f : ℕ) → hold_at (nothing n) f ≡ None
unfolding hold_at
hold_at-nothing n f = ap hold_of (none_at n f)

all_at : (n f : ℕ) (x : Option Entry) → f < n → entry_at (replicate n x) f ≡ x
all_at zero f x h = absurd (omega arith)
all_at (suc n) zero x h = refl
all_at (suc n) (suc f) x h = all_at n f x (omega arith)

-- of a list of the same entries each is that entry
pub hold_at-replicate : (n f : ℕ) (x : Option Entry) → f < n → hold_at (replicate n x) f ≡ hold_of x
unfolding hold_at
hold_at-replicate n f x h = ap hold_of (all_at n f x h)

here_in : (es : List (Option Entry)) (f : ℕ) → is_here (hold_at es f) ≡ true → f < length es
unfolding hold_at
here_in [] f h = absurd (cc)
here_in (e ∷ es) zero h = omega arith
here_in (e ∷ es) (suc f) h = let k = here_in es f h in omega arith

-- a frame that a seat has has a place among those of every seat
pub place_of : (es to : List (Option Entry)) (f : ℕ) → length to ≡ length es → is_here (hold_at es f) ≡ true → f < length to
place_of es to f e h = let k = here_in es f h in omega arith

hold_of-as : (h : Option Hold) (ws : List ℕ) → hold_of (entry_as h ws) ≡ h
hold_of-as None ws = refl
hold_of-as (Some h) ws = refl

-- what the taker holds of the frame then
pub hold_at-taking : (es to : List (Option Entry)) (f : ℕ) → f < length to → hold_at (taking es to f) f ≡ moved_hold (hold_at es f)
unfolding hold_at
hold_at-taking es to f h = ap hold_of (get_or-set_same to f (moved_of (entry_at es f)) None h) ∙ hold_of-as (moved_hold (hold_of (entry_at es f))) (words_of (entry_at es f))

pub hold_at-taking_other : (es to : List (Option Entry)) (f g : ℕ) → g ≢ f → hold_at (taking es to f) g ≡ hold_at to g
hold_at-taking_other es to f g n = hold_else to f g (moved_of (entry_at es f)) n

-- what the giver has left of it
pub hold_at-giving : (es : List (Option Entry)) (f : ℕ) → f < length es → hold_at (giving es f) f ≡ left_hold (hold_at es f)
unfolding hold_at
hold_at-giving es f h = ap hold_of (get_or-set_same es f (left_of (entry_at es f)) None h) ∙ hold_of-as (left_hold (hold_of (entry_at es f))) (words_of (entry_at es f))

pub hold_at-giving_other : (es : List (Option Entry)) (f g : ℕ) → g ≢ f → hold_at (giving es f) g ≡ hold_at es g
hold_at-giving_other es f g n = hold_else es f g (left_of (entry_at es f)) n

-- the taker sees the words that the giver saw
pub words_at-taking : (es to : List (Option Entry)) (f : ℕ) → f < length to → is_here (moved_hold (hold_at es f)) ≡ true → words_at (taking es to f) f ≡ words_at es f
unfolding hold_at words_at
words_at-taking es to f h here = ap words_of (get_or-set_same to f (moved_of (entry_at es f)) None h) ∙ words_of-as (moved_hold (hold_of (entry_at es f))) (words_of (entry_at es f)) here
  where
    words_of-as : (h : Option Hold) (ws : List ℕ) → is_here h ≡ true → words_of (entry_as h ws) ≡ ws
    words_of-as None ws e = absurd (cc)
    words_of-as (Some h) ws e = refl

abbrev bit : Bool → ℕ
bit b = if b then 1 else 0

-- a seat with a name has a count of names
pub name_count-some : (ns : ℕ → Bool) (d : ℕ) → d < 64 → ns d ≡ true → 1 ≤ name_count ns
unfolding name_count
name_count-some ns d h e =
    let ids : List ℕ = range_with_len 0 64 in
    let at : get_or ids d 0 ≡ d = get_or-range_with_len 0 64 d 0 h ∙ (let z : 0 + d ≡ d = omega arith in z) in
    let fit : d < length ids = rw (length-range_with_len 0 64) h in
    let least : bit (ns (get_or ids d 0)) ≤ count_by ns ids = get_or-le-sum_by (λ (k : ℕ). bit (ns k)) ids d 0 fit in
    let one : bit (ns (get_or ids d 0)) ≡ 1 = rw (at, e) refl in
    omega (arith, least, one)
