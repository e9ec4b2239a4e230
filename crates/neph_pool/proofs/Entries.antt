-- How the entries of a seat read after a change of one of them.
use Rattle.std.proofs.Common.{◌≡◌, ◌≢◌, ℕ, zero, suc, true, List, [], ◌∷◌, length, Some, None, refl, ap, arith, length-set}
use Rattle.std.specs.declared.option.Option.{Option}
use Rattle.neph_pool.specs.declared.entry.Entry.{Entry}
use Rattle.neph_pool.specs.declared.entry.Hold.{Hold}
use Rattle.neph_pool.specs.Entries.{entry_at, hold_of, words_of, with_hold_of, with_words_of, hold_at, words_at, with_hold, with_words, without, is_held, is_here, weight_of, IsHeldAt, IsOnceAt, IsSoleAt}

pub held_sole : (es : List (Option Entry)) (f : ℕ) → IsSoleAt es f → IsHeldAt es f
held_sole es f e = ap is_held e

weight_here : (h : Option Hold) → weight_of h ≡ 1 → is_here h ≡ true
weight_here None e = absurd (omega arith)
weight_here (Some h) e = refl

pub once_here : (es : List (Option Entry)) (f : ℕ) → IsOnceAt es f → is_here (hold_at es f) ≡ true
once_here es f e = weight_here (hold_at es f) e

pub here_held : (h : Option Hold) → is_held h ≡ true → is_here h ≡ true
here_held None e = cc
here_held (Some h) e = refl

hold_of-with_words : (x : Option Entry) (ws : List ℕ) → hold_of (with_words_of x ws) ≡ hold_of x
hold_of-with_words None ws = refl
hold_of-with_words (Some e) ws = refl

words_of-with_words : (x : Option Entry) (ws : List ℕ) → is_here (hold_of x) ≡ true → words_of (with_words_of x ws) ≡ ws
words_of-with_words None ws h = cc
words_of-with_words (Some e) ws h = refl

with_words_of-twice : (x : Option Entry) (ws vs : List ℕ) → with_words_of (with_words_of x ws) vs ≡ with_words_of x vs
with_words_of-twice None ws vs = refl
with_words_of-twice (Some e) ws vs = refl

with_words_of-words : (x : Option Entry) → with_words_of x (words_of x) ≡ x
with_words_of-words None = refl
with_words_of-words (Some e) = refl

pub hold_at-with_words : (es : List (Option Entry)) (f : ℕ) (ws : List ℕ) (g : ℕ) → hold_at (with_words es f ws) g ≡ hold_at es g
unfolding hold_at with_words
hold_at-with_words [] f ws g = refl
hold_at-with_words (x ∷ xs) zero ws zero = hold_of-with_words x ws
hold_at-with_words (x ∷ xs) zero ws (suc g) = refl
hold_at-with_words (x ∷ xs) (suc f) ws zero = refl
hold_at-with_words (x ∷ xs) (suc f) ws (suc g) = hold_at-with_words xs f ws g

pub words_at-with_words : (es : List (Option Entry)) (f : ℕ) (ws : List ℕ) → is_here (hold_at es f) ≡ true → words_at (with_words es f ws) f ≡ ws
unfolding hold_at words_at with_words
words_at-with_words [] f ws h = cc
words_at-with_words (x ∷ xs) zero ws h = words_of-with_words x ws h
words_at-with_words (x ∷ xs) (suc f) ws h = words_at-with_words xs f ws h

pub words_at-with_words_other : (es : List (Option Entry)) (f : ℕ) (ws : List ℕ) (g : ℕ) → g ≢ f → words_at (with_words es f ws) g ≡ words_at es g
unfolding words_at with_words
words_at-with_words_other [] f ws g n = refl
words_at-with_words_other (x ∷ xs) zero ws zero n = absurd (n refl)
words_at-with_words_other (x ∷ xs) zero ws (suc g) n = refl
words_at-with_words_other (x ∷ xs) (suc f) ws zero n = refl
words_at-with_words_other (x ∷ xs) (suc f) ws (suc g) n = words_at-with_words_other xs f ws g (λ e. n (ap suc e))

pub with_words-twice : (es : List (Option Entry)) (f : ℕ) (ws vs : List ℕ) → with_words (with_words es f ws) f vs ≡ with_words es f vs
unfolding with_words
with_words-twice [] f ws vs = refl
with_words-twice (x ∷ xs) zero ws vs = ap (λ (y : Option Entry). y ∷ xs) (with_words_of-twice x ws vs)
with_words-twice (x ∷ xs) (suc f) ws vs = ap (λ (ys : List (Option Entry)). x ∷ ys) (with_words-twice xs f ws vs)

pub with_words-same : (es : List (Option Entry)) (f : ℕ) → with_words es f (words_at es f) ≡ es
unfolding with_words words_at
with_words-same [] f = refl
with_words-same (x ∷ xs) zero = ap (λ (y : Option Entry). y ∷ xs) (with_words_of-words x)
with_words-same (x ∷ xs) (suc f) = ap (λ (ys : List (Option Entry)). x ∷ ys) (with_words-same xs f)

pub length-with_words : (es : List (Option Entry)) (f : ℕ) (ws : List ℕ) → length (with_words es f ws) ≡ length es
unfolding with_words
length-with_words es f ws = length-set es f _

hold_of-with_hold : (x : Option Entry) (h : Hold) → is_here (hold_of x) ≡ true → hold_of (with_hold_of x h) ≡ Some h
hold_of-with_hold None h e = cc
hold_of-with_hold (Some x) h e = refl

words_of-with_hold : (x : Option Entry) (h : Hold) → words_of (with_hold_of x h) ≡ words_of x
words_of-with_hold None h = refl
words_of-with_hold (Some x) h = refl

pub hold_at-with_hold : (es : List (Option Entry)) (f : ℕ) (h : Hold) → is_here (hold_at es f) ≡ true → hold_at (with_hold es f h) f ≡ Some h
unfolding hold_at with_hold
hold_at-with_hold [] f h e = cc
hold_at-with_hold (x ∷ xs) zero h e = hold_of-with_hold x h e
hold_at-with_hold (x ∷ xs) (suc f) h e = hold_at-with_hold xs f h e

pub hold_at-with_hold_other : (es : List (Option Entry)) (f : ℕ) (h : Hold) (g : ℕ) → g ≢ f → hold_at (with_hold es f h) g ≡ hold_at es g
unfolding hold_at with_hold
hold_at-with_hold_other [] f h g n = refl
hold_at-with_hold_other (x ∷ xs) zero h zero n = absurd (n refl)
hold_at-with_hold_other (x ∷ xs) zero h (suc g) n = refl
hold_at-with_hold_other (x ∷ xs) (suc f) h zero n = refl
hold_at-with_hold_other (x ∷ xs) (suc f) h (suc g) n = hold_at-with_hold_other xs f h g (λ e. n (ap suc e))

pub words_at-with_hold : (es : List (Option Entry)) (f : ℕ) (h : Hold) (g : ℕ) → words_at (with_hold es f h) g ≡ words_at es g
unfolding words_at with_hold
words_at-with_hold [] f h g = refl
words_at-with_hold (x ∷ xs) zero h zero = words_of-with_hold x h
words_at-with_hold (x ∷ xs) zero h (suc g) = refl
words_at-with_hold (x ∷ xs) (suc f) h zero = refl
words_at-with_hold (x ∷ xs) (suc f) h (suc g) = words_at-with_hold xs f h g

pub length-with_hold : (es : List (Option Entry)) (f : ℕ) (h : Hold) → length (with_hold es f h) ≡ length es
unfolding with_hold
length-with_hold es f h = length-set es f _

pub hold_at-without : (es : List (Option Entry)) (f : ℕ) → hold_at (without es f) f ≡ None
unfolding hold_at without
hold_at-without [] f = refl
hold_at-without (x ∷ xs) zero = refl
hold_at-without (x ∷ xs) (suc f) = hold_at-without xs f

pub entry_at-without_other : (es : List (Option Entry)) (f g : ℕ) → g ≢ f → entry_at (without es f) g ≡ entry_at es g
unfolding without
entry_at-without_other [] f g n = refl
entry_at-without_other (x ∷ xs) zero zero n = absurd (n refl)
entry_at-without_other (x ∷ xs) zero (suc g) n = refl
entry_at-without_other (x ∷ xs) (suc f) zero n = refl
entry_at-without_other (x ∷ xs) (suc f) (suc g) n = entry_at-without_other xs f g (λ e. n (ap suc e))

pub hold_at-without_other : (es : List (Option Entry)) (f g : ℕ) → g ≢ f → hold_at (without es f) g ≡ hold_at es g
unfolding hold_at
hold_at-without_other es f g n = ap hold_of (entry_at-without_other es f g n)

pub words_at-without_other : (es : List (Option Entry)) (f g : ℕ) → g ≢ f → words_at (without es f) g ≡ words_at es g
unfolding words_at
words_at-without_other es f g n = ap words_of (entry_at-without_other es f g n)

pub length-without : (es : List (Option Entry)) (f : ℕ) → length (without es f) ≡ length es
unfolding without
length-without es f = length-set es f _

-- for the attribute of a function that reads and writes frames
pub ruleset entry_laws = (held_sole, here_held, once_here, hold_at-with_words, words_at-with_words, words_at-with_words_other, with_words-twice, with_words-same, hold_at-with_hold, hold_at-with_hold_other, words_at-with_hold, hold_at-without_other, words_at-without_other)
