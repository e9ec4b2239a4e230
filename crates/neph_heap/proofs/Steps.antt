-- What a seat has after some of its frames changed.
use Rattle.std.proofs.Common.{◌≡◌, ℕ, zero, suc, ◌+◌, ◌<◌, ◌≤◌, true, List, [], ◌∷◌, ◌++◌, length, get_or, Some, None, refl, sym, ap, subst, arith}
use Rattle.std.specs.declared.option.Option.{Option}
use Rattle.neph_pool.specs.declared.entry.Entry.{Entry}
use Rattle.neph_pool.specs.declared.entry.Hold.{Hold}
use Rattle.neph_pool.specs.declared.entry.Hold.TheVariants.{Zero, Sole, Counted}
use Rattle.neph_pool.specs.Entries.{hold_at, hold_of, words_of, words_at, is_here, is_whole, weight_of}
use Rattle.neph_pool.specs.Handing.{either_entry, add_entries}
use Rattle.neph_pool.specs.Owners.{either_hold}
use Rattle.neph_pool.proofs.Parts.{place_of}
use Rattle.neph_heap.specs.Holds.{times, HasAt, Has, HoldsAmong}
use Rattle.neph_heap.proofs.Counting.{few_of, times_append}

pub at_kept : (h : Option Hold) (p o k : ℕ) → HasAt h p o k → 0 < k → (h ≡ Some Zero) × (p + o ≡ 0) × (k ≡ 1)
at_kept None p o k e lt = absurd (omega (arith, e))
at_kept (Some Zero) p o k e lt = (refl, e.0, e.1)
at_kept (Some Sole) p o k e lt = absurd (omega (arith, e.1))
at_kept (Some (Counted n)) p o k e lt = absurd (omega (arith, e.2))

pub at_own : (h : Option Hold) (p o k : ℕ) → HasAt h p o k → 0 < o → (h ≡ Some Sole) × (o ≡ 1) × (p + k ≡ 0)
at_own None p o k e lt = absurd (omega (arith, e))
at_own (Some Zero) p o k e lt = absurd (omega (arith, e.0))
at_own (Some Sole) p o k e lt = (refl, omega (arith, e.0), omega (arith, e.0, e.1))
at_own (Some (Counted n)) p o k e lt = absurd (omega (arith, e.2))

pub at_page : (h : Option Hold) (p o k : ℕ) → HasAt h p o k → 0 < p → (weight_of h ≡ 1) × (p ≡ 1) × (o + k ≡ 0)
at_page None p o k e lt = absurd (omega (arith, e))
at_page (Some Zero) p o k e lt = absurd (omega (arith, e.0))
at_page (Some Sole) p o k e lt = (refl, omega (arith, e.0), omega (arith, e.0, e.1))
at_page (Some (Counted n)) p o k e lt = (e.0, e.1, e.2)

at_most : (h : Option Hold) (p o k : ℕ) → HasAt h p o k → p + o + k ≤ 1
at_most None p o k e = omega (arith, e)
at_most (Some Zero) p o k e = omega (arith, e.0, e.1)
at_most (Some Sole) p o k e = omega (arith, e.0, e.1)
at_most (Some (Counted n)) p o k e = omega (arith, e.1, e.2)

-- no frame is named twice
pub has_once : (es : List (Option Entry)) (p o k : List ℕ) → Has es p o k → (f : ℕ) → times f p + times f o + times f k ≤ 1
has_once es p o k has f = at_most (hold_at es f) (times f p) (times f o) (times f k) (has.each f)

-- a kept frame has no reference
pub has_zero : (es : List (Option Entry)) (p o k : List ℕ) → Has es p o k → (f : ℕ) → 0 < times f k → hold_at es f ≡ Some Zero
has_zero es p o k has f lt = (at_kept (hold_at es f) (times f p) (times f o) (times f k) (has.each f) lt).0

-- a frame of the seat's own
pub has_sole : (es : List (Option Entry)) (p o k : List ℕ) → Has es p o k → (f : ℕ) → 0 < times f o → hold_at es f ≡ Some Sole
has_sole es p o k has f lt = (at_own (hold_at es f) (times f p) (times f o) (times f k) (has.each f) lt).0

-- there are no more kept frames than frames
pub has_few : (n : ℕ) (es : List (Option Entry)) (p o k : List ℕ) → length es ≡ n → Has es p o k → length k ≤ n
has_few n es p o k long has = few_of n k (λ f. omega (arith, has_once es p o k has f)) (λ f lt. let e = place_of es es f refl (ap is_here (has_zero es p o k has f lt)) in omega arith)

pub nat_by : (n : ℕ) (P : ℕ → Type 0) → (n ≡ 0 → P 0) → (0 < n → P n) → P n
nat_by zero P z s = z refl
nat_by (suc n) P z s = s (omega arith)

-- some frames changed, and so did the lists at them alone
pub has_among : (es fs : List (Option Entry)) (part : List ℕ) (h : Option Hold) (p o k p' o' k' : List ℕ) → Has es p o k → HoldsAmong part h es fs
    → ((f : ℕ) → times f part ≡ 0 → (times f p' ≡ times f p) × (times f o' ≡ times f o) × (times f k' ≡ times f k))
    → ((f : ℕ) → 0 < times f part → HasAt h (times f p') (times f o') (times f k')) → Has fs p' o' k'
has_among es fs part h p o k p' o' k' has now same new = record {
  each = λ f. nat_by (times f part) (λ n. HasAt (hold_at fs f) (times f p') (times f o') (times f k'))
      (λ z. let s = same f z in rw (now.others f z, s.0, s.1, s.2) (has.each f))
      (λ lt. rw (now.within f lt) (new f lt));
}

-- kept frames are retaken
pub has_retaken : (es fs : List (Option Entry)) (part p o k o' k' : List ℕ) → Has es p o k → HoldsAmong part (Some Sole) es fs → ((f : ℕ) → times f k ≡ times f part + times f k') → ((f : ℕ) → times f o' ≡ times f part + times f o) → Has fs p o' k'
has_retaken es fs part p o k o' k' has now left come =
    has_among es fs part (Some Sole) p o k p o' k' has now (λ f z. (refl, omega (arith, come f), omega (arith, left f)))
    (λ f lt. let at = at_kept (hold_at es f) (times f p) (times f o) (times f k) (has.each f) (omega (arith, left f)) in (omega (arith, at.1, at.2, left f, come f), omega (arith, at.2, left f)))

-- frames that the seat had nothing of come to it
pub has_taken : (es fs : List (Option Entry)) (part p o k o' : List ℕ) → Has es p o k → HoldsAmong part (Some Sole) es fs → ((f : ℕ) → times f part ≤ 1) → ((f : ℕ) → 0 < times f part → hold_at es f ≡ None) → ((f : ℕ) → times f o' ≡ times f part + times f o) → Has fs p o' k
has_taken es fs part p o k o' has now once none come =
    has_among es fs part (Some Sole) p o k p o' k has now (λ f z. (refl, omega (arith, come f, z), refl))
    (λ f lt.
    let at : times f p + times f o + times f k ≡ 0 = subst (λ (h : Option Hold). HasAt h (times f p) (times f o) (times f k)) (none f lt) (has.each f) in
    (omega (arith, at, lt, once f, come f), omega (arith, at)))

-- frames of the seat's own go away
pub has_handed : (es fs : List (Option Entry)) (part p o k o' : List ℕ) → Has es p o k → HoldsAmong part None es fs → ((f : ℕ) → times f o ≡ times f part + times f o') → Has fs p o' k
has_handed es fs part p o k o' has now left =
    has_among es fs part None p o k p o' k has now (λ f z. (refl, omega (arith, left f), refl))
    (λ f lt. let at = at_own (hold_at es f) (times f p) (times f o) (times f k) (has.each f) (omega (arith, left f)) in omega (arith, at.1, at.2, left f))

-- frames of the seat's own are given up
pub has_released : (es fs : List (Option Entry)) (part p o k o' k' : List ℕ) → Has es p o k → HoldsAmong part (Some Zero) es fs → ((f : ℕ) → times f o ≡ times f part + times f o') → ((f : ℕ) → times f k' ≡ times f k + times f part) → Has fs p o' k'
has_released es fs part p o k o' k' has now left come =
    has_among es fs part (Some Zero) p o k p o' k' has now (λ f z. (refl, omega (arith, left f), omega (arith, come f)))
    (λ f lt. let at = at_own (hold_at es f) (times f p) (times f o) (times f k) (has.each f) (omega (arith, left f)) in (omega (arith, at.1, at.2, left f), omega (arith, at.1, at.2, left f, come f)))

-- the same holds, and lists that name the same
pub has_same : (es fs : List (Option Entry)) (p o k o' k' : List ℕ) → Has es p o k → ((f : ℕ) → hold_at fs f ≡ hold_at es f) → ((f : ℕ) → times f o' ≡ times f o) → ((f : ℕ) → times f k' ≡ times f k) → Has fs p o' k'
has_same es fs p o k o' k' has now q r = record { each = λ f. rw (now f, q f, r f) (has.each f) }

either_at : (x y : Option Entry) → hold_of (either_entry x y) ≡ either_hold (hold_of x) (hold_of y)
either_at None y = refl
either_at (Some e) y = refl

either_none : (h : Option Hold) → either_hold h None ≡ h
either_none None = refl
either_none (Some h) = refl

hold_at-add : (es fs : List (Option Entry)) (f : ℕ) → hold_at (add_entries es fs) f ≡ either_hold (hold_at es f) (hold_at fs f)
unfolding hold_at add_entries
hold_at-add [] fs f = refl
hold_at-add (x ∷ es) [] f = sym (either_none (hold_of (get_or (x ∷ es) f None)))
hold_at-add (x ∷ es) (y ∷ fs) zero = either_at x y
hold_at-add (x ∷ es) (y ∷ fs) (suc f) = hold_at-add es fs f

either_words : (x y : Option Entry) → is_here (hold_of x) ≡ true → words_of (either_entry x y) ≡ words_of x
either_words None y h = absurd (cc)
either_words (Some e) y h = refl

-- of a frame that the seat had it sees the same words
pub words_at-add : (es fs : List (Option Entry)) (f : ℕ) → is_here (hold_at es f) ≡ true → words_at (add_entries es fs) f ≡ words_at es f
unfolding hold_at words_at add_entries
words_at-add [] fs f h = absurd (cc)
words_at-add (x ∷ es) [] f h = refl
words_at-add (x ∷ es) (y ∷ fs) zero h = either_words x y h
words_at-add (x ∷ es) (y ∷ fs) (suc f) h = words_at-add es fs f h

joined_at : (a b : Option Hold) (o k l : ℕ) → HasAt a 0 o k → HasAt b 0 0 l → (is_here b ≡ true → a ≡ None) → HasAt (either_hold a b) 0 o (k + l)
joined_at None None o k l x y n = omega (arith, x, y)
joined_at None (Some Zero) o k l x y n = (omega (arith, x), omega (arith, x, y.1))
joined_at None (Some Sole) o k l x y n = absurd (omega (arith, y.0))
joined_at None (Some (Counted c)) o k l x y n = absurd (omega (arith, y.1))
joined_at (Some h) None o k l x y n = let e : k + l ≡ k = omega (arith, y) in rw e x
joined_at (Some h) (Some j) o k l x y n = absurd (let z : Some h ≡ None = n refl in cc)

-- another seat, which keeps some frames and has no other, is joined
pub has_joined : (es fs gs : List (Option Entry)) (o k l : List ℕ) → Has es [] o k → Has fs [] [] l → gs ≡ add_entries es fs → ((f : ℕ) → is_here (hold_at fs f) ≡ true → hold_at es f ≡ None) → Has gs [] o (k ++ l)
has_joined es fs gs o k l x y e apart = record {
  each = λ f. rw (e, hold_at-add es fs f, times_append f k l) (joined_at (hold_at es f) (hold_at fs f) (times f o) (times f k) (times f l) (x.each f) (y.each f) (apart f));
}

whole_at : (h : Option Hold) (o k : ℕ) → HasAt h 0 o k → is_here h ≡ true → is_whole h ≡ true
whole_at None o k x e = absurd (cc)
whole_at (Some Zero) o k x e = refl
whole_at (Some Sole) o k x e = refl
whole_at (Some (Counted c)) o k x e = absurd (omega (arith, x.1))

-- where no frame is under pages, each entry is whole
pub has_whole : (es : List (Option Entry)) (o k : List ℕ) → Has es [] o k → (f : ℕ) → is_here (hold_at es f) ≡ true → is_whole (hold_at es f) ≡ true
has_whole es o k x f e = whole_at (hold_at es f) (times f o) (times f k) (x.each f) e
