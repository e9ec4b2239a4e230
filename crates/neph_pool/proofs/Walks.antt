-- Frames that are handed over one after another, and what both seats have at the end.
use Rattle.std.proofs.Common.{◌≡◌, ◌≢◌, ◌<◌, ◌==◌, ◌⊎◌, inl, inr, ℕ, Bool, true, false, List, [], ◌∷◌, length, set, None, refl, sym, ap, ◌∙◌, arith, length-set, eq-eqb, ne_eqb}
use Rattle.std.proofs.lemmas.Bool.{eqb-true}
use Rattle.std.proofs.lemmas.List.{get_or-set_other, get_or-set_same, ext_get_or}
use Rattle.std.proofs.lemmas.List.FromFn.{get_or-map-range_with_len, length-map-range_with_len}
use Rattle.std.specs.declared.option.Option.{Option}
use Rattle.neph_pool.specs.declared.entry.Entry.{Entry}
use Rattle.neph_pool.specs.Entries.{entry_at, hold_of, hold_at, is_here, is_whole, is_counted}
use Rattle.neph_pool.specs.Handing.{left_of, moved_of, giving, taking, is_among, AreDistinct, left_at, moved_at, left_after, moved_into, MayTake, MayHand}

-- the giver, step by step
abbrev pub walk_left : List (Option Entry) → List ℕ → List (Option Entry)
walk_left es [] = es
walk_left es (f ∷ fs) = walk_left (giving es f) fs

-- the taker, step by step
abbrev pub walk_moved : List (Option Entry) → List (Option Entry) → List ℕ → List (Option Entry)
walk_moved es to [] = to
walk_moved es to (f ∷ fs) = walk_moved (giving es f) (taking es to f) fs

-- each frame may be taken when its turn comes
abbrev pub MayWalk : List (Option Entry) → List (Option Entry) → List ℕ → Type 0
MayWalk es to [] = Unit {0}
MayWalk es to (f ∷ fs) = MayTake es to f × MayWalk (giving es f) (taking es to f) fs

same_by : (b : Bool) (r a : ℕ) → (r == a) ≡ b → (r ≡ a) ⊎ (r ≢ a)
same_by true r a e = inl (eqb-true r a e)
same_by false r a e = inr (λ (q : r ≡ a). let t : (r == a) ≡ true = eq-eqb r a q in absurd (cc))

same : (r a : ℕ) → (r ≡ a) ⊎ (r ≢ a)
same r a = same_by (r == a) r a refl

hold_else : (es : List (Option Entry)) (f g : ℕ) (x : Option Entry) → g ≢ f → hold_at (set es f x) g ≡ hold_at es g
unfolding hold_at
hold_else es f g x n = ap hold_of (get_or-set_other es f g x None n)

take_still : (es to : List (Option Entry)) (f g : ℕ) → g ≢ f → MayTake es to g → MayTake (giving es f) (taking es to f) g
take_still es to f g n h = (
  ap is_here (hold_else es f g (left_of (entry_at es f)) n) ∙ h.0,
  λ w. ap is_counted (hold_else to f g (moved_of (entry_at es f)) n) ∙ h.1 (ap is_whole (sym (hold_else es f g (left_of (entry_at es f)) n)) ∙ w),
)

pub among_here : (f : ℕ) (fs : List ℕ) → is_among f (f ∷ fs) ≡ true
among_here f fs = rw (eq-eqb f f refl) refl

pub among_else : (f g : ℕ) (fs : List ℕ) → f ≢ g → is_among f (g ∷ fs) ≡ is_among f fs
among_else f g fs n = rw (ne_eqb g f (λ e. n (sym e))) refl

-- a frame of the rest isn't the first
not_first : (f g : ℕ) (fs : List ℕ) → is_among f fs ≡ false → is_among g fs ≡ true → g ≢ f
not_first f g fs a b e = let z : is_among f fs ≡ true = ap (λ (k : ℕ). is_among k fs) (sym e) ∙ b in cc

among_more : (f g : ℕ) (fs : List ℕ) → g ≢ f → is_among g fs ≡ true → is_among g (f ∷ fs) ≡ true
among_more f g fs n h = among_else g f fs n ∙ h

-- frames that stand once and may each be taken at the start may all be handed over
pub may_walk : (es to : List (Option Entry)) (fs : List ℕ) → AreDistinct fs → ((g : ℕ) → is_among g fs ≡ true → MayTake es to g) → MayWalk es to fs
may_walk es to [] d h = tt
may_walk es to (f ∷ fs) d h = (
  h f (among_here f fs),
  may_walk (giving es f) (taking es to f) fs d.1 (λ g m. let n = not_first f g fs d.0 m in take_still es to f g n (h g (among_more f g fs n m))),
)

left_step : (es : List (Option Entry)) (g : ℕ) (fs : List ℕ) (f : ℕ) → f < length es → is_among g fs ≡ false → (f ≡ g) ⊎ (f ≢ g) → left_at (giving es g) fs f ≡ left_at es (g ∷ fs) f
left_step es g fs f lt d (inl e) =
    let fit : g < length es = rw e at lt in
    let now : left_at (giving es g) fs g ≡ left_of (entry_at es g) = rw d (get_or-set_same es g (left_of (entry_at es g)) None fit) in
    let all : left_at es (g ∷ fs) g ≡ left_of (entry_at es g) = rw (eq-eqb g g refl) refl in
    ap (λ (k : ℕ). left_at (giving es g) fs k) e ∙ now ∙ sym all ∙ ap (λ (k : ℕ). left_at es (g ∷ fs) k) (sym e)
left_step es g fs f lt d (inr n) = rw (ne_eqb g f (λ q. n (sym q)), get_or-set_other es g f (left_of (entry_at es g)) None n) refl

walk_left_at : (es : List (Option Entry)) (fs : List ℕ) (f : ℕ) → f < length es → AreDistinct fs → entry_at (walk_left es fs) f ≡ left_at es fs f
walk_left_at es [] f lt d = refl
walk_left_at es (g ∷ fs) f lt d =
    walk_left_at (giving es g) fs f (rw (length-set es g (left_of (entry_at es g))) lt) d.1 ∙ left_step es g fs f lt d.0 (same f g)

moved_step : (es to : List (Option Entry)) (g : ℕ) (fs : List ℕ) (f : ℕ) → f < length to → is_among g fs ≡ false → (f ≡ g) ⊎ (f ≢ g)
    → moved_at (giving es g) (taking es to g) fs f ≡ moved_at es to (g ∷ fs) f
moved_step es to g fs f lt d (inl e) =
    let fit : g < length to = rw e at lt in
    let now : moved_at (giving es g) (taking es to g) fs g ≡ moved_of (entry_at es g) = rw d (get_or-set_same to g (moved_of (entry_at es g)) None fit) in
    let all : moved_at es to (g ∷ fs) g ≡ moved_of (entry_at es g) = rw (eq-eqb g g refl) refl in
    ap (λ (k : ℕ). moved_at (giving es g) (taking es to g) fs k) e ∙ now ∙ sym all ∙ ap (λ (k : ℕ). moved_at es to (g ∷ fs) k) (sym e)
moved_step es to g fs f lt d (inr n) =
    rw (ne_eqb g f (λ q. n (sym q)), get_or-set_other es g f (left_of (entry_at es g)) None n, get_or-set_other to g f (moved_of (entry_at es g)) None n) refl

walk_moved_at : (es to : List (Option Entry)) (fs : List ℕ) (f : ℕ) → f < length to → AreDistinct fs → entry_at (walk_moved es to fs) f ≡ moved_at es to fs f
walk_moved_at es to [] f lt d = refl
walk_moved_at es to (g ∷ fs) f lt d =
    walk_moved_at (giving es g) (taking es to g) fs f (rw (length-set to g (moved_of (entry_at es g))) lt) d.1 ∙ moved_step es to g fs f lt d.0 (same f g)

length-walk_left : (es : List (Option Entry)) (fs : List ℕ) → length (walk_left es fs) ≡ length es
length-walk_left es [] = refl
length-walk_left es (f ∷ fs) = length-walk_left (giving es f) fs ∙ length-set es f (left_of (entry_at es f))

length-walk_moved : (es to : List (Option Entry)) (fs : List ℕ) → length (walk_moved es to fs) ≡ length to
length-walk_moved es to [] = refl
length-walk_moved es to (f ∷ fs) = length-walk_moved (giving es f) (taking es to f) fs ∙ length-set to f (moved_of (entry_at es f))

pub length-left_after : (es : List (Option Entry)) (part : List ℕ) → length (left_after es part) ≡ length es
unfolding left_after
length-left_after es part = length-map-range_with_len (left_at es part) 0 (length es)

pub length-moved_into : (es to : List (Option Entry)) (part : List ℕ) → length (moved_into es to part) ≡ length to
unfolding moved_into
length-moved_into es to part = length-map-range_with_len (moved_at es to part) 0 (length to)

-- what the giver has of a frame then
pub entry_left : (es : List (Option Entry)) (part : List ℕ) (f : ℕ) → f < length es → entry_at (left_after es part) f ≡ left_at es part f
unfolding left_after
entry_left es part f lt = get_or-map-range_with_len (left_at es part) 0 (length es) f f None lt (omega arith)

-- what the taker has of it
pub entry_moved : (es to : List (Option Entry)) (part : List ℕ) (f : ℕ) → f < length to → entry_at (moved_into es to part) f ≡ moved_at es to part f
unfolding moved_into
entry_moved es to part f lt = get_or-map-range_with_len (moved_at es to part) 0 (length to) f f None lt (omega arith)

-- step by step is all at once
pub left_walked : (es : List (Option Entry)) (fs : List ℕ) → AreDistinct fs → walk_left es fs ≡ left_after es fs
left_walked es fs d =
    ext_get_or None (walk_left es fs) (left_after es fs) (length-walk_left es fs ∙ sym (length-left_after es fs))
    (λ f lt. let fit : f < length es = rw (length-walk_left es fs) at lt in walk_left_at es fs f fit d ∙ sym (entry_left es fs f fit))

pub moved_walked : (es to : List (Option Entry)) (fs : List ℕ) → AreDistinct fs → walk_moved es to fs ≡ moved_into es to fs
moved_walked es to fs d =
    ext_get_or None (walk_moved es to fs) (moved_into es to fs) (length-walk_moved es to fs ∙ sym (length-moved_into es to fs))
    (λ f lt. let fit : f < length to = rw (length-walk_moved es to fs) at lt in walk_moved_at es to fs f fit d ∙ sym (entry_moved es to fs f fit))

-- one frame is handed over
pub left_one : (es : List (Option Entry)) (f : ℕ) → left_after es (f ∷ []) ≡ giving es f
left_one es f = sym (left_walked es (f ∷ []) (refl, tt))

pub moved_one : (es to : List (Option Entry)) (f : ℕ) → moved_into es to (f ∷ []) ≡ taking es to f
moved_one es to f = sym (moved_walked es to (f ∷ []) (refl, tt))

pub may_one : (es to : List (Option Entry)) (f : ℕ) → MayTake es to f → MayHand es to (f ∷ [])
may_one es to f h = record { once = (refl, tt); each = λ g m. only g m (same g f) } where
  only : (g : ℕ) → is_among g (f ∷ []) ≡ true → (g ≡ f) ⊎ (g ≢ f) → MayTake es to g
  only g m (inl e) = rw e h
  only g m (inr n) = let z : false ≡ true = sym (among_else g f [] n) ∙ m in absurd (cc)
