-- Pages and their frames.
use Rattle.std.proofs.Common.{◌≡◌, ◌≢◌, ◌<◌, ◌==◌, ◌||◌, ◌⊎◌, inl, inr, ℕ, zero, suc, Bool, true, false, List, [], ◌∷◌, ◌++◌, length, set, slice_get, slice_index_or, IsSome, Some, None, refl, sym, ap, ◌∙◌, arith, eq-eqb, ne_eqb, cond, nat_lt, not, ◌+◌, replicate}
use Rattle.std.proofs.lemmas.Bool.{lt-ltb}
use Rattle.std.specs.List.{position_or_len}
use Rattle.std.specs.declared.option.Option.{Option}
use Rattle.neph_gmap.specs.declared.page.Page.{Page}
use Rattle.neph_gmap.specs.declared.page.Page.TheVariants.{Local, Exposed}
use Rattle.neph_pool.proofs.Rows.{same_or_not}
use Rattle.neph_gmap.specs.GuestPages.{has_number, lies_in, page_in}
use Rattle.neph_memory.specs.Pages.{frame_of, frame_at}

pub some_same : (a b : ℕ) → Some a ≡ Some b → a ≡ b
some_same a b e = cc

pub frame_set : (ps : List Page) (p : ℕ) (x : Page) → p < length ps → frame_at (set ps p x) p ≡ frame_of (Some x)
unfolding frame_at
frame_set [] p x lt = absurd (omega arith)
frame_set (y ∷ ps) zero x lt = refl
frame_set (y ∷ ps) (suc p) x lt = frame_set ps p x (omega arith)

pub place_else : (ps : List Page) (p q : ℕ) (x : Page) → q ≢ p → slice_get (set ps p x) q ≡ slice_get ps q
place_else [] p q x n = refl
place_else (y ∷ ps) zero zero x n = absurd (n refl)
place_else (y ∷ ps) zero (suc q) x n = refl
place_else (y ∷ ps) (suc p) zero x n = refl
place_else (y ∷ ps) (suc p) (suc q) x n = place_else ps p q x (λ e. n (ap suc e))

pub frame_else : (ps : List Page) (p q : ℕ) (x : Page) → q ≢ p → frame_at (set ps p x) q ≡ frame_at ps q
unfolding frame_at
frame_else ps p q x n = ap frame_of (place_else ps p q x n)

pub frame_small : (ps : List Page) (p f : ℕ) → frame_at ps p ≡ Some f → p < length ps
unfolding frame_at
frame_small [] p f e = absurd (cc)
frame_small (y ∷ ps) zero f e = omega arith
frame_small (y ∷ ps) (suc p) f e = let h = frame_small ps p f e in omega arith

pub away_none : (ps : List Page) (p : ℕ) → slice_get ps p ≡ Some Exposed → frame_at ps p ≡ None
unfolding frame_at
away_none ps p e = ap frame_of e

pub frame_there : (ps : List Page) (p f : ℕ) → slice_get ps p ≡ Some (Local f) → frame_at ps p ≡ Some f
unfolding frame_at
frame_there ps p f e = ap frame_of e

none_some : (x : Option ℕ) (f : ℕ) → x ≡ None → x ≡ Some f → ⊥
none_some x f a b = cc

-- an exposed page has no frame of the domain's own
pub away_not : (ps : List Page) (p f : ℕ) → slice_get ps p ≡ Some Exposed → frame_at ps p ≡ Some f → ⊥
away_not ps p f e h = none_some _ f (away_none ps p e) h

lies_not : (x : Page) (ps : List Page) (p f : ℕ) → ((q : ℕ) → frame_at (x ∷ ps) q ≡ Some f → q ≡ suc p) → lies_in f x ≡ false
unfolding frame_at
lies_not (Local g) ps p f u = by_case (same_or_not g f) where
  by_case : (g ≡ f) ⊎ (g ≢ f) → (g == f) ≡ false
  by_case (inl e) = absurd (let z : 0 ≡ suc p = u zero (ap Some e) in omega arith)
  by_case (inr n) = ne_eqb g f n
lies_not Exposed ps p f u = refl

-- a page is found by its frame, where no other has it
place_at : (ps : List Page) (p f : ℕ) → frame_at ps p ≡ Some f → ((q : ℕ) → frame_at ps q ≡ Some f → q ≡ p) → position_or_len (lies_in f) ps ≡ p
unfolding frame_at
place_at [] p f e u = absurd (cc)
place_at (Local g ∷ ps) zero f e u = rw (eq-eqb g f (some_same g f e)) refl
place_at (Exposed ∷ ps) zero f e u = absurd (cc)
place_at (x ∷ ps) (suc p) f e u =
    let rest : position_or_len (lies_in f) ps ≡ p = place_at ps p f e (λ q h. let k : suc q ≡ suc p = u (suc q) h in omega arith) in
    let more : 1 + position_or_len (lies_in f) ps ≡ suc p = omega (arith, rest) in
    ap (λ (b : Bool). cond (not b) (1 + position_or_len (lies_in f) ps) 0) (lies_not x ps p f u) ∙ more

pub page_in_at : (ps : List Page) (p f : ℕ) → frame_at ps p ≡ Some f → ((q : ℕ) → frame_at ps q ≡ Some f → q ≡ p) → page_in f ps ≡ Some p
page_in_at ps p f e u =
    let at = place_at ps p f e u in
    ap (λ (k : ℕ). cond (nat_lt k (length ps)) (Some k) None) at ∙ ap (λ (b : Bool). cond b (Some p) None) (lt-ltb p (length ps) (frame_small ps p f e))

pub has_more : (v : ℕ) (xs : List ℕ) (x : ℕ) → has_number v (xs ++ x ∷ []) ≡ (has_number v xs || (x == v))
has_more v [] x = or_none (x == v) where
  or_none : (b : Bool) → (b || false) ≡ b
  or_none true = refl
  or_none false = refl
has_more v (y ∷ xs) x = ap (λ (b : Bool). (y == v) || b) (has_more v xs x) ∙ or_same (y == v) (has_number v xs) (x == v) where
  or_same : (a b c : Bool) → (a || (b || c)) ≡ ((a || b) || c)
  or_same true b c = refl
  or_same false b c = refl

pub some_small : (ps : List Page) (p : ℕ) → IsSome (frame_at ps p) → p < length ps
unfolding frame_at
some_small [] p h = absurd (cc)
some_small (y ∷ ps) zero h = omega arith
some_small (y ∷ ps) (suc p) h = let k = some_small ps p h in omega arith

any_default : (bs : List Bool) (i : ℕ) (d e : Bool) → i < length bs → slice_index_or bs i d ≡ slice_index_or bs i e
any_default [] i d e lt = absurd (omega arith)
any_default (b ∷ bs) zero d e lt = refl
any_default (b ∷ bs) (suc i) d e lt = any_default bs i d e (omega arith)

-- what an index read of the marks
pub mark_at : (bs : List Bool) (i p : ℕ) (x y : Bool) → i ≡ p → i < length bs → x ≡ slice_index_or bs i x → x ≡ y → slice_index_or bs p false ≡ y
mark_at bs i p x y e lt h is = ap (λ (k : ℕ). slice_index_or bs k false) (sym e) ∙ any_default bs i false x lt ∙ sym h ∙ is

unmarked_push : (n : ℕ) → replicate n false ++ false ∷ [] ≡ replicate (suc n) false
unmarked_push zero = refl
unmarked_push (suc n) = ap (λ (bs : List Bool). false ∷ bs) (unmarked_push n)

-- one more page that isn't marked
pub unmarked_more : (bs : List Bool) (n : ℕ) → bs ≡ replicate n false → bs ++ false ∷ [] ≡ replicate (n + 1) false
unmarked_more bs n e =
    let k : suc n ≡ n + 1 = omega arith in
    ap (λ (xs : List Bool). xs ++ false ∷ []) e ∙ unmarked_push n ∙ ap (λ (m : ℕ). replicate m false) k
