-- What was written to two places.
use Rattle.std.proofs.Common.{◌≡◌, ◌≢◌, ℕ, ◌≤◌, List, length, Vec, set, get_or, sym, ap, subst, ◌∙◌}
use Rattle.std.proofs.Math.Nat.{ℕ_set}
use Rattle.std.proofs.Math.Bridge.{le_prop}
use Rattle.std.proofs.lemmas.List.{set-get_or}
use Rattle.std.specs.Vec.{with_item}
use Rattle.neph_machine.proofs.Found.{set_between}

module _ {X Z : Type 0} (v : Vec X Z) where
  abbrev Fits : List X → Type 0
  Fits ys = (v.len ≡ length ys) × (v.len ≤ v.cap)

  abbrev holding : (ys : List X) → Fits ys → Vec X Z
  holding ys ok = record { ptr = v.ptr; len = v.len; cap = v.cap; alloc = v.alloc; items = ys; ok = ok; small = v.small }

  same_fit : (a b : Fits v.items) → a ≡ b
  same_fit a b i = (ℕ_set _ _ a.0 b.0 i, le_prop a.1 b.1 i)

  -- a vector that has the elements that it had is as it was
  held : (ys : List X) → ys ≡ v.items → (ok : Fits ys) → holding ys ok ≡ v
  held ys e = subst (λ (zs : List X). (ok : Fits zs) → holding zs ok ≡ v) (sym e) (λ ok. ap (holding v.items) (same_fit ok v.ok))

  -- a place to which was written what stood there
  pub put_same : (i : ℕ) (a d : X) → get_or v.items i d ≡ a → with_item v i a ≡ v
  put_same i a d here = held (set v.items i a) (ap (set v.items i) (sym here) ∙ set-get_or v.items i d) _

  -- the place j was emptied, and then the place i was written to, and j filled again
  module _ (one w : Vec X Z) (i j : ℕ) (a b e : X) (far : j ≢ i) (first : one ≡ with_item v j e) (last : w ≡ with_item (with_item one i a) j b) where
    all : w ≡ with_item (with_item (with_item v j e) i a) j b
    all = last ∙ ap (λ (u : Vec X Z). with_item (with_item u i a) j b) first

    pub items_put : w.items ≡ set (set v.items i a) j b
    items_put = ap (λ (u : Vec X Z). u.items) all ∙ set_between v.items i j e a b far

    -- where that is what stood there, nothing has changed
    pub put_back : (d : X) → get_or v.items i d ≡ a → get_or v.items j d ≡ b → w ≡ v
    put_back d here there =
        all
        ∙ held (set (set (set v.items j e) i a) j b)
        (set_between v.items i j e a b far ∙ ap (λ (l : List X). set l j b) (ap (set v.items i) (sym here) ∙ set-get_or v.items i d) ∙ ap (set v.items j) (sym there) ∙ set-get_or v.items j d) _
