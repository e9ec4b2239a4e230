-- The owners of frames, by their kinds and the places of their counts.
use Rattle.std.proofs.Common.{◌≡◌, ◌≢◌, ℕ, zero, suc, ◌-◌, ◌<◌, inl, inr, List, [], ◌∷◌, ◌++◌, length, set, get_or, replicate, take, refl, sym, ap, ◌∙◌, subst, arith, length-set}
use Rattle.std.proofs.lemmas.List.{map-set, length-map, ext_get_or, map-append, get_or-set_other, get_or-set_same, get_or_default, get_or-map, set-get_or}
use Rattle.neph_pool.specs.declared.weights.Weights.{Weights}
use Rattle.neph_pool.specs.declared.owners.Owners.{Owners}
use Rattle.neph_pool.specs.declared.owners.Owners.TheVariants.{Spare, Alone, Many}
use Rattle.neph_pool.specs.declared.kind.Kind.{Kind}
use Rattle.neph_pool.specs.declared.kind.Kind.TheVariants.{Kept, Own, Shared}
use Rattle.neph_pool.specs.declared.holders.Holders.{Holders}
use Rattle.neph_pool.specs.Holders.{owners_by, owner_at, owners_in, owners_of, shared_of, OwnersStep}
use Rattle.neph_pool.proofs.Rows.{same_or_not}

abbrev no_kinds : List Kind
no_kinds = []

taken : (n : ℕ) → take n no_kinds ++ replicate (n - 0) (Kept 0) ≡ replicate n (Kept 0)
taken zero = refl
taken (suc n) = ap (λ (k : ℕ). replicate k (Kept 0)) (let e : suc n - 0 ≡ suc n = omega arith in e)

pub new_kinds : (os qs : List Kind) (m n : ℕ) → qs ≡ [] → m ≡ 0 → os ≡ take n qs ++ replicate (n - m) (Kept 0) → os ≡ replicate n (Kept 0)
new_kinds os qs m n none zero' all = rw (all, none, zero') (taken n)

pub length_kinds : (n : ℕ) (k : Kind) → length (replicate n k) ≡ n
length_kinds zero k = refl
length_kinds (suc n) k = ap suc (length_kinds n k)

pub holders_start : (ws : List Owners) (n : ℕ) (ps : List ℕ) → owners_in ws (replicate n (Kept 0)) ps ≡ replicate n (Spare 0)
unfolding owners_in
holders_start ws zero ps = refl
holders_start ws (suc n) [] = ap (λ (os : List Owners). Spare 0 ∷ os) (holders_start ws n [])
holders_start ws (suc n) (p ∷ ps) = ap (λ (os : List Owners). Spare 0 ∷ os) (holders_start ws n ps)

pub holders_length : (ws : List Owners) (ks : List Kind) (ps : List ℕ) → length (owners_in ws ks ps) ≡ length ks
unfolding owners_in
holders_length ws [] ps = refl
holders_length ws (k ∷ ks) [] = ap suc (holders_length ws ks [])
holders_length ws (k ∷ ks) (p ∷ ps) = ap suc (holders_length ws ks ps)

pub holder_here : (ws : List Owners) (ks : List Kind) (ps : List ℕ) (f : ℕ) (k : Kind) → f < length ks → length ks ≡ length ps → k ≡ get_or ks f k → owner_at (owners_in ws ks ps) f ≡ owners_by k (owner_at ws (get_or ps f 0))
unfolding owners_in
holder_here ws [] ps f k h e at = absurd (omega arith)
holder_here ws (x ∷ ks) [] f k h e at = absurd (omega arith)
holder_here ws (x ∷ ks) (p ∷ ps) zero k h e at = ap (λ (y : Kind). owners_by y (owner_at ws p)) (sym at)
holder_here ws (x ∷ ks) (p ∷ ps) (suc f) k h e at = holder_here ws ks ps f k (omega arith) (omega arith) at

-- a frame of one row
pub holder_put : (ws : List Owners) (ks : List Kind) (ps : List ℕ) (f : ℕ) (k : Kind) (o : Owners) → ((x : Owners) → owners_by k x ≡ o) → owners_in ws (set ks f k) ps ≡ set (owners_in ws ks ps) f o
unfolding owners_in
holder_put ws [] ps f k o h = refl
holder_put ws (x ∷ ks) [] zero k o h = ap (λ (y : Owners). y ∷ owners_in ws ks []) (h (Spare 0))
holder_put ws (x ∷ ks) [] (suc f) k o h = ap (λ (os : List Owners). owners_by x (Spare 0) ∷ os) (holder_put ws ks [] f k o h)
holder_put ws (x ∷ ks) (p ∷ ps) zero k o h = ap (λ (y : Owners). y ∷ owners_in ws ks ps) (h (owner_at ws p))
holder_put ws (x ∷ ks) (p ∷ ps) (suc f) k o h = ap (λ (os : List Owners). owners_by x (owner_at ws p) ∷ os) (holder_put ws ks ps f k o h)

kind_is : (ks : List Kind) (i : ℕ) → i < length ks → get_or ks i Shared ≡ get_or ks i (get_or ks i Shared)
kind_is [] i h = absurd (omega arith)
kind_is (k ∷ ks) zero h = refl
kind_is (k ∷ ks) (suc i) h = kind_is ks i (omega arith)

-- a frame gets counts; those of all other frames stay where they lie
pub holder_shared : (ws vs : List Owners) (ks : List Kind) (ps qs : List ℕ) (f : ℕ) (o : Owners) → f < length ks → length ks ≡ length ps → length qs ≡ length ps → owner_at vs (get_or qs f 0) ≡ o
    → ((i : ℕ) → i ≢ f → owner_at vs (get_or qs i 0) ≡ owner_at ws (get_or ps i 0)) → owners_in vs (set ks f Shared) qs ≡ set (owners_in ws ks ps) f o
holder_shared ws vs ks ps qs f o fit even same here others =
    let size : length (set ks f Shared) ≡ length ks = length-set ks f Shared in
    let even' : length (set ks f Shared) ≡ length qs = omega (arith, size, even, same) in
    ext_get_or (Spare 0) _ _ (holders_length vs (set ks f Shared) qs ∙ size ∙ sym (holders_length ws ks ps) ∙ sym (length-set (owners_in ws ks ps) f o))
    (λ i lt.
    let lt' : i < length ks = omega (arith, holders_length vs (set ks f Shared) qs, size) in
    let lt2 : i < length (set ks f Shared) = omega (arith, size, lt') in
    let at : get_or (set ks f Shared) i Shared ≡ get_or (set ks f Shared) i (get_or (set ks f Shared) i Shared) = kind_is (set ks f Shared) i lt2 in
    holder_here vs (set ks f Shared) qs i (get_or (set ks f Shared) i Shared) lt2 even' at ∙ elim (same_or_not i f) [
      | inl e ↦
          let k : get_or (set ks f Shared) i Shared ≡ Shared = ap (λ (j : ℕ). get_or (set ks f Shared) j Shared) e ∙ get_or-set_same ks f Shared Shared fit in
          ap (λ (y : Kind). owners_by y (owner_at vs (get_or qs i 0))) k ∙ ap (λ (j : ℕ). owner_at vs (get_or qs j 0)) e ∙ here
          ∙ sym (get_or-set_same (owners_in ws ks ps) f o (Spare 0) (omega (arith, holders_length ws ks ps))) ∙ ap (λ (j : ℕ). owner_at (set (owners_in ws ks ps) f o) j) (sym e)
      | inr n ↦
          let k : get_or (set ks f Shared) i Shared ≡ get_or ks i Shared = get_or-set_other ks f i Shared Shared n in
          ap (λ (y : Kind). owners_by y (owner_at vs (get_or qs i 0))) k ∙ ap (λ (y : Owners). owners_by (get_or ks i Shared) y) (others i n)
          ∙ sym (holder_here ws ks ps i (get_or ks i Shared) lt' even (kind_is ks i lt')) ∙ sym (get_or-set_other (owners_in ws ks ps) f i o (Spare 0) n)
    ])

pub shared_old : (xs : List Weights) (w : Weights) (ks : List Kind) (ps : List ℕ) (f k n : ℕ) → f < length ks → length ks ≡ length ps → n ≡ length xs → k ≡ get_or ps f 0 → k ≢ 0 → ((i : ℕ) → get_or ps i 0 < n)
    → ((i j : ℕ) → i ≢ j → get_or ps i 0 ≡ get_or ps j 0 → get_or ps i 0 ≡ 0) → owners_in (shared_of (set xs k w)) (set ks f Shared) ps ≡ set (owners_in (shared_of xs) ks ps) f (Many w)
shared_old xs w ks ps f k n fit even len is own within apart =
    let ws = shared_of xs in
    let lt : k < length ws = (let z = within f in omega (arith, is, len, z, length-map xs (λ (v : Weights). Many v))) in
    rw (map-set (λ (v : Weights). Many v) xs k w)
    (holder_shared ws (set ws k (Many w)) ks ps ps f (Many w) fit even refl (ap (λ (j : ℕ). owner_at (set ws k (Many w)) j) (sym is) ∙ get_or-set_same ws k (Many w) (Spare 0) lt)
    (λ i ne. get_or-set_other ws k (get_or ps i 0) (Many w) (Spare 0) (λ e. own (sym e ∙ apart i f ne (e ∙ is)))))

front : (ws : List Owners) (o : Owners) (i : ℕ) → i < length ws → owner_at (ws ++ o ∷ []) i ≡ owner_at ws i
front [] o i h = absurd (omega arith)
front (x ∷ ws) o zero h = refl
front (x ∷ ws) o (suc i) h = front ws o i (omega arith)

last : (ws : List Owners) (o : Owners) → owner_at (ws ++ o ∷ []) (length ws) ≡ o
last [] o = refl
last (x ∷ ws) o = last ws o

pub shared_new : (xs : List Weights) (w : Weights) (ks : List Kind) (ps : List ℕ) (f n : ℕ) → f < length ks → length ks ≡ length ps → n ≡ length xs → ((i : ℕ) → get_or ps i 0 < n)
    → owners_in (shared_of (xs ++ w ∷ [])) (set ks f Shared) (set ps f n) ≡ set (owners_in (shared_of xs) ks ps) f (Many w)
shared_new xs w ks ps f n fit even len within =
    let ws = shared_of xs in
    let size : length ws ≡ n = length-map xs (λ (v : Weights). Many v) ∙ sym len in
    let fit' : f < length ps = omega (arith, fit, even) in
    rw (map-append (λ (v : Weights). Many v) xs (w ∷ []))
    (holder_shared ws (ws ++ Many w ∷ []) ks ps (set ps f n) f (Many w) fit even (length-set ps f n)
    (ap (λ (j : ℕ). owner_at (ws ++ Many w ∷ []) j) (get_or-set_same ps f n 0 fit' ∙ sym size) ∙ last ws (Many w))
    (λ i ne. ap (λ (j : ℕ). owner_at (ws ++ Many w ∷ []) j) (get_or-set_other ps f i n 0 ne) ∙ front ws (Many w) (get_or ps i 0) (let z = within i in omega (arith, z, size))))

-- they are changed where they lie
pub shared_again : (xs : List Weights) (w : Weights) (ks : List Kind) (ps : List ℕ) (f k n : ℕ) → f < length ks → length ks ≡ length ps → n ≡ length xs → get_or ks f (Kept 0) ≡ Shared → k ≡ get_or ps f 0 → k ≢ 0 → ((i : ℕ) → get_or ps i 0 < n)
    → ((i j : ℕ) → i ≢ j → get_or ps i 0 ≡ get_or ps j 0 → get_or ps i 0 ≡ 0) → owners_in (shared_of (set xs k w)) ks ps ≡ set (owners_in (shared_of xs) ks ps) f (Many w)
shared_again xs w ks ps f k n fit even len kind is own within apart =
    let same : set ks f Shared ≡ ks = ap (λ (y : Kind). set ks f y) (sym kind) ∙ set-get_or ks f (Kept 0) in
    ap (λ (ys : List Kind). owners_in (shared_of (set xs k w)) ys ps) (sym same) ∙ shared_old xs w ks ps f k n fit even len is own within apart

-- one frame f, of the kind k
module _ (p : Holders) (f : ℕ) (k : Kind) (fit : f < length p.kinds.items) (at : k ≡ get_or p.kinds.items f k) where
  abbrev before : List Weights → Owners
  before xs = owner_at (shared_of xs) (get_or p.places.items f 0)

  here : (j : Kind) → k ≡ j → owner_at (owners_of p) f ≡ owners_by j (before p.counts.items)
  here j is = holder_here (shared_of p.counts.items) p.kinds.items p.places.items f k fit p.even at ∙ ap (λ (y : Kind). owners_by y (before p.counts.items)) is

  pub kept_here : (q : ℕ) → k ≡ Kept q → owner_at (owners_of p) f ≡ Spare q
  kept_here q is = here (Kept q) is

  pub own_here : (q : ℕ) → k ≡ Own q → owner_at (owners_of p) f ≡ Alone q
  own_here q is = here (Own q) is

  -- it is one row's then
  pub kept_step : (IsStep : Owners → Owners → Type 0) (o : Owners) (r : ℕ) → owner_at (owners_of p) f ≡ o → IsStep o (Spare r) → OwnersStep IsStep (owners_of p) f (owners_in (shared_of p.counts.items) (set p.kinds.items f (Kept r)) p.places.items)
  kept_step IsStep o r e s = (Spare r, holder_put (shared_of p.counts.items) p.kinds.items p.places.items f (Kept r) (Spare r) (λ x. refl), subst (λ (x : Owners). IsStep x (Spare r)) (sym e) s)

  pub own_step : (IsStep : Owners → Owners → Type 0) (o : Owners) (r : ℕ) → owner_at (owners_of p) f ≡ o → IsStep o (Alone r) → OwnersStep IsStep (owners_of p) f (owners_in (shared_of p.counts.items) (set p.kinds.items f (Own r)) p.places.items)
  own_step IsStep o r e s = (Alone r, holder_put (shared_of p.counts.items) p.kinds.items p.places.items f (Own r) (Alone r) (λ x. refl), subst (λ (x : Owners). IsStep x (Alone r)) (sym e) s)

  -- it has the counts w at the place i
  module _ (i : ℕ) (w : Weights) (is : k ≡ Shared) (place : i ≡ get_or p.places.items f i) (counts : w ≡ get_or p.counts.items i w) where
    first : i ≡ get_or p.places.items f 0
    first = place ∙ get_or_default p.places.items f i 0 (let e = p.even in omega (arith, fit, e))

    pub many_here : owner_at (owners_of p) f ≡ Many w
    many_here =
        let lt : get_or p.places.items f 0 < length p.counts.items = (let z = p.within f in omega (arith, z, p.counts.ok.0)) in
        here Shared is ∙ get_or-map (λ (v : Weights). Many v) p.counts.items (get_or p.places.items f 0) w (Spare 0) lt
        ∙ ap (λ (v : Weights). Many v) (ap (λ (j : ℕ). get_or p.counts.items j w) (sym first) ∙ sym counts)

    pub many_step : (IsStep : Owners → Owners → Type 0) (v : Weights) → IsStep (Many w) (Many v) → OwnersStep IsStep (owners_of p) f (owners_in (shared_of (set p.counts.items i v)) p.kinds.items p.places.items)
    many_step IsStep v s =
        let kind : get_or p.kinds.items f (Kept 0) ≡ Shared = get_or_default p.kinds.items f (Kept 0) k fit ∙ sym at ∙ is in (
          Many v,
          shared_again p.counts.items v p.kinds.items p.places.items f i _ fit p.even p.counts.ok.0 kind first (λ z. p.placed f kind (sym first ∙ z)) p.within p.apart,
          subst (λ (x : Owners). IsStep x (Many v)) (sym many_here) s,
        )
