-- A domain's pages, as one of them moves to another frame, to the heap, or back from it.
use Rattle.std.proofs.Common.{◌≡◌, ◌≢◌, ℕ, zero, suc, ◌+◌, ◌<◌, ◌≤◌, List, [], ◌∷◌, length, set, get_or, drop, drop-cons, add-one, Some, None, refl, sym, ap, ◌∙◌, arith}
use Rattle.std.specs.declared.option.Option.{Option}
use Rattle.neph_accounts.specs.Holdings.{times}
use Rattle.neph_accounts.specs.Changes.{IsMore}
use Rattle.neph_accounts.specs.Heaps.{local_frames, exposed_frames, row_frames}
use Rattle.neph_accounts.proofs.Times.{one_at, times_cons}

-- what is left of a list has one more than what is left behind its next
pub more_drop : (xs : List ℕ) (i : ℕ) → i < length xs
    → IsMore (get_or xs i 0) (drop (i + 1) xs) (drop i xs)
more_drop xs i lt g =
    let e : drop i xs ≡ get_or xs i 0 ∷ drop (i + 1) xs = rw (add-one, drop-cons xs i 0 lt) refl in
    ap (times g) e

same_frame : {f g : ℕ} → Some f ≡ Some g → f ≡ g
same_frame e = cc

-- a page moves to another frame
pub locals_moved : (pages : List (Option ℕ)) (pfn f g : ℕ) → get_or pages pfn None ≡ Some f
    → (x : ℕ)
    → times x (local_frames (set pages pfn (Some g))) + one_at f x ≡ times x
    (local_frames pages) + one_at g x
locals_moved [] pfn f g e x = absurd (cc)
locals_moved (None ∷ pages) zero f g e x = absurd (cc)
locals_moved (Some k ∷ pages) zero f g e x = let q : one_at k x ≡ one_at f x =
    ap (λ (y : ℕ). one_at y x) (same_frame e) in
    omega (arith, q, times_cons x k (local_frames pages), times_cons x g (local_frames pages))
locals_moved (None ∷ pages) (suc pfn) f g e x = locals_moved pages pfn f g e x
locals_moved (Some k ∷ pages) (suc pfn) f g e x =
    omega (
      arith,
      locals_moved pages pfn f g e x,
      times_cons x k (local_frames pages),
      times_cons x k (local_frames (set pages pfn (Some g))),
    )

-- a page goes to the heap
pub locals_out : (pages : List (Option ℕ)) (pfn f : ℕ) → get_or pages pfn None ≡ Some f
    → IsMore f (local_frames (set pages pfn None)) (local_frames pages)
locals_out [] pfn f e x = absurd (cc)
locals_out (None ∷ pages) zero f e x = absurd (cc)
locals_out (Some k ∷ pages) zero f e x = let q : one_at k x ≡ one_at f x =
    ap (λ (y : ℕ). one_at y x) (same_frame e) in
    omega (arith, q, times_cons x k (local_frames pages), times_cons x f (local_frames pages))
locals_out (None ∷ pages) (suc pfn) f e x = locals_out pages pfn f e x
locals_out (Some k ∷ pages) (suc pfn) f e x =
    omega (
      arith,
      locals_out pages pfn f e x,
      times_cons x k (local_frames pages),
      times_cons x k (local_frames (set pages pfn None)),
      times_cons x f (local_frames (set pages pfn None)),
      times_cons x f (k ∷ local_frames (set pages pfn None)),
    )

-- a page comes back from it
pub locals_in : (pages : List (Option ℕ)) (pfn f : ℕ) → pfn < length pages
    → get_or pages pfn None ≡ None
    → IsMore f (local_frames pages) (local_frames (set pages pfn (Some f)))
locals_in [] pfn f lt e x = absurd (omega arith)
locals_in (None ∷ pages) zero f lt e x = refl
locals_in (Some k ∷ pages) zero f lt e x = absurd (cc)
locals_in (None ∷ pages) (suc pfn) f lt e x = locals_in pages pfn f (omega arith) e x
locals_in (Some k ∷ pages) (suc pfn) f lt e x =
    omega (
      arith,
      locals_in pages pfn f (omega arith) e x,
      times_cons x k (local_frames pages),
      times_cons x k (local_frames (set pages pfn (Some f))),
      times_cons x f (local_frames pages),
      times_cons x f (k ∷ local_frames pages),
    )

-- the heap has the same for other pages
same_exposed : (pages : List (Option ℕ)) (away now : ℕ → ℕ) (at : ℕ)
    → ((q : ℕ) → at ≤ q → now q ≡ away q)
    → exposed_frames pages now at ≡ exposed_frames pages away at
same_exposed [] away now at h = refl
same_exposed (None ∷ pages) away now at h =
    ap (λ (y : ℕ). y ∷ exposed_frames pages now (suc at)) (h at (omega arith))
    ∙ ap (λ (ys : List ℕ). away at ∷ ys)
    (same_exposed pages away now (suc at) (λ q le. h q (omega arith)))
same_exposed (Some f ∷ pages) away now at h =
    same_exposed pages away now (suc at) (λ q le. h q (omega arith))

same_row : (pages : List (Option ℕ)) (away now : ℕ → ℕ) (at : ℕ)
    → ((q : ℕ) → at ≤ q → now q ≡ away q) → row_frames pages now at ≡ row_frames pages away at
same_row [] away now at h = refl
same_row (None ∷ pages) away now at h =
    ap (λ (y : ℕ). y ∷ row_frames pages now (suc at)) (h at (omega arith))
    ∙ ap (λ (ys : List ℕ). away at ∷ ys)
    (same_row pages away now (suc at) (λ q le. h q (omega arith)))
same_row (Some f ∷ pages) away now at h =
    ap (λ (ys : List ℕ). f ∷ ys) (same_row pages away now (suc at) (λ q le. h q (omega arith)))

-- A page that goes to the heap is one more exposed page there, and lies in its frame as before.
pub exposed_out : (pages : List (Option ℕ)) (away now : ℕ → ℕ) (at pfn f : ℕ)
    → get_or pages pfn None ≡ Some f → now (at + pfn) ≡ f
    → ((q : ℕ) → q ≢ at + pfn → now q ≡ away q)
    → IsMore f (exposed_frames pages away at) (exposed_frames (set pages pfn None) now at)
exposed_out [] away now at pfn f e here others x = absurd (cc)
exposed_out (None ∷ pages) away now at zero f e here others x = absurd (cc)
exposed_out (Some k ∷ pages) away now at zero f e here others x =
    let z : at + 0 ≡ at = omega arith in
    let q : now at ≡ f = ap now (sym z) ∙ here in
    let rest =
    same_exposed pages away now (suc at) (λ q le. others q (λ (e : q ≡ at + 0). omega arith)) in
    ap (λ (y : ℕ). times x (y ∷ exposed_frames pages now (suc at))) q
    ∙ ap (λ (ys : List ℕ). times x (f ∷ ys)) rest
exposed_out (None ∷ pages) away now at (suc pfn) f e here others x =
    let z : suc at + pfn ≡ at + suc pfn = omega arith in
    let first : now at ≡ away at = others at (λ (e : at ≡ at + suc pfn). omega arith) in
    let more =
    exposed_out pages away now (suc at) pfn f e (ap now z ∙ here)
    (λ q n. others q (λ k. n (k ∙ sym z))) x in
    let l : List ℕ = exposed_frames (set pages pfn None) now (suc at) in
    let r : List ℕ = exposed_frames pages away (suc at) in
    let top : one_at (now at) x ≡ one_at (away at) x = ap (λ (y : ℕ). one_at y x) first in
    omega (
      arith,
      more,
      top,
      times_cons x (now at) l,
      times_cons x (away at) r,
      times_cons x f r,
      times_cons x f (away at ∷ r),
    )
exposed_out (Some k ∷ pages) away now at (suc pfn) f e here others x =
    let z : suc at + pfn ≡ at + suc pfn = omega arith in
    exposed_out pages away now (suc at) pfn f e (ap now z ∙ here)
    (λ q n. others q (λ k. n (k ∙ sym z))) x

pub row_out : (pages : List (Option ℕ)) (away now : ℕ → ℕ) (at pfn f : ℕ)
    → get_or pages pfn None ≡ Some f → now (at + pfn) ≡ f
    → ((q : ℕ) → q ≢ at + pfn → now q ≡ away q)
    → row_frames (set pages pfn None) now at ≡ row_frames pages away at
row_out [] away now at pfn f e here others = absurd (cc)
row_out (None ∷ pages) away now at zero f e here others = absurd (cc)
row_out (Some k ∷ pages) away now at zero f e here others =
    let z : at + 0 ≡ at = omega arith in
    let q : now at ≡ k = ap now (sym z) ∙ here ∙ sym (same_frame e) in
    let rest =
    same_row pages away now (suc at) (λ q le. others q (λ (e : q ≡ at + 0). omega arith)) in
    ap (λ (y : ℕ). y ∷ row_frames pages now (suc at)) q ∙ ap (λ (ys : List ℕ). k ∷ ys) rest
row_out (None ∷ pages) away now at (suc pfn) f e here others =
    let z : suc at + pfn ≡ at + suc pfn = omega arith in
    let first : now at ≡ away at = others at (λ (e : at ≡ at + suc pfn). omega arith) in
    ap (λ (y : ℕ). y ∷ row_frames (set pages pfn None) now (suc at)) first
    ∙ ap (λ (ys : List ℕ). away at ∷ ys)
    (row_out pages away now (suc at) pfn f e (ap now z ∙ here)
    (λ q n. others q (λ k. n (k ∙ sym z))))
row_out (Some k ∷ pages) away now at (suc pfn) f e here others =
    let z : suc at + pfn ≡ at + suc pfn = omega arith in
    ap (λ (ys : List ℕ). k ∷ ys)
    (row_out pages away now (suc at) pfn f e (ap now z ∙ here)
    (λ q n. others q (λ k. n (k ∙ sym z))))

-- One that comes back is one less there.
pub exposed_in : (pages : List (Option ℕ)) (away : ℕ → ℕ) (at pfn : ℕ) → pfn < length pages
    → get_or pages pfn None ≡ None
    → IsMore (away (at + pfn)) (exposed_frames (set pages pfn (Some (away (at + pfn)))) away at)
    (exposed_frames pages away at)
exposed_in [] away at pfn lt e x = absurd (omega arith)
exposed_in (None ∷ pages) away at zero lt e x = let z : at ≡ at + 0 = omega arith in
    ap (λ (y : ℕ). times x (away y ∷ exposed_frames pages away (suc at))) z
exposed_in (Some k ∷ pages) away at zero lt e x = absurd (cc)
exposed_in (None ∷ pages) away at (suc pfn) lt e x =
    let z : suc at + pfn ≡ at + suc pfn = omega arith in
    let f : ℕ = away (at + suc pfn) in
    let more : times x (exposed_frames pages away (suc at)) ≡ times x
    (f ∷ exposed_frames (set pages pfn (Some f)) away (suc at)) =
    rw z at (exposed_in pages away (suc at) pfn (omega arith) e x) in
    let l : List ℕ = exposed_frames (set pages pfn (Some f)) away (suc at) in
    let r : List ℕ = exposed_frames pages away (suc at) in
    omega (
      arith,
      more,
      times_cons x (away at) l,
      times_cons x (away at) r,
      times_cons x f l,
      times_cons x f (away at ∷ l),
    )
exposed_in (Some k ∷ pages) away at (suc pfn) lt e x =
    let z : suc at + pfn ≡ at + suc pfn = omega arith in
    rw z at (exposed_in pages away (suc at) pfn (omega arith) e x)

pub row_in : (pages : List (Option ℕ)) (away : ℕ → ℕ) (at pfn : ℕ) → pfn < length pages
    → get_or pages pfn None ≡ None
    → row_frames (set pages pfn (Some (away (at + pfn)))) away at ≡ row_frames pages away at
row_in [] away at pfn lt e = absurd (omega arith)
row_in (None ∷ pages) away at zero lt e = let z : at + 0 ≡ at = omega arith in
    ap (λ (y : ℕ). away y ∷ row_frames pages away (suc at)) z
row_in (Some k ∷ pages) away at zero lt e = absurd (cc)
row_in (None ∷ pages) away at (suc pfn) lt e =
    let z : suc at + pfn ≡ at + suc pfn = omega arith in
    ap (λ (ys : List ℕ). away at ∷ ys) (rw z at (row_in pages away (suc at) pfn (omega arith) e))
row_in (Some k ∷ pages) away at (suc pfn) lt e =
    let z : suc at + pfn ≡ at + suc pfn = omega arith in
    ap (λ (ys : List ℕ). k ∷ ys) (rw z at (row_in pages away (suc at) pfn (omega arith) e))

-- a page that moves within the domain's own half moves in its row
pub row_moved : (pages : List (Option ℕ)) (away : ℕ → ℕ) (at pfn f g : ℕ)
    → get_or pages pfn None ≡ Some f
    → row_frames (set pages pfn (Some g)) away at ≡ set (row_frames pages away at) pfn g
row_moved [] away at pfn f g e = absurd (cc)
row_moved (None ∷ pages) away at zero f g e = absurd (cc)
row_moved (Some k ∷ pages) away at zero f g e = refl
row_moved (None ∷ pages) away at (suc pfn) f g e =
    ap (λ (ys : List ℕ). away at ∷ ys) (row_moved pages away (suc at) pfn f g e)
row_moved (Some k ∷ pages) away at (suc pfn) f g e =
    ap (λ (ys : List ℕ). k ∷ ys) (row_moved pages away (suc at) pfn f g e)
