-- The members of a family, counted by rising id.
use Rattle.std.proofs.Common.{◌≡◌, ◌+◌, ◌-◌, ◌<◌, ℕ, zero, suc, Bool, true, false, cond, List, [], ◌∷◌, ◌++◌, length, map, refl, sym, ap, ◌∙◌, arith, length-append, append_assoc, Some, None}
use Rattle.std.specs.Prelude.{filter, slice_get, Option}
use Rattle.std.specs.Option.{SomeIff}
use Rattle.std.specs.List.{range_with_len}
use Rattle.std.proofs.lemmas.List.{map-id, append-nil}
use Rattle.std.proofs.lemmas.List.FromFn.{map-range_with_len_more}
use Rattle.std.proofs.lemmas.List.Elements.{filter-append}
use Rattle.neph_net.specs.Families.{Families, is_member, members}

-- those that pass among the numbers below n
unfoldable pub below : (ℕ → Bool) → ℕ → List ℕ
below p n = filter p (range_with_len 0 n)

range_more : (n : ℕ) → range_with_len 0 (n + 1) ≡ range_with_len 0 n ++ n ∷ []
range_more n = sym (map-id (range_with_len 0 (n + 1))) ∙ map-range_with_len_more (λ (k : ℕ). k) 0 n n (omega arith) ∙ ap (λ (xs : List ℕ). xs ++ n ∷ []) (map-id (range_with_len 0 n))

pub below_more : (p : ℕ → Bool) (n : ℕ) → below p (n + 1) ≡ below p n ++ filter p (n ∷ [])
unfolding below
below_more p n = ap (filter p) (range_more n) ∙ filter-append p (range_with_len 0 n) (n ∷ [])

filter_true : (p : ℕ → Bool) (n : ℕ) → p n ≡ true → filter p (n ∷ []) ≡ n ∷ []
filter_true p n e = ap (λ (b : Bool). cond b (n ∷ []) []) e

filter_false : (p : ℕ → Bool) (n : ℕ) → p n ≡ false → filter p (n ∷ []) ≡ []
filter_false p n e = ap (λ (b : Bool). cond b (n ∷ []) []) e

pub length-below_true : (p : ℕ → Bool) (n : ℕ) → p n ≡ true → length (below p (n + 1)) ≡ length (below p n) + 1
length-below_true p n e = ap (λ (xs : List ℕ). length xs) (below_more p n ∙ ap (λ (xs : List ℕ). below p n ++ xs) (filter_true p n e)) ∙ length-append (below p n) (n ∷ [])

pub length-below_false : (p : ℕ → Bool) (n : ℕ) → p n ≡ false → length (below p (n + 1)) ≡ length (below p n)
length-below_false p n e = ap (λ (xs : List ℕ). length xs) (below_more p n ∙ ap (λ (xs : List ℕ). below p n ++ xs) (filter_false p n e)) ∙ length-append (below p n) [] ∙ (omega arith)

pub below_none : (p : ℕ → Bool) → length (below p 0) ≡ 0
unfolding below
below_none p = refl

nil_right : (xs : List ℕ) → xs ++ [] ≡ xs
nil_right xs = append-nil xs

-- those below n stand first
below_rest : (p : ℕ → Bool) (n m : ℕ) → (q : List ℕ) × (below p (n + m) ≡ below p n ++ q)
below_rest p n zero = ([], ap (below p) (let e : n + 0 ≡ n = omega arith in e) ∙ sym (nil_right (below p n)))
below_rest p n (suc m) =
    let r = below_rest p n m in (
      r.0 ++ filter p ((n + m) ∷ []),
      ap (below p) (let e : n + suc m ≡ n + m + 1 = omega arith in e) ∙ below_more p (n + m) ∙ ap (λ (xs : List ℕ). xs ++ filter p ((n + m) ∷ [])) r.1 ∙ append_assoc (below p n) r.0 (filter p ((n + m) ∷ [])),
    )

at_length : (xs ys : List ℕ) (x i : ℕ) → i ≡ length xs → slice_get (xs ++ (x ∷ ys)) i ≡ Some x
at_length [] ys x i e = ap (slice_get (x ∷ ys)) e
at_length (z ∷ xs) ys x zero e = absurd (omega arith)
at_length (z ∷ xs) ys x (suc i) e = at_length xs ys x i (omega arith)

-- the member at a place
pub member_found : (s : Families) (f d place : ℕ) → is_member s f d ≡ true → d < 64 → place ≡ length (below (is_member s f) d) → slice_get (members s f) place ≡ Some d
unfolding below members
member_found s f d place e lt h =
    let p : ℕ → Bool = is_member s f in
    let r = below_rest p (d + 1) (63 - d) in
    let whole : members s f ≡ below p (d + 1 + (63 - d)) = ap (below p) (let k : 64 ≡ d + 1 + (63 - d) = omega arith in k) in
    ap (λ (xs : List ℕ). slice_get xs place)
    (whole ∙ r.1 ∙ ap (λ (xs : List ℕ). xs ++ r.0) (below_more p d ∙ ap (λ (xs : List ℕ). below p d ++ xs) (filter_true p d e)) ∙ append_assoc (below p d) (d ∷ []) r.0)
    ∙ at_length (below p d) r.0 d place h

pub members_all : (s : Families) (f : ℕ) → members s f ≡ below (is_member s f) 64
unfolding below members
members_all s f = refl

-- a number in range
pub some_number : (r : Option ℕ) (d : ℕ) → SomeIff r (d < 64) d → d < 64 → r ≡ Some d
some_number None d h lt = absurd (h lt)
some_number (Some x) d h lt = ap Some h.1
