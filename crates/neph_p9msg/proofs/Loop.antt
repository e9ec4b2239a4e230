-- Reading values one behind the other, as a loop does.
use Rattle.std.proofs.Common.{◌≡◌, ℕ, suc, ◌-◌, ◌+◌, ◌≤◌, ◌<◌, List, [], ◌∷◌, ◌++◌, Option, Some, None, refl, sym, ap, ◌∙◌, append_assoc, arith}
use Rattle.std.proofs.lemmas.List.{append-nil}
use Rattle.neph_p9msg.specs.declared.fields.ReadError.{ReadError}
use Rattle.neph_p9msg.specs.declared.fields.ReadError.TheVariants.{Memory, NoMessage}
use Rattle.neph_p9msg.specs.Reading.{◌>>=◌, Fails, many_at}

-- what was read before, and what is still read
abbrev pub with_front : {A : Type 0} → List A → Option (List A × List ℕ) → Option (List A × List ℕ)
with_front front read = read >>= λ x. Some (front ++ x.0, x.1)

regroup : {A : Type 0} (front : List A) (x : A) (read : Option (List A × List ℕ)) → with_front front (read >>= λ r. Some (x ∷ r.0, r.1)) ≡ with_front (front ++ x ∷ []) read
regroup {A} front x (Some r) = ap (λ (xs : List A). Some (xs, r.1)) (simp append_assoc)
regroup front x None = refl

pub goes_on : {A : Type 0} (one_at : List ℕ → Option (A × List ℕ)) (front : List A) (count i : ℕ) (bytes : List ℕ) (x : A) (behind : List ℕ) (total : Option (List A × List ℕ))
    → i < count → one_at bytes ≡ Some (x, behind)
    → with_front front (many_at one_at (count - i) bytes) ≡ total → with_front (front ++ x ∷ []) (many_at one_at (count - (i + 1)) behind) ≡ total
unfolding many_at
goes_on one_at front count i bytes x behind total lt h so_far =
    let k : count - i ≡ suc (count - (i + 1)) = omega arith in
    let one : with_front front (many_at one_at (count - i) bytes) ≡ with_front (front ++ x ∷ []) (many_at one_at (count - (i + 1)) behind) = rw (k, h) (regroup front x (many_at one_at (count - (i + 1)) behind)) in
    sym one ∙ so_far

pub ends : {A : Type 0} (one_at : List ℕ → Option (A × List ℕ)) (e : ReadError) (front : List A) (count i : ℕ) (bytes : List ℕ) (total : Option (List A × List ℕ))
    → i < count → Fails e (one_at bytes) → with_front front (many_at one_at (count - i) bytes) ≡ total → Fails e total
unfolding many_at
ends one_at Memory front count i bytes total lt h so_far = tt
ends one_at NoMessage front count i bytes total lt h so_far =
    let k : count - i ≡ suc (count - (i + 1)) = omega arith in
    let one : with_front front (many_at one_at (count - i) bytes) ≡ None = rw (k, h) refl in
    sym so_far ∙ one

pub is_done : {A : Type 0} (one_at : List ℕ → Option (A × List ℕ)) (front : List A) (count i : ℕ) (bytes : List ℕ) (total : Option (List A × List ℕ))
    → count ≤ i → with_front front (many_at one_at (count - i) bytes) ≡ total → total ≡ Some (front, bytes)
unfolding many_at
is_done {A} one_at front count i bytes total le so_far =
    let k : count - i ≡ 0 = omega arith in
    let one : with_front front (many_at one_at (count - i) bytes) ≡ Some (front, bytes) = rw k (ap (λ (xs : List A). Some (xs, bytes)) (append-nil front)) in
    sym so_far ∙ one
