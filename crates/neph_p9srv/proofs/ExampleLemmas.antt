-- The lines of the example are those of a tree.
use Rattle.std.proofs.Common.{◌≡◌, ◌⊎◌, ℕ, zero, suc, ◌+◌, ◌-◌, ◌≤◌, List, [], ◌∷◌, length, take, Some, None, refl, sym, ap, subst, ◌∙◌, arith, inl, inr}
use Rattle.std.specs.Prelude.{slice_get}
use Rattle.std.proofs.lemmas.List.Elements.{All-from_recursion}
use Rattle.neph_p9srv.specs.declared.served.FileItem.{FileItem}
use Rattle.neph_p9srv.specs.Example.{example}
use Rattle.neph_p9srv.specs.State.{IsName, IsNameByte, IsItem, HasDirectory, AreItems}

letter : (b : ℕ) → 97 ≤ b → b ≤ 122 → IsName (b ∷ [])
letter b low high = record {
  some = omega arith;
  most = omega arith;
  bytes = All-from_recursion IsNameByte (b ∷ []) (inl (low, high), tt);
  apart = λ e. let is : b ≡ 46 = cc e in absurd (omega arith);
  down = λ e. absurd (cc e);
}

a_name : IsName (97 ∷ [])
a_name = letter 97 (omega arith) (omega arith)

d_name : IsName (100 ∷ [])
d_name = letter 100 (omega arith) (omega arith)

f_name : IsName (102 ∷ [])
f_name = letter 102 (omega arith) (omega arith)

parents_of : (k : ℕ) (item : FileItem) → slice_get example k ≡ Some item → (length item.path ≡ 1) ⊎ HasDirectory example k (take (length item.path - 1) item.path)
parents_of zero item e = let is : record { path = (97 ∷ []) ∷ []; body = Some (104 ∷ 101 ∷ 108 ∷ 108 ∷ 111 ∷ []) } ≡ item = cc e in inl (ap (λ (x : FileItem). length x.path) (sym is))
parents_of (suc zero) item e = let is : record { path = (100 ∷ []) ∷ []; body = None } ≡ item = cc e in inl (ap (λ (x : FileItem). length x.path) (sym is))
parents_of (suc (suc zero)) item e =
    let is : record { path = (100 ∷ []) ∷ (102 ∷ []) ∷ []; body = Some [] } ≡ item = cc e in
    subst (λ (x : FileItem). (length x.path ≡ 1) ⊎ HasDirectory example 2 (take (length x.path - 1) x.path)) is (inr (1, omega arith, refl))
parents_of (suc (suc (suc k))) item e = absurd (cc e)

-- a number by which the paths differ
abbrev first_byte : List ℕ → ℕ
first_byte [] = 0
first_byte (b ∷ bs) = b

abbrev mark : List (List ℕ) → ℕ
mark [] = 0
mark (n ∷ []) = first_byte n
mark (n ∷ m ∷ ns) = 1000

abbrev number_of : ℕ → ℕ
number_of zero = 97
number_of (suc zero) = 100
number_of (suc (suc k)) = 1000 + k

marked : (k : ℕ) (item : FileItem) → slice_get example k ≡ Some item → mark item.path ≡ number_of k
marked zero item e = let is : record { path = (97 ∷ []) ∷ []; body = Some (104 ∷ 101 ∷ 108 ∷ 108 ∷ 111 ∷ []) } ≡ item = cc e in sym (ap (λ (x : FileItem). mark x.path) is)
marked (suc zero) item e = let is : record { path = (100 ∷ []) ∷ []; body = None } ≡ item = cc e in sym (ap (λ (x : FileItem). mark x.path) is)
marked (suc (suc zero)) item e = let is : record { path = (100 ∷ []) ∷ (102 ∷ []) ∷ []; body = Some [] } ≡ item = cc e in sym (ap (λ (x : FileItem). mark x.path) is)
marked (suc (suc (suc k))) item e = absurd (cc e)

one_number : (j k : ℕ) → number_of j ≡ number_of k → j ≡ k
one_number zero zero e = refl
one_number zero (suc zero) e = absurd (omega arith)
one_number zero (suc (suc k)) e = absurd (omega arith)
one_number (suc zero) zero e = absurd (omega arith)
one_number (suc zero) (suc zero) e = refl
one_number (suc zero) (suc (suc k)) e = absurd (omega arith)
one_number (suc (suc j)) zero e = absurd (omega arith)
one_number (suc (suc j)) (suc zero) e = absurd (omega arith)
one_number (suc (suc j)) (suc (suc k)) e = omega arith

apart_of : (j k : ℕ) (a b : FileItem) → slice_get example j ≡ Some a → slice_get example k ≡ Some b → a.path ≡ b.path → j ≡ k
apart_of j k a b ea eb e = one_number j k (sym (marked j a ea) ∙ ap mark e ∙ marked k b eb)

pub example_is : AreItems example
example_is = record {
  few = omega arith;
  each = All-from_recursion IsItem example (
    record { some = omega arith; most = omega arith; names = All-from_recursion IsName ((97 ∷ []) ∷ []) (a_name, tt); bytes = omega arith },
    (
      record { some = omega arith; most = omega arith; names = All-from_recursion IsName ((100 ∷ []) ∷ []) (d_name, tt); bytes = tt },
      (record { some = omega arith; most = omega arith; names = All-from_recursion IsName ((100 ∷ []) ∷ (102 ∷ []) ∷ []) (d_name, (f_name, tt)); bytes = omega arith }, tt),
    ),
  );
  parents = parents_of;
  apart = apart_of;
}
