-- The number of a range that a word is the decimal of.
use Rattle.std.proofs.Common.{◌≡◌, ◌≢◌, ℕ, zero, suc, ◌+◌, ◌-◌, ◌^◌, ◌<◌, ◌≤◌, Bool, true, false, cond, List, Option, Some, None, refl, sym, ap, ◌∙◌, arith}
use Rattle.std.specs.Prelude.{find}
use Rattle.std.specs.List.{range_with_len}
use Rattle.std.specs.Fmt.{decimal}
use Rattle.std.specs.Cmp.Lexicographic.{bytes_decides}
use Rattle.std.proofs.lemmas.Fmt.{decimal_injective}
use Rattle.std.proofs.lemmas.Bool.{false≢true}
use Rattle.neph_command.specs.Words.{equals, number_in}

pub equal_from : (a b : List ℕ) → equals a b ≡ true → a ≡ b
equal_from a b e = (bytes_decides a b).0 e

pub equal_to : (a b : List ℕ) → a ≡ b → equals a b ≡ true
equal_to a b e = (bytes_decides a b).1 e

-- a word is the decimal of a number of a range
pub record Spelled (word : List ℕ) (low high n : ℕ) : Type 0 where
  pub is : word ≡ decimal n
  pub low_is : low ≤ n
  pub high_is : n ≤ high

first : (word : List ℕ) (low n : ℕ) (rest : Option ℕ) (P : Type 0) (b : Bool) → equals word (decimal low) ≡ b → cond b (Some low) rest ≡ Some n → (word ≡ decimal low → low ≡ n → P) → (rest ≡ Some n → P) → P
first word low n rest P true is e here later = here (equal_from word (decimal low) is) cc
first word low n rest P false is e here later = later e

second : (word : List ℕ) (low n : ℕ) (rest : Option ℕ) (b : Bool) → equals word (decimal low) ≡ b → word ≡ decimal n → low < 2 ^ 64 → n < 2 ^ 64 → (low ≢ n → rest ≡ Some n) → cond b (Some low) rest ≡ Some n
second word low n rest true e is few small later = ap Some (decimal_injective low n few small (sym (equal_from word (decimal low) e) ∙ is))
second word low n rest false e is few small later = later (λ same. false≢true (sym e ∙ equal_to word (decimal low) (is ∙ ap decimal (sym same))))

found : (word : List ℕ) (low len n : ℕ) → find (λ m. equals word (decimal m)) (range_with_len low len) ≡ Some n → (word ≡ decimal n) × (low ≤ n) × (n < low + len)
found word low zero n e = absurd cc
found word low (suc len) n e =
    first word low n _ _ (equals word (decimal low)) refl e (λ is same. (is ∙ ap decimal same, omega (arith, same), omega (arith, same)))
    (λ rest. let h = found word (low + 1) len n rest in (h.0, omega (arith, h.1), omega (arith, h.2)))

only : (word : List ℕ) (low len n : ℕ) → word ≡ decimal n → low ≤ n → n < low + len → n < 2 ^ 64 → find (λ m. equals word (decimal m)) (range_with_len low len) ≡ Some n
only word low zero n is a b small = absurd (omega arith)
only word low (suc len) n is a b small =
    second word low n _ (equals word (decimal low)) refl is (omega arith) small (λ apart. only word (low + 1) len n is (omega (arith, apart)) (omega arith) small)

pub number_found : (word : List ℕ) (low high n : ℕ) → number_in low high word ≡ Some n → Spelled word low high n
unfolding number_in
number_found word low high n e = let h = found word low (high + 1 - low) n e in record { is = h.0; low_is = h.1; high_is = omega (arith, h.1, h.2) }

pub number_only : (word : List ℕ) (low high n : ℕ) → Spelled word low high n → high < 2 ^ 64 → number_in low high word ≡ Some n
unfolding number_in
number_only word low high n h small = only word low (high + 1 - low) n h.is h.low_is (omega (arith, h.low_is, h.high_is)) (omega (arith, h.high_is))

-- a word that is the decimal of no number of the range
pub number_none : (word : List ℕ) (low high : ℕ) → ((n : ℕ) → Spelled word low high n → ⊥) → number_in low high word ≡ None
number_none word low high none = at (number_in low high word) refl where
  at : (o : Option ℕ) → number_in low high word ≡ o → o ≡ None
  at None e = refl
  at (Some n) e = absurd (none n (number_found word low high n e))

pub none_at_all : (word : List ℕ) (low high : ℕ) → ((n : ℕ) → n < 2 ^ 32 → word ≢ decimal n) → high < 2 ^ 32 → number_in low high word ≡ None
none_at_all word low high none small = number_none word low high (λ n h. none n (omega (arith, h.high_is)) h.is)

pub none_within : (word : List ℕ) (low high n : ℕ) → word ≡ decimal n → n < 2 ^ 32 → high < 2 ^ 32 → (low ≤ n → n ≤ high → ⊥) → number_in low high word ≡ None
none_within word low high n is small top out =
    number_none word low high (λ k h. let same : n ≡ k = decimal_injective n k (omega arith) (omega (arith, h.high_is)) (sym is ∙ h.is) in out (omega (arith, same, h.low_is)) (omega (arith, same, h.high_is)))
