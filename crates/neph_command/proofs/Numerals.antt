-- The numerals that `decimal` writes are those without a sign or a leading zero.
use Rattle.std.proofs.Common.{◌≡◌, ℕ, zero, suc, ◌+◌, ◌*◌, ◌-◌, ◌^◌, ◌<◌, ◌≤◌, ◌/◌, ◌%◌, true, false, List, [], ◌∷◌, length, drop, get_or, refl, sym, ap, ◌∙◌, arith, rules}
use Rattle.std.specs.Str.{all_ascii_digits}
use Rattle.std.specs.Fmt.{decimal}
use Rattle.std.proofs.lemmas.Str.Parse.{IsNumeralModel, numerals_by_fold}
use Rattle.std.proofs.lemmas.Fmt.{decimal-digits_value, digits_value-decimal, digits_decimal, first_decimal, decimal_digit, decimal_step}
use Rattle.std.proofs.lemmas.List.{drop_all, drop_more}
use Rattle.std.proofs.lemmas.Bool.{false≢true}
use Rattle.std.proofs.lemmas.Bool.Decides.{nat_tests}
use Rattle.neph_command.specs.Words.{is_digit}
use Rattle.neph_command.specs.Plain.{IsPlain}

abbrev pub read_on : ℕ → List ℕ → ℕ
read_on n [] = n
read_on n (c ∷ cs) = read_on (10 * n + (c - 48)) cs

own : IsNumeralModel (λ ds. all_ascii_digits ds ≡ true) (read_on 0)
own = numerals_by_fold _ (search rules) read_on (search rules)

-- what is read of a word up to a place
pub record ReadTo (word : List ℕ) (i n : ℕ) : Type 0 where
  pub small : n < 2 ^ 32
  pub digits : all_ascii_digits (drop i word) ≡ all_ascii_digits word
  pub value : read_on n (drop i word) ≡ read_on 0 word

digit_first : (b : ℕ) (rest : List ℕ) → is_digit b ≡ true → all_ascii_digits (b ∷ rest) ≡ all_ascii_digits rest
digit_first b rest e = grind (arith, nat_tests)

other_first : (b : ℕ) (rest : List ℕ) → is_digit b ≡ false → all_ascii_digits (b ∷ rest) ≡ false
other_first b rest e = grind (arith, nat_tests)

no_less : (n : ℕ) (cs : List ℕ) → n ≤ read_on n cs
no_less n [] = omega arith
no_less n (c ∷ cs) = omega (arith, no_less (10 * n + (c - 48)) cs)

pub digit_read : (word : List ℕ) (i n : ℕ) → i < length word → is_digit (get_or word i 0) ≡ true → 10 * n + (get_or word i 0 - 48) < 2 ^ 32 → ReadTo word i n → ReadTo word (i + 1) (10 * n + (get_or word i 0 - 48))
digit_read word i n lt digit small so =
    let more = drop_more word i 0 lt in
    record {
      small = small;
      digits = sym (digit_first (get_or word i 0) (drop (i + 1) word) digit) ∙ ap all_ascii_digits (sym more) ∙ so.digits;
      value = ap (read_on n) (sym more) ∙ so.value;
    }

pub no_digit : (word : List ℕ) (i n m : ℕ) → i < length word → is_digit (get_or word i 0) ≡ false → ReadTo word i n → m < 2 ^ 32 → word ≡ decimal m → ⊥
no_digit word i n m lt other so few e =
    let bad : all_ascii_digits word ≡ false = sym so.digits ∙ ap all_ascii_digits (drop_more word i 0 lt) ∙ other_first (get_or word i 0) (drop (i + 1) word) other in
    let good : all_ascii_digits word ≡ true = rw e (digits_decimal own m (omega arith)) in
    false≢true (sym bad ∙ good)

pub too_large : (word : List ℕ) (i n m : ℕ) → i < length word → 2 ^ 32 ≤ 10 * n + (get_or word i 0 - 48) → ReadTo word i n → m < 2 ^ 32 → word ≡ decimal m → ⊥
too_large word i n m lt big so few e =
    let all = ap (read_on n) (sym (drop_more word i 0 lt)) ∙ so.value in
    let least = no_less (10 * n + (get_or word i 0 - 48)) (drop (i + 1) word) in
    let is : read_on 0 word ≡ m = rw e (digits_value-decimal own m (omega arith)) in
    omega (arith, all, least, is, big)

pub all_digits : (word : List ℕ) (i n : ℕ) → length word ≤ i → 0 < length word → (get_or word 0 0 ≡ 48 → length word ≡ 1) → ReadTo word i n → word ≡ decimal n
all_digits word i n over some plain so =
    let end = drop_all i word over in
    let digits : all_ascii_digits word ≡ true = sym so.digits ∙ ap all_ascii_digits end in
    let value : n ≡ read_on 0 word = ap (read_on n) (sym end) ∙ so.value in
    sym (decimal-digits_value own word digits some plain (omega (arith, value, so.small))) ∙ ap decimal (sym value)

plain_decimal : (n : ℕ) → n < 2 ^ 32 → IsPlain (decimal n)
plain_decimal zero lt =
    let d : decimal 0 ≡ 48 ∷ [] = decimal_digit 0 (omega arith) in
    rw d ((λ e. absurd (omega (arith, e))), (λ e. refl))
plain_decimal (suc n) lt = let big = first_decimal (suc n) (omega arith) (omega arith) in (λ e. absurd (omega (arith, big, e)), λ e. absurd (omega (arith, big, e)))

pub plain_number : (bs : List ℕ) (n : ℕ) → n < 2 ^ 32 → bs ≡ decimal n → IsPlain bs
plain_number bs n lt e = rw e (plain_decimal n lt)

-- a number of two digits
pub two_digits : (n : ℕ) → 10 ≤ n → n < 100 → decimal n ≡ (48 + n / 10) ∷ (48 + n % 10) ∷ []
two_digits n low high = rw (decimal_step n low (omega (arith, high)), decimal_digit (n / 10) (omega (arith, high))) refl
