-- Words that were read are those that spell what was read.
use Rattle.std.proofs.Common.{◌≡◌, ℕ, ◌+◌, ◌^◌, ◌*◌, ◌/◌, ◌%◌, ◌<◌, ◌≤◌, Bool, true, false, cond, List, [], ◌∷◌, ◌++◌, length, Option, Some, None, Ok, Err, All, refl, sym, ap, subst, ◌∙◌, arith}
use Rattle.std.specs.Prelude.{◌&&◌, codes, nat_lt, nat_le}
use Rattle.std.specs.Option.{ok_or}
use Rattle.std.specs.Fmt.{decimal}
use Rattle.std.proofs.lemmas.Bool.{lt-ltb, le-leb, lt-leb, ltb-true, ltb-false}
use Rattle.std.proofs.lemmas.Bool.Decides.{nat_tests}
use Rattle.std.proofs.lemmas.List.Elements.{All-nil, All-cons, All-head, All-tail}
use Rattle.neph_base.specs.declared.command.Mode.{Mode}
use Rattle.neph_base.specs.declared.command.Mode.TheVariants.{Ro, Rw}
use Rattle.neph_model.specs.Words.{hex, hex_byte, hex_digit, mode_word}
use Rattle.neph_command.specs.declared.why.Why.TheVariants as why
use Rattle.neph_command.specs.Words.{equals, number, number_in, hex_bytes, in_front, byte_value, digit_value, sized, piece, is_name, name, mode}
use Rattle.neph_command.proofs.Ranges.{Spelled, number_found, number_only, equal_from}
use Rattle.neph_command.proofs.Inverse.{some_from_ok, let_in, same_ok, kept}

pub number_read : (low high : ℕ) (word : List ℕ) (n : ℕ) → number low high word ≡ Ok n → Spelled word low high n
number_read low high word n e = number_found word low high n (some_from_ok (number_in low high word) why.Number n e)

digit_read : (b d : ℕ) → digit_value b ≡ Some d → (b ≡ hex_digit d) × (d < 16)
digit_read b d e = (grind (arith, nat_tests), grind (arith, nat_tests))

one_byte : (x y h l : ℕ) → (x ≡ hex_digit h) × (h < 16) → (y ≡ hex_digit l) × (l < 16) → (x ∷ y ∷ [] ≡ hex_byte (16 * h + l)) × (16 * h + l < 256)
one_byte x y h l p q =
    let high : (16 * h + l) / 16 ≡ h = omega (arith, p.1, q.1) in
    let low : (16 * h + l) % 16 ≡ l = omega (arith, p.1, q.1) in
    (rw (high, low) (ap (λ (n : ℕ). n ∷ y ∷ []) p.0 ∙ ap (λ (n : ℕ). hex_digit h ∷ n ∷ []) q.0), omega (arith, p.1, q.1))

byte_read : (x y b : ℕ) → byte_value (digit_value x) (digit_value y) ≡ Some b → (x ∷ y ∷ [] ≡ hex_byte b) × (b < 256)
byte_read x y b e = by (digit_value x) (digit_value y) refl refl e where
  by : (o p : Option ℕ) → digit_value x ≡ o → digit_value y ≡ p → byte_value o p ≡ Some b → (x ∷ y ∷ [] ≡ hex_byte b) × (b < 256)
  by (Some h) (Some l) is also e = let same : 16 * h + l ≡ b = cc in subst (λ (n : ℕ). (x ∷ y ∷ [] ≡ hex_byte n) × (n < 256)) same (one_byte x y h l (digit_read x h is) (digit_read y l also))
  by (Some h) None is also e = absurd cc
  by None p is also e = absurd cc

front_read : (o : Option ℕ) (p : Option (List ℕ)) (bytes : List ℕ) → in_front o p ≡ Some bytes → (b : ℕ) × (bs : List ℕ) × (o ≡ Some b) × (p ≡ Some bs) × (b ∷ bs ≡ bytes)
front_read (Some b) (Some bs) bytes e = (b, bs, refl, refl, cc)
front_read (Some b) None bytes e = absurd cc
front_read None p bytes e = absurd cc

more_read : (x y : ℕ) (rest : List ℕ) (b : ℕ) (bs : List ℕ) → (x ∷ y ∷ [] ≡ hex_byte b) × (b < 256) → (rest ≡ hex bs) × All (λ b. b < 256) bs → (x ∷ y ∷ rest ≡ hex (b ∷ bs)) × All (λ b. b < 256) (b ∷ bs)
more_read x y rest b bs p q = (ap (λ (two : List ℕ). two ++ rest) p.0 ∙ ap (λ (xs : List ℕ). hex_byte b ++ xs) q.0, All-cons (λ b. b < 256) b bs p.1 q.1)

bytes_read : (word bytes : List ℕ) → hex_bytes word ≡ Some bytes → (word ≡ hex bytes) × All (λ b. b < 256) bytes
unfolding hex_bytes
bytes_read [] bytes e = let same : [] ≡ bytes = cc in subst (λ (bs : List ℕ). ([] ≡ hex bs) × All (λ b. b < 256) bs) same (refl, All-nil (λ b. b < 256))
bytes_read (x ∷ []) bytes e = absurd cc
bytes_read (x ∷ y ∷ rest) bytes e =
    let f = front_read (byte_value (digit_value x) (digit_value y)) (hex_bytes rest) bytes e in
    subst (λ (bs : List ℕ). (x ∷ y ∷ rest ≡ hex bs) × All (λ b. b < 256) bs) f.4 (more_read x y rest f.0 f.1 (byte_read x y f.0 f.2) (bytes_read rest f.1 f.3))

-- bytes that a word spells
pub record SpelledBytes (word bytes : List ℕ) : Type 0 where
  pub is : word ≡ hex bytes
  pub some : 0 < length bytes
  pub few : length bytes ≤ 64
  pub small : All (λ b. b < 256) bytes

both : (n : ℕ) → (nat_lt 0 n && nat_le n 64) ≡ true → (0 < n) × (n ≤ 64)
both n e = (grind (arith, nat_tests), grind (arith, nat_tests))

sized_read : (o : Option (List ℕ)) (bytes : List ℕ) → sized o ≡ Some bytes → (o ≡ Some bytes) × (0 < length bytes) × (length bytes ≤ 64)
sized_read None bytes e = absurd cc
sized_read (Some bs) bytes e =
    let k = kept (nat_lt 0 (length bs) && nat_le (length bs) 64) bs bytes e in
    subst (λ (xs : List ℕ). (Some bs ≡ Some xs) × (0 < length xs) × (length xs ≤ 64)) k.1 (refl, (both (length bs) k.0).0, (both (length bs) k.0).1)

pub piece_read : (word bytes : List ℕ) → piece word ≡ Ok bytes → SpelledBytes word bytes
piece_read word bytes e =
    let s = sized_read (hex_bytes word) bytes (some_from_ok (sized (hex_bytes word)) why.Hex bytes e) in
    let h = bytes_read word bytes s.0 in
    record { is = h.0; some = s.1; few = s.2; small = h.1 }

pub name_read : (word n : List ℕ) → name word ≡ Ok n → (word ≡ n) × (is_name n ≡ true)
name_read word n e = let h = let_in (is_name word) why.Name (Ok word) n e in (same_ok word n h.1, ap is_name (sym (same_ok word n h.1)) ∙ h.0)

pub mode_read : (word : List ℕ) (m : Mode) → mode word ≡ Ok m → word ≡ mode_word m
mode_read word m e = by (equals word (codes "ro")) refl (equals word (codes "rw")) refl e where
  by : (t : Bool) → equals word (codes "ro") ≡ t → (u : Bool) → equals word (codes "rw") ≡ u → cond t (Ok Ro) (cond u (Ok Rw) (Err why.Word)) ≡ Ok m → word ≡ mode_word m
  by true t u q h = equal_from word (codes "ro") t ∙ ap mode_word (same_ok Ro m h)
  by false t true q h = equal_from word (codes "rw") q ∙ ap mode_word (same_ok Rw m h)
  by false t false q h = absurd cc

pub number_again : (low high n : ℕ) → low ≤ n → n ≤ high → high < 2 ^ 64 → number low high (decimal n) ≡ Ok n
number_again low high n a b small = ap (λ (o : Option ℕ). ok_or o why.Number) (number_only (decimal n) low high n (record { is = refl; low_is = a; high_is = b }) small)

low_digit : (b d : ℕ) → b ≡ 48 + d → d < 10 → digit_value b ≡ Some d
low_digit b d is few = rw (le-leb 48 b (omega arith), le-leb b 57 (omega arith)) (ap Some (omega arith))

high_digit : (b d : ℕ) → b ≡ 87 + d → 10 ≤ d → d < 16 → digit_value b ≡ Some d
high_digit b d is many lt = rw (le-leb 48 b (omega arith), lt-leb b 57 (omega arith), le-leb 97 b (omega arith), le-leb b 102 (omega arith)) (ap Some (omega arith))

digit_again : (d : ℕ) → d < 16 → digit_value (hex_digit d) ≡ Some d
digit_again d lt = by (nat_lt d 10) refl where
  by : (t : Bool) → nat_lt d 10 ≡ t → digit_value (cond t (48 + d) (87 + d)) ≡ Some d
  by true e = let few : d < 10 = ltb-true d 10 e in low_digit (48 + d) d (omega arith) few
  by false e = let many : 10 ≤ d = ltb-false d 10 e in high_digit (87 + d) d (omega arith) many lt

byte_again : (b : ℕ) → b < 256 → byte_value (digit_value (hex_digit (b / 16))) (digit_value (hex_digit (b % 16))) ≡ Some b
byte_again b lt = rw (digit_again (b / 16) (omega arith), digit_again (b % 16) (omega arith)) (ap Some (omega arith))

bytes_again : (bytes : List ℕ) → All (λ b. b < 256) bytes → hex_bytes (hex bytes) ≡ Some bytes
unfolding hex_bytes
bytes_again [] h = refl
bytes_again (b ∷ bytes) h = rw (byte_again b (All-head (λ x. x < 256) b bytes h), bytes_again bytes (All-tail (λ x. x < 256) b bytes h)) refl

pub piece_again : (bytes : List ℕ) → All (λ b. b < 256) bytes → 0 < length bytes → length bytes ≤ 64 → piece (hex bytes) ≡ Ok bytes
piece_again bytes h some few = rw (bytes_again bytes h, lt-ltb 0 (length bytes) some, le-leb (length bytes) 64 few) refl

pub name_again : (n : List ℕ) → is_name n ≡ true → name n ≡ Ok n
name_again n e = rw e refl

pub mode_again : (m : Mode) → mode (mode_word m) ≡ Ok m
mode_again Ro = refl
mode_again Rw = refl
