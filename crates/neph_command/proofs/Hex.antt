-- Bytes as pairs of digits, by the digits' values.
use Rattle.std.proofs.Common.{◌≡◌, ℕ, zero, suc, ◌+◌, ◌*◌, ◌/◌, ◌%◌, ◌<◌, ◌≤◌, max, inl, inr, List, [], ◌∷◌, ◌++◌, Option, None, Some, length, take, drop, set, get_or, refl, sym, ap, ◌∙◌, arith, append_assoc, add-one, drop-cons}
use Rattle.std.proofs.lemmas.Bool.{false≢true, cases_lt}
use Rattle.std.proofs.lemmas.Bool.Decides.{nat_tests}
use Rattle.std.specs.Prelude.{IfSome, IsSome, ◌↔◌, replicate}
use Rattle.neph_command.specs.Words.{hex_bytes, in_front, byte_value, digit_value, sized}
use Rattle.std.proofs.lemmas.List.{take_more_set, take_all, drop_all, append-nil, drop-set-lt}

-- these values, and then those, if there are any
abbrev pub behind : List ℕ → Option (List ℕ) → Option (List ℕ)
behind front None = None
behind front (Some more) = Some (front ++ more)

behind_front : (front : List ℕ) (b : ℕ) (o : Option (List ℕ)) → behind front (in_front (Some b) o) ≡ behind (front ++ b ∷ []) o
behind_front front b None = refl
behind_front front b (Some more) = ap Some (sym (append_assoc front (b ∷ []) more))

-- the values of digits, if they are such
abbrev pub values : List ℕ → Option (List ℕ)
values [] = Some []
values (x ∷ xs) = in_front (digit_value x) (values xs)

-- the bytes of values, two for each
abbrev pub pairs : List ℕ → List ℕ
pairs [] = []
pairs (x ∷ []) = []
pairs (high ∷ low ∷ rest) = (16 * high + low) ∷ pairs rest

-- a byte at a place, and its value if it is a digit
pub record HasValue (b v : ℕ) : Type 0 where
  pub digit : v < 16 → digit_value b ≡ Some v
  pub none : 15 < v → digit_value b ≡ None

-- what is read so far, if each value is a digit's, and no digits where one isn't
pub record ReadTo (text digits : List ℕ) (i most : ℕ) : Type 0 where
  pub read : most < 16 → values text ≡ behind (take i digits) (values (drop i digits))
  pub none : 15 < most → values text ≡ None

pub nothing_read_yet : (text : List ℕ) → ReadTo text text 0 0
nothing_read_yet text = record { read = λ lt. start (values text); none = λ lt. absurd (omega arith) } where
  start : (o : Option (List ℕ)) → o ≡ behind [] o
  start None = refl
  start (Some more) = refl

next_value : (digits : List ℕ) (i : ℕ) → i < length digits → values (drop i digits) ≡ in_front (digit_value (get_or digits i 0)) (values (drop (i + 1) digits))
next_value digits i lt = rw (add-one, drop-cons digits i 0) refl

pub value_read : (text digits : List ℕ) (i v most : ℕ) → i < length digits → HasValue (get_or digits i 0) v → ReadTo text digits i most → ReadTo text (set digits i v) (i + 1) (max most v)
value_read text digits i v most lt has so =
    let rest : drop (i + 1) (set digits i v) ≡ drop (i + 1) digits = drop-set-lt (i + 1) digits i v (omega arith) in
    record {
      read = λ few.
          let e : digit_value (get_or digits i 0) ≡ Some v = has.digit (omega arith) in
          so.read (omega arith) ∙ ap (behind (take i digits)) (next_value digits i lt ∙ ap (λ (o : Option ℕ). in_front o (values (drop (i + 1) digits))) e)
          ∙ behind_front (take i digits) v (values (drop (i + 1) digits)) ∙ rw (take_more_set digits i v lt, rest) refl;
      none = λ big.
          elim (cases_lt 15 most) [
            | inl was ↦ so.none was
            | inr few ↦
                let e : digit_value (get_or digits i 0) ≡ None = has.none (omega arith) in
                so.read (omega arith) ∙ ap (behind (take i digits)) (next_value digits i lt ∙ ap (λ (o : Option ℕ). in_front o (values (drop (i + 1) digits))) e)
          ];
    }

-- all are read
all_read : (text digits : List ℕ) (i most : ℕ) → ReadTo text digits i most → length digits ≤ i → most < 16 → values text ≡ Some digits
all_read text digits i most so full few = so.read few ∙ rw (take_all i digits full, drop_all i digits full) (ap Some (append-nil digits))

digit_small : (b v : ℕ) → digit_value b ≡ Some v → v < 16
digit_small b v e = grind (arith, nat_tests)

small_values : (text vs : List ℕ) → values text ≡ Some vs → (k : ℕ) → get_or vs k 0 < 16
small_values [] vs e k = let is : [] ≡ vs = cc in rw (← is) (omega arith)
small_values (x ∷ xs) vs e k = by (digit_value x) (values xs) refl (λ more so. small_values xs more so) e k where
  by : (o : Option ℕ) (r : Option (List ℕ)) → digit_value x ≡ o → ((more : List ℕ) → r ≡ Some more → (j : ℕ) → get_or more j 0 < 16) → in_front o r ≡ Some vs → (j : ℕ) → get_or vs j 0 < 16
  by None r is so e j = absurd cc
  by (Some b) None is so e j = absurd cc
  by (Some b) (Some more) is so e zero = let same : b ∷ more ≡ vs = cc in rw (← same) (digit_small x b is)
  by (Some b) (Some more) is so e (suc j) = let same : b ∷ more ≡ vs = cc in rw (← same) (so more refl j)

-- each value that was read is a digit's
pub small_read : (text digits : List ℕ) (i most : ℕ) → ReadTo text digits i most → length digits ≤ i → most < 16 → (k : ℕ) → get_or digits k 0 < 16
small_read text digits i most so full few k = small_values text digits (all_read text digits i most so full few) k

pub pair_read : (digits kept : List ℕ) (i b : ℕ) → i < length kept → 2 * i + 1 < length digits → b ≡ 16 * get_or digits (2 * i) 0 + get_or digits (2 * i + 1) 0 → pairs digits ≡ take i kept ++ pairs (drop (2 * i) digits)
    → pairs digits ≡ take (i + 1) (set kept i b) ++ pairs (drop (2 * (i + 1)) digits)
pair_read digits kept i b lt long is so =
    let first : drop (2 * i) digits ≡ get_or digits (2 * i) 0 ∷ drop (suc (2 * i)) digits = drop-cons digits (2 * i) 0 (omega arith) in
    let second : drop (suc (2 * i)) digits ≡ get_or digits (suc (2 * i)) 0 ∷ drop (suc (suc (2 * i))) digits = drop-cons digits (suc (2 * i)) 0 (omega arith) in
    let one : 2 * i + 1 ≡ suc (2 * i) = omega arith in
    let two : 2 * (i + 1) ≡ suc (suc (2 * i)) = omega arith in
    let e : pairs (drop (2 * i) digits) ≡ b ∷ pairs (drop (2 * (i + 1)) digits) = rw (first, second, is, one, two) refl in
    so ∙ ap (λ (bs : List ℕ). take i kept ++ bs) e ∙ sym (append_assoc (take i kept) (b ∷ []) (pairs (drop (2 * (i + 1)) digits))) ∙ ap (λ (front : List ℕ). front ++ pairs (drop (2 * (i + 1)) digits)) (sym (take_more_set kept i b lt))

-- the zeros behind a word have values
pub zeros_read : (n : ℕ) → values (replicate n 48) ≡ Some (replicate n 0)
zeros_read zero = refl
zeros_read (suc n) = rw (zeros_read n) refl

-- a word in front of digits has the first of their bytes
pub front_read : (word rest vs : List ℕ) (n : ℕ) → length word ≡ 2 * n → values (word ++ rest) ≡ Some vs → hex_bytes word ≡ Some (take n (pairs vs))
unfolding hex_bytes
front_read [] rest vs zero even e = refl
front_read [] rest vs (suc n) even e = absurd (omega arith)
front_read (x ∷ []) rest vs n even e = absurd (omega arith)
front_read (x ∷ y ∷ xs) rest vs zero even e = absurd (omega arith)
front_read (x ∷ y ∷ xs) rest vs (suc n) even e = by (digit_value x) (digit_value y) (values (xs ++ rest)) (λ more so. front_read xs rest more n (omega arith) so) e where
  by : (high low : Option ℕ) (r : Option (List ℕ)) → ((more : List ℕ) → r ≡ Some more → hex_bytes xs ≡ Some (take n (pairs more))) → in_front high (in_front low r) ≡ Some vs → in_front (byte_value high low) (hex_bytes xs) ≡ Some (take (suc n) (pairs vs))
  by None low r so e = absurd cc
  by (Some h) None r so e = absurd cc
  by (Some h) (Some l) None so e = absurd cc
  by (Some h) (Some l) (Some more) so e = let same : h ∷ l ∷ more ≡ vs = cc in rw (so more refl, ← same) refl

-- a word in front of digits is none where they all aren't
pub front_unread : (word rest zs : List ℕ) (n : ℕ) → length word ≡ 2 * n → values rest ≡ Some zs → values (word ++ rest) ≡ None → hex_bytes word ≡ None
unfolding hex_bytes
front_unread [] rest zs n even is e = absurd cc
front_unread (x ∷ []) rest zs n even is e = refl
front_unread (x ∷ y ∷ xs) rest zs zero even is e = absurd (omega arith)
front_unread (x ∷ y ∷ xs) rest zs (suc n) even is e = by (digit_value x) (digit_value y) (values (xs ++ rest)) (λ so. front_unread xs rest zs n (omega arith) is so) e where
  by : (high low : Option ℕ) (r : Option (List ℕ)) → (r ≡ None → hex_bytes xs ≡ None) → in_front high (in_front low r) ≡ None → in_front (byte_value high low) (hex_bytes xs) ≡ None
  by None low r so e = no_high low
    where
      no_high : (o : Option ℕ) → in_front (byte_value None o) (hex_bytes xs) ≡ None
      no_high None = refl
      no_high (Some l) = refl
  by (Some h) None r so e = refl
  by (Some h) (Some l) None so e = rw (so refl) refl
  by (Some h) (Some l) (Some more) so e = absurd cc

fits : (front : List ℕ) → 0 < length front → length front ≤ 64 → sized (Some front) ≡ Some front
fits front some few = grind (arith, nat_tests)

unsized : (front : List ℕ) → (0 < length front → length front ≤ 64 → ⊥) → sized (Some front) ≡ None
unsized front out = grind (arith, nat_tests)

-- the piece of some bytes
sized_as : (front : List ℕ) (o : Option (List ℕ)) → IfSome o (λ p. p ≡ front) → (IsSome o ↔ ((0 < length front) × (length front ≤ 64))) → o ≡ sized (Some front)
sized_as front None is exactly = sym (unsized front (λ a b. false≢true (exactly.1 (a, b))))
sized_as front (Some p) is exactly = ap Some is ∙ sym (fits front (exactly.0 refl).0 (exactly.0 refl).1)

-- a word that zeros stand behind spells no piece where not all are digits
pub no_piece : (word text digits : List ℕ) (i most n k : ℕ) → ReadTo text digits i most → 15 < most → length word ≡ 2 * n → text ≡ word ++ replicate k 48 → sized (hex_bytes word) ≡ None
no_piece word text digits i most n k so big even is = ap sized (front_unread word (replicate k 48) (replicate k 0) n even (zeros_read k) (ap values (sym is) ∙ so.none big))

-- and else the piece of the first of the bytes
pub first_piece : (word text digits kept : List ℕ) (i most n k : ℕ) (o : Option (List ℕ)) → ReadTo text digits i most → length digits ≤ i → most < 16 → length word ≡ 2 * n → text ≡ word ++ replicate k 48 → pairs digits ≡ kept
    → IfSome o (λ p. p ≡ take n kept) → (IsSome o ↔ ((0 < length (take n kept)) × (length (take n kept) ≤ 64))) → o ≡ sized (hex_bytes word)
first_piece word text digits kept i most n k o so full few even is same given exactly =
    let e : values (word ++ replicate k 48) ≡ Some digits = ap values (sym is) ∙ all_read text digits i most so full few in
    sized_as (take n kept) o given exactly ∙ ap sized (sym (front_read word (replicate k 48) digits n even e ∙ ap (λ (bs : List ℕ). Some (take n bs)) same))

-- a word is twice as long as its bytes
length_read : (word bytes : List ℕ) → hex_bytes word ≡ Some bytes → length word ≡ 2 * length bytes
unfolding hex_bytes
length_read [] bytes e = let is : [] ≡ bytes = cc in rw (← is) refl
length_read (x ∷ []) bytes e = absurd cc
length_read (x ∷ y ∷ xs) bytes e = by (byte_value (digit_value x) (digit_value y)) (hex_bytes xs) (λ more so. length_read xs more so) e where
  by : (o : Option ℕ) (r : Option (List ℕ)) → ((more : List ℕ) → r ≡ Some more → length xs ≡ 2 * length more) → in_front o r ≡ Some bytes → length (x ∷ y ∷ xs) ≡ 2 * length bytes
  by None r so e = absurd cc
  by (Some b) None so e = absurd cc
  by (Some b) (Some more) so e = let n = so more refl in let is : b ∷ more ≡ bytes = cc in rw (← is) (omega (arith, n))

-- a word of another length spells no piece
pub unfit : (word : List ℕ) → (length word % 2 ≡ 0 → 64 < length word / 2) → sized (hex_bytes word) ≡ None
unfit word out = at (hex_bytes word) refl where
  at : (o : Option (List ℕ)) → hex_bytes word ≡ o → sized o ≡ None
  at None e = refl
  at (Some bytes) e = let n = length_read word bytes e in let more : 64 < length word / 2 = out (omega arith) in unsized bytes (λ a b. omega arith)
