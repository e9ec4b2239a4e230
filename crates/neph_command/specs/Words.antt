-- What the words of a line say.
use Rattle.std.specs.Prelude.{ℕ, ◌+◌, ◌-◌, ◌*◌, Bool, ◌&&◌, ◌||◌, nat_lt, nat_le, if◌then◌else◌, List, [], ◌∷◌, length, codes, Option, None, Some, Result, Ok, Err, slice_index, find, nat_eq}
use Rattle.std.specs.List.{range_with_len, list_all}
use Rattle.std.specs.Option.{ok_or}
use Rattle.std.specs.Fmt.{decimal}
use Rattle.neph_base.specs.declared.command.Mode.{Mode}
use Rattle.neph_base.specs.declared.command.Mode.TheVariants.{Ro, Rw}
use Rattle.std.specs.Cmp.Lexicographic.{pointwise}
use Rattle.neph_command.specs.declared.why.Why.{Why}
use Rattle.neph_command.specs.declared.why.Why.TheVariants as why

-- these bytes are those
abbrev pub equals : List ℕ → List ℕ → Bool
equals a b = pointwise nat_eq a b

-- what was read, and then more, unless it can't stand
infixl 10 ◌>>=◌
abbrev pub ◌>>=◌ : {A B : Type 0} → Result A Why → (A → Result B Why) → Result B Why
(Ok x) >>= f = f x
(Err e) >>= f = Err e

-- the number from low to high whose plain decimal a word is
unfoldable pub number_in : ℕ → ℕ → List ℕ → Option ℕ
number_in low high word = find (λ n. equals word (decimal n)) (range_with_len low (high + 1 - low))

-- a word in the place of a number of this range
abbrev pub number : ℕ → ℕ → List ℕ → Result ℕ Why
number low high word = ok_or (number_in low high word) why.Number

-- the value of a hexadecimal digit in lower case
abbrev pub digit_value : ℕ → Option ℕ
digit_value b = if nat_le 48 b && nat_le b 57 then Some (b - 48)
    else (if nat_le 97 b && nat_le b 102 then Some (b - 87) else None)

-- a byte of two digits
abbrev pub byte_value : Option ℕ → Option ℕ → Option ℕ
byte_value (Some high) (Some low) = Some (16 * high + low)
byte_value _ _ = None

-- a byte in front of bytes
abbrev pub in_front : Option ℕ → Option (List ℕ) → Option (List ℕ)
in_front (Some b) (Some bytes) = Some (b ∷ bytes)
in_front _ _ = None

-- the bytes of a word of hexadecimal digits, two for each
unfoldable pub hex_bytes : List ℕ → Option (List ℕ)
hex_bytes [] = Some []
hex_bytes (x ∷ []) = None
hex_bytes (high ∷ low ∷ rest) =
    in_front (byte_value (digit_value high) (digit_value low)) (hex_bytes rest)

-- bytes that are 1 to 64
abbrev pub sized : Option (List ℕ) → Option (List ℕ)
sized None = None
sized (Some bytes) = if nat_lt 0 (length bytes) && nat_le (length bytes) 64 then Some bytes
    else None

-- a word in the place of 1 to 64 bytes
abbrev pub piece : List ℕ → Result (List ℕ) Why
piece word = ok_or (sized (hex_bytes word)) why.Hex

-- a to z
abbrev pub is_letter : ℕ → Bool
is_letter b = nat_le 97 b && nat_le b 122

-- 0 to 9
abbrev pub is_digit : ℕ → Bool
is_digit b = nat_le 48 b && nat_le b 57

-- a to z and 0 to 9
abbrev pub is_name_byte : ℕ → Bool
is_name_byte b = is_letter b || is_digit b

-- 1 to 16 letters and digits, the first a letter
abbrev pub is_name : List ℕ → Bool
is_name name = nat_lt 0 (length name) && nat_lt (length name) 17 && is_letter (slice_index name 0)
    && list_all is_name_byte name

-- a word in the place of a name
abbrev pub name : List ℕ → Result (List ℕ) Why
name word = if is_name word then Ok word else Err why.Name

-- a word in the place of `ro` or `rw`
abbrev pub mode : List ℕ → Result Mode Why
mode word = if equals word (codes "ro") then Ok Ro
    else (if equals word (codes "rw") then Ok Rw else Err why.Word)
