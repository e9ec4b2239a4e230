-- The bytes of a page, and its words.
use Rattle.std.specs.Prelude.{◌+◌, ◌++◌, ℕ, List, [], ◌∷◌, length, take, drop}
use Rattle.std.specs.Int.{w64, to_le_bytes}
use Rattle.byteorder.specs.Endian.{little_number, little_bytes}

-- the bytes of these words: eight for each, the lowest first
unfoldable pub bytes_of_words : List ℕ → List ℕ
bytes_of_words [] = []
bytes_of_words (w ∷ ws) = to_le_bytes w64 w ++ bytes_of_words ws

-- the n bytes from a place on
unfoldable pub span : List ℕ → ℕ → ℕ → List ℕ
span xs at n = take n (drop at xs)

-- the bytes with others from a place on
unfoldable pub with_bytes : List ℕ → ℕ → List ℕ → List ℕ
with_bytes xs at ys = take at xs ++ (ys ++ drop (at + length ys) xs)

-- the 16-bit number at a place, little-endian
unfoldable pub u16_at : List ℕ → ℕ → ℕ
u16_at xs at = little_number 2 (span xs at 2)

-- the 32-bit number at a place, little-endian
unfoldable pub u32_at : List ℕ → ℕ → ℕ
u32_at xs at = little_number 4 (span xs at 4)

-- the bytes with another 32-bit number at a place
abbrev pub with_u32 : List ℕ → ℕ → ℕ → List ℕ
with_u32 xs at n = with_bytes xs at (little_bytes 4 n)
