-- The words of a frame as bytes, little-endian.
use Rattle.std.specs.Prelude.{ℕ, ◌+◌, List, [], ◌∷◌, ◌++◌, length, take, drop}
use Rattle.std.specs.Int.{w64, to_le_bytes}
use Rattle.std.specs.declared.option.Option.{Option}
use Rattle.neph_pool.specs.declared.entry.Entry.{Entry}
use Rattle.neph_pool.specs.Entries.{words_at}

-- the bytes of these words
unfoldable pub bytes_of : List ℕ → List ℕ
bytes_of [] = []
bytes_of (w ∷ ws) = to_le_bytes w64 w ++ bytes_of ws

-- the bytes of a frame, as a seat sees them
abbrev pub bytes_at : List (Option Entry) → ℕ → List ℕ
bytes_at es f = bytes_of (words_at es f)

-- a page with these bytes from an offset on
abbrev pub with_bytes : List ℕ → ℕ → List ℕ → List ℕ
with_bytes page at bytes = take at page ++ bytes ++ drop (at + length bytes) page
