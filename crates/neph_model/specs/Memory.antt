-- Pages as lists of bytes.
use Rattle.std.specs.Prelude.{ℕ, ◌+◌, List, ◌++◌, length, take, drop, replicate}
use Rattle.std.specs.Int.{w32, to_le_bytes}

-- a page with these bytes at this offset
abbrev pub page_with_bytes : List ℕ → ℕ → List ℕ → List ℕ
page_with_bytes page at bytes = take at page ++ bytes ++ drop (at + length bytes) page

-- a page of 4096 zeros
unfoldable pub zero_page : List ℕ
zero_page = replicate 4096 0

-- A page that begins with the numbers of an identity page, of four bytes each, little-endian: own
-- id, parent's id, number of pages.
abbrev pub page_with_identity : List ℕ → ℕ → ℕ → ℕ → List ℕ
page_with_identity page id parent pages =
    page_with_bytes (page_with_bytes (page_with_bytes page 0 (to_le_bytes w32 id)) 4
    (to_le_bytes w32 parent)) 8 (to_le_bytes w32 pages)

-- the network page of a child: its transmit slots and their indexes are zero
unfoldable pub child_network_page : List ℕ → List ℕ
child_network_page page = page_with_bytes (page_with_bytes page 0 (replicate 1152 0)) 2304
    (replicate 8 0)
