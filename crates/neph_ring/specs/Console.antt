-- The output ring of the console page, as a queue of bytes.
use Rattle.std.specs.Prelude.{◌+◌, ◌%◌, ◌≤◌, ℕ, List, [], ◌∷◌, length, map, slice_index, slice_set}
use Rattle.std.specs.List.{range_with_len}
use Rattle.neph_ring.specs.declared.layout.TheConstants.{XENCONS_OUT, XENCONS_OUT_SIZE, XENCONS_OUT_CONS, XENCONS_OUT_PROD}
use Rattle.neph_ring.specs.Bytes.{u32_at, with_u32}
use Rattle.neph_ring.specs.Indexes.{count_between, index_after}

-- the consumer's index
abbrev pub out_cons : List ℕ → ℕ
out_cons page = u32_at page XENCONS_OUT_CONS

-- the producer's index
abbrev pub out_prod : List ℕ → ℕ
out_prod page = u32_at page XENCONS_OUT_PROD

-- where the byte of an index stands: the index is masked by the ring's size
abbrev pub out_place : ℕ → ℕ
out_place i = XENCONS_OUT + i % XENCONS_OUT_SIZE

-- the ring's bytes of the n indexes from i on
unfoldable pub ring_bytes : List ℕ → ℕ → ℕ → List ℕ
ring_bytes page i n = map (λ k. slice_index page (out_place (i + k))) (range_with_len 0 n)

-- how many bytes wait
abbrev pub out_count : List ℕ → ℕ
out_count page = count_between (out_cons page) (out_prod page)

-- the bytes that wait, oldest first
abbrev pub out_queue : List ℕ → List ℕ
out_queue page = ring_bytes page (out_cons page) (out_count page)

-- no more bytes wait than the ring has
abbrev pub IsConsole : List ℕ → Type 0
IsConsole page = out_count page ≤ XENCONS_OUT_SIZE

-- the page with these bytes in the ring, one for each index from i on
unfoldable pub with_ring : List ℕ → ℕ → List ℕ → List ℕ
with_ring page i [] = page
with_ring page i (b ∷ bs) = with_ring (slice_set page (out_place i) b) (i + 1) bs

-- the page with these bytes behind those that wait
abbrev pub with_output : List ℕ → List ℕ → List ℕ
with_output page bytes =
    let filled = with_ring page (out_prod page) bytes in
    with_u32 filled XENCONS_OUT_PROD (index_after (out_prod page) (length bytes))

-- the page with no byte that waits; only the consumer's index moves
abbrev pub without_output : List ℕ → List ℕ
without_output page = with_u32 page XENCONS_OUT_CONS (out_prod page)
