-- Free-running indexes of 32 bits.
use Rattle.std.specs.Prelude.{◌+◌, ◌-◌, ◌%◌, ◌^◌, ℕ}

-- how many places the producer is ahead of the consumer
abbrev pub count_between : ℕ → ℕ → ℕ
count_between cons prod = (prod + (2 ^ 32 - cons)) % 2 ^ 32

-- the index n places on
abbrev pub index_after : ℕ → ℕ → ℕ
index_after i n = (i + n) % 2 ^ 32
