-- Numbers below a bound that pass a test.
use Rattle.std.specs.Prelude.{ℕ, Bool, Option, find}
use Rattle.std.specs.List.{list_any, range_with_len}

-- some number below n passes the test
unfoldable pub some_below : ℕ → (ℕ → Bool) → Bool
some_below n test = list_any test (range_with_len 0 n)

-- the least number below n that passes the test
unfoldable pub least_below : ℕ → (ℕ → Bool) → Option ℕ
least_below n test = find test (range_with_len 0 n)
