-- The words of an empty table.
use Rattle.std.proofs.Common.{◌≡◌, ℕ, zero, suc, List, get_or, replicate, refl}
use Rattle.neph_ptab.specs.Tables.{zero_words}

abbrev zeros : ℕ → List ℕ
zeros n = replicate n 0

zero_in : (n w : ℕ) → get_or (zeros n) w 0 ≡ 0
zero_in zero w = refl
zero_in (suc n) zero = refl
zero_in (suc n) (suc w) = zero_in n w

pub zero_at : (w : ℕ) → get_or zero_words w 0 ≡ 0
unfolding zero_words
zero_at w = zero_in 512 w
