-- Free-running indexes and what lies between them.
use Rattle.std.proofs.Common.{◌≡◌, ◌≢◌, ◌+◌, ◌*◌, ◌%◌, ◌^◌, ◌<◌, ◌≤◌, ℕ, suc, arith, ⊎_elim}
use Rattle.std.proofs.lemmas.Bool.{cases_lt}
use Rattle.neph_ring.specs.Indexes.{count_between, index_after}

-- the producer is the consumer and what lies between, round the end of the numbers
pub ahead : (c p u : ℕ) → c < 2 ^ 32 → p < 2 ^ 32 → count_between c p ≡ u → (w : ℕ) × ((w ≤ 1) × (c + u ≡ p + 2 ^ 32 * w))
ahead c p u hc hp e = ⊎_elim
    (λ (low : p < c). (1, (omega arith, omega arith)))
    (λ (high : c ≤ p). (0, (omega arith, omega arith)))
    (cases_lt p c)

pub count_put : (c p n : ℕ) → c < 2 ^ 32 → p < 2 ^ 32 → count_between c p + n < 2 ^ 32 → count_between c (index_after p n) ≡ count_between c p + n
count_put c p n hc hp fit = omega arith

pub count_taken : (c p : ℕ) → c < 2 ^ 32 → p < 2 ^ 32 → 0 < count_between c p → count_between c p ≡ 1 + count_between (index_after c 1) p
count_taken c p hc hp some = omega arith

pub count_none : (p : ℕ) → p < 2 ^ 32 → count_between p p ≡ 0
count_none p h = omega arith

-- places of a ring of 2048
pub same_2048 : (c p u k j : ℕ) → c < 2 ^ 32 → p < 2 ^ 32 → count_between c p ≡ u → k ≡ u + j → (c + k) % 2048 ≡ (p + j) % 2048
same_2048 c p u k j hc hp e h = let a = ahead c p u hc hp e in let w : ℕ = a.0 in let i : w ≤ 1 = a.1.0 in let f : c + u ≡ p + 2 ^ 32 * w = a.1.1 in omega arith

pub other_2048 : (c p u k j n : ℕ) → c < 2 ^ 32 → p < 2 ^ 32 → count_between c p ≡ u → u + n ≤ 2048 → k < u → j < n → (c + k) % 2048 ≢ (p + j) % 2048
other_2048 c p u k j n hc hp e fit lk lj same = let a = ahead c p u hc hp e in let w : ℕ = a.0 in let i : w ≤ 1 = a.1.0 in let f : c + u ≡ p + 2 ^ 32 * w = a.1.1 in omega arith

-- places of a ring of 16
pub same_16 : (c p u k j : ℕ) → c < 2 ^ 32 → p < 2 ^ 32 → count_between c p ≡ u → k ≡ u + j → (c + k) % 16 ≡ (p + j) % 16
same_16 c p u k j hc hp e h = let a = ahead c p u hc hp e in let w : ℕ = a.0 in let i : w ≤ 1 = a.1.0 in let f : c + u ≡ p + 2 ^ 32 * w = a.1.1 in omega arith

pub other_16 : (c p u k : ℕ) → c < 2 ^ 32 → p < 2 ^ 32 → count_between c p ≡ u → u < 16 → k < u → (c + k) % 16 ≢ p % 16
other_16 c p u k hc hp e fit lk same = let a = ahead c p u hc hp e in let w : ℕ = a.0 in let i : w ≤ 1 = a.1.0 in let f : c + u ≡ p + 2 ^ 32 * w = a.1.1 in omega arith

pub next_16 : (c k : ℕ) → c < 2 ^ 32 → (index_after c 1 + k) % 16 ≡ (c + suc k) % 16
next_16 c k h = omega arith
