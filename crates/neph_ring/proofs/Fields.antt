-- Numbers in a list of bytes.
use Rattle.std.proofs.Common.{◌≡◌, ◌+◌, ◌^◌, ◌<◌, ◌≤◌, ℕ, List, [], ◌++◌, length, take, refl, ap, ◌∙◌, arith}
use Rattle.byteorder.specs.Endian.{little_number, little_bytes}
use Rattle.byteorder.specs.Numbers.{little_number-reads_back}
use Rattle.std.proofs.lemmas.List.{take_at, drop_at, take_all}
use Rattle.neph_ring.specs.Bytes.{span, u32_at, u16_at, with_u32}
use Rattle.neph_ring.proofs.Spans.{span_within}

pub back_32 : (n : ℕ) → n < 2 ^ 32 → little_number 4 (little_bytes 4 n) ≡ n
back_32 n h = little_number-reads_back 4 n [] h

pub back_16 : (n : ℕ) → n < 2 ^ 16 → little_number 2 (little_bytes 2 n) ≡ n
back_16 n h = little_number-reads_back 2 n [] h

-- equal parts have equal numbers
pub u32_same : (xs ys : List ℕ) (i j : ℕ) → span xs i 4 ≡ span ys j 4 → u32_at xs i ≡ u32_at ys j
unfolding u32_at
u32_same xs ys i j h = ap (little_number 4) h

pub u32_from : (xs : List ℕ) (i n : ℕ) → span xs i 4 ≡ little_bytes 4 n → n < 2 ^ 32 → u32_at xs i ≡ n
unfolding u32_at
u32_from xs i n h lt = ap (little_number 4) h ∙ back_32 n lt

pub u16_from : (xs : List ℕ) (i n : ℕ) → span xs i 2 ≡ little_bytes 2 n → n < 2 ^ 16 → u16_at xs i ≡ n
unfolding u16_at
u16_from xs i n h lt = ap (little_number 2) h ∙ back_16 n lt

-- the front of a list, a part in its middle and its end
pub span_front : (ys zs : List ℕ) (n : ℕ) → length ys ≡ n → span (ys ++ zs) 0 n ≡ ys
unfolding span
span_front ys zs n e = take_at ys zs n e

pub span_middle : (xs ys zs : List ℕ) (j n : ℕ) → length xs ≡ j → length ys ≡ n → span (xs ++ (ys ++ zs)) j n ≡ ys
unfolding span
span_middle xs ys zs j n e f = ap (take n) (drop_at xs (ys ++ zs) j e) ∙ take_at ys zs n f

pub span_end : (xs ys : List ℕ) (j n : ℕ) → length xs ≡ j → length ys ≡ n → span (xs ++ ys) j n ≡ ys
unfolding span
span_end xs ys j n e f = ap (take n) (drop_at xs ys j e) ∙ take_all n ys (omega arith)

pub span_whole : (ys : List ℕ) (n : ℕ) → length ys ≡ n → span ys 0 n ≡ ys
unfolding span
span_whole ys n e = take_all n ys (omega arith)

-- a number that was put
pub u32_put : (xs : List ℕ) (at n : ℕ) → at + 4 ≤ length xs → n < 2 ^ 32 → u32_at (with_u32 xs at n) at ≡ n
u32_put xs at n fit lt =
    u32_from (with_u32 xs at n) at n (span_within xs at (little_bytes 4 n) at 0 4 (omega arith) fit (omega arith) ∙ span_whole (little_bytes 4 n) 4 refl) lt
