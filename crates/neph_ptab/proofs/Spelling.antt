-- An entry's word is read back as what it was written for.
use Rattle.std.proofs.Common.{◌≡◌, ◌+◌, ◌*◌, ◌/◌, ◌%◌, ◌^◌, ◌<◌, ◌≤◌, ℕ, Bool, true, false, Some, None, refl, arith, ◌==◌}
use Rattle.std.specs.declared.option.Option.{Option}
use Rattle.neph_ptab.specs.declared.walk.Walk.{Walk}
use Rattle.neph_ptab.specs.declared.walk.Walk.TheVariants.{None as Unmapped, Local, Exposed}
use Rattle.neph_ptab.specs.Bits.{digit, leaf_in, root_word, walk_in, walk_word, InRange}

digit_le : (b : Bool) → digit b ≤ 1
digit_le true = omega arith
digit_le false = omega arith

digit_back : (b : Bool) → (digit b == 1) ≡ b
digit_back true = refl
digit_back false = refl

-- the four parts of a word
module _ (p a b e f : ℕ) (word : ℕ) (is : word ≡ p + 2 * a + 512 * b + 1024 * e + 4096 * f) (hp : p ≤ 1) (ha : a ≤ 1) (hb : b ≤ 1) (he : e ≤ 1) (hf : f < 16384) where
  bit_0 : word / 2 ^ 0 % 2 ≡ p
  bit_0 = omega arith

  bit_1 : word / 2 ^ 1 % 2 ≡ a
  bit_1 = omega arith

  bit_9 : word / 2 ^ 9 % 2 ≡ b
  bit_9 = omega arith

  bit_10 : word / 2 ^ 10 % 2 ≡ e
  bit_10 = omega arith

  number : word / 2 ^ 12 % 2 ^ 40 ≡ f
  number = omega arith

pub leaf_back : (o : Option ℕ) → ((f : ℕ) → o ≡ Some f → f < 16384) → leaf_in (root_word o) ≡ o
leaf_back None h = refl
leaf_back (Some f) h =
    let word : ℕ = root_word (Some f) in
    let is : word ≡ 1 + 2 * 1 + 512 * 0 + 1024 * 0 + 4096 * f = omega arith in
    let lt : f < 16384 = h f refl in
    let zero' : word / 2 ^ 0 % 2 ≡ 1 = bit_0 1 1 0 0 f word is (omega arith) (omega arith) (omega arith) (omega arith) lt in
    let n : word / 2 ^ 12 % 2 ^ 40 ≡ f = number 1 1 0 0 f word is (omega arith) (omega arith) (omega arith) (omega arith) lt in
    rw (zero', n) refl

pub walk_back : (w : Walk) → InRange w → walk_in (walk_word w) ≡ w
walk_back Unmapped h = refl
walk_back (Local f rw' shared) h =
    let word : ℕ = walk_word (Local f rw' shared) in
    let a : ℕ = digit rw' in
    let b : ℕ = digit shared in
    let la = digit_le rw' in
    let lb = digit_le shared in
    let is : word ≡ 1 + 2 * a + 512 * b + 1024 * 0 + 4096 * f = omega arith in
    let z : word / 2 ^ 0 % 2 ≡ 1 = bit_0 1 a b 0 f word is (omega arith) la lb (omega arith) h in
    let o : word / 2 ^ 1 % 2 ≡ a = bit_1 1 a b 0 f word is (omega arith) la lb (omega arith) h in
    let s : word / 2 ^ 9 % 2 ≡ b = bit_9 1 a b 0 f word is (omega arith) la lb (omega arith) h in
    let n : word / 2 ^ 12 % 2 ^ 40 ≡ f = number 1 a b 0 f word is (omega arith) la lb (omega arith) h in
    rw (z, o, s, n, digit_back rw', digit_back shared) refl
walk_back (Exposed p rw') h =
    let word : ℕ = walk_word (Exposed p rw') in
    let b : ℕ = digit rw' in
    let lb = digit_le rw' in
    let lt : p < 16384 = omega arith in
    let is : word ≡ 0 + 2 * 0 + 512 * b + 1024 * 1 + 4096 * p = omega arith in
    let z : word / 2 ^ 0 % 2 ≡ 0 = bit_0 0 0 b 1 p word is (omega arith) (omega arith) lb (omega arith) lt in
    let t : word / 2 ^ 10 % 2 ≡ 1 = bit_10 0 0 b 1 p word is (omega arith) (omega arith) lb (omega arith) lt in
    let s : word / 2 ^ 9 % 2 ≡ b = bit_9 0 0 b 1 p word is (omega arith) (omega arith) lb (omega arith) lt in
    let n : word / 2 ^ 12 % 2 ^ 40 ≡ p = number 0 0 b 1 p word is (omega arith) (omega arith) lb (omega arith) lt in
    rw (z, t, s, n, digit_back rw') refl
