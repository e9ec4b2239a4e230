-- The leaf tables of a parent, counted.
use Rattle.std.proofs.Common.{◌≡◌, ◌<◌, ◌≤◌, ◌+◌, ℕ, suc, false, List, is_some, Some, None, IsSome, refl, ap, subst, arith}
use Rattle.std.specs.Option.{SomeIff}
use Rattle.std.specs.declared.option.Option.{Option}
use Rattle.neph_pool.specs.declared.entry.Entry.{Entry}
use Rattle.neph_ptab.specs.Tables.{leaf_at}
use Rattle.neph_memory.specs.Memory.{leaf_count_below, leaf_count}
use Rattle.neph_memory.proofs.Rooming.{leaves_below}
use Rattle.neph_local.specs.Forks.{leaf_count_of}

pub none_is : (x : Option ℕ) → is_some x ≡ false → x ≡ None
none_is None e = refl
none_is (Some f) e = absurd (cc)

-- the leaf tables up to one, and all of them
none_below : (es : List (Option Entry)) (root : ℕ) → leaf_count_below es root 0 ≡ 0
unfolding leaf_count_below
none_below es root = refl

pub leaf_count_start : (es : List (Option Entry)) (root n : ℕ) → n ≡ leaf_count es root → n + leaf_count_below es root 0 ≡ leaf_count es root
leaf_count_start es root n e = let z : leaf_count_below es root 0 ≡ 0 = none_below es root in omega (arith, e, z)

pub leaf_count_next : (es : List (Option Entry)) (root i : ℕ) → leaf_count_below es root (i + 1) ≡ leaf_count_of (leaf_at es root i) + leaf_count_below es root i
unfolding leaf_count_below
leaf_count_next es root i = let e : i + 1 ≡ suc i = omega arith in ap (leaf_count_below es root) e

pub leaf_count_step : (es : List (Option Entry)) (root i : ℕ) → i < 512 → leaf_count_of (leaf_at es root i) + leaf_count_below es root i ≤ leaf_count es root
unfolding leaf_count_below
leaf_count_step es root i lt = leaves_below es root (suc i) 512 (omega (arith, lt))

pub leaf_count_end : (es : List (Option Entry)) (root i n : ℕ) → i ≡ 512 → n + leaf_count_below es root i ≡ leaf_count es root → n ≡ 0
leaf_count_end es root i n e h =
    let all : n + leaf_count es root ≡ leaf_count es root = subst (λ (k : ℕ). n + leaf_count_below es root k ≡ leaf_count es root) e h in
    omega (arith, all)

pub some_given : (r : Option ℕ) (A : Type 0) (n : ℕ) → SomeIff r A n → A → IsSome r
some_given None A n h a = absurd (h a)
some_given (Some x) A n h a = refl

-- small facts of numbers
pub meets_end : (i n : ℕ) → i ≤ n → n ≤ i → i ≡ n
meets_end i n a b = omega arith

pub one_later : (a b : ℕ) → a ≡ b + 1 → 1 ≤ a
one_later a b e = omega (arith, e)

pub still_enough : (a b m n : ℕ) → a ≡ b → m ≡ n → b ≡ n + 2 → a ≡ m + 2
still_enough a b m n e h k = omega (arith, e, h, k)
