-- A new pool.
use Rattle.std.proofs.Common.{◌≡◌, ◌≢◌, ℕ, zero, suc, ◌<◌, ◌≤◌, true, false, List, ◌∷◌, length, map, get_or, replicate, refl, ap, ◌∙◌, arith, ◌==◌, ne_eqb, set, None, inl, inr}
use Rattle.std.proofs.lemmas.List.{length-replicate, get_or-set_other, get_or-set_same}
use Rattle.neph_pool.specs.Frames.{PlainFrame, blank_frame, frame_at}
use Rattle.neph_pool.specs.Entries.{entry_count}
use Rattle.neph_pool.proofs.Rows.{count_cons, same_or_not}
use Rattle.neph_pool.specs.Rows.{row_entries, entry_of, row_of, blank_entry, total_at}
use Rattle.neph_pool.specs.Plain.{IsStart}
use Rattle.neph_pool.proofs.Tables.{count_nothing}

kept_blank : entry_of 0 blank_frame ≡ blank_entry
unfolding entry_of blank_entry
kept_blank = refl

else_blank : (r : ℕ) → r ≢ 0 → entry_of r blank_frame ≡ None
unfolding entry_of
else_blank r n = rw (ne_eqb r 0 n) refl

all_same : {X : Type 0} (g : PlainFrame → X) (n : ℕ) (v : X) → g blank_frame ≡ v → map g (replicate n blank_frame) ≡ replicate n v
all_same g zero v e = refl
all_same {X} g (suc n) v e = ap (λ (y : X). y ∷ map g (replicate n blank_frame)) e ∙ ap (λ (ys : List X). v ∷ ys) (all_same g n v e)

full_start : (n f : ℕ) → f < n → frame_at (replicate n blank_frame) f ≡ blank_frame
full_start zero f h = absurd (omega arith)
full_start (suc n) zero h = refl
full_start (suc n) (suc f) h = full_start n f (omega arith)

count_all : (n : ℕ) → entry_count (replicate n blank_entry) ≡ n
unfolding blank_entry
count_all zero = refl
count_all (suc n) = omega (arith, count_cons blank_entry (replicate n blank_entry), count_all n)

length_start : (n : ℕ) → length (replicate n blank_frame) ≡ n
length_start zero = refl
length_start (suc n) = ap suc (length_start n)

abbrev zeros : ℕ → List ℕ
zeros n = replicate n 0

length_zeros : (n : ℕ) → length (zeros n) ≡ n
length_zeros n = length-replicate {A = ℕ} n 0

zeros_at : (n k : ℕ) → get_or (zeros n) k 0 ≡ 0
zeros_at zero k = refl
zeros_at (suc n) zero = refl
zeros_at (suc n) (suc k) = zeros_at n k

held_start : (n r : ℕ) → get_or (set (zeros 64) 0 n) r 0 ≡ entry_count (row_entries r (replicate n blank_frame))
held_start n r = elim (same_or_not r 0) [
  | inl e ↦ rw (e, all_same (entry_of 0) n blank_entry kept_blank, count_all n) (get_or-set_same (zeros 64) 0 n 0 (rw (length_zeros 64) (omega arith)))
  | inr ne ↦ rw (all_same (entry_of r) n None (else_blank r ne), count_nothing n) (get_or-set_other (zeros 64) 0 r n 0 ne ∙ zeros_at 64 r)
]

zero_row : (n d : ℕ) → d < n → row_of (replicate n 0) d ≡ 0
zero_row zero d h = absurd (omega arith)
zero_row (suc n) zero h = refl
zero_row (suc n) (suc d) h = zero_row n d (omega arith)

all_names : (n d : ℕ) → get_or (replicate n true) d false ≡ (row_of (replicate n 0) d == 0)
all_names zero d = refl
all_names (suc n) zero = refl
all_names (suc n) (suc d) = all_names n d

true_at : (n d : ℕ) → d < n → get_or (replicate n true) d false ≡ true
true_at zero d h = absurd (omega arith)
true_at (suc n) zero h = refl
true_at (suc n) (suc d) h = true_at n d (omega arith)

zero_small : (n d : ℕ) → row_of (replicate n 0) d < 64 → row_of (replicate n 0) d ≡ 0
zero_small zero d h = absurd (omega arith)
zero_small (suc n) zero h = refl
zero_small (suc n) (suc d) h = zero_small n d h

settled_zero : (d : ℕ) → row_of (replicate 64 0) d < 64 → row_of (replicate 64 0) (row_of (replicate 64 0) d) ≡ row_of (replicate 64 0) d
settled_zero d h = rw (zero_small 64 d h) refl

-- all seats but that of row 0 have nothing
pub started : (n cap : ℕ) (xs : List PlainFrame) → n ≤ 16384 → xs ≡ replicate n blank_frame
    → IsStart n cap record { frames = xs; rows = replicate 64 0; held = set (zeros 64) 0 n; cap = cap; shares = 0 } record { row = 0; met = 0; names = replicate 64 true }
started n cap xs small is = rw is record {
  fits = record {
    kept = record {
      table = record { first = refl; small = λ d lt. rw (zero_row 64 d lt) (omega arith); settled = settled_zero };
      few = omega (arith, small, length_start n);
      full = λ f lt. rw (full_start n f (omega (arith, length_start n))) (length_zeros 512);
      held = λ r lt. held_start n r;
      capped = λ r ne. rw (all_same (entry_of r) n None (else_blank r ne), count_nothing n) (omega arith);
    };
    row = omega arith;
    named = refl;
    names = all_names 64;
  };
  names = true_at 64;
  entries = all_same (entry_of 0) n blank_entry kept_blank;
  met = refl;
  frames = length_start n;
  most = refl;
  shares = refl;
  counts = all_same total_at n 0 refl;
}
