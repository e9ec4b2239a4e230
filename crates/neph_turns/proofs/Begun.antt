-- The names behind the begin of a clone.
use Rattle.std.proofs.Common.{◌≡◌, ◌≢◌, ℕ, Bool, true, false, ◌||◌, refl, ap, ◌∙◌}
use Rattle.std.specs.Prelude.{◌&&◌, not}
use Rattle.std.proofs.lemmas.Bool.{eq-eqb, ne_eqb}
use Rattle.neph_pool.specs.Names.{only_name, both_names, without_name}
use Rattle.neph_pool.specs.World.{World, Spares}
use Rattle.neph_heap.proofs.Heaps.{spares_widen}

pub name_gone : (ns : ℕ → Bool) (d : ℕ) → without_name ns d d ≡ false
name_gone ns d = ap (λ (b : Bool). ns d && not b) (eq-eqb d d refl) ∙ and_false (ns d) where
  and_false : (a : Bool) → (a && false) ≡ false
  and_false true = refl
  and_false false = refl

pub name_kept : (ns : ℕ → Bool) (d j : ℕ) → j ≢ d → without_name ns d j ≡ ns j
name_kept ns d j far = ap (λ (b : Bool). ns j && not b) (ne_eqb j d far) ∙ and_true (ns j) where
  and_true : (a : Bool) → (a && true) ≡ a
  and_true true = refl
  and_true false = refl

-- what spares all seats but two spares all but these and another
pub spares_third : {Pool Seat : Type 0} (W : World Pool Seat) (ns : ℕ → Bool) (i j : ℕ) (p q : Pool) → Spares W (both_names ns (only_name i)) p q → Spares W (both_names ns (both_names (only_name i) (only_name j))) p q
spares_third W ns i j p q s = spares_widen W (both_names ns (both_names (only_name i) (only_name j))) (both_names ns (only_name i)) p q (λ d e. more (ns d) (only_name i d) (only_name j d) e) s where
  more : (a b c : Bool) → (a || b) ≡ true → (a || (b || c)) ≡ true
  more true b c e = refl
  more false true c e = refl
  more false false c e = absurd cc
