-- The frames of a seat that came from the heap, and of one that goes back to it.
use Rattle.std.proofs.Common.{◌≡◌, ◌<◌, ◌≤◌, ℕ, Bool, true, false, List, [], ◌∷◌, Some, None, refl, sym, subst, arith, inl, inr, if◌then◌else◌}
use Rattle.std.specs.declared.option.Option.{Option}
use Rattle.std.proofs.lemmas.Bool.{ltb-false}
use Rattle.std.specs.Prelude.{nat_le, nat_lt}
use Rattle.neph_base.specs.declared.reply.Refusal.TheVariants.{Limit, Ids, Frames}
use Rattle.neph_model.specs.declared.life.Life.{Life}
use Rattle.neph_model.specs.declared.life.Guest.{Guest}
use Rattle.neph_model.specs.declared.told.Told.TheVariants.{Free}
use Rattle.neph_model.specs.Machine.{Tables, life_at, guest_at}
use Rattle.neph_model.specs.Trap.{clone_refusal}
use Rattle.neph_pool.specs.declared.entry.Entry.{Entry}
use Rattle.neph_pool.specs.declared.entry.Hold.{Hold}
use Rattle.neph_pool.specs.declared.entry.Hold.TheVariants.{Zero, Sole, Counted}
use Rattle.neph_pool.specs.Entries.{hold_at, is_here, IsSoleAt}
use Rattle.neph_pool.specs.Handing.{is_among, AreDistinct}
use Rattle.neph_pool.proofs.Rows.{same_or_not}
use Rattle.neph_memory.specs.Building.{IsAmong}
use Rattle.neph_local.specs.Freed.{AreZero, Freed}
use Rattle.neph_heap.specs.Holds.{times, HasAt, Has}
use Rattle.neph_heap.proofs.Among.{among_times, times_among, none_times, distinct_of}
use Rattle.neph_heap.proofs.Counting.{times_cons, one_same, one_else}
use Rattle.neph_heap.proofs.Steps.{has_once, has_sole}
use Rattle.neph_rows.specs.Records.{Records}
use Rattle.neph_rows.specs.Row.{refusal_of}

at_here : (h : Option Hold) (o : ℕ) → HasAt h 0 o 0 → is_here h ≡ true → 0 < o
at_here None o x e = absurd (cc)
at_here (Some Zero) o x e = absurd (omega (arith, x.1))
at_here (Some Sole) o x e = omega (arith, x.0)
at_here (Some (Counted n)) o x e = absurd (omega (arith, x.1))

-- a seat that has these frames to itself and no other
pub filled_once : (es : List (Option Entry)) (xs : List ℕ) → Has es [] xs [] → AreDistinct xs
filled_once es xs has = distinct_of xs (λ f. omega (arith, has_once es [] xs [] has f))

pub filled_sole : (es : List (Option Entry)) (xs : List ℕ) → Has es [] xs [] → (f : ℕ) → IsAmong xs f → IsSoleAt es f
filled_sole es xs has f h = has_sole es [] xs [] has f (among_times f xs h)

pub filled_only : (es : List (Option Entry)) (xs : List ℕ) → Has es [] xs [] → (f : ℕ) → is_here (hold_at es f) ≡ true → IsAmong xs f
filled_only es xs has f e = times_among f xs (at_here (hold_at es f) (times f xs) (has.each f) e)

distinct_once : (xs : List ℕ) (f : ℕ) → AreDistinct xs → times f xs ≤ 1
distinct_once [] f d = omega arith
distinct_once (x ∷ xs) f d = elim (same_or_not x f) [
  | inl s ↦ let z : times f xs ≡ 0 = none_times f xs (subst (λ (k : ℕ). is_among k xs ≡ false) s d.0) in omega (arith, times_cons f x xs, one_same f x s, z)
  | inr n ↦ omega (arith, times_cons f x xs, one_else f x n, distinct_once xs f d.1)
]

kept_by : (h : Option Hold) (among : Bool) (n : ℕ) → (among ≡ true → h ≡ Some Zero) → (is_here h ≡ true → among ≡ true) → (among ≡ true → n ≡ 1) → (among ≡ false → n ≡ 0) → HasAt h 0 0 n
kept_by None true n kept here one none = absurd (let z : None ≡ Some Zero = kept refl in cc)
kept_by None false n kept here one none = omega (arith, none refl)
kept_by (Some h) false n kept here one none = absurd (let z : false ≡ true = here refl in cc)
kept_by (Some h) true n kept here one none = subst (λ (x : Option Hold). HasAt x 0 0 n) (sym (kept refl)) (refl, one refl)

-- a seat that keeps these frames, each listed once, and has no reference
pub has_freed : (es : List (Option Entry)) (xs : List ℕ) → AreZero es → Freed es xs → Has es [] [] xs
has_freed es xs zero freed = record {
  each = λ f. kept_by (hold_at es f) (is_among f xs) (times f xs) (λ h. (freed.zero f).0 h) (λ e. (freed.zero f).1 (zero f e))
      (λ h. omega (arith, among_times f xs h, distinct_once xs f freed.once)) (λ e. none_times f xs e);
}

if_open : (a b c : Bool) (n f : ℕ) → (if a then Some Limit else (if b then Some Ids else (if c then Some (Frames n f) else None))) ≡ None → c ≡ false
if_open true b c n f e = absurd (cc)
if_open false true c n f e = absurd (cc)
if_open false false true n f e = absurd (cc)
if_open false false false n f e = refl

open_by : (t : Tables) (g : Guest) (o : Option Life) (n f : ℕ) → clone_refusal t g o n (Free f) ≡ None → n ≤ f
open_by t g None n f e = absurd (cc)
open_by t g (Some life) n f e = ltb-false f n (if_open (nat_le life.limit g.accepted) (nat_le 64 t.next) (nat_lt f n) n f e)

-- a clone that isn't refused has the frames that it needs
pub open_enough : (r : Records) (id n f : ℕ) → refusal_of r id n (Free f) ≡ None → n ≤ f
open_enough r id n f e = open_by r.tables (guest_at id r.tables) (life_at id r.lives) n f e
