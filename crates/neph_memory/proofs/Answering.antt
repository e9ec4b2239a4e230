-- The answer of a call that maps a page.
use Rattle.std.proofs.Common.{◌≡◌, ◌==◌, ◌<◌, ◌||◌, ℕ, Bool, true, false, nat_le, nat_lt, if◌then◌else◌, IsSome, IsTrue, Some, None, Result, Ok, Err, refl, sym, ◌∙◌, arith}
use Rattle.std.proofs.lemmas.Bool.{leb-false}
use Rattle.std.specs.declared.option.Option.{Option}
use Rattle.neph_base.specs.declared.command.Mode.{Mode}
use Rattle.neph_base.specs.declared.command.Mode.TheVariants.{Ro, Rw}
use Rattle.std.specs.Result.{IsErrAnd}
use Rattle.neph_memory.specs.declared.fault.MapFault.{MapFault}
use Rattle.neph_memory.specs.declared.fault.MapFault.TheVariants.{BadPfn, NeedSpare, NoMemory}
use Rattle.neph_memory.proofs.Relisting.{same_eqb}
use Rattle.neph_memory.specs.Mapped.{is_bad_page, IsTried, IsMapAnswer, leaf_after_map, spare_after_map}

or_left : (a b : Bool) → (a || b) ≡ false → a ≡ false
or_left true b e = absurd (cc)
or_left false b e = refl

past_by : (count p : ℕ) (m : Mode) → is_bad_page count p m ≡ false → nat_le count p ≡ false
past_by count p Ro e = e
past_by count p Rw e = or_left (nat_le count p) (nat_lt p 4) e

not_past : (count p : ℕ) → nat_le count p ≡ false → p < count
not_past count p e = let k = leb-false count p e in omega (arith, k)

-- a page that isn't bad is there
pub page_there : (count p : ℕ) (m : Mode) → is_bad_page count p m ≡ false → p < count
page_there count p m e = not_past count p (past_by count p m e)

pub answer_tried : (bad : Bool) (leaf spare : Option ℕ) (r : Result Unit MapFault) → bad ≡ false → (leaf ≡ None → IsSome spare) → IsTried r → IsMapAnswer bad leaf spare r
answer_tried true leaf spare r e h t = absurd (cc)
answer_tried false None None r e h t = absurd (let k : false ≡ true = h refl in cc)
answer_tried false None (Some f) r e h t = t
answer_tried false (Some x) spare r e h t = t

pub some_not_none : (x : Option ℕ) → (x ≡ None → ⊥) → IsSome x
some_not_none None h = absurd (h refl)
some_not_none (Some f) h = refl

pub some_leaf : (x spare : Option ℕ) → IsSome x → leaf_after_map x spare ≡ x
some_leaf None spare h = absurd (cc)
some_leaf (Some f) spare h = refl

pub some_spare : (x spare : Option ℕ) → IsSome x → spare_after_map x spare ≡ spare
some_spare None spare h = absurd (cc)
some_spare (Some f) spare h = refl

pub spent_leaf : (x spare : Option ℕ) (f : ℕ) → x ≡ None → spare ≡ Some f → Some f ≡ leaf_after_map x spare
spent_leaf None spare f e s = sym s
spent_leaf (Some y) spare f e s = absurd (cc)

not_false : true ≡ false → ⊥
not_false e = cc

-- a leaf that isn't missing is there
pub leaf_there : (b : Bool) (x : Option ℕ) → b ≡ false → (x ≡ None → IsTrue b) → IsSome x
leaf_there true x e h = absurd (not_false e)
leaf_there false None e h = absurd (not_false (sym (h refl)))
leaf_there false (Some f) e h = refl

pub no_leaf : (x : Option ℕ) → x ≡ None → IsSome x → ⊥
no_leaf None e h = cc
no_leaf (Some f) e h = cc

-- the leaf tables after it, where none was missing
pub leaf_same : (i j : ℕ) (x y spare : Option ℕ) → (i ≡ j → IsSome y) → x ≡ y → x ≡ (if i == j then leaf_after_map y spare else y)
leaf_same i j x y spare h e = e ∙ by_case (i == j) refl where
  by_case : (b : Bool) → (i == j) ≡ b → y ≡ (if b then leaf_after_map y spare else y)
  by_case true k = sym (some_leaf y spare (h (same_eqb i j k)))
  by_case false k = refl

-- the same where the spare became one
pub leaf_spent : (i j f : ℕ) (x y z spare : Option ℕ) → x ≡ (if i == j then Some f else z) → z ≡ y → (i ≡ j → z ≡ None) → spare ≡ Some f → x ≡ (if i == j then leaf_after_map y spare else y)
leaf_spent i j f x y z spare e same none s = e ∙ by_case (i == j) refl where
  by_case : (b : Bool) → (i == j) ≡ b → (if b then Some f else z) ≡ (if b then leaf_after_map y spare else y)
  by_case true k = spent_leaf y spare f (sym same ∙ none (same_eqb i j k)) s
  by_case false k = same

not_memory : BadPfn ≡ NoMemory → ⊥
not_memory e = cc

not_memory_either : NeedSpare ≡ NoMemory → ⊥
not_memory_either e = cc

pub no_memory : (r : Result Unit MapFault) → IsErrAnd r (λ e. e ≡ NoMemory) → IsTried r
no_memory (Ok x) h = tt
no_memory (Err BadPfn) h = absurd (not_memory h)
no_memory (Err NeedSpare) h = absurd (not_memory_either h)
no_memory (Err NoMemory) h = tt
