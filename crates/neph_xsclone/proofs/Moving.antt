-- Paths that are moved, and the parts of texts.
use Rattle.std.proofs.Common.{◌≡◌, ℕ, Bool, true, false, cond, ◌&&◌, List, [], ◌∷◌, ◌++◌, length, take, drop, Option, Some, None, refl, sym, ap, ◌∙◌}
use Rattle.std.specs.Prelude.{nat_eq, ◌==◌}
use Rattle.std.specs.List.{position_or_len}
use Rattle.std.specs.Option.{option_map}
use Rattle.std.specs.Cmp.Lexicographic.{pointwise}
use Rattle.std.proofs.Math.Dec.{ltb}
use Rattle.std.proofs.lemmas.Bool.{ltb-false}
use Rattle.std.proofs.lemmas.List.{take_all}
use Rattle.neph_base.specs.Path.{slash, is_component}
use Rattle.neph_tree.specs.Places.{behind}
use Rattle.neph_xsclone.specs.Rewriting.{moved, moved_or_same, kind_in, backends, backend, backend_in_clone}

pub moved_below : (from to path : List ℕ) (rest : Option (List ℕ)) → pointwise nat_eq path from ≡ false → rest ≡ behind (from ++ slash ∷ []) path → option_map (λ r. to ++ slash ∷ r) rest ≡ moved from to path
moved_below from to path rest apart is =
    ap (λ o. option_map (λ r. to ++ slash ∷ r) o) is ∙ ap (λ b. cond b (Some to) (option_map (λ r. to ++ slash ∷ r) (behind (from ++ slash ∷ []) path))) (sym apart)

pub pointwise_joined : (text front back : List ℕ) → pointwise nat_eq text (front ++ back) ≡ (pointwise nat_eq (take (length front) text) front && pointwise nat_eq (drop (length front) text) back)
pointwise_joined text [] back = refl
pointwise_joined [] (x ∷ front) back = refl
pointwise_joined (y ∷ text) (x ∷ front) back =
    elim (y == x) as (λ b. (b && pointwise nat_eq text (front ++ back)) ≡ ((b && pointwise nat_eq (take (length front) text) front) && pointwise nat_eq (drop (length front) text) back)) [
      | true ↦ pointwise_joined text front back
      | false ↦ refl
    ]

pub first_part : (text : List ℕ) (at : ℕ) → Some at ≡ cond (ltb (position_or_len (λ b. b == slash) text) (length text)) (Some (position_or_len (λ b. b == slash) text)) None → take at text ≡ kind_in text
first_part text at e = by (ltb (position_or_len (λ b. b == slash) text) (length text)) e where
  by : (b : Bool) → Some at ≡ cond b (Some (position_or_len (λ b. b == slash) text)) None → take at text ≡ kind_in text
  by true s = let same : at ≡ position_or_len (λ b. b == slash) text = cc in ap (λ k. take k text) same
  by false s = absurd cc

pub only_part : (text : List ℕ) → None ≡ cond (ltb (position_or_len (λ b. b == slash) text) (length text)) (Some (position_or_len (λ b. b == slash) text)) None → text ≡ kind_in text
only_part text e = by (ltb (position_or_len (λ b. b == slash) text) (length text)) refl e where
  by : (b : Bool) → ltb (position_or_len (λ b. b == slash) text) (length text) ≡ b → None ≡ cond b (Some (position_or_len (λ b. b == slash) text)) None → text ≡ kind_in text
  by true t s = absurd cc
  by false t s = sym (take_all _ text (ltb-false _ _ t))

pub backend_none : (parent child : ℕ) (value : List ℕ) → behind backends value ≡ None → value ≡ backend_in_clone parent child (behind backends value) value
backend_none parent child value e = ap (λ o. backend_in_clone parent child o value) (sym e)

pub backend_other : (parent child : ℕ) (value text kind : List ℕ) → behind backends value ≡ Some text → kind ≡ kind_in text → is_component kind ≡ false → value ≡ backend_in_clone parent child (behind backends value) value
backend_other parent child value text kind e is none =
    ap (λ b. cond b (moved_or_same (backend (kind_in text) parent) (backend (kind_in text) child) value) value) (sym (ap is_component (sym is) ∙ none)) ∙ ap (λ o. backend_in_clone parent child o value) (sym e)

pub backend_moved : (parent child : ℕ) (value text kind : List ℕ) → behind backends value ≡ Some text → kind ≡ kind_in text → is_component kind ≡ true
    → moved_or_same (backend kind parent) (backend kind child) value ≡ backend_in_clone parent child (behind backends value) value
backend_moved parent child value text kind e is one =
    ap (λ k. moved_or_same (backend k parent) (backend k child) value) is
    ∙ ap (λ b. cond b (moved_or_same (backend (kind_in text) parent) (backend (kind_in text) child) value) value) (sym (ap is_component (sym is) ∙ one)) ∙ ap (λ o. backend_in_clone parent child o value) (sym e)
