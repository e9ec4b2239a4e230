-- What a write within a limit answers.
use Rattle.std.proofs.Common.{◌≡◌, ◌⊎◌, inl, inr, ℕ, true, false, cond, List, Some, None, sym, ap, ◌∙◌}
use Rattle.std.specs.Prelude.{not, Result, Ok, Err, IfErr, OnOk}
use Rattle.neph_tree.specs.Places.{is_within, home}
use Rattle.neph_tree.specs.Nodes.{Nodes, with_node}
use Rattle.neph_tree.specs.Refusals.{is_over, write_refusal}
use Rattle.neph_tree.specs.declared.refusals.WriteRefused.{WriteRefused}
use Rattle.neph_tree.specs.declared.refusals.WriteRefused.TheVariants.{NoMemory, NodeLimit, NotYours}

module _ (m : Nodes) (me : ℕ) (path value : List ℕ) (own : is_within (home me) path ≡ true) where
  by_limit : write_refusal m me path value ≡ cond (is_over (with_node m path value) (home me)) (Some NodeLimit) None
  by_limit = ap (λ b. cond (not b) (Some NotYours) (cond (is_over (with_node m path value) (home me)) (Some NodeLimit) None)) own

  over_same : (n : Nodes) (p v : List ℕ) → n ≡ m → p ≡ path → v ≡ value → is_over (with_node m path value) (home me) ≡ is_over (with_node n p v) (home me)
  over_same n p v old same is =
      ap (λ x. is_over (with_node x path value) (home me)) (sym old) ∙ ap (λ q. is_over (with_node n q value) (home me)) (sym same) ∙ ap (λ w. is_over (with_node n p w) (home me)) (sym is)

  pub write_allowed : (r : Result (Unit {0}) WriteRefused) (n : Nodes) (p v : List ℕ) → n ≡ m → p ≡ path → v ≡ value → OnOk r (is_over (with_node n p v) (home me) ≡ false) → OnOk r (write_refusal m me path value ≡ None)
  write_allowed (Ok x) n p v old same is h = by_limit ∙ ap (λ b. cond b (Some NodeLimit) None) (over_same n p v old same is ∙ h)
  write_allowed (Err e) n p v old same is h = tt

  pub write_why : (r : Result (Unit {0}) WriteRefused) (n : Nodes) (p v : List ℕ) → n ≡ m → p ≡ path → v ≡ value → IfErr r (λ why. (why ≡ NoMemory) ⊎ ((why ≡ NodeLimit) × (is_over (with_node n p v) (home me) ≡ true)))
      → IfErr r (λ why. (why ≡ NoMemory) ⊎ (write_refusal m me path value ≡ Some why))
  write_why (Ok x) n p v old same is h = tt
  write_why (Err e) n p v old same is h =
      elim h [
        | inl none ↦ inl none
        | inr over ↦ inr (by_limit ∙ ap (λ b. cond b (Some NodeLimit) None) (over_same n p v old same is ∙ over.1) ∙ ap Some (sym over.0))
      ]
