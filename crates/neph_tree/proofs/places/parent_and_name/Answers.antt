use Rattle.std.proofs.Common.{◌≡◌, ◌+◌, ◌-◌, ℕ, List, length, take, drop, sym, ap, subst, arith, length-drop}
use Rattle.std.specs.Prelude.{max}
use Rattle.std.proofs.lemmas.List.{take_all}
use Rattle.neph_tree.specs.Places.{IsChild}
use Rattle.neph_tree.proofs.ChildLemmas.{split_child}
use Rattle.neph_tree.proofs.places.parent_and_name.Goals as goal

pub returns-clause-some : goal.returns-clause-some
returns-clause-some c = λ is.
    let path = c.args.path.now in
    let end = c.in_ok-end.end in
    let child = split_child path end is (λ same. c.if-path-eq1.false (ap (λ l. length l) same)) c.in_ok-end.ensures.some in
    let front : take (max end 1) path ≡ take c.max.result path = ap (λ k. take k path) (sym c.max.ensures) in
    let back : drop (end + 1) path ≡ take (length path - (end + 1)) (drop (end + 1) path) = sym (take_all (length path - (end + 1)) (drop (end + 1) path) (omega (arith, length-drop (end + 1) path))) in
    let D : List ℕ → Type 0 = λ d. IsChild path d (drop (end + 1) path) in
    let N : List ℕ → Type 0 = λ n. IsChild path (take c.max.result path) n in
    subst N back (subst D front child)
