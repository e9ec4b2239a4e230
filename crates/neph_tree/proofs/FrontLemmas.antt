-- Each front that is made keeps the tree closed under parents.
use Rattle.std.proofs.Common.{◌≡◌, ℕ, zero, suc, ◌+◌, ◌<◌, true, cond, List, [], ◌∷◌, length, take, get_or, refl, sym, ap, ◌∙◌, subst, arith}
use Rattle.std.specs.FinMap.{insert}
use Rattle.neph_base.specs.Path.{slash, is_path}
use Rattle.neph_tree.specs.Places.{root}
use Rattle.neph_tree.specs.Nodes.{Nodes, IsTree, with_missing}
use Rattle.neph_tree.proofs.Within.{path_front}
use Rattle.neph_tree.proofs.GrowthLemmas.{made_before, path_text}
use Rattle.neph_tree.proofs.TreeLemmas.{missing_is, made_of_added, IsTree-with_made}

pub tree_root : (old : Nodes) → IsTree old → IsTree (with_missing old root)
tree_root old tree = IsTree-with_made old root [] tree refl

tree_front : (old : Nodes) (text : List ℕ) (i : ℕ) → IsTree old → is_path (slash ∷ text) ≡ true → i < length text → get_or text i 0 ≡ slash → IsTree (with_missing (made_before old text i) (slash ∷ take i text))
tree_front old [] i tree is inside at = absurd (omega (arith, inside))
tree_front old (c ∷ text) zero tree is inside at =
    let twice : with_missing (with_missing old root) root ≡ with_missing old root = ap (λ b. cond b (with_missing old root) (insert (with_missing old root) root [])) (missing_is old root) in
    let Tree : Nodes → Type 0 = λ m. IsTree m in
    subst Tree (sym twice) (tree_root old tree)
tree_front old (c ∷ text) (suc j) tree is inside at =
    let f = slash ∷ c ∷ take j text in
    let form : is_path f ≡ true = path_front (slash ∷ c ∷ text) (suc (suc j)) is (omega arith) (omega (arith, inside)) at in
    let Tree : Nodes → Type 0 = λ m. IsTree m in
    subst Tree (sym (made_of_added old f [] tree form)) (IsTree-with_made old f [] tree form)

-- the first front, and a later one
pub tree_first : (old : Nodes) (path : List ℕ) → IsTree old → is_path path ≡ true → IsTree (with_missing old (take 1 path))
tree_first old path tree is =
    let Tree : List ℕ → Type 0 = λ p. IsTree (with_missing old p) in
    subst Tree (sym (ap (λ p. take 1 p) (path_text path is))) (tree_root old tree)

pub tree_later : (old now : Nodes) (path text : List ℕ) (i : ℕ) → path ≡ slash ∷ text → is_path path ≡ true → IsTree old → i < length text → get_or text i 0 ≡ slash → now ≡ made_before old text i → IsTree (with_missing now (take (i + 1) path))
tree_later old now path text i whole is tree inside at made =
    let next : suc i ≡ i + 1 = omega arith in
    let front : slash ∷ take i text ≡ take (i + 1) path = ap (λ k. take k (slash ∷ text)) next ∙ ap (λ p. take (i + 1) p) (sym whole) in
    let P : List ℕ → Type 0 = λ p. IsTree (with_missing now p) in
    let M : Nodes → Type 0 = λ m. IsTree (with_missing m (slash ∷ take i text)) in
    subst P front (subst M (sym made) (tree_front old text i tree (ap (λ p. is_path p) (sym whole) ∙ is) inside at))
