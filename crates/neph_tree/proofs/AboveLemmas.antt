-- Where the path above is there, all above are.
use Rattle.std.proofs.Common.{◌≡◌, inl, inr, ℕ, zero, suc, ◌+◌, ◌-◌, ◌<◌, ◌≤◌, Bool, true, false, List, [], ◌∷◌, ◌++◌, length, take, drop, get_or, Option, Some, None, Bor, refl, sym, ap, ◌∙◌, arith, length-append, length-drop}
use Rattle.std.specs.Prelude.{not, nat_lt, ◌==◌}
use Rattle.std.specs.Option.{ForSome, IsSomeAnd}
use Rattle.std.specs.List.{list_all}
use Rattle.std.specs.FinMap.{contains_key}
use Rattle.std.proofs.lemmas.Bool.{eqb-true, ltb-true, ltb-false}
use Rattle.std.proofs.lemmas.List.{get_or-drop}
use Rattle.neph_base.specs.Path.{slash, is_path}
use Rattle.neph_tree.specs.Places.{root, is_within, cuts, ancestors, IsLastSlash}
use Rattle.neph_tree.specs.Nodes.{Nodes, IsTree, with_each_missing}
use Rattle.neph_tree.proofs.Within.{IsIn, IsIn-back, cuts-back, and_left, and_right, within_root, within_front, path_front, ancestor_within}
use Rattle.neph_tree.proofs.TreeLemmas.{each_none}

all_at : (p : ℕ → Bool) (xs : List ℕ) (i : ℕ) → list_all p xs ≡ true → i < length xs → p (get_or xs i 0) ≡ true
all_at p [] i h lt = absurd (omega (arith, lt))
all_at p (x ∷ xs) zero h lt = and_left _ _ h
all_at p (x ∷ xs) (suc i) h lt = let less : i < length xs = omega (arith, lt) in all_at p xs i (and_right _ _ h) less

slash_before : (path : List ℕ) (end i : ℕ) → IsLastSlash path end → i < length path → get_or path i 0 ≡ slash → i ≤ end
slash_before path end i last inside at = by (nat_lt end i) refl where
  by : (b : Bool) → nat_lt end i ≡ b → i ≤ end
  by false e = omega (arith, ltb-false end i e)
  by true e =
      let less : end < i = ltb-true end i e in
      let sum : end + 1 + (i - (end + 1)) ≡ i = omega (arith, less) in
      let short : i - (end + 1) < length (drop (end + 1) path) = omega (arith, less, inside, length-drop (end + 1) path) in
      let none = all_at (λ b. not (b == slash)) (drop (end + 1) path) (i - (end + 1)) last.last short in
      let same : get_or (drop (end + 1) path) (i - (end + 1)) 0 ≡ slash = get_or-drop (end + 1) path (i - (end + 1)) 0 ∙ ap (λ k. get_or path k 0) sum ∙ at in
      absurd (let bad : true ≡ false = sym none ∙ ap (λ x. not (x == slash)) same in cc)

take_front : (q rest : List ℕ) → take (length q) (q ++ rest) ≡ q
take_front [] rest = refl
take_front (x ∷ q) rest = ap (λ l. x ∷ l) (take_front q rest)

get_behind : (q rest : List ℕ) (z : ℕ) → get_or (q ++ z ∷ rest) (length q) 0 ≡ z
get_behind [] rest z = refl
get_behind (x ∷ q) rest z = get_behind q rest z

-- a front before a slash lies above the last one
front_within : (path q rest : List ℕ) (end : ℕ) → path ≡ q ++ slash ∷ rest → IsLastSlash path end → is_within q (take end path) ≡ true
front_within path q rest end is last =
    let at : get_or path (length q) 0 ≡ slash = ap (λ p. get_or p (length q) 0) is ∙ get_behind q rest slash in
    let inside : length q < length path = omega (arith, ap (λ p. length p) is, length-append q (slash ∷ rest)) in
    let le = slash_before path end (length q) last inside at in
    ap (λ p. is_within p (take end path)) (sym (ap (λ p. take (length q) p) is ∙ take_front q (slash ∷ rest))) ∙ within_front path (length q) end le inside at

above_within : (path q : List ℕ) (end : ℕ) → is_path path ≡ true → IsLastSlash path end → 0 < end → IsIn q (ancestors path) → is_within q (take end path) ≡ true
above_within [] q end is last some h = absurd h
above_within (b ∷ []) q end is last some h = absurd h
above_within (b ∷ c ∷ text) q end is last some h =
    let first : b ≡ slash = eqb-true b slash (and_left _ _ is) in
    elim h [
      | inl one ↦
          let le : 1 ≤ end = omega (arith, some) in
          ap (λ p. is_within p (take end (b ∷ c ∷ text))) (sym one) ∙ ap (λ z. is_within root (take end (z ∷ c ∷ text))) first ∙ within_root (c ∷ text) end le
      | inr more ↦
          let r = IsIn-back b q (cuts (c ∷ text)) more in
          let cut = cuts-back (c ∷ text) r.0 r.2 in
          front_within (b ∷ c ∷ text) q cut.0 end (ap (λ t. b ∷ t) cut.1 ∙ ap (λ p. p ++ slash ∷ cut.0) (sym r.1)) last
    ]

pub above_there : (m : Nodes) (path : List ℕ) (end : ℕ) → IsTree m → is_path path ≡ true → IsLastSlash path end → 0 < end → contains_key m (take end path) ≡ true → with_each_missing m (ancestors path) ≡ m
above_there m path end tree is last some there =
    each_none m (ancestors path) (λ q one. tree.closed q (take end path) (ancestor_within path q is one).0 (above_within path q end is last some one) there)

-- or where a node that is there lies within it
pub near_there : (m : Nodes) (path : List ℕ) (end : ℕ) (near : Option (Bor (List ℕ))) → IsTree m → is_path path ≡ true → IsLastSlash path end → 0 < end → ForSome near (λ n. contains_key m n.now ≡ true) → IsSomeAnd near (λ n. is_within (take end path) n.now ≡ true)
    → with_each_missing m (ancestors path) ≡ m
near_there m path end None tree is last some has within = absurd within
near_there m path end (Some n) tree is last some has within =
    above_there m path end tree is last some (tree.closed (take end path) n.now (path_front path end is some last.inside last.there) within (has n refl))
