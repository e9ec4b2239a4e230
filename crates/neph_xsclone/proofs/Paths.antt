-- The copies and the start nodes stand at paths.
use Rattle.std.proofs.Common.{◌≡◌, ℕ, ◌+◌, ◌/◌, ◌%◌, ◌<◌, Bool, true, false, cond, ◌&&◌, List, [], ◌∷◌, ◌++◌, map, Option, Some, None, is_some, refl, sym, ap, ◌∙◌, arith, append_assoc}
use Rattle.std.specs.Prelude.{nat_eq, nat_lt, ◌==◌, codes, unwrap_or}
use Rattle.std.specs.List.{list_all, list_any, onto_first}
use Rattle.std.specs.Option.{option_map}
use Rattle.std.specs.Ordering.{eq_by_cmp}
use Rattle.std.specs.Cmp.{eq_by_cmp_equiv}
use Rattle.std.specs.Cmp.Lexicographic.{pointwise, nat_list_cmp_total}
use Rattle.std.specs.FinMap.{get, contains_key, entries, contains_key-keys}
use Rattle.std.proofs.lemmas.Bool.{ltb-true}
use Rattle.std.proofs.lemmas.Bool.Decides.{nat_tests}
use Rattle.std.proofs.lemmas.List.Folds.{list_all-append}
use Rattle.neph_base.specs.Path.{slash, is_path, is_component, is_path_byte, parts}
use Rattle.neph_tree.specs.Places.{behind, decimal, home, is_within}
use Rattle.neph_tree.specs.Nodes.{Nodes, IsTree, subtree}
use Rattle.neph_tree.specs.Growth.{ArePaths}
use Rattle.neph_tree.proofs.EntryLemmas.{order, get-where}
use Rattle.neph_tree.proofs.Within.{and_left, and_right, both_true, left_true, right_true, parts-slash, front_behind, behind-front}
use Rattle.neph_xsclone.specs.Rewriting.{moved_or_same, copied, copies, copies_within, backend}

-- a path with more components behind it
pub path_join : (b c : ℕ) (t rest : List ℕ) → is_path (b ∷ c ∷ t) ≡ true → list_all is_component (parts rest) ≡ true → is_path (b ∷ c ∷ t ++ slash ∷ rest) ≡ true
path_join b c t rest is more =
    both_true (b == slash) (list_all is_component (parts (c ∷ t ++ slash ∷ rest))) (and_left (b == slash) (list_all is_component (parts (c ∷ t))) is)
    (ap (λ ps. list_all is_component ps) (parts-slash (c ∷ t) rest) ∙ list_all-append is_component (parts (c ∷ t)) (parts rest)
    ∙ both_true (list_all is_component (parts (c ∷ t))) (list_all is_component (parts rest)) (and_right (b == slash) (list_all is_component (parts (c ∷ t))) is) more)

-- the components behind a front
pub path_rest : (b c : ℕ) (t rest : List ℕ) → is_path (b ∷ c ∷ t ++ slash ∷ rest) ≡ true → list_all is_component (parts rest) ≡ true
path_rest b c t rest is =
    let all : list_all is_component (parts (c ∷ t ++ slash ∷ rest)) ≡ true = and_right (b == slash) (list_all is_component (parts (c ∷ t ++ slash ∷ rest))) is in
    and_right (list_all is_component (parts (c ∷ t))) (list_all is_component (parts rest)) (sym (list_all-append is_component (parts (c ∷ t)) (parts rest)) ∙ ap (λ ps. list_all is_component ps) (sym (parts-slash (c ∷ t) rest)) ∙ all)

pub behind_some : (front text rest : List ℕ) → behind front text ≡ Some rest → text ≡ front ++ rest
behind_some front text rest h =
    let found = front_behind front text (ap is_some h) in
    let same : Some found.0 ≡ Some rest = sym (behind-front front found.0) ∙ ap (λ x. behind front x) (sym found.1) ∙ h in
    found.1 ∙ ap (λ r. front ++ r) (some_same found.0 rest same)
  where
    some_same : (x y : List ℕ) → Some x ≡ Some y → x ≡ y
    some_same x y e = cc

-- a path that is moved is a path
pub path_moved : (b c d e : ℕ) (s t path : List ℕ) → is_path (d ∷ e ∷ t) ≡ true → is_path path ≡ true → is_path (moved_or_same (b ∷ c ∷ s) (d ∷ e ∷ t) path) ≡ true
path_moved b c d e s t path to is =
    elim (pointwise nat_eq path (b ∷ c ∷ s)) as (λ k. is_path (unwrap_or (cond k (Some (d ∷ e ∷ t)) (option_map (λ r. d ∷ e ∷ t ++ slash ∷ r) (behind (b ∷ c ∷ s ++ slash ∷ []) path))) path) ≡ true) [
      | true ↦ to
      | false ↦ below (behind (b ∷ c ∷ s ++ slash ∷ []) path) refl
    ]
  where
    below : (o : Option (List ℕ)) → behind (b ∷ c ∷ s ++ slash ∷ []) path ≡ o → is_path (unwrap_or (option_map (λ r. d ∷ e ∷ t ++ slash ∷ r) o) path) ≡ true
    below None h = is
    below (Some r) h =
        let whole : path ≡ b ∷ c ∷ s ++ slash ∷ r = behind_some (b ∷ c ∷ s ++ slash ∷ []) path r h ∙ append_assoc (b ∷ c ∷ s) (slash ∷ []) r in
        path_join d e t r to (path_rest b c s r (ap (λ p. is_path p) (sym whole) ∙ is))

-- entries at keys that are paths
pub paths_of_keys : (es : List (List ℕ × List ℕ)) → ((q : List ℕ) → list_any (eq_by_cmp order q) (map (λ e. e.0) es) ≡ true → is_path q ≡ true) → ArePaths es
paths_of_keys [] h = tt
paths_of_keys (e ∷ es) h =
    (h e.0 (left_true (eq_by_cmp order e.0 e.0) _ ((eq_by_cmp_equiv nat_list_cmp_total).refl e.0)), paths_of_keys es (λ q one. h q (right_true (eq_by_cmp order q e.0) _ one)))

pub subtree_paths : (m : Nodes) (top : List ℕ) → IsTree m → ArePaths (entries (subtree m top))
subtree_paths m top tree = paths_of_keys (entries (subtree m top)) (λ q one. tree.paths q (there q (is_within top q) (sym (ap is_some (get-where m (λ p. is_within top p) q)) ∙ contains_key-keys (subtree m top) q ∙ one)))
  where
    there : (q : List ℕ) (b : Bool) → is_some (cond b (get m q) None) ≡ true → contains_key m q ≡ true
    there q true h = h
    there q false h = absurd cc

pub copies_paths : (parent child b c d e : ℕ) (s t : List ℕ) (es : List (List ℕ × List ℕ)) → is_path (d ∷ e ∷ t) ≡ true → ArePaths es → ArePaths (map (λ x. copied parent child (b ∷ c ∷ s) (d ∷ e ∷ t) x) es)
copies_paths parent child b c d e s t [] to h = tt
copies_paths parent child b c d e s t (x ∷ es) to h = (path_moved b c d e s t x.0 to h.0, copies_paths parent child b c d e s t es to h.1)

pub ArePaths-append : (xs ys : List (List ℕ × List ℕ)) → ArePaths xs → ArePaths ys → ArePaths (xs ++ ys)
ArePaths-append [] ys h k = k
ArePaths-append (x ∷ xs) ys h k = (h.0, ArePaths-append xs ys h.1 k)

-- ---- the places of a domain are paths
digit_name : (n : ℕ) → n < 10 → ((48 + n == slash) ≡ false) × (is_path_byte (48 + n) ≡ true)
digit_name n h = (grind (arith, nat_tests), grind (arith, nat_tests))

one_part : (b : ℕ) → (b == slash) ≡ false → is_path_byte b ≡ true → list_all is_component (parts (b ∷ [])) ≡ true
one_part b e is = ap (λ k. list_all is_component (cond k ([] ∷ [] ∷ []) ((b ∷ []) ∷ []))) e ∙ ap (λ k. (k && true) && true) is

two_parts : (a b : ℕ) → (a == slash) ≡ false → (b == slash) ≡ false → is_path_byte a ≡ true → is_path_byte b ≡ true → list_all is_component (parts (a ∷ b ∷ [])) ≡ true
two_parts a b e f is it =
    ap (λ k. list_all is_component (cond k ([] ∷ parts (b ∷ [])) (onto_first a (parts (b ∷ []))))) e
    ∙ ap (λ k. list_all is_component (onto_first a (cond k ([] ∷ [] ∷ []) ((b ∷ []) ∷ [])))) f ∙ ap (λ k. (k && (is_path_byte b && true)) && true) is ∙ ap (λ k. (k && true) && true) it

decimal_parts : (d : ℕ) → d < 64 → list_all is_component (parts (decimal d)) ≡ true
decimal_parts d h =
    elim (nat_lt d 10) as (λ k. nat_lt d 10 ≡ k → list_all is_component (parts (cond k ((48 + d) ∷ []) ((48 + d / 10) ∷ (48 + d % 10) ∷ []))) ≡ true) [
      | true ↦ λ e. let n = digit_name d (ltb-true d 10 e) in one_part (48 + d) n.0 n.1
      | false ↦ λ e. let a = digit_name (d / 10) (omega (arith, h)) in let b = digit_name (d % 10) (omega arith) in two_parts (48 + d / 10) (48 + d % 10) a.0 b.0 a.1 b.1
    ] refl

pub home_path : (d : ℕ) → d < 64 → is_path (home d) ≡ true
home_path d h = path_join 47 108 (codes "ocal/domain") (decimal d) refl (decimal_parts d h)

pub backend_path : (kind : List ℕ) (d : ℕ) → d < 64 → list_all is_component (parts kind) ≡ true → is_path (backend kind d) ≡ true
backend_path kind d h is =
    let front = path_join 47 108 (codes "ocal/domain/0/backend") kind refl is in
    path_join 47 108 (codes "ocal/domain/0/backend/" ++ kind) (decimal d) front (decimal_parts d h)

pub clone_paths : (m : Nodes) (parent child : ℕ) → IsTree m → child < 64 → ArePaths (copies m parent child)
clone_paths m parent child tree h =
    ArePaths-append _ (copies_within m parent child (backend (codes "vif") parent) (backend (codes "vif") child))
    (ArePaths-append _ (copies_within m parent child (backend (codes "console") parent) (backend (codes "console") child))
    (ArePaths-append (copies_within m parent child (home parent) (home child)) (copies_within m parent child (backend (codes "9pfs") parent) (backend (codes "9pfs") child))
    (copies_paths parent child 47 108 47 108 (codes "ocal/domain/" ++ decimal parent) (codes "ocal/domain/" ++ decimal child) (entries (subtree m (home parent))) (home_path child h) (subtree_paths m (home parent) tree))
    (at (codes "9pfs") refl))
    (at (codes "console") refl))
    (at (codes "vif") refl)
  where
    at : (kind : List ℕ) → list_all is_component (parts kind) ≡ true → ArePaths (copies_within m parent child (backend kind parent) (backend kind child))
    at kind is =
        copies_paths parent child 47 108 47 108 (codes "ocal/domain/0/backend/" ++ kind ++ slash ∷ decimal parent) (codes "ocal/domain/0/backend/" ++ kind ++ slash ∷ decimal child) (entries (subtree m (backend kind parent))) (backend_path kind child h is)
        (subtree_paths m (backend kind parent) tree)
