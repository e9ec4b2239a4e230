-- The path of a child, and what stands above it.
use Rattle.std.proofs.Common.{◌≡◌, ◌⊎◌, inl, inr, ℕ, zero, suc, ◌+◌, ◌<◌, ◌≤◌, Bool, true, false, cond, List, [], ◌∷◌, ◌++◌, length, take, drop, get_or, refl, sym, ap, ◌∙◌, subst, arith, append_assoc, length-append}
use Rattle.std.specs.Prelude.{not, max, ◌==◌}
use Rattle.std.specs.List.{list_all, onto_first}
use Rattle.std.proofs.lemmas.Bool.{eqb-true, ltb-true}
use Rattle.std.proofs.lemmas.List.{append-nil, take-append-drop, drop_more}
use Rattle.std.proofs.lemmas.List.Folds.{list_all-append}
use Rattle.neph_base.specs.Path.{slash, is_path, is_component, parts}
use Rattle.neph_tree.specs.Places.{root, front_of_children, is_within, is_name, child_path, IsChild, IsLastSlash}
use Rattle.neph_tree.proofs.Within.{and_left, and_right, both_true, within_same, within_below, within-cases, front_more, within_slash, parts-slash, path_cut}

-- without a slash
abbrev pub is_whole : List ℕ → Bool
is_whole text = list_all (λ b. not (b == slash)) text

no_slash_in : (y m : List ℕ) → is_whole (y ++ slash ∷ m) ≡ true → ⊥
no_slash_in [] m h = absurd (cc)
no_slash_in (b ∷ y) m h = no_slash_in y m (and_right (not (b == slash)) _ h)

-- the last slash parts a text in one way
parted_once : (x y n m : List ℕ) → is_whole n ≡ true → is_whole m ≡ true → x ++ slash ∷ n ≡ y ++ slash ∷ m → (x ≡ y) × (n ≡ m)
parted_once [] [] n m hn hm e = (refl, ap (λ l. drop 1 l) e)
parted_once [] (b ∷ y) n m hn hm e = absurd (no_slash_in y m (ap (λ t. is_whole t) (sym (ap (λ l. drop 1 l) e)) ∙ hn))
parted_once (a ∷ x) [] n m hn hm e = absurd (no_slash_in x n (ap (λ t. is_whole t) (ap (λ l. drop 1 l) e) ∙ hm))
parted_once (a ∷ x) (b ∷ y) n m hn hm e =
    let rest = parted_once x y n m hn hm (ap (λ l. drop 1 l) e) in
    (ap (λ z. z ∷ x) (ap (λ l. get_or l 0 0) e) ∙ ap (λ zs. b ∷ zs) rest.0, rest.1)

-- a path without its slash, where it is `/`
abbrev stem : List ℕ → List ℕ
stem path = cond (length path == 1) [] path

long_test : (b c : ℕ) (d : List ℕ) → (length (b ∷ c ∷ d) == 1) ≡ false
long_test b c d =
    elim (length (b ∷ c ∷ d) == 1) as (λ t. (length (b ∷ c ∷ d) == 1) ≡ t → t ≡ false) [
      | true ↦ λ t. absurd (omega (arith, eqb-true (length (b ∷ c ∷ d)) 1 t))
      | false ↦ λ t. refl
    ] refl

-- what the paths below a path begin with
pub front_long : (b c : ℕ) (d : List ℕ) → front_of_children (b ∷ c ∷ d) ≡ b ∷ c ∷ d ++ slash ∷ []
front_long b c d = ap (λ t. cond t (b ∷ c ∷ d) (b ∷ c ∷ d ++ slash ∷ [])) (long_test b c d)

front_stem : (d : List ℕ) → is_path d ≡ true → front_of_children d ≡ stem d ++ slash ∷ []
front_stem [] e = absurd (cc)
front_stem (b ∷ []) e = ap (λ x. x ∷ []) (eqb-true b slash (and_left _ _ e))
front_stem (b ∷ c ∷ d) e = front_long b c d ∙ ap (λ t. cond t [] (b ∷ c ∷ d) ++ slash ∷ []) (sym (long_test b c d))

stem_same : (d e : List ℕ) → is_path d ≡ true → is_path e ≡ true → stem d ≡ stem e → d ≡ e
stem_same [] e p q s = absurd (cc)
stem_same (b ∷ d) [] p q s = absurd (cc)
stem_same (b ∷ []) (c ∷ []) p q s = ap (λ x. x ∷ []) (eqb-true b slash (and_left _ _ p) ∙ sym (eqb-true c slash (and_left _ _ q)))
stem_same (b ∷ []) (c ∷ f ∷ e) p q s =
    let bad : [] ≡ c ∷ f ∷ e = s ∙ ap (λ t. cond t [] (c ∷ f ∷ e)) (long_test c f e) in absurd (cc)
stem_same (b ∷ f ∷ d) (c ∷ []) p q s =
    let bad : [] ≡ b ∷ f ∷ d = sym s ∙ ap (λ t. cond t [] (b ∷ f ∷ d)) (long_test b f d) in absurd (cc)
stem_same (b ∷ f ∷ d) (c ∷ g ∷ e) p q s =
    ap (λ t. cond t [] (b ∷ f ∷ d)) (sym (long_test b f d)) ∙ s ∙ ap (λ t. cond t [] (c ∷ g ∷ e)) (long_test c g e)

child_stem : (d n : List ℕ) → is_path d ≡ true → child_path d n ≡ stem d ++ slash ∷ n
child_stem d n p = ap (λ f. f ++ n) (front_stem d p) ∙ append_assoc (stem d) (slash ∷ []) n

-- a path is the child of one path by one name
pub child_same : (d e n m : List ℕ) → is_path d ≡ true → is_path e ≡ true → is_name n ≡ true → is_name m ≡ true → child_path d n ≡ child_path e m → (d ≡ e) × (n ≡ m)
child_same d e n m p q hn hm same =
    let both = parted_once (stem d) (stem e) n m (and_right _ _ hn) (and_right _ _ hm) (sym (child_stem d n p) ∙ same ∙ child_stem e m q) in
    (stem_same d e p q both.0, both.1)

pub within_longer : (a q : List ℕ) → is_within a q ≡ true → length a ≤ length q
within_longer a q w =
    elim (within-cases a q w) [
      | inl same ↦ omega (arith, ap (λ l. length l) same)
      | inr below ↦
          let more = front_more a in
          omega (arith, ap (λ l. length l) below.1, length-append (front_of_children a) below.0, ap (λ l. length l) more.1, length-append a more.0)
    ]

pub child_longer : (d n : List ℕ) → is_name n ≡ true → length d < length (child_path d n)
child_longer d n hn =
    let more = front_more d in
    omega (arith, ltb-true 0 (length n) (and_left _ _ hn), length-append (front_of_children d) n, ap (λ l. length l) more.1, length-append d more.0)

-- a path doesn't lie within its child
pub not_within_child : (d n : List ℕ) → is_name n ≡ true → is_within (child_path d n) d ≡ false
not_within_child d n hn =
    elim (is_within (child_path d n) d) as (λ b. is_within (child_path d n) d ≡ b → b ≡ false) [
      | true ↦ λ w. absurd (omega (arith, within_longer (child_path d n) d w, child_longer d n hn))
      | false ↦ λ w. refl
    ] refl

-- ---- the first component behind a path
record Cut (rest : List ℕ) : Type 0 where
  name : List ℕ
  tail : List ℕ
  whole : is_whole name ≡ true
  parted : rest ≡ name ++ tail
  end : (tail ≡ []) ⊎ ((more : List ℕ) × (tail ≡ slash ∷ more))

cut_first : (rest : List ℕ) → Cut rest
cut_first [] = record { name = []; tail = []; whole = refl; parted = refl; end = inl refl }
cut_first (b ∷ rest) =
    elim (b == slash) as (λ t. (b == slash) ≡ t → Cut (b ∷ rest)) [
      | true ↦ λ t. record { name = []; tail = b ∷ rest; whole = refl; parted = refl; end = inr (rest, ap (λ z. z ∷ rest) (eqb-true b slash t)) }
      | false ↦ λ t. let more = cut_first rest in
          record { name = b ∷ more.name; tail = more.tail; whole = both_true _ _ (ap not t) more.whole; parted = ap (λ l. b ∷ l) more.parted; end = more.end }
    ] refl

parts_whole : (text : List ℕ) → is_whole text ≡ true → parts text ≡ text ∷ []
parts_whole [] h = refl
parts_whole (x ∷ xs) h =
    elim (x == slash) as (λ t. (x == slash) ≡ t → cond t ([] ∷ parts xs) (onto_first x (parts xs)) ≡ (x ∷ xs) ∷ []) [
      | true ↦ λ t. absurd (let bad : false ≡ true = sym (ap not t) ∙ and_left (not (x == slash)) _ h in cc)
      | false ↦ λ t. ap (λ ps. onto_first x ps) (parts_whole xs (and_right (not (x == slash)) _ h))
    ] refl

all_parts : (xs ys : List ℕ) → list_all is_component (parts (xs ++ slash ∷ ys)) ≡ true → (list_all is_component (parts xs) ≡ true) × (list_all is_component (parts ys) ≡ true)
all_parts xs ys h =
    let both = sym (list_all-append is_component (parts xs) (parts ys)) ∙ ap (λ ps. list_all is_component ps) (sym (parts-slash xs ys)) ∙ h in
    (and_left _ _ both, and_right _ _ both)

-- one part that is a component
one_part : (name : List ℕ) → is_whole name ≡ true → list_all is_component (parts name) ≡ true → is_name name ≡ true
one_part name whole h =
    let one : is_component name ≡ true = and_left _ _ (ap (λ ps. list_all is_component ps) (sym (parts_whole name whole)) ∙ h) in
    both_true _ _ (and_left _ _ one) whole

first_name : (rest : List ℕ) (c : Cut rest) → list_all is_component (parts rest) ≡ true → is_name c.name ≡ true
first_name rest c h =
    elim c.end [
      | inl none ↦ one_part c.name c.whole (ap (λ r. list_all is_component (parts r)) (sym (c.parted ∙ ap (λ t. c.name ++ t) none ∙ append-nil c.name)) ∙ h)
      | inr more ↦ one_part c.name c.whole (all_parts c.name more.0 (ap (λ r. list_all is_component (parts r)) (sym (c.parted ∙ ap (λ t. c.name ++ t) more.1)) ∙ h)).0
    ]

-- the parts of what stands behind a path
rest_parts : (top rest : List ℕ) → is_path top ≡ true → is_path (front_of_children top ++ rest) ≡ true → (rest ≡ []) ⊎ (list_all is_component (parts rest) ≡ true)
rest_parts [] rest p q = absurd (cc)
rest_parts (b ∷ []) [] p q = inl refl
rest_parts (b ∷ []) (c ∷ rest) p q = inr (and_right (b == slash) _ q)
rest_parts (b ∷ c ∷ d) rest p q =
    let whole : is_path (b ∷ c ∷ d ++ slash ∷ rest) ≡ true = ap (λ l. is_path l) (sym (ap (λ f. f ++ rest) (front_long b c d) ∙ append_assoc (b ∷ c ∷ d) (slash ∷ []) rest)) ∙ q in
    inr (all_parts (c ∷ d) rest (and_right (b == slash) _ whole)).1

path_before : (p rest : List ℕ) → 0 < length p → is_path (p ++ slash ∷ rest) ≡ true → is_path p ≡ true
path_before [] rest some h = absurd (omega (arith, some))
path_before (b ∷ p) rest some h = path_cut b p rest h

-- a path within another is that one, or within a child of it
pub record InChild (top q : List ℕ) : Type 0 where
  pub child : List ℕ
  pub named : is_name child ≡ true
  pub path : is_path (child_path top child) ≡ true
  pub within : is_within (child_path top child) q ≡ true

in_child : (top q rest : List ℕ) → is_path q ≡ true → q ≡ front_of_children top ++ rest → (c : Cut rest) → is_name c.name ≡ true → InChild top q
in_child top q rest path is c named =
    elim c.end [
      | inl none ↦
          let same : q ≡ child_path top c.name = is ∙ ap (λ r. front_of_children top ++ r) (c.parted ∙ ap (λ t. c.name ++ t) none ∙ append-nil c.name) in
          record { child = c.name; named = named; path = ap (λ p. is_path p) (sym same) ∙ path; within = within_same _ _ same }
      | inr more ↦
          let same : q ≡ child_path top c.name ++ slash ∷ more.0 = is ∙ ap (λ r. front_of_children top ++ r) (c.parted ∙ ap (λ t. c.name ++ t) more.1) ∙ sym (append_assoc (front_of_children top) c.name (slash ∷ more.0)) in
          record {
            child = c.name;
            named = named;
            path = path_before (child_path top c.name) more.0 (omega (arith, child_longer top c.name named)) (ap (λ p. is_path p) (sym same) ∙ path);
            within = ap (λ p. is_within (child_path top c.name) p) same ∙ within_slash (child_path top c.name) more.0;
          }
    ]

front_self : (top : List ℕ) → is_path top ≡ true → is_path (front_of_children top) ≡ true → front_of_children top ≡ top
front_self [] p h = absurd (cc)
front_self (b ∷ []) p h = refl
front_self (b ∷ c ∷ d) p h =
    let whole : is_path (b ∷ c ∷ d ++ slash ∷ []) ≡ true = ap (λ l. is_path l) (sym (front_long b c d)) ∙ h in
    absurd (let last : list_all is_component (parts []) ≡ true = (all_parts (c ∷ d) [] (and_right (b == slash) _ whole)).1 in cc)

pub child_above : (top q : List ℕ) → is_path top ≡ true → is_path q ≡ true → is_within top q ≡ true → (q ≡ top) ⊎ InChild top q
child_above top q p path w =
    elim (within-cases top q w) [
      | inl same ↦ inl same
      | inr below ↦
          let rest = below.0 in
          let whole : is_path (front_of_children top ++ rest) ≡ true = ap (λ l. is_path l) (sym below.1) ∙ path in
          elim (rest_parts top rest p whole) [
            | inl none ↦
                let same : q ≡ front_of_children top = below.1 ∙ ap (λ r. front_of_children top ++ r) none ∙ append-nil (front_of_children top) in
                inl (same ∙ front_self top p (ap (λ l. is_path l) (sym same) ∙ path))
            | inr all ↦ inr (in_child top q rest path below.1 (cut_first rest) (first_name rest (cut_first rest) all))
          ]
    ]

-- ---- the path above
last_parts : (b : ℕ) (text name : List ℕ) → is_path (b ∷ text ++ slash ∷ name) ≡ true → is_whole name ≡ true → is_name name ≡ true
last_parts b [] name e whole = one_part name whole (all_parts [] name (and_right (b == slash) _ e)).1
last_parts b (c ∷ text) name e whole = one_part name whole (all_parts (c ∷ text) name (and_right (b == slash) _ e)).1

no_empty_part : (b : ℕ) (rest : List ℕ) → is_path (b ∷ slash ∷ rest) ≡ true → ⊥
no_empty_part b rest e = absurd (let first : list_all is_component (parts []) ≡ true = (all_parts [] rest (and_right (b == slash) _ e)).0 in cc)

-- the path that ends before a slash
abbrev before_slash : List ℕ → List ℕ
before_slash [] = root
before_slash (b ∷ text) = b ∷ text

-- what stands before the last slash of a path, and behind it
split_text : (front name : List ℕ) → is_path (front ++ slash ∷ name) ≡ true → is_whole name ≡ true → (front ++ slash ∷ name ≡ root → ⊥) → IsChild (front ++ slash ∷ name) (before_slash front) name
split_text [] [] e whole long = absurd (long refl)
split_text [] (c ∷ name) e whole long = record { form = refl; one = one_part (c ∷ name) whole (and_right (slash == slash) _ e); whole = refl }
split_text (b ∷ []) name e whole long = absurd (no_empty_part b name e)
split_text (b ∷ c ∷ d) name e whole long =
    record {
      form = path_cut b (c ∷ d) name e;
      one = last_parts b (c ∷ d) name e whole;
      whole = sym (ap (λ f. f ++ name) (front_long b c d) ∙ append_assoc (b ∷ c ∷ d) (slash ∷ []) name);
    }

front_taken : (path : List ℕ) (end : ℕ) → IsLastSlash path end → path ≡ take end path ++ slash ∷ drop (end + 1) path
front_taken path end last = sym (take-append-drop end path) ∙ ap (λ r. take end path ++ r) (drop_more path end 0 last.inside ∙ ap (λ c. c ∷ drop (end + 1) path) last.there)

front_short : (path : List ℕ) (end : ℕ) → is_path path ≡ true → end < length path → before_slash (take end path) ≡ take (max end 1) path
front_short [] end is inside = absurd (omega (arith, inside))
front_short (b ∷ text) zero is inside = ap (λ z. z ∷ []) (sym (eqb-true b slash (and_left _ _ is)))
front_short (b ∷ text) (suc end) is inside = let long : suc end ≡ max (suc end) 1 = omega arith in ap (λ k. take k (b ∷ text)) long

pub split_child : (path : List ℕ) (end : ℕ) → is_path path ≡ true → (path ≡ root → ⊥) → IsLastSlash path end → IsChild path (take (max end 1) path) (drop (end + 1) path)
split_child path end is long last =
    let whole = front_taken path end last in
    let P : List ℕ → Type 0 = λ p. IsChild p (before_slash (take end path)) (drop (end + 1) path) in
    let D : List ℕ → Type 0 = λ d. IsChild path d (drop (end + 1) path) in
    subst D (front_short path end is last.inside) (subst P (sym whole) (split_text (take end path) (drop (end + 1) path) (ap (λ p. is_path p) (sym whole) ∙ is) last.last (λ same. long (whole ∙ same))))

-- ---- texts within which paths lie
pub all_within_root : (q : List ℕ) → is_path q ≡ true → is_within root q ≡ true
all_within_root [] e = absurd (cc)
all_within_root (b ∷ text) e = ap (λ z. is_within root (z ∷ text)) (eqb-true b slash (and_left _ _ e)) ∙ within_below root text

pub all_within_none : (q : List ℕ) → is_path q ≡ true → is_within [] q ≡ true
all_within_none [] e = absurd (cc)
all_within_none (b ∷ text) e = ap (λ z. is_within [] (z ∷ text)) (eqb-true b slash (and_left _ _ e)) ∙ within_below [] text

-- a text within which a path lies is a path
pub path_within : (top q : List ℕ) → 0 < length top → is_path q ≡ true → is_within top q ≡ true → is_path top ≡ true
path_within [] q some e w = absurd (omega (arith, some))
path_within (b ∷ top) q some e w =
    elim (within-cases (b ∷ top) q w) [
      | inl same ↦ ap (λ p. is_path p) (sym same) ∙ e
      | inr below ↦ by top below.0 (ap (λ p. is_path p) (sym below.1) ∙ e)
    ]
  where
    by : (t rest : List ℕ) → is_path (front_of_children (b ∷ t) ++ rest) ≡ true → is_path (b ∷ t) ≡ true
    by [] rest h = both_true _ _ (and_left (b == slash) _ h) refl
    by (c ∷ d) rest h = path_cut b (c ∷ d) rest (ap (λ l. is_path l) (sym (ap (λ f. f ++ rest) (front_long b c d) ∙ append_assoc (b ∷ c ∷ d) (slash ∷ []) rest)) ∙ h)
