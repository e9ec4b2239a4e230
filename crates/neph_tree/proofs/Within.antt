-- Which paths lie within which, and the paths above one.
use Rattle.std.proofs.Common.{◌≡◌, ◌⊎◌, inl, inr, ℕ, zero, suc, ◌+◌, ◌-◌, ◌<◌, ◌≤◌, Bool, true, false, cond, ◌&&◌, ◌||◌, List, [], ◌∷◌, ◌++◌, length, take, drop, map, get_or, Some, None, is_some, refl, sym, ap, ◌∙◌, subst, arith, append_assoc}
use Rattle.std.specs.Prelude.{nat_eq, ◌==◌}
use Rattle.std.specs.List.{list_all, onto_first}
use Rattle.std.specs.Cmp.Lexicographic.{pointwise}
use Rattle.std.proofs.Math.Seq.{take-add}
use Rattle.std.proofs.lemmas.Bool.{eqb-true, eq-eqb}
use Rattle.std.proofs.lemmas.List.{append-nil, take-append-drop, drop_more, map-append}
use Rattle.std.proofs.lemmas.List.Folds.{list_all-append}
use Rattle.std.proofs.lemmas.List.Splits.{length-slice_split}
use Rattle.neph_base.specs.Path.{slash, is_path, is_component, parts}
use Rattle.neph_tree.specs.Places.{root, behind, front_of_children, is_within, cuts, ancestors}

-- one of two tests passes
pub either : (a b : Bool) → (a || b) ≡ true → (a ≡ true) ⊎ (b ≡ true)
either true b e = inl refl
either false b e = inr e

pub left_true : (a b : Bool) → a ≡ true → (a || b) ≡ true
left_true true b e = refl
left_true false b e = absurd cc

pub right_true : (a b : Bool) → b ≡ true → (a || b) ≡ true
right_true true b e = refl
right_true false b e = e

pub and_left : (a b : Bool) → (a && b) ≡ true → a ≡ true
and_left true b e = refl
and_left false b e = absurd cc

pub and_right : (a b : Bool) → (a && b) ≡ true → b ≡ true
and_right true b e = e
and_right false b e = absurd cc

pub both_true : (a b : Bool) → a ≡ true → b ≡ true → (a && b) ≡ true
both_true true b e f = f
both_true false b e f = absurd cc

pub same_bytes : (xs : List ℕ) → pointwise nat_eq xs xs ≡ true
same_bytes [] = refl
same_bytes (x ∷ xs) = both_true _ _ (eq-eqb x x refl) (same_bytes xs)

pub bytes_same : (xs ys : List ℕ) → pointwise nat_eq xs ys ≡ true → xs ≡ ys
bytes_same [] [] e = refl
bytes_same [] (y ∷ ys) e = absurd cc
bytes_same (x ∷ xs) [] e = absurd cc
bytes_same (x ∷ xs) (y ∷ ys) e =
    ap (λ z. z ∷ xs) (eqb-true x y (and_left _ _ e)) ∙ ap (λ zs. y ∷ zs) (bytes_same xs ys (and_right _ _ e))

pub behind-front : (front rest : List ℕ) → behind front (front ++ rest) ≡ Some rest
behind-front [] rest = refl
behind-front (x ∷ front) rest = ap (λ b. cond b (behind front (front ++ rest)) None) (eq-eqb x x refl) ∙ behind-front front rest

pub front_behind : (front text : List ℕ) → is_some (behind front text) ≡ true → (rest : List ℕ) × (text ≡ front ++ rest)
front_behind [] text e = (text, refl)
front_behind (x ∷ front) [] e = absurd cc
front_behind (x ∷ front) (y ∷ text) e =
    elim (y == x) as (λ b. (y == x) ≡ b → is_some (cond b (behind front text) None) ≡ true → (rest : List ℕ) × (y ∷ text ≡ x ∷ front ++ rest)) [
      | true ↦ λ same found. let more = front_behind front text found in (more.0, ap (λ z. z ∷ text) (eqb-true y x same) ∙ ap (λ zs. x ∷ zs) more.1)
      | false ↦ λ same found. absurd cc
    ] refl e

pub within_self : (top : List ℕ) → is_within top top ≡ true
within_self top = left_true _ _ (same_bytes top)

pub within_same : (top path : List ℕ) → path ≡ top → is_within top path ≡ true
within_same top path e = ap (λ p. is_within top p) e ∙ within_self top

pub within_below : (top rest : List ℕ) → is_within top (front_of_children top ++ rest) ≡ true
within_below top rest = right_true _ _ (ap is_some (behind-front (front_of_children top) rest))

pub within-cases : (top path : List ℕ) → is_within top path ≡ true → (path ≡ top) ⊎ ((rest : List ℕ) × (path ≡ front_of_children top ++ rest))
within-cases top path e =
    elim (either _ _ e) [
      | inl same ↦ inl (bytes_same path top same)
      | inr below ↦ inr (front_behind (front_of_children top) path below)
    ]

-- the front of what is below begins with the path itself
pub front_more : (top : List ℕ) → (more : List ℕ) × (front_of_children top ≡ top ++ more)
front_more top =
    elim (length top == 1) as (λ b. (more : List ℕ) × (cond b top (top ++ slash ∷ []) ≡ top ++ more)) [
      | true ↦ ([], sym (append-nil top))
      | false ↦ (slash ∷ [], refl)
    ]

pub within_trans : (a b c : List ℕ) → is_within a b ≡ true → is_within b c ≡ true → is_within a c ≡ true
within_trans a b c ab bc =
    elim (within-cases a b ab) [
      | inl same ↦ subst (λ x. is_within x c ≡ true) same bc
      | inr below ↦
          elim (within-cases b c bc) [
            | inl same ↦ subst (λ x. is_within a x ≡ true) (sym same) ab
            | inr deep ↦
                let more = front_more b in
                let whole : c ≡ front_of_children a ++ (below.0 ++ more.0 ++ deep.0) =
                deep.1 ∙ ap (λ x. x ++ deep.0) (more.1 ∙ ap (λ x. x ++ more.0) below.1) ∙ ap (λ x. x ++ deep.0) (append_assoc (front_of_children a) below.0 more.0) ∙ append_assoc (front_of_children a) (below.0 ++ more.0) deep.0
                in
                ap (λ x. is_within a x) whole ∙ within_below a (below.0 ++ more.0 ++ deep.0)
          ]
    ]

-- a front and what stands behind it and a slash
pub within_slash : (front rest : List ℕ) → is_within front (front ++ slash ∷ rest) ≡ true
within_slash front rest =
    elim (length front == 1) as (λ b. (length front == 1) ≡ b → is_within front (front ++ slash ∷ rest) ≡ true) [
      | true ↦ λ e. let here : front_of_children front ≡ front = ap (λ b. cond b front (front ++ slash ∷ [])) e in
          right_true _ _ (ap (λ f. is_some (behind f (front ++ slash ∷ rest))) here ∙ ap is_some (behind-front front (slash ∷ rest)))
      | false ↦ λ e. let here : front_of_children front ≡ front ++ slash ∷ [] = ap (λ b. cond b front (front ++ slash ∷ [])) e in
          right_true _ _ (ap (λ f. is_some (behind f (front ++ slash ∷ rest))) here ∙ ap (λ t. is_some (behind (front ++ slash ∷ []) t)) (sym (append_assoc front (slash ∷ []) rest)) ∙ ap is_some (behind-front (front ++ slash ∷ []) rest))
    ] refl

-- of the fronts of a path, a longer one lies within a shorter one that ends before a slash
pub within_front : (path : List ℕ) (e i : ℕ) → e ≤ i → e < length path → get_or path e 0 ≡ slash → is_within (take e path) (take i path) ≡ true
within_front path e i le inside at = by (i - e) refl where
  whole : (n : ℕ) → n ≡ i - e → take i path ≡ take e path ++ take n (drop e path)
  whole n d = let sum : i ≡ e + n = omega (arith, le, d) in ap (λ k. take k path) sum ∙ take-add e n path

  by : (n : ℕ) → n ≡ i - e → is_within (take e path) (take i path) ≡ true
  by zero d = within_same _ _ (whole zero d ∙ append-nil (take e path))
  by (suc n) d =
      ap (λ p. is_within (take e path) p) (whole (suc n) d ∙ ap (λ r. take e path ++ take (suc n) r) (drop_more path e 0 inside ∙ ap (λ b. b ∷ drop (e + 1) path) at)) ∙ within_slash (take e path) (take n (drop (e + 1) path))

-- within `/` itself
pub within_root : (text : List ℕ) (i : ℕ) → 1 ≤ i → is_within (take 1 (slash ∷ text)) (take i (slash ∷ text)) ≡ true
within_root text zero le = absurd (omega (arith, le))
within_root text (suc i) le = within_below root (take i text)

-- ---- fronts that are paths
onto_first-append : (x : ℕ) (ps qs : List (List ℕ)) → 0 < length ps → onto_first x (ps ++ qs) ≡ onto_first x ps ++ qs
onto_first-append x [] qs h = absurd (omega (arith, h))
onto_first-append x (p ∷ ps) qs h = refl

some_part : (xs : List ℕ) → 0 < length (parts xs)
some_part xs = omega (arith, length-slice_split (λ b. b == slash) xs)

pub parts-slash : (xs ys : List ℕ) → parts (xs ++ slash ∷ ys) ≡ parts xs ++ parts ys
parts-slash [] ys = refl
parts-slash (x ∷ xs) ys =
    let rest = parts-slash xs ys in
    elim (x == slash) as (λ b. cond b ([] ∷ parts (xs ++ slash ∷ ys)) (onto_first x (parts (xs ++ slash ∷ ys))) ≡ cond b ([] ∷ parts xs) (onto_first x (parts xs)) ++ parts ys) [
      | true ↦ ap (λ ps. [] ∷ ps) rest
      | false ↦ ap (onto_first x) rest ∙ onto_first-append x (parts xs) (parts ys) (some_part xs)
    ]

pub path_cut : (b : ℕ) (text rest : List ℕ) → is_path (b ∷ text ++ slash ∷ rest) ≡ true → is_path (b ∷ text) ≡ true
path_cut b [] rest e = both_true _ _ (and_left _ _ e) refl
path_cut b (x ∷ text) rest e =
    let all : list_all is_component (parts (x ∷ text ++ slash ∷ rest)) ≡ true = and_right (b == slash) (list_all is_component (parts (x ∷ text ++ slash ∷ rest))) e in
    let apart = list_all-append is_component (parts (x ∷ text)) (parts rest) in
    let both : (list_all is_component (parts (x ∷ text)) && list_all is_component (parts rest)) ≡ true = sym apart ∙ ap (λ ps. list_all is_component ps) (sym (parts-slash (x ∷ text) rest)) ∙ all in
    both_true (b == slash) (list_all is_component (parts (x ∷ text))) (and_left (b == slash) (list_all is_component (parts (x ∷ text ++ slash ∷ rest))) e) (and_left (list_all is_component (parts (x ∷ text))) (list_all is_component (parts rest)) both)

pub path_front : (path : List ℕ) (i : ℕ) → is_path path ≡ true → 0 < i → i < length path → get_or path i 0 ≡ slash → is_path (take i path) ≡ true
path_front path zero e some inside at = absurd (omega (arith, some))
path_front [] (suc i) e some inside at = absurd (omega (arith, inside))
path_front (b ∷ text) (suc i) e some inside at =
    let within : i < length text = omega (arith, inside) in
    let whole : text ≡ take i text ++ slash ∷ drop (i + 1) text = sym (take-append-drop i text) ∙ ap (λ r. take i text ++ r) (drop_more text i 0 within ∙ ap (λ c. c ∷ drop (i + 1) text) at) in
    path_cut b (take i text) (drop (i + 1) text) (ap (λ t. is_path (b ∷ t)) (sym whole) ∙ e)

-- ---- the paths above one
pub cuts-push : (text : List ℕ) (b : ℕ) → cuts (text ++ b ∷ []) ≡ cuts text ++ cond (b == slash) (text ∷ []) []
cuts-push [] b = append-nil _
cuts-push (x ∷ text) b =
    let here : List (List ℕ) = cond (x == slash) ([] ∷ []) [] in
    let more : map (λ f. x ∷ f) (cuts (text ++ b ∷ [])) ≡ map (λ f. x ∷ f) (cuts text) ++ cond (b == slash) ((x ∷ text) ∷ []) [] =
    ap (λ fs. map (λ f. x ∷ f) fs) (cuts-push text b) ∙ map-append (λ f. x ∷ f) (cuts text) (cond (b == slash) (text ∷ []) []) ∙ ap (λ fs. map (λ f. x ∷ f) (cuts text) ++ fs) (longer (b == slash))
    in
    ap (λ fs. here ++ fs) more ∙ sym (append_assoc here (map (λ f. x ∷ f) (cuts text)) (cond (b == slash) ((x ∷ text) ∷ []) []))
  where
    longer : (t : Bool) → map (λ f. x ∷ f) (cond t (text ∷ []) []) ≡ cond t ((x ∷ text) ∷ []) []
    longer true = refl
    longer false = refl

-- it is one of them
abbrev pub IsIn : List ℕ → List (List ℕ) → Type 0
IsIn path [] = ⊥
IsIn path (x ∷ xs) = (x ≡ path) ⊎ IsIn path xs

pub IsIn-right : (path : List ℕ) (xs ys : List (List ℕ)) → IsIn path ys → IsIn path (xs ++ ys)
IsIn-right path [] ys h = h
IsIn-right path (x ∷ xs) ys h = inr (IsIn-right path xs ys h)

pub IsIn-either : (path : List ℕ) (xs ys : List (List ℕ)) → IsIn path (xs ++ ys) → IsIn path xs ⊎ IsIn path ys
IsIn-either path [] ys h = inr h
IsIn-either path (x ∷ xs) ys h =
    elim h [
      | inl e ↦ inl (inl e)
      | inr more ↦ elim (IsIn-either path xs ys more) [ inl a ↦ inl (inr a) | inr b ↦ inr b ]
    ]

pub IsIn-map : (b : ℕ) (path : List ℕ) (xs : List (List ℕ)) → IsIn path xs → IsIn (b ∷ path) (map (λ f. b ∷ f) xs)
IsIn-map b path [] h = absurd h
IsIn-map b path (x ∷ xs) h = elim h [ inl e ↦ inl (ap (λ f. b ∷ f) e) | inr more ↦ inr (IsIn-map b path xs more) ]

pub IsIn-back : (b : ℕ) (path : List ℕ) (xs : List (List ℕ)) → IsIn path (map (λ f. b ∷ f) xs) → (f : List ℕ) × (path ≡ b ∷ f) × IsIn f xs
IsIn-back b path [] h = absurd h
IsIn-back b path (x ∷ xs) h =
    elim h [
      | inl e ↦ (x, sym e, inl refl)
      | inr more ↦ let r = IsIn-back b path xs more in (r.0, r.1, inr r.2)
    ]

pub cuts-has : (front rest : List ℕ) → IsIn front (cuts (front ++ slash ∷ rest))
cuts-has [] rest = inl refl
cuts-has (x ∷ front) rest = IsIn-right (x ∷ front) (cond (x == slash) ([] ∷ []) []) (map (λ f. x ∷ f) (cuts (front ++ slash ∷ rest))) (IsIn-map x front _ (cuts-has front rest))

pub cuts-back : (text front : List ℕ) → IsIn front (cuts text) → (rest : List ℕ) × (text ≡ front ++ slash ∷ rest)
cuts-back [] front h = absurd h
cuts-back (b ∷ text) front h =
    elim (IsIn-either front (cond (b == slash) ([] ∷ []) []) (map (λ f. b ∷ f) (cuts text)) h) [
      | inl here ↦ first (b == slash) refl here
      | inr there ↦
          let r = IsIn-back b front (cuts text) there in
          let more = cuts-back text r.0 r.2 in
          (more.0, ap (λ t. b ∷ t) more.1 ∙ ap (λ f. f ++ slash ∷ more.0) (sym r.1))
    ]
  where
    first : (t : Bool) → (b == slash) ≡ t → IsIn front (cond t ([] ∷ []) []) → (rest : List ℕ) × (b ∷ text ≡ front ++ slash ∷ rest)
    first true e here = elim here [ inl is ↦ (text, ap (λ c. c ∷ text) (eqb-true b slash e) ∙ ap (λ f. f ++ slash ∷ text) is) | inr none ↦ absurd none ]
    first false e here = absurd here

-- a path above another is a path, and the other lies within it
pub ancestor_within : (path above : List ℕ) → is_path path ≡ true → IsIn above (ancestors path) → (is_path above ≡ true) × (is_within above path ≡ true)
ancestor_within [] above e h = absurd h
ancestor_within (b ∷ []) above e h = absurd h
ancestor_within (b ∷ c ∷ text) above e h =
    let first : b ≡ slash = eqb-true b slash (and_left _ _ e) in
    elim h [
      | inl is ↦ (ap (λ p. is_path p) (sym is), ap (λ p. is_within p (b ∷ c ∷ text)) (sym is) ∙ ap (λ x. is_within root (x ∷ c ∷ text)) first ∙ within_below root (c ∷ text))
      | inr more ↦
          let r = IsIn-back b above (cuts (c ∷ text)) more in
          let cut = cuts-back (c ∷ text) r.0 r.2 in (
            ap (λ p. is_path p) r.1 ∙ path_cut b r.0 cut.0 (ap (λ t. is_path (b ∷ t)) (sym cut.1) ∙ e),
            ap (λ p. is_within p (b ∷ c ∷ text)) r.1 ∙ ap (λ t. is_within (b ∷ r.0) (b ∷ t)) cut.1 ∙ within_slash (b ∷ r.0) cut.0,
          )
    ]

-- a path within which another lies is that one or above it
pub ancestor_has : (path above : List ℕ) → is_path above ≡ true → is_within above path ≡ true → (path ≡ above) ⊎ IsIn above (ancestors path)
ancestor_has path above e h =
    elim (within-cases above path h) [
      | inl same ↦ inl same
      | inr below ↦ of above e below.0 below.1
    ]
  where
    grown : (x y : ℕ) (f : List ℕ) → front_of_children (x ∷ y ∷ f) ≡ x ∷ y ∷ f ++ slash ∷ []
    grown x y f =
        elim (length (x ∷ y ∷ f) == 1) as (λ b. (length (x ∷ y ∷ f) == 1) ≡ b → cond b (x ∷ y ∷ f) (x ∷ y ∷ f ++ slash ∷ []) ≡ x ∷ y ∷ f ++ slash ∷ []) [
          | true ↦ λ t. absurd (omega (arith, eqb-true (length (x ∷ y ∷ f)) 1 t))
          | false ↦ λ t. refl
        ] refl

    of : (a : List ℕ) → is_path a ≡ true → (rest : List ℕ) → path ≡ front_of_children a ++ rest → (path ≡ a) ⊎ IsIn a (ancestors path)
    of [] p rest is = absurd cc
    of (x ∷ []) p [] is = inl is
    of (x ∷ []) p (c ∷ text) is =
        let first : x ≡ slash = eqb-true x slash (and_left _ _ p) in
        inr (subst (λ q. IsIn (x ∷ []) (ancestors q)) (sym is) (inl (ap (λ b. b ∷ []) (sym first))))
    of (x ∷ y ∷ f) p rest is =
        let whole : path ≡ x ∷ y ∷ f ++ slash ∷ rest = is ∙ ap (λ q. q ++ rest) (grown x y f) ∙ append_assoc (x ∷ y ∷ f) (slash ∷ []) rest in
        inr (subst (λ q. IsIn (x ∷ y ∷ f) (ancestors q)) (sym whole) (inr (IsIn-map x (y ∷ f) _ (cuts-has (y ∷ f) rest))))
