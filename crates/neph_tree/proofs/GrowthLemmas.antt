-- A tree that grows by the nodes above a path.
use Rattle.std.proofs.Common.{◌≡◌, ℕ, suc, ◌+◌, ◌-◌, ◌<◌, ◌≤◌, Bool, true, false, cond, List, [], ◌∷◌, ◌++◌, length, take, drop, map, get_or, Option, Some, None, refl, sym, ap, ◌∙◌, subst, arith}
use Rattle.std.specs.Prelude.{not, ◌==◌, Result, Ok, Err, OnOk, OnErr}
use Rattle.std.specs.Ordering.{eq_by_cmp}
use Rattle.std.specs.Cmp.{eq_by_cmp_equiv}
use Rattle.std.specs.Cmp.Lexicographic.{nat_list_cmp_total}
use Rattle.std.specs.FinMap.{get, contains_key, insert, get-insert}
use Rattle.std.proofs.lemmas.Bool.{eqb-true, eq-eqb}
use Rattle.std.proofs.lemmas.List.{length-take-le, take_all, take_more, map-append, append-nil}
use Rattle.neph_base.specs.Path.{slash, is_path}
use Rattle.neph_tree.specs.Places.{root, is_within, cuts}
use Rattle.neph_tree.specs.Nodes.{Nodes, IsTree, with_missing, with_each_missing, without}
use Rattle.neph_tree.specs.Growth.{first_made, with_added, GrowsWithin, IsGrown, without_front}
use Rattle.neph_tree.proofs.EntryLemmas.{order, same_nodes, tied_same, get-where, none_there}
use Rattle.neph_tree.proofs.Within.{within_self, within_same, within_front, within_root, path_front, cuts-push, and_left}

pub insert_there : (m : Nodes) (k v : List ℕ) → get (insert m k v) k ≡ Some v
insert_there m k v = get-insert nat_list_cmp_total m k v k ∙ ap (λ b. cond b (Some v) (get m k)) ((eq_by_cmp_equiv nat_list_cmp_total).refl k)

pub insert_elsewhere : (m : Nodes) (k v q : List ℕ) → (q ≡ k → ⊥) → get (insert m k v) q ≡ get m q
insert_elsewhere m k v q apart = get-insert nat_list_cmp_total m k v q ∙ by (eq_by_cmp order q k) refl where
  by : (b : Bool) → eq_by_cmp order q k ≡ b → cond b (Some v) (get m q) ≡ get m q
  by true e = absurd (apart (tied_same q k e))
  by false e = refl

outside : (top path q : List ℕ) → is_within top path ≡ true → is_within top q ≡ false → q ≡ path → ⊥
outside top path q within out same = absurd (cc)

pub grown_more : (old new : Nodes) (path : List ℕ) (top : Option ℕ) (m n : ℕ) → m ≤ n → IsGrown old new path top m → IsGrown old new path top n
grown_more old new path None m n le h = h
grown_more old new path (Some end) m n le h = (h.0, omega (arith, le, h.1))

pub grown_front : (old now : Nodes) (path v : List ℕ) (top : Option ℕ) (end : ℕ) → end ≤ length path → is_path (take end path) ≡ true → ((i : ℕ) → end ≤ i → is_within (take end path) (take i path) ≡ true)
    → IsGrown old now path top end → IsGrown old (with_added now (take end path) v) path (first_made now (take end path) top) end
grown_front old now path v None end inside is later h =
    let front = take end path in
    let long : length front ≡ end = length-take-le end path inside in
    elim (contains_key now front) as (λ b. contains_key now front ≡ b → IsGrown old (cond b now (insert now front v)) path (cond b None (Some (length front))) end) [
      | true ↦ λ e. h
      | false ↦ λ e.
          let P : ℕ → Type 0 = λ n. GrowsWithin old (insert now front v) path n × (n ≤ end) in
          subst P (sym long) (
            record {
              front = is;
              missing = ap (λ m. contains_key m front) (sym h) ∙ e;
              later = later;
              others = λ q out. insert_elsewhere now front v q (outside front front q (within_self front) out) ∙ ap (λ m. get m q) h;
            },
            omega arith,
          )
    ] refl
grown_front old now path v (Some first) end inside is later h =
    let front = take end path in
    let w = h.0 in
    let deep : is_within (take first path) front ≡ true = w.later end h.1 in (
      record {
        front = w.front;
        missing = w.missing;
        later = w.later;
        others = λ q out. kept (contains_key now front) q (insert_elsewhere now front v q (outside (take first path) front q deep out)) ∙ w.others q out;
      },
      h.1,
    )
  where
    kept : (b : Bool) (q : List ℕ) → get (insert now (take end path) v) q ≡ get now q → get (cond b now (insert now (take end path) v)) q ≡ get now q
    kept true q e = refl
    kept false q e = e

-- nothing lies within a path that isn't there
pub none_within : (m : Nodes) (top q : List ℕ) → IsTree m → is_path top ≡ true → contains_key m top ≡ false → is_within top q ≡ true → get m q ≡ None
none_within m top q tree is missing within =
    elim (contains_key m q) as (λ b. contains_key m q ≡ b → get m q ≡ None) [
      | true ↦ λ e. let there = tree.closed top q is within e in absurd cc
      | false ↦ λ e. none_there _ e
    ] refl

-- what grew within such a path goes with it
pub cut_back : (old new : Nodes) (top : List ℕ) → IsTree old → is_path top ≡ true → contains_key old top ≡ false → ((q : List ℕ) → is_within top q ≡ false → get new q ≡ get old q) → without new top ≡ old
cut_back old new top tree is missing others = same_nodes _ _ (λ q.
    get-where new (λ p. not (is_within top p)) q ∙ elim (is_within top q) as (λ b. is_within top q ≡ b → cond (not b) (get new q) None ≡ get old q) [
      | true ↦ λ e. sym (none_within old top q tree is missing e)
      | false ↦ λ e. others q e
    ] refl)

pub each-push : (m : Nodes) (paths : List (List ℕ)) (path : List ℕ) → with_each_missing m (paths ++ path ∷ []) ≡ with_missing (with_each_missing m paths) path
each-push m [] path = refl
each-push m (p ∷ paths) path = each-push (with_missing m p) paths path

pub path_text : (path : List ℕ) → is_path path ≡ true → path ≡ slash ∷ take (length path - 1) (drop 1 path)
path_text [] e = absurd cc
path_text (b ∷ text) e = ap (λ c. c ∷ text) (eqb-true b slash (and_left _ _ e)) ∙ ap (λ t. slash ∷ t) (sym (take_all (suc (length text) - 1) text (omega arith)))

-- the nodes above a path are made up to a place in its text
abbrev pub made_before : Nodes → List ℕ → ℕ → Nodes
made_before old text i = with_each_missing old (root ∷ map (λ f. slash ∷ f) (cuts (take i text)))

cut_more : (text : List ℕ) (i : ℕ) → i < length text → map (λ f. slash ∷ f) (cuts (take (i + 1) text)) ≡ map (λ f. slash ∷ f) (cuts (take i text)) ++ cond (get_or text i 0 == slash) ((slash ∷ take i text) ∷ []) []
cut_more text i inside =
    ap (λ t. map (λ f. slash ∷ f) (cuts t)) (take_more text i 0 inside) ∙ ap (λ fs. map (λ f. slash ∷ f) fs) (cuts-push (take i text) (get_or text i 0)) ∙ map-append (λ f. slash ∷ f) (cuts (take i text)) _
    ∙ ap (λ fs. map (λ f. slash ∷ f) (cuts (take i text)) ++ fs) (one (get_or text i 0 == slash))
  where
    one : (b : Bool) → map (λ f. slash ∷ f) (cond b (take i text ∷ []) []) ≡ cond b ((slash ∷ take i text) ∷ []) []
    one true = refl
    one false = refl

pub grow_step : (old now : Nodes) (text : List ℕ) (top : Option ℕ) (i : ℕ) → is_path (slash ∷ text) ≡ true → i < length text → get_or text i 0 ≡ slash → now ≡ made_before old text i → IsGrown old now (slash ∷ text) top (i + 1)
    → (with_missing now (take (i + 1) (slash ∷ text)) ≡ made_before old text (i + 1)) × IsGrown old (with_missing now (take (i + 1) (slash ∷ text))) (slash ∷ text) (first_made now (take (i + 1) (slash ∷ text)) top) (i + 1 + 1)
grow_step old now text top i is inside at made grown =
    let path = slash ∷ text in
    let next : i + 1 ≡ suc i = omega arith in
    let front : take (i + 1) path ≡ slash ∷ take i text = ap (λ k. take k path) next in
    let at' : get_or path (i + 1) 0 ≡ slash = ap (λ k. get_or path k 0) next ∙ at in
    let within : i + 1 < length path = omega (arith, inside) in
    let done = map (λ f. slash ∷ f) (cuts (take i text)) in
    let list : map (λ f. slash ∷ f) (cuts (take (i + 1) text)) ≡ done ++ (slash ∷ take i text) ∷ [] =
    cut_more text i inside ∙ ap (λ b. done ++ cond b ((slash ∷ take i text) ∷ []) []) (eq-eqb (get_or text i 0) slash at)
    in (
      ap (λ p. with_missing now p) front ∙ ap (λ m. with_missing m (slash ∷ take i text)) made ∙ sym (each-push (with_missing old root) done (slash ∷ take i text)) ∙ ap (λ ps. with_each_missing (with_missing old root) ps) (sym list),
      grown_more old _ path _ (i + 1) (i + 1 + 1) (omega arith)
          (grown_front old now path [] top (i + 1) (omega (arith, within)) (path_front path (i + 1) is (omega arith) within at') (λ j le. within_front path (i + 1) j le within at') grown),
    )

eqb_apart : (a b : ℕ) → (a ≡ b → ⊥) → (a == b) ≡ false
eqb_apart a b apart =
    elim (a == b) as (λ t. (a == b) ≡ t → t ≡ false) [ true ↦ λ e. absurd (apart (eqb-true a b e)) | false ↦ λ e. refl ] refl

pub grow_skip : (old now : Nodes) (text : List ℕ) (top : Option ℕ) (i : ℕ) → i < length text → (get_or text i 0 ≡ slash → ⊥) → now ≡ made_before old text i → IsGrown old now (slash ∷ text) top (i + 1)
    → (now ≡ made_before old text (i + 1)) × IsGrown old now (slash ∷ text) top (i + 1 + 1)
grow_skip old now text top i inside at made grown =
    let done = map (λ f. slash ∷ f) (cuts (take i text)) in
    let list : map (λ f. slash ∷ f) (cuts (take (i + 1) text)) ≡ done =
    cut_more text i inside ∙ ap (λ b. done ++ cond b ((slash ∷ take i text) ∷ []) []) (eqb_apart (get_or text i 0) slash at) ∙ append-nil done
    in
    (made ∙ ap (λ ps. with_each_missing (with_missing old root) ps) (sym list), grown_more old now (slash ∷ text) top (i + 1) (i + 1 + 1) (omega arith) grown)

-- the same of a path, and of what a call left
pub step_at : (old now new : Nodes) (path text : List ℕ) (top more : Option ℕ) (i : ℕ) → path ≡ slash ∷ text → is_path path ≡ true → i < length text → get_or text i 0 ≡ slash → now ≡ made_before old text i → IsGrown old now path top (i + 1)
    → new ≡ with_missing now (take (i + 1) path) → more ≡ first_made now (take (i + 1) path) top → (new ≡ made_before old text (i + 1)) × IsGrown old new path more (i + 1 + 1)
step_at old now new path text top more i e is inside at made grown left first =
    let Q : List ℕ → Type 0 = λ p. is_path p ≡ true → IsGrown old now p top (i + 1)
    → (with_missing now (take (i + 1) p) ≡ made_before old text (i + 1)) × IsGrown old (with_missing now (take (i + 1) p)) p (first_made now (take (i + 1) p) top) (i + 1 + 1) in
    let core = subst Q (sym e) (λ p g. grow_step old now text top i p inside at made g) is grown in
    let M : Nodes → Type 0 = λ m. IsGrown old m path more (i + 1 + 1) in
    let N : Option ℕ → Type 0 = λ t. IsGrown old (with_missing now (take (i + 1) path)) path t (i + 1 + 1) in
    (left ∙ core.0, subst M (sym left) (subst N (sym first) core.1))

pub skip_at : (old now new : Nodes) (path text : List ℕ) (top more : Option ℕ) (i : ℕ) → path ≡ slash ∷ text → i < length text → (get_or text i 0 ≡ slash → ⊥) → now ≡ made_before old text i → IsGrown old now path top (i + 1) → new ≡ now → more ≡ top
    → (new ≡ made_before old text (i + 1)) × IsGrown old new path more (i + 1 + 1)
skip_at old now new path text top more i e inside at made grown left first =
    let Q : List ℕ → Type 0 = λ p. IsGrown old now p top (i + 1) → (now ≡ made_before old text (i + 1)) × IsGrown old now p top (i + 1 + 1) in
    let core = subst Q (sym e) (λ g. grow_skip old now text top i inside at made g) grown in
    let M : Nodes → Type 0 = λ m. IsGrown old m path more (i + 1 + 1) in
    let N : Option ℕ → Type 0 = λ t. IsGrown old now path t (i + 1 + 1) in
    (left ∙ core.0, subst M (sym left) (subst N (sym first) core.1))

pub first_at : (old new : Nodes) (path : List ℕ) (top more : Option ℕ) → is_path path ≡ true → top ≡ None → new ≡ with_missing old (take 1 path) → more ≡ first_made old (take 1 path) top → (new ≡ with_missing old root) × IsGrown old new path more 1
first_at old new path top more is none left first =
    let text = take (length path - 1) (drop 1 path) in
    let whole : path ≡ slash ∷ text = path_text path is in
    let front : take 1 path ≡ root = ap (λ p. take 1 p) whole in
    let some : 1 ≤ length path = omega (arith, ap (λ p. length p) whole) in
    let later : (i : ℕ) → 1 ≤ i → is_within (take 1 path) (take i path) ≡ true = λ i le. let L : List ℕ → Type 0 = λ p. is_within (take 1 p) (take i p) ≡ true in subst L (sym whole) (within_root text i le) in
    let core = grown_front old old path [] None 1 some (ap (λ p. is_path p) front) later refl in
    let M : Nodes → Type 0 = λ m. IsGrown old m path more 1 in
    let N : Option ℕ → Type 0 = λ t. IsGrown old (with_missing old (take 1 path)) path t 1 in
    (left ∙ ap (λ p. with_missing old p) front, subst M (sym left) (subst N (sym (first ∙ ap (λ t. first_made old (take 1 path) t) none)) core))

-- taken back after want of memory
pub grown_back : (old now : Nodes) (path : List ℕ) (top : Option ℕ) (most : ℕ) → IsTree old → IsGrown old now path top most → without_front now path top ≡ old
grown_back old now path None most tree h = h
grown_back old now path (Some end) most tree h = cut_back old now (take end path) tree h.0.front h.0.missing h.0.others

pub grown_whole : (old now new : Nodes) (path v : List ℕ) (top more : Option ℕ) → is_path path ≡ true → IsGrown old now path top (length path) → new ≡ with_added now path v → more ≡ first_made now path top → IsGrown old new path more (length path)
grown_whole old now new path v top more is grown left first =
    let whole : take (length path) path ≡ path = take_all (length path) path (omega arith) in
    let later : (i : ℕ) → length path ≤ i → is_within (take (length path) path) (take i path) ≡ true = λ i le. within_same _ _ (take_all i path le ∙ sym whole) in
    let core = grown_front old now path v top (length path) (omega arith) (ap (λ p. is_path p) whole ∙ is) later grown in
    let P : List ℕ → Type 0 = λ p. IsGrown old (with_added now p v) path (first_made now p top) (length path) in
    let M : Nodes → Type 0 = λ m. IsGrown old m path more (length path) in
    let N : Option ℕ → Type 0 = λ t. IsGrown old (with_added now path v) path t (length path) in
    subst M (sym left) (subst N (sym first) (subst P whole core))

-- once the node itself was made, or memory was wanting for it
pub grown_added : {X E : Type 0} (r : Result X E) (old now new : Nodes) (path v : List ℕ) (top more : Option ℕ) → is_path path ≡ true → IsGrown old now path top (length path)
    → OnOk r (new ≡ with_added now path v) → OnOk r (more ≡ first_made now path top) → OnErr r (new ≡ now) → OnErr r (more ≡ top) → IsGrown old new path more (length path)
grown_added (Ok x) old now new path v top more is grown left first kept same = grown_whole old now new path v top more is grown left first
grown_added (Err e) old now new path v top more is grown left first kept same =
    let M : Nodes → Type 0 = λ m. IsGrown old m path more (length path) in
    let N : Option ℕ → Type 0 = λ t. IsGrown old now path t (length path) in
    subst M (sym kept) (subst N (sym same) grown)
