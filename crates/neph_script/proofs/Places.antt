-- Places by name, in a map and in a list.
use Rattle.std.proofs.Common.{◌≡◌, ℕ, ◌+◌, ◌≤◌, Bool, true, false, cond, List, [], ◌∷◌, ◌++◌, length, Option, Some, None, refl, sym, ap, ◌∙◌, arith}
use Rattle.std.specs.List.{position_or_len}
use Rattle.std.specs.Prelude.{not}
use Rattle.std.proofs.lemmas.List.Sums.{prefix_len-le-length}
use Rattle.std.proofs.lemmas.List.{length-append}
use Rattle.std.proofs.Common.{Ordering, Less, Equal, Greater}
use Rattle.std.specs.Prelude.{if◌then◌else◌, position}
use Rattle.std.proofs.Math.Dec.{eqb, ltb}
use Rattle.std.proofs.lemmas.Bool.Decides.{nat_tests}
use Rattle.std.proofs.lemmas.List.Folds.{position_or_len_push}
use Rattle.neph_script.specs.Index.{place_after}
use Rattle.std.specs.Ordering.{nat_cmp, is_eq, match_ordering}
use Rattle.std.specs.Cmp.Lexicographic.{slice_cmp, texts_ties}
use Rattle.std.specs.Map.{lookup}
use Rattle.std.specs.Global.{Vec}
use Rattle.std.specs.BTreeMap.{is_at, insert_entry}
use Rattle.std.proofs.lemmas.Bool.{false≢true}
use Rattle.neph_command.specs.Words.{equals}
use Rattle.neph_command.proofs.Ranges.{equal_from, equal_to}

abbrev pub cmp : Vec ℕ → Vec ℕ → Ordering
cmp a b = slice_cmp nat_cmp a.items b.items

abbrev pub at_name : List ℕ → List (Vec ℕ × ℕ) → Option ℕ
at_name q es = lookup (λ (k : Vec ℕ). equals q k.items) es

pub same_lookup : (q : List ℕ) (es : List (Vec ℕ × ℕ)) → lookup (is_at (λ (k : Vec ℕ). slice_cmp nat_cmp q k.items)) es ≡ at_name q es
same_lookup q [] = refl
same_lookup q (e ∷ es) =
    ap (λ (t : Bool). cond t (Some e.1) (lookup (is_at (λ (k : Vec ℕ). slice_cmp nat_cmp q k.items)) es)) (sym (texts_ties q e.0.items)) ∙ ap (λ (o : Option ℕ). cond (equals q e.0.items) (Some e.1) o) (same_lookup q es)

-- what a list with one more entry shows at a name
abbrev Shows : List ℕ → Vec ℕ → ℕ → List (Vec ℕ × ℕ) → List (Vec ℕ × ℕ) → Type 0
Shows q k v old new = at_name q new ≡ (if equals q k.items then Some v else at_name q old)

again : (b : Bool) (x y z : Option ℕ) → cond b x y ≡ cond b x (cond b z y)
again true x y z = refl
again false x y z = refl

replaced : (q : List ℕ) (k : Vec ℕ) (v : ℕ) (e : Vec ℕ × ℕ) (es : List (Vec ℕ × ℕ)) → is_eq (cmp k e.0) ≡ true → Shows q k v (e ∷ es) ((e.0, v) ∷ es)
replaced q k v e es is =
    let same : e.0.items ≡ k.items = sym (equal_from k.items e.0.items (texts_ties k.items e.0.items ∙ is)) in
    ap (λ (x : List ℕ). cond (equals q x) (Some v) (at_name q es)) same ∙ again (equals q k.items) (Some v) (at_name q es) (Some e.1)
    ∙ ap (λ (x : List ℕ). cond (equals q k.items) (Some v) (cond (equals q x) (Some e.1) (at_name q es))) (sym same)

behind : (q : List ℕ) (k : Vec ℕ) (v : ℕ) (e : Vec ℕ × ℕ) (es more : List (Vec ℕ × ℕ)) → is_eq (cmp k e.0) ≡ false → Shows q k v es more → Shows q k v (e ∷ es) (e ∷ more)
behind q k v e es more apart h = at (equals q e.0.items) refl (equals q k.items) refl where
  at : (t : Bool) → equals q e.0.items ≡ t → (u : Bool) → equals q k.items ≡ u → cond t (Some e.1) (at_name q more) ≡ (if u then Some v else cond t (Some e.1) (at_name q es))
  at true is true mine =
      let same : k.items ≡ e.0.items = sym (equal_from q k.items mine) ∙ equal_from q e.0.items is in
      absurd (false≢true (sym apart ∙ sym (texts_ties k.items e.0.items) ∙ equal_to k.items e.0.items same))
  at true is false mine = refl
  at false is u mine = h ∙ ap (λ (b : Bool). if b then Some v else at_name q es) mine

pub one_put : (q : List ℕ) (k : Vec ℕ) (v : ℕ) (es : List (Vec ℕ × ℕ)) → Shows q k v es (insert_entry cmp es k v)
one_put q k v [] = refl
one_put q k v (e ∷ es) = at (cmp k e.0) refl (one_put q k v es) where
  at : (o : Ordering) → cmp k e.0 ≡ o → Shows q k v es (insert_entry cmp es k v) → Shows q k v (e ∷ es) (match_ordering o ((k, v) ∷ e ∷ es) ((e.0, v) ∷ es) (e ∷ insert_entry cmp es k v))
  at Less is h = refl
  at Equal is h = replaced q k v e es (ap is_eq is)
  at Greater is h = behind q k v e es (insert_entry cmp es k v) (ap is_eq is) h

pub put_new : (old : List ℕ → Option ℕ) (q name : List ℕ) (place : ℕ) → old name ≡ None → (if equals q name then Some place else old q) ≡ place_after (old q) (equals q name) place
put_new old q name place none = at (equals q name) refl where
  at : (b : Bool) → equals q name ≡ b → (if b then Some place else old q) ≡ place_after (old q) b place
  at true e = ap (λ (o : Option ℕ). place_after o true place) (sym none ∙ ap old (sym (equal_from q name e)))
  at false e = unmoved (old q) where
    unmoved : (o : Option ℕ) → o ≡ place_after o false place
    unmoved None = refl
    unmoved (Some p) = refl

pub put_old : (old : List ℕ → Option ℕ) (q name : List ℕ) (place p : ℕ) → old name ≡ Some p → old q ≡ place_after (old q) (equals q name) place
put_old old q name place p some = at (equals q name) refl where
  at : (b : Bool) → equals q name ≡ b → old q ≡ place_after (old q) b place
  at true e = let is : old q ≡ Some p = ap old (equal_from q name e) ∙ some in is ∙ ap (λ (o : Option ℕ). place_after o true place) (sym is)
  at false e = unmoved (old q) where
    unmoved : (o : Option ℕ) → o ≡ place_after o false place
    unmoved None = refl
    unmoved (Some p) = refl

one_position : (k n m : ℕ) (b : Bool) → k ≤ n → m ≡ cond (eqb k n) (n + cond b 0 1) k → cond (ltb m (n + 1)) (Some m) None ≡ place_after (cond (ltb k n) (Some k) None) b n
one_position k n m true le e = grind (arith, nat_tests)
one_position k n m false le e = grind (arith, nat_tests)

-- the position in a list with one more at its end
pub position_push : {X : Type 0} (p : X → Bool) (xs : List X) (y : X) → position p (xs ++ y ∷ []) ≡ place_after (position p xs) (p y) (length xs)
position_push p xs y =
    ap (λ (n : ℕ). cond (ltb (position_or_len p (xs ++ y ∷ [])) n) (Some (position_or_len p (xs ++ y ∷ []))) None) (length-append xs (y ∷ []))
    ∙ one_position (position_or_len p xs) (length xs) (position_or_len p (xs ++ y ∷ [])) (p y) (prefix_len-le-length (λ x. not (p x)) xs) (position_or_len_push p xs y)

-- an index of a list's names, after one was put, shows the list with one more
pub index_push : {X : Type 0} (name_of : X → List ℕ) (old new : List ℕ → Option ℕ) (xs ys : List X) (x : X) (key : List ℕ) (place : ℕ) → ((q : List ℕ) → old q ≡ position (λ y. equals q (name_of y)) xs)
    → ((q : List ℕ) → new q ≡ place_after (old q) (equals q key) place) → key ≡ name_of x → place ≡ length xs → ys ≡ xs ++ x ∷ [] → (q : List ℕ) → new q ≡ position (λ y. equals q (name_of y)) ys
index_push name_of old new xs ys x key place was put named at is q =
    rw is (put q ∙ ap (λ (o : Option ℕ). place_after o (equals q key) place) (was q) ∙ ap (λ (k : List ℕ). place_after (position (λ y. equals q (name_of y)) xs) (equals q k) place) named
    ∙ ap (λ (n : ℕ). place_after (position (λ y. equals q (name_of y)) xs) (equals q (name_of x)) n) at ∙ sym (position_push (λ y. equals q (name_of y)) xs x))
