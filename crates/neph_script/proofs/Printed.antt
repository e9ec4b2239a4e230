-- Lists that are printed in part.
use Rattle.std.proofs.Common.{◌≡◌, ℕ, ◌+◌, ◌/◌, ◌<◌, ◌≤◌, List, [], ◌∷◌, ◌++◌, length, get_or, take, drop, min, map, refl, sym, ap, ◌∙◌, arith, append_assoc}
use Rattle.std.specs.Prelude.{◌⊎◌, codes}
use Rattle.std.proofs.Common.{Bool, true, false, inl, inr}
use Rattle.std.proofs.Math.Dec.{leb}
use Rattle.std.proofs.lemmas.Bool.{leb-true, leb-false}
use native.Mathlib.Numerals.{unary_clauses}
use Rattle.std.specs.List.{flat_map}
use Rattle.std.proofs.lemmas.List.{append-nil, take_all, drop_all, length-drop, at_drop_more}
use Rattle.std.proofs.lemmas.List.Concat.{flat_map-append}
use Rattle.neph_script.specs.Text.{line_text, lines_text, groups, turn_groups, program_head, end_words}
use Rattle.neph_base.specs.declared.reply.Actor.{Actor}
use Rattle.neph_model.specs.Words.{spaced}
use Rattle.neph_script.specs.Spelling.{actor_word, turns_words}

-- actors, each with a space before it
abbrev pub spaced_actors : List Actor → List ℕ
spaced_actors [] = []
spaced_actors (a ∷ as') = 32 ∷ (actor_word a ++ spaced_actors as')

pub joined : (w : List ℕ) (actors : List Actor) → spaced (w ∷ map actor_word actors) ≡ w ++ spaced_actors actors
joined w [] = sym (append-nil w)
joined w (a ∷ rest) = ap (λ (xs : List ℕ). w ++ 32 ∷ xs) (joined (actor_word a) rest)

pub lines_append : (xs ys : List (List (List ℕ))) → lines_text (xs ++ ys) ≡ lines_text xs ++ lines_text ys
lines_append xs ys = flat_map-append line_text xs ys

one_group : (k : ℕ) (rest : List Actor) → k ≡ (length (drop 64 rest) + 63) / 64 → groups (k + 1) rest ≡ take 64 rest ∷ turn_groups (drop 64 rest)
one_group k rest is = simp unary_clauses (ap (λ (n : ℕ). take 64 rest ∷ groups n (drop 64 rest)) is)

pub group_more : (rest : List Actor) → 0 < length rest → turn_groups rest ≡ take 64 rest ∷ turn_groups (drop 64 rest)
group_more rest some =
    let k = (length (drop 64 rest) + 63) / 64 in
    let count : (length rest + 63) / 64 ≡ k + 1 = omega (arith, length-drop 64 rest) in
    ap (λ (n : ℕ). groups n rest) count ∙ one_group k rest refl

nat_split : (a b : ℕ) → (a ≤ b) ⊎ (b < a)
nat_split a b = by (leb a b) refl where
  by : (t : Bool) → leb a b ≡ t → (a ≤ b) ⊎ (b < a)
  by true e = inl (leb-true a b e)
  by false e = inr (leb-false a b e)

min_take : (rest : List Actor) → (take (min (length rest) 64) rest ≡ take 64 rest) × (drop (min (length rest) 64) rest ≡ drop 64 rest)
min_take rest = by (nat_split (length rest) 64) where
  by : (length rest ≤ 64) ⊎ (64 < length rest) → (take (min (length rest) 64) rest ≡ take 64 rest) × (drop (min (length rest) 64) rest ≡ drop 64 rest)
  by (inl few) =
      let m : min (length rest) 64 ≡ length rest = omega arith in
      (ap (λ (n : ℕ). take n rest) m ∙ take_all (length rest) rest (omega arith) ∙ sym (take_all 64 rest few), ap (λ (n : ℕ). drop n rest) m ∙ drop_all (length rest) rest (omega arith) ∙ sym (drop_all 64 rest few))
  by (inr many) = let m : min (length rest) 64 ≡ 64 = omega arith in (ap (λ (n : ℕ). take n rest) m, ap (λ (n : ℕ). drop n rest) m)

pub group_step : (rest group more : List Actor) → 0 < length rest → group ≡ take (min (length rest) 64) rest → more ≡ drop (min (length rest) 64) rest → turn_groups rest ≡ group ∷ turn_groups more
group_step rest group more some p q =
    let m = min_take rest in
    group_more rest some ∙ ap (λ (g : List Actor). g ∷ turn_groups (drop 64 rest)) (sym (p ∙ m.0)) ∙ ap (λ (r : List Actor). group ∷ turn_groups r) (sym (q ∙ m.1))

pub group_printed : (out now : List ℕ) (all : List ℕ) (rest group more : List Actor) → 0 < length rest → group ≡ take (min (length rest) 64) rest → more ≡ drop (min (length rest) 64) rest
    → out ++ lines_text (map turns_words (turn_groups rest)) ≡ all → now ≡ out ++ line_text (turns_words group) → now ++ lines_text (map turns_words (turn_groups more)) ≡ all
group_printed out now all rest group more some p q so is =
    ap (λ (xs : List ℕ). xs ++ lines_text (map turns_words (turn_groups more))) is ∙ append_assoc out (line_text (turns_words group)) (lines_text (map turns_words (turn_groups more)))
    ∙ ap (λ (gs : List (List Actor)). out ++ lines_text (map turns_words gs)) (sym (group_step rest group more some p q)) ∙ so

-- a program's text is put in pieces
pub program_put : (out o1 o2 o3 o4 o5 name : List ℕ) (body : List (List (List ℕ))) → o1 ≡ out ++ codes "program " → o2 ≡ o1 ++ name → o3 ≡ o2 ++ codes "\n" → o4 ≡ o3 ++ lines_text body → o5 ≡ o4 ++ codes "end\n"
    → o5 ≡ out ++ lines_text (program_head name ∷ (body ++ end_words ∷ []))
program_put out o1 o2 o3 o4 o5 name body e1 e2 e3 e4 e5 =
    let head = line_text (program_head name) in
    let texts = lines_text body in
    let last = codes "end\n" in
    let three : o3 ≡ out ++ head = e3 ∙ ap (λ (xs : List ℕ). xs ++ codes "\n") (e2 ∙ ap (λ (xs : List ℕ). xs ++ name) e1 ∙ append_assoc out (codes "program ") name) ∙ append_assoc out (codes "program " ++ name) (codes "\n") in
    e5 ∙ ap (λ (xs : List ℕ). xs ++ last) (e4 ∙ ap (λ (xs : List ℕ). xs ++ texts) three) ∙ append_assoc (out ++ head) texts last ∙ append_assoc out head (texts ++ last)
    ∙ ap (λ (xs : List ℕ). out ++ (head ++ xs)) (sym (lines_append body (end_words ∷ [])))

-- the lines of a list, of which one more element was printed
pub more_printed : {X : Type 0} (f : X → List (List (List ℕ))) (xs : List X) (i : ℕ) (x : X) (out now all : List ℕ) → out ++ lines_text (flat_map f (drop i xs)) ≡ all → i < length xs → x ≡ get_or xs i x → now ≡ out ++ lines_text (f x)
    → now ++ lines_text (flat_map f (drop (i + 1) xs)) ≡ all
more_printed {X = X} f xs i x out now all so lt at is =
    ap (λ (ys : List ℕ). ys ++ lines_text (flat_map f (drop (i + 1) xs))) is ∙ append_assoc out (lines_text (f x)) (lines_text (flat_map f (drop (i + 1) xs)))
    ∙ ap (λ (ys : List ℕ). out ++ ys) (sym (lines_append (f x) (flat_map f (drop (i + 1) xs)))) ∙ ap (λ (y : X). out ++ lines_text (f y ++ flat_map f (drop (i + 1) xs))) at
    ∙ ap (λ (ys : List ℕ). out ++ ys) (sym (at_drop_more (λ ys. lines_text (flat_map f ys)) xs i x lt)) ∙ so
