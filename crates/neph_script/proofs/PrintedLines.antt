-- The lines of a text of which each byte may stand in lines.
use Rattle.std.proofs.Common.{◌≡◌, ℕ, ◌==◌, Bool, true, false, cond, List, [], ◌∷◌, length, All, refl, subst}
use Rattle.std.specs.Prelude.{◌&&◌, ◌||◌}
use Rattle.std.specs.List.{list_all, onto_first}
use Rattle.std.proofs.lemmas.List.Elements.{All-nil, All-cons, All-head, All-tail}
use Rattle.neph_script.specs.Grammar.{parts_at, lines, without_empty_end, is_printed}
use Rattle.neph_script.specs.Bytes.{may_stand_in_lines}

abbrev pub IsPrintedLine : List ℕ → Type 0
IsPrintedLine line = list_all is_printed line ≡ true

both : (a b : Bool) → (a && b) ≡ true → (a ≡ true) × (b ≡ true)
both true b e = (refl, e)
both false b e = absurd cc

joined : (a b : Bool) → a ≡ true → b ≡ true → (a && b) ≡ true
joined true b p q = q
joined false b p q = absurd cc

onto_printed : (x : ℕ) (ps : List (List ℕ)) → is_printed x ≡ true → All IsPrintedLine ps → All IsPrintedLine (onto_first x ps)
onto_printed x [] is h = All-cons IsPrintedLine (x ∷ []) [] (joined (is_printed x) true is refl) (All-nil IsPrintedLine)
onto_printed x (p ∷ ps) is h = All-cons IsPrintedLine (x ∷ p) ps (joined (is_printed x) (list_all is_printed p) is (All-head IsPrintedLine p ps h)) (All-tail IsPrintedLine p ps h)

parts_printed : (text : List ℕ) → list_all may_stand_in_lines text ≡ true → All IsPrintedLine (parts_at 10 text)
parts_printed [] h = All-cons IsPrintedLine [] [] refl (All-nil IsPrintedLine)
parts_printed (x ∷ xs) h = let stand = both (may_stand_in_lines x) (list_all may_stand_in_lines xs) h in at (x == 10) (is_printed x) refl stand.0 (parts_printed xs stand.1) where
  at : (end printed : Bool) → is_printed x ≡ printed → (printed || end) ≡ true → All IsPrintedLine (parts_at 10 xs) → All IsPrintedLine (cond end ([] ∷ parts_at 10 xs) (onto_first x (parts_at 10 xs)))
  at true printed is e rest = All-cons IsPrintedLine [] (parts_at 10 xs) refl rest
  at false true is e rest = onto_printed x (parts_at 10 xs) is rest
  at false false is e rest = absurd cc

ended_printed : (ps : List (List ℕ)) → All IsPrintedLine ps → All IsPrintedLine (without_empty_end ps)
ended_printed [] h = h
ended_printed (x ∷ []) h = at (length x == 0) where
  at : (b : Bool) → All IsPrintedLine (cond b [] (x ∷ []))
  at true = All-nil IsPrintedLine
  at false = h
ended_printed (x ∷ y ∷ more) h = All-cons IsPrintedLine x (without_empty_end (y ∷ more)) (All-head IsPrintedLine x (y ∷ more) h) (ended_printed (y ∷ more) (All-tail IsPrintedLine x (y ∷ more) h))

pub lines_printed : (text : List ℕ) → list_all may_stand_in_lines text ≡ true → All IsPrintedLine (lines text)
lines_printed text h = ended_printed (parts_at 10 text) (parts_printed text h)

pub first_printed : (all : List (List ℕ)) (first : List ℕ) (more : List (List ℕ)) → all ≡ first ∷ more → All IsPrintedLine all → IsPrintedLine first
first_printed all first more is h = All-head IsPrintedLine first more (subst (All IsPrintedLine) is h)

pub rest_printed : (all : List (List ℕ)) (first : List ℕ) (more : List (List ℕ)) → all ≡ first ∷ more → All IsPrintedLine all → All IsPrintedLine more
rest_printed all first more is h = All-tail IsPrintedLine first more (subst (All IsPrintedLine) is h)
