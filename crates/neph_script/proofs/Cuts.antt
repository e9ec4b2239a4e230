-- A text, cut at the first place of a byte.
use Rattle.std.proofs.Common.{◌≡◌, ℕ, zero, suc, ◌+◌, ◌<◌, ◌==◌, Bool, true, false, List, [], ◌∷◌, ◌++◌, length, take, drop, get_or, map, refl, sym, ap, ◌∙◌, arith, append_assoc}
use Rattle.std.specs.List.{slice_split, onto_first}
use Rattle.std.proofs.lemmas.Bool.Decides.{nat_tests}
use Rattle.std.proofs.lemmas.List.{map-append}
use Rattle.std.proofs.lemmas.List.Splits.{slice_split-cons_yes, slice_split-cons_no, length-slice_split}
use Rattle.neph_script.specs.Grammar.{parts_at, lines, without_empty_end}

-- a byte that is not c, in front of parts
abbrev IsAway : ℕ → List ℕ → ℕ → Type 0
IsAway c text k = (get_or text k 0 == c) ≡ true → ⊥

not_true : (b : Bool) → (b ≡ true → ⊥) → b ≡ false
not_true true h = absurd (h refl)
not_true false h = refl

pub cut_here : (c : ℕ) (text : List ℕ) (at : ℕ) → at < length text → ((k : ℕ) → k < at → IsAway c text k) → (get_or text at 0 == c) ≡ true → parts_at c text ≡ take at text ∷ parts_at c (drop (at + 1) text)
cut_here c [] at lt away here = absurd (omega arith)
cut_here c (x ∷ xs) zero lt away here = slice_split-cons_yes (λ b. b == c) x xs here
cut_here c (x ∷ xs) (suc at) lt away here =
    slice_split-cons_no (λ b. b == c) x xs (not_true _ (away 0 (omega arith)))
    ∙ ap (onto_first x) (cut_here c xs at (omega arith) (λ k h. away (suc k) (omega arith)) here)
    ∙ (let next : suc (at + 1) ≡ suc at + 1 = omega arith in ap (λ (k : ℕ). (x ∷ take at xs) ∷ parts_at c (drop k (x ∷ xs))) next)

pub cut_nowhere : (c : ℕ) (text : List ℕ) → ((k : ℕ) → k < length text → IsAway c text k) → parts_at c text ≡ text ∷ []
cut_nowhere c [] away = refl
cut_nowhere c (x ∷ xs) away = slice_split-cons_no (λ b. b == c) x xs (not_true _ (away 0 (omega arith))) ∙ ap (onto_first x) (cut_nowhere c xs (λ k h. away (suc k) (omega arith)))

some_part : (p : ℕ → Bool) (xs : List ℕ) → 0 < length (slice_split p xs)
some_part p xs = omega (arith, length-slice_split p xs)

pub line_more : (text first more : List ℕ) → parts_at 10 text ≡ first ∷ parts_at 10 more → lines text ≡ first ∷ lines more
line_more text first more e = ap without_empty_end e ∙ kept (parts_at 10 more) (some_part _ more) where
  kept : (ps : List (List ℕ)) → 0 < length ps → without_empty_end (first ∷ ps) ≡ first ∷ without_empty_end ps
  kept [] h = absurd (omega arith)
  kept (p ∷ ps) h = refl

last_kept : (x : List ℕ) → 0 < length x → without_empty_end (x ∷ []) ≡ x ∷ []
last_kept x some = grind (arith, nat_tests)

pub line_last : (text : List ℕ) → 0 < length text → parts_at 10 text ≡ text ∷ [] → lines text ≡ text ∷ lines []
line_last [] some e = absurd (omega arith)
line_last (x ∷ xs) some e = ap without_empty_end e ∙ last_kept (x ∷ xs) some

-- one more word in front of those that are left
pub word_more : {X : Type 0} (f : X → List ℕ) (front words : List X) (word : X) (line rest more : List ℕ) → map f front ++ parts_at 32 rest ≡ parts_at 32 line → parts_at 32 rest ≡ f word ∷ parts_at 32 more
    → words ≡ front ++ word ∷ [] → map f words ++ parts_at 32 more ≡ parts_at 32 line
word_more {X = X} f front words word line rest more so e is =
    ap (λ (ws : List X). map f ws ++ parts_at 32 more) is ∙ ap (λ (ws : List (List ℕ)). ws ++ parts_at 32 more) (map-append f front (word ∷ [])) ∙ append_assoc (map f front) (f word ∷ []) (parts_at 32 more)
    ∙ ap (λ (ws : List (List ℕ)). map f front ++ ws) (sym e) ∙ so

pub word_last : {X : Type 0} (f : X → List ℕ) (front words : List X) (word : X) (line : List ℕ) → map f front ++ parts_at 32 (f word) ≡ parts_at 32 line → parts_at 32 (f word) ≡ f word ∷ []
    → words ≡ front ++ word ∷ [] → map f words ≡ parts_at 32 line
word_last f front words word line so e is = ap (map f) is ∙ map-append f front (word ∷ []) ∙ ap (λ (ws : List (List ℕ)). map f front ++ ws) (sym e) ∙ so
