-- What holds of what was read after each line.
use Rattle.std.proofs.Common.{◌≡◌, ℕ, ◌+◌, Bool, true, false, cond, List, [], ◌∷◌, Result, Ok, Err, refl, subst}
use Rattle.neph_model.specs.declared.script.Script.{Script}
use Rattle.neph_script.specs.declared.state.Item.{Item}
use Rattle.neph_command.specs.declared.why.Why.{Why}
use Rattle.neph_command.specs.declared.why.Why.TheVariants as why
use Rattle.neph_script.specs.declared.why.BadScript.{BadScript}
use Rattle.neph_script.specs.State.{Read, script_read}
use Rattle.neph_script.specs.Lines.{judged, taken}
use Rattle.neph_script.specs.Spelling.{Stands}
use Rattle.neph_script.specs.Grammar.{words, is_text, is_skipped, with_words, with_line, may_end, read_on, read_lines}
use Rattle.neph_command.proofs.Inverse.{bind_ok, let_in, same_ok}
use Rattle.neph_script.proofs.LineLaws.{judged_stands}

-- a line that was taken: it was skipped, or it says something
pub record Takes (r : Read) (line : List ℕ) (next : Read) (i : Item) : Type 0 where
  pub said : judged r (words line) ≡ Ok i
  pub stands : Stands r (words line) i
  pub next_is : taken r i ≡ next

pub by_line : (r : Read) (line : List ℕ) (next : Read) (P : Type 0) → with_line r line ≡ Ok next → (is_text line ≡ true → is_skipped line ≡ true → r ≡ next → P)
    → (is_text line ≡ true → is_skipped line ≡ false → (i : Item) → Takes r line next i → P) → P
by_line r line next P e skip take = at (is_skipped line) refl text.1 where
  text : (is_text line ≡ true) × ((cond (is_skipped line) (Ok r) (with_words r (words line))) ≡ Ok next)
  text = let_in (is_text line) why.Bytes (cond (is_skipped line) (Ok r) (with_words r (words line))) next e

  at : (b : Bool) → is_skipped line ≡ b → cond b (Ok r) (with_words r (words line)) ≡ Ok next → P
  at true is h = skip text.0 is (same_ok r next h)
  at false is h =
      let one = bind_ok (judged r (words line)) (λ i. Ok (taken r i)) next h in
      take text.0 is one.value (record { said = one.first; stands = judged_stands r (words line) one.value one.first; next_is = same_ok (taken r one.value) next one.rest })

-- the lines of a text were read up to a place where it may end
pub record Ends (P : Read → Type 0) (s : Script) : Type 0 where
  pub last : Read
  pub holds : P last
  pub may : may_end last.place ≡ true
  pub is : script_read last ≡ s

pub ok_or_bad : (b : Bool) (r : Read) (bad : BadScript) (s : Script) → ◌≡◌ {A = Result Script BadScript} (cond b (Ok (script_read r)) (Err bad)) (Ok s) → (b ≡ true) × (script_read r ≡ s)
ok_or_bad true r bad s e = (refl, cc)
ok_or_bad false r bad s e = absurd cc

pub line_or_bad : (n : ℕ) (o : Result Read Why) (rest : Read → Result Script BadScript) (s : Script) → read_on n o rest ≡ Ok s → (r : Read) × (o ≡ Ok r) × (rest r ≡ Ok s)
line_or_bad n (Ok r) rest s e = (r, refl, e)
line_or_bad n (Err w) rest s e = absurd cc

-- a line of text that isn't skipped, and what it says
pub record SaysThis (r : Read) (line : List ℕ) (i : Item) : Type 0 where
  pub text : is_text line ≡ true
  pub kept : is_skipped line ≡ false
  pub said : judged r (words line) ≡ Ok i
  pub stands : Stands r (words line) i

pub folded_lines : (P : Read → Type 0) → ((r : Read) (line : List ℕ) (i : Item) → P r → SaysThis r line i → P (taken r i)) → (n : ℕ) (r : Read) (ls : List (List ℕ)) (s : Script) → P r → read_lines n r ls ≡ Ok s → Ends P s
folded_lines P keeps n r [] s p e = let h = ok_or_bad (may_end r.place) r (record { line = n; why = why.Missing }) s e in record { last = r; holds = p; may = h.0; is = h.1 }
folded_lines P keeps n r (line ∷ more) s p e =
    let one = line_or_bad n (with_line r line) (λ next. read_lines (n + 1) next more) s e in
    let holds : P one.0 = by_line r line one.0 (P one.0) one.1 (λ t k same. subst P same p) (λ t k i t'. subst P t'.next_is (keeps r line i p (record { text = t; kept = k; said = t'.said; stands = t'.stands }))) in
    folded_lines P keeps (n + 1) one.0 more s holds one.2

pub folded : (P : Read → Type 0) → ((r : Read) (ws : List (List ℕ)) (i : Item) → P r → Stands r ws i → P (taken r i)) → (n : ℕ) (r : Read) (ls : List (List ℕ)) (s : Script) → P r → read_lines n r ls ≡ Ok s → Ends P s
folded P keeps n r ls s p e = folded_lines P (λ r line i p h. keeps r (words line) i p h.stands) n r ls s p e
