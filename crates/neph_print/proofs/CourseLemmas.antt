-- One entry more.
use Rattle.std.proofs.Common.{◌≡◌, ℕ, Bool, List, [], ◌∷◌, ◌++◌, Option, None, Some, refl, sym, ap, subst, ◌∙◌, append_assoc}
use Rattle.std.specs.Prelude.{codes, slice_index, option_to_list}
use Rattle.std.proofs.lemmas.List.{append-nil}
use Rattle.neph_base.specs.declared.reply.Noted.{Noted}
use Rattle.neph_model.specs.declared.script.Script.{Script}
use Rattle.neph_model.specs.Frames.{Counts}
use Rattle.neph_model.specs.Step.{actor, child_made}
use Rattle.neph_model.specs.Transcript.{end_line, entry_line, families_after, frames_line, history_text, start_families, transcript}
use Rattle.neph_print.specs.declared.transcript.Transcript.{Transcript}
use Rattle.neph_print.specs.Texts.{AreTexts}
use Rattle.neph_print.specs.Course.{families_behind, HasPut, Tells}

families_more : (families : List ℕ) (xs : List Noted) (x : Noted) → families_behind families (xs ++ x ∷ []) ≡ families_after (families_behind families xs) (actor x.entry) (child_made x.entry x.reply)
families_more families [] x = refl
families_more families (y ∷ ys) x = families_more (families_after families (actor y.entry) (child_made y.entry y.reply)) ys x

-- the line of an entry behind some others, by the families behind them
abbrev line_behind : Script → List ℕ → List Noted → Noted → List ℕ
line_behind s families xs x = entry_line s (slice_index (families_behind families xs) (actor x.entry)) x.entry x.reply

history_more : (s : Script) (families : List ℕ) (xs : List Noted) (x : Noted) → history_text s families (xs ++ x ∷ []) ≡ history_text s families xs ++ line_behind s families xs x
history_more s families [] x = append-nil (line_behind s families [] x)
history_more s families (y ∷ ys) x =
    let line = entry_line s (slice_index families (actor y.entry)) y.entry y.reply in
    let later = families_after families (actor y.entry) (child_made y.entry y.reply) in
    ap (λ (text : List ℕ). line ++ text) (history_more s later ys x) ∙ sym (append_assoc line (history_text s later ys) (line_behind s later ys x))

module _ (s : Script) (old new : Transcript) (x : Noted) where
  one_put : (put : List Noted) → HasPut s old put → new.text.items ≡ old.text.items ++ entry_line s (slice_index old.families (actor x.entry)) x.entry x.reply
      → new.families ≡ families_after old.families (actor x.entry) (child_made x.entry x.reply) → AreTexts s new.texts → HasPut s new (put ++ x ∷ [])
  one_put put h text families texts = record {
    text = text ∙ ap (λ (fs : List ℕ). old.text.items ++ entry_line s (slice_index fs (actor x.entry)) x.entry x.reply) h.families
        ∙ ap (λ (xs : List ℕ). xs ++ line_behind s start_families put x) h.text
        ∙ append_assoc (codes "transcript 1\n") (history_text s start_families put) (line_behind s start_families put x)
        ∙ ap (λ (xs : List ℕ). codes "transcript 1\n" ++ xs) (sym (history_more s start_families put x));
    families = families ∙ ap (λ (fs : List ℕ). families_after fs (actor x.entry) (child_made x.entry x.reply)) h.families ∙ sym (families_more start_families put x);
    texts = texts;
  }

  -- the latest entry's line is put
  pub latest_put : (history : List Noted) → Tells s old history → old.latest ≡ Some x → new.latest ≡ None
      → new.text.items ≡ old.text.items ++ entry_line s (slice_index old.families (actor x.entry)) x.entry x.reply
      → new.families ≡ families_after old.families (actor x.entry) (child_made x.entry x.reply) → AreTexts s new.texts → Tells s new history
  latest_put history h some none text families texts = record {
    put = h.put ++ x ∷ [];
    has_put = one_put h.put h.has_put text families texts;
    whole = h.whole ∙ ap (λ (o : Option Noted). h.put ++ option_to_list o) some ∙ sym (append-nil (h.put ++ x ∷ [])) ∙ ap (λ (o : Option Noted). (h.put ++ x ∷ []) ++ option_to_list o) (sym none);
  }

-- where no line is put, and the texts of lines stay such, the same is told
pub tells_still : (s : Script) (old new : Transcript) (history : List Noted) → Tells s old history → new.text.items ≡ old.text.items → new.families ≡ old.families → new.latest ≡ old.latest → AreTexts s new.texts → Tells s new history
tells_still s old new history h text families latest texts = record {
  put = h.put;
  has_put = record { text = text ∙ h.has_put.text; families = families ∙ h.has_put.families; texts = texts };
  whole = h.whole ∙ ap (λ (o : Option Noted). h.put ++ option_to_list o) (sym latest);
}

-- where no entry waits, the lines of all are put
pub all_put : (s : Script) (t : Transcript) (history : List Noted) → Tells s t history → t.latest ≡ None → HasPut s t history
all_put s t history h none =
    let whole : history ≡ h.put = h.whole ∙ ap (λ (o : Option Noted). h.put ++ option_to_list o) none ∙ append-nil h.put in
    subst (HasPut s t) (sym whole) h.has_put

-- the lines of all entries, that of the frames and the last one are the transcript
pub whole_text : (s : Script) (history : List Noted) (c : Counts) (stalled : Bool) (lines framed text : List ℕ) → lines ≡ codes "transcript 1\n" ++ history_text s start_families history
    → framed ≡ lines ++ frames_line c → text ≡ framed ++ end_line stalled → text ≡ transcript s history c stalled
whole_text s history c stalled lines framed text first second third =
    third ∙ ap (λ (xs : List ℕ). xs ++ end_line stalled) (second ∙ ap (λ (xs : List ℕ). xs ++ frames_line c) first)
