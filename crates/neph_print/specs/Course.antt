-- A transcript in its course.
use Rattle.std.specs.Prelude.{◌≡◌, ℕ, List, [], ◌∷◌, ◌++◌, codes, option_to_list}
use Rattle.neph_base.specs.declared.reply.Noted.{Noted}
use Rattle.neph_model.specs.declared.script.Script.{Script}
use Rattle.neph_model.specs.Step.{actor, child_made}
use Rattle.neph_model.specs.Transcript.{families_after, history_text, start_families}
use Rattle.neph_print.specs.Texts.{AreTexts}
use Rattle.neph_print.specs.declared.transcript.Transcript.{Transcript}

-- the families behind some entries
abbrev pub families_behind : List ℕ → List Noted → List ℕ
families_behind families [] = families
families_behind families (x ∷ xs) =
    families_behind (families_after families (actor x.entry) (child_made x.entry x.reply)) xs

-- the lines of these entries are put, from the first line of a transcript on
pub record HasPut (s : Script) (t : Transcript) (history : List Noted) : Type 0 where
  pub text : t.text.items ≡ codes "transcript 1\n" ++ history_text s start_families history
  pub families : t.families ≡ families_behind start_families history
  pub texts : AreTexts s t.texts

-- the transcript tells these entries: the lines of all of them are put, but that of the latest may
-- wait
pub record Tells (s : Script) (t : Transcript) (history : List Noted) : Type 0 where
  pub put : List Noted
  pub has_put : HasPut s t put
  pub whole : history ≡ put ++ option_to_list t.latest

-- it tells some entries
abbrev pub IsTelling : Script → Transcript → Type 0
IsTelling s t = (history : List Noted) × Tells s t history
