-- The texts of lines that were put together before.
use Rattle.std.specs.Prelude.{◌≡◌, ℕ, ◌<◌, ◌≤◌, List, ◌++◌, length, All, codes, slice_range}
use Rattle.std.specs.Fmt.{decimal}
use Rattle.neph_model.specs.declared.script.Script.{Script}
use Rattle.neph_model.specs.Programs.{program_at}
use Rattle.neph_model.specs.Transcript.{command_text}
use Rattle.neph_print.specs.declared.texts.LineTexts.{LineTexts}
use Rattle.neph_print.specs.declared.texts.TextPlace.{TextPlace}

-- what stands in the line of an entry between its domain and its reply, by the program and the
-- line of its command
abbrev pub line_text : Script → ℕ → ℕ → List ℕ
line_text s program line =
    codes ":" ++ decimal line ++ codes " " ++ command_text (program_at s program) line
    ++ codes " = "

-- the text of this line stands at its place, if it has one
pub record StandsAt (s : Script) (text : List ℕ) (p : TextPlace) : Type 0 where
  pub ordered : p.start ≤ p.end
  pub within : p.end ≤ length text
  pub shown : 0 < p.end
      → slice_range text p.start p.end ≡ line_text s p.program p.line

-- each place has the text of its line
abbrev pub AreTexts : Script → LineTexts → Type 0
AreTexts s texts = All (StandsAt s texts.text.items) texts.places
