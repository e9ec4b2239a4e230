-- Which bytes spell a script, line by line, and which line is the first that can't stand.
use Rattle.std.specs.Prelude.{◌≡◌, ℕ, ◌+◌, Bool, true, false, List, [], ◌∷◌, ◌++◌, length, Err}
use Rattle.neph_model.specs.declared.script.Script.{Script}
use Rattle.neph_script.specs.State.{Read, nothing_read, script_read}
use Rattle.neph_script.specs.Lines.{taken}
use Rattle.neph_script.specs.Spelling.{Stands}
use Rattle.neph_script.specs.Grammar.{words, lines, is_text, is_skipped, may_end, with_line}
use Rattle.neph_script.specs.declared.state.Item.{Item}
use Rattle.neph_command.specs.declared.why.Why.{Why}
use Rattle.neph_command.specs.declared.why.Why.TheVariants as why
use Rattle.neph_script.specs.declared.why.BadScript.{BadScript}

-- a line that is skipped changes nothing; any other says something that may be said there
abbrev pub IsNext : Bool → Read → List ℕ → Read → Type 0
IsNext true r line next = r ≡ next
IsNext false r line next = (i : Item) × Stands r (words line) i × (taken r i ≡ next)

-- a line of text takes what was read to what is read next
pub record Takes (r : Read) (line : List ℕ) (next : Read) : Type 0 where
  pub text : is_text line ≡ true
  pub says : IsNext (is_skipped line) r line next

-- some lines do so one after another
abbrev pub Leads : Read → List (List ℕ) → Read → Type 0
Leads r [] last = r ≡ last
Leads r (line ∷ more) last = (next : Read) × Takes r line next × Leads next more last

-- these bytes spell this script
pub record Spells (bytes : List ℕ) (s : Script) : Type 0 where
  pub last : Read
  pub led : Leads nothing_read (lines bytes) last
  pub may : may_end last.place ≡ true
  pub is : script_read last ≡ s

-- A script is lawful where some bytes spell it.
abbrev pub IsLawful : Script → Type 0
IsLawful s = (bytes : List ℕ) × Spells bytes s

-- The first of these lines can't stand, or there is none where one must come.
abbrev pub CannotStand : Read → List (List ℕ) → Why → Type 0
CannotStand r [] w = (may_end r.place ≡ false) × (w ≡ why.Missing)
CannotStand r (line ∷ more) w = with_line r line ≡ Err w

-- The lines before a fault stand. Behind them a line can't stand for this reason, or the text ends
-- where a line must come.
pub record IsFault (bytes : List ℕ) (bad : BadScript) : Type 0 where
  pub front : List (List ℕ)
  pub rest : List (List ℕ)
  pub r : Read
  pub all : lines bytes ≡ front ++ rest
  pub number : bad.line ≡ length front + 1
  pub led : Leads nothing_read front r
  pub fault : CannotStand r rest bad.why
