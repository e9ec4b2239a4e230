-- Which script a text spells, or its first line that can't stand and why.
use Rattle.std.specs.Prelude.{ℕ, ◌+◌, Bool, true, false, ◌&&◌, ◌||◌, ◌==◌, nat_le, if◌then◌else◌, List, [], ◌∷◌, length, Result, Ok, Err, slice_index}
use Rattle.std.specs.List.{slice_split, list_all}
use Rattle.neph_model.specs.declared.script.Script.{Script}
use Rattle.neph_command.specs.Words.{◌>>=◌}
use Rattle.neph_script.specs.Lines.{judged, taken}
use Rattle.neph_script.specs.State.{Read, nothing_read, script_read}
use Rattle.neph_script.specs.declared.state.Place.{Place}
use Rattle.neph_script.specs.declared.state.Place.TheVariants as place
use Rattle.neph_command.specs.declared.why.Why.{Why}
use Rattle.neph_command.specs.declared.why.Why.TheVariants as why
use Rattle.neph_script.specs.declared.why.BadScript.{BadScript}

-- what stands between the places of this byte
abbrev pub parts_at : ℕ → List ℕ → List (List ℕ)
parts_at c bytes = slice_split (λ b. b == c) bytes

-- the words of a line, parted by one space each
abbrev pub words : List ℕ → List (List ℕ)
words line = parts_at 32 line

-- behind the last line feed no line needs to stand
abbrev pub without_empty_end : List (List ℕ) → List (List ℕ)
without_empty_end [] = []
without_empty_end (x ∷ []) = if length x == 0 then [] else x ∷ []
without_empty_end (x ∷ y ∷ more) = x ∷ without_empty_end (y ∷ more)

-- The lines of a text. The last one may lack its line feed.
abbrev pub lines : List ℕ → List (List ℕ)
lines bytes = without_empty_end (parts_at 10 bytes)

-- a printed character of ASCII, or a space
abbrev pub is_printed : ℕ → Bool
is_printed b = nat_le 32 b && nat_le b 126

-- at most 8192 printed characters and spaces
abbrev pub is_text : List ℕ → Bool
is_text line = nat_le (length line) 8192 && list_all is_printed line

-- an empty line, or one that begins with #
abbrev pub is_skipped : List ℕ → Bool
is_skipped line = length line == 0 || slice_index line 0 == 35

-- what was read with one more line, which may be skipped
abbrev pub with_words : Read → List (List ℕ) → Result Read Why
with_words r ws = do
  i ← judged r ws
  Ok (taken r i)

abbrev pub with_line : Read → List ℕ → Result Read Why
with_line r line = if is_text line
    then (if is_skipped line then Ok r else with_words r (words line)) else Err why.Bytes

-- a text may end at this place
abbrev pub may_end : Place → Bool
may_end place.Started = true
may_end place.Turned = true
may_end _ = false

-- what was read is all, and the next line would have this number
abbrev pub ended : ℕ → Read → Result Script BadScript
ended n r = if may_end r.place then Ok (script_read r)
    else Err (record { line = n; why = why.Missing })

-- the lines from this number on
abbrev pub read_on : ℕ → Result Read Why → (Read → Result Script BadScript)
    → Result Script BadScript
read_on n (Ok r) rest = rest r
read_on n (Err w) rest = Err (record { line = n; why = w })

abbrev pub read_lines : ℕ → Read → List (List ℕ) → Result Script BadScript
read_lines n r [] = ended n r
read_lines n r (line ∷ more) = read_on n (with_line r line) (λ next. read_lines (n + 1) next more)

-- The script that a text spells. Lines are numbered from 1, skipped ones too.
unfoldable pub read_script : List ℕ → Result Script BadScript
read_script bytes = read_lines 1 nothing_read (lines bytes)
