-- What a line says at its place, or why it can't stand there.
use Rattle.std.specs.Prelude.{ℕ, ◌+◌, Bool, true, false, ◌||◌, nat_lt, nat_le, if◌then◌else◌, List, [], ◌∷◌, ◌++◌, length, codes, Option, None, Some, Result, Ok, Err, count_by, position}
use Rattle.std.specs.List.{list_all}
use Rattle.std.specs.Option.{ok_or}
use Rattle.neph_base.specs.declared.command.Command.{Command}
use Rattle.neph_base.specs.declared.command.Command.TheVariants as command
use Rattle.neph_base.specs.declared.reply.Actor.{Actor}
use Rattle.neph_model.specs.declared.script.Program.{Program}
use Rattle.neph_model.specs.declared.script.Label.{Label}
use Rattle.neph_model.specs.declared.script.Start.{Start}
use Rattle.neph_model.specs.Programs.{label_line}
use Rattle.neph_model.specs.WellFormed.{frames_of_starts}
use Rattle.neph_command.specs.Words.{◌>>=◌, equals, number, name}
use Rattle.neph_script.specs.Forms.{form_of, is_later}
use Rattle.neph_script.specs.Actors.{actor_named}
use Rattle.neph_command.specs.Commands.{command_said}
use Rattle.neph_script.specs.State.{Read, no_draft}
use Rattle.neph_command.specs.declared.command.Said.{Said}
use Rattle.neph_command.specs.declared.command.Said.TheVariants as said
use Rattle.neph_script.specs.declared.form.Form.{Form}
use Rattle.neph_script.specs.declared.form.Form.TheVariants as form
use Rattle.neph_script.specs.declared.state.Place.{Place}
use Rattle.neph_script.specs.declared.state.Place.TheVariants as place
use Rattle.neph_script.specs.declared.state.Item.{Item}
use Rattle.neph_script.specs.declared.state.Item.TheVariants as item
use Rattle.neph_command.specs.declared.why.Why.{Why}
use Rattle.neph_command.specs.declared.why.Why.TheVariants as why

-- Which forms may stand at a place: the heading, the frames, at least one program, at least one
-- domain line, and then turns. Commands and labels stand in a program.
abbrev pub may_stand : Form → Place → Bool
may_stand form.Heading place.Top = true
may_stand form.Frames place.Headed = true
may_stand form.Program place.Framed = true
may_stand form.Program place.Between = true
may_stand (form.Command verb) place.Inside = true
may_stand form.Label place.Inside = true
may_stand form.End place.Inside = true
may_stand form.Domain place.Between = true
may_stand form.Domain place.Started = true
may_stand form.Turns place.Started = true
may_stand form.Turns place.Turned = true
may_stand _ _ = false

-- how many words that aren't empty
abbrev pub word_count : List (List ℕ) → ℕ
word_count words = count_by (λ (w : List ℕ). nat_lt 0 (length w)) words

-- A line of this form with these words behind its first would be one too many.
abbrev pub is_many : Read → Form → List (List ℕ) → Bool
is_many r form.Program words = nat_le 16 (length r.programs)
is_many r (form.Command verb) words = nat_le 512 (length r.draft.said)
is_many r form.Label words = nat_le 512 (length r.draft.labels)
is_many r form.Domain words = nat_le 16 (length r.starts)
is_many r form.Turns words = nat_le 64 r.turn_lines || nat_lt 64 (word_count words)
is_many r _ words = false

-- no space is too many
abbrev pub are_whole : List (List ℕ) → Bool
are_whole words = list_all (λ (w : List ℕ). nat_lt 0 (length w)) words

-- the place among labels of the one with this name
abbrev pub label_place : List Label → List ℕ → Option ℕ
label_place labels name = position (λ (l : Label). equals name l.name) labels

-- the place among programs of the one with this name
abbrev pub program_place : List Program → List ℕ → Option ℕ
program_place programs name = position (λ (p : Program). equals name p.name) programs

-- a name, unless it has a place already
abbrev pub unless_given : Option ℕ → List ℕ → Result (List ℕ) Why
unless_given None name = Ok name
unless_given (Some place) name = Err why.Name

-- a word in the place of a new name, by the place that each name has
abbrev pub new_name : (List ℕ → Option ℕ) → List ℕ → Result (List ℕ) Why
new_name given word = do
  n ← name word
  unless_given (given n) n

-- a jump at this line to the label at a place, which must stand behind it
abbrev pub ahead : List Label → ℕ → Option ℕ → Result ℕ Why
ahead labels line None = Err why.Label
ahead labels line (Some place) = if nat_lt line (label_line labels place) then Ok place
    else Err why.Label

-- a jump at this line to the label of a name
abbrev pub toward : List Label → ℕ → List ℕ → (ℕ → Command) → Result Command Why
toward labels line target jump = do
  place ← ahead labels line (label_place labels target)
  Ok (jump place)

-- the command at a line of a program with these labels
abbrev pub settled_one : List Label → ℕ → Said → Result Command Why
settled_one labels line (said.Whole c) = Ok c
settled_one labels line (said.Jump target) = toward labels line target command.Jump
settled_one labels line (said.JChild target) = toward labels line target command.JChild
settled_one labels line (said.JFail target) = toward labels line target command.JFail

-- the commands of a program with these labels from a line on
abbrev pub settled : List Label → ℕ → List Said → Result (List Command) Why
settled labels line [] = Ok []
settled labels line (s ∷ ss) = do
  c ← settled_one labels line s
  cs ← settled labels (line + 1) ss
  Ok (c ∷ cs)

-- a domain line, where the frames are enough for the starting domains so far
abbrev pub fitting : Read → Start → Result Item Why
fitting r t =
    if nat_lt r.frames (frames_of_starts (r.starts ++ t ∷ [])) then Err why.Frames
    else Ok (item.Start t)

-- a word in the place of a program
abbrev pub program_named : List Program → List ℕ → Result ℕ Why
program_named programs word = do
  n ← name word
  ok_or (program_place programs n) why.Program

-- `domain PROGRAM PAGES LIMIT open`
abbrev pub started : Read → List ℕ → List ℕ → List ℕ → List ℕ → Result Item Why
started r program pages limit net = do
  p ← program_named r.programs program
  n ← number 8 1024 pages
  k ← number 0 62 limit
  if equals net (codes "open") then fitting r (record { program = p; pages = n; limit = k })
      else Err why.Word

-- `domain PROGRAM PAGES LIMIT exclusive` isn't built yet
abbrev pub domain_line : Read → List ℕ → List ℕ → List ℕ → List ℕ → Result Item Why
domain_line r program pages limit net = if equals net (codes "exclusive") then Err why.Unbuilt
    else started r program pages limit net

-- words in the places of actors
abbrev pub actors : List (List ℕ) → Result (List Actor) Why
actors [] = Ok []
actors (w ∷ ws) = do
  a ← actor_named w
  more ← actors ws
  Ok (a ∷ more)

abbrev pub heading : List ℕ → Result Item Why
heading version = do
  n ← number 1 1 version
  Ok item.Heading

abbrev pub frames_line : List ℕ → Result Item Why
frames_line count = do
  n ← number 16 16384 count
  Ok (item.Frames n)

abbrev pub program_line : Read → List ℕ → Result Item Why
program_line r word = do
  n ← new_name (program_place r.programs) word
  Ok (item.Program n)

abbrev pub label_name_line : Read → List ℕ → Result Item Why
label_name_line r word = do
  n ← new_name (label_place r.draft.labels) word
  Ok (item.Label n)

abbrev pub end_line : Read → Result Item Why
end_line r = do
  cs ← settled r.draft.labels 0 r.draft.said
  Ok (item.End cs)

abbrev pub turns_line : List (List ℕ) → Result Item Why
turns_line words = do
  more ← actors words
  Ok (item.Turns more)

abbrev pub command_line : Result Said Why → Result Item Why
command_line read = do
  s ← read
  Ok (item.Command s)

-- What a line of this form says with these words behind its first.
abbrev pub item_of : Read → Form → List (List ℕ) → Result Item Why
item_of r form.Heading (version ∷ []) = heading version
item_of r form.Frames (count ∷ []) = frames_line count
item_of r form.Program (word ∷ []) = program_line r word
item_of r form.Label (word ∷ []) = label_name_line r word
item_of r form.End [] = end_line r
item_of r form.Domain (program ∷ pages ∷ limit ∷ net ∷ []) = domain_line r program pages limit net
item_of r form.Turns (first ∷ more) = turns_line (first ∷ more)
item_of r (form.Command verb) words = command_line (command_said verb words)
item_of r _ _ = Err why.Form

-- A line of a form: it may stand there, it isn't one too many, and its spaces are single.
abbrev pub judged_form : Read → Form → List (List ℕ) → Result Item Why
judged_form r form words =
    if may_stand form r.place then (if is_many r form words then Err why.Many
    else (if are_whole words then item_of r form words else Err why.Form))
    else Err why.Word

-- what is wrong with a first word that begins no form
abbrev pub unknown : List ℕ → Why
unknown first = if is_later first then why.Unbuilt else why.Word

abbrev pub judged_as : Read → List ℕ → Option Form → List (List ℕ) → Result Item Why
judged_as r first None words = Err (unknown first)
judged_as r first (Some form) words = judged_form r form words

-- A line of words, by the form that its first word begins.
abbrev pub judged : Read → List (List ℕ) → Result Item Why
judged r [] = Err why.Word
judged r (first ∷ words) = judged_as r first (form_of first) words

-- what was read, with one more line
abbrev pub taken : Read → Item → Read
taken r item.Heading = record r { place = place.Headed }
taken r (item.Frames n) = record r { place = place.Framed; frames = n }
taken r (item.Program name) = record r {
  place = place.Inside;
  draft = record { name = name; said = []; labels = [] };
}
taken r (item.Command s) = record r { draft = record r.draft { said = r.draft.said ++ s ∷ [] } }
taken r (item.Label name) = record r {
  draft = record r.draft {
    labels = r.draft.labels
        ++ record { name = name; at = length r.draft.said } ∷ [];
  };
}
taken r (item.End cs) =
    record r {
      place = place.Between;
      programs = r.programs ++ record {
        name = r.draft.name;
        commands = cs;
        labels = r.draft.labels;
      } ∷ [];
      draft = no_draft;
    }
taken r (item.Start t) = record r { place = place.Started; starts = r.starts ++ t ∷ [] }
taken r (item.Turns more) = record r {
  place = place.Turned;
  turn_lines = r.turn_lines + 1;
  turns = r.turns ++ more;
}
