-- The words of the lines of a script, and what may be said by a line.
use Rattle.std.specs.Prelude.{◌≡◌, ℕ, ◌<◌, ◌≤◌, true, false, ⊤, List, [], ◌∷◌, ◌++◌, map, length, drop, codes, Option, None, Some, Ok, All, slice_get}
use Rattle.std.specs.Fmt.{decimal}
use Rattle.neph_base.specs.declared.reply.Actor.{Actor}
use Rattle.neph_base.specs.declared.reply.Actor.TheVariants as actor
use Rattle.neph_model.specs.declared.script.Program.{Program}
use Rattle.neph_model.specs.declared.script.Start.{Start}
use Rattle.neph_model.specs.WellFormed.{frames_of_starts}
use Rattle.neph_command.specs.Commands.{said_words, verb_said, InRange}
use Rattle.neph_command.specs.Words.{is_name}
use Rattle.neph_script.specs.State.{Read}
use Rattle.neph_script.specs.Lines.{may_stand, is_many, settled, label_place, program_place}
use Rattle.neph_script.specs.declared.form.Form.{Form}
use Rattle.neph_script.specs.declared.form.Form.TheVariants as form
use Rattle.neph_script.specs.declared.state.Item.{Item}
use Rattle.neph_script.specs.declared.state.Item.TheVariants as item

abbrev pub actor_word : Actor → List ℕ
actor_word (actor.Dom d) = decimal d
actor_word actor.Daemon = codes "daemon"
actor_word actor.Console = codes "console"
actor_word actor.Net = codes "net"
actor_word actor.P9 = codes "p9"

-- the name of a program that there may be
abbrev pub name_of_program : Option Program → List ℕ
name_of_program None = []
name_of_program (Some p) = p.name

-- the words of a domain line
abbrev pub start_words : List Program → Start → List (List ℕ)
start_words programs t = codes "domain" ∷ name_of_program (slice_get programs t.program)
    ∷ decimal t.pages ∷ decimal t.limit ∷ codes "open" ∷ []

-- the words of a line with turns
abbrev pub turns_words : List Actor → List (List ℕ)
turns_words actors = codes "turns" ∷ map actor_word actors

-- the words of the line that says something
abbrev pub item_words : List Program → Item → List (List ℕ)
item_words programs item.Heading = codes "nephele" ∷ decimal 1 ∷ []
item_words programs (item.Frames n) = codes "frames" ∷ decimal n ∷ []
item_words programs (item.Program name) = codes "program" ∷ name ∷ []
item_words programs (item.Command s) = said_words s
item_words programs (item.Label name) = codes "label" ∷ name ∷ []
item_words programs (item.End cs) = codes "end" ∷ []
item_words programs (item.Start t) = start_words programs t
item_words programs (item.Turns more) = turns_words more

-- the form of the line that says something
abbrev pub form_said : Item → Form
form_said item.Heading = form.Heading
form_said (item.Frames n) = form.Frames
form_said (item.Program name) = form.Program
form_said (item.Command s) = form.Command (verb_said s)
form_said (item.Label name) = form.Label
form_said (item.End cs) = form.End
form_said (item.Start t) = form.Domain
form_said (item.Turns more) = form.Turns

-- a domain has a turn only under the numbers 1 to 63
abbrev pub IsActor : Actor → Type 0
IsActor (actor.Dom d) = (1 ≤ d) × (d ≤ 63)
IsActor _ = ⊤

-- a domain line whose program is there, whose numbers are in their ranges, and for which there are
-- frames
pub record CanStart (r : Read) (t : Start) : Type 0 where
  pub program : t.program < length r.programs
  pub name : is_name (name_of_program (slice_get r.programs t.program)) ≡ true
  pub named : program_place r.programs (name_of_program (slice_get r.programs t.program))
      ≡ Some t.program
  pub pages_low : 8 ≤ t.pages
  pub pages_high : t.pages ≤ 1024
  pub limit : t.limit ≤ 62
  pub frames : frames_of_starts (r.starts ++ t ∷ []) ≤ r.frames

-- what may be said behind what was read, but for its place and its count
abbrev pub CanBeSaid : Read → Item → Type 0
CanBeSaid r item.Heading = ⊤
CanBeSaid r (item.Frames n) = (16 ≤ n) × (n ≤ 16384)
CanBeSaid r (item.Program name) = (is_name name ≡ true) × (program_place r.programs name ≡ None)
CanBeSaid r (item.Command s) = InRange s
CanBeSaid r (item.Label name) = (is_name name ≡ true) × (label_place r.draft.labels name ≡ None)
CanBeSaid r (item.End cs) = settled r.draft.labels 0 r.draft.said ≡ Ok cs
CanBeSaid r (item.Start t) = CanStart r t
CanBeSaid r (item.Turns more) = (0 < length more) × (length more ≤ 64) × All IsActor more

-- These words are a line that may stand behind what was read, and it says this.
pub record Stands (r : Read) (words : List (List ℕ)) (i : Item) : Type 0 where
  pub spelled : words ≡ item_words r.programs i
  pub place : may_stand (form_said i) r.place ≡ true
  pub few : is_many r (form_said i) (drop 1 words) ≡ false
  pub said : CanBeSaid r i
