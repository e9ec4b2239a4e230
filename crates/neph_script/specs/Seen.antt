-- What the reader's state shows of what was read, and what holds of it.
use Rattle.std.specs.Prelude.{◌≡◌, ◌≤◌, ◌<◌, ◌+◌, ⊤, ℕ, List, All, length, Result, Ok, Err}
use Rattle.neph_model.specs.declared.script.Start.{Start}
use Rattle.neph_script.specs.State as state
use Rattle.neph_script.specs.Index.{place_in}
use Rattle.neph_script.specs.Lines.{label_place, program_place}
use Rattle.neph_script.specs.Outcomes.{Fails}
use Rattle.neph_script.specs.declared.state.Place.{Place}
use Rattle.neph_script.specs.declared.state.Place.TheVariants as place
use Rattle.neph_script.specs.declared.state.Item.{Item}
use Rattle.neph_script.specs.declared.state.Item.TheVariants as item
use Rattle.neph_command.specs.declared.why.Why.{Why}
use Rattle.neph_script.specs.declared.why.LineEnd.{LineEnd}
use Rattle.neph_script.specs.declared.state.Draft.{Draft}
use Rattle.neph_script.specs.declared.state.Reader.{Reader}

abbrev pub seen_draft : Draft → state.Draft
seen_draft d = record { name = d.name; said = d.said.items; labels = d.labels.items }

abbrev pub seen : Reader → state.Read
seen r =
    record {
      place = r.place;
      frames = r.frames;
      programs = r.programs.items;
      draft = seen_draft r.draft;
      starts = r.starts.items;
      turn_lines = r.turn_lines;
      turns = r.turns.items;
    }

-- the index shows the places of the labels
pub record IsDraft (d : Draft) : Type 0 where
  pub said_few : length d.said.items ≤ 512
  pub labels_few : length d.labels.items ≤ 512
  pub places : (q : List ℕ) → place_in d.places q ≡ label_place d.labels.items q

-- no starting domain has more than 1024 pages
abbrev pub AreSized : List Start → Type 0
AreSized starts = All (λ (t : Start). t.pages ≤ 1024) starts

-- how many programs lack their `end`
abbrev pub unended : Place → ℕ
unended place.Inside = 1
unended _ = 0

-- no count is too great, and the index shows the places of the programs
pub record IsSound (r : Reader) : Type 0 where
  pub frames : r.frames ≤ 16384
  pub programs_few : length r.programs.items + unended r.place ≤ 16
  pub places : (q : List ℕ) → place_in r.places q ≡ program_place r.programs.items q
  pub draft : IsDraft r.draft
  pub starts_few : length r.starts.items ≤ 16
  pub starts : AreSized r.starts.items
  pub turn_lines : r.turn_lines ≤ 64

-- a line that says this doesn't break these counts
abbrev pub Fits : state.Read → Item → Type 0
Fits r item.Heading = ⊤
Fits r (item.Frames n) = n ≤ 16384
Fits r (item.Program name) = length r.programs < 16
Fits r (item.Command s) = length r.draft.said < 512
Fits r (item.Label name) = length r.draft.labels < 512
Fits r (item.End cs) = r.place ≡ place.Inside
Fits r (item.Start t) = (length r.starts < 16) × (t.pages ≤ 1024)
Fits r (item.Turns more) = r.turn_lines < 64

-- What was read with a line is this, where the line was taken. Where it wasn't, it can't stand,
-- unless memory ran out.
abbrev pub Moves : Result state.Read Why → state.Read → Result (Unit {0}) LineEnd → Type 0
Moves wanted now (Ok x) = wanted ≡ Ok now
Moves wanted now (Err e) = Fails e wanted
