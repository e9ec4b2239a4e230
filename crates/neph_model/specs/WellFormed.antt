-- What the machine needs of a script. It holds of each that can be spelled.
use Rattle.std.specs.Prelude.{ℕ, sum_by, ◌+◌, ◌%◌, ◌<◌, ◌≤◌, length, ⊤, All, List}
use Rattle.neph_base.specs.declared.command.Command.{Command}
use Rattle.neph_base.specs.declared.command.Command.TheVariants.{W, R, Jump, JChild, JFail, Hr, Hw}
use Rattle.neph_model.specs.declared.script.Script.{Script}
use Rattle.neph_model.specs.declared.script.Program.{Program}
use Rattle.neph_model.specs.declared.script.Label.{Label}
use Rattle.neph_model.specs.declared.script.Start.{Start}
use Rattle.neph_model.specs.Programs.{command_in, label_line}
use Rattle.neph_model.specs.Start.{started_512s}

-- no command reads or writes past the end of a page, and a read has 1 to 64 bytes
abbrev pub FitsPage : Command → Type 0
FitsPage (W addr bytes) = addr % 4096 + length bytes ≤ 4096
FitsPage (R addr len) = (0 < len) × (len ≤ 64) × (addr % 4096 + len ≤ 4096)
FitsPage (Hr h offset len) = (0 < len) × (len ≤ 64) × (offset + len ≤ 4096)
FitsPage (Hw h offset bytes) = offset + length bytes ≤ 4096
FitsPage _ = ⊤

-- the label at this place is one of these, and stands after this line
abbrev pub IsAhead : List Label → ℕ → ℕ → Type 0
IsAhead labels line place = (place < length labels) × (line < label_line labels place)

-- a command at this line jumps to a label after it, if it jumps
abbrev pub JumpsAhead : List Label → ℕ → Command → Type 0
JumpsAhead labels line (Jump label) = IsAhead labels line label
JumpsAhead labels line (JChild label) = IsAhead labels line label
JumpsAhead labels line (JFail label) = IsAhead labels line label
JumpsAhead labels line _ = ⊤

-- a program of at most 512 commands that fit, and of labels that stand in it
pub record IsWellFormedProgram (p : Program) : Type 0 where
  pub fit : All FitsPage p.commands
  pub few : length p.commands ≤ 512
  pub labels : All (λ (l : Label). l.at ≤ length p.commands) p.labels
  pub ahead : (line : ℕ) → JumpsAhead p.labels line (command_in p.commands line)

-- a domain line with its pages and its limit in range, which names a program
pub record IsWellFormedStart (programs : ℕ) (t : Start) : Type 0 where
  pub pages_low : 8 ≤ t.pages
  pub pages_high : t.pages ≤ 1024
  pub limit : t.limit ≤ 62
  pub program : t.program < programs

-- the frames that the starting domains of some lines stand on: their pages, root tables and leaf
-- tables
abbrev pub frames_of_starts : List Start → ℕ
frames_of_starts starts = sum_by (λ (t : Start). t.pages + 1 + started_512s t.pages) starts

-- a machine with frames for its starting domains, of programs and domain lines that are well formed
pub record IsWellFormed (s : Script) : Type 0 where
  pub frames_low : 16 ≤ s.frames
  pub frames_high : s.frames ≤ 16384
  pub programs : All IsWellFormedProgram s.programs
  pub starts : All (IsWellFormedStart (length s.programs)) s.starts
  pub few : length s.starts ≤ 16
  pub room : frames_of_starts s.starts ≤ s.frames
