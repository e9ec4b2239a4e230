-- What a script says at a line of a program.
use Rattle.std.specs.Prelude.{ℕ, List, [], Option, None, Some, slice_get, unwrap_or}
use Rattle.neph_base.specs.declared.command.Command.{Command}
use Rattle.neph_base.specs.declared.command.Command.TheVariants.{Exit}
use Rattle.neph_model.specs.declared.script.Script.{Script}
use Rattle.neph_model.specs.declared.script.Program.{Program}
use Rattle.neph_model.specs.declared.script.Label.{Label}

-- the commands of a program that a script may have
abbrev pub commands_of : Option Program → List Command
commands_of None = []
commands_of (Some p) = p.commands

-- its labels
abbrev pub labels_of : Option Program → List Label
labels_of None = []
labels_of (Some p) = p.labels

-- the program of a script with this number, from 0
abbrev pub program_at : Script → ℕ → Option Program
program_at s p = slice_get s.programs p

-- The command at a line. Behind the last there is an exit that isn't written.
abbrev pub command_in : List Command → ℕ → Command
command_in cs line = unwrap_or (slice_get cs line) Exit

-- the command at a line of the program with this number
abbrev pub command_at : Script → ℕ → ℕ → Command
command_at s p line = command_in (commands_of (program_at s p)) line

-- the line that a label names
abbrev pub line_of : Option Label → ℕ
line_of None = 0
line_of (Some l) = l.at

-- the line that the label at this place names
abbrev pub label_line : List Label → ℕ → ℕ
label_line labels place = line_of (slice_get labels place)

-- the line that the label at this place of the program with this number names
abbrev pub label_line_at : Script → ℕ → ℕ → ℕ
label_line_at s p place = label_line (labels_of (program_at s p)) place
