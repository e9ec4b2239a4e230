-- What a turn needs of the domain whose line it does.
use Rattle.std.specs.Prelude.{◌≡◌, ◌≢◌, ◌==◌, ℕ, None, if◌then◌else◌}
use Rattle.neph_base.specs.declared.command.Command.TheVariants as command
use Rattle.neph_base.specs.declared.reply.Reply.TheVariants.{Refused}
use Rattle.neph_base.specs.declared.reply.Refusal.TheVariants.{NoFrame}
use Rattle.neph_model.specs.declared.script.Script.{Script}
use Rattle.neph_model.specs.declared.book.Move.{Move}
use Rattle.neph_model.specs.declared.book.Move.TheVariants.{Does, TakesSpare}
use Rattle.neph_model.specs.declared.book.Spends.TheVariants.{Nothing}
use Rattle.neph_base.specs.declared.command.Command.{Command}
use Rattle.neph_model.specs.declared.told.Told.{Told}
use Rattle.neph_model.specs.declared.told.Told.TheVariants.{Enough, Short, Free}
use Rattle.neph_model.specs.Machine.{program_of}
use Rattle.neph_model.specs.Own.{local_step}
use Rattle.neph_model.specs.Lent.{lent}
use Rattle.neph_model.specs.Step.{locked, shared_line}
use Rattle.neph_model.specs.Books.{State, free}
use Rattle.neph_runs.specs.Orderly.{seat as part_at}
use Rattle.neph_machine.specs.StandsFor.{command_of}

-- The command at the line of a domain that has no spare needs a frame. Without one it is refused.
pub record NeedsFrame (s : Script) (st : State) (id : ℕ) : Type 0 where
  pub short : local_step s (program_of (part_at st id).life) (part_at st id).own Short
      (command_of s (part_at st id)) ≡ None
  pub refused : shared_line st.machine.shared id
      (lent (part_at st id).own (command_of s (part_at st id))) Short
      (command_of s (part_at st id)) ≡ locked st.machine.shared (Refused NoFrame)
  pub later : command_of s (part_at st id) ≢ command.Exit

-- what it does where so many frames are free
abbrev pub bare_move : ℕ → Move
bare_move free = if free == 0 then Does Short Nothing else TakesSpare

-- what a command that is no clone is told where so many frames are free
abbrev pub told_of : ℕ → Command → Told
told_of free command.Free = Free free
told_of free _ = Enough
