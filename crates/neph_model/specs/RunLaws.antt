-- Laws of runs.
use Rattle.std.specs.Prelude.{◌≡◌, true, false, ◌⊎◌}
use Rattle.neph_model.specs.declared.script.Script.{Script}
use Rattle.neph_model.specs.WellFormed.{IsWellFormed}
use Rattle.neph_model.specs.Machine.{is_over}
use Rattle.neph_model.specs.Start.{start_machine}
use Rattle.neph_model.specs.Frames.{AddsUp}
use Rattle.neph_model.specs.Books.{counts}
use Rattle.neph_model.specs.Run.{Ran, IsRun, IsStalled}
use Rattle.neph_model.specs.Legal.{Legal}
use Rattle.neph_model.specs.Laws.{BearsCopies}

-- two runs of one script are the same
abbrev pub HasOneRun : Type 0
HasOneRun = (s : Script) (r q : Ran) → IsRun s r → IsRun s q → r ≡ q

-- each script that is well formed has a run
abbrev pub HasRun : Type 0
HasRun = (s : Script) → IsWellFormed s → (r : Ran) × IsRun s r

-- a run ends where no domain is live, or is stalled there
abbrev pub EndsOverOrStalled : Type 0
EndsOverOrStalled =
    (s : Script) (r : Ran) → IsWellFormed s → IsRun s r
    → ((r.stalled ≡ false) × (is_over r.last.machine ≡ true))
    ⊎ ((r.stalled ≡ true) × IsStalled s r.last.machine)

-- the run of a script that is well formed doesn't stall: no command can be blocked yet
abbrev pub EndsOver : Type 0
EndsOver = (s : Script) (r : Ran) → IsWellFormed s → IsRun s r
    → (r.stalled ≡ false) × (is_over r.last.machine ≡ true)

-- the history of a run is a legal one, from the script's start to the last machine
abbrev pub RunsLegally : Type 0
RunsLegally = (s : Script) (r : Ran) → IsWellFormed s → IsRun s r
    → Legal s (start_machine s) r.history r.last.machine

-- each commit of a run leaves the child as the listed copy of its parent at that place
abbrev pub RunsBearCopies : Type 0
RunsBearCopies = (s : Script) (r : Ran) → IsWellFormed s → IsRun s r
    → BearsCopies s (start_machine s) r.history

-- the frames that a run's last machine uses and those that are free are all that it has
abbrev pub CountsAddUp : Type 0
CountsAddUp = (s : Script) (r : Ran) → IsWellFormed s → IsRun s r → AddsUp (counts s r.last)
