-- How much a script may still do: a number that each turn which does something makes smaller.
use Rattle.std.specs.Prelude.{ℕ, ◌+◌, ◌-◌, ◌*◌, if◌then◌else◌, length, Option, is_some, sum_by}
use Rattle.std.specs.List.{range_with_len}
use Rattle.neph_model.specs.declared.script.Script.{Script}
use Rattle.neph_model.specs.declared.life.Life.{Life}
use Rattle.neph_model.specs.declared.book.Book.{Book}
use Rattle.neph_model.specs.declared.book.Stage.{Stage}
use Rattle.neph_model.specs.declared.book.Stage.TheVariants.{Ready, Copying, Forking}
use Rattle.neph_model.specs.Programs.{commands_of, program_at}
use Rattle.neph_model.specs.Machine.{program_of}
use Rattle.neph_model.specs.Books.{State}
use Rattle.neph_runs.specs.Orderly.{Seat, seat}

-- the sum of a number of each of the ids from 0 to 63
unfoldable pub all_ids : (ℕ → ℕ) → ℕ
all_ids f = sum_by f (range_with_len 0 64)

-- how many lines are left from this one on, the exit behind the last one included
abbrev pub lines_left : ℕ → ℕ → ℕ
lines_left size line = 1 + (size - line)

-- the turns in which a line that needs a frame may still wait for its spare
abbrev pub spare_left : Book → ℕ
spare_left b = if b.spare then 0 else 1

-- What a domain at a line may still do, by its stage: four turns a line, and while it clones also
-- what its child may do.
abbrev pub stage_work : ℕ → Book → Stage → ℕ
stage_work lines b Ready = 4 * lines + 1 + spare_left b
stage_work lines b Copying = 4 * lines + spare_left b
stage_work lines b (Forking left) = 8 * lines + 8 + left

-- how many commands the program of a domain that was born so has
abbrev pub size_by : Script → Option Life → ℕ
size_by s life = length (commands_of (program_at s (program_of life)))

-- what the domain of an id may still do
abbrev pub work_at : Script → Seat → ℕ
work_at s x = if is_some x.life
    then stage_work (lines_left (size_by s x.life) x.own.line) x.book x.book.stage else 0

-- what is left to do: for each id that wasn't given, for each live domain, and for each clone that
-- waits
abbrev pub work_left : Script → State → ℕ
work_left s st = 4096 * (64 - st.machine.shared.tables.next)
    + all_ids (λ id. work_at s (seat st id)) + length st.machine.shared.tables.waiting
