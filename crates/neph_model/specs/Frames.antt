-- What the frames of a machine are used for.
use Rattle.std.specs.Prelude.{ℕ, ◌+◌, ◌≡◌}
use Rattle.neph_model.specs.declared.frames.FrameCounts.{FrameCounts}

-- How many frames the machine has, how many of them pages, tables and spares stand on and clones in
-- flight have put aside, and how many are free.
abbrev pub Counts : Type 0
Counts = FrameCounts

-- the frames that are used
abbrev pub used : Counts → ℕ
used c = c.colours + c.tables + c.spares + c.aside

-- the used frames and the free ones are all
abbrev pub AddsUp : Counts → Type 0
AddsUp c = used c + c.free ≡ c.total
