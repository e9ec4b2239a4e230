-- A pool whose counts tell of all seats.
use Rattle.std.specs.Prelude.{List, IsSome}
use Rattle.std.specs.declared.option.Option.{Option}
use Rattle.neph_pool.specs.Entries.{IsShaped}
use Rattle.neph_pool.specs.World.{World}
use Rattle.neph_pool.specs.Seats.{AreAllSeats, AreCounted}

-- The pool tells the count of each frame, and of all its seats together each count is the number of
-- the references that they hold.
pub record IsSurveyed {Pool Seat : Type 0} (W : World Pool Seat) : Type 0 where
  pub told : (p : Pool) → IsSome (W.told p)
  pub counted : (p : Pool) (seats : List (Option Seat)) → AreAllSeats W p seats
      → AreCounted W p seats
  pub shaped : (p : Pool) (s : Seat) → W.fits p s → IsShaped (W.frames p) (W.entries p s)
