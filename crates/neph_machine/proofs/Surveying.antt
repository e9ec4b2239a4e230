-- The pool of one thread is surveyed.
use Rattle.std.proofs.Common.{refl}
use Rattle.neph_pool.specs.Plain.{plain_world}
use Rattle.neph_pool.specs.PlainLaws.{plain_shaped}
use Rattle.neph_pool.proofs.Seats.{all_counted}
use Rattle.neph_machine.specs.Surveyed.{IsSurveyed}

-- it tells its counts, and they tell of all its seats
pub plain_surveyed : IsSurveyed plain_world
plain_surveyed = record { told = λ p. refl; counted = λ p seats. all_counted p seats; shaped = λ p. plain_shaped p }
