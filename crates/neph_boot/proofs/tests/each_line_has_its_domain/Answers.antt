use Rattle.std.proofs.Common.{arith}
use Rattle.neph_boot.proofs.PlainStart.{plain_zero}
use Rattle.neph_boot.proofs.tests.each_line_has_its_domain.Goals as goal

pub boot-requires-clause-zero : goal.boot-requires-clause-zero
boot-requires-clause-zero g c =
    λ f lt. plain_zero 40 2048 c.in_ok-pool.pool c.in_ok-pool.seat c.in_ok-pool.ensures f (omega (arith, lt, c.in_ok-script.ensures.frames))
