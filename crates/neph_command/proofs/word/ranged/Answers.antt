use Rattle.std.proofs.Common.{arith, sym, ◌∙◌}
use Rattle.neph_command.proofs.Ranges.{number_only, none_at_all, none_within}
use Rattle.neph_command.proofs.word.ranged.Goals as goal

pub returns-in_err-n-clause-value : goal.returns-in_err-n-clause-value
returns-in_err-n-clause-value c = c.from_residual.ensures ∙ sym (none_at_all c.args.word.now c.args.low c.args.high c.in_err-n.ensures.none (omega arith))

pub returns-then-n-high-clause-value : goal.returns-then-n-high-clause-value
returns-then-n-high-clause-value c =
    sym (number_only c.args.word.now c.args.low c.args.high c.in_ok-n.n (record { is = c.in_ok-n.ensures.found; low_is = omega arith; high_is = omega arith }) (omega arith))

pub returns-else-low-n-clause-value : goal.returns-else-low-n-clause-value
returns-else-low-n-clause-value c =
    sym (none_within c.args.word.now c.args.low c.args.high c.in_ok-n.n c.in_ok-n.ensures.found c.in_ok-n.ensures.small (omega arith) (λ a b. absurd (omega (arith, c.else-low-n.either))))
