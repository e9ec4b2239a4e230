use Rattle.std.proofs.Common.{arith}
use Rattle.neph_rows.proofs.LiveIds.{IsFirstBit, left_none, left_found}
use Rattle.std.specs.Int.{trailing_zeros}
use Rattle.std.proofs.Common.{w64, ◌+◌, ◌/◌, ◌^◌}
use Rattle.neph_rows.proofs.live_ids.first_from.Goals as goal

found : (c : goal.Else-left-eq0) → IsFirstBit c.args.ids c.args.from (c.args.from + trailing_zeros w64 (c.args.ids / 2 ^ c.args.from))
found c = left_found c.args.ids c.args.from c.ranges.ids.fits (omega (arith, c.if-left-eq0.false))

pub returns-then-left-eq0-clause-none : goal.returns-then-left-eq0-clause-none
returns-then-left-eq0-clause-none c = λ k le lt. left_none c.args.ids c.args.from c.if-left-eq0.true k le

pub returns-clause-within : goal.returns-clause-within
returns-clause-within c = (found c).within

pub returns-clause-found : goal.returns-clause-found
returns-clause-found c = (found c).found

pub returns-clause-first : goal.returns-clause-first
returns-clause-first c = (found c).first
