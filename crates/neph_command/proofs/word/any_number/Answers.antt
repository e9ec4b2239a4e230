use Rattle.std.proofs.Common.{◌≡◌, ◌<◌, length, arith, rules}
use Rattle.std.proofs.lemmas.Bool.Decides.{nat_tests}
use Rattle.std.proofs.lemmas.Fmt.{decimal_nonempty}
use Rattle.neph_command.proofs.Numerals.{plain_number, no_digit, too_large, all_digits}
use Rattle.neph_command.specs.Plain.{IsPlain}
use Rattle.neph_command.proofs.word.any_number.Goals as goal

pub returns-then-not-is_plain-clause-none : goal.returns-then-not-is_plain-clause-none
returns-then-not-is_plain-clause-none c n lt e = let plain : IsPlain c.args.word.now = plain_number _ n lt e in search rules

pub returns-then-is_empty-clause-none : goal.returns-then-is_empty-clause-none
returns-then-is_empty-clause-none c n lt e =
    let some : 0 < length c.args.word.now = rw e (decimal_nonempty n (omega arith)) in
    let none : length c.args.word.now ≡ 0 = grind (arith, nat_tests, c.if-is_empty.true, c.is_empty.ensures) in
    omega arith

pub returns-then-not-is_digit-clause-none : goal.returns-then-not-is_digit-clause-none
returns-then-not-is_digit-clause-none c n lt e =
    let inside : c.loop-b.b-index < length c.args.word.now = omega arith in
    no_digit c.args.word.now c.loop-b.b-index c.loop-b.n n inside (cc) c.loop-b.invariant lt e

pub returns-then-n-gt4294967295-clause-none : goal.returns-then-n-gt4294967295-clause-none
returns-then-n-gt4294967295-clause-none c n lt e =
    let inside : c.loop-b.b-index < length c.args.word.now = omega arith in
    too_large c.args.word.now c.loop-b.b-index c.loop-b.n n inside (omega (arith, c.if-n-gt4294967295.true, c.from.ensures)) c.loop-b.invariant lt e

pub returns-clause-found : goal.returns-clause-found
returns-clause-found c =
    let plain : IsPlain c.args.word.now = c.is_plain.ensures.0 (search rules) in
    let some : 0 < length c.args.word.now = grind (arith, nat_tests, c.if-is_empty.false, c.is_empty.ensures) in
    all_digits c.args.word.now c.loop-b.b-index c.loop-b.n (omega arith) some plain.1 c.loop-b.invariant
