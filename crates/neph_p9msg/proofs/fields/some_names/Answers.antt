use Rattle.std.proofs.lemmas.Result.{err_from_is_err_and}
use Rattle.neph_p9msg.specs.Reading.{counted_at, many_at}
use Rattle.neph_p9msg.proofs.Loop.{goes_on, ends, is_done}
use Rattle.neph_p9msg.proofs.fields.some_names.Goals as goal

pub returns-in_err-name : goal.returns-in_err-name
returns-in_err-name c =
    let p = err_from_is_err_and c.from_residual.result c.from_residual.ensures.1 in
    rw (p.1, p.2) (ends (counted_at 2) c.in_err-name.field-0.0 c.loop.names.items c.args.n c.loop.counter c.loop.rest.now (many_at (counted_at 2) c.args.n c.args.bytes.now) c.loop-test.true c.in_err-name.ensures c.loop.invariant)

pub loop-preserved : goal.loop-preserved
loop-preserved c =
    rw (c.in_ok-push.ensures.items, c.of.ensures) (goes_on (counted_at 2) c.loop.names.items c.args.n c.loop.counter c.loop.rest.now c.in_ok-name.name.items c.in_ok-name.behind.now (many_at (counted_at 2) c.args.n c.args.bytes.now) c.loop-test.true c.in_ok-name.ensures c.loop.invariant)

pub returns : goal.returns
returns c = is_done (counted_at 2) c.loop.names.items c.args.n c.loop.counter c.loop.rest.now (many_at (counted_at 2) c.args.n c.args.bytes.now) c.loop-test.false c.loop.invariant
