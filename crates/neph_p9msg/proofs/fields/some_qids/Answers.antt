use Rattle.std.proofs.lemmas.Result.{err_from_is_err_and}
use Rattle.neph_p9msg.specs.Reading.{many_at, qid_at}
use Rattle.neph_p9msg.proofs.Loop.{goes_on, ends, is_done}
use Rattle.neph_p9msg.proofs.fields.some_qids.Goals as goal

pub returns-in_err-qid : goal.returns-in_err-qid
returns-in_err-qid c =
    let p = err_from_is_err_and c.from_residual.result c.from_residual.ensures.1 in
    rw (p.1, p.2) (ends qid_at c.in_err-qid.field-0.0 c.loop.qids.items c.args.n c.loop.counter c.loop.rest.now (many_at qid_at c.args.n c.args.bytes.now) c.loop-test.true c.in_err-qid.ensures c.loop.invariant)

pub loop-preserved : goal.loop-preserved
loop-preserved c =
    rw c.in_ok-push.ensures.items (goes_on qid_at c.loop.qids.items c.args.n c.loop.counter c.loop.rest.now c.in_ok-qid.qid c.in_ok-qid.behind.now (many_at qid_at c.args.n c.args.bytes.now) c.loop-test.true c.in_ok-qid.ensures c.loop.invariant)

pub returns : goal.returns
returns c = is_done qid_at c.loop.qids.items c.args.n c.loop.counter c.loop.rest.now (many_at qid_at c.args.n c.args.bytes.now) c.loop-test.false c.loop.invariant
