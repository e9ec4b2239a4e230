use Rattle.std.proofs.Common.{◌≡◌, ◌+◌, ◌≤◌, true, arith, length, take, ap, ◌∙◌}
use Rattle.std.specs.List.{flat_map}
use Rattle.std.proofs.lemmas.List.{length-append}
use Rattle.std.proofs.lemmas.List.Folds.{length-flat_map-take}
use Rattle.neph_p9msg.specs.Grammar.{qid}
use Rattle.neph_p9msg.proofs.encoding.put_qids.Goals as goal

pub put_qid-requires : goal.put_qid-requires
put_qid-requires c =
    let before = take c.loop-q.q-index c.args.qids.now in
    let so_far : length c.loop-q.draft ≡ length c.args.draft.now + length (flat_map qid before) = ap length c.loop-q.invariant ∙ length-append c.args.draft.now (flat_map qid before) in
    let one : length (flat_map qid before) + 13 ≤ length (flat_map qid c.args.qids.now) = length-flat_map-take qid c.args.qids.now c.loop-q.q-index (record { dir = true; path = 0 }) c.loop-q-test.true in
    omega (arith, so_far, one, c.requires)
