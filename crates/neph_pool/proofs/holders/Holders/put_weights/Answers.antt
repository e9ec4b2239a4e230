use Rattle.std.proofs.Common.{◌≡◌, ◌≢◌, ◌<◌, ◌∙◌, arith, length}
use Rattle.std.proofs.lemmas.List.{get_or_default}
use Rattle.neph_pool.proofs.Sharers.{shared_old, shared_new}
use Rattle.neph_pool.proofs.holders.Holders.put_weights.Goals as goal

pub returns-then-place-gt0-clause-owners : goal.returns-then-place-gt0-clause-owners
returns-then-place-gt0-clause-owners c =
    let p = c.args.self.now in
    let fit : c.args.f < length p.places.items = omega (arith, c.requires, p.even) in
    let is = c.index.ensures ∙ get_or_default p.places.items c.args.f c.index.result.now 0 fit in
    let own : c.index.result.now ≢ 0 = (λ (e : c.index.result.now ≡ 0). omega (arith, c.if-place-gt0.true, e)) in
    shared_old p.counts.items c.args.weights p.kinds.items p.places.items c.args.f c.index.result.now _ c.requires p.even p.counts.ok.0 is own p.within p.apart

pub returns-clause-owners : goal.returns-clause-owners
returns-clause-owners c =
    let p = c.args.self.now in
    rw c.push_reserved.ensures.items (shared_new p.counts.items c.args.weights p.kinds.items p.places.items c.args.f c.len-next.result c.requires p.even (c.len-next.ensures ∙ p.counts.ok.0) (λ i. rw c.len-next.ensures (p.within i)))
