use Rattle.std.proofs.Common.{sym, ap, subst, ◌∙◌}
use Rattle.neph_pool.specs.declared.owners.Owners.{Owners}
use Rattle.neph_pool.specs.declared.owners.Owners.TheVariants.{Many}
use Rattle.neph_pool.specs.Entries.{weight_of}
use Rattle.neph_pool.specs.Owners.{held_by, IsShared}
use Rattle.neph_pool.proofs.Holding.{spare_weight, alone_shared}
use Rattle.neph_pool.proofs.Sharers.{kept_here, own_here, many_here, many_step}
use Rattle.neph_pool.proofs.holders.Holders.share.Goals as goal

pub share-requires-clause-once : goal.share-requires-clause-once
share-requires-clause-once c =
    let is = many_here c.args.self.now c.args.f c.index.result.now c.requires.frame c.index.ensures c.index-in-Shared.result.now c.index_mut.result.now c.in-Shared.is c.index-in-Shared.ensures c.index_mut.ensures.value in
    ap (λ (o : Owners). weight_of (held_by c.args.row o)) (sym is) ∙ c.requires.once

pub returns-in-Kept-clause-owners : goal.returns-in-Kept-clause-owners
returns-in-Kept-clause-owners c =
    let is = kept_here c.args.self.now c.args.f c.index.result.now c.requires.frame c.index.ensures c.in-Kept.field-0 c.in-Kept.is in
    absurd (spare_weight c.args.row c.in-Kept.field-0 (ap (λ (o : Owners). weight_of (held_by c.args.row o)) (sym is) ∙ c.requires.once))

pub returns-in-Own-clause-owners : goal.returns-in-Own-clause-owners
returns-in-Own-clause-owners c =
    let q = c.in-Own.field-0 in
    let w = c.two.result in
    let is = own_here c.args.self.now c.args.f c.index.result.now c.requires.frame c.index.ensures q c.in-Own.is in
    let once = ap (λ (o : Owners). weight_of (held_by c.args.row o)) (sym is) ∙ c.requires.once in
    (Many w, c.put_weights.ensures.owners, subst (λ (o : Owners). IsShared c.args.row o (Many w)) (sym is) (alone_shared c.args.row q w c.requires.row once c.two.ensures.weights c.two.ensures.count))

pub returns-in-Shared-clause-owners : goal.returns-in-Shared-clause-owners
returns-in-Shared-clause-owners c =
    many_step c.args.self.now c.args.f c.index.result.now c.requires.frame c.index.ensures c.index-in-Shared.result.now c.index_mut.result.now c.in-Shared.is c.index-in-Shared.ensures c.index_mut.ensures.value
    (IsShared c.args.row) c.share.new.self (record { own = c.share.ensures.own; others = c.share.ensures.others; total = c.share.ensures.total })
