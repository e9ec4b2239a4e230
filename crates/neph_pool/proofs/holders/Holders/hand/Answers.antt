use Rattle.std.proofs.Common.{sym, ap, ◌∙◌}
use Rattle.neph_pool.specs.declared.owners.Owners.{Owners}
use Rattle.neph_pool.specs.declared.owners.Owners.TheVariants.{Spare, Alone}
use Rattle.neph_pool.specs.Entries.{is_here, is_whole}
use Rattle.neph_pool.specs.Owners.{held_by, IsHanded}
use Rattle.neph_pool.proofs.Holding.{spare_handed, alone_handed}
use Rattle.neph_pool.proofs.Sharers.{kept_here, own_here, many_here, kept_step, own_step, many_step}
use Rattle.neph_pool.proofs.holders.Holders.hand.Goals as goal

pub hand-requires-clause-part : goal.hand-requires-clause-part
hand-requires-clause-part c =
    let is = many_here c.args.self.now c.args.f c.index.result.now c.requires.frame c.index.ensures c.index-in-Shared.result.now c.index_mut-in-Shared.result.now c.in-Shared.is c.index-in-Shared.ensures c.index_mut-in-Shared.ensures.value in
    ap (λ (o : Owners). is_here (held_by c.args.from o)) (sym is) ∙ c.requires.part

pub hand-requires-clause-room : goal.hand-requires-clause-room
hand-requires-clause-room c = λ w.
    let is = many_here c.args.self.now c.args.f c.index.result.now c.requires.frame c.index.ensures c.index-in-Shared.result.now c.index_mut-in-Shared.result.now c.in-Shared.is c.index-in-Shared.ensures c.index_mut-in-Shared.ensures.value in
    ap (λ (o : Owners). held_by c.args.to o) (sym is) ∙ c.requires.room (ap (λ (o : Owners). is_whole (held_by c.args.from o)) is ∙ w)

pub returns-in-Kept-clause-owners : goal.returns-in-Kept-clause-owners
returns-in-Kept-clause-owners c =
    let q = c.in-Kept.field-0 in
    let is = kept_here c.args.self.now c.args.f c.index.result.now c.requires.frame c.index.ensures q c.in-Kept.is in
    kept_step c.args.self.now c.args.f c.index.result.now c.requires.frame c.index.ensures (IsHanded c.args.from c.args.to) (Spare q) c.args.to is
    (spare_handed q c.args.from c.args.to c.requires.rows.2 (ap (λ (o : Owners). is_here (held_by c.args.from o)) (sym is) ∙ c.requires.part))

pub returns-in-Own-clause-owners : goal.returns-in-Own-clause-owners
returns-in-Own-clause-owners c =
    let q = c.in-Own.field-0 in
    let is = own_here c.args.self.now c.args.f c.index.result.now c.requires.frame c.index.ensures q c.in-Own.is in
    own_step c.args.self.now c.args.f c.index.result.now c.requires.frame c.index.ensures (IsHanded c.args.from c.args.to) (Alone q) c.args.to is
    (alone_handed q c.args.from c.args.to c.requires.rows.2 (ap (λ (o : Owners). is_here (held_by c.args.from o)) (sym is) ∙ c.requires.part))

pub returns-in-Shared-clause-owners : goal.returns-in-Shared-clause-owners
returns-in-Shared-clause-owners c =
    many_step c.args.self.now c.args.f c.index.result.now c.requires.frame c.index.ensures c.index-in-Shared.result.now c.index_mut-in-Shared.result.now c.in-Shared.is c.index-in-Shared.ensures c.index_mut-in-Shared.ensures.value
    (IsHanded c.args.from c.args.to) c.hand.new.self (record { left = c.hand.ensures.left; moved = c.hand.ensures.moved; others = c.hand.ensures.others; total = c.hand.ensures.total })
