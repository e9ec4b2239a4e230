use Rattle.std.proofs.Common.{refl, sym, ap, ◌∙◌, true}
use Rattle.neph_pool.specs.declared.owners.Owners.{Owners}
use Rattle.neph_pool.specs.declared.owners.Owners.TheVariants.{Alone}
use Rattle.neph_pool.specs.Entries.{weight_of}
use Rattle.neph_pool.specs.Owners.{held_by, IsReleased}
use Rattle.neph_pool.proofs.Holding.{spare_weight, last_released}
use Rattle.neph_pool.proofs.Sharers.{kept_here, own_here, kept_step}
use Rattle.neph_pool.proofs.holders.Holders.release.Goals as goal

pub returns-in-Kept-clause-owners : goal.returns-in-Kept-clause-owners
returns-in-Kept-clause-owners c =
    let is = kept_here c.args.self.now c.args.f c.index.result.now c.requires.frame c.index.ensures c.in-Kept.field-0 c.in-Kept.is in
    absurd (spare_weight c.args.row c.in-Kept.field-0 (ap (λ (o : Owners). weight_of (held_by c.args.row o)) (sym is) ∙ c.requires.once))

pub returns-in-Own-clause-owners : goal.returns-in-Own-clause-owners
returns-in-Own-clause-owners c =
    let q = c.in-Own.field-0 in
    let is = own_here c.args.self.now c.args.f c.index.result.now c.requires.frame c.index.ensures q c.in-Own.is in
    kept_step c.args.self.now c.args.f c.index.result.now c.requires.frame c.index.ensures (IsReleased true c.args.row) (Alone q) c.args.row is
    (last_released (Alone q) c.args.row refl (ap (λ (o : Owners). weight_of (held_by c.args.row o)) (sym is) ∙ c.requires.once))
