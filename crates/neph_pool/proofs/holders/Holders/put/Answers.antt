use Rattle.std.proofs.Common.{refl}
use Rattle.neph_pool.specs.declared.owners.Owners.TheVariants.{Spare, Alone}
use Rattle.neph_pool.specs.declared.kind.Kind.TheVariants.{Kept, Own}
use Rattle.neph_pool.specs.Holders.{shared_of}
use Rattle.neph_pool.proofs.Sharers.{holder_put}
use Rattle.neph_pool.proofs.holders.Holders.put.Goals as goal

pub returns-in-Spare-clause-owners : goal.returns-in-Spare-clause-owners
returns-in-Spare-clause-owners c =
    let p = c.args.self.now in
    rw c.in-Spare.is (holder_put (shared_of p.counts.items) p.kinds.items p.places.items c.args.f (Kept c.in-Spare.row) (Spare c.in-Spare.row) (λ x. refl))

pub returns-in-Alone-clause-owners : goal.returns-in-Alone-clause-owners
returns-in-Alone-clause-owners c =
    let p = c.args.self.now in
    rw c.in-Alone.is (holder_put (shared_of p.counts.items) p.kinds.items p.places.items c.args.f (Own c.in-Alone.row) (Alone c.in-Alone.row) (λ x. refl))
