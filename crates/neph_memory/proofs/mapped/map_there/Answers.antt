use Rattle.std.proofs.Common.{ℕ, sym, subst}
use Rattle.neph_memory.proofs.Making.{made_rest, stands_after}
use Rattle.neph_memory.specs.Memory.{IsSpareAt, Stands}
use Rattle.neph_memory.proofs.mapped.map_there.Goals as goal

pub put-requires-clause-made : goal.put-requires-clause-made
put-requires-clause-made g c = made_rest _ _ _ (IsSpareAt c.args.d.now.own) c.requires.stands.memory.made

pub returns-clause-stands : goal.returns-clause-stands
returns-clause-stands g c =
    let W = g.P.FramePool.world in
    subst (λ (k : ℕ). Stands W c.put.new.pool c.put.new.d.seat k c.put.new.d.tables.root c.put.new.d.own) (sym c.put.ensures.id)
    (stands_after W c.args.pool.now c.args.d.now.seat c.put.new.pool c.put.new.d.seat c.args.d.now.id c.args.d.now.tables.root c.put.new.d.tables.root c.args.d.now.own c.put.new.d.own
    c.requires.stands c.put.ensures.moves c.in_ok-put.ensures.made c.put.ensures.holds c.put.ensures.spare c.put.ensures.pages c.put.ensures.leaves)
