use Rattle.std.proofs.Common.{arith, refl}
use Rattle.neph_pool.proofs.Calls.{spares_refl, same_counts_refl}
use Rattle.neph_memory.proofs.Places.{some_small, mark_at}
use Rattle.neph_memory.proofs.dom_local.DomLocal.give_out.Goals as goal

pub index-requires : goal.index-requires
index-requires g c =
    let small = some_small _ c.args.p c.requires.local in
    omega (arith, small, c.get.ensures.value, c.requires.stands.memory.made.marks, c.args.self.now.own.marks.ok.0)

pub expose-requires-clause-marked : goal.expose-requires-clause-marked
expose-requires-clause-marked g c =
    let small = some_small _ c.args.p c.requires.local in
    mark_at c.args.self.now.own.marks.items c.get.result c.args.p _ _ c.get.ensures.value (omega (arith, small, c.get.ensures.value, c.requires.stands.memory.made.marks)) c.index.ensures c.if-not-index.false

pub returns-then-not-index-clause-err : goal.returns-then-not-index-clause-err
returns-then-not-index-clause-err g c =
    let small = some_small _ c.args.p c.requires.local in
    mark_at c.args.self.now.own.marks.items c.get.result c.args.p _ _ c.get.ensures.value (omega (arith, small, c.get.ensures.value, c.requires.stands.memory.made.marks)) c.index.ensures c.if-not-index.true

pub returns-then-not-index-clause-others : goal.returns-then-not-index-clause-others
returns-then-not-index-clause-others g c = spares_refl _ _ _

pub returns-then-not-index-clause-counts : goal.returns-then-not-index-clause-counts
returns-then-not-index-clause-counts g c = same_counts_refl _ _

pub returns-then-not-index-clause-to : goal.returns-then-not-index-clause-to
returns-then-not-index-clause-to g c = record { fits = c.requires.to.0; names = refl }

pub returns-then-not-index-clause-seat : goal.returns-then-not-index-clause-seat
returns-then-not-index-clause-seat g c = record { fits = c.requires.stands.fits; names = refl }

pub returns-clause-ok : goal.returns-clause-ok
returns-clause-ok g c =
    let small = some_small _ c.args.p c.requires.local in
    mark_at c.args.self.now.own.marks.items c.get.result c.args.p _ _ c.get.ensures.value (omega (arith, small, c.get.ensures.value, c.requires.stands.memory.made.marks)) c.index.ensures c.if-not-index.false
