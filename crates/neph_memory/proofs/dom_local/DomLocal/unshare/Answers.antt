use Rattle.std.proofs.Common.{arith, ◌≡◌, Bool, true, false}
use Rattle.neph_memory.proofs.Places.{some_small, mark_at}
use Rattle.neph_memory.proofs.dom_local.DomLocal.unshare.Goals as goal

pub index-requires : goal.index-requires
index-requires g c =
    let small = some_small _ c.args.p c.requires.local in
    omega (arith, small, c.get.ensures.value, c.requires.stands.memory.made.marks, c.args.self.now.own.marks.ok.0)

pub returns-then-index-clause-ok : goal.returns-then-index-clause-ok
returns-then-index-clause-ok g c =
    let small = some_small _ c.args.p c.requires.local in
    mark_at c.args.self.now.own.marks.items c.get.result c.args.p _ _ c.get.ensures.value (omega (arith, small, c.get.ensures.value, c.requires.stands.memory.made.marks)) c.index.ensures c.if-index.true

both_marks : (b : Bool) → b ≡ true → b ≡ false → ⊥
both_marks b h k = cc

pub returns-then-index-clause-moved : goal.returns-then-index-clause-moved
returns-then-index-clause-moved g c = λ h.
    let small = some_small _ c.args.p c.requires.local in
    let m = mark_at c.args.self.now.own.marks.items c.get.result c.args.p _ _ c.get.ensures.value (omega (arith, small, c.get.ensures.value, c.requires.stands.memory.made.marks)) c.index.ensures c.if-index.true in
    absurd (both_marks _ m h)
