use Rattle.std.proofs.Common.{sym, ◌∙◌}
use Rattle.neph_gmap.proofs.Rising.{with_same, with_new}
use Rattle.neph_gmap.proofs.numbers.add_number.Goals as goal

pub returns-then-stands_at-clause-ok : goal.returns-then-stands_at-clause-ok
returns-then-stands_at-clause-ok c =
    let at = rw c.deref-2.ensures.value at (c.stands_at.ensures.yes c.if-stands_at.true) in
    sym (with_same 0 c.args.list.now.items c.place_of-place.result c.args.v c.requires at.0 at.1)

pub returns-clause-ok : goal.returns-clause-ok
returns-clause-ok c =
    let p = rw c.deref.ensures.value at c.place_of-place.ensures in
    let absent = rw c.deref-2.ensures.value at (c.stands_at.ensures.no c.if-stands_at.false) in
    c.in_ok-insert.ensures.items ∙ sym (with_new c.args.list.now.items c.place_of-place.result c.args.v p.bound p.below p.above absent)
