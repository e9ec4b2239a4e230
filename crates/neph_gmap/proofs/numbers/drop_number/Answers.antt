use Rattle.std.proofs.Common.{sym, ◌∙◌}
use Rattle.neph_gmap.proofs.Rising.{without_at, without_absent}
use Rattle.neph_gmap.proofs.numbers.drop_number.Goals as goal

pub returns-then-stands_at : goal.returns-then-stands_at
returns-then-stands_at c =
    let at = rw c.deref-2.ensures.value at (c.stands_at.ensures.yes c.if-stands_at.true) in
    c.remove.ensures.items ∙ sym (without_at 0 c.args.list.now.items c.place_of-place.result c.args.v c.requires at.0 at.1)

pub returns-else-stands_at : goal.returns-else-stands_at
returns-else-stands_at c =
    let p = rw c.deref.ensures.value at c.place_of-place.ensures in
    let absent = rw c.deref-2.ensures.value at (c.stands_at.ensures.no c.if-stands_at.false) in
    sym (without_absent c.args.list.now.items c.place_of-place.result c.args.v c.requires p.below p.above absent)
