use Rattle.std.proofs.Common.{◌≡◌, take}
use Rattle.neph_flat.proofs.child.copies.Given as goal

abbrev pub invariant-loop-page : goal.invariant-loop-page
invariant-loop-page l = l.list.items ≡ take l.page-index l.pages
