use Rattle.std.proofs.Common.{◌≡◌, take}
use Rattle.neph_model.proofs.own.PagesTryClone.try_clone.Given as goal

abbrev pub invariant-loop-page : goal.invariant-loop-page
invariant-loop-page l = l.list.items ≡ take l.page-index l.page-items
