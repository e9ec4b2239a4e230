use Rattle.std.proofs.Common.{◌≡◌, ◌++◌, drop}
use Rattle.neph_model.specs.Births.{none_alone}
use Rattle.neph_flat.proofs.child.none_alone.Given as goal

abbrev pub invariant-loop-page : goal.invariant-loop-page
invariant-loop-page l = l.list.items ++ none_alone (drop l._page-index l.alone) ≡ none_alone l.alone
