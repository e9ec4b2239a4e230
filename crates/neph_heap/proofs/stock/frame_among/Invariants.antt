use Rattle.std.proofs.Common.{◌≡◌, drop}
use Rattle.neph_heap.specs.Lists.{frame_in}
use Rattle.neph_heap.proofs.stock.frame_among.Given as goal

abbrev pub invariant-loop-page : goal.invariant-loop-page
invariant-loop-page l = frame_in l.pfn (drop l.page-index l.pages) ≡ frame_in l.pfn l.pages
