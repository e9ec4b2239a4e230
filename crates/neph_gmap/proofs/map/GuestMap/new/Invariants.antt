use Rattle.std.proofs.Common.{◌≡◌, [], replicate, vec_len}
use Rattle.neph_gmap.specs.declared.page.Page.TheVariants.{Exposed}
use Rattle.neph_gmap.proofs.map.GuestMap.new.Given as goal

abbrev pub invariant-loop-p : goal.invariant-loop-p
invariant-loop-p l = record {
  size : vec_len l.vpns ≡ vec_len l.places;
  places : l.places.items ≡ replicate l._p Exposed;
  lists : l.vpns.items ≡ replicate l._p [];
}
