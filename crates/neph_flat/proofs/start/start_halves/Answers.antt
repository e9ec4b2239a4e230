use Rattle.std.proofs.Common.{sym, ap, ◌∙◌, subst}
use Rattle.std.specs.FinMap as map
use Rattle.neph_model.specs.Start.{places, start_exposed}
use Rattle.neph_flat.specs.Pages.{IsPlaced}
use Rattle.neph_flat.proofs.StartSound.{start_placed}
use Rattle.neph_flat.proofs.start.start_halves.Goals as goal

pub of-requires : goal.of-requires
of-requires c = subst IsPlaced (sym (c.in_ok-maps.ensures ∙ ap (places map.empty (λ n t. start_exposed)) c.items-starts.ensures)) (start_placed c.args.s.now c.requires)
