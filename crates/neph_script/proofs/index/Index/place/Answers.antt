use Rattle.std.proofs.Common.{◌∙◌}
use Rattle.neph_script.proofs.Places.{same_lookup}
use Rattle.neph_script.proofs.index.Index.place.Goals as goal

pub returns : goal.returns
returns c = c.copied.ensures ∙ c.get.ensures.value ∙ same_lookup c.args.name.now c.args.self.now.places.entries
