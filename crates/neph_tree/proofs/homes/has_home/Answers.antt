use Rattle.std.proofs.Common.{ap, ◌∙◌}
use Rattle.neph_tree.specs.Places.{home, is_within}
use Rattle.neph_tree.proofs.homes.has_home.Goals as goal

pub returns : goal.returns
returns c = c.is_within.ensures ∙ ap (λ p. is_within c.args.top.now p) (c.bytes.ensures ∙ c.home.ensures ∙ ap (λ d. home d) c.in-Some.ensures.1)
