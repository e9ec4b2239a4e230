use Rattle.std.proofs.lemmas.List.Elements.{All-replicate}
use Rattle.neph_print.specs.Texts.{StandsAt}
use Rattle.neph_print.proofs.TextLemmas.{nowhere}
use Rattle.neph_print.proofs.texts.LineTexts.none.Goals as goal

pub returns : goal.returns
returns c = λ s. All-replicate (StandsAt s _) 512 _ (nowhere s _ 0 0)
