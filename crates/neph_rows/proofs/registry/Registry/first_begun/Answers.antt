use Rattle.std.proofs.Common.{arith, ◌∙◌, ap}
use Rattle.std.specs.Prelude.{slice_get}
use Rattle.neph_rows.proofs.SlotFacts.{first_later}
use Rattle.neph_rows.proofs.registry.Registry.first_begun.Goals as goal

pub returns-clause-later : goal.returns-clause-later
returns-clause-later c =
    first_later c.self.inside c.get.result c.args.id c.index.result.now c.copied.result c.self.invariant (omega (arith, c.get.ensures.value, c.get.ensures.range)) c.get.ensures.value c.index.ensures
    (c.copied.ensures ∙ c.first.ensures.value ∙ ap (λ xs. slice_get xs 0) c.deref.ensures.value)
