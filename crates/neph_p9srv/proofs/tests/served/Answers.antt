use Rattle.std.proofs.Common.{List, sym, subst, ◌∙◌}
use Rattle.neph_p9srv.specs.declared.served.FileItem.{FileItem}
use Rattle.neph_p9srv.specs.State.{AreItems}
use Rattle.neph_p9srv.proofs.ExampleLemmas.{example_is}
use Rattle.neph_p9srv.proofs.tests.served.Goals as goal

pub new-requires : goal.new-requires
new-requires c = subst (λ (items : List FileItem). AreItems items) (sym (c.deref.ensures.value ∙ c.in_ok-items.ensures)) example_is
