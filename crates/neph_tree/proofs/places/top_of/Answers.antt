use Rattle.std.proofs.Common.{◌≡◌, [], length, sym, ap, ◌∙◌}
use Rattle.std.proofs.lemmas.Bool.{eqb-true}
use Rattle.neph_tree.specs.Places.{is_within}
use Rattle.neph_tree.proofs.EntryLemmas.{no_entries}
use Rattle.neph_tree.proofs.ChildLemmas.{all_within_root, all_within_none}
use Rattle.neph_tree.proofs.places.top_of.Goals as goal

pub returns-then-is_empty-clause-same : goal.returns-then-is_empty-clause-same
returns-then-is_empty-clause-same c = λ path is.
    let none : c.args.top.now ≡ [] = no_entries c.args.top.now (eqb-true (length c.args.top.now) 0 (sym c.is_empty.ensures ∙ c.if-is_empty.true)) in
    all_within_root path is ∙ sym (all_within_none path is) ∙ ap (λ t. is_within t path) (sym none)
