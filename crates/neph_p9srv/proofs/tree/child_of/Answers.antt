use Rattle.std.proofs.Common.{ℕ, List, [], ap, ◌∙◌}
use Rattle.neph_p9srv.specs.Entries.{first_named}
use Rattle.neph_p9srv.proofs.EntryLemmas.{lists, row_at, row_past, found_in}
use Rattle.neph_p9srv.proofs.tree.child_of.Goals as goal

pub returns-then-place-entries : goal.returns-then-place-entries
returns-then-place-entries c =
    c.named.ensures ∙ ap (λ (xs : List ℕ). first_named c.args.nodes.now xs c.args.name.now) c.deref.ensures.value
    ∙ found_in c.args.nodes.now (lists c.args.entries.now) c.args.dir c.index-entries-place.result.items c.args.name.now c.requires (row_at c.args.entries.now c.args.dir c.index-entries-place.result c.if-place-entries.true c.index-entries-place.is)

pub returns-else-place-entries : goal.returns-else-place-entries
unfolding first_named
returns-else-place-entries c =
    found_in c.args.nodes.now (lists c.args.entries.now) c.args.dir [] c.args.name.now c.requires (row_past c.args.entries.now c.args.dir c.if-place-entries.false)
