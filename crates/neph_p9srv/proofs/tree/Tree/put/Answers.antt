use Rattle.std.proofs.Common.{List, sym, subst}
use Rattle.neph_p9srv.specs.declared.tree.Node.{Node}
use Rattle.neph_p9srv.specs.Entries.{AreEntries}
use Rattle.neph_p9srv.proofs.EntryLemmas.{lists, entries_kept}
use Rattle.neph_p9srv.proofs.tree.Tree.put.Goals as goal

pub invariant_of-self : goal.invariant_of-self
invariant_of-self c =
    subst (λ (ns : List Node). AreEntries ns (lists c.self.inside.entries.items)) (sym c.put_body.ensures)
    (entries_kept c.self.inside.nodes.items (lists c.self.inside.entries.items) c.args.n c.args.bytes c.self.invariant)
