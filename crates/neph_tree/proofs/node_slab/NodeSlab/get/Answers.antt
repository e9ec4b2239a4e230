use Rattle.std.proofs.Common.{Some, is_some, sym, ap, ◌∙◌}
use Rattle.neph_tree.proofs.WriteLemmas.{value_found, value_missing, always_found}
use Rattle.neph_tree.proofs.node_slab.NodeSlab.get.Goals as goal

pub returns-in_err-key : goal.returns-in_err-key
returns-in_err-key c = rw c.from_residual.ensures (sym (value_missing c.args.self.now c.requires c.args.path.now (sym c.find.ensures ∙ c.in_err-key.was)))

pub returns-in-Some : goal.returns-in-Some
returns-in-Some c =
    ap Some c.deref.ensures.value ∙ sym (value_found c.args.self.now c.requires c.args.path.now c.in_ok-key.key c.in-Some.node.now (sym c.in_ok-key.was ∙ c.find.ensures) c.in-Some.ensures)

pub returns-in-None : goal.returns-in-None
returns-in-None c = absurd (let bad = sym (always_found c.args.self.now c.requires c.args.path.now c.in_ok-key.key (sym c.in_ok-key.was ∙ c.find.ensures)) ∙ ap is_some (sym c.in-None.ensures) in cc)
