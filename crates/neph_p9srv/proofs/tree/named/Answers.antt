use Rattle.std.proofs.Common.{sym, ◌∙◌}
use Rattle.neph_p9srv.proofs.EntryLemmas.{named_here, named_later, named_none}
use Rattle.neph_p9srv.proofs.tree.named.Goals as goal

pub returns-then-has_name : goal.returns-then-has_name
returns-then-has_name c =
    sym (named_here c.args.nodes.now c.args.among.now c.args.name.now c.loop-n.n-index c.loop-n-test.true (sym c.has_name.ensures ∙ c.if-has_name.true)) ∙ c.loop-n.invariant

pub loop-n-preserved : goal.loop-n-preserved
loop-n-preserved c =
    sym (named_later c.args.nodes.now c.args.among.now c.args.name.now c.loop-n.n-index c.loop-n-test.true (sym c.has_name.ensures ∙ c.if-has_name.false)) ∙ c.loop-n.invariant

pub returns : goal.returns
returns c = sym (named_none c.args.nodes.now c.args.among.now c.args.name.now c.loop-n.n-index c.loop-n-test.false) ∙ c.loop-n.invariant
