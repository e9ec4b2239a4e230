use Rattle.std.proofs.Common.{◌++◌, ℕ, List, Bor, map, ap, ◌∙◌}
use Rattle.std.proofs.lemmas.List.{take_all}
use Rattle.neph_tree.specs.Entries.{lent, shown}
use Rattle.neph_xsclone.specs.Rewriting.{copied}
use Rattle.neph_xsclone.proofs.Adding.{more_copied, map_lent}
use Rattle.neph_xsclone.proofs.copies.copy_within.Goals as goal

pub loop-node-preserved : goal.loop-node-preserved
loop-node-preserved c =
    let copy = λ (e : Bor (List ℕ) × Bor (List ℕ)). copied c.args.parent c.args.child c.args.from.now c.args.to.now (e.0.now, e.1.now) in
    more_copied copy (shown c.args.nodes.now.items) _ _ c.deref-node-items.result.now c.loop-node.node-index _ c.loop-node-test.true c.loop-node.invariant c.in_ok-add_copy.ensures

pub returns-clause-copies : goal.returns-clause-copies
returns-clause-copies c =
    let lent_copy = λ (e : Bor (List ℕ) × Bor (List ℕ)). copied c.args.parent c.args.child c.args.from.now c.args.to.now (e.0.now, e.1.now) in
    let copy = λ (e : List ℕ × List ℕ). copied c.args.parent c.args.child c.args.from.now c.args.to.now e in
    let old = shown c.args.nodes.now.items in
    let items = c.deref-node-items.result.now in
    c.loop-node.invariant ∙ ap (λ xs. old ++ map lent_copy xs) (take_all c.loop-node.node-index items c.loop-node-test.false)
    ∙ ap (λ xs. old ++ xs) (map_lent copy items ∙ ap (λ xs. map copy (lent xs)) c.deref-node-items.ensures.value ∙ ap (λ es. map copy es) c.in_ok-old.ensures.nodes)
