use Rattle.std.proofs.Common.{◌≡◌, ℕ, ◌<◌, arith, List, length, Some, [], ◌∷◌, ◌++◌, ap, subst, ◌∙◌, refl}
use Rattle.neph_p9srv.specs.declared.tree.Node.{Node}
use Rattle.neph_p9srv.proofs.EntryLemmas.{more_entries}
use Rattle.neph_p9srv.proofs.tree.add.Goals as goal

pub returns-clause-entries : goal.returns-clause-entries
returns-clause-entries c =
    let size : c.len-n.result ≡ length c.args.nodes.now.items = omega (arith, c.len-n.ensures, c.args.nodes.now.ok.0) in
    rw (c.in_ok-push.ensures.items, c.in_ok-push-3.ensures.items) (more_entries c.args.nodes.now.items c.args.entries.now.items (record { parent = Some c.descend-dir.result; name = c.in_ok-name.name; body = c.match-item.body })
    c.descend-dir.result c.index_mut.result.now c.push-2.new.self c.new.result c.requires.entries (subst (λ (ns : List Node). c.descend-dir.result < length ns) c.deref.ensures.value c.descend-dir.ensures.range) c.index_mut.ensures.value refl
    (c.in_ok-push-2.ensures.items ∙ ap (λ (k : ℕ). c.index_mut.result.now.items ++ k ∷ []) size) c.new.ensures.items)
