use Rattle.std.proofs.Common.{◌++◌, ◌∷◌, [], ℕ, List, ap, ◌∙◌}
use Rattle.neph_tree.specs.Entries.{shown}
use Rattle.neph_xsclone.specs.Rewriting.{moved_or_same}
use Rattle.neph_xsclone.proofs.Adding.{shown-push}
use Rattle.neph_xsclone.proofs.copies.add_copy.Goals as goal

pub returns : goal.returns
returns c =
    let old = shown c.args.nodes.now.items in
    let p = c.args.node.now.0.now in
    ap (λ xs. shown xs) c.in_ok-push.ensures.items ∙ shown-push c.args.nodes.now.items (c.in_ok-path.path, c.in_ok-value.value)
    ∙ ap (λ (q : List ℕ). old ++ (q, c.in_ok-value.value.items) ∷ []) c.in_ok-path.ensures ∙ ap (λ (v : List ℕ). old ++ (moved_or_same c.args.from.now c.args.to.now p, v) ∷ []) c.in_ok-value.ensures
