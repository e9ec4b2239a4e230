use Rattle.std.proofs.Common.{◌++◌, ℕ, List, ap, ◌∙◌}
use Rattle.std.specs.Prelude.{codes}
use Rattle.neph_tree.specs.Entries.{shown}
use Rattle.neph_tree.specs.Places.{home}
use Rattle.neph_xsclone.specs.Rewriting.{backend, copies_within}
use Rattle.neph_xsclone.proofs.copies.copies.Goals as goal

pub returns-clause-nodes : goal.returns-clause-nodes
returns-clause-nodes c =
    let t = c.args.t.now in
    let p = c.args.parent in
    let k = c.args.child in
    let first = c.in_ok-copy_within.ensures.copies ∙ ap (λ (f : List ℕ). shown c.new-nodes.result.items ++ copies_within t p k f c.bytes-2.result.now) (c.bytes.ensures ∙ c.home-home.ensures)
    ∙ ap (λ (o : List ℕ). shown c.new-nodes.result.items ++ copies_within t p k (home p) o) (c.bytes-2.ensures ∙ c.home.ensures) ∙ ap (λ xs. shown xs ++ copies_within t p k (home p) (home k)) c.new-nodes.ensures.items
    in
    let second = c.in_ok-copy_backend.ensures ∙ ap (λ xs. xs ++ copies_within t p k (backend (codes "9pfs") p) (backend (codes "9pfs") k)) first in
    let third = c.in_ok-copy_backend-2.ensures ∙ ap (λ xs. xs ++ copies_within t p k (backend (codes "console") p) (backend (codes "console") k)) second in
    c.in_ok-copy_backend-3.ensures ∙ ap (λ xs. xs ++ copies_within t p k (backend (codes "vif") p) (backend (codes "vif") k)) third
