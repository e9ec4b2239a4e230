use Rattle.std.proofs.Common.{◌≡◌, ℕ, List, [], ◌∷◌, ◌++◌, None, length, ap, ◌∙◌}
use Rattle.neph_p9srv.specs.declared.tree.Node.{Node}
use Rattle.neph_p9srv.specs.State.{root, with_items}
use Rattle.neph_p9srv.proofs.EntryLemmas.{Row, first_entries, starts}
use Rattle.neph_p9srv.proofs.tree.Tree.new.Goals as goal

pub loop-item-init : goal.loop-item-init
loop-item-init c =
    let one : c.push.new.self.items ≡ root ∷ [] = c.in_ok-push.ensures.items ∙ ap (λ (xs : List Node). xs ++ record { parent = None; name = c.of.result; body = None } ∷ []) c.new-nodes.ensures.items
    ∙ ap (λ (n : List ℕ). record { parent = None; name = n; body = None } ∷ []) (c.of.ensures ∙ c.new.ensures.items) in
    let two : c.push-2.new.self.items ≡ c.new-2.result ∷ [] = c.in_ok-push-2.ensures.items ∙ ap (λ (xs : List Row). xs ++ c.new-2.result ∷ []) c.new-entries.ensures.items in
    (first_entries c.push.new.self.items c.push-2.new.self.items c.new-2.result one two c.new-2.ensures.items, ap length one, ap (λ (ns : List Node). with_items ns c.args.items.now) one ∙ starts c.args.items.now)
