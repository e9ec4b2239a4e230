use Rattle.std.proofs.Common.{◌≡◌, ℕ, List, [], ◌++◌, map, sym, ap, ◌∙◌, subst}
use Rattle.std.proofs.lemmas.List.{append-nil}
use Rattle.std.specs.List.Sorted.{IsStrictlySortedBy}
use Rattle.neph_tree.proofs.EntryLemmas.{order}
use Rattle.neph_tree.proofs.NodeLemmas.{keys_apart, sorted_read}
use Rattle.neph_tree.proofs.node.Node.names.Goals as goal

pub returns-clause-names : goal.returns-clause-names
returns-clause-names c =
    let all = c.into_iter-name-iterator.result in
    let done : c.loop-name.names.items ++ [] ≡ c.new-names.result.items ++ map (λ k. k.items) all = ap (λ left. c.loop-name.names.items ++ map (λ k. k.items) left) (sym c.in-None.ensures.steps.0) ∙ c.loop-name.invariant in
    c.of-2.ensures ∙ sym (append-nil _) ∙ done ∙ ap (λ (front : List (List ℕ)). front ++ map (λ k. k.items) all) c.new-names.ensures.items
    ∙ ap (λ ks. map (λ k. k.items) ks) (c.into_iter-name-iterator.ensures.into_iter_gives ∙ c.keys-name-items.ensures.rest) ∙ keys_apart c.args.self.now.children.entries

pub returns-clause-order : goal.returns-clause-order
returns-clause-order c =
    let Sorted : List (List ℕ) → Type 0 = λ ns. IsStrictlySortedBy order ns in
    subst Sorted (sym (returns-clause-names c)) (sorted_read c.args.self.now.children.entries c.keys-name-items.ensures.ordered)
