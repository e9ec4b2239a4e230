use Rattle.std.proofs.Common.{◌≡◌, ℕ, List, [], sym, ap, subst, ◌∙◌}
use Rattle.std.specs.Prelude.{T}
use Rattle.std.specs.FinMap.{get, entries, empty, get-empty}
use Rattle.std.specs.FinMap.Entries.{is_sorted}
use Rattle.neph_tree.specs.Entries.{lent, nodes_in}
use Rattle.neph_tree.specs.Nodes.{Nodes, subtree}
use Rattle.neph_tree.specs.NodeSlab.{nodes_of, Gathers}
use Rattle.neph_tree.proofs.EntryLemmas.{order, entries-from}
use Rattle.neph_tree.proofs.LinkLemmas.{key_stands}
use Rattle.neph_tree.proofs.WriteLemmas.{always_found}
use Rattle.neph_tree.proofs.WalkLemmas.{subtree_none, subtree_same}
use Rattle.neph_tree.proofs.GatherLemmas.{gathered_all}
use Rattle.neph_tree.proofs.node_slab.NodeSlab.within.Goals as goal

pub gather-requires-clause-there : goal.gather-requires-clause-there
gather-requires-clause-there c = always_found c.args.self.now c.requires c.top_of.result.now c.in-Some.key c.in-Some.ensures

pub gather-requires-clause-part : goal.gather-requires-clause-part
gather-requires-clause-part c = λ q v h. absurd (let bad = sym h ∙ ap (λ es. get (nodes_in es) q) c.new-found.ensures.items ∙ get-empty order q in cc)

pub gather-requires-clause-sorted : goal.gather-requires-clause-sorted
gather-requires-clause-sorted c = subst (λ es. T (is_sorted order (lent es))) (sym c.new-found.ensures.items) tt

pub returns-in_ok-gather-in-Some : goal.returns-in_ok-gather-in-Some
returns-in_ok-gather-in-Some c =
    let t = c.args.self.now in
    let n = key_stands t c.requires c.top_of.result.now c.in-Some.key (sym c.in-Some.ensures) in
    let none : nodes_in c.new-found.result.items ≡ empty = ap (λ es. nodes_in es) c.new-found.ensures.items in
    let G : Nodes → Type 0 = λ m. Gathers t n.0.path.items m (nodes_in c.gather.new.found.items) [] in
    let all = gathered_all t n.0.path.items (nodes_in c.gather.new.found.items) (subst G none (c.in_ok-gather-in-Some.ensures.gathers n.0 n.1)) ∙ ap (λ p. subtree (nodes_of t) p) n.2 ∙ subtree_same t c.requires c.args.top.now c.top_of.result.now c.top_of.ensures.same in
    sym (entries-from (lent c.gather.new.found.items) c.in_ok-gather-in-Some.ensures.sorted) ∙ ap (λ m. entries m) all

pub returns-in-None : goal.returns-in-None
returns-in-None c =
    let none = subtree_none c.args.self.now c.requires c.args.top.now c.top_of.result.now c.top_of.ensures.same c.top_of.ensures.some (sym c.in-None.ensures) in
    ap (λ es. lent es) c.new-found.ensures.items ∙ sym (entries-from {X = List ℕ} [] tt) ∙ ap (λ m. entries m) none
