use Rattle.std.proofs.Common.{◌≡◌, Some, ℕ, is_some, sym, ap, subst, ◌∙◌, arith, Vec, Global, true}
use Rattle.std.specs.Prelude.{T}
use Rattle.std.specs.Cmp.Lexicographic.{nat_list_cmp_total}
use Rattle.std.specs.FinMap.Entries.{is_sorted, is_sorted-put}
use Rattle.std.specs.List.{All}
use Rattle.std.proofs.lemmas.List.Elements.{All-head, All-tail}
use Rattle.std.specs.Map.{values_of}
use Rattle.neph_tree.specs.declared.node.Node.{Node}
use Rattle.neph_tree.specs.Entries.{lent, nodes_in}
use Rattle.neph_tree.specs.Places.{is_within}
use Rattle.neph_tree.specs.Node.{child_of}
use Rattle.neph_tree.specs.NodeSlab.{node_at, Gathers}
use Rattle.neph_tree.proofs.EntryLemmas.{order}
use Rattle.neph_tree.proofs.Within.{within_below}
use Rattle.neph_tree.proofs.SearchLemmas.{child_stands}
use Rattle.neph_tree.proofs.WriteLemmas.{child_fewer}
use Rattle.neph_tree.proofs.GatherLemmas.{gather_begun, gathered_next, gathered_part}
use Rattle.neph_tree.proofs.node_slab.NodeSlab.+gather.Goals as goal

pub loop-child-init : goal.loop-child-init
loop-child-init t c = record {
  gathers = λ node at.
      let both : Some c.in-Some.node.now ≡ Some node = c.in-Some.ensures ∙ at in
      let one : c.in-Some.node.now ≡ node = cc in
      let G : Node → Type 0 = λ n. Gathers c.args.self.now n.path.items (nodes_in c.args.found.now.items) (nodes_in c.put_by_path.new.found.items) (values_of n.children.entries) in
      let begun = gather_begun c.args.self.now c.args.key c.in-Some.node.now c.args.found.now.items c.put_by_path.new.found.items c.deref.result.now c.deref-2.result.now c.requires.linked (sym c.in-Some.ensures) c.requires.part c.deref.ensures.value c.deref-2.ensures.value c.in_ok-put_by_path.ensures in
      let left : c.in-Some.node.now.children.entries ≡ c.into_iter-child-iterator.result = sym (c.into_iter-child-iterator.ensures.into_iter_gives ∙ c.iter-child-items.ensures.rest) in
      let L : Node → Type 0 = λ n. Gathers c.args.self.now n.path.items (nodes_in c.args.found.now.items) (nodes_in c.put_by_path.new.found.items) (values_of c.into_iter-child-iterator.result) in
      subst L one (subst (λ es. Gathers c.args.self.now c.in-Some.node.now.path.items (nodes_in c.args.found.now.items) (nodes_in c.put_by_path.new.found.items) (values_of es)) left begun);
  listed = λ node at.
      let both : Some c.in-Some.node.now ≡ Some node = c.in-Some.ensures ∙ at in
      let one : c.in-Some.node.now ≡ node = cc in
      let left : c.in-Some.node.now.children.entries ≡ c.into_iter-child-iterator.result = sym (c.into_iter-child-iterator.ensures.into_iter_gives ∙ c.iter-child-items.ensures.rest) in
      let P : Node → Type 0 = λ n. All (λ e. child_of n e.0.items ≡ Some e.1) c.into_iter-child-iterator.result in
      subst P one (subst (λ es. All (λ e. child_of c.in-Some.node.now e.0.items ≡ Some e.1) es) left c.iter-child-items.ensures.found);
  sorted = subst (λ es. T (is_sorted order es)) (sym c.in_ok-put_by_path.ensures) (is_sorted-put order nat_list_cmp_total c.deref.result.now c.deref-2.result.now (lent c.args.found.now.items) c.requires.sorted);
}

pub gather-requires : goal.gather-requires
gather-requires t c =
    let node = c.in-Some.node.now in
    let at : node_at c.args.self.now c.args.key ≡ Some node = sym c.in-Some.ensures in
    let P : Vec ℕ Global × ℕ → Type 0 = λ e. child_of node e.0.items ≡ Some e.1 in
    let found = All-head P (c.in-Some-2.field-0-0.now, c.in-Some-2.child.now) c.next.new.self (subst (λ es. All P es) c.in-Some-2.ensures.steps (c.loop-child.invariant.listed node at)) in
    let name = c.in-Some-2.field-0-0.now.items in
    let less = child_fewer c.args.self.now c.requires.linked c.args.key node name c.in-Some-2.child.now at found in (
      omega (arith, less, c.decreases),
      (
        c.requires.linked,
        (
          ap is_some (child_stands c.args.self.now c.requires.linked c.args.key node name c.in-Some-2.child.now at found).1,
          (
            gathered_part c.args.self.now node.path.items (nodes_in c.args.found.now.items) (nodes_in c.loop-child.found.items) (values_of c.loop-child.child-iterator) (c.loop-child.invariant.gathers node at),
            c.loop-child.invariant.sorted,
          ),
        ),
      ),
    )

pub loop-child-preserved : goal.loop-child-preserved
loop-child-preserved t c = record {
  gathers = λ node at.
      let P : Vec ℕ Global × ℕ → Type 0 = λ e. child_of node e.0.items ≡ Some e.1 in
      let found = All-head P (c.in-Some-2.field-0-0.now, c.in-Some-2.child.now) c.next.new.self (subst (λ es. All P es) c.in-Some-2.ensures.steps (c.loop-child.invariant.listed node at)) in
      let name = c.in-Some-2.field-0-0.now.items in
      let b = child_stands c.args.self.now c.requires.linked c.args.key node name c.in-Some-2.child.now at found in
      let below : is_within node.path.items b.0.path.items ≡ true = ap (λ p. is_within node.path.items p) b.3 ∙ within_below node.path.items name in
      let so_far = subst (λ es. Gathers c.args.self.now node.path.items (nodes_in c.args.found.now.items) (nodes_in c.loop-child.found.items) (values_of es)) c.in-Some-2.ensures.steps (c.loop-child.invariant.gathers node at) in
      gathered_next c.args.self.now node.path.items c.in-Some-2.child.now b.0 (nodes_in c.args.found.now.items) (nodes_in c.loop-child.found.items) (nodes_in c.gather.new.found.items) (values_of c.next.new.self) b.1 below so_far (c.in_ok-gather.ensures.gathers b.0 b.1);
  listed = λ node at.
      let P : Vec ℕ Global × ℕ → Type 0 = λ e. child_of node e.0.items ≡ Some e.1 in
      All-tail P (c.in-Some-2.field-0-0.now, c.in-Some-2.child.now) c.next.new.self (subst (λ es. All P es) c.in-Some-2.ensures.steps (c.loop-child.invariant.listed node at));
  sorted = c.in_ok-gather.ensures.sorted;
}

pub returns-clause-gathers : goal.returns-clause-gathers
returns-clause-gathers t c = λ node at.
    subst (λ left. Gathers c.args.self.now node.path.items (nodes_in c.args.found.now.items) (nodes_in c.loop-child.found.items) (values_of left)) c.in-None.ensures.steps.0 (c.loop-child.invariant.gathers node at)
