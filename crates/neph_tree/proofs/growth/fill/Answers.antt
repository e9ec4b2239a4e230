use Rattle.std.proofs.Common.{◌≡◌, true, length, sym, ap, subst, ◌∙◌, arith}
use Rattle.std.specs.FinMap.{contains_key, insert}
use Rattle.std.specs.Vec.Iter.{into_iter_items}
use Rattle.neph_tree.specs.Nodes.{Nodes}
use Rattle.neph_tree.specs.Entries.{shown}
use Rattle.neph_tree.specs.Growth.{HasEach, with_values}
use Rattle.neph_tree.proofs.EntryLemmas.{no_entries}
use Rattle.neph_tree.proofs.TreeLemmas.{HasEach-insert, replaced_is}
use Rattle.neph_tree.proofs.growth.fill.Goals as goal

pub loop-path-init : goal.loop-path-init
loop-path-init c =
    let gives = c.into_iter-path-iterator.ensures.into_iter_gives in
    record {
      all = ap (λ xs. with_values c.args.nodes.now (shown xs)) gives.0;
      there = rw gives.0 c.requires;
      counted = gives.1 ∙ c.args.list.ok.0 ∙ ap (λ xs. length xs) (sym gives.0);
    }

pub loop-path-preserved : goal.loop-path-preserved
loop-path-preserved c =
    let steps = c.in-Some.ensures.steps in
    let there = rw steps.0 at c.loop-path.invariant.there in
    let rest = shown (into_iter_items c.next.new.self) in
    let key = c.in-Some.path.items in
    let value = c.in-Some.value.items in
    let same : c.deref.result.now ≡ key = c.deref.ensures.value in
    let has : contains_key c.loop-path.nodes c.deref.result.now ≡ true = ap (λ q. contains_key c.loop-path.nodes q) same ∙ there.0 in
    let set = replaced_is c.loop-path.nodes c.replace.new.self c.deref.result.now value c.replace.result has c.replace.ensures.tells c.replace.ensures.there ∙ ap (λ q. insert c.loop-path.nodes q value) same in
    let Has : Nodes → Type 0 = λ m. HasEach m rest in
    record {
      all = ap (λ m. with_values m rest) set ∙ ap (λ xs. with_values c.loop-path.nodes (shown xs)) (sym steps.0) ∙ c.loop-path.invariant.all;
      there = subst Has (sym set) (HasEach-insert c.loop-path.nodes key value rest there.1);
      counted = omega (arith, steps.1, c.loop-path.invariant.counted, ap (λ xs. length xs) steps.0);
    }

pub returns : goal.returns
returns c =
    let none = no_entries (into_iter_items c.loop-path.path-iterator) (sym c.loop-path.invariant.counted ∙ c.in-None.ensures.steps.0) in
    ap (λ xs. with_values c.loop-path.nodes (shown xs)) (sym none) ∙ c.loop-path.invariant.all
