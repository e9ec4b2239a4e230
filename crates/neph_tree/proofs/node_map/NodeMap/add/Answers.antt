use Rattle.std.proofs.Common.{◌≡◌, ◌+◌, Bool, true, false, cond, refl, sym, ap, subst, ◌∙◌, arith}
use Rattle.std.specs.Prelude.{not}
use Rattle.std.specs.Cmp.Lexicographic.{nat_list_cmp_total}
use Rattle.std.specs.FinMap as map
use Rattle.neph_tree.specs.Places.{home}
use Rattle.neph_tree.specs.Nodes.{Nodes}
use Rattle.neph_tree.specs.Counts.{AreCounted}
use Rattle.neph_tree.specs.NodeSlab.{nodes_of}
use Rattle.neph_tree.proofs.CountLemmas.{counted_new, len_part}
use Rattle.neph_tree.proofs.TreeLemmas.{not_false}
use Rattle.neph_tree.proofs.node_map.NodeMap.add.Goals as goal

not_true : (b : Bool) → true ≡ not b → b ≡ false
not_true true e = absurd cc
not_true false e = refl

pub invariant_of-self-then-not-added : goal.invariant_of-self-then-not-added
invariant_of-self-then-not-added c =
    let m = nodes_of c.self.inside.nodes in
    let there : map.contains_key m c.args.path.now ≡ true = not_false _ (sym c.if-not-added.true ∙ c.in_ok-added.ensures.tells) in
    let same : nodes_of c.add.new.self ≡ m = c.in_ok-added.ensures.ok ∙ ap (λ b. cond b m (map.insert m c.args.path.now c.args.value.items)) there in
    let Counted : Nodes → Type 0 = λ n. AreCounted c.self.inside.homes n in
    (c.add.ensures.linked, omega (arith, c.self.invariant.1, ap (λ n. map.len n) same), subst Counted (sym same) c.self.invariant.2)

pub count_up-requires : goal.count_up-requires
count_up-requires c = λ d inside. omega (arith, c.self.invariant.2 d inside, len_part (nodes_of c.self.inside.nodes) (home d), c.len.ensures, c.if-len.false)

pub invariant_of-self-2 : goal.invariant_of-self-2
invariant_of-self-2 c =
    let m = nodes_of c.self.inside.nodes in
    let path = c.args.path.now in
    let value = c.args.value.items in
    let missing : map.contains_key m path ≡ false = not_true _ (sym c.if-not-added.false ∙ c.in_ok-added.ensures.tells) in
    let made = c.in_ok-added.ensures.ok ∙ ap (λ b. cond b m (map.insert m path value)) missing in
    let more : map.len (map.insert m path value) ≡ map.len m + 1 = map.len-insert nat_list_cmp_total m path value ∙ ap (λ b. cond b (map.len m) (map.len m + 1)) missing in
    let Counted : Nodes → Type 0 = λ n. AreCounted c.count_up.new.counts n in (
      c.add.ensures.linked,
      omega (arith, ap (λ n. map.len n) made, more, c.len.ensures, c.if-len.false),
      subst Counted (sym made) (counted_new c.self.inside.homes c.count_up.new.counts m path value c.self.invariant.2 missing c.count_up.ensures),
    )
