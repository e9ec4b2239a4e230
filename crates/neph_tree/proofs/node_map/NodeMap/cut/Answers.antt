use Rattle.std.proofs.Common.{◌≡◌, ◌-◌, sym, ap, subst, ◌∙◌, arith}
use Rattle.std.specs.FinMap as map
use Rattle.neph_tree.specs.Counts.{AreCounted}
use Rattle.neph_tree.specs.Nodes.{Nodes, subtree, without}
use Rattle.neph_tree.specs.NodeSlab.{nodes_of}
use Rattle.neph_tree.proofs.CountLemmas.{len_cut, gone_fits, counted_cut}
use Rattle.neph_tree.proofs.node_map.NodeMap.cut.Goals as goal

pub overflow_sub-gone : goal.overflow_sub-gone
overflow_sub-gone c =
    let m = nodes_of c.self.inside.nodes in
    omega (arith, ap (λ n. map.len n) c.cut.ensures.nodes, len_cut m c.args.top.now, c.len-before.ensures, c.len.ensures)

pub count_down-requires : goal.count_down-requires
count_down-requires c =
    let m = nodes_of c.self.inside.nodes in
    let top = c.args.top.now in
    let gone : c.len-before.result - c.len.result ≡ map.len (subtree m top) =
    omega (arith, ap (λ n. map.len n) c.cut.ensures.nodes, len_cut m top, c.len-before.ensures, c.len.ensures)
    in
    gone_fits c.self.inside.homes m top (c.len-before.result - c.len.result) c.self.invariant.2 gone

pub invariant_of-self : goal.invariant_of-self
invariant_of-self c =
    let m = nodes_of c.self.inside.nodes in
    let top = c.args.top.now in
    let same = ap (λ n. map.len n) c.cut.ensures.nodes in
    let gone : c.len-before.result - c.len.result ≡ map.len (subtree m top) = omega (arith, same, len_cut m top, c.len-before.ensures, c.len.ensures) in
    let Counted : Nodes → Type 0 = λ n. AreCounted c.count_down.new.counts n in (
      c.cut.ensures.linked,
      omega (arith, c.self.invariant.1, same, len_cut m top),
      subst Counted (sym c.cut.ensures.nodes) (counted_cut c.self.inside.homes c.count_down.new.counts m top (c.len-before.result - c.len.result) c.self.invariant.2 gone c.count_down.ensures),
    )

pub returns : goal.returns
returns c = c.cut.ensures.nodes ∙ ap (λ m. without m c.args.top.now) c.self.view_is
