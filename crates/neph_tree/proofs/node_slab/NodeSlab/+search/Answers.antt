use Rattle.std.proofs.Common.{◌≡◌, Some, None, sym, ap, ◌∙◌}
use Rattle.std.specs.FinMap.{get}
use Rattle.neph_tree.specs.NodeSlab.{keys_of, node_at}
use Rattle.neph_tree.proofs.SearchLemmas.{form_of_key, way_down}
use Rattle.neph_tree.proofs.node_slab.NodeSlab.+search.Goals as goal

pub returns-in_default : goal.returns-in_default
returns-in_default t c = λ key h.
    c.requires.root ∙ ap (λ p. get (keys_of c.args.self.now) p) (sym (c.in_default.ensures.none (form_of_key c.args.self.now c.requires c.args.path.now key h))) ∙ h

pub returns-in-Some-hinted : goal.returns-in-Some-hinted
returns-in-Some-hinted t c = λ key h.
    let w = way_down c.args.self.now c.requires c.args.path.now c.in-Some.above.now c.in-Some.name.now key (c.in-Some.ensures.some (form_of_key c.args.self.now c.requires c.args.path.now key h)) h in
    let both : Some c.in-Some-hinted.up ≡ Some w.0 = sym c.in-Some-hinted.ensures ∙ w.2 in
    let one : c.in-Some-hinted.up ≡ w.0 = cc in
    c.child.ensures w.1 (ap (λ k. node_at c.args.self.now k) one ∙ w.3) ∙ w.4

pub returns-in_err-up : goal.returns-in_err-up
returns-in_err-up t c = λ key h.
    let w = way_down c.args.self.now c.requires c.args.path.now c.in-Some.above.now c.in-Some.name.now key (c.in-Some.ensures.some (form_of_key c.args.self.now c.requires c.args.path.now key h)) h in
    absurd (let bad : None ≡ Some w.0 = sym c.in_err-up.was ∙ c.search.ensures w.0 w.2 in cc)

pub returns : goal.returns
returns t c = λ key h.
    let w = way_down c.args.self.now c.requires c.args.path.now c.in-Some.above.now c.in-Some.name.now key (c.in-Some.ensures.some (form_of_key c.args.self.now c.requires c.args.path.now key h)) h in
    let both : Some c.in_ok-up.up ≡ Some w.0 = sym c.in_ok-up.was ∙ c.search.ensures w.0 w.2 in
    let one : c.in_ok-up.up ≡ w.0 = cc in
    c.child-2.ensures w.1 (ap (λ k. node_at c.args.self.now k) one ∙ w.3) ∙ w.4
