use Rattle.std.proofs.Common.{◌≡◌, Option, Some, None, ap, ◌∙◌, arith}
use Rattle.std.specs.Prelude.{IfNone, IfSome, IsSome, not}
use Rattle.std.specs.FinMap as map
use Rattle.neph_tree.specs.NodeSlab.{nodes_of}
use Rattle.neph_tree.specs.declared.node_slab.NodeSlab.{NodeSlab}
use Rattle.neph_tree.proofs.CountLemmas.{counted_replaced}
use Rattle.neph_tree.proofs.node_map.NodeMap.replace.Goals as goal

unchanged : {X : Type 0} (back : Option X) (v : X) (old new : NodeSlab) → IfSome back (λ b. (b ≡ v) × (new ≡ old)) → IsSome back → nodes_of new ≡ nodes_of old
unchanged None v old new h some = absurd (cc)
unchanged (Some x) v old new h some = ap (λ t. nodes_of t) h.1

pub invariant_of-self : goal.invariant_of-self
invariant_of-self c =
    let old = c.self.inside.nodes in
    let kept = counted_replaced c.replace.result c.self.inside.homes (nodes_of old) (nodes_of c.replace.new.self) c.args.path.now c.args.value.items c.replace.ensures.there (unchanged c.replace.result c.args.value old c.replace.new.self c.replace.ensures.missing) c.replace.ensures.tells c.self.invariant.2 in
    (c.replace.ensures.linked, omega (arith, kept.0, c.self.invariant.1), kept.1)

if_none : {X : Type 0} {P Q : Type 0} (o : Option X) → (P → Q) → IfNone o P → IfNone o Q
if_none None f h = f h
if_none (Some x) f h = h

if_some : {X : Type 0} {P Q : X → Type 0} (o : Option X) → ((x : X) → P x → Q x) → IfSome o P → IfSome o Q
if_some None f h = h
if_some (Some x) f h = f x h

pub returns-clause-there : goal.returns-clause-there
returns-clause-there c = if_none c.replace.result (λ e. e ∙ ap (λ m. map.insert m c.args.path.now c.args.value.items) c.self.view_is) c.replace.ensures.there

pub returns-clause-missing : goal.returns-clause-missing
returns-clause-missing c = if_some c.replace.result (λ x e. (e.0, ap (λ t. nodes_of t) e.1 ∙ c.self.view_is)) c.replace.ensures.missing

pub returns-clause-tells : goal.returns-clause-tells
returns-clause-tells c = c.replace.ensures.tells ∙ ap (λ m. not (map.contains_key m c.args.path.now)) c.self.view_is
