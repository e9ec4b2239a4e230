use Rattle.std.proofs.Common.{◌≡◌, ◌+◌, ℕ, sym, ap, subst, ◌∙◌, arith}
use Rattle.std.specs.Option.{option_and_then}
use Rattle.std.specs.FinMap as map
use Rattle.neph_evt.specs.PortMap.{PortMap, with_slot}
use Rattle.neph_evt.proofs.Changes.{child_port}
use Rattle.neph_evt.proofs.Keeping.{CopiedBelow, copied_none, copied_next, copied_all}
use Rattle.neph_evt.proofs.links.copy.Goals as goal
use Rattle.neph_evt.proofs.links.copy.Goals.{in-Some, in-None}

pub loop-number-init : goal.loop-number-init
loop-number-init c = copied_none c.args.parent c.args.child c.args.table.now c.requires.closed

pub loop-number-preserved : goal.loop-number-preserved
loop-number-preserved c =
    let n : ℕ = c.loop-number.number in
    let got = c.get-in-loop-number.ensures.port ∙ ap (λ (d : ℕ). map.get c.loop-number.table (d, n)) c.get.ensures.value ∙ c.loop-number.invariant.others c.args.parent n c.requires.differ in
    let after : c.match-get.after ≡ option_and_then (child_port c.args.parent n) (map.get c.args.table.now (c.args.parent, n)) = elim c.match-get.branch [
      | in-Some w ↦ w.after-is ∙ w.port_of_child-after.ensures ∙ ap (option_and_then (child_port c.args.parent n)) (sym w.in-Some.is ∙ got)
      | in-None w ↦ w.after-is ∙ ap (option_and_then (child_port c.args.parent n)) (sym w.in-None.is ∙ got)
    ] in
    subst (λ (m : PortMap). CopiedBelow c.args.parent c.args.child (n + 1) c.args.table.now m)
    (sym (c.set.ensures ∙ ap (λ (d : ℕ). with_slot c.loop-number.table d n c.match-get.after) c.get-in-loop-number-2.ensures.value))
    (copied_next c.args.parent c.args.child n c.args.table.now c.loop-number.table c.match-get.after c.loop-number.invariant after)

pub returns : goal.returns
returns c =
    let whole : c.loop-number.number ≡ 256 = omega arith in
    copied_all c.args.parent c.args.child c.args.table.now c.loop-number.table c.requires.within c.requires.closed
    (subst (λ (k : ℕ). CopiedBelow c.args.parent c.args.child k c.args.table.now c.loop-number.table) whole c.loop-number.invariant)
