use Rattle.std.proofs.Common.{◌≡◌, arith, sym, ◌∙◌, ap, ℕ, List, length}
use Rattle.neph_net.specs.Families.{is_member}
use Rattle.neph_net.proofs.Counting.{below, below_none, members_all, length-below_true, length-below_false}
use Rattle.neph_net.proofs.switch.Switch.count.Goals.{then-has, else-has}
use Rattle.neph_net.proofs.switch.Switch.count.Goals as goal

pub loop-id-init : goal.loop-id-init
loop-id-init c = record { counted = sym (below_none (is_member c.args.self.now c.args.family)); few = omega arith }

pub loop-id-preserved : goal.loop-id-preserved
loop-id-preserved c =
    elim c.if-has.branch [
      | then-has w ↦ record {
        counted = let e = length-below_true (is_member c.args.self.now c.args.family) c.loop-id.id (sym c.has.ensures ∙ w.if-has.true) in omega arith;
        few = omega arith;
      }
      | else-has w ↦ record {
        counted = let e = length-below_false (is_member c.args.self.now c.args.family) c.loop-id.id (sym c.has.ensures ∙ w.if-has.false) in omega arith;
        few = omega arith;
      }
    ]

pub returns : goal.returns
returns c =
    let end : c.loop-id.id ≡ 64 = omega arith in
    c.loop-id.invariant.counted ∙ ap (λ (n : ℕ). length (below (is_member c.args.self.now c.args.family) n)) end ∙ sym (ap (λ (xs : List ℕ). length xs) (members_all c.args.self.now c.args.family))
