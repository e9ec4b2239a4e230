use Rattle.std.proofs.Common.{◌≡◌, arith, sym, ◌∙◌, ap, ℕ, List, length}
use Rattle.std.proofs.lemmas.Option.{slice_get_past}
use Rattle.neph_net.specs.Families.{is_member, members}
use Rattle.neph_net.proofs.Counting.{below, below_none, members_all, member_found, some_number, length-below_true, length-below_false}
use Rattle.neph_net.proofs.switch.Switch.member.Goals.{then-has+else-before-eq0, else-has}
use Rattle.neph_net.proofs.switch.Switch.member.Goals as goal

pub loop-id-init : goal.loop-id-init
loop-id-init c = let e = below_none (is_member c.args.self.now c.args.family) in omega arith

pub returns-then-before-eq0 : goal.returns-then-before-eq0
returns-then-before-eq0 c =
    member_found c.args.self.now c.args.family c.loop-id.id c.args.place (sym c.if-has.ensures) c.loop-id-test.true (omega (arith, c.loop-id.invariant))
    ∙ sym (some_number c.new.result c.loop-id.id c.new.ensures c.loop-id-test.true)

pub loop-id-preserved : goal.loop-id-preserved
loop-id-preserved c =
    elim c.if-has.branch [
      | then-has+else-before-eq0 w ↦ (let e = length-below_true (is_member c.args.self.now c.args.family) c.loop-id.id (sym c.has.ensures ∙ w.if-has.true) in omega (arith, c.loop-id.invariant, w.if-before-eq0.false))
      | else-has w ↦ (let e = length-below_false (is_member c.args.self.now c.args.family) c.loop-id.id (sym c.has.ensures ∙ w.if-has.false) in omega (arith, c.loop-id.invariant))
    ]

pub returns : goal.returns
returns c =
    let end : c.loop-id.id ≡ 64 = omega arith in
    slice_get_past (members c.args.self.now c.args.family) c.args.place
    (let l : length (members c.args.self.now c.args.family) ≡ length (below (is_member c.args.self.now c.args.family) c.loop-id.id)
    = ap (λ (xs : List ℕ). length xs) (members_all c.args.self.now c.args.family) ∙ ap (λ (n : ℕ). length (below (is_member c.args.self.now c.args.family) n)) (sym end) in omega (arith, c.loop-id.invariant))
