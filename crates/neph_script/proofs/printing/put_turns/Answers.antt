use Rattle.std.proofs.Common.{◌∙◌, ℕ, ap, arith, take, drop}
use Rattle.std.proofs.lemmas.Bool.Decides.{nat_tests}
use Rattle.neph_script.proofs.Printed.{group_printed}
use Rattle.neph_script.proofs.printing.put_turns.Goals as goal

pub groups-preserved : goal.groups-preserved
groups-preserved c =
    group_printed c.groups.out.items c.put_group.new.out.items _ c.groups.rest.now c.split_at.result.0.now c.split_at.result.1.now (grind (arith, nat_tests)) (c.split_at.ensures.front ∙ ap (λ (n : ℕ). take n c.groups.rest.now) c.min.ensures) (c.split_at.ensures.back ∙ ap (λ (n : ℕ). drop n c.groups.rest.now) c.min.ensures) c.groups.invariant c.in_ok-put_group.ensures
