use Rattle.std.proofs.Common.{length, drop, sym, ap, ◌∙◌}
use Rattle.std.specs.Prelude.{nat_eq, ◌&&◌}
use Rattle.std.specs.Cmp.Lexicographic.{pointwise}
use Rattle.neph_xsclone.proofs.Moving.{pointwise_joined}
use Rattle.neph_xsclone.proofs.bytes.is_joined.Goals as goal

pub returns-in-Some : goal.returns-in-Some
returns-in-Some c =
    c.eq.ensures ∙ ap (λ r. pointwise nat_eq r c.args.back.now) c.in-Some.ensures.cases.1
    ∙ sym (pointwise_joined c.args.text.now c.args.front.now c.args.back.now ∙ ap (λ b. b && pointwise nat_eq (drop (length c.args.front.now) c.args.text.now) c.args.back.now) c.in-Some.ensures.cases.0)

pub returns-in-None : goal.returns-in-None
returns-in-None c =
    sym (pointwise_joined c.args.text.now c.args.front.now c.args.back.now ∙ ap (λ b. b && pointwise nat_eq (drop (length c.args.front.now) c.args.text.now) c.args.back.now) c.in-None.ensures.cases)
