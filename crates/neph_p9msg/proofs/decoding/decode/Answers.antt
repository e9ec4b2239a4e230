use Rattle.std.proofs.Common.{sym, ap, ◌∙◌, arith}
use Rattle.neph_p9msg.specs.Reading.{message_of}
use Rattle.neph_p9msg.proofs.Whole.{message_takes, message_again, not_found}
use Rattle.neph_p9msg.proofs.decoding.decode.Goals as goal

pub returns-in-Ok-clause-found : goal.returns-in-Ok-clause-found
returns-in-Ok-clause-found c = λ m. (
  λ e. message_takes c.args.bytes.now m (λ i. omega (arith, c.type_inv.bytes i)) (c.in-Ok.ensures ∙ e),
  λ p. sym c.in-Ok.ensures ∙ ap message_of p.spelling ∙ message_again m p.message,
)

pub returns-in-Ok-clause-message : goal.returns-in-Ok-clause-message
returns-in-Ok-clause-message c = (message_takes c.args.bytes.now c.in-Ok.found (λ i. omega (arith, c.type_inv.bytes i)) c.in-Ok.ensures).message

pub returns-in-Err-NoMessage-clause-found : goal.returns-in-Err-NoMessage-clause-found
returns-in-Err-NoMessage-clause-found c = λ m. (
  λ e. absurd (cc e),
  λ p. sym (not_found c.in-Err-NoMessage.field-0 c.args.bytes.now m c.in-Err-NoMessage.field-0-is c.in-Err-NoMessage.ensures p) ∙ ap message_of p.spelling ∙ message_again m p.message,
)
