use Rattle.std.proofs.Common.{ℕ, ◌++◌, ap, ◌∙◌}
use Rattle.neph_p9msg.specs.Grammar.{number}
use Rattle.neph_p9msg.proofs.FieldLaws.{one_byte}
use Rattle.neph_p9msg.proofs.Puts.{three_puts}
use Rattle.neph_p9msg.proofs.encoding.put_qid.Goals as goal

pub returns : goal.returns
returns c =
    three_puts c.args.draft.now c.put.new.self c.put_u32.new.self c.put_u64.new.self (one_byte c.qid_byte.result) (number 4 0) (number 8 c.args.q.path) c.put.ensures c.put_u32.ensures c.put_u64.ensures
    ∙ ap (λ (b : ℕ). c.args.draft.now ++ (one_byte b ++ (number 4 0 ++ number 8 c.args.q.path))) c.qid_byte.ensures
