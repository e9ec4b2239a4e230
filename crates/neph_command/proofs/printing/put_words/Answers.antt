use Rattle.std.proofs.Common.{◌∙◌, ◌++◌, List, ℕ, ap, sym, append_assoc}
use Rattle.neph_command.specs.Verbs.{keyword}
use Rattle.neph_command.proofs.Printed.{joined, spaced_operands}
use Rattle.neph_command.proofs.printing.put_words.Goals as goal

pub loop-operand-init : goal.loop-operand-init
loop-operand-init c =
    ap (λ (xs : List ℕ). xs ++ spaced_operands c.args.operands.now) c.in_ok-put_word.ensures ∙ append_assoc c.args.text.now.items c.keyword.result.now (spaced_operands c.args.operands.now)
    ∙ ap (λ (k : List ℕ). c.args.text.now.items ++ (k ++ spaced_operands c.args.operands.now)) c.keyword.ensures
    ∙ ap (λ (xs : List ℕ). c.args.text.now.items ++ xs) (sym (joined (keyword c.args.verb) c.args.operands.now))
