use Rattle.std.proofs.Common.{◌∙◌, ◌++◌, List, ℕ, ap, sym, append_assoc}
use Rattle.std.specs.Prelude.{codes}
use Rattle.neph_script.proofs.Printed.{joined, spaced_actors}
use Rattle.neph_script.proofs.printing.put_group.Goals as goal

pub loop-actor-init : goal.loop-actor-init
loop-actor-init c =
    ap (λ (xs : List ℕ). xs ++ spaced_actors c.args.actors.now) c.in_ok-put_word.ensures ∙ append_assoc c.args.out.now.items (codes "turns") (spaced_actors c.args.actors.now)
    ∙ ap (λ (xs : List ℕ). c.args.out.now.items ++ xs) (sym (joined (codes "turns") c.args.actors.now))
