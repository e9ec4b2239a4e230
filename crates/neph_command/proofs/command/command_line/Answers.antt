use Rattle.std.proofs.Common.{rules, map, sym}
use Rattle.neph_command.proofs.CommandLaws.{alone_right, alone_wrong}
use Rattle.neph_command.proofs.command.command_line.Goals as goal

pub returns-in-None : goal.returns-in-None
returns-in-None c = sym (alone_right c.args.verb (map (λ w. w.now) c.args.words.now) c.in_ok-said.said (search rules) (search rules) (search rules))

pub returns-in-Some : goal.returns-in-Some
returns-in-Some c = sym (alone_wrong c.args.verb (map (λ w. w.now) c.args.words.now) c.in_ok-said.said c.in-Some.why (search rules) (search rules) (search rules))
