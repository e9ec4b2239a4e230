use Rattle.std.proofs.Common.{◌≡◌, drop}
use Rattle.neph_script.specs.Lines.{settled}
use Rattle.neph_script.proofs.Onto.{onto}
use Rattle.neph_script.proofs.state.Draft.settled.Given as goal

abbrev pub invariant-loop-line : goal.invariant-loop-line
invariant-loop-line l = settled l.self.labels.items 0 l.said-items ≡ onto l.commands.items (settled l.self.labels.items l.line (drop l.line l.said-items))
