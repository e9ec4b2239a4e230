use Rattle.std.proofs.Common.{map}
use Rattle.neph_script.specs.Seen.{seen}
use Rattle.neph_script.proofs.Fitting.{judged_fits}
use Rattle.neph_script.proofs.state.Reader.line.Goals as goal

pub take-requires-clause-fits : goal.take-requires-clause-fits
take-requires-clause-fits c = judged_fits (seen c.args.self.now) (map (λ w. w.now) c.deref.result.now) c.in_ok-item.item c.in_ok-item.ensures
