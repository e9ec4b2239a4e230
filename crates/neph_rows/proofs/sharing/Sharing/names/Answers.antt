use Rattle.neph_rows.proofs.NoShares.{none_named}
use Rattle.neph_rows.proofs.sharing.Sharing.names.Goals as goal

pub returns-in-None : goal.returns-in-None
returns-in-None c = none_named c.self.inside.tables c.args.self.now c.args.p c.self.view_is c.in-None.is
