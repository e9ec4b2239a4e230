use Rattle.neph_rows.proofs.NoShares.{no_entry}
use Rattle.neph_rows.proofs.sharing.Sharing.entry.Goals as goal

pub returns-in-None : goal.returns-in-None
returns-in-None c = no_entry c.self.inside.tables c.args.self.now c.args.r c.self.view_is c.in-None.is
