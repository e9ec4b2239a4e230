use Rattle.neph_rows.proofs.NoShares.{none_admitted}
use Rattle.neph_rows.proofs.sharing.Sharing.admits.Goals as goal

pub returns-in-None : goal.returns-in-None
returns-in-None c = none_admitted c.self.inside.tables c.args.self.now c.args.r c.args.me c.args.my_parent c.args.granter c.self.view_is c.in-None.is
