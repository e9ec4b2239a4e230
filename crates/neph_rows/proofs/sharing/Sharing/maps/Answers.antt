use Rattle.neph_rows.proofs.NoShares.{none_mapped}
use Rattle.neph_rows.proofs.sharing.Sharing.maps.Goals as goal

pub returns-in-None : goal.returns-in-None
returns-in-None c = none_mapped c.self.inside.tables c.args.self.now c.args.granter c.args.r c.self.view_is c.in-None.is
