use Rattle.neph_rows.proofs.NoShares.{no_mapping}
use Rattle.neph_rows.proofs.sharing.Sharing.mapping.Goals as goal

pub returns-in_default : goal.returns-in_default
returns-in_default c = no_mapping c.self.inside.tables c.args.self.now c.args.h c.self.view_is c.in_default.is
