use Rattle.neph_accounts.proofs.Plainly as plainly
use Rattle.neph_accounts.proofs.laws.ids_name_seats.Goals as goal

pub returns : goal.returns
returns c = plainly.ids_name_seats
