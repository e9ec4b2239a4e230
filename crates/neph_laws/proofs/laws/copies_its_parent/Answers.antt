use Rattle.neph_laws.proofs.Children as childrens
use Rattle.neph_laws.proofs.laws.copies_its_parent.Goals as goal

pub returns : goal.returns
returns c = childrens.copies_its_parent
