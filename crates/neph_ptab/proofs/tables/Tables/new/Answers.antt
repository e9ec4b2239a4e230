use Rattle.neph_ptab.proofs.Changing.{new_leaves, new_walks, new_stands}
use Rattle.neph_ptab.proofs.tables.Tables.new.Goals as goal

pub returns-clause-leaves : goal.returns-clause-leaves
returns-clause-leaves g c = λ i lt. rw c.wipe.ensures.entries (new_leaves _ c.args.root c.requires.root i)

pub returns-clause-walks : goal.returns-clause-walks
returns-clause-walks g c = λ v lt. rw c.wipe.ensures.entries (new_walks _ c.args.root c.requires.root v)

pub returns-clause-stands : goal.returns-clause-stands
returns-clause-stands g c = rw c.wipe.ensures.entries (new_stands _ c.args.root c.requires.root)
