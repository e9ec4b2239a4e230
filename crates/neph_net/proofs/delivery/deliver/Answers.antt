use Rattle.neph_net.proofs.delivery.deliver.Goals as goal

pub returns-in-Some : goal.returns-in-Some
returns-in-Some g c = rw c.in-Some.is (c.deliver_to.ensures.goes, c.deliver_to.ensures.kept, c.deliver_to.ensures.rest)
