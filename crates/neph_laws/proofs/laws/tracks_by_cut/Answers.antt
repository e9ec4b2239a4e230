use Rattle.neph_laws.proofs.Cut as cuts
use Rattle.neph_laws.proofs.laws.tracks_by_cut.Goals as goal

pub returns : goal.returns
returns c = cuts.tracks_by_cut
