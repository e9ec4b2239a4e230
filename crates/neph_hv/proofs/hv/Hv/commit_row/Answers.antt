use Rattle.std.proofs.Common.{Result, Ok, Err, OnOk, OnErr, sym}
use Rattle.neph_hv.proofs.hv.Hv.commit_row.Goals as goal

either_way : {A B : Type 0} {P Q X : Type 0} (r : Result A B) → OnOk r P → OnErr r Q → (P → X) → (Q → X) → X
either_way (Ok x) p q f h = f p
either_way (Err e) p q f h = h q

pub shape_of-self : goal.shape_of-self
shape_of-self g c = either_way c.commit.result (c.commit.ensures.born c.args.child c.requires.begun) c.commit.ensures.stays (λ b. sym b.0) (λ s. sym s.0)
