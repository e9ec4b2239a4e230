use Rattle.std.proofs.Common.{length, ap, ◌∙◌, arith}
use Rattle.neph_pool.specs.Pages.{words_of}
use Rattle.neph_pool.specs.Holders.{owners_of, shared_of}
use Rattle.neph_pool.proofs.Sharers.{holders_length}
use Rattle.neph_pool.proofs.Shown.{shown_length, shown_put}
use Rattle.neph_pool.proofs.frames.Frames.put_owners.Goals as goal

pub put-requires : goal.put-requires
put-requires c =
    omega (arith, shown_length (owners_of c.self.inside.holders) (words_of c.self.inside.pages), holders_length (shared_of c.self.inside.holders.counts.items) c.self.inside.holders.kinds.items c.self.inside.holders.places.items, ap length c.self.view_is, c.requires)

pub invariant_of-self : goal.invariant_of-self
invariant_of-self c = c.put.ensures.frames ∙ c.self.invariant

pub returns : goal.returns
returns c = rw (← c.self.view_is, c.put.ensures.owners) (shown_put (owners_of c.self.inside.holders) (words_of c.self.inside.pages) c.args.f c.args.owners)
