use Rattle.std.proofs.Common.{length, sym, ap, ◌∙◌, arith}
use Rattle.neph_pool.specs.Pages.{words_of}
use Rattle.neph_pool.specs.Holders.{owners_of, shared_of}
use Rattle.neph_pool.proofs.Sharers.{holders_length}
use Rattle.neph_pool.proofs.Shown.{shown_length, shown_holder}
use Rattle.neph_pool.proofs.frames.Frames.owners.Goals as goal

pub at-requires : goal.at-requires
at-requires c =
    omega (arith, shown_length (owners_of c.self.inside.holders) (words_of c.self.inside.pages), holders_length (shared_of c.self.inside.holders.counts.items) c.self.inside.holders.kinds.items c.self.inside.holders.places.items, ap length c.self.view_is, c.requires)

pub returns : goal.returns
returns c = rw (← c.self.view_is) (c.at.ensures ∙ sym (shown_holder (owners_of c.self.inside.holders) (words_of c.self.inside.pages) c.args.f))
