use Rattle.std.proofs.Common.{length, sym, ap, ◌∙◌, arith}
use Rattle.neph_pool.specs.Holders.{owners_of, shared_of}
use Rattle.neph_pool.specs.Owners.{total_of}
use Rattle.neph_pool.specs.Pages.{words_of}
use Rattle.neph_pool.proofs.Sharers.{holders_length}
use Rattle.neph_pool.proofs.Shown.{shown_length, owners_shown}
use Rattle.neph_pool.proofs.frames.Frames.total.Goals as goal

pub total-requires : goal.total-requires
total-requires c =
    omega (arith, shown_length (owners_of c.self.inside.holders) (words_of c.self.inside.pages), holders_length (shared_of c.self.inside.holders.counts.items) c.self.inside.holders.kinds.items c.self.inside.holders.places.items, ap length c.self.view_is, c.requires)

pub returns : goal.returns
returns c = c.total.ensures ∙ ap total_of (sym (owners_shown (owners_of c.self.inside.holders) (words_of c.self.inside.pages) _ c.args.f c.self.view_is))
