use Rattle.std.proofs.Common.{length, sym, ap, ◌∙◌, arith}
use Rattle.neph_pool.specs.declared.owners.Owners.{Owners}
use Rattle.neph_pool.specs.Entries.{is_here}
use Rattle.neph_pool.specs.Holders.{owners_of, shared_of}
use Rattle.neph_pool.specs.Owners.{held_by}
use Rattle.neph_pool.specs.Pages.{words_of}
use Rattle.neph_pool.proofs.Sharers.{holders_length}
use Rattle.neph_pool.proofs.Shown.{shown_length, owners_shown}
use Rattle.neph_pool.proofs.frames.Frames.holds.Goals as goal

pub holds-requires-clause-frame : goal.holds-requires-clause-frame
holds-requires-clause-frame c =
    omega (arith, shown_length (owners_of c.self.inside.holders) (words_of c.self.inside.pages), holders_length (shared_of c.self.inside.holders.counts.items) c.self.inside.holders.kinds.items c.self.inside.holders.places.items, ap length c.self.view_is, c.requires.frame)

pub returns : goal.returns
returns c = c.holds.ensures ∙ ap (λ (o : Owners). is_here (held_by c.args.row o)) (sym (owners_shown (owners_of c.self.inside.holders) (words_of c.self.inside.pages) _ c.args.f c.self.view_is))
