use Rattle.std.proofs.Common.{length, sym, ap, ◌∙◌, arith}
use Rattle.neph_pool.specs.declared.owners.Owners.{Owners}
use Rattle.neph_pool.specs.Entries.{weight_of}
use Rattle.neph_pool.specs.Holders.{owners_of, shared_of}
use Rattle.neph_pool.specs.Owners.{held_by, IsShared}
use Rattle.neph_pool.specs.Pages.{words_of}
use Rattle.neph_pool.proofs.Sharers.{holders_length}
use Rattle.neph_pool.proofs.Shown.{shown_length, shown_step, owners_shown}
use Rattle.neph_pool.proofs.frames.Frames.share.Goals as goal

pub share-requires-clause-frame : goal.share-requires-clause-frame
share-requires-clause-frame c =
    omega (arith, shown_length (owners_of c.self.inside.holders) (words_of c.self.inside.pages), holders_length (shared_of c.self.inside.holders.counts.items) c.self.inside.holders.kinds.items c.self.inside.holders.places.items, ap length c.self.view_is, c.requires.frame)

pub share-requires-clause-once : goal.share-requires-clause-once
share-requires-clause-once c = ap (λ (o : Owners). weight_of (held_by c.args.row o)) (sym (owners_shown (owners_of c.self.inside.holders) (words_of c.self.inside.pages) _ c.args.f c.self.view_is)) ∙ c.requires.once

pub invariant_of-self : goal.invariant_of-self
invariant_of-self c = c.share.ensures.frames ∙ c.self.invariant

pub returns : goal.returns
returns c = shown_step (IsShared c.args.row) (owners_of c.self.inside.holders) _ (words_of c.self.inside.pages) _ c.args.f c.self.view_is c.share.ensures.owners
