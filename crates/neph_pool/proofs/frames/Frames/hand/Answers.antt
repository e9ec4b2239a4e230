use Rattle.std.proofs.Common.{length, sym, ap, ◌∙◌, arith}
use Rattle.neph_pool.specs.declared.owners.Owners.{Owners}
use Rattle.neph_pool.specs.Entries.{is_here, is_whole}
use Rattle.neph_pool.specs.Holders.{owners_of, shared_of}
use Rattle.neph_pool.specs.Owners.{held_by, IsHanded}
use Rattle.neph_pool.specs.Pages.{words_of}
use Rattle.neph_pool.proofs.Sharers.{holders_length}
use Rattle.neph_pool.proofs.Shown.{shown_length, shown_step, owners_shown}
use Rattle.neph_pool.proofs.frames.Frames.hand.Goals as goal

pub hand-requires-clause-frame : goal.hand-requires-clause-frame
hand-requires-clause-frame c =
    omega (arith, shown_length (owners_of c.self.inside.holders) (words_of c.self.inside.pages), holders_length (shared_of c.self.inside.holders.counts.items) c.self.inside.holders.kinds.items c.self.inside.holders.places.items, ap length c.self.view_is, c.requires.frame)

pub hand-requires-clause-part : goal.hand-requires-clause-part
hand-requires-clause-part c = ap (λ (o : Owners). is_here (held_by c.args.from o)) (sym (owners_shown (owners_of c.self.inside.holders) (words_of c.self.inside.pages) _ c.args.f c.self.view_is)) ∙ c.requires.part

pub hand-requires-clause-room : goal.hand-requires-clause-room
hand-requires-clause-room c = λ w.
    let is = owners_shown (owners_of c.self.inside.holders) (words_of c.self.inside.pages) _ c.args.f c.self.view_is in
    ap (λ (o : Owners). held_by c.args.to o) (sym is) ∙ c.requires.room (ap (λ (o : Owners). is_whole (held_by c.args.from o)) is ∙ w)

pub invariant_of-self : goal.invariant_of-self
invariant_of-self c = c.hand.ensures.frames ∙ c.self.invariant

pub returns : goal.returns
returns c = shown_step (IsHanded c.args.from c.args.to) (owners_of c.self.inside.holders) _ (words_of c.self.inside.pages) _ c.args.f c.self.view_is c.hand.ensures.owners
