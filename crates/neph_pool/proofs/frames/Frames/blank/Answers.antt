use Rattle.std.proofs.Common.{◌≡◌, length, sym, ap, ◌∙◌, arith}
use Rattle.neph_pool.specs.Pages.{words_of}
use Rattle.neph_pool.specs.Holders.{owners_of, shared_of}
use Rattle.neph_pool.proofs.Sharers.{holders_length}
use Rattle.neph_pool.proofs.Words.{words_length}
use Rattle.neph_pool.proofs.Shown.{shown_length, shown_write}
use Rattle.neph_pool.proofs.frames.Frames.blank.Goals as goal

pub blank-requires : goal.blank-requires
blank-requires c =
    omega (arith, shown_length (owners_of c.self.inside.holders) (words_of c.self.inside.pages), holders_length (shared_of c.self.inside.holders.counts.items) c.self.inside.holders.kinds.items c.self.inside.holders.places.items, ap length c.self.view_is, c.requires, c.self.invariant)

pub invariant_of-self : goal.invariant_of-self
invariant_of-self c = c.self.invariant ∙ sym c.blank.ensures.frames

pub returns : goal.returns
returns c =
    let os = owners_of c.self.inside.holders in
    let ws = words_of c.self.inside.pages in
    let even : length os ≡ length ws = holders_length _ _ _ ∙ c.self.invariant ∙ sym (words_length _ _) in
    rw (← c.self.view_is, c.blank.ensures.words) (shown_write os ws c.args.f _ even)
