use Rattle.std.proofs.Common.{◌≡◌, ◌<◌, length, sym, ap, ◌∙◌, arith}
use Rattle.neph_pool.specs.Pages.{words_of}
use Rattle.neph_pool.specs.Holders.{owners_of, shared_of}
use Rattle.neph_pool.proofs.Sharers.{holders_length}
use Rattle.neph_pool.proofs.Words.{words_length}
use Rattle.neph_pool.proofs.Shown.{shown_length, shown_words, shown_write}
use Rattle.neph_pool.proofs.frames.Frames.copy.Goals as goal

pub copy-requires : goal.copy-requires
copy-requires c = record {
  frames = (
    omega (arith, shown_length (owners_of c.self.inside.holders) (words_of c.self.inside.pages), holders_length (shared_of c.self.inside.holders.counts.items) c.self.inside.holders.kinds.items c.self.inside.holders.places.items, ap length c.self.view_is, c.requires.frames.0, c.self.invariant),
    omega (arith, shown_length (owners_of c.self.inside.holders) (words_of c.self.inside.pages), holders_length (shared_of c.self.inside.holders.counts.items) c.self.inside.holders.kinds.items c.self.inside.holders.places.items, ap length c.self.view_is, c.requires.frames.1, c.self.invariant),
  );
}

pub invariant_of-self : goal.invariant_of-self
invariant_of-self c = c.self.invariant ∙ sym c.copy.ensures.frames

pub returns : goal.returns
returns c =
    let os = (owners_of c.self.inside.holders) in
    let ws = words_of c.self.inside.pages in
    let fit : c.args.from < length os = omega (arith, shown_length os ws, ap length c.self.view_is, c.requires.frames.0) in
    let even : length os ≡ length ws = holders_length _ _ _ ∙ c.self.invariant ∙ sym (words_length _ _) in
    rw (← c.self.view_is, c.copy.ensures.words, shown_words os ws c.args.from fit) (shown_write os ws c.args.to _ even)
