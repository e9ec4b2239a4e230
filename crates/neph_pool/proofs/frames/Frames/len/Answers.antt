use Rattle.std.proofs.Common.{length, sym, ap, ◌∙◌}
use Rattle.neph_pool.specs.Pages.{words_of}
use Rattle.neph_pool.specs.Holders.{owners_of, shared_of}
use Rattle.neph_pool.proofs.Sharers.{holders_length}
use Rattle.neph_pool.proofs.Shown.{shown_length}
use Rattle.neph_pool.proofs.frames.Frames.len.Goals as goal

pub returns : goal.returns
returns c = c.len.ensures ∙ sym (holders_length (shared_of c.self.inside.holders.counts.items) c.self.inside.holders.kinds.items c.self.inside.holders.places.items) ∙ sym (shown_length (owners_of c.self.inside.holders) (words_of c.self.inside.pages)) ∙ ap length c.self.view_is
