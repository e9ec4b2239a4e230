use Rattle.std.proofs.Common.{sym, ◌∙◌}
use Rattle.neph_pool.proofs.Shown.{shown_start}
use Rattle.neph_pool.proofs.frames.Frames.new.Goals as goal

pub invariant_of-result : goal.invariant_of-result
invariant_of-result c = c.in_ok-holders.ensures.frames ∙ sym c.in_ok-pages.ensures.frames

pub returns : goal.returns
returns c = rw (c.in_ok-holders.ensures.owners, c.in_ok-pages.ensures.words) (shown_start c.args.frames)
