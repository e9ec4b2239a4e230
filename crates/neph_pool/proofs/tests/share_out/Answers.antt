use Rattle.std.proofs.Common.{◌≡◌, Some, List, ap, ◌∙◌}
use Rattle.std.specs.declared.option.Option.{Option}
use Rattle.neph_pool.specs.declared.entry.Entry.{Entry}
use Rattle.neph_pool.specs.declared.entry.Hold.TheVariants.{Sole, Counted}
use Rattle.neph_pool.specs.Entries.{hold_at, is_here}
use Rattle.neph_pool.proofs.Entries.{hold_at-with_hold, hold_at-with_words}
use Rattle.neph_pool.proofs.tests.share_out.Goals as goal

pub returns-clause-hold : goal.returns-clause-hold
returns-clause-hold g c =
    let W = g.P.FramePool.world in
    let f = c.args.f in
    let es = W.entries c.write.new.self c.write.new.s in
    let sole : hold_at es f ≡ Some Sole
    = ap (λ (xs : List (Option Entry)). hold_at xs f) c.write.ensures.entries ∙ hold_at-with_words _ f _ f ∙ ap (λ (xs : List (Option Entry)). hold_at xs f) c.retake.ensures.entries ∙ hold_at-with_hold _ f Sole (ap is_here c.requires.frame) in
    ap (λ (xs : List (Option Entry)). hold_at xs f) c.share.ensures.entries ∙ hold_at-with_hold es f (Counted 2) (ap is_here sole)
