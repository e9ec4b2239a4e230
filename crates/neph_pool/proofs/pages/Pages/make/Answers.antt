use Rattle.std.proofs.Common.{[], ◌∙◌, arith}
use Rattle.std.proofs.lemmas.List.{get_or-map}
use Rattle.neph_pool.specs.declared.page.Page.{Page}
use Rattle.neph_pool.proofs.Words.{words_made}
use Rattle.neph_pool.proofs.pages.Pages.make.Goals as goal

pub returns-clause-words : goal.returns-clause-words
returns-clause-words c =
    let p = c.args.self.now in
    rw (c.push_reserved.ensures.items, get_or-map (λ (y : Page). y.words) p.made.items c.args.source c.index.result.now [] (omega (arith, c.requires.page, p.made.ok.0)), ← c.index.ensures)
    (words_made p.made.items _ p.places.items c.args.f c.len-next.result (c.len-next.ensures ∙ p.made.ok.0) (λ i. rw c.len-next.ensures (p.within i)))
