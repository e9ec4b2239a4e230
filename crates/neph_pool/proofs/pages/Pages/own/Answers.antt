use Rattle.std.proofs.Common.{◌≡◌, sym, ap, ◌∙◌, arith, get_or, set, List, ℕ}
use Rattle.std.proofs.lemmas.List.{get_or_default}
use Rattle.neph_pool.specs.Page.{page_words, words_in}
use Rattle.neph_pool.proofs.Words.{words_unmade}
use Rattle.neph_pool.proofs.pages.Pages.own.Goals as goal

pub returns-clause-words : goal.returns-clause-words
returns-clause-words c =
    let p = c.args.self.now in
    let ws = page_words p.made.items in
    let none : get_or p.places.items c.args.f 0 ≡ 0 = omega (arith, get_or_default p.places.items c.args.f c.index.result.now 0 c.requires, c.index.ensures) in
    c.make.ensures.words ∙ ap (λ (w : List ℕ). set (words_in ws p.places.items) c.args.f w) p.blank ∙ sym (words_unmade ws p.places.items c.args.f none p.blank)
