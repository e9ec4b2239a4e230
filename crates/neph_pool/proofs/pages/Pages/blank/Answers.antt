use Rattle.std.proofs.Common.{◌≡◌, ◌≢◌, ◌∙◌, arith, get_or}
use Rattle.std.proofs.lemmas.List.{get_or_default}
use Rattle.neph_pool.proofs.Words.{words_set, words_unmade}
use Rattle.neph_pool.specs.Page.{page_words}
use Rattle.neph_pool.proofs.pages.Pages.blank.Goals as goal

pub returns-then-place-gt0-clause-words : goal.returns-then-place-gt0-clause-words
returns-then-place-gt0-clause-words c =
    let p = c.args.self.now in
    let is = c.index.ensures ∙ get_or_default p.places.items c.args.f c.index.result.now 0 c.requires in
    let own : c.index.result.now ≢ 0 = omega (arith, c.if-place-gt0.true) in
    words_set p.made.items _ p.places.items c.args.f c.index.result.now _ c.requires p.made.ok.0 is own p.within p.apart

pub returns-else-place-gt0-clause-words : goal.returns-else-place-gt0-clause-words
returns-else-place-gt0-clause-words c =
    let p = c.args.self.now in
    let none : get_or p.places.items c.args.f 0 ≡ 0 = omega (arith, get_or_default p.places.items c.args.f c.index.result.now 0 c.requires, c.index.ensures, c.if-place-gt0.false) in
    words_unmade (page_words p.made.items) p.places.items c.args.f none p.blank
