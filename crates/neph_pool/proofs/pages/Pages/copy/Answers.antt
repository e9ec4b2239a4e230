use Rattle.std.proofs.Common.{◌≡◌, ◌≢◌, ◌<◌, refl, sym, ap, ◌∙◌, arith, get_or, length, set, List, [], ℕ}
use Rattle.std.proofs.lemmas.List.{get_or_default}
use Rattle.neph_pool.specs.Page.{page_words, words_in}
use Rattle.neph_pool.proofs.Words.{words_set, words_zero, words_here, page_here}
use Rattle.neph_pool.proofs.pages.Pages.copy.Goals as goal

-- a source without a page
pub returns-then-source-eq0-clause-words : goal.returns-then-source-eq0-clause-words
returns-then-source-eq0-clause-words c =
    let p = c.args.self.now in
    let ws = page_words p.made.items in
    let none : get_or p.places.items c.args.from 0 ≡ 0 = omega (arith, get_or_default p.places.items c.args.from c.index.result.now 0 c.requires.frames.0, c.index.ensures, c.if-source-eq0.true) in
    c.blank.ensures.words ∙ ap (λ (w : List ℕ). set (words_in ws p.places.items) c.args.to w) (sym (words_zero ws p.places.items c.args.from c.requires.frames.0 none p.blank))

-- a target without a page
pub returns-then-target-eq0-clause-words : goal.returns-then-target-eq0-clause-words
returns-then-target-eq0-clause-words c =
    let p = c.args.self.now in
    let ws = page_words p.made.items in
    let is = c.index.ensures ∙ get_or_default p.places.items c.args.from c.index.result.now 0 c.requires.frames.0 in
    c.make.ensures.words ∙ ap (λ (w : List ℕ). set (words_in ws p.places.items) c.args.to w)
    (ap (λ (k : ℕ). get_or ws k []) is ∙ sym (words_here ws p.places.items c.args.from c.requires.frames.0))

pub returns-clause-words : goal.returns-clause-words
returns-clause-words c =
    let p = c.args.self.now in
    let from = c.index.ensures ∙ get_or_default p.places.items c.args.from c.index.result.now 0 c.requires.frames.0 in
    let to = c.index-2.ensures ∙ get_or_default p.places.items c.args.to c.index-2.result.now 0 c.requires.frames.1 in
    let own : c.index-2.result.now ≢ 0 = omega (arith, c.if-target-eq0.false) in
    let lt : c.index.result.now < length p.made.items = rw from (let w = p.within c.args.from in omega (arith, p.made.ok.0)) in
    words_set p.made.items _ p.places.items c.args.to c.index-2.result.now _ c.requires.frames.1 p.made.ok.0 to own p.within p.apart
    ∙ rw (sym (page_here p.made.items c.index-3.result.now p.places.items c.args.from c.index.result.now c.requires.frames.0 from lt c.index-3.ensures)) refl
