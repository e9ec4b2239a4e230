use Rattle.std.proofs.Common.{◌≡◌, ◌<◌, refl, sym, ◌∙◌, arith, length, get_or}
use Rattle.std.proofs.lemmas.List.{get_or_default}
use Rattle.neph_pool.specs.Page.{page_words}
use Rattle.neph_pool.proofs.Words.{words_set, words_still, page_here}
use Rattle.neph_pool.proofs.pages.Pages.write.Goals as goal

pub returns-clause-words : goal.returns-clause-words
returns-clause-words c =
    let q = c.own-place.new.self in
    let fit : c.args.f < length q.places.items = omega (arith, c.requires.frame, c.own-place.ensures.frames) in
    let lt : c.own-place.result < length q.made.items = rw c.own-place.ensures.place (let w = q.within c.args.f in omega (arith, q.made.ok.0)) in
    words_set q.made.items _ q.places.items c.args.f c.own-place.result _ fit q.made.ok.0 c.own-place.ensures.place c.own-place.ensures.own q.within q.apart
    ∙ rw (sym (page_here q.made.items c.index_mut.result.now q.places.items c.args.f c.own-place.result fit c.own-place.ensures.place lt c.index_mut.ensures.value), c.own-place.ensures.words) refl

pub returns-then-index-eq0-clause-words : goal.returns-then-index-eq0-clause-words
returns-then-index-eq0-clause-words c =
    let p = c.args.self.now in
    let none : get_or p.places.items c.args.f 0 ≡ 0 = omega (arith, get_or_default p.places.items c.args.f c.index.result.now 0 c.requires.frame, c.index.ensures, c.if-index-eq0.true) in
    rw c.if-v-eq0.true (words_still (page_words p.made.items) p.places.items c.args.f c.args.w c.requires.frame none p.blank)
