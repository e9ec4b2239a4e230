use Rattle.std.proofs.Common.{◌<◌, sym, ap, ◌∙◌, arith, get_or, length, List, ℕ}
use Rattle.std.proofs.lemmas.List.{get_or_default}
use Rattle.neph_pool.proofs.Words.{page_here}
use Rattle.neph_pool.proofs.pages.Pages.read.Goals as goal

pub returns : goal.returns
returns c =
    let p = c.args.self.now in
    let is = c.index.ensures ∙ get_or_default p.places.items c.args.f c.index.result.now 0 c.requires.frame in
    let lt : c.index.result.now < length p.made.items = rw is (let w = p.within c.args.f in omega (arith, p.made.ok.0)) in
    ap (λ (ws : List ℕ). get_or ws c.args.w 0) (sym (page_here p.made.items c.index-2.result.now p.places.items c.args.f c.index.result.now c.requires.frame is lt c.index-2.ensures))
