use Rattle.std.proofs.Common.{◌++◌, ◌∷◌, [], ℕ, List, take, sym, ap, ◌∙◌, rules, append_assoc}
use Rattle.neph_heap.specs.Lists.{frames_of}
use Rattle.neph_heap.proofs.Among.{take_frame}
use Rattle.neph_heap.proofs.stock.Stock.add_pages.Goals as goal

pub loop-page-preserved : goal.loop-page-preserved
loop-page-preserved c =
    let x = c.page-item.result in
    let i = c.loop-page.page-index in
    let was = c.self.inside.free.items in
    let ys = frames_of c.args.pages.now in record {
      free = c.push_reserved.ensures.items ∙ ap (λ (xs : List ℕ). xs ++ x.frame ∷ []) c.loop-page.invariant.free ∙ append_assoc was (take i ys) (x.frame ∷ [])
          ∙ ap (λ (xs : List ℕ). was ++ xs) (sym (take_frame c.args.pages.now i x c.loop-page-test.true c.page-item.is));
      room = search rules;
      domains = c.loop-page.invariant.domains;
      children = c.loop-page.invariant.children;
    }
