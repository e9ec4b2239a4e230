use Rattle.std.proofs.Common.{◌≡◌, ℕ, List, [], Option, Some, None, refl, sym, ap, ◌∙◌, true, false}
use Rattle.std.specs.Prelude.{is_some, unwrap_or}
use Rattle.std.specs.Ordering.{nat_cmp}
use Rattle.std.specs.FinMap as map
use Rattle.neph_base.proofs.MapLemmas.{at_key, get_at, one_cut}
use Rattle.neph_flat.proofs.page_map.PageMap.take.Goals as goal

pub returns-clause-page : goal.returns-clause-page
returns-clause-page c =
    let es = c.self.inside.pages.entries in
    ap (λ (o : Option (List ℕ)). unwrap_or o []) (c.in-Some.ensures.value ∙ sym (get_at es c.args.pfn) ∙ ap (λ m. map.get m c.args.pfn) c.self.view_is)

pub returns-clause-rest : goal.returns-clause-rest
returns-clause-rest c =
    one_cut c.self.inside.pages.entries c.remove.new.self.entries c.args.pfn c.remove.ensures.updates.0 ∙ ap (λ m. map.remove m c.args.pfn) c.self.view_is

pub unreachable-requires : goal.unreachable-requires
unreachable-requires c =
    let es = c.self.inside.pages.entries in
    let none : None ≡ at_key es c.args.pfn = c.in_default.ensures.value in
    let got : map.get c.args.self.now c.args.pfn ≡ None = ap (λ m. map.get m c.args.pfn) (sym c.self.view_is) ∙ get_at es c.args.pfn ∙ sym none in
    let no : is_some (map.get c.args.self.now c.args.pfn) ≡ false = ap is_some got in
    let clash : true ≡ false = sym c.requires ∙ no in cc
