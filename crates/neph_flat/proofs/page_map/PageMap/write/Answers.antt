use Rattle.std.proofs.Common.{◌≡◌, ℕ, List, [], Option, Some, None, refl, sym, ap, ◌∙◌, subst, true, false}
use Rattle.std.specs.Prelude.{is_some, unwrap_or, IsSome}
use Rattle.std.specs.Ordering.{nat_cmp}
use Rattle.std.specs.FinMap as map
use Rattle.neph_base.proofs.MapLemmas.{at_key, get_at, one_put}
use Rattle.neph_model.specs.Memory.{page_with_bytes}
use Rattle.neph_flat.proofs.PageLemmas.{len_there}
use Rattle.neph_flat.proofs.page_map.PageMap.write.Goals as goal

pub returns-clause-page : goal.returns-clause-page
returns-clause-page c =
    let es = c.self.inside.pages.entries in
    let pfn = c.args.pfn in
    let this : Some c.in-Some.page.now ≡ at_key es pfn = c.in-Some.ensures.value in
    let there : IsSome (at_key es pfn) = subst (λ (o : Option (List ℕ)). IsSome o) this refl in
    let got : map.get (map.from_entries {R = nat_cmp} es) pfn ≡ Some c.in-Some.page.now = get_at es pfn ∙ sym this in
    let now = c.write.ensures ∙ ap (λ (p : List ℕ). page_with_bytes p c.args.at c.args.bytes.now) (sym (ap (λ (o : Option (List ℕ)). unwrap_or o []) got)) in
    one_put es (c.get_mut.follows.lender c.write.new.self).entries pfn c.write.new.self ((c.get_mut.follows.holds c.write.new.self).3 there).0
    ∙ ap (λ (w : List ℕ). map.insert (map.from_entries es) pfn w) now
    ∙ ap (λ m. map.insert m pfn (page_with_bytes (unwrap_or (map.get m pfn) []) c.args.at c.args.bytes.now)) c.self.view_is

pub returns-clause-len : goal.returns-clause-len
returns-clause-len c = ap map.len (returns-clause-page c) ∙ len_there c.args.self.now c.args.pfn _ c.requires.there

pub unreachable-requires : goal.unreachable-requires
unreachable-requires c =
    let es = c.self.inside.pages.entries in
    let none : None ≡ at_key es c.args.pfn = c.in_default.ensures.value in
    let got : map.get c.args.self.now c.args.pfn ≡ None = ap (λ m. map.get m c.args.pfn) (sym c.self.view_is) ∙ get_at es c.args.pfn ∙ sym none in
    let no : is_some (map.get c.args.self.now c.args.pfn) ≡ false = ap is_some got in
    let clash : true ≡ false = sym c.requires.there ∙ no in cc
