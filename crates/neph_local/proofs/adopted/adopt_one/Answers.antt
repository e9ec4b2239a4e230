use Rattle.std.proofs.Common.{◌≡◌, ℕ, false, None, Some, set, length, refl, sym, ap, ◌∙◌, arith}
use Rattle.neph_gmap.specs.declared.page.Page.TheVariants.{Local as At}
use Rattle.neph_local.proofs.Starting.{number_is}
use Rattle.neph_local.proofs.Adopting.{adopts_local, adopts_past}
use Rattle.neph_memory.specs.Pages.{frame_at}
use Rattle.neph_local.proofs.adopted.adopt_one.Goals as goal

pub adopt-requires-clause-page : goal.adopt-requires-clause-page
adopt-requires-clause-page g c =
    let n : c.unwrap-p.result ≡ c.args.n = number_is _ _ _ _ c.new.ensures c.unwrap-p.ensures ∙ c.from.ensures in
    omega (arith, n, c.requires.page, c.requires.adopts.count)

pub returns-in-Some-clause-adopts : goal.returns-in-Some-clause-adopts
returns-in-Some-clause-adopts g c =
    let n : c.unwrap-p.result ≡ c.args.n = number_is _ _ _ _ c.new.ensures c.unwrap-p.ensures ∙ c.from.ensures in
    let at : frame_at c.args.from.now.pages c.args.n ≡ Some c.in-Some.f = ap (frame_at c.args.from.now.pages) (sym n) ∙ sym c.frame_for.ensures ∙ c.in-Some.is in
    adopts_local _ c.args.root c.args.own.now c.adopt.new.own c.args.from.now.pages c.args.n (length c.args.from.now.pages) c.in-Some.f _ c.requires.adopts c.requires.may c.requires.shared c.requires.page refl at
    (c.adopt.ensures.pages ∙ ap (λ (k : ℕ). set c.args.own.now.map.pages k (At c.in-Some.f)) n) c.adopt.ensures.vpns (c.adopt.ensures.marks ∙ ap (λ (k : ℕ). set c.args.own.now.marks.items k false) n)

pub returns-in-None-clause-adopts : goal.returns-in-None-clause-adopts
returns-in-None-clause-adopts g c =
    let n : c.unwrap-p.result ≡ c.args.n = number_is _ _ _ _ c.new.ensures c.unwrap-p.ensures ∙ c.from.ensures in
    let none : frame_at c.args.from.now.pages c.args.n ≡ None = ap (frame_at c.args.from.now.pages) (sym n) ∙ sym c.frame_for.ensures ∙ c.in-None.is in
    adopts_past _ c.args.root c.args.own.now c.args.from.now.pages c.args.n (length c.args.from.now.pages) _ c.requires.adopts c.requires.page refl none
