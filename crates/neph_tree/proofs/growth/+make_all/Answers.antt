use Rattle.std.proofs.Common.{◌≡◌, Some, Bor, length, sym, ap, subst, ◌∙◌, arith}
use Rattle.std.specs.FinMap.{contains_key}
use Rattle.neph_base.specs.Path.{is_path}
use Rattle.neph_tree.specs.Nodes.{Nodes, IsTree}
use Rattle.neph_tree.specs.Growth.{with_made, without_front}
use Rattle.neph_tree.proofs.GrowthLemmas.{grown_back}
use Rattle.neph_tree.proofs.TreeLemmas.{IsTree-with_made, made_is}
use Rattle.neph_tree.proofs.growth.+make_all.Goals as goal

same_ref : {A : Type 0} (a b : Bor A) → Some a ≡ Some b → a.now ≡ b.now
same_ref a b e = ap (λ r. r.now) (let same : a ≡ b = cc in same)

pub make_all-requires : goal.make_all-requires
make_all-requires t c =
    let cases = c.in-Some.ensures.cases in
    let are = rw cases.0 at c.requires.paths in
    let old = c.args.nodes.now in
    let path = c.deref-2.result.now in
    let made = with_made old path c.in_ok-value.value.items in
    let Keeps : Nodes → Type 0 = λ m. IsTree m in (
      omega (arith, cases.1, c.decreases),
      (
        subst Keeps (sym c.in_ok-made.ensures.ok) (IsTree-with_made old path _ c.requires.tree (ap (λ p. is_path p) c.deref-2.ensures.value ∙ are.0)),
        (
          λ n e. ap (λ m. contains_key m n.now) c.in_ok-made.ensures.ok ∙ ap (λ q. contains_key made q) (sym (same_ref _ _ e) ∙ c.deref-3.ensures.value ∙ sym c.deref-2.ensures.value) ∙ made_is old path c.in_ok-value.value.items,
          are.1,
        ),
      ),
    )

pub returns-in-Err-clause-err : goal.returns-in-Err-clause-err
returns-in-Err-clause-err t c =
    let path = c.deref-2.result.now in
    c.cut_front.ensures ∙ ap (λ m. without_front m c.deref-in-Err.result.now c.in_ok-made.made.top) c.in-Err.ensures.err
    ∙ ap (λ p. without_front c.make.new.nodes p c.in_ok-made.made.top) (c.deref-in-Err.ensures.value ∙ sym c.deref-2.ensures.value)
    ∙ grown_back c.args.nodes.now c.make.new.nodes path c.in_ok-made.made.top (length path) c.requires.tree c.in_ok-made.ensures.grown
