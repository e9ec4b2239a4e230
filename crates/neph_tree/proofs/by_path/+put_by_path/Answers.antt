use Rattle.std.proofs.Common.{◌≡◌, ℕ, List, [], ◌∷◌, ◌++◌, length, sym, ap, subst, ◌∙◌, arith, length-append}
use Rattle.std.specs.Prelude.{T}
use Rattle.std.specs.FinMap.Entries.{is_sorted, put}
use Rattle.neph_tree.specs.Entries.{lent}
use Rattle.neph_tree.proofs.EntryLemmas.{order}
use Rattle.neph_tree.proofs.PutLemmas.{sorted_front, put_before, put_over, put_behind, lent-push}
use Rattle.neph_tree.proofs.by_path.+put_by_path.Goals as goal

pub put_by_path-requires : goal.put_by_path-requires
put_by_path-requires t c =
    let xs = c.pop.new.self.items in
    let last = c.in-Some.last in
    let e : List ℕ × List ℕ = (last.0.now, last.1.now) in
    let whole : lent c.args.found.now.items ≡ lent xs ++ e ∷ [] = ap (λ es. lent es) c.in-Some.ensures.items ∙ lent-push xs last in
    (omega (arith, ap (λ es. length es) c.in-Some.ensures.items, length-append xs (last ∷ []), c.decreases), sorted_front (lent xs) e (subst (λ es. T (is_sorted order es)) whole c.requires))

pub returns-in_ok-push-in-Less : goal.returns-in_ok-push-in-Less
returns-in_ok-push-in-Less t c =
    let xs = c.pop.new.self.items in
    let last = c.in-Some.last in
    let k = c.args.path.now in
    let v = c.args.value.now in
    let e : List ℕ × List ℕ = (last.0.now, last.1.now) in
    let whole : lent c.args.found.now.items ≡ lent xs ++ e ∷ [] = ap (λ es. lent es) c.in-Some.ensures.items ∙ lent-push xs last in
    ap (λ es. lent es) c.in_ok-push-in-Less.ensures.items ∙ lent-push c.put_by_path.new.found.items last ∙ ap (λ es. es ++ e ∷ []) c.in_ok-put_by_path-in-Less.ensures
    ∙ sym (ap (λ es. put order k v es) whole ∙ put_before k v (lent xs) e (sym c.in-Less.ensures))

pub returns-in_ok-push-in-Equal : goal.returns-in_ok-push-in-Equal
returns-in_ok-push-in-Equal t c =
    let xs = c.pop.new.self.items in
    let last = c.in-Some.last in
    let k = c.args.path.now in
    let v = c.args.value.now in
    let e : List ℕ × List ℕ = (last.0.now, last.1.now) in
    let whole : lent c.args.found.now.items ≡ lent xs ++ e ∷ [] = ap (λ es. lent es) c.in-Some.ensures.items ∙ lent-push xs last in
    ap (λ es. lent es) c.in_ok-push-in-Equal.ensures.items ∙ lent-push xs (last.0, c.args.value)
    ∙ sym (ap (λ es. put order k v es) whole ∙ put_over k v (lent xs) e (subst (λ es. T (is_sorted order es)) whole c.requires) (sym c.in-Equal.ensures))

pub returns-in_ok-push-in-Greater-2 : goal.returns-in_ok-push-in-Greater-2
returns-in_ok-push-in-Greater-2 t c =
    let xs = c.pop.new.self.items in
    let last = c.in-Some.last in
    let k = c.args.path.now in
    let v = c.args.value.now in
    let e : List ℕ × List ℕ = (last.0.now, last.1.now) in
    let whole : lent c.args.found.now.items ≡ lent xs ++ e ∷ [] = ap (λ es. lent es) c.in-Some.ensures.items ∙ lent-push xs last in
    ap (λ es. lent es) c.in_ok-push-in-Greater-2.ensures.items ∙ lent-push c.push-in-Greater.new.self.items (c.args.path, c.args.value)
    ∙ ap (λ es. es ++ (k, v) ∷ []) (ap (λ es. lent es) c.in_ok-push-in-Greater.ensures.items ∙ lent-push xs last)
    ∙ sym (ap (λ es. put order k v es) whole ∙ put_behind k v (lent xs) e (subst (λ es. T (is_sorted order es)) whole c.requires) (sym c.in-Greater.ensures))
