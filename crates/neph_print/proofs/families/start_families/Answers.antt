use Rattle.std.proofs.Common.{◌≡◌, ◌<◌, ◌+◌, ◌∙◌, ◌++◌, ◌∷◌, [], List, ℕ, ap, map, refl, sym, length, arith}
use Rattle.std.specs.List.{range_with_len}
use Rattle.std.proofs.lemmas.List.{take_more_set, length-set, take_all}
use Rattle.std.proofs.lemmas.List.FromFn.{map-range_with_len_more}
use Rattle.neph_model.specs.Transcript.{start_families}
use Rattle.neph_print.proofs.families.start_families.Goals as goal

same : (xs : List ℕ) → map (λ x. x) xs ≡ xs
same [] = refl
same (x ∷ xs) = ap (λ (ys : List ℕ). x ∷ ys) (same xs)

more : (n : ℕ) → range_with_len 0 (n + 1) ≡ range_with_len 0 n ++ n ∷ []
more n = sym (same (range_with_len 0 (n + 1))) ∙ map-range_with_len_more (λ x. x) 0 n n (omega arith) ∙ ap (λ (ys : List ℕ). ys ++ n ∷ []) (same (range_with_len 0 n))

pub loop-id-preserved : goal.loop-id-preserved
loop-id-preserved c =
    let id = c.loop-id.id in
    let inside : id < length c.loop-id.families = omega arith in
    record {
      whole = length-set c.loop-id.families id id ∙ c.loop-id.invariant.whole;
      front = take_more_set c.loop-id.families id id inside ∙ ap (λ (ys : List ℕ). ys ++ id ∷ []) c.loop-id.invariant.front ∙ sym (more id);
    }

pub returns : goal.returns
unfolding start_families
returns c =
    let end : c.loop-id.id ≡ 64 = omega arith in
    sym (take_all c.loop-id.id c.loop-id.families (omega arith)) ∙ c.loop-id.invariant.front ∙ ap (range_with_len 0) end
