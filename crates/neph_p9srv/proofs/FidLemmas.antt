-- The number of entries of a finite map that is made of a rising list.
use Rattle.std.proofs.Common.{◌≡◌, ℕ, ◌+◌, cond, List, [], ◌∷◌, length, map, Option, Some, None, refl, ap, ◌∙◌, arith}
use Rattle.std.specs.List.{AllByRecursion}
use Rattle.std.specs.Option.{is_some}
use Rattle.std.specs.List.Sorted.{IsStrictlySortedBy}
use Rattle.std.specs.Ordering.{nat_cmp, is_eq}
use Rattle.std.specs.declared.cmp.Ordering.TheVariants.{Less}
use Rattle.std.specs.Cmp.{nat_cmp_total}
use Rattle.std.specs.FinMap.{len, get, find, from_entries, len-empty, len-insert, get-from_entries}

find_none : {X : Type 0} (k : ℕ) (es : List (ℕ × X)) → AllByRecursion (λ y. nat_cmp k y ≡ Less) (map (λ e. e.0) es) → find nat_cmp k es ≡ None
find_none k [] h = refl
find_none {X} k (e ∷ es) h = ap (λ o. cond (is_eq o) (Some e.1) (find nat_cmp k es)) h.0 ∙ find_none k es h.1

pub entries_len : {X : Type 0} (es : List (ℕ × X)) → IsStrictlySortedBy nat_cmp (map (λ e. e.0) es) → len (from_entries {R = nat_cmp} es) ≡ length es
unfolding IsStrictlySortedBy
entries_len {X} [] h = len-empty nat_cmp X
entries_len {X} (e ∷ es) h =
    let none : get (from_entries {R = nat_cmp} es) e.0 ≡ None = get-from_entries nat_cmp_total es e.0 ∙ find_none e.0 es h.0 in
    len-insert nat_cmp_total (from_entries es) e.0 e.1
    ∙ ap (λ (o : Option X). cond (is_some o) (len (from_entries {R = nat_cmp} es)) (len (from_entries {R = nat_cmp} es) + 1)) none
    ∙ ap (λ (n : ℕ). n + 1) (entries_len es h.1) ∙ omega arith
