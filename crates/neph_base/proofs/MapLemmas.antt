-- A tree of entries and the finite map that it stands for.
use Rattle.std.proofs.Common.{◌≡◌, ℕ, ◌+◌, false, cond, List, [], ◌∷◌, length, Option, Some, None, Result, Ok, Err, OnErr, refl, sym, ap, ◌∙◌, arith}
use Rattle.std.specs.Prelude.{is_some}
use Rattle.std.specs.List.{AllByRecursion}
use Rattle.std.specs.List.Sorted.{IsStrictlySortedBy}
use Rattle.std.specs.declared.cmp.Ordering.TheVariants.{Less}
use Rattle.std.specs.Map.{keys_of}
use Rattle.std.specs.Ordering.{nat_cmp, is_eq}
use Rattle.std.specs.Cmp.{nat_cmp_total, eq_by_cmp_equiv}
use Rattle.std.specs.BTreeMap.{is_at}
use Rattle.std.specs.Map.{lookup}
use Rattle.std.specs.FinMap.{get, insert, remove, from_entries, find, get-insert, get-remove, get-from_entries, len, len-empty, len-insert, same_map, nat_cmp-IsAntisymmetric}

abbrev pub at_key : {V : Type 0} → List (ℕ × V) → ℕ → Option V
at_key es k = lookup (is_at (nat_cmp k)) es

find_at : {V : Type 0} (es : List (ℕ × V)) (q : ℕ) → find nat_cmp q es ≡ at_key es q
find_at [] q = refl
find_at (e ∷ es) q = ap (cond (is_at (nat_cmp q) e.0) (Some e.1)) (find_at es q)

pub get_at : {V : Type 0} (es : List (ℕ × V)) (q : ℕ) → get (from_entries {R = nat_cmp} es) q ≡ at_key es q
get_at es q = get-from_entries nat_cmp_total es q ∙ find_at es q

pub one_put : {V : Type 0} (es fs : List (ℕ × V)) (k : ℕ) (v : V) → ((q : ℕ) → at_key fs q ≡ cond (is_at (nat_cmp k) q) (Some v) (at_key es q)) → from_entries {R = nat_cmp} fs ≡ insert (from_entries es) k v
one_put es fs k v h = same_map nat_cmp_total nat_cmp-IsAntisymmetric _ _ (λ q.
    get_at fs q ∙ h q ∙ ap (λ b. cond b (Some v) (at_key es q)) ((eq_by_cmp_equiv nat_cmp_total).symm k q)
    ∙ sym (get-insert nat_cmp_total (from_entries es) k v q ∙ ap (cond (is_at (nat_cmp q) k) (Some v)) (get_at es q)))

pub one_cut : {V : Type 0} (es fs : List (ℕ × V)) (k : ℕ) → ((q : ℕ) → at_key fs q ≡ cond (is_at (nat_cmp k) q) None (at_key es q)) → from_entries {R = nat_cmp} fs ≡ remove (from_entries es) k
one_cut es fs k h = same_map nat_cmp_total nat_cmp-IsAntisymmetric _ _ (λ q.
    get_at fs q ∙ h q ∙ ap (λ b. cond b None (at_key es q)) ((eq_by_cmp_equiv nat_cmp_total).symm k q)
    ∙ sym (get-remove nat_cmp_total (from_entries es) k q ∙ ap (cond (is_at (nat_cmp q) k) None) (get_at es q)))

-- what holds anyway holds where there is an error
pub at_err : {T E P : Type 0} (r : Result T E) → P → OnErr r P
at_err (Ok x) p = tt
at_err (Err e) p = p

-- a key that is below all is none of them
not_there : {V : Type 0} (k : ℕ) (es : List (ℕ × V)) → AllByRecursion (λ y. nat_cmp k y ≡ Less) (keys_of es) → find nat_cmp k es ≡ None
not_there k [] h = refl
not_there k (e ∷ es) h = ap (λ o. cond (is_eq o) (Some e.1) (find nat_cmp k es)) h.0 ∙ not_there k es h.1

-- as many entries as rise strictly make a map of that many
pub len_at : {V : Type 0} (es : List (ℕ × V)) → IsStrictlySortedBy nat_cmp (keys_of es) → len (from_entries {R = nat_cmp} es) ≡ length es
unfolding IsStrictlySortedBy
len_at {V = V} [] h = len-empty nat_cmp V
len_at (e ∷ es) h =
    let new : is_some (get (from_entries {R = nat_cmp} es) e.0) ≡ false = ap is_some (get-from_entries nat_cmp_total es e.0 ∙ not_there e.0 es h.0) in
    let n = len (from_entries {R = nat_cmp} es) in
    len-insert nat_cmp_total (from_entries es) e.0 e.1 ∙ ap (λ b. cond b n (n + 1)) new ∙ omega (arith, len_at es h.1)
