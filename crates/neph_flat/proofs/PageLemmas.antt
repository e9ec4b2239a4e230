-- Maps of exposed pages that are changed.
use Rattle.std.proofs.Common.{◌≡◌, ℕ, ◌+◌, ◌-◌, ◌<◌, ◌≤◌, Bool, true, false, cond, List, get_or, set, Option, Some, None, refl, sym, ap, subst, ◌∙◌, arith}
use Rattle.std.specs.Prelude.{is_some}
use Rattle.std.specs.Option.{option_map_or}
use Rattle.std.specs.Cmp.{nat_cmp_total}
use Rattle.std.specs.FinMap as map
use Rattle.std.proofs.lemmas.List.{length-set}
use Rattle.std.proofs.lemmas.List.Elements.{All-set, All-get_or}
use Rattle.neph_model.specs.Memory.{zero_page, child_network_page}
use Rattle.neph_model.specs.Machine.{Exposed}
use Rattle.neph_model.specs.Births.{with_changed, child_exposed}
use Rattle.neph_flat.specs.Pages.{HasFew, IsPlaced}

pub len_there : (m : Exposed) (k : ℕ) (v : List ℕ) → is_some (map.get m k) ≡ true → map.len (map.insert m k v) ≡ map.len m
len_there m k v h = map.len-insert nat_cmp_total m k v ∙ ap (λ b. cond b (map.len m) (map.len m + 1)) h

pub len_changed : (m : Exposed) (k : ℕ) (by : List ℕ → List ℕ) → map.len (with_changed m k by) ≡ map.len m
len_changed m k by = at (map.get m k) refl where
  at : (o : Option (List ℕ)) → map.get m k ≡ o → map.len (option_map_or (λ page. map.insert m k (by page)) o m) ≡ map.len m
  at None e = refl
  at (Some page) e = len_there m k (by page) (ap is_some e)

pub len_child : (m : Exposed) → map.len (child_exposed m) ≡ map.len m
len_child m =
    let one = with_changed m 1 (λ page. zero_page) in
    let two = with_changed one 2 child_network_page in
    len_changed two 3 (λ page. zero_page) ∙ len_changed one 2 child_network_page ∙ len_changed m 1 (λ page. zero_page)

pub placed_set : (pages : List Exposed) (i : ℕ) (m : Exposed) → IsPlaced pages → HasFew m → IsPlaced (set pages i m)
placed_set pages i m h few = record { places = length-set pages i m ∙ h.places; few = All-set HasFew pages i m few h.few }

-- what stands in a place has few pages
pub few_at : (pages : List Exposed) (i : ℕ) (m : Exposed) → IsPlaced pages → i < 64 → m ≡ get_or pages i m → HasFew m
few_at pages i m h lt is = subst HasFew (sym is) (All-get_or HasFew pages i m (omega (arith, h.places)) h.few)

pub few_same : (m n : Exposed) → HasFew m → map.len n ≡ map.len m → HasFew n
few_same m n h e = omega (arith, h, e)

-- and so has it without one of them
pub few_less : (m n : Exposed) (k : ℕ) → HasFew m → n ≡ map.remove m k → HasFew n
few_less m n k h e = rw (e, map.len-remove nat_cmp_total m k) (by (map.contains_key m k)) where
  by : (b : Bool) → cond b (map.len m - 1) (map.len m) ≤ 1024
  by true = omega (arith, h)
  by false = omega (arith, h)
