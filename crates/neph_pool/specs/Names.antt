-- The names of a seat: ids from 0 to 63, each of which one seat has.
use Rattle.std.specs.Prelude.{◌≡◌, ◌==◌, ◌&&◌, ◌||◌, ◌*◌, ◌≤◌, not, ℕ, Bool, true, false, List, count_by}
use Rattle.std.specs.List.{range_with_len}
use Rattle.std.specs.declared.option.Option.{Option}
use Rattle.neph_pool.specs.declared.entry.Entry.{Entry}
use Rattle.neph_pool.specs.Entries.{entry_count}

-- a seat has a name
abbrev pub IsNamed : (ℕ → Bool) → Type 0
IsNamed ns = (d : ℕ) × (ns d ≡ true)

-- two seats have no name in common
abbrev pub IsApart : (ℕ → Bool) → (ℕ → Bool) → Type 0
IsApart ms ns = (d : ℕ) → ms d ≡ true → ns d ≡ true → ⊥

abbrev pub both_names : (ℕ → Bool) → (ℕ → Bool) → ℕ → Bool
both_names ms ns d = ms d || ns d

abbrev pub only_name : ℕ → ℕ → Bool
only_name d e = e == d

abbrev pub without_name : (ℕ → Bool) → ℕ → ℕ → Bool
without_name ns d e = ns e && not (e == d)

-- how many ids are among the names
unfoldable pub name_count : (ℕ → Bool) → ℕ
name_count ns = count_by ns (range_with_len 0 64)

-- how many ids are not
unfoldable pub lack_count : (ℕ → Bool) → ℕ
lack_count ns = count_by (λ d. not (ns d)) (range_with_len 0 64)

-- a seat without the name 0 has at most cap entries for each of its names
abbrev pub IsCapped : ℕ → (ℕ → Bool) → List (Option Entry) → Type 0
IsCapped cap ns es = ns 0 ≡ false → entry_count es ≤ cap * name_count ns
