-- How often the pages of a granter are named by its entries.
use Rattle.std.specs.Prelude.{◌≡◌, ◌<◌, ℕ, Bool, false, ◌==◌, List, Option}
use Rattle.std.specs.Prelude.{length, count_by, slice_index}
use Rattle.std.specs.Option.{option_map_or}
use Rattle.neph_base.specs.declared.sizes.TheConstants.{MAX_PAGES}
use Rattle.neph_grant.specs.declared.table.TheConstants.{GRANT_REFS}
use Rattle.neph_grant.specs.declared.entry.GrantEntry.{GrantEntry}

-- there is an entry, and it names this page
abbrev pub is_of_page : ℕ → Option GrantEntry → Bool
is_of_page p entry = option_map_or (λ (e : GrantEntry). e.pfn == p) entry false

-- a slot for each reference, and for each page the number of entries that name it
pub record IsCounted (entries : List (Option GrantEntry)) (uses : List ℕ) : Type 0 where
  pub slots : length entries ≡ GRANT_REFS
  pub pages : length uses ≡ MAX_PAGES
  pub counted : (p : ℕ) → p < MAX_PAGES → slice_index uses p ≡ count_by (is_of_page p) entries
