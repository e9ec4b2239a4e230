-- A domain's grant table: a finite map from references to entries.
use Rattle.std.specs.Prelude.{◌≡◌, ◌<◌, ℕ, Bool, ◌||◌, nat_lt, ◌==◌, if◌then◌else◌, List, option_map}
use Rattle.std.specs.Prelude.{Option, None, Some, Result, Ok, Err}
use Rattle.std.specs.Ordering.{nat_cmp}
use Rattle.std.specs.FinMap as map
use Rattle.neph_base.specs.declared.command.Mode.{Mode}
use Rattle.neph_base.specs.declared.command.Mode.TheVariants.{Rw}
use Rattle.neph_base.specs.declared.command.Who.{Who}
use Rattle.neph_base.specs.declared.command.Who.TheVariants.{Dom, Child}
use Rattle.neph_grant.specs.declared.table.TheConstants.{GRANT_REFS, DEVICE_GRANTS}
use Rattle.neph_grant.specs.declared.entry.GrantEntry.{GrantEntry}
use Rattle.neph_grant.specs.declared.faults.EndFault.{EndFault}
use Rattle.neph_grant.specs.declared.faults.EndFault.TheVariants.{NoGrant, Busy}
use Rattle.neph_grant.specs.declared.faults.MapRefused.{MapRefused}
use Rattle.neph_grant.specs.declared.faults.MapRefused.TheVariants.{NoEntry, NotYours}
use Rattle.neph_grant.specs.Below.{some_below}
use Rattle.neph_grant.specs.Entry.{bytes_of}
use Rattle.neph_grant.specs.Uses.{is_of_page}

-- from references to entries
abbrev pub Grants : Type 0
Grants = map.FinMap nat_cmp GrantEntry

-- a reference of a device page
abbrev pub is_device_grant : ℕ → Bool
is_device_grant r = nat_lt r DEVICE_GRANTS

-- an entry lets domain 0 write this page
abbrev pub device_entry : ℕ → GrantEntry
device_entry p = record { who = Dom 0; pfn = p; mode = Rw }

-- the table of a new domain: its console, network and 9P page are domain 0's to write
abbrev pub device_grants : Grants
device_grants =
    let console = map.insert map.empty 0 (device_entry 1) in
    let network = map.insert console 1 (device_entry 2) in
    map.insert network 2 (device_entry 3)

-- an entry names this page
abbrev pub names_page : Grants → ℕ → Bool
names_page t p = some_below GRANT_REFS (λ r. is_of_page p (map.get t r))

-- the table with an entry of this reference
abbrev pub with_entry : Grants → ℕ → Who → ℕ → Mode → Grants
with_entry t r who p m = map.insert t r (record { who = who; pfn = p; mode = m })

-- Taking an entry away gives its page. Refused where there is none, and where it is a device page's
-- or mapped.
abbrev pub end_answer : Grants → ℕ → Bool → Result ℕ EndFault
end_answer t r mapped = by (map.get t r) where
  by : Option GrantEntry → Result ℕ EndFault
  by None = Err NoGrant
  by (Some e) = if is_device_grant r || mapped then Err Busy else Ok e.pfn

-- an entry of the granter that is for these lets in a domain with this id and this parent
abbrev pub is_for : Who → ℕ → ℕ → ℕ → Bool
is_for (Dom d) me parent granter = d == me
is_for Child me parent granter = parent == granter

-- Mapping an entry gives its page and mode. Refused where there is none, and where it is for
-- others.
abbrev pub admit_answer : Grants → ℕ → ℕ → ℕ → ℕ → Result (ℕ × Mode) MapRefused
admit_answer t r me parent granter = by (map.get t r) where
  by : Option GrantEntry → Result (ℕ × Mode) MapRefused
  by None = Err NoEntry
  by (Some e) = if is_for e.who me parent granter then Ok (e.pfn, e.mode) else Err NotYours

-- the bytes of an entry that handles have mapped so
abbrev pub entry_bytes_of : Grants → ℕ → Bool → Bool → Option (List ℕ)
entry_bytes_of t r reading writing =
    option_map (λ e. bytes_of (is_device_grant r) e reading writing) (map.get t r)

-- an entry of some reference names this page
abbrev pub HasEntryOf : Grants → ℕ → Type 0
HasEntryOf t p =
    (r : ℕ) × (e : GrantEntry) × (r < GRANT_REFS) × (map.get t r ≡ Some e) × (e.pfn ≡ p)
