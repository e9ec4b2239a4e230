-- What a domain does by itself: the rows of the local commands, which read and change its own half
-- alone.
use Rattle.std.specs.Prelude.{ℕ, Bool, true, false, if◌then◌else◌, ◌==◌, ◌+◌, ◌/◌, ◌%◌, ◌||◌, nat_lt, nat_le, List, [], ◌∷◌, ◌++◌, length, take, drop, Option, None, Some, Result, Ok, Err, slice_index_or, slice_set, option_map}
use Rattle.std.specs.List.{list_any}
use Rattle.std.specs.FinMap as map
use Rattle.neph_base.specs.declared.command.Command.{Command}
use Rattle.neph_base.specs.declared.command.Command.TheVariants as command
use Rattle.neph_base.specs.declared.command.Mode.{Mode}
use Rattle.neph_base.specs.declared.command.Mode.TheVariants.{Ro, Rw}
use Rattle.neph_base.specs.declared.reply.Reply.{Reply}
use Rattle.neph_base.specs.declared.reply.Reply.TheVariants.{Done, Go, On, Bytes, Refused}
use Rattle.neph_base.specs.declared.reply.Refusal.{Refusal}
use Rattle.neph_base.specs.declared.reply.Refusal.TheVariants.{Unmapped, ReadOnly, BadPfn}
use Rattle.neph_model.specs.declared.script.Script.{Script}
use Rattle.neph_model.specs.declared.memory.Mapping.{Mapping}
use Rattle.neph_model.specs.declared.told.Told.{Told}
use Rattle.neph_model.specs.declared.told.Told.TheVariants.{Enough, Short, Free}
use Rattle.neph_model.specs.Memory.{page_with_bytes}
use Rattle.neph_model.specs.Programs.{label_line_at}
use Rattle.neph_model.specs.Machine.{Own}

-- the bytes of a page that is the domain's own, None where it is exposed
abbrev pub page_of : Own → ℕ → Option (List ℕ)
page_of o pfn = slice_index_or o.pages pfn None

-- the own half with this in the place of a page
abbrev pub with_page : Own → ℕ → Option (List ℕ) → Own
with_page o pfn page = record o { pages = slice_set o.pages pfn page }

-- the own half that knows that it has a page to itself
abbrev pub with_alone : Own → ℕ → Own
with_alone o pfn = record o { alone = slice_set o.alone pfn true }

-- what an address maps to
abbrev pub mapping_at : Own → ℕ → Option Mapping
mapping_at o addr = map.get o.vmap (addr / 4096)

-- what a local command comes to: None where the hypervisor has to be asked
abbrev pub LocalResult : Type 0
LocalResult = Option (Result (Own × Reply) Refusal)

-- the own half with these bytes at an offset of a page of its own, whose bytes were these
abbrev pub with_bytes : Own → ℕ → List ℕ → ℕ → List ℕ → Own
with_bytes o pfn page at bytes =
    with_alone (with_page o pfn (Some (page_with_bytes page at bytes))) pfn

-- `w` where its address maps to this. The hypervisor is asked where the page is exposed, and where
-- no frame is left for it.
abbrev pub w_step : Own → Told → ℕ → List ℕ → Option Mapping → LocalResult
w_step o told at bytes None = Some (Err Unmapped)
w_step o told at bytes (Some to) = by (page_of o to.pfn) to.mode told where
  by : Option (List ℕ) → Mode → Told → LocalResult
  by None mode told = None
  by (Some page) Ro told = Some (Err ReadOnly)
  by (Some page) Rw Short = None
  by (Some page) Rw Enough = Some (Ok (with_bytes o to.pfn page at bytes, Done))
  by (Some page) Rw (Free f) = Some (Ok (with_bytes o to.pfn page at bytes, Done))

-- `r` of n bytes
abbrev pub r_step : Own → ℕ → ℕ → Option Mapping → LocalResult
r_step o at n None = Some (Err Unmapped)
r_step o at n (Some to) = by (page_of o to.pfn) where
  by : Option (List ℕ) → LocalResult
  by None = None
  by (Some page) = Some (Ok (o, Bytes (take n (drop at page))))

-- the guest has no such page, or it is an identity or device page, which isn't mapped writable
abbrev pub is_bad_pfn : Own → ℕ → Mode → Bool
is_bad_pfn o pfn Ro = nat_le (length o.pages) pfn
is_bad_pfn o pfn Rw = nat_le (length o.pages) pfn || nat_lt pfn 4

-- the group of 512 virtual pages of this one has a leaf table
abbrev pub has_leaf : Own → ℕ → Bool
has_leaf o vpn = list_any (λ g. g == vpn / 512) o.leaves

-- the own half whose virtual page maps to this
abbrev pub with_mapping : Own → ℕ → ℕ → Mode → Own
with_mapping o vpn pfn mode = record o
    { vmap = map.insert o.vmap vpn (record { pfn = pfn; mode = mode }) }

-- the own half with a leaf table for the group of this virtual page
abbrev pub with_leaf : Own → ℕ → Own
with_leaf o vpn = record o { leaves = o.leaves ++ vpn / 512 ∷ [] }

-- a `map` that needs a leaf table and would leave this. The hypervisor is asked where no frame is
-- left for the table.
abbrev pub leaf_step : Own → Told → LocalResult
leaf_step o Enough = Some (Ok (o, Done))
leaf_step o Short = None
leaf_step o (Free f) = Some (Ok (o, Done))

-- `map`
abbrev pub map_step : Own → Told → ℕ → ℕ → Mode → LocalResult
map_step o told vpn pfn mode =
    if is_bad_pfn o pfn mode then Some (Err BadPfn)
    else (if has_leaf o vpn then Some (Ok (with_mapping o vpn pfn mode, Done))
    else leaf_step (with_leaf (with_mapping o vpn pfn mode) vpn) told)

-- `unmap` of a virtual page that maps to this
abbrev pub unmap_step : Own → ℕ → Option Mapping → LocalResult
unmap_step o vpn None = Some (Err Unmapped)
unmap_step o vpn (Some to) = Some (Ok (record o { vmap = map.remove o.vmap vpn }, Done))

-- on to the next line, with the mark of the last command
abbrev pub settle : Own → Result (Own × Reply) Refusal → Own × Reply
settle o (Ok did) = (record did.0 { line = o.line + 1; refused = false }, did.1)
settle o (Err why) = (record o { line = o.line + 1; refused = true }, Refused why)

-- A jump to a line, where it is taken. It leaves the mark of the last command.
abbrev pub jump_step : Own → ℕ → Bool → Option (Own × Reply)
jump_step o line true = Some (record o { line = line }, Go)
jump_step o line false = Some (record o { line = o.line + 1 }, On)

-- A command of a domain by itself, which runs the program with this number: its own half behind it,
-- and the reply. None where it is a call of the hypervisor.
abbrev pub local_step : Script → ℕ → Own → Told → Command → Option (Own × Reply)
local_step s p o told (command.W addr bytes) =
    option_map (settle o) (w_step o told (addr % 4096) bytes (mapping_at o addr))
local_step s p o told (command.R addr len) =
    option_map (settle o) (r_step o (addr % 4096) len (mapping_at o addr))
local_step s p o told (command.Map vpn pfn mode) =
    option_map (settle o) (map_step o told vpn pfn mode)
local_step s p o told (command.Unmap vpn) =
    option_map (settle o) (unmap_step o vpn (map.get o.vmap vpn))
local_step s p o told (command.Jump label) = jump_step o (label_line_at s p label) true
local_step s p o told (command.JChild label) = jump_step o (label_line_at s p label) o.came
local_step s p o told (command.JFail label) = jump_step o (label_line_at s p label) o.refused
local_step s p o told _ = None
