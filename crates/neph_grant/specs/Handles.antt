-- The handles of a domain: a finite map from handles to the entries that they map.
use Rattle.std.specs.Prelude.{◌≡◌, ◌<◌, ℕ, Bool, true, false, ◌==◌, ◌&&◌}
use Rattle.std.specs.Prelude.{Option, None, is_none, IsSome}
use Rattle.std.specs.Option.{option_map_or}
use Rattle.std.specs.Ordering.{nat_cmp}
use Rattle.std.specs.FinMap as map
use Rattle.neph_base.specs.declared.command.Mode.{Mode}
use Rattle.neph_base.specs.declared.command.Mode.TheVariants.{Ro, Rw}
use Rattle.neph_grant.specs.declared.handles.TheConstants.{HANDLES}
use Rattle.neph_grant.specs.declared.handles.GrantMapping.{GrantMapping}
use Rattle.neph_grant.specs.Below.{some_below, least_below}

-- from handles to mapped entries
abbrev pub Mappings : Type 0
Mappings = map.FinMap nat_cmp GrantMapping

-- the least handle that isn't held
abbrev pub free_handle : Mappings → Option ℕ
free_handle m = least_below HANDLES (λ h. is_none (map.get m h))

-- this handle isn't held, and all below it are
abbrev pub IsLeastFree : Mappings → ℕ → Type 0
IsLeastFree m h = (map.get m h ≡ None) × ((k : ℕ) → k < h → IsSome (map.get m k))

-- every handle is held
abbrev pub IsFull : Mappings → Type 0
IsFull m = (h : ℕ) → h < HANDLES → IsSome (map.get m h)

-- the mappings with one at this handle
abbrev pub with_mapping : Mappings → ℕ → ℕ → ℕ → Mode → Mappings
with_mapping m h granter r mode =
    map.insert m h (record { granter = granter; reference = r; mode = mode })

-- granter, reference and mode
abbrev pub mapping_parts : GrantMapping → ℕ × ℕ × Mode
mapping_parts g = (g.granter, g.reference, g.mode)

-- a mapping is of this entry of the granter
abbrev pub is_of_entry : ℕ → ℕ → GrantMapping → Bool
is_of_entry granter r g = g.granter == granter && g.reference == r

-- a mode lets write
abbrev pub is_writable : Mode → Bool
is_writable Ro = false
is_writable Rw = true

-- a mapping is of this entry, and may be written
abbrev pub writes_of_entry : ℕ → ℕ → GrantMapping → Bool
writes_of_entry granter r g = is_of_entry granter r g && is_writable g.mode

-- some handle has this entry of the granter mapped
abbrev pub maps_entry : Mappings → ℕ → ℕ → Bool
maps_entry m granter r =
    some_below HANDLES (λ h. option_map_or (is_of_entry granter r) (map.get m h) false)

-- some handle has it mapped, and may write
abbrev pub writes_entry : Mappings → ℕ → ℕ → Bool
writes_entry m granter r =
    some_below HANDLES (λ h. option_map_or (writes_of_entry granter r) (map.get m h) false)
