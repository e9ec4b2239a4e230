-- A grant entry in bytes: Xen's version 1 layout, little-endian.
use Rattle.std.specs.Prelude.{ℕ, ◌+◌, Bool, true, false, List, ◌++◌, if◌then◌else◌}
use Rattle.byteorder.specs.Endian.{little_bytes}
use Rattle.neph_base.specs.declared.command.Mode.{Mode}
use Rattle.neph_base.specs.declared.command.Mode.TheVariants.{Ro, Rw}
use Rattle.neph_base.specs.declared.command.Who.{Who}
use Rattle.neph_base.specs.declared.command.Who.TheVariants.{Dom, Child}
use Rattle.neph_grant.specs.declared.entry.GrantEntry.{GrantEntry}
use Rattle.neph_grant.specs.declared.entry.TheConstants.{GTF_PERMIT_ACCESS, GTF_READONLY}
use Rattle.neph_grant.specs.declared.entry.TheConstants.{GTF_READING, GTF_WRITING, DOMID_CHILD}

-- the domid of whom an entry lets in
abbrev pub domid_of : Who → ℕ
domid_of (Dom d) = d
domid_of Child = DOMID_CHILD

-- the flag of an entry's mode
abbrev pub mode_flag : Mode → ℕ
mode_flag Ro = GTF_READONLY
mode_flag Rw = 0

-- the flags: access is permitted, the mode, and whether the page is mapped for reading and for
-- writing
abbrev pub flags_of : Mode → Bool → Bool → ℕ
flags_of mode reading writing =
    GTF_PERMIT_ACCESS + mode_flag mode + (if reading then GTF_READING else 0)
    + (if writing then GTF_WRITING else 0)

-- the flags of a device page's entry, which domain 0 has mapped for good, or of any other
abbrev pub entry_flags : Bool → Mode → Bool → Bool → ℕ
entry_flags true mode reading writing = flags_of Rw true true
entry_flags false mode reading writing = flags_of mode reading writing

-- flags in 16 bits, domid in 16 bits, frame in 32 bits
abbrev pub bytes_of : Bool → GrantEntry → Bool → Bool → List ℕ
bytes_of device e reading writing =
    little_bytes 2 (entry_flags device e.mode reading writing) ++ little_bytes 2 (domid_of e.who)
    ++ little_bytes 4 e.pfn
