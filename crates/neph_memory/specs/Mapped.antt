-- What mapping a virtual page to another page comes to.
use Rattle.std.specs.Prelude.{◌≡◌, ◌==◌, ◌||◌, if◌then◌else◌, nat_le, nat_lt, ℕ, Bool, true, false, slice_set, Some, None, Result, Ok, Err}
use Rattle.std.specs.declared.option.Option.{Option}
use Rattle.neph_base.specs.declared.command.Mode.{Mode}
use Rattle.neph_base.specs.declared.command.Mode.TheVariants.{Ro, Rw}
use Rattle.neph_gmap.specs.GuestPages.{GuestPages, vpns_at, with_number, without_number}
use Rattle.neph_memory.specs.declared.fault.MapFault.{MapFault}
use Rattle.neph_memory.specs.declared.fault.MapFault.TheVariants.{BadPfn, NeedSpare, NoMemory}

-- of so many pages there is no page p, or it is the identity page or a device page, which isn't
-- mapped writable
abbrev pub is_bad_page : ℕ → ℕ → Mode → Bool
is_bad_page count p Ro = nat_le count p
is_bad_page count p Rw = nat_le count p || nat_lt p 4

-- it was done, or memory ran out
abbrev pub IsTried : Result Unit MapFault → Type 0
IsTried (Ok _) = Unit {0}
IsTried (Err BadPfn) = ⊥
IsTried (Err NeedSpare) = ⊥
IsTried (Err NoMemory) = Unit {0}

-- the answer for a page that is bad or not, by the leaf table and the spare that there are
abbrev pub IsMapAnswer : Bool → Option ℕ → Option ℕ → Result Unit MapFault → Type 0
IsMapAnswer true leaf spare r = r ≡ Err BadPfn
IsMapAnswer false None None r = r ≡ Err NeedSpare
IsMapAnswer false None (Some f) r = IsTried r
IsMapAnswer false (Some leaf) spare r = IsTried r

-- the leaf table after it: the spare becomes one that was missing
abbrev pub leaf_after_map : Option ℕ → Option ℕ → Option ℕ
leaf_after_map None spare = spare
leaf_after_map (Some leaf) spare = Some leaf

-- the spare after it
abbrev pub spare_after_map : Option ℕ → Option ℕ → Option ℕ
spare_after_map None spare = None
spare_after_map (Some leaf) spare = spare

-- the page's list has the virtual page
abbrev pub with_vpn : GuestPages → ℕ → ℕ → GuestPages
with_vpn m p v = record m { vpns = slice_set m.vpns p (with_number v (vpns_at m p)) }

-- the list of the page that it was mapped to hasn't, unless it is mapped to that page
abbrev pub without_old_vpn : GuestPages → Option ℕ → ℕ → ℕ → GuestPages
without_old_vpn m None p v = m
without_old_vpn m (Some q) p v =
    if q == p then m else record m { vpns = slice_set m.vpns q (without_number v (vpns_at m q)) }
