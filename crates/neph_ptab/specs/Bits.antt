-- An entry of an x86-64 page table as a 64-bit number (Intel SDM volume 3A, 4.5; AMD64 APM volume
-- 2, 5.3): bit 0 is present, bit 1 writable, bits 12 to 51 hold the frame number, and bits 9 and 10
-- are left to software.
use Rattle.std.specs.Prelude.{◌≡◌, ◌==◌, ◌&&◌, ◌+◌, ◌*◌, ◌/◌, ◌%◌, ◌^◌, ◌<◌, if◌then◌else◌, ℕ, Bool, false, Some, None}
use Rattle.std.specs.Int.{bit_at}
use Rattle.std.specs.declared.option.Option.{Option}
use Rattle.neph_base.specs.declared.sizes.TheConstants.{MAX_FRAMES, MAX_PAGES}
use Rattle.neph_ptab.specs.declared.bits.TheConstants.{PRESENT, RW, AVAIL0, AVAIL1, PAGE_SHIFT}
use Rattle.neph_ptab.specs.declared.walk.Walk.{Walk}
use Rattle.neph_ptab.specs.declared.walk.Walk.TheVariants.{None as Unmapped, Local, Exposed}

-- bit n of a word
abbrev pub has_bit : ℕ → ℕ → Bool
has_bit word n = bit_at word n == 1

-- the number in bits 12 to 51
abbrev pub number_in : ℕ → ℕ
number_in word = word / 2 ^ PAGE_SHIFT % 2 ^ 40

-- a bit as a number
abbrev pub digit : Bool → ℕ
digit b = if b then 1 else 0

-- the leaf table that a root's entry names
abbrev pub leaf_in : ℕ → Option ℕ
leaf_in word = if has_bit word PRESENT then Some (number_in word) else None

-- the entry of a root: present and writable, with the leaf's frame number; or 0
abbrev pub root_word : Option ℕ → ℕ
root_word None = 0
root_word (Some leaf) = 2 ^ PRESENT + 2 ^ RW + 2 ^ PAGE_SHIFT * leaf

-- what a leaf's entry says: a local page is present; an exposed page is not, and has bit 10 and its
-- pfn
abbrev pub walk_in : ℕ → Walk
walk_in word =
    if has_bit word PRESENT then Local (number_in word) (has_bit word RW) (has_bit word AVAIL0)
    else (if has_bit word AVAIL1 then Exposed (number_in word) (has_bit word AVAIL0) else Unmapped)

-- the entry of a leaf: bit 1 where a local page may be written, and bit 9 where it may be shared or
-- an exposed page may be written
abbrev pub walk_word : Walk → ℕ
walk_word Unmapped = 0
walk_word (Local frame rw shared) =
    2 ^ PRESENT + 2 ^ RW * digit rw + 2 ^ AVAIL0 * digit shared + 2 ^ PAGE_SHIFT * frame
walk_word (Exposed pfn rw) = 2 ^ AVAIL1 + 2 ^ AVAIL0 * digit rw + 2 ^ PAGE_SHIFT * pfn

-- a number of a frame, or of a guest's page
abbrev pub InRange : Walk → Type 0
InRange Unmapped = Unit {0}
InRange (Local frame rw shared) = frame < MAX_FRAMES
InRange (Exposed pfn rw) = pfn < MAX_PAGES

-- a page that may be written at once isn't one that may be shared
abbrev pub NotBoth : Walk → Type 0
NotBoth Unmapped = Unit {0}
NotBoth (Local frame rw shared) = (rw && shared) ≡ false
NotBoth (Exposed pfn rw) = Unit {0}
