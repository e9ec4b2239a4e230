-- What a guest's line comes to.
use Rattle.std.specs.Prelude.{◌≡◌, ◌≢◌, ◌+◌, ◌/◌, ◌%◌, ◌<◌, ◌≤◌, ◌^◌, ◌⊎◌, ⊤, ℕ, Bool, true, false, List, Option, Some, None, Result, Ok, Err, IsSome, IfSome, length}
use Rattle.std.specs.FinMap as map
use Rattle.std.specs.Option.{option_map}
use Rattle.neph_base.specs.declared.command.Command.{Command}
use Rattle.neph_base.specs.declared.command.Command.TheVariants as command
use Rattle.neph_base.specs.declared.command.Mode.TheVariants.{Rw}
use Rattle.neph_base.specs.declared.reply.Reply.{Reply}
use Rattle.neph_base.specs.declared.sizes.TheConstants.{PAGE_BYTES, TABLE_ENTRIES}
use Rattle.neph_model.specs.declared.own.Own.{Own}
use Rattle.neph_model.specs.declared.told.Told.TheVariants.{Enough}
use Rattle.neph_model.specs.Own.{LocalResult, mapping_at, w_step, r_step, map_step, unmap_step, settle, is_bad_pfn, has_leaf}
use Rattle.neph_pool.specs.World.{World, SameCounts}
use Rattle.neph_memory.specs.declared.dom_local.DomLocal.{DomLocal}
use Rattle.neph_memory.specs.Pages.{frame_at}
use Rattle.neph_memory.specs.Domains.{domain_mapping, domain_leaf, domain_leaf_count, IsUnchanged, IsSharedPage, KeepsPlaces, MakesAlone, TookSpare}
use Rattle.neph_memory.specs.Mapped.{spare_after_map}
use Rattle.neph_memory.specs.declared.write.Write.{Write}
use Rattle.neph_base.specs.declared.reply.Reply.TheVariants as reply
use Rattle.neph_base.specs.declared.reply.Refusal.TheVariants as refusal
use Rattle.neph_memory.specs.declared.touch.Touch.{Touch}
use Rattle.neph_memory.specs.declared.touch.Touch.TheVariants as touch
use Rattle.neph_memory.specs.declared.write.WriteStep.{WriteStep}
use Rattle.neph_memory.specs.declared.write.WriteStep.TheVariants as step
use Rattle.neph_memory.specs.declared.fault.MapFault.{MapFault}
use Rattle.neph_memory.specs.declared.fault.MapFault.TheVariants as fault
use Rattle.neph_base.specs.declared.memory.NoMemory.{NoMemory}
use Rattle.neph_hyper.specs.Guests.{MayTrap}
use Rattle.neph_guest.specs.declared.live.Guest.{Guest}
use Rattle.neph_guest.specs.declared.live.Stage.{Stage}
use Rattle.neph_guest.specs.declared.live.Stage.TheVariants.{Ready, Copying, Forking}
use Rattle.neph_guest.specs.declared.row.CopyTurn.{CopyTurn}
use Rattle.neph_guest.specs.declared.row.CopyTurn.TheVariants as copy
use Rattle.neph_memory.specs.declared.own.Own.{Own as Memory}
use Rattle.neph_memory.specs.Memory.{is_marked}
use Rattle.neph_guest.specs.declared.row.Row.{Row}
use Rattle.neph_guest.specs.declared.row.Row.TheVariants as row
use Rattle.neph_guest.specs.declared.row.LocalTurn.{LocalTurn}
use Rattle.neph_guest.specs.declared.row.LocalTurn.TheVariants as turn

-- what a command that is no jump does to the own half by the plain machine, line and marks aside
abbrev pub memory_step : Own → Command → LocalResult
memory_step o (command.W addr bytes) =
    w_step o Enough (addr % PAGE_BYTES) bytes (mapping_at o addr)
memory_step o (command.R addr len) = r_step o (addr % PAGE_BYTES) len (mapping_at o addr)
memory_step o (command.Map vpn pfn mode) = map_step o Enough vpn pfn mode
memory_step o (command.Unmap vpn) = unmap_step o vpn (map.get o.vmap vpn)
memory_step o _ = None

-- a `map` that isn't bad needs a leaf table that isn't there
abbrev pub LacksLeaf : Own → Command → Type 0
LacksLeaf o (command.Map vpn pfn mode) =
    (is_bad_pfn o pfn mode ≡ false) × (has_leaf o vpn ≡ false)
LacksLeaf o _ = ⊥

-- a write that came so far
abbrev pub row_of_write : WriteStep → Row
row_of_write step.Done = row.Does reply.Done
row_of_write step.Copying = row.Copies
row_of_write step.Unmapped = row.Refuses refusal.Unmapped
row_of_write step.ReadOnly = row.Refuses refusal.ReadOnly
row_of_write (step.Exposed p) = row.Asks

-- a read that was answered so
abbrev pub row_of_read : Result (List ℕ) Touch → Row
row_of_read (Ok bytes) = row.Does (reply.Bytes bytes)
row_of_read (Err touch.Unmapped) = row.Refuses refusal.Unmapped
row_of_read (Err (touch.Exposed p)) = row.Asks

-- a `map` that was answered so, where memory did not run out
abbrev pub IsRowOfMap : Result Unit MapFault → Result Row NoMemory → Type 0
IsRowOfMap (Ok done) r = r ≡ Ok (row.Does reply.Done)
IsRowOfMap (Err fault.BadPfn) r = r ≡ Ok (row.Refuses refusal.BadPfn)
IsRowOfMap (Err fault.NeedSpare) r = r ≡ Ok row.LacksFrame
IsRowOfMap (Err fault.NoMemory) (Ok row) = ⊥
IsRowOfMap (Err fault.NoMemory) (Err lacks) = ⊤

-- an `unmap` that found a mapping or not
abbrev pub row_of_unmap : Bool → Row
row_of_unmap true = row.Does reply.Done
row_of_unmap false = row.Refuses refusal.Unmapped

-- a turn whose command came to this
abbrev pub turn_of : Row → LocalTurn
turn_of (row.Does reply) = turn.Did reply
turn_of (row.Refuses why) = turn.Did (reply.Refused why)
turn_of row.Asks = turn.Asks
turn_of row.Copies = turn.Copies
turn_of row.LacksFrame = turn.LacksFrame

-- the guest whose command came to this: line and mark have gone on where it is done or refused
abbrev pub guest_after : Guest → Row → Guest
guest_after g (row.Does reply) = record g { line = g.line + 1; failed = false }
guest_after g (row.Refuses why) = record g { line = g.line + 1; failed = true }
guest_after g row.Asks = g
guest_after g row.Copies = record g { stage = Copying }
guest_after g row.LacksFrame = g

-- a jump
abbrev pub IsJump : Command → Type 0
IsJump (command.Jump label) = ⊤
IsJump (command.JChild label) = ⊤
IsJump (command.JFail label) = ⊤
IsJump _ = ⊥

-- a guest behind a jump, which changes its line alone, or behind a command that is none
abbrev pub IsJumped : Guest → Guest → Option Reply → Type 0
IsJumped g h (Some reply) = h ≡ record g { line = h.line }
IsJumped g h None = h ≡ g

-- The own half o behind a jump to this line, by `step`. A command that is no jump is left to the
-- memory.
abbrev pub JumpDone : Own → ℕ → Command → Option (Own × Reply) → Option Reply → Type 0
JumpDone o line c step (Some reply) = step ≡ Some (record o { line = line }, reply)
JumpDone o line c step None = step ≡ option_map (settle o) (memory_step o c)

-- The row has come to this, where the plain row says `step` of the own half o. `Now` is told of the
-- own half that the memory is then.
abbrev pub RowDone : (Own → Type 0) → Own → Command → LocalResult → Row → Type 0
RowDone Now o c step (row.Does reply) =
    (new : Own) × (step ≡ Some (Ok (new, reply))) × (new.came ≡ o.came) × Now new
RowDone Now o c step (row.Refuses why) = (step ≡ Some (Err why)) × Now o
RowDone Now o c step row.Asks = (step ≡ None) × Now o
RowDone Now o c step row.Copies = Now o
RowDone Now o c step row.LacksFrame = LacksLeaf o c × Now o

-- the same, unless memory ran out, which changed nothing
abbrev pub RowDoneOrLacks : (Own → Type 0) → Own → Command → LocalResult → Result Row NoMemory
    → Type 0
RowDoneOrLacks Now o c step (Ok row) = RowDone Now o c step row
RowDoneOrLacks Now o c step (Err lacks) = Now o

-- The turn has come to this, where the plain machine's guest does `step` by itself.
abbrev pub TurnDone : (Own → Type 0) → Own → Command → Option (Own × Reply) → LocalTurn → Type 0
TurnDone Now o c step (turn.Did reply) = (new : Own) × (step ≡ Some (new, reply)) × Now new
TurnDone Now o c step turn.Asks = (step ≡ None) × Now o
TurnDone Now o c step turn.Copies = Now o
TurnDone Now o c step turn.LacksFrame = LacksLeaf o c × Now o

-- the same, unless memory ran out, which changed nothing
abbrev pub TurnDoneOrLacks : (Own → Type 0) → Own → Command → Option (Own × Reply)
    → Result LocalTurn NoMemory → Type 0
TurnDoneOrLacks Now o c step (Ok done) = TurnDone Now o c step done
TurnDoneOrLacks Now o c step (Err lacks) = Now o

-- A write of these bytes at this address is in hand. The address maps writable to a page of the
-- domain's own.
pub record IsWriteInHand {Pool Seat : Type 0} (W : World Pool Seat) (p : Pool)
    (d : DomLocal Pool Seat) (addr : ℕ) (bytes : List ℕ) : Type 0 where
  pub pfn : ℕ
  pub range : addr / PAGE_BYTES < 2 ^ 18
  pub mapped : domain_mapping W p d (addr / PAGE_BYTES) ≡ Some (record { pfn = pfn; mode = Rw })
  pub own : IsSome (frame_at d.own.map.pages pfn)
  pub hand : d.hand ≡ Some (record { pfn = pfn; at = addr % PAGE_BYTES; bytes = bytes })

-- the write of the guest's line is in hand
abbrev pub IsLineInHand : {Pool Seat : Type 0} → World Pool Seat → Pool → DomLocal Pool Seat
    → Command → Type 0
IsLineInHand W p d (command.W addr bytes) = IsWriteInHand W p d addr bytes
IsLineInHand W p d _ = ⊥

-- The write in hand behind a turn that came to this, before which this was in hand. A look has
-- found that the seat's reference is not the only one of the frame.
abbrev pub HandDone : {Pool Seat : Type 0} → World Pool Seat → Pool → DomLocal Pool Seat → Command
    → Option Write → LocalTurn → Type 0
HandDone W p d c hand turn.Copies = IsLineInHand W p d c × (W.met d.seat ≢ 1)
HandDone W p d c hand _ = d.hand ≡ hand

-- What a write whose turn came to this tells of the page at its address, in the memory d that it
-- met. It was done in a page that is the domain's alone in the memory `own` behind it, or it waits
-- since the page is shared, and d's pages are what they were.
abbrev pub LookDone : {Pool Seat : Type 0} → World Pool Seat → Pool → DomLocal Pool Seat → Memory
    → Command → LocalTurn → Type 0
LookDone W p d own (command.W addr bytes) (turn.Did reply.Done) =
    IfSome (domain_mapping W p d (addr / PAGE_BYTES)) (λ to. is_marked own to.pfn ≡ true)
LookDone W p d own (command.W addr bytes) turn.Copies = (own ≡ d.own)
    × IfSome (domain_mapping W p d (addr / PAGE_BYTES)) (λ to. IsSharedPage W p d to.pfn)
LookDone W p d own _ _ = ⊤

-- The spare of the domain d behind a turn that came to this. A `map` that was done has made it the
-- leaf table that was missing.
abbrev pub spare_after : {Pool Seat : Type 0} → World Pool Seat → Pool → DomLocal Pool Seat
    → Command → LocalTurn → Option ℕ
spare_after W p d (command.Map vpn pfn mode) (turn.Did reply.Done) =
    spare_after_map (domain_leaf W p d (vpn / TABLE_ENTRIES)) d.own.spare
spare_after W p d _ _ = d.own.spare

-- A `map` that was done is one of a virtual page that there is, and the memory d held a spare
-- where the leaf table wasn't there.
abbrev pub HeldSpare : {Pool Seat : Type 0} → World Pool Seat → Pool → DomLocal Pool Seat
    → Command → LocalTurn → Type 0
HeldSpare W p d (command.Map vpn pfn mode) (turn.Did reply.Done) =
    (vpn < 2 ^ 18) × (domain_leaf W p d (vpn / TABLE_ENTRIES) ≡ None → IsSome d.own.spare)
HeldSpare W p d _ _ = ⊤

-- a turn that lacks a frame had this spare, which is none
abbrev pub IsWithoutSpare : LocalTurn → Option ℕ → Type 0
IsWithoutSpare turn.LacksFrame spare = spare ≡ None
IsWithoutSpare _ spare = ⊤

-- Where a `map` would make the spare a leaf table, the pool's cap leaves room for the entry of that
-- table beside those of each page, the root, each leaf table and another spare.
abbrev pub HasLeafRoom : {Pool Seat : Type 0} → World Pool Seat → Pool → DomLocal Pool Seat
    → Command → Type 0
HasLeafRoom W p d (command.Map vpn pfn mode) = vpn < 2 ^ 18
    → domain_leaf W p d (vpn / TABLE_ENTRIES) ≡ None
    → length d.own.map.pages + 3 + domain_leaf_count W p d ≤ W.cap p
HasLeafRoom W p d _ = ⊤

-- only a `map` takes memory
abbrev pub IsMap : Command → Type 0
IsMap (command.Map vpn pfn mode) = ⊤
IsMap _ = ⊥

-- how far the guest is behind a turn that came to this
abbrev pub stage_after : Stage → LocalTurn → Stage
stage_after stage turn.Copies = Copying
stage_after stage _ = stage

-- The turn of a guest whose write is in hand has come to this, where the plain machine's guest does
-- `step` by itself.
abbrev pub CopyDone : (Own → Type 0) → Own → Option (Own × Reply) → CopyTurn → Type 0
CopyDone Now o step (copy.Did reply) = (new : Own) × (step ≡ Some (new, reply)) × Now new
CopyDone Now o step copy.LacksFrame = Now o

-- the write in hand behind such a turn, before which this was
abbrev pub hand_after_copy : Option Write → CopyTurn → Option Write
hand_after_copy hand (copy.Did reply) = None
hand_after_copy hand copy.LacksFrame = hand

-- how far the guest is behind such a turn
abbrev pub stage_after_copy : CopyTurn → Stage
stage_after_copy (copy.Did reply) = Ready
stage_after_copy copy.LacksFrame = Copying

-- from the memory d in the pool p to the memory e in the pool q
module _ {Pool Seat : Type 0} (W : World Pool Seat) (p : Pool) (d : DomLocal Pool Seat) (q : Pool)
    (e : DomLocal Pool Seat) where
  -- The write in hand was done in its page k, which is the domain's alone then: where the page was
  -- shared it has moved into the spare, else it lies where it did.
  pub record HasWritten (k : ℕ) : Type 0 where
    pub alone : MakesAlone d e k
    pub place : KeepsPlaces d e ⊎ (IsSharedPage W p d k × TookSpare W p d q e k)

  -- The write in hand waits for a frame: its page k is shared, and no spare is held. Nothing has
  -- changed but what the seat's look met.
  pub record WaitsForFrame (k : ℕ) : Type 0 where
    pub page : IsSharedPage W p d k
    pub spare : d.own.spare ≡ None
    pub same : IsUnchanged W p d q e
    pub counts : SameCounts W p q

  -- what a turn of a guest whose write is in hand has done to the memory
  abbrev pub PlaceDone : CopyTurn → Type 0
  PlaceDone (copy.Did reply) = IfSome d.hand (λ h. HasWritten h.pfn)
  PlaceDone copy.LacksFrame = IfSome d.hand (λ h. WaitsForFrame h.pfn)

-- the hypervisor may be asked to do the command, by its trap or to take an entry away
abbrev pub MayAsk : {Pool Seat : Type 0} → World Pool Seat → Pool → DomLocal Pool Seat → Command
    → Type 0
MayAsk W p d (command.Ungrant r) = ⊤
MayAsk W p d c = MayTrap W p d c

-- a row has refused or done a command of the own half o, which is then `new`
abbrev pub Settles : (Own → Type 0) → Own × Reply → Reply → Type 0
Settles Now did reply = Now did.0 × (did.1 ≡ reply)

-- how far a guest is behind a call of the hypervisor that was answered so
abbrev pub stage_behind : Stage → Reply → Stage
stage_behind stage (reply.Begun child) = Forking
stage_behind stage _ = stage
