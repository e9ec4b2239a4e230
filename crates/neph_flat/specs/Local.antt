-- What code that changes an own half in place has done, by the definitions.
use Rattle.std.specs.Prelude.{◌≡◌, ◌≢◌, ℕ, true, false, Option, None, Some, Result, Ok, Err}
use Rattle.std.specs.FinMap as map
use Rattle.neph_base.specs.declared.command.Command.{Command}
use Rattle.neph_base.specs.declared.command.Command.TheVariants.{Map}
use Rattle.neph_base.specs.declared.command.Mode.{Mode}
use Rattle.neph_base.specs.declared.memory.NoMemory.{NoMemory}
use Rattle.neph_base.specs.declared.reply.Reply.{Reply}
use Rattle.neph_base.specs.declared.reply.Refusal.{Refusal}
use Rattle.neph_model.specs.declared.own.Own.{Own}
use Rattle.neph_model.specs.declared.told.Told.{Told}
use Rattle.neph_model.specs.declared.told.Told.TheVariants.{Short}
use Rattle.neph_model.specs.Own.{LocalResult, is_bad_pfn, has_leaf}

-- a local command did what its row says, or was refused or left to the hypervisor and changed
-- nothing
abbrev pub RowDone : Own → Own → Option (Result Reply Refusal) → LocalResult → Type 0
RowDone old new (Some (Ok reply)) row = row ≡ Some (Ok (new, reply))
RowDone old new (Some (Err why)) row = (row ≡ Some (Err why)) × (new ≡ old)
RowDone old new None row = (row ≡ None) × (new ≡ old)

-- A `map` that takes memory: its page may be mapped so, and its virtual page maps to nothing or has
-- no leaf table. Where no frame is left for that table the hypervisor is asked instead.
pub record MapTakes (o : Own) (told : Told) (vpn pfn : ℕ) (mode : Mode) : Type 0 where
  pub page : is_bad_pfn o pfn mode ≡ false
  pub entry : has_leaf o vpn ≡ true → map.get o.vmap vpn ≡ None
  pub leaf : has_leaf o vpn ≡ false → told ≢ Short

-- a row did what it says, unless memory ran out for what takes it, which changed nothing
abbrev pub RowDoneOrLacks : Type 0 → Own → Own → Result (Option (Result Reply Refusal)) NoMemory
    → LocalResult → Type 0
RowDoneOrLacks takes old new (Ok did) row = RowDone old new did row
RowDoneOrLacks takes old new (Err e) row = takes × (new ≡ old)

-- of these commands only such a `map` takes memory
abbrev pub LocalTakes : Own → Told → Command → Type 0
LocalTakes o told (Map vpn pfn mode) = MapTakes o told vpn pfn mode
LocalTakes o told _ = ⊥

-- an own half in place did a command by itself, or left it to the hypervisor, or lacked memory for
-- a `map`
abbrev pub LocalDone : Command → Told → Own → Own → Result (Option Reply) NoMemory
    → Option (Own × Reply) → Type 0
LocalDone c told old new (Ok (Some reply)) step = step ≡ Some (new, reply)
LocalDone c told old new (Ok None) step = (step ≡ None) × (new ≡ old)
LocalDone c told old new (Err e) step = LocalTakes old told c × (new ≡ old)

-- the same of what a settled row left
abbrev pub Settled : Own → Own → Option Reply → Option (Own × Reply) → Type 0
Settled old new (Some reply) step = step ≡ Some (new, reply)
Settled old new None step = (step ≡ None) × (new ≡ old)
