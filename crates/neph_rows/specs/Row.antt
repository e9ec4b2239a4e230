-- What the rows need of their callers.
use Rattle.std.specs.Prelude.{ℕ, ◌≡◌, true, List, Option, None, Some, Result, Ok, Err, option_map, ⊤}
use Rattle.std.specs.FinMap as fm
use Rattle.neph_base.specs.declared.command.Command.{Command}
use Rattle.neph_base.specs.declared.command.Command.TheVariants.{R, Ungrant}
use Rattle.neph_base.specs.declared.reply.Refusal.{Refusal}
use Rattle.neph_base.specs.declared.reply.Reply.TheVariants.{Done}
use Rattle.neph_grant.specs.declared.entry.GrantEntry.{GrantEntry}
use Rattle.neph_grant.specs.Table.{Grants}
use Rattle.neph_model.specs.declared.memory.Mapping.{Mapping}
use Rattle.neph_model.specs.declared.told.Told.{Told}
use Rattle.neph_model.specs.Machine.{Exposed, Shared, guest_at, life_at}
use Rattle.neph_model.specs.Lent as model
use Rattle.neph_model.specs.Trap.{CallResult, answers, gives_back, is_exposed, clone_refusal}
use Rattle.neph_rows.specs.Records.{Records}
use Rattle.neph_rows.specs.declared.lent.Lent.{Lent}

-- what is lent to a command, as the definitions have it
abbrev pub lent_of : Lent → model.Lent
lent_of l = record model.nothing_lent { met = l.met; leaves = l.leaves }

-- an address maps to an exposed page of a domain
abbrev pub MeetsExposed : List Exposed → ℕ → Option Mapping → Type 0
MeetsExposed pages id None = ⊥
MeetsExposed pages id (Some to) = is_exposed pages id to.pfn ≡ true

-- a command of a domain may be asked of the hypervisor: a read is one of an exposed page, and it
-- gives no page back
abbrev pub MayBeAsked : List Exposed → ℕ → Option Mapping → Command → Type 0
MayBeAsked pages id met (R addr len) = MeetsExposed pages id met
MayBeAsked pages id met (Ungrant r) = ⊥
MayBeAsked pages id met _ = ⊤

-- An entry of a domain was taken away, or the call refused so. This page, if any, is the domain's
-- own again, in this shared half behind.
abbrev pub ended_with : Shared → ℕ → Result (Option ℕ) Refusal → CallResult
ended_with sh id (Err why) = Err why
ended_with sh id (Ok None) = answers sh Done
ended_with sh id (Ok (Some pfn)) = gives_back sh id pfn

-- a page that is the domain's own again is the one that the entry named
abbrev pub NamedBy : Grants → ℕ → Result (Option ℕ) Refusal → Type 0
NamedBy t r (Ok (Some pfn)) = option_map (λ (e : GrantEntry). e.pfn) (fm.get t r) ≡ Some pfn
NamedBy t r _ = ⊤

-- why a clone of a domain that needs so many frames is refused, if it is
abbrev pub refusal_of : Records → ℕ → ℕ → Told → Option Refusal
refusal_of r id n told =
    clone_refusal r.tables (guest_at id r.tables) (life_at id r.lives) n told
