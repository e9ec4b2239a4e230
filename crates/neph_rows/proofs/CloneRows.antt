-- The row of `clone`, refused or begun.
use Rattle.std.proofs.Common.{◌≡◌, ℕ, List, Option, Some, None, ap, ◌∙◌}
use Rattle.neph_base.specs.declared.command.Command.TheVariants.{Clone}
use Rattle.neph_base.specs.declared.reply.Refusal.{Refusal}
use Rattle.neph_base.specs.declared.reply.Reply.TheVariants.{Begun, Refused}
use Rattle.neph_model.specs.declared.told.Told.{Told}
use Rattle.neph_model.specs.Lent.{Lent}
use Rattle.neph_model.specs.Machine.{Exposed, exposed_at, guest_at}
use Rattle.neph_model.specs.Step.{Locked, call_effect, locked, shared_line}
use Rattle.neph_model.specs.Trap.{need, begin_clone, clone_call}
use Rattle.neph_rows.specs.Records.{Records, shared_of}
use Rattle.neph_rows.specs.Row.{refusal_of}

-- a clone that is refused changes nothing
pub clone_refused : (r : Records) (pages : List Exposed) (id : ℕ) (l : Lent) (told : Told) (why : Refusal) → refusal_of r id (need (exposed_at id pages) l.leaves) told ≡ Some why → shared_line (shared_of r pages) id l told Clone ≡ locked (shared_of r pages) (Refused why)
clone_refused r pages id l told why e =
    let sh = shared_of r pages in
    ap (λ (o : Option Refusal). call_effect sh (clone_call sh id (guest_at id r.tables) o)) e

-- one that isn't begins, with the next id
pub clone_begun : (r new : Records) (pages : List Exposed) (id child : ℕ) (l : Lent) (told : Told) → refusal_of r id (need (exposed_at id pages) l.leaves) told ≡ None
    → new.lives ≡ r.lives → new.tables ≡ begin_clone r.tables id (guest_at id r.tables) → child ≡ r.tables.next → shared_line (shared_of r pages) id l told Clone ≡ locked (shared_of new pages) (Begun child)
clone_begun r new pages id child l told e lives tables is =
    let sh = shared_of r pages in
    let began : Locked = locked (record sh { tables = begin_clone r.tables id (guest_at id r.tables) }) (Begun r.tables.next) in
    let first : shared_line sh id l told Clone ≡ began = ap (λ (o : Option Refusal). call_effect sh (clone_call sh id (guest_at id r.tables) o)) e in
    first ∙ cc
