-- One step of the plain machine: a local line on the own half of its domain, and every other entry
-- on the shared half.
use Rattle.std.specs.Prelude.{ℕ, Bool, true, false, ◌==◌, ◌||◌, ◌&&◌, not, List, [], ◌∷◌, Option, None, Some, Ok, Err, slice_set, if◌then◌else◌}
use Rattle.std.specs.List.{list_any}
use Rattle.neph_base.specs.declared.command.Command.{Command}
use Rattle.neph_base.specs.declared.command.Command.TheVariants as command
use Rattle.neph_base.specs.declared.reply.Entry.{Entry}
use Rattle.neph_base.specs.declared.reply.Entry.TheVariants.{Line, Commit, Daemon}
use Rattle.neph_base.specs.declared.reply.Reply.{Reply}
use Rattle.neph_base.specs.declared.reply.Reply.TheVariants as reply
use Rattle.neph_model.specs.declared.script.Script.{Script}
use Rattle.neph_model.specs.declared.told.Told.{Told}
use Rattle.neph_model.specs.Programs.{command_at}
use Rattle.neph_model.specs.Machine.{Own, Cloned, Shared, Machine, own_at, is_live, guest_at, put_own, program_run}
use Rattle.neph_model.specs.Own.{local_step}
use Rattle.neph_model.specs.Lent.{Lent, PageBack, lent, lent_whole, nothing_lent, own_behind}
use Rattle.neph_model.specs.Trap.{CallResult, trap, is_blocked}
use Rattle.neph_model.specs.Births.{child_own, parent_own, commit, end_domain, join}

-- what an entry under the lock does: the shared half behind it, its reply, and a page that it gives
-- back
pub record Locked : Type 0 where
  pub shared : Shared
  pub reply : Reply
  pub back : Option PageBack

-- this shared half and reply, and nothing given back
abbrev pub locked : Shared → Reply → Locked
locked sh reply = record { shared = sh; reply = reply; back = None }

-- a call, which changes nothing where it is refused
abbrev pub call_effect : Shared → CallResult → Locked
call_effect sh (Ok did) = record {
  shared = record sh { tables = did.tables; pages = did.pages };
  reply = did.reply;
  back = did.back;
}
call_effect sh (Err why) = locked sh (reply.Refused why)

-- a line of a domain under the lock: its end, or a call
abbrev pub shared_line : Shared → ℕ → Lent → Told → Command → Locked
shared_line sh id l told command.Exit = locked (end_domain sh id) reply.Ended
shared_line sh id l told c = call_effect sh (trap sh id (guest_at id sh.tables) l told c)

-- the commit of the first of the children whose clones a domain has begun
abbrev pub shared_commit : Shared → ℕ → List ℕ → Locked
shared_commit sh id [] = locked sh reply.Done
shared_commit sh id (child ∷ left) = locked (commit sh id child left) (reply.Child child)

-- the second stage of the oldest of these clones
abbrev pub shared_join : Shared → List Cloned → Locked
shared_join sh [] = locked sh reply.Done
shared_join sh (w ∷ rest) = locked (join sh rest) (reply.Child w.child)

-- an entry under the lock, on the shared half and what is lent to it
abbrev pub shared_step : Script → Shared → Entry → Lent → Told → Locked
shared_step s sh (Line dom line) l told =
    shared_line sh dom l told (command_at s (program_run dom sh.lives) line)
shared_step s sh (Commit dom line) l told = shared_commit sh dom (guest_at dom sh.tables).begun
shared_step s sh Daemon l told = shared_join sh sh.tables.waiting

-- whose entry it is, 0 for the daemon
abbrev pub actor : Entry → ℕ
actor (Line dom line) = dom
actor (Commit dom line) = dom
actor Daemon = 0

-- what the own half of its actor, which runs the program with this number, does of an entry by
-- itself: None where it is one under the lock
abbrev pub own_step : Script → ℕ → Own → Entry → Told → Option (Own × Reply)
own_step s p o (Line dom line) told = local_step s p o told (command_at s p line)
own_step s p o _ told = None

-- what the own half of its actor lends to an entry under the lock
abbrev pub lends : Script → ℕ → Own → Entry → Lent
lends s p o (Line dom line) = lent o (command_at s p line)
lends s p o (Commit dom line) = lent_whole o
lends s p o Daemon = nothing_lent

-- the own half of its actor behind an entry under the lock that was answered so, and gave this back
abbrev pub own_after : Script → ℕ → Own → Entry → Reply → Option PageBack → Own
own_after s p o (Line dom line) reply back = own_behind o (command_at s p line) reply back
own_after s p o (Commit dom line) reply back = parent_own o
own_after s p o Daemon reply back = o

-- the child that an entry with this reply makes
abbrev pub child_made : Entry → Reply → Option ℕ
child_made (Commit dom line) (reply.Child child) = Some child
child_made _ _ = None

-- the own halves with that of a child, if any, of a domain with this id and own half
abbrev pub bear : List Own → ℕ → Own → Option ℕ → List Own
bear own id o None = own
bear own id o (Some child) = slice_set own child (child_own child id o)

-- what the machine is after an entry, and what the entry was answered
pub record Outcome : Type 0 where
  pub machine : Machine
  pub reply : Reply

-- an entry under the lock: the shared half does it with what is lent to it, and the own halves
-- follow
abbrev pub locked_step : Script → Machine → Entry → Told → Outcome
locked_step s m e told =
    let id = actor e in
    let p = program_run id m.shared.lives in
    let o = own_at id m.own in
    let did = shared_step s m.shared e (lends s p o e) told in
    record {
      machine = record {
        own = slice_set (bear m.own id o (child_made e did.reply)) id
            (own_after s p o e did.reply did.back);
        shared = did.shared;
      };
      reply = did.reply;
    }

-- an entry, of which its actor does this by itself
abbrev pub step_by : Script → Machine → Entry → Told → Option (Own × Reply) → Outcome
step_by s m e told (Some did) = record { machine = put_own (actor e) did.0 m; reply = did.1 }
step_by s m e told None = locked_step s m e told

-- an entry
abbrev pub step : Script → Machine → Entry → Told → Outcome
step s m e told = step_by s m e told
    (own_step s (program_run (actor e) m.shared.lives) (own_at (actor e) m.own) e told)

-- a clone waits for its second stage, of which this is the parent or the child
abbrev pub awaits_join : ℕ → List Cloned → Bool
awaits_join id waiting = list_any (λ (w : Cloned). w.parent == id || w.child == id) waiting

-- there is something in a list
abbrev pub is_some_left : {X : Type 0} → List X → Bool
is_some_left [] = false
is_some_left (x ∷ xs) = true

-- A clone's parent is paused from its begin to its second stage, its child from the commit on.
abbrev pub is_paused : ℕ → Shared → Bool
is_paused id sh = is_some_left (guest_at id sh.tables).begun || awaits_join id sh.tables.waiting

-- by the shared half the entry may stand here: who does it is live and not paused, and can do it
abbrev pub may_stand : Script → Shared → Entry → Bool
may_stand s sh (Line dom line) =
    is_live dom sh.lives && (not (is_paused dom sh)
    && not (is_blocked sh dom (command_at s (program_run dom sh.lives) line)))
may_stand s sh (Commit dom line) =
    is_live dom sh.lives && is_some_left (guest_at dom sh.tables).begun
may_stand s sh Daemon = is_some_left sh.tables.waiting

-- by the own half of its actor it may: the domain is at that line
abbrev pub is_next : Own → Entry → Bool
is_next o (Line dom line) = o.line == line
is_next o (Commit dom line) = o.line == line
is_next o Daemon = true

-- the entry is the next one of its actor, and may stand here
abbrev pub is_due : Script → Machine → Entry → Bool
is_due s m e = may_stand s m.shared e && is_next (own_at (actor e) m.own) e

-- an entry, where it is due
abbrev pub entry_step : Script → Machine → Entry → Told → Option Outcome
entry_step s m e told = if is_due s m e then Some (step s m e told) else None
