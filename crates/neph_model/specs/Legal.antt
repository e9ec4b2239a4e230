-- Which history is legal, and what a journal of the hypervisor is by itself.
use Rattle.std.specs.Prelude.{ℕ, ◌≡◌, true, List, [], ◌∷◌, Option, None, Some, ⊤}
use Rattle.neph_base.specs.declared.reply.Noted.{Noted}
use Rattle.neph_base.specs.declared.reply.Reply.{Reply}
use Rattle.neph_base.specs.declared.reply.Reply.TheVariants.{Number, Refused}
use Rattle.neph_base.specs.declared.reply.Refusal.TheVariants.{NoFrame, Frames}
use Rattle.neph_model.specs.declared.script.Script.{Script}
use Rattle.neph_model.specs.declared.told.Told.{Told}
use Rattle.neph_model.specs.declared.told.Told.TheVariants.{Enough, Short, Free}
use Rattle.neph_model.specs.Machine.{Own, Shared, Machine, own_at, program_run}
use Rattle.neph_model.specs.Lent.{Lent, PageBack}
use Rattle.neph_model.specs.Counting.{CountsWell, lacks_well, entry_command}
use Rattle.neph_model.specs.Step.{actor, own_step, lends, shared_step, step, may_stand, is_next}

-- what an entry was told of the free frames, read off its reply
abbrev pub told_of : Reply → Told
told_of (Number free) = Free free
told_of (Refused NoFrame) = Short
told_of (Refused (Frames need free)) = Free free
told_of _ = Enough

-- What its actor does of an entry by itself, on this machine and by what it was told.
abbrev pub own_part : Script → Machine → Noted → Option (Own × Reply)
own_part s m x = own_step s (program_run (actor x.entry) m.shared.lives)
    (own_at (actor x.entry) m.own) x.entry (told_of x.reply)

-- An entry under the lock counts frames that are possible, and says that none is left only where
-- one may lack. A local entry counts none.
abbrev pub CountsFrames : Script → ℕ → Shared → Own → Noted → Option (Own × Reply) → Type 0
CountsFrames s p sh o x (Some did) = ⊤
CountsFrames s p sh o x None = CountsWell s sh (entry_command s p x.entry) x.reply
    × (lacks_well o (entry_command s p x.entry) x.reply ≡ true)

-- This entry with its reply stands rightly here: it may stand, it is the next one of its actor, the
-- step is answered so, and the frames that it counts are possible.
pub record IsLegalNext (s : Script) (m : Machine) (x : Noted) : Type 0 where
  pub stands : may_stand s m.shared x.entry ≡ true
  pub next : is_next (own_at (actor x.entry) m.own) x.entry ≡ true
  pub reply : (step s m x.entry (told_of x.reply)).reply ≡ x.reply
  pub frames : CountsFrames s (program_run (actor x.entry) m.shared.lives) m.shared
      (own_at (actor x.entry) m.own) x (own_part s m x)

-- Some entries with their replies are a legal history from one machine to another.
abbrev pub Legal : Script → Machine → List Noted → Machine → Type 0
Legal s m [] last = m ≡ last
Legal s m (x ∷ xs) last = IsLegalNext s m x
    × Legal s (step s m x.entry (told_of x.reply)).machine xs last

-- an entry under the lock, with what was lent to it and what it gave back
pub record Act : Type 0 where
  pub noted : Noted
  pub lent : Lent
  pub back : Option PageBack

-- This act stands rightly here on the shared half: it may stand, it is answered so by what was lent
-- to it, it gave that back, and the frames that it counts are possible.
pub record IsReplayedNext (s : Script) (sh : Shared) (a : Act) : Type 0 where
  pub stands : may_stand s sh a.noted.entry ≡ true
  pub reply : (shared_step s sh a.noted.entry a.lent (told_of a.noted.reply)).reply ≡ a.noted.reply
  pub back : (shared_step s sh a.noted.entry a.lent (told_of a.noted.reply)).back ≡ a.back
  pub frames : CountsWell s sh (entry_command s (program_run (actor a.noted.entry) sh.lives)
      a.noted.entry) a.noted.reply

-- a journal takes one shared half to another
abbrev pub Replays : Script → Shared → List Act → Shared → Type 0
Replays s sh [] last = sh ≡ last
Replays s sh (a ∷ acts) last =
    IsReplayedNext s sh a × Replays s
    (shared_step s sh a.noted.entry a.lent (told_of a.noted.reply)).shared acts last

-- the act of an entry of this machine, where it is one under the lock, before the others
abbrev pub with_act : Script → Machine → Noted → Option (Own × Reply) → List Act → List Act
with_act s m x (Some did) rest = rest
with_act s m x None rest =
    let l = lends s (program_run (actor x.entry) m.shared.lives)
    (own_at (actor x.entry) m.own) x.entry in
    record { noted = x; lent = l; back = (shared_step s m.shared x.entry l (told_of x.reply)).back }
    ∷ rest

-- the journal of a history from a machine on: its entries under the lock
abbrev pub journal : Script → Machine → List Noted → List Act
journal s m [] = []
journal s m (x ∷ xs) = with_act s m x (own_part s m x)
    (journal s (step s m x.entry (told_of x.reply)).machine xs)
