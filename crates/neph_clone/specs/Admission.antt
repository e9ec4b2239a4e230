-- Whether a clone may begin.
use Rattle.std.specs.Prelude.{ℕ, ◌+◌, ◌==◌, nat_lt, nat_le, if◌then◌else◌}
use Rattle.std.specs.Prelude.{Option, None, Some, Result, Ok, Err}
use Rattle.neph_base.specs.declared.sizes.TheConstants.{IDS}
use Rattle.neph_base.specs.declared.reply.Refusal.{Refusal}
use Rattle.neph_base.specs.declared.reply.Refusal.TheVariants.{Limit, Ids, Frames}
use Rattle.neph_base.specs.declared.reply.Refusal.TheVariants.{PolicyNet, PolicyP9}
use Rattle.neph_clone.specs.declared.admission.CloneFacts.{CloneFacts}

-- the frames that a clone needs: for the root table, the leaf tables, the identity page and the
-- exposed pages
abbrev pub clone_need : CloneFacts → ℕ
clone_need f = 1 + f.leaves + 1 + f.exposed

-- too few frames are free
abbrev pub lacks_frames : ℕ → ℕ → Option Refusal
lacks_frames n free = if nat_lt free n then Some (Frames n free) else None

-- Why a clone is refused, if it is: the domain has begun as many as its limit, every id was given,
-- its network page is its own, its 9P page holds an unanswered request, or too few frames are free.
abbrev pub clone_refusal : CloneFacts → Option Refusal
clone_refusal f =
    if f.accepted == f.limit then Some Limit
    else (if nat_le IDS f.next then Some Ids
    else (if f.exclusive then Some PolicyNet
    else (if f.asked then Some PolicyP9
    else lacks_frames (clone_need f) f.free)))

-- the child's id, or why the clone is refused
abbrev pub admission : CloneFacts → Result ℕ Refusal
admission f = by (clone_refusal f) where
  by : Option Refusal → Result ℕ Refusal
  by None = Ok f.next
  by (Some why) = Err why
