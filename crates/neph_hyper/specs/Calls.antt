-- How the calls of a hypervisor are read.
use Rattle.std.specs.Prelude.{ℕ, Bool, Option, Result}
use Rattle.neph_base.specs.declared.command.Command.{Command}
use Rattle.neph_base.specs.declared.memory.NoMemory.{NoMemory}
use Rattle.neph_base.specs.declared.reply.Reply.{Reply}
use Rattle.neph_memory.specs.declared.dom_local.DomLocal.{DomLocal}
use Rattle.neph_local.specs.declared.forking.Fork.{Fork}

-- In what state of pool, hypervisor and a domain's memory a call may be made, and to what state of
-- the three it leads.
pub record Calls (Pool Seat H : Type 0) : Type 1 where
  -- it tells so whether it pauses the domain of this id
  pub Pauses : H → ℕ → Bool → Type 0
  -- it serves the domain with this memory
  pub Serves : Pool → H → DomLocal Pool Seat → Type 0
  -- the domain with this memory may commit this fork
  pub MayCommit : Pool → H → DomLocal Pool Seat → Fork Pool Seat → Type 0
  -- a trap of this command, which began a clone with this fork, if any, and was answered so
  pub Trapped : Pool → H → DomLocal Pool Seat → Command → Pool → H → DomLocal Pool Seat
      → Option (Fork Pool Seat) → Result Reply NoMemory → Type 0
  -- an entry of this reference was taken away from the domain's grants, or the call refused, with
  -- this reply
  pub Ungranted : Pool → H → DomLocal Pool Seat → ℕ → Pool → H → DomLocal Pool Seat → Reply → Type 0
  -- a frame was asked for, and given or not
  pub Spared : Pool → H → DomLocal Pool Seat → Pool → H → DomLocal Pool Seat → Bool → Type 0
  -- a commit of this fork, which gave the child with a reply, or the fork back
  pub Committed : Pool → H → DomLocal Pool Seat → Fork Pool Seat → Pool → H → DomLocal Pool Seat
      → Result (DomLocal Pool Seat × Reply) (Fork Pool Seat) → Type 0
  -- the end of a domain
  pub Ended : Pool → H → DomLocal Pool Seat → Pool → H → Type 0
