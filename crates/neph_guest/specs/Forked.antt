-- What the commit of a guest's clone comes to, whatever hypervisor it enters.
use Rattle.std.specs.Prelude.{◌≡◌, ◌+◌, ℕ, Bool, true, false, Result, Ok, Err}
use Rattle.neph_base.specs.declared.reply.Reply.{Reply}
use Rattle.neph_pool.specs.World.{World}
use Rattle.neph_memory.specs.declared.dom_local.DomLocal.{DomLocal}
use Rattle.neph_local.specs.declared.forking.Fork.{Fork}
use Rattle.neph_local.specs.Copies.{IsSameFork}
use Rattle.neph_local.specs.Forks.{IsForkInHand}
use Rattle.neph_hyper.specs.Guests.{IsCommitted}
use Rattle.neph_guest.specs.declared.live.Guest.{Guest}
use Rattle.neph_guest.specs.declared.live.Live.{Live}
use Rattle.neph_guest.specs.declared.live.Stage.TheVariants.{Ready}

-- the guest of a domain behind a commit at this line: of the parent, or of the child, which came
-- by it
abbrev pub guest_behind : ℕ → ℕ → Bool → Guest
guest_behind dom line came = record {
  dom = dom;
  line = line + 1;
  came = came;
  failed = false;
  stage = Ready;
}

-- from the guest l in the pool p to the guest m in the pool q, of whose clone this fork was in hand
module _ {Pool Seat : Type 0} (W : World Pool Seat) (p : Pool) (l : Live Pool Seat)
    (fork : Fork Pool Seat) (q : Pool) (m : Live Pool Seat) where
  -- the fork has become the child c, which is live, with this reply, and both have gone on
  pub record HasBorne (c : Live Pool Seat) (r : Reply) : Type 0 where
    pub born : IsCommitted W p l.local fork q c.local r
    pub child : c.guest ≡ guest_behind fork.child l.guest.line true
    pub parent : m.guest ≡ guest_behind l.guest.dom l.guest.line false

  -- the fork was given back, and the guest is as it was
  pub record HasKept (back : Fork Pool Seat) : Type 0 where
    pub hand : IsForkInHand W q m.local back
    pub same : IsSameFork W fork back
    pub guest : m.guest ≡ l.guest

-- what the hypervisor answered, of which the guest's commit made this
abbrev pub answer_of : {Pool Seat : Type 0} → Result (Live Pool Seat × Reply) (Fork Pool Seat)
    → Result (DomLocal Pool Seat × Reply) (Fork Pool Seat)
answer_of (Ok made) = Ok (made.0.local, made.1)
answer_of (Err back) = Err back
