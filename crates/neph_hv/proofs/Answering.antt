-- The answers of the hypervisor, as its guests see them.
use Rattle.std.proofs.Common.{◌≡◌, ℕ, Option, Some, None, Result, Ok, Err, IfOk, OnErr, length, refl, sym, ap, subst, ◌∙◌}
use Rattle.neph_base.specs.declared.command.Command.{Command}
use Rattle.neph_base.specs.declared.command.Command.TheVariants as command
use Rattle.neph_base.specs.declared.memory.NoMemory.{NoMemory}
use Rattle.neph_base.specs.declared.reply.Reply.{Reply}
use Rattle.neph_base.specs.declared.reply.Reply.TheVariants as reply
use Rattle.neph_base.specs.declared.reply.Refusal.{Refusal}
use Rattle.neph_model.specs.declared.told.Told.TheVariants.{Free}
use Rattle.neph_model.specs.Machine.{guest_at}
use Rattle.neph_model.specs.Step.{locked, shared_line, shared_commit}
use Rattle.neph_pool.specs.World.{World}
use Rattle.neph_memory.specs.declared.dom_local.DomLocal.{DomLocal}
use Rattle.neph_memory.specs.Domains.{IsStanding}
use Rattle.neph_local.specs.declared.forking.Fork.{Fork}
use Rattle.neph_local.specs.Copies.{IsChildOf}
use Rattle.neph_local.proofs.Tallying.{leaves_counted}
use Rattle.neph_hyper.specs.Guests.{IsAnswered, IsCommitted}
use Rattle.neph_rows.specs.Records.{without_shares}
use Rattle.neph_hv.specs.declared.hv.Hv.{Hv}
use Rattle.neph_hv.specs.Hv.{IsCall, lent_leaves, shared_in}
use Rattle.neph_hv.specs.Begins.{IsCloneRow, IsRefused}
use Rattle.neph_hv.specs.Serving.{told_in}
use Rattle.neph_hv.specs.Calls.{IsTrapRow, HasDone, HasTrapped}

module _ {Pool Seat : Type 0} (W : World Pool Seat) (p : Pool) (h : Hv Pool Seat) (d : DomLocal Pool Seat) (q : Pool) (k : Hv Pool Seat) (e : DomLocal Pool Seat) where
  -- the row of a clone, which is lent how many leaf tables there are
  pub clone_row : (r : Reply) → IsCloneRow W p h d q k e r → IsTrapRow W p h q k d e command.Clone r
  clone_row r row o mem = ap (λ (n : ℕ). shared_line (shared_in W p h) d.id (lent_leaves n) (Free (length h.heap.stock.free)) command.Clone) (leaves_counted W p d o.pages o.vmap o.leaves mem) ∙ row

  -- a clone that is refused
  pub refused_done : (why : Refusal) → IsRefused W p h d q k e why → IsCall W p h q k (W.names d.seat) → HasDone W p h q k d e command.Clone (reply.Refused why)
  refused_done why r call = record {
    call = call;
    row = clone_row (reply.Refused why) r.row;
    kept = record {
      registry = ap (λ (v : Hv Pool Seat). without_shares v.registry) r.same;
      stock = ap (λ (v : Hv Pool Seat). v.heap.stock) r.same;
      names = ap (λ (v : Hv Pool Seat). W.names v.heap.seat) r.same;
    };
  }

  -- what was done, as the guest sees it
  pub done_answered : (c : Command) (r : Reply) → HasDone W p h q k d e c r → IsAnswered W p d q e c None r
  done_answered c r done = record {
    row = record { told = told_in (length h.heap.stock.free) c; old = shared_in W p h; new = shared_in W q k; row = done.row };
    hand = tt;
  }

  -- how a clone was answered, as the guest sees it
  pub clone_answered : (begun : Option (Fork Pool Seat)) (a : Result Reply NoMemory) → HasTrapped W p h q k d e command.Clone begun a → IfOk a (λ (r : Reply). IsAnswered W p d q e command.Clone begun r)
  clone_answered None (Ok r) done = done_answered command.Clone r done
  clone_answered (Some fork) (Ok r) did = record {
    row = record {
      told = Free (length h.heap.stock.free);
      old = shared_in W p h;
      new = shared_in W q k;
      row = clone_row r (subst (λ (v : Reply). IsCloneRow W p h d q k e v) (sym did.told) did.begun.row);
    };
    hand = (did.begun.in_hand, did.told);
  }
  clone_answered begun (Err lacks) did = tt

  -- a clone that found no memory has not begun
  pub lacked_none : (begun : Option (Fork Pool Seat)) (a : Result Reply NoMemory) → HasTrapped W p h q k d e command.Clone begun a → OnErr a (begun ≡ None)
  lacked_none begun (Ok r) did = tt
  lacked_none None (Err lacks) did = refl
  lacked_none (Some fork) (Err lacks) did = absurd did

  -- the child of a commit, as the guest sees it
  pub commit_answered : (fork : Fork Pool Seat) (made : Result (DomLocal Pool Seat × Reply) (Fork Pool Seat)) → IfOk made (λ m. IsStanding W q m.0) → IfOk made (λ m. IsChildOf W p d q m.0) → IfOk made (λ m. m.0.id ≡ fork.child)
      → IfOk made (λ m. shared_commit (shared_in W p h) d.id (guest_at d.id h.registry.tables).begun ≡ locked (shared_in W q k) m.1) → IfOk made (λ m. IsCommitted W p d fork q m.0 m.1)
  commit_answered fork (Ok made) stands born id row = record {
    stands = stands;
    born = born;
    id = id;
    old = shared_in W p h;
    new = shared_in W q k;
    begun = (guest_at d.id h.registry.tables).begun;
    row = row;
  }
  commit_answered fork (Err back) stands born id row = tt
