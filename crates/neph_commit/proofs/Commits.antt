-- What a call for a commit did is the turn of the domain.
use Rattle.std.proofs.Common.{◌≡◌, ◌≢◌, ℕ, ◌+◌, true, false, [], ◌∷◌, set, refl, sym, ap, subst, ◌∙◌, arith}
use Rattle.std.specs.Prelude.{◌^◌, ◌-◌, min}
use Rattle.std.proofs.lemmas.List.{get_or-set_other}
use Rattle.neph_base.specs.declared.reply.Actor.TheVariants.{Dom}
use Rattle.neph_base.specs.declared.reply.Entry.TheVariants.{Commit}
use Rattle.neph_base.specs.declared.reply.Reply.{Reply}
use Rattle.neph_base.specs.declared.reply.Reply.TheVariants.{Child}
use Rattle.neph_model.specs.Machine.{guest_at}
use Rattle.neph_model.specs.Births.{commit}
use Rattle.neph_model.specs.Step.{Locked, locked, shared_commit}
use Rattle.neph_model.specs.Books.{State}
use Rattle.neph_model.specs.Turns.{Done, turn}
use Rattle.neph_runs.proofs.Births.{born}
use Rattle.neph_pool.specs.Names.{both_names}
use Rattle.neph_pool.specs.World.{World, Spares}
use Rattle.neph_memory.specs.declared.dom_local.DomLocal.{DomLocal}
use Rattle.neph_memory.specs.Domains.{IsStanding, IsUnchanged}
use Rattle.neph_local.specs.Copies.{IsChildOf}
use Rattle.neph_local.specs.Forks.{Forks, NoPageLeft}
use Rattle.neph_guest.specs.declared.live.Live.{Live}
use Rattle.neph_heap.specs.Lists.{Lists, exposed_of, aside_of}
use Rattle.neph_heap.specs.Heap.{IsHeap, IsBorn}
use Rattle.neph_hv.specs.Hv.{shared_in}
use Rattle.neph_machine.specs.declared.place.Place.TheVariants.{Flight as InFlight, Domain}
use Rattle.neph_machine.specs.declared.place.Flight.{Flight}
use Rattle.neph_machine.specs.declared.machine.Machine.{Machine}
use Rattle.neph_machine.specs.declared.turn.Turn.TheVariants.{Noted as Entered}
use Rattle.neph_machine.specs.Surveyed.{IsSurveyed}
use Rattle.neph_machine.specs.StandsFor.{StandsFor}
use Rattle.neph_machine.specs.Turned.{Took}
use Rattle.neph_machine.proofs.Reached.{IsReached}
use Rattle.neph_machine.proofs.Paired.{IsPair, domain, flight, begun, forks}
use Rattle.neph_machine.proofs.Pairs.{PairMoved, one_begun, pair_stands}
use Rattle.neph_commit.proofs.Moved.{moved}
use Rattle.neph_commit.proofs.Forked.{begun_there, none_left}
use Rattle.neph_commit.proofs.Bearing.{turn_committed}
use Rattle.neph_commit.proofs.Born.{HasCommitted, live_then, parts, shared_now, child_stands, parent_stands}
use Rattle.neph_commit.proofs.Colours.{colours_stand}

-- the call was answered so, and parent and child were put into their places
pub record WasCommitted {Pool Seat : Type 0} (W : World Pool Seat) (old new : Machine Pool Seat)
    (id child : ℕ) (l : Live Pool Seat) (f : Flight Pool Seat) (d c : DomLocal Pool Seat)
    (reply : Reply) : Type 0 where
  pub places : new.places.items
      ≡ set (set old.places.items id (Domain (live_then id l.guest.line false d))) child
      (Domain (live_then child l.guest.line true c))
  pub script : new.script ≡ old.script
  pub hv : IsHeap W new.pool new.hv.heap.seat new.hv.heap.stock []
  pub stands : IsStanding W new.pool d
  pub same : IsUnchanged W old.pool l.local new.pool d
  pub row : shared_commit (shared_in W old.pool old.hv) l.local.id
      (guest_at l.local.id old.hv.registry.tables).begun
      ≡ locked (shared_in W new.pool new.hv) reply
  pub grown : IsStanding W new.pool c
  pub born : IsChildOf W old.pool l.local new.pool c
  pub id_is : c.id ≡ f.fork.child
  pub still : Forks W new.pool d.seat c.seat c.id d.own.map.pages f.fork.next f.fork.frames.items
  pub pages : IsBorn old.hv.heap.stock new.hv.heap.stock f.fork.child
  pub names : W.names new.hv.heap.seat ≡ W.names old.hv.heap.seat
  pub others : Spares W
      (both_names (W.names old.hv.heap.seat)
      (both_names (W.names l.local.seat) (W.names f.fork.seat))) old.pool new.pool
  pub shares : W.shares new.pool ≡ W.shares old.pool

-- the lists of all ids but the child's are as they were
born_exposed : (l m : Lists) (child : ℕ) → IsBorn l m child → (j : ℕ) → j ≢ child
    → exposed_of j m ≡ exposed_of j l
born_exposed l m child b j off = ap (exposed_of j) b.rest
    ∙ get_or-set_other l.exposed child j (exposed_of child m) [] off

born_aside : (l m : Lists) (child : ℕ) → IsBorn l m child → (j : ℕ) → j ≢ child
    → aside_of j m ≡ aside_of j l
born_aside l m child b j off = ap (aside_of j) b.rest ∙ get_or-set_other l.aside child j [] [] off

module _ {Pool Seat : Type 0} (W : World Pool Seat) (old : Machine Pool Seat) (st : State)
    (reached : IsReached old.script st) (stands : StandsFor W old st) (id child : ℕ)
    (l : Live Pool Seat) (f : Flight Pool Seat)
    (both : IsPair old id child l f) (new : Machine Pool Seat) (d c : DomLocal Pool Seat)
    (reply : Reply) (was : WasCommitted W old new id child l f d c reply) where
  -- what the call did to the tables, and its answer
  row_is : locked (commit (shared_in W old.pool old.hv) id child []) (Child child)
      ≡ locked (shared_in W new.pool new.hv) reply
  row_is =
      sym (ap (λ (i : ℕ). shared_commit (shared_in W old.pool old.hv) i
      (guest_at i old.hv.registry.tables).begun)
      (domain W old st reached stands id child l f both).id_is
      ∙ ap (shared_commit (shared_in W old.pool old.hv) id)
      (begun_there W old st reached stands id child l f both)) ∙ was.row

  child_is : f.fork.child ≡ child
  child_is = (flight W old st reached stands id child l f both).child

  pages : IsBorn old.hv.heap.stock new.hv.heap.stock child
  pages = subst (IsBorn old.hv.heap.stock new.hv.heap.stock) child_is was.pages

  pair : PairMoved W old new id child l (InFlight f) (Domain (live_then id l.guest.line false d))
      (Domain (live_then child l.guest.line true c))
  pair = moved W old st reached stands id child l f both new
      (Domain (live_then id l.guest.line false d)) (Domain (live_then child l.guest.line true c))
      refl refl was.places was.script
      (born_exposed old.hv.heap.stock new.hv.heap.stock child pages)
      (born_aside old.hv.heap.stock new.hv.heap.stock child pages) was.names was.others was.hv

  did : HasCommitted W old new id child l f d c
  did = record {
    pair = pair;
    stands = was.stands;
    same = was.same;
    grown = was.grown;
    born = was.born;
    id_is = was.id_is ∙ child_is;
    still = was.still;
    pages = pages;
    row = ap (λ (k : Locked). k.shared) row_is;
  }

  -- the commit is the turn of the domain
  pub commit_took : IsSurveyed W
      → NoPageLeft l.local.own.map.pages f.fork.next → Took W old new (turn old.script st (Dom id))
      (Entered (record { entry = Commit id l.guest.line; reply = reply }))
  commit_took survey none =
      let begun = begun W old st reached stands id child l f both in
      let is = domain W old st reached stands id child l f both in
      let hand = (forks W old st reached stands id child l f both).3 in
      let changed = parts W old new id child l f d c both did st reached stands in
      subst (λ (e : Done). Took W old new e
      (Entered (record { entry = Commit id l.guest.line; reply = reply })))
      (sym (turn_committed old.script st id child is.live
      (none_left W old st reached stands id child l f both none) begun))
      (record {
        stands = pair_stands W old new id child l (InFlight f) (Domain (live_then id l.guest.line false d))
            (Domain (live_then child l.guest.line true c)) pair st (born old.script st id child)
            stands (λ j h. one_begun _ j child h begun) changed.others
            (shared_now W old new id child l f d c both did st reached stands)
            (parent_stands W old new id child l f d c both did st reached stands hand)
            (child_stands W old new id child l f d c both did st reached stands)
            (colours_stand W old new id child l f d c both did st reached stands survey);
        script = was.script;
        moved = refl;
        entry = (ap (λ (r : Reply). record { entry = Commit id l.guest.line; reply = r } ∷ [])
            (sym (ap (λ (k : Locked). k.reply) row_is)))
            ∙ ap (λ (line : ℕ). record { entry = Commit id line; reply = Child child } ∷ [])
            (sym is.own.line);
        shares = let e : W.shares new.pool ≡ W.shares old.pool + 0 = omega (arith, was.shares) in
            ap (λ (n : ℕ). min n (2 ^ 64 - 1)) e;
      })
