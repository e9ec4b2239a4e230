-- The turn of a domain whose guest has asked its line of the hypervisor.
use Rattle.std.proofs.Common.{◌≡◌, ◌≢◌, ◌⊎◌, inl, inr, ℕ, ◌+◌, length, set, Option, Some, None, Result, Ok, Err, refl, sym, ap, subst, ◌∙◌, arith}
use Rattle.std.specs.Prelude.{OnErr}
use Rattle.neph_base.specs.declared.command.Command.{Command}
use Rattle.neph_base.specs.declared.command.Command.TheVariants as command
use Rattle.neph_base.specs.declared.memory.NoMemory.{NoMemory}
use Rattle.neph_base.specs.declared.reply.Actor.TheVariants as actor
use Rattle.neph_base.specs.declared.reply.Entry.TheVariants.{Line}
use Rattle.neph_base.specs.declared.reply.Refusal.{Refusal}
use Rattle.neph_base.specs.declared.reply.Reply.{Reply}
use Rattle.neph_base.specs.declared.reply.Reply.TheVariants as reply
use Rattle.neph_model.specs.declared.own.Own.{Own}
use Rattle.neph_model.specs.declared.told.Told.{Told}
use Rattle.neph_model.specs.declared.told.Told.TheVariants.{Enough, Free}
use Rattle.neph_model.specs.Lent.{Lent, lent, own_behind}
use Rattle.neph_model.specs.Machine.{Shared, program_of, guest_at, life_at, exposed_at}
use Rattle.neph_model.specs.Own.{local_step}
use Rattle.neph_model.specs.Step.{Locked, locked, shared_line, call_effect}
use Rattle.neph_model.specs.Trap.{clone_call, clone_refusal, need}
use Rattle.neph_model.specs.WellFormed.{IsWellFormed}
use Rattle.neph_model.specs.Books.{State, free}
use Rattle.neph_model.specs.Turns.{move_turn, turn}
use Rattle.neph_runs.specs.Orderly.{seat as part_at}
use Rattle.neph_pool.specs.World.{World}
use Rattle.neph_memory.specs.declared.dom_local.DomLocal.{DomLocal}
use Rattle.neph_memory.specs.Domains.{IsStanding, IsUnchanged, domain_leaf_count}
use Rattle.neph_local.specs.declared.forking.Fork.{Fork}
use Rattle.neph_local.proofs.Tallying.{leaves_counted}
use Rattle.neph_guest.specs.declared.live.Live.{Live}
use Rattle.neph_guest.specs.declared.turned.Turned.{Turned}
use Rattle.neph_guest.specs.OwnHalf.{IsOwnHalf}
use Rattle.neph_guest.specs.Turns.{stage_behind}
use Rattle.neph_guest.specs.Turned.{HasTrapped, IsBehind, TrapDone}
use Rattle.neph_hv.specs.Hv.{lent_leaves, shared_in}
use Rattle.neph_hv.specs.Begins.{IsCloneRow}
use Rattle.neph_hv.specs.Serving.{told_in}
use Rattle.neph_hv.specs.Calls.{hv_calls, HasDone, HasBegun}
use Rattle.neph_hv.specs.Calls.{HasTrapped as Answers}
use Rattle.neph_machine.specs.declared.place.Place.TheVariants.{Domain, Flight as InFlight}
use Rattle.neph_machine.specs.declared.machine.Machine.{Machine}
use Rattle.neph_machine.specs.declared.turn.Turn.TheVariants.{Noted as Entered}
use Rattle.neph_machine.specs.Places.{place_at}
use Rattle.neph_machine.specs.Stages.{IsReadyAt}
use Rattle.neph_machine.specs.StandsFor.{StandsFor}
use Rattle.neph_machine.specs.Surveyed.{IsSurveyed}
use Rattle.neph_machine.specs.Turned.{Took, Lacked}
use Rattle.neph_machine.proofs.Reached.{IsReached}
use Rattle.neph_machine.proofs.FrameLaws.{free_is}
use Rattle.neph_lines.proofs.Lines.{told_of}
use Rattle.neph_lines.proofs.Sparing.{was, half_kept}
use Rattle.neph_lines.proofs.Copied.{kept_unchanged}
use Rattle.neph_lines.proofs.ReadyLines.{turn_is}
use Rattle.neph_lines.proofs.Asking.{asked_move, asked_told}
use Rattle.neph_lines.proofs.Called.{CallLeft, took_called}
use Rattle.neph_turns.proofs.AtClone.{ready_as}
use Rattle.neph_turns.proofs.CloneLines.{refused_same}
use Rattle.neph_turns.proofs.Refusing.{LeavesAlone, clone_refused, clone_lacked}
use Rattle.neph_turns.proofs.Beginning.{clone_begun}
use Rattle.neph_turns.proofs.TookBy.{with_flight, TookByOrLacked}

told_is : (n : ℕ) (c : Command) → c ≢ command.Clone → told_in n c ≡ told_of n c
told_is n command.Clone far = absurd (far refl)
told_is n command.Free far = refl
told_is n _ far = refl

-- a clone that is answered is refused, or has drawn the next id
clone_told : (sh left : Shared) (id : ℕ) (l : Lent) (told : Told) (r : Reply) → shared_line sh id l told command.Clone ≡ locked left r
    → ((why : Refusal) × (r ≡ reply.Refused why)) ⊎ (left.tables.next ≡ sh.tables.next + 1)
clone_told sh left id l told r e = by (clone_refusal sh.tables (guest_at id sh.tables) (life_at id sh.lives) (need (exposed_at id sh.pages) l.leaves) told) e where
  by : (o : Option Refusal) → call_effect sh (clone_call sh id (guest_at id sh.tables) o) ≡ locked left r → ((why : Refusal) × (r ≡ reply.Refused why)) ⊎ (left.tables.next ≡ sh.tables.next + 1)
  by (Some why) h = inl (why, sym (ap (λ (d : Locked). d.reply) h))
  by None h = inr (sym (ap (λ (d : Locked). d.shared.tables.next) h))

pub is_clone : (c : Command) → (c ≡ command.Clone) ⊎ (c ≢ command.Clone)
is_clone command.Clone = inl refl
is_clone (command.W addr bytes) = inr (λ e. cc)
is_clone (command.R addr len) = inr (λ e. cc)
is_clone (command.Map vpn pfn mode) = inr (λ e. cc)
is_clone (command.Unmap vpn) = inr (λ e. cc)
is_clone (command.Jump label) = inr (λ e. cc)
is_clone (command.JChild label) = inr (λ e. cc)
is_clone (command.JFail label) = inr (λ e. cc)
is_clone command.Exit = inr (λ e. cc)
is_clone command.Free = inr (λ e. cc)
is_clone (command.Ungrant r) = inr (λ e. cc)
is_clone (command.Gmap granter r) = inr (λ e. cc)
is_clone (command.Gunmap h) = inr (λ e. cc)
is_clone (command.Hr h at len) = inr (λ e. cc)
is_clone (command.Hw h at bytes) = inr (λ e. cc)

module _ {Pool Seat : Type 0} (W : World Pool Seat) (old : Machine Pool Seat) (st : State) (reached : IsReached old.script st) (stands : StandsFor W old st) (id : ℕ) (l : Live Pool Seat) (here : place_at id old.places.items ≡ Domain l) (survey : IsSurveyed W) (well : IsWellFormed old.script)
    (new : Machine Pool Seat) (script : new.script ≡ old.script) (m : Live Pool Seat) (spots : new.places.items ≡ set old.places.items id (Domain m)) where
  abbrev o : Own
  o = (part_at st id).own

  abbrev asks : Command → Type 0
  asks c = local_step old.script (program_of (part_at st id).life) (part_at st id).own Enough c ≡ None

  -- the row on the shared half of the state
  row_at : (c : Command) (sh : Shared) (r : Reply) → shared_line (shared_in W old.pool old.hv) l.local.id (lent o c) (told_in (length old.hv.heap.stock.free) c) c ≡ locked sh r
      → shared_line (shared_in W old.pool old.hv) id (lent o c) (told_in (free old.script st) c) c ≡ locked sh r
  row_at c sh r row =
      let is = was W old st reached stands id l here in
      ap (λ (i : ℕ). shared_line (shared_in W old.pool old.hv) i (lent o c) (told_in (free old.script st) c) c) (sym is.id_is)
      ∙ ap (λ (n : ℕ). shared_line (shared_in W old.pool old.hv) l.local.id (lent o c) (told_in n c) c) (sym (free_is W old st survey reached stands))
      ∙ row

  module _ (c : Command) (ready : IsReadyAt old id c) where
    -- done or refused, and no clone
    called : c ≢ command.Exit → c ≢ command.Clone → asks c → (d : DomLocal Pool Seat) (r : Reply) → HasDone W old.pool old.hv new.pool new.hv l.local d c r → CallLeft W old new l d → IsBehind W new.pool (record l { local = d }) m r
        → Took W old new (turn old.script st (actor.Dom id)) (Entered (record { entry = Line id l.guest.line; reply = r }))
    called far off alone d r did left behind =
        let is = was W old st reached stands id l here in
        let told = told_of (free old.script st) c in
        let row = row_at c (shared_in W new.pool new.hv) r (did.row o is.own.own.memory) in
        let plain : shared_line (shared_in W old.pool old.hv) id (lent o c) told c ≡ locked (shared_in W new.pool new.hv) r =
        subst (λ (v : Told). shared_line (shared_in W old.pool old.hv) id (lent o c) v c ≡ locked (shared_in W new.pool new.hv) r) (told_is (free old.script st) c off) row in
        subst (λ k. Took W old new k (Entered (record { entry = Line id l.guest.line; reply = r })))
        (sym (turn_is W old st reached stands id l here c ready ∙ ap (move_turn old.script st id) (asked_move old.script (program_of (part_at st id).life) (free old.script st) st.books o (part_at st id).book c off alone)))
        (took_called W old st reached stands id l here c ready new d left m spots behind.local far off told r
        (asked_told old.script (program_of (part_at st id).life) (free old.script st) o c alone) plain behind.half behind.stage behind.dom)

  module _ (ready : IsReadyAt old id command.Clone) where
    abbrev at : IsReadyAt old id command.Clone
    at = ready_as old id command.Clone l here ready

    -- its own half behind the call
    half_behind : (d : DomLocal Pool Seat) (r : Reply) → CallLeft W old new l d → IsBehind W new.pool (record l { local = d }) m r → IsOwnHalf W new.pool m (own_behind o command.Clone r None)
    half_behind d r left behind =
        let is = was W old st reached stands id l here in
        let kept = kept_unchanged W old.pool l.local new.pool d left.stands left.same in
        behind.half o command.Clone (λ e. cc) (half_kept W old.pool new.pool l (record l { local = d }) kept o o refl refl refl refl is.own.line is.own.came is.own.refused is.own)

    alone_left : (d : DomLocal Pool Seat) → CallLeft W old new l d → shared_in W new.pool new.hv ≡ shared_in W old.pool old.hv → LeavesAlone W old new l d
    alone_left d left shared = record {
      script = left.script;
      hv = left.hv;
      stock = left.stock;
      names = left.names;
      shared = shared;
      stands = left.stands;
      same = left.same;
      others = left.others;
      shares = left.shares;
    }

    -- a clone that was refused
    refused : (d : DomLocal Pool Seat) (r : Reply) → HasDone W old.pool old.hv new.pool new.hv l.local d command.Clone r → CallLeft W old new l d → IsBehind W new.pool (record l { local = d }) m r
        → Took W old new (turn old.script st (actor.Dom id)) (Entered (record { entry = Line id l.guest.line; reply = r }))
    refused d r did left behind =
        let is = was W old st reached stands id l here in
        let n : ℕ = domain_leaf_count W old.pool l.local in
        let lent_is : length o.leaves ≡ n = leaves_counted W old.pool l.local _ _ _ is.own.own.memory in
        let free_told : Told = Free (length old.hv.heap.stock.free) in
        let row : IsCloneRow W old.pool old.hv l.local new.pool new.hv d r =
        subst (λ (k : ℕ). shared_line (shared_in W old.pool old.hv) l.local.id (lent_leaves k) free_told command.Clone ≡ locked (shared_in W new.pool new.hv) r) lent_is (did.row o is.own.own.memory) in
        by (clone_told (shared_in W old.pool old.hv) (shared_in W new.pool new.hv) l.local.id (lent_leaves n) free_told r row) row
      where
        by : ((why : Refusal) × (r ≡ reply.Refused why)) ⊎ ((shared_in W new.pool new.hv).tables.next ≡ (shared_in W old.pool old.hv).tables.next + 1) → IsCloneRow W old.pool old.hv l.local new.pool new.hv d r
            → Took W old new (turn old.script st (actor.Dom id)) (Entered (record { entry = Line id l.guest.line; reply = r }))
        by (inr more) row = absurd (let same : new.hv.registry.tables.next ≡ old.hv.registry.tables.next = ap (λ g. g.tables.next) did.kept.registry in let far : new.hv.registry.tables.next ≡ old.hv.registry.tables.next + 1 = more in omega (arith, same, far))
        by (inl w) row =
            let why = w.0 in
            let its : IsCloneRow W old.pool old.hv l.local new.pool new.hv d (reply.Refused why) = subst (IsCloneRow W old.pool old.hv l.local new.pool new.hv d) w.1 row in
            let shared = refused_same (shared_in W old.pool old.hv) (shared_in W new.pool new.hv) l.local.id (lent_leaves (domain_leaf_count W old.pool l.local)) (Free (length old.hv.heap.stock.free)) why its in
            let half = subst (λ (v : Reply). IsOwnHalf W new.pool m (own_behind o command.Clone v None)) w.1 (half_behind d r left behind) in
            let stage = subst (λ (v : Reply). m.guest.stage ≡ stage_behind l.guest.stage v) w.1 behind.stage in
            subst (λ (v : Reply). Took W old new (turn old.script st (actor.Dom id)) (Entered (record { entry = Line id l.guest.line; reply = v }))) (sym w.1)
            (clone_refused W old st reached stands survey id at new d (alone_left d left shared) m why its spots behind.local (stage ∙ at.ready) behind.dom half)

    -- a clone that has begun
    begun : (d : DomLocal Pool Seat) (fork : Fork Pool Seat) (r : Reply) → HasBegun W old.pool old.hv new.pool new.hv l.local d command.Clone fork r → IsStanding W new.pool d → IsUnchanged W old.pool l.local new.pool d → IsBehind W new.pool (record l { local = d }) m r
        → Took W old (with_flight new id fork) (turn old.script st (actor.Dom id)) (Entered (record { entry = Line id l.guest.line; reply = r }))
    begun d fork r did standing same gone =
        let is = was W old st reached stands id l here in
        let kept = kept_unchanged W old.pool l.local new.pool d standing same in
        let behind = subst (λ (v : Reply). IsBehind W new.pool (record l { local = d }) m v) did.told gone in
        subst (λ (v : Reply). Took W old (with_flight new id fork) (turn old.script st (actor.Dom id)) (Entered (record { entry = Line id l.guest.line; reply = v }))) (sym did.told)
        (clone_begun W old st reached stands survey well id at (with_flight new id fork) d fork
        (record { script = script; hv = did.call.hv; begun = did.begun; stands = standing; same = same; others = did.call.others; shares = did.call.shares })
        m (ap (λ xs. set xs fork.child (InFlight (record { parent = id; fork = fork }))) spots) behind.local behind.stage behind.dom
        (behind.half o command.Clone (λ e. cc) (half_kept W old.pool new.pool l (record l { local = d }) kept o o refl refl refl refl is.own.line is.own.came is.own.refused is.own)))

    -- a clone that found no memory
    lacked : (d : DomLocal Pool Seat) → CallLeft W old new l d → shared_in W new.pool new.hv ≡ shared_in W old.pool old.hv → m ≡ record l { local = d } → Lacked W old new st
    lacked d left shared e =
        clone_lacked W old st reached stands survey id at new d (alone_left d left shared) (spots ∙ ap (λ (v : Live Pool Seat). set old.places.items id (Domain v)) e)

  abbrev Turn : Option (Fork Pool Seat) → Result Turned NoMemory → Type 0
  Turn b v = TookByOrLacked W old new st id l.guest.line (turn old.script st (actor.Dom id)) b v

  -- the turn
  pub trapped_took : (c : Command) → IsReadyAt old id c → c ≢ command.Exit → asks c → (b : Option (Fork Pool Seat)) (t : Result Turned NoMemory) → HasTrapped W (hv_calls W) old.pool old.hv l new.pool new.hv m c b t
      → TookByOrLacked W old new st id l.guest.line (turn old.script st (actor.Dom id)) b t
  trapped_took c ready far alone b t s = by b s.answer s.trapped s.after s.lacks where
    by : (b : Option (Fork Pool Seat)) (a : Result Reply NoMemory) → Answers W old.pool old.hv new.pool new.hv l.local s.local c b a → TrapDone W new.pool (record l { local = s.local }) m a t → OnErr a (c ≡ command.Clone) → Turn b t
    by None (Ok r) did after lacks = subst (Turn None) (sym after.0) (done (is_clone c)) where
      left : CallLeft W old new l s.local
      left = record {
        script = script;
        hv = did.call.hv;
        stock = did.kept.stock;
        names = did.kept.names;
        stands = s.stands;
        same = s.same;
        others = did.call.others;
        shares = did.call.shares;
      }

      done : (c ≡ command.Clone) ⊎ (c ≢ command.Clone) → Took W old new (turn old.script st (actor.Dom id)) (Entered (record { entry = Line id l.guest.line; reply = r }))
      done (inl k) = refused (subst (IsReadyAt old id) k ready) s.local r (subst (λ v. HasDone W old.pool old.hv new.pool new.hv l.local s.local v r) k did) left after.1
      done (inr off) = called c ready far off alone s.local r did left after.1
    by (Some fork) (Ok r) did after lacks =
        subst (Turn (Some fork)) (sym after.0) (begun (subst (IsReadyAt old id) did.clone ready) s.local fork r (subst (λ v. HasBegun W old.pool old.hv new.pool new.hv l.local s.local v fork r) did.clone did) s.stands s.same after.1)
    by None (Err none) did after lacks =
        subst (Turn None) (sym after.0) (lacked (subst (IsReadyAt old id) lacks ready) s.local (record {
          script = script;
          hv = did.call.hv;
          stock = did.kept.stock;
          names = did.kept.names;
          stands = s.stands;
          same = s.same;
          others = did.call.others;
          shares = did.call.shares;
        }) did.shared after.1)
    by (Some fork) (Err none) did after lacks = absurd did
