-- The turn of a domain whose guest has asked to take an entry of its grants away.
use Rattle.std.proofs.Common.{◌≡◌, ◌≢◌, ℕ, List, length, set, Option, Some, None, Result, Ok, Err, IfOk, OnErr, refl, sym, ap, subst, ◌∙◌}
use Rattle.std.proofs.lemmas.List.{length-set}
use Rattle.neph_base.specs.declared.command.Command.{Command}
use Rattle.neph_base.specs.declared.command.Command.TheVariants as command
use Rattle.neph_base.specs.declared.memory.NoMemory.{NoMemory}
use Rattle.neph_base.specs.declared.reply.Actor.TheVariants as actor
use Rattle.neph_base.specs.declared.reply.Entry.TheVariants.{Line}
use Rattle.neph_base.specs.declared.reply.Reply.{Reply}
use Rattle.neph_model.specs.declared.book.Spends.TheVariants.{Nothing}
use Rattle.neph_model.specs.declared.own.Own.{Own}
use Rattle.neph_model.specs.declared.told.Told.{Told}
use Rattle.neph_model.specs.declared.told.Told.TheVariants.{Enough}
use Rattle.neph_model.specs.Lent.{PageBack, nothing_lent, own_behind, with_page_back}
use Rattle.neph_model.specs.Machine.{program_of}
use Rattle.neph_model.specs.Own.{local_step}
use Rattle.neph_model.specs.Step.{shared_line}
use Rattle.neph_model.specs.WellFormed.{IsWellFormed}
use Rattle.neph_model.specs.Books.{State, free}
use Rattle.neph_model.specs.Turns.{line_turn, move_turn, turn}
use Rattle.neph_runs.specs.Orderly.{seat as part_at}
use Rattle.neph_pool.specs.World.{World}
use Rattle.neph_memory.specs.declared.dom_local.DomLocal.{DomLocal}
use Rattle.neph_memory.specs.Domains.{IsStanding, IsUnchanged}
use Rattle.neph_memory.specs.OwnHalf.{IsMemoryOf}
use Rattle.neph_local.specs.declared.forking.Fork.{Fork}
use Rattle.neph_guest.specs.declared.live.Live.{Live}
use Rattle.neph_guest.specs.declared.turned.Turned.{Turned}
use Rattle.neph_guest.specs.declared.turned.Turned.TheVariants.{Did}
use Rattle.neph_guest.specs.OwnHalf.{IsOwnHalf}
use Rattle.neph_guest.specs.Turned.{HasAsked, HasUngranted, IsBehind}
use Rattle.neph_heap.specs.Lists.{Lists}
use Rattle.neph_hv.specs.Hv.{IsCall, shared_in}
use Rattle.neph_hv.specs.Grants.{HasBack, Regains}
use Rattle.neph_hv.specs.Calls.{hv_calls}
use Rattle.neph_hv.proofs.Granting.{regains_means}
use Rattle.neph_machine.specs.declared.place.Place.TheVariants.{Domain}
use Rattle.neph_machine.specs.declared.machine.Machine.{Machine}
use Rattle.neph_machine.specs.declared.turn.Turn.TheVariants.{Noted as Entered}
use Rattle.neph_machine.specs.Places.{place_at}
use Rattle.neph_machine.specs.Stages.{IsReadyAt}
use Rattle.neph_machine.specs.StandsFor.{StandsFor}
use Rattle.neph_machine.specs.Surveyed.{IsSurveyed}
use Rattle.neph_machine.specs.Turned.{Took}
use Rattle.neph_machine.proofs.Reached.{IsReached}
use Rattle.neph_lines.proofs.Sparing.{was}
use Rattle.neph_lines.proofs.ReadyLines.{turn_is}
use Rattle.neph_lines.proofs.Asking.{asked_move}
use Rattle.neph_lines.proofs.Called.{CallLeft, took_called}
use Rattle.neph_lines.proofs.Regained.{took_regained}
use Rattle.neph_turns.proofs.TrapTurns.{trapped_took}
use Rattle.neph_turns.proofs.TookBy.{TookByOrLacked}

no_exit : (r : ℕ) → command.Ungrant r ≢ command.Exit
no_exit r e = cc

no_clone : (r : ℕ) → command.Ungrant r ≢ command.Clone
no_clone r e = cc

module _ {Pool Seat : Type 0} (W : World Pool Seat) (old : Machine Pool Seat) (st : State) (reached : IsReached old.script st) (stands : StandsFor W old st) (id : ℕ) (l : Live Pool Seat) (here : place_at id old.places.items ≡ Domain l) (survey : IsSurveyed W) (well : IsWellFormed old.script)
    (new : Machine Pool Seat) (script : new.script ≡ old.script) (m : Live Pool Seat) (spots : new.places.items ≡ set old.places.items id (Domain m)) where
  abbrev o : Own
  o = (part_at st id).own

  module _ (r : ℕ) (ready : IsReadyAt old id (command.Ungrant r)) (d : DomLocal Pool Seat) (y : Reply) (standing : IsStanding W new.pool d) (call : IsCall W old.pool old.hv new.pool new.hv (W.names l.local.seat)) (behind : IsBehind W new.pool (record l { local = d }) m y) where
    abbrev c : Command
    c = command.Ungrant r

    -- its own half behind the reply, where its memory means this
    half_behind : (n : Own) → n.line ≡ o.line → n.came ≡ o.came → n.refused ≡ o.refused → IsMemoryOf W new.pool d n.pages n.vmap n.leaves → length n.alone ≡ length n.pages → IsOwnHalf W new.pool m (own_behind n (command.Ungrant r) y None)
    half_behind n line came refused memory marks =
        let own = (was W old st reached stands id l here).own in
        behind.half n (command.Ungrant r) (no_exit r) (record { line = line ∙ own.line; came = came ∙ own.came; refused = refused ∙ own.refused; own = record { memory = memory; marks = marks } })

    -- no page came home
    kept : (new.pool ≡ old.pool) × (d ≡ l.local) × (new.hv.heap ≡ old.hv.heap) → CallLeft W old new l d
    kept same = record {
      script = script;
      hv = call.hv;
      stock = ap (λ h. h.stock) same.2;
      names = ap (λ h. W.names h.seat) same.2;
      stands = standing;
      same = subst (λ (v : Pool). IsUnchanged W old.pool l.local v d) (sym same.0) (subst (IsUnchanged W old.pool l.local old.pool) (sym same.1) itself);
      others = call.others;
      shares = call.shares;
    } where
      itself : IsUnchanged W old.pool l.local old.pool l.local
      itself = record { entries = refl; own = refl; root = refl; id = refl; hand = refl; cap = refl; fits = (was W old st reached stands id l here).stands.fits; names = refl }

    -- a page came home
    home : (b : PageBack) → Regains W old.pool old.hv l.local new.pool new.hv d b.pfn → IsMemoryOf W new.pool d (set o.pages b.pfn (Some b.bytes)) o.vmap o.leaves → IsOwnHalf W new.pool m (own_behind o (command.Ungrant r) y (Some b))
    home b g memory =
        let own = (was W old st reached stands id l here).own in
        half_behind (with_page_back o (Some b)) refl refl refl memory (own.own.marks ∙ sym (length-set o.pages b.pfn (Some b.bytes)))

    -- the line
    took : (back : Option PageBack) → ((told : Told) → shared_line (shared_in W old.pool old.hv) l.local.id nothing_lent told (command.Ungrant r) ≡ record { shared = shared_in W new.pool new.hv; reply = y; back = back })
        → HasBack W old.pool old.hv l.local new.pool new.hv d back → Took W old new (turn old.script st (actor.Dom id)) (Entered (record { entry = Line id l.guest.line; reply = y }))
    took back row memory =
        subst (λ k. Took W old new k (Entered (record { entry = Line id l.guest.line; reply = y })))
        (sym (turn_is W old st reached stands id l here c ready ∙ ap (move_turn old.script st id) (asked_move old.script (program_of (part_at st id).life) (free old.script st) st.books o (part_at st id).book c (no_clone r) refl)))
        (by back row memory)
      where
        here_row : (back : Option PageBack) → ((told : Told) → shared_line (shared_in W old.pool old.hv) l.local.id nothing_lent told c ≡ record { shared = shared_in W new.pool new.hv; reply = y; back = back })
            → shared_line (shared_in W old.pool old.hv) id nothing_lent Enough c ≡ record { shared = shared_in W new.pool new.hv; reply = y; back = back }
        here_row back row = ap (λ (i : ℕ). shared_line (shared_in W old.pool old.hv) i nothing_lent Enough c) (sym (was W old st reached stands id l here).id_is) ∙ row Enough

        by : (back : Option PageBack) → ((told : Told) → shared_line (shared_in W old.pool old.hv) l.local.id nothing_lent told c ≡ record { shared = shared_in W new.pool new.hv; reply = y; back = back })
            → HasBack W old.pool old.hv l.local new.pool new.hv d back → Took W old new (line_turn old.script st id Enough Nothing) (Entered (record { entry = Line id l.guest.line; reply = y }))
        by None row same = took_called W old st reached stands id l here c ready new d (kept same) m spots behind.local (no_exit r) (no_clone r) Enough y refl (here_row None row) behind.half behind.stage behind.dom
        by (Some b) row g =
            let own = (was W old st reached stands id l here).own in
            let memory = subst (λ (v : List ℕ). IsMemoryOf W new.pool d (set o.pages b.pfn (Some v)) o.vmap o.leaves) (sym g.1) (regains_means W old.pool old.hv l.local new.pool new.hv d b.pfn g.0 o own.own.memory) in
            took_regained W old st reached stands id l here r ready new script d standing call b.pfn g.0 m spots behind.local y b (here_row (Some b) row) (home b g.0 memory) behind.stage behind.dom

  ungranted_took : (r : ℕ) → IsReadyAt old id (command.Ungrant r) → (t : Result Turned NoMemory) → IfOk t (HasUngranted W (hv_calls W) old.pool old.hv l new.pool new.hv m r) → OnErr t ⊥
      → TookByOrLacked W old new st id l.guest.line (turn old.script st (actor.Dom id)) None t
  ungranted_took r ready (Err lacks) none never = absurd never
  ungranted_took r ready (Ok did) s never =
      subst (λ (v : Turned). TookByOrLacked W old new st id l.guest.line (turn old.script st (actor.Dom id)) None (Ok v)) (sym s.told)
      (took r ready s.local s.answer s.stands s.ungranted.call s.after s.ungranted.back s.ungranted.row s.ungranted.memory)

  -- the turn
  pub asked_took : (c : Command) → IsReadyAt old id c → c ≢ command.Exit → local_step old.script (program_of (part_at st id).life) (part_at st id).own Enough c ≡ None → (b : Option (Fork Pool Seat)) (t : Result Turned NoMemory) → HasAsked W (hv_calls W) old.pool old.hv l new.pool new.hv m c b t
      → TookByOrLacked W old new st id l.guest.line (turn old.script st (actor.Dom id)) b t
  asked_took (command.Ungrant r) ready far alone b t s =
      subst (λ (v : Option (Fork Pool Seat)). TookByOrLacked W old new st id l.guest.line (turn old.script st (actor.Dom id)) v t) (sym s.1) (ungranted_took r ready t s.0 s.2)
  asked_took c ready far alone b t s = trapped_took W old st reached stands id l here survey well new script m spots c ready far alone b t s
