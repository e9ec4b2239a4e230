-- The turn of a domain that has begun no clone, by what the turn of its guest came to.
use Rattle.std.proofs.Common.{◌≡◌, ◌≢◌, ℕ, Bool, true, false, set, Vec, Global, Option, Some, None, Result, Ok, Err, refl, sym, ap, subst, ◌∙◌, inl, inr, arith}
use Rattle.std.specs.Prelude.{slice_get, IfOk, OnErr}
use Rattle.std.proofs.lemmas.List.{set-set, get_or-set_same}
use Rattle.std.specs.Vec.{with_item}
use Rattle.neph_base.specs.declared.command.Command.{Command}
use Rattle.neph_base.specs.declared.command.Command.TheVariants as command
use Rattle.neph_base.specs.declared.memory.NoMemory.{NoMemory}
use Rattle.neph_base.specs.declared.reply.Actor.TheVariants as actor
use Rattle.neph_base.specs.declared.reply.Entry.TheVariants.{Line}
use Rattle.neph_model.specs.declared.own.Own.{Own}
use Rattle.neph_model.specs.declared.script.Program.{Program}
use Rattle.neph_model.specs.declared.told.Told.TheVariants.{Enough}
use Rattle.neph_model.specs.Machine.{program_of, program_run}
use Rattle.neph_model.specs.Own.{local_step}
use Rattle.neph_model.specs.Step.{is_paused}
use Rattle.neph_model.specs.WellFormed.{IsWellFormed}
use Rattle.neph_model.specs.Books.{State, free}
use Rattle.neph_model.specs.Turns.{Done, move_turn, turn}
use Rattle.neph_runs.specs.Orderly.{seat as part_at}
use Rattle.neph_pool.specs.World.{World}
use Rattle.neph_heap.specs.Pages.{pages_in}
use Rattle.neph_local.specs.declared.forking.Fork.{Fork}
use Rattle.neph_guest.specs.declared.live.Live.{Live}
use Rattle.neph_guest.specs.declared.live.Stage.{Stage}
use Rattle.neph_guest.specs.declared.live.Stage.TheVariants as guest
use Rattle.neph_guest.specs.declared.row.LocalTurn.{LocalTurn}
use Rattle.neph_guest.specs.declared.row.LocalTurn.TheVariants as local
use Rattle.neph_guest.specs.declared.row.CopyTurn.{CopyTurn}
use Rattle.neph_guest.specs.declared.row.CopyTurn.TheVariants as copy
use Rattle.neph_guest.specs.declared.turned.Turned.{Turned}
use Rattle.neph_guest.specs.declared.turned.Turned.TheVariants.{Rests, Moves, Did, Ends}
use Rattle.neph_guest.specs.OwnHalf.{IsOwnHalf}
use Rattle.neph_guest.specs.Turns.{spare_after}
use Rattle.neph_guest.specs.Turned.{HasTurned, HasRested, HasGone, HasLacked, HasCopied, HasSpared, HasLooked, HasTried as TriedAlone, LineFollows, CopyFollows, StageDone}
use Rattle.neph_hv.specs.declared.hv.Hv.{Hv}
use Rattle.neph_hv.specs.Calls.{hv_calls, IsPausing}
use Rattle.neph_machine.specs.declared.place.Place.{Place}
use Rattle.neph_machine.specs.declared.place.Place.TheVariants.{Empty, Domain}
use Rattle.neph_machine.specs.declared.machine.Machine.{Machine}
use Rattle.neph_machine.specs.declared.turn.Turn.TheVariants.{Rested, Moved, Noted as Entered}
use Rattle.neph_machine.specs.Places.{place_at}
use Rattle.neph_machine.specs.Stages.{IsReadyAt, IsRunnable}
use Rattle.neph_machine.specs.StandsFor.{command_of, StandsFor}
use Rattle.neph_machine.specs.Surveyed.{IsSurveyed}
use Rattle.neph_machine.specs.Turned.{Took, Lacked}
use Rattle.neph_machine.proofs.Reached.{IsReached}
use Rattle.neph_machine.proofs.Joining.{rested_took}
use Rattle.neph_rows.specs.Records.{shared_of}
use Rattle.neph_lines.proofs.Lines.{bare_move}
use Rattle.neph_lines.proofs.Tries.{HasTried}
use Rattle.neph_lines.proofs.Sparing.{was, within, none_begun}
use Rattle.neph_lines.proofs.Copied.{stands_still}
use Rattle.neph_lines.proofs.Midway.{Trial, did_took, copies_took, mid_stands, mid_ready, mid_needs, line_same, there, alone, spare_took}
use Rattle.neph_lines.proofs.CopyTurns.{copying_did, waits_stands, waits_bare, waits_took, waiting_needs}
use Rattle.neph_forks.proofs.Putting.{put_same}
use Rattle.neph_turns.proofs.Resting.{paused_rests}
use Rattle.neph_turns.proofs.TookBy.{TookBy, TookByOrLacked, IsTurn, is_turn, from_mid}
use Rattle.neph_turns.proofs.Needs.{line_command, program_is, its_command, ready_at, runs}
use Rattle.neph_turns.proofs.SpareTurns.{spared_took}
use Rattle.neph_turns.proofs.UngrantTurns.{asked_took}

-- the machine in which the domain of an id is this, with its pool and hypervisor
abbrev pub behind : {Pool Seat : Type 0} → Machine Pool Seat → ℕ → Pool → Hv Pool Seat → Live Pool Seat → Machine Pool Seat
behind old id q k m = record { script = old.script; pool = q; hv = k; places = with_item old.places id (Domain m) }

-- a clone is done by no domain alone
no_clone : {X : Type 0} (c : Command) (step : Option X) (x : X) → (c ≡ command.Clone → step ≡ None) → step ≡ Some x → c ≢ command.Clone
no_clone c step x none some e = let z = sym (none e) ∙ some in cc

module _ {Pool Seat : Type 0} (W : World Pool Seat) (old : Machine Pool Seat) (st : State) (reached : IsReached old.script st) (stands : StandsFor W old st) (id : ℕ) (l : Live Pool Seat) (here : place_at id old.places.items ≡ Domain l) where
  abbrev done : Done
  done = turn old.script st (actor.Dom id)

  -- nothing has changed
  same_machine : behind old id old.pool old.hv l ≡ old
  same_machine = ap (λ (v : Vec (Place Pool Seat) Global). record old { places = v }) (put_same old.places id (Domain l) _ here)

  rested_is : (q : Pool) (k : Hv Pool Seat) (m : Live Pool Seat) → HasRested W (hv_calls W) old.pool old.hv l q k m → behind old id q k m ≡ old
  rested_is q k m h = ap (λ (p : Pool). behind old id p k m) h.pool ∙ ap (λ (v : Hv Pool Seat). behind old id old.pool v m) h.hv ∙ ap (behind old id old.pool old.hv) h.live ∙ same_machine

  -- behind a guest's step the rest has changed nothing more
  step_is : (p : Pool) (n : Live Pool Seat) (q : Pool) (k : Hv Pool Seat) (m : Live Pool Seat) → HasRested W (hv_calls W) p old.hv n q k m → behind old id q k m ≡ behind old id p old.hv n
  step_is p n q k m h = ap (λ (v : Pool). behind old id v k m) h.pool ∙ ap (λ (v : Hv Pool Seat). behind old id p v m) h.hv ∙ ap (behind old id p old.hv) h.live

  -- a paused domain rests
  rests : l.guest.stage ≢ guest.Forking → IsPausing old.hv l.local.id true → (q : Pool) (k : Hv Pool Seat) (m : Live Pool Seat) → HasRested W (hv_calls W) old.pool old.hv l q k m → Took W old (behind old id q k m) done Rested
  rests far told q k m h =
      let is = was W old st reached stands id l here in
      let paused : is_paused id st.machine.shared ≡ true = ap (is_paused id) stands.shared
      ∙ ap (λ (i : ℕ). is_paused i (shared_of old.hv.registry (pages_in (W.entries old.pool old.hv.heap.seat) old.hv.heap.stock.exposed))) (sym is.id_is)
      ∙ sym (told (pages_in (W.entries old.pool old.hv.heap.seat) old.hv.heap.stock.exposed)) in
      subst (λ (new : Machine Pool Seat). Took W old new done Rested) (sym (rested_is q k m h)) (rested_took W old st done stands (paused_rests W old st stands id l here far paused))

  module _ (survey : IsSurveyed W) (well : IsWellFormed old.script) (program : Program) (found : slice_get old.script.programs (program_run id old.hv.registry.lives) ≡ Some program) (going : IsRunnable old id) where
    abbrev c : Command
    c = line_command W old st reached stands id l here program found

    abbrev Turn : Machine Pool Seat → Option (Fork Pool Seat) → Result Turned NoMemory → Type 0
    Turn new b t = IsTurn W old new st id l.guest.line done b t

    -- where no clone has begun
    without : (new : Machine Pool Seat) (b : Option (Fork Pool Seat)) (t : Result Turned NoMemory) → b ≡ None → Turn new None t → Turn new b t
    without new b t e k = subst (λ (v : Option (Fork Pool Seat)). Turn new v t) (sym e) k

    -- it is ready for its line
    module _ (at : l.guest.stage ≡ guest.Ready) where
      abbrev ready : IsReadyAt old id c
      ready = ready_at W old st reached stands id l here program found at going

      abbrev tried : (p : Pool) (n : Live Pool Seat) (t : LocalTurn) → TriedAlone W old.pool l p n program c t → HasTried W old (behind old id p old.hv n) id l.guest.line c t
      tried p n t d = record {
        live = l;
        left = n;
        turned = record { here = here; places = refl; script = refl; hv = refl; moves = d.alone.moves; stands = d.alone.stands; shares = d.alone.shares };
        at = refl;
        program = program;
        runs = found;
        done = d.done;
        hand = d.hand;
        look = d.look;
        spare = d.spare;
        held = d.held;
        lacks = d.lacks;
        stage = d.stage;
        dom = d.alone.dom;
        id_is = d.alone.id;
        pages = d.pages;
      }

      abbrev trial : (p : Pool) (n : Live Pool Seat) (t : LocalTurn) → TriedAlone W old.pool l p n program c t → Trial W old (behind old id p old.hv n) st id l.guest.line c t
      trial p n t d = record { reached = reached; stands = stands; ready = ready; did = tried p n t d }

      -- what the line came to, and what followed
      gone : c ≢ command.Exit → (q : Pool) (k : Hv Pool Seat) (m : Live Pool Seat) (b : Option (Fork Pool Seat)) (t : Result Turned NoMemory) → HasGone W (hv_calls W) old.pool old.hv l q k m program c b t → Turn (behind old id q k m) b t
      gone far q k m b t h = by h.turn h.tried h.follows where
        spots : (behind old id q k m).places.items ≡ set (behind old id h.mid old.hv h.left).places.items id (Domain m)
        spots = sym (set-set old.places.items id (Domain h.left) (Domain m))

        by : (v : LocalTurn) → TriedAlone W old.pool l h.mid h.left program c v → LineFollows W (hv_calls W) old.pool old.hv l q k m h.mid h.left c v b t → Turn (behind old id q k m) b t
        by (local.Did r) d f =
            let x = trial h.mid h.left (local.Did r) d in
            let own = was W old st reached stands id l here in
            let did = d.done old.script (program_of (part_at st id).life) (part_at st id).own (program_is W old st reached stands id l here program found) own.own in
            let off : c ≢ command.Clone = no_clone c (local_step old.script (program_of (part_at st id).life) (part_at st id).own Enough c) _ (λ e. ap (local_step old.script (program_of (part_at st id).life) (part_at st id).own Enough) e) did.1 in
            without (behind old id q k m) b t f.1 (subst (Turn (behind old id q k m) None) (sym f.0) (subst (λ (v : Machine Pool Seat). Took W old v done (Entered (record { entry = Line id l.guest.line; reply = r }))) (sym (step_is h.mid h.left q k m f.2)) (did_took x survey far off)))
        by local.Copies d f =
            let x = trial h.mid h.left local.Copies d in
            subst (Turn (behind old id q k m) b) (sym f.0) (subst (λ (v : Machine Pool Seat). Took W old v done Moved) (sym (step_is h.mid h.left q k m f.2)) (copies_took x survey))
        by local.LacksFrame d f = spares t f where
          spares : (t : Result Turned NoMemory) → IfOk t (λ did. HasSpared W (hv_calls W) h.mid old.hv h.left q k m did) × (b ≡ None) × OnErr t ⊥ → Turn (behind old id q k m) b t
          spares (Err none) f = absurd f.2
          spares (Ok did) f = without (behind old id q k m) b (Ok did) f.1 (is_turn W old (behind old id q k m) st id l.guest.line done None (Ok did)
              (from_bare did (spared_took W (behind old id h.mid old.hv h.left) st reached (mid_stands (trial h.mid h.left local.LacksFrame d) tt) id h.left (there (trial h.mid h.left local.LacksFrame d) tt) survey (bare_none) (bare_far) (behind old id q k m) refl m spots did f.0 (mid_needs (trial h.mid h.left local.LacksFrame d))))) where
                bare_none : h.left.local.own.spare ≡ None
                bare_none = d.spare ∙ spare_kept c ∙ d.lacks where
                  spare_kept : (v : Command) → spare_after W old.pool l.local v local.LacksFrame ≡ l.local.own.spare
                  spare_kept (command.Map vpn pfn mode) = refl
                  spare_kept _ = refl

                bare_far : h.left.guest.stage ≢ guest.Forking
                bare_far e = let z = sym (d.stage ∙ at) ∙ e in cc

                from_bare : (did : Turned) → TookBy W (behind old id h.mid old.hv h.left) (behind old id q k m) id h.left.guest.line (move_turn old.script st id (bare_move (free old.script st))) None did → TookByOrLacked W old (behind old id q k m) st id l.guest.line done None (Ok did)
                from_bare did w = each did (subst (λ (v : ℕ). TookBy W (behind old id h.mid old.hv h.left) (behind old id q k m) id v (move_turn old.script st id (bare_move (free old.script st))) None did) (line_same (trial h.mid h.left local.LacksFrame d) tt) w) where
                  each : (did : Turned) → TookBy W (behind old id h.mid old.hv h.left) (behind old id q k m) id l.guest.line (move_turn old.script st id (bare_move (free old.script st))) None did → TookByOrLacked W old (behind old id q k m) st id l.guest.line done None (Ok did)
                  each Rests w = spare_took (trial h.mid h.left local.LacksFrame d) (behind old id q k m) Rested w
                  each Moves w = spare_took (trial h.mid h.left local.LacksFrame d) (behind old id q k m) Moved w
                  each (Did r) w = spare_took (trial h.mid h.left local.LacksFrame d) (behind old id q k m) _ w
                  each Ends w = absurd w
        by local.Asks d f =
            let x = trial h.mid h.left local.Asks d in
            is_turn W old (behind old id q k m) st id l.guest.line done b t
            (from_mid W old (behind old id h.mid old.hv h.left) (behind old id q k m) refl d.alone.shares st id l.guest.line done b h.left.guest.line (line_same x tt) t
            (asked_took W (behind old id h.mid old.hv h.left) st reached (mid_stands x tt) id h.left (there x tt) survey well (behind old id q k m) refl m spots c (mid_ready x tt) far (alone x) b t f))

      -- no memory was left for its `map`
      lacked : (q : Pool) (k : Hv Pool Seat) (m : Live Pool Seat) → HasLacked W old.pool l q m c → k ≡ old.hv → Lacked W old (behind old id q k m) st
      lacked q k m d same = record {
        stands = stands_still W old st reached stands id l here (behind old id q k m) refl same m refl d.alone.moves d.alone.stands d.memory d.guest
            (none_begun W old st reached stands id l here guest.Ready at (λ e. cc));
        script = refl;
        shares = d.alone.shares;
      }

      ready_turn : (q : Pool) (k : Hv Pool Seat) (m : Live Pool Seat) (b : Option (Fork Pool Seat)) (t : Result Turned NoMemory) → StageDone W (hv_calls W) old.pool old.hv l q k m program c guest.Ready b t → Turn (behind old id q k m) b t
      ready_turn q k m b t (inl e) = subst (Turn (behind old id q k m) b) (sym e.1) (rested_is q k m e.3, subst (IsReadyAt old id) e.0 ready)
      ready_turn q k m b (Ok did) (inr (inl e)) = absurd e.2
      ready_turn q k m b (Err none) (inr (inl e)) = lacked q k m e.0.0 e.0.1
      ready_turn q k m b t (inr (inr g)) = gone g.0 q k m b t g.1

    -- its write waits for a copy
    module _ (at : l.guest.stage ≡ guest.Copying) where
      its : command_of old.script (part_at st id) ≡ c
      its = its_command W old st reached stands id l here program found

      copied : (q : Pool) (k : Hv Pool Seat) (m : Live Pool Seat) (t : Turned) → HasCopied W (hv_calls W) old.pool old.hv l q k m c t → Turn (behind old id q k m) None (Ok t)
      copied q k m t h = is_turn W old (behind old id q k m) st id l.guest.line done None (Ok t) (by h.turn h.looked h.follows) where
        spots : (behind old id q k m).places.items ≡ set (behind old id h.mid old.hv h.left).places.items id (Domain m)
        spots = sym (set-set old.places.items id (Domain h.left) (Domain m))

        by : (v : CopyTurn) → HasLooked W old.pool l h.mid h.left c v → CopyFollows W (hv_calls W) old.pool old.hv l q k m h.mid h.left v t → TookByOrLacked W old (behind old id q k m) st id l.guest.line done None (Ok t)
        by (copy.Did r) d f =
            let is = was W old st reached stands id l here in
            let step = d.done old.script (program_of (part_at st id).life) (part_at st id).own is.own in
            subst (λ (v : Turned). TookBy W old (behind old id q k m) id l.guest.line done None v) (sym f.0)
            (subst (λ (v : Machine Pool Seat). Took W old v done (Entered (record { entry = Line id l.guest.line; reply = r }))) (sym (step_is h.mid h.left q k m f.1))
            (copying_did W old st reached stands id l here survey at going (behind old id h.mid old.hv h.left) refl refl h.left refl d.alone.moves d.alone.dom d.alone.id d.alone.stands r d.stage d.hand d.alone.shares d.place
            (subst (λ (v : Command). (n : Own) × (local_step old.script (program_of (part_at st id).life) (part_at st id).own Enough v ≡ Some (n, r)) × IsOwnHalf W h.mid h.left n) (sym its) step)))
        by copy.LacksFrame d f =
            let mid_is = waits_stands W old st reached stands id l here survey at going (behind old id h.mid old.hv h.left) refl refl h.left refl d.alone.moves d.alone.stands (d.guest refl) d.place in
            let needs = waiting_needs W old st reached stands id l here survey at going in
            from_wait t (subst (λ (v : ℕ). TookBy W (behind old id h.mid old.hv h.left) (behind old id q k m) id v (move_turn old.script st id (bare_move (free old.script st))) None t) (ap (λ g. g.line) (d.guest refl))
            (spared_took W (behind old id h.mid old.hv h.left) st reached mid_is id h.left there_now survey no_spare far_now (behind old id q k m) refl m spots t f needs))
          where
            there_now : place_at id (behind old id h.mid old.hv h.left).places.items ≡ Domain h.left
            there_now = get_or-set_same old.places.items id (Domain h.left) Empty (let n = stands.places in let lt = within W old st reached stands id l here in omega arith)

            no_spare : h.left.local.own.spare ≡ None
            no_spare = waits_bare W old st reached stands id l here survey at going h.mid h.left d.place

            far_now : h.left.guest.stage ≢ guest.Forking
            far_now e = let z = sym d.stage ∙ e in cc

            from_wait : (t : Turned) → TookBy W (behind old id h.mid old.hv h.left) (behind old id q k m) id l.guest.line (move_turn old.script st id (bare_move (free old.script st))) None t → TookByOrLacked W old (behind old id q k m) st id l.guest.line done None (Ok t)
            from_wait Rests w = waits_took W old st reached stands id l here survey at going (behind old id h.mid old.hv h.left) (behind old id q k m) h.left Rested refl d.alone.shares d.place w
            from_wait Moves w = waits_took W old st reached stands id l here survey at going (behind old id h.mid old.hv h.left) (behind old id q k m) h.left Moved refl d.alone.shares d.place w
            from_wait (Did r) w = waits_took W old st reached stands id l here survey at going (behind old id h.mid old.hv h.left) (behind old id q k m) h.left _ refl d.alone.shares d.place w
            from_wait Ends w = absurd w

      copying_turn : (q : Pool) (k : Hv Pool Seat) (m : Live Pool Seat) (b : Option (Fork Pool Seat)) (t : Result Turned NoMemory) → StageDone W (hv_calls W) old.pool old.hv l q k m program c guest.Copying b t → Turn (behind old id q k m) b t
      copying_turn q k m b (Ok t) h = without (behind old id q k m) b (Ok t) h.1 (copied q k m t h.0)
      copying_turn q k m b (Err none) h = absurd h.2

  -- the turn of the guest is one of the machine
  pub guest_turn_took : IsSurveyed W → IsWellFormed old.script → l.guest.stage ≢ guest.Forking → (program : Program) → slice_get old.script.programs (program_run id old.hv.registry.lives) ≡ Some program
      → (q : Pool) (k : Hv Pool Seat) (m : Live Pool Seat) (b : Option (Fork Pool Seat)) (t : Result Turned NoMemory) → HasTurned W (hv_calls W) old.pool old.hv l q k m program b t → IsTurn W old (behind old id q k m) st id l.guest.line done b t
  guest_turn_took survey well far program found q k m b t h = by h.paused refl where
    by : (paused : Bool) → h.paused ≡ paused → IsTurn W old (behind old id q k m) st id l.guest.line done b t
    by true e =
        let r = h.rests e in
        subst (IsTurn W old (behind old id q k m) st id l.guest.line done b) (sym r.0) (rests far (subst (IsPausing old.hv l.local.id) e h.told) q k m r.2)
    by false e = at_stage l.guest.stage refl (h.goes e) where
      going : IsRunnable old id
      going = runs W old st reached stands id l here (subst (IsPausing old.hv l.local.id) e h.told)

      at_stage : (s : Stage) → l.guest.stage ≡ s → StageDone W (hv_calls W) old.pool old.hv l q k m program (line_command W old st reached stands id l here program found) s b t → IsTurn W old (behind old id q k m) st id l.guest.line done b t
      at_stage guest.Ready s d = ready_turn survey well program found going s q k m b t d
      at_stage guest.Copying s d = copying_turn survey well program found going s q k m b t d
      at_stage guest.Forking s d = absurd d
