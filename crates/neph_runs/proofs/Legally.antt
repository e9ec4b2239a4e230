-- The history of a run is a legal one.
use Rattle.std.proofs.Common.{◌≡◌, ℕ, zero, suc, ◌+◌, ◌/◌, ◌<◌, Bool, true, false, cond, inl, inr, List, [], ◌∷◌, ◌++◌, length, get_or, set, Option, Some, None, refl, sym, ap, subst, ◌∙◌, arith}
use Rattle.std.specs.Prelude.{◌==◌, ◌&&◌, not, IfSome}
use Rattle.std.specs.Option.{is_some}
use Rattle.std.proofs.lemmas.Bool.{false≢true}
use Rattle.std.proofs.lemmas.Bool.Decides.{eqb_tells, leb_tells}
use Rattle.neph_base.specs.declared.command.Command.{Command}
use Rattle.neph_base.specs.declared.command.Command.TheVariants as command
use Rattle.neph_base.specs.declared.command.Mode.{Mode}
use Rattle.neph_base.specs.declared.command.Mode.TheVariants.{Ro, Rw}
use Rattle.neph_base.specs.declared.reply.Actor.{Actor}
use Rattle.neph_base.specs.declared.reply.Actor.TheVariants as actor
use Rattle.neph_base.specs.declared.reply.Entry.TheVariants as entry
use Rattle.neph_base.specs.declared.reply.Noted.{Noted}
use Rattle.neph_base.specs.declared.reply.Reply.{Reply}
use Rattle.neph_base.specs.declared.reply.Reply.TheVariants as reply
use Rattle.neph_model.specs.declared.own.Own.{Own}
use Rattle.neph_model.specs.declared.script.Script.{Script}
use Rattle.neph_model.specs.declared.life.Cloned.{Cloned}
use Rattle.neph_model.specs.declared.memory.Mapping.{Mapping}
use Rattle.neph_model.specs.declared.book.Stage.TheVariants.{Forking}
use Rattle.neph_model.specs.declared.book.Move.{Move}
use Rattle.neph_model.specs.declared.book.Move.TheVariants.{Rests, StepsPage, Commits, Copies, TakesSpare, Does}
use Rattle.neph_model.specs.declared.book.Spends.{Spends}
use Rattle.neph_model.specs.declared.told.Told.{Told}
use Rattle.neph_model.specs.declared.told.Told.TheVariants.{Enough}
use Rattle.neph_model.specs.WellFormed.{IsWellFormed}
use Rattle.neph_model.specs.Machine.{Shared, Machine, own_at, is_live, is_over, program_run}
use Rattle.neph_model.specs.Own.{page_of, mapping_at}
use Rattle.neph_model.specs.Trap.{is_blocked}
use Rattle.neph_model.specs.Step.{Outcome, shared_join, step, is_paused, is_some_left, may_stand, shared_commit}
use Rattle.neph_model.specs.Books.{Books, State, free, pages_of, is_shared, start_state}
use Rattle.neph_model.specs.Counting.{frames_counted, may_be_shared, lacks_well, entry_command, CountsWell, IsPossible}
use Rattle.neph_model.specs.Legal.{told_of, own_part, CountsFrames, Legal}
use Rattle.neph_model.specs.Turns.{nothing, page_to_copy, next_command, next_move, line_turn, commit_turn, move_turn, domain_turn, turn, before, turns, round}
use Rattle.neph_model.specs.Run.{Ran, rounds, first_turns}
use Rattle.neph_model.specs.RunLaws.{RunsLegally}
use Rattle.neph_model.specs.Start.{start_machine}
use Rattle.neph_runs.proofs.OneRun.{some_is}
use Rattle.neph_runs.proofs.StartSound.{start_sound, start_coloured}
use Rattle.neph_runs.specs.Orderly.{Seat, seat}
use Rattle.neph_runs.proofs.Turning.{IsFresh, forked, joins}
use Rattle.neph_runs.proofs.Says.{Says, Reasons}
use Rattle.neph_runs.proofs.Rooms.{IsSound, seat_command}
use Rattle.neph_runs.proofs.Adding.{fresh, reasons, turn_sound}
use Rattle.neph_runs.proofs.Tells.{line_tells}
use Rattle.neph_runs.proofs.Hues.{AreColoured}
use Rattle.neph_runs.proofs.Hued.{turn_coloured}
use Rattle.neph_runs.proofs.Possible.{possible}

-- a history and then another
pub legal_append : (s : Script) (m mid last : Machine) (h k : List Noted) → Legal s m h mid → Legal s mid k last → Legal s m (h ++ k) last
legal_append s m mid last [] k a b = subst (λ v. Legal s v k last) (sym a) b
legal_append s m mid last (x ∷ xs) k a b = (a.0, legal_append s (step s m x.entry (told_of x.reply)).machine mid last xs k a.1 b)

eq_same : (n : ℕ) → (n == n) ≡ true
eq_same n = elim (eqb_tells n n) [ inl h ↦ h.0 | inr h ↦ absurd (h.1 refl) ]

-- an entry counts frames rightly where its reply does, whoever does it
counts_frames : (s : Script) (p : ℕ) (sh : Shared) (o : Own) (x : Noted) (part : Option (Own × Reply)) → CountsWell s sh (entry_command s p x.entry) x.reply → lacks_well o (entry_command s p x.entry) x.reply ≡ true → CountsFrames s p sh o x part
counts_frames s p sh o x (Some did) h k = tt
counts_frames s p sh o x None h k = (h, k)

-- a number that is counted is possible where the free frames are
counts_well : (s : Script) (sh : Shared) (c : Command) (r : Reply) (n : ℕ) → IsPossible s sh n → IfSome (frames_counted c r) (λ k. k ≡ n) → CountsWell s sh c r
counts_well s sh c r n h = by (frames_counted c r) where
  by : (x : Option ℕ) → IfSome x (λ k. k ≡ n) → IfSome x (IsPossible s sh)
  by None e = tt
  by (Some k) e = subst (IsPossible s sh) (sym e) h

module _ (s : Script) (well : IsWellFormed s) (st : State) (sound : IsSound s st) (all : AreColoured st) where
  abbrev m : Machine
  m = st.machine

  module _ (id : ℕ) (live : is_some (seat st id).life ≡ true) where
    abbrev x : Seat
    x = seat st id

    -- a page that is to be copied isn't known to be alone
    copies_shared : (addr pfn : ℕ) → page_to_copy st.books x.own x.book (mapping_at x.own addr) ≡ Some pfn → may_be_shared x.own (mapping_at x.own addr) ≡ true
    copies_shared addr pfn e = by (mapping_at x.own addr) refl e where
      bs : Books
      bs = st.books

      alone : (to : Mapping) → mapping_at x.own addr ≡ Some to → (v : Bool) → get_or x.own.alone to.pfn false ≡ v → is_shared (get_or x.book.colours to.pfn 0) bs ≡ true → not v ≡ true
      alone to met false a shared = refl
      alone to met true a shared =
          let h = sound.seats id live in
          let maps = subst (λ y. IfSome y (λ (z : Mapping). z.pfn < length x.own.pages)) met (h.halves.maps (addr / 4096)) in
          let one = all.solo id live to.pfn maps (inr a) in
          elim (leb_tells 2 (pages_of (get_or x.book.colours to.pfn 0) bs)) [ inl k ↦ absurd (omega (arith, k.1, one)) | inr k ↦ absurd (false≢true (sym k.0 ∙ shared)) ]

      both : (a b : Bool) (to : Mapping) → cond (a && b) (Some to.pfn) None ≡ Some pfn → b ≡ true
      both true true to h = refl
      both true false to h = absurd cc
      both false b to h = absurd cc

      modal : Mapping → Mode → Option ℕ
      modal to Ro = None
      modal to Rw = cond (is_some (page_of x.own to.pfn) && is_shared (get_or x.book.colours to.pfn 0) bs) (Some to.pfn) None

      moded : (to : Mapping) (mode : Mode) → modal to mode ≡ Some pfn → is_shared (get_or x.book.colours to.pfn 0) bs ≡ true
      moded to Ro h = absurd cc
      moded to Rw h = both (is_some (page_of x.own to.pfn)) (is_shared (get_or x.book.colours to.pfn 0) bs) to h

      by : (met : Option Mapping) → mapping_at x.own addr ≡ met → page_to_copy bs x.own x.book met ≡ Some pfn → may_be_shared x.own met ≡ true
      by None met h = absurd cc
      by (Some to) met h = alone to met (get_or x.own.alone to.pfn false) refl (moded to to.mode h)

    line_legal : (told : Told) (spends : Spends) → is_paused id m.shared ≡ false → Says (free s st) st.books x.own x.book (seat_command s x) told spends → Legal s m (line_turn s st id told spends).noted (line_turn s st id told spends).state.machine
    line_legal told spends runs says =
        let e = entry.Line id x.own.line in
        let c = seat_command s x in
        let h = sound.seats id live in
        let out = step s m e told in
        let tells = line_tells m id h.halves s (free s st) st.books x.book c told spends says copies_shared in
        let noted : Noted = record { entry = e; reply = out.reply } in
        let same : step s m e (told_of out.reply) ≡ out = tells.0 in
        let stands : may_stand s m.shared e ≡ true = ap (λ b. b && (not (is_paused id m.shared) && true)) live ∙ ap (λ b. not b && true) runs in
        let counted = counts_well s m.shared c out.reply (free s st) (possible s st sound all) tells.1.0 in (
          record {
            stands = stands;
            next = eq_same x.own.line;
            reply = ap (λ (v : Outcome). v.reply) same;
            frames = counts_frames s (program_run id m.shared.lives) m.shared x.own noted (own_part s m noted) counted tells.1.1;
          },
          ap (λ (v : Outcome). v.machine) same,
        )

    commit_legal : x.book.stage ≡ Forking zero → Legal s m (commit_turn s st id).noted (commit_turn s st id).state.machine
    commit_legal stage =
        let fork = forked s well st id sound.orderly live zero stage in
        let e = entry.Commit id x.own.line in
        let out = step s m e Enough in
        let noted : Noted = record { entry = e; reply = out.reply } in
        let answer : out.reply ≡ reply.Child fork.0 = ap (λ l. (commit_reply l)) fork.1.0 in
        let stands : may_stand s m.shared e ≡ true = ap (λ b. b && is_some_left x.guest.begun) live ∙ ap (λ l. is_some_left {X = ℕ} l) fork.1.0 in (
          record {
            stands = stands;
            next = eq_same x.own.line;
            reply = refl;
            frames = counts_frames s (program_run id m.shared.lives) m.shared x.own noted (own_part s m noted) (subst (λ r. CountsWell s m.shared command.Exit r) (sym answer) tt) (ap (λ r. lacks_well x.own command.Exit r) answer);
          },
          refl,
        )
      where
        commit_reply : List ℕ → Reply
        commit_reply l = (shared_commit m.shared id l).reply

    move_legal : (mv : Move) → IsFresh x.book mv → (blocked : Bool) → Reasons (free s st) st.books x.own x.book (seat_command s x) (is_paused id m.shared) blocked mv → Legal s m (move_turn s st id mv).noted (move_turn s st id mv).state.machine
    move_legal Rests fresh blocked why = refl
    move_legal StepsPage fresh blocked why = refl
    move_legal Commits fresh blocked why = commit_legal fresh
    move_legal Copies fresh blocked why = refl
    move_legal TakesSpare fresh blocked why = refl
    move_legal (Does told spends) fresh blocked why = line_legal told spends why.0 why.1

  domain_legal : (id : ℕ) → Legal s m (domain_turn s st id).noted (domain_turn s st id).state.machine
  domain_legal id =
      let mv = next_move s st id in
      elim (is_live id m.shared.lives) as (λ b. is_live id m.shared.lives ≡ b → Legal s m (cond b (move_turn s st id mv) (nothing st)).noted (cond b (move_turn s st id mv) (nothing st)).state.machine) [
        | true ↦ λ live. move_legal id live mv (fresh s st id) (is_blocked m.shared id (next_command s m id)) (reasons s st id sound live)
        | false ↦ λ e. refl
      ] refl

  joins_legal : (w : List Cloned) → m.shared.tables.waiting ≡ w → Legal s m (joins st w).noted (joins st w).state.machine
  joins_legal [] is = refl
  joins_legal (w ∷ rest) is =
      let noted : Noted = record { entry = entry.Daemon; reply = reply.Child w.child } in
      let o = own_at 0 m.own in (
        record {
          stands = ap (λ l. is_some_left {X = Cloned} l) is;
          next = refl;
          reply = ap (λ l. (shared_join m.shared l).reply) is;
          frames = counts_frames s (program_run 0 m.shared.lives) m.shared o noted (own_part s m noted) tt refl;
        },
        ap (λ l. record { own = set m.own 0 o; shared = (shared_join m.shared l).shared }) is,
      )

  pub turn_legal : (a : Actor) → Legal s m (turn s st a).noted (turn s st a).state.machine
  turn_legal (actor.Dom id) = domain_legal id
  turn_legal actor.Daemon = joins_legal m.shared.tables.waiting refl
  turn_legal actor.Console = refl
  turn_legal actor.Net = refl
  turn_legal actor.P9 = refl

pub turns_legal : (s : Script) → IsWellFormed s → (st : State) (actors : List Actor) → IsSound s st → AreColoured st
    → let d = turns s st actors in Legal s st.machine d.noted d.state.machine × (IsSound s d.state × AreColoured d.state)
turns_legal s well st [] sound all = (refl, (sound, all))
turns_legal s well st (a ∷ rest) sound all =
    let one = turn s st a in
    let then = turns_legal s well one.state rest (turn_sound s well st a sound) (turn_coloured s well st a sound all) in
    let more = turns s one.state rest in
    elim (is_over st.machine) as (λ b. let d = cond b (nothing st) (before one more) in Legal s st.machine d.noted d.state.machine × (IsSound s d.state × AreColoured d.state)) [
      | true ↦ (refl, (sound, all))
      | false ↦ (legal_append s st.machine one.state.machine more.state.machine one.noted more.noted (turn_legal s well st sound all a) then.0, then.1)
    ]

rounds_legal : (n : ℕ) (s : Script) → IsWellFormed s → (start : Machine) (st : State) (h : List Noted) (steps : ℕ) (r : Ran) → IsSound s st → AreColoured st → Legal s start h st.machine → rounds n s st h steps ≡ Some r → Legal s start r.history r.last.machine
rounds_legal zero s well start st h steps r sound all legal e = absurd cc
rounds_legal (suc n) s well start st h steps r sound all legal e =
    let one = turns s st round in
    let over : Ran = record { last = st; stalled = false; history = h; steps = steps } in
    let stalled : Ran = record { last = st; stalled = true; history = h; steps = steps } in
    let more = rounds n s one.state (h ++ one.noted) (steps + one.steps) in
    let then = turns_legal s well st round sound all in
    elim (is_over st.machine) as (λ b. cond b (Some over) (cond one.moved more (Some stalled)) ≡ Some r → Legal s start r.history r.last.machine) [
      | true ↦ λ is. subst (λ (v : Ran). Legal s start v.history v.last.machine) (some_is is) legal
      | false ↦ λ is.
          elim one.moved as (λ b. cond b more (Some stalled) ≡ Some r → Legal s start r.history r.last.machine) [
            | true ↦ λ rest. rounds_legal n s well start one.state (h ++ one.noted) (steps + one.steps) r then.1.0 then.1.1 (legal_append s start st.machine one.state.machine h one.noted legal then.0) rest
            | false ↦ λ rest. subst (λ (v : Ran). Legal s start v.history v.last.machine) (some_is rest) legal
          ] is
    ] e

pub runs_legally : RunsLegally
runs_legally s r well run =
    let first = first_turns s in
    let begin = turns_legal s well (start_state s) s.turns (start_sound s well) (start_coloured s) in
    rounds_legal run.count s well (start_machine s) first.state first.noted first.steps r begin.1.0 begin.1.1 begin.0 run.ends
