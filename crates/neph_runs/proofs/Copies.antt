-- Each commit of a run leaves the child as the listed copy of its parent.
use Rattle.std.proofs.Common.{◌≡◌, ◌≢◌, ℕ, zero, suc, ◌+◌, ◌<◌, true, false, cond, List, [], ◌∷◌, ◌++◌, length, Option, Some, None, refl, sym, ap, subst, ◌∙◌, arith}
use Rattle.std.specs.Prelude.{option_map}
use Rattle.std.specs.Option.{is_some}
use Rattle.neph_base.specs.declared.reply.Actor.{Actor}
use Rattle.neph_base.specs.declared.reply.Actor.TheVariants as actor
use Rattle.neph_base.specs.declared.reply.Entry.TheVariants as entry
use Rattle.neph_base.specs.declared.reply.Noted.{Noted}
use Rattle.neph_base.specs.declared.reply.Reply.{Reply}
use Rattle.neph_base.specs.declared.reply.Reply.TheVariants as reply
use Rattle.neph_model.specs.declared.script.Script.{Script}
use Rattle.neph_model.specs.declared.life.Cloned.{Cloned}
use Rattle.neph_model.specs.declared.life.Life.{Life}
use Rattle.neph_model.specs.declared.book.Stage.TheVariants.{Forking}
use Rattle.neph_model.specs.declared.book.Move.{Move}
use Rattle.neph_model.specs.declared.book.Move.TheVariants.{Rests, StepsPage, Commits, Copies, TakesSpare, Does}
use Rattle.neph_model.specs.declared.told.Told.TheVariants.{Enough}
use Rattle.neph_model.specs.WellFormed.{IsWellFormed}
use Rattle.neph_model.specs.Machine.{Machine, is_live, is_over, size_of}
use Rattle.neph_model.specs.Flat.{flat_domain}
use Rattle.neph_model.specs.Legal.{told_of, Legal}
use Rattle.neph_model.specs.Laws.{HasDevicePages, LeavesChild, LeavesCopy, BearsCopies}
use Rattle.neph_model.specs.Step.{shared_commit, step}
use Rattle.neph_model.specs.Books.{State, start_state}
use Rattle.neph_model.specs.Start.{start_machine}
use Rattle.neph_model.specs.Turns.{nothing, next_move, commit_turn, move_turn, domain_turn, turn, before, turns, round}
use Rattle.neph_model.specs.Run.{Ran, rounds, first_turns}
use Rattle.neph_model.specs.RunLaws.{RunsBearCopies}
use Rattle.neph_laws.proofs.Children.{copies_its_parent}
use Rattle.neph_runs.specs.Orderly.{seat}
use Rattle.neph_runs.proofs.OneRun.{some_is}
use Rattle.neph_runs.proofs.StartSound.{start_sound}
use Rattle.neph_runs.proofs.Turning.{IsFresh, forked, joins}
use Rattle.neph_runs.proofs.Falls.{live_within}
use Rattle.neph_runs.proofs.Rooms.{IsSound}
use Rattle.neph_runs.proofs.Adding.{fresh, turn_sound}
use Rattle.neph_runs.proofs.Hues.{AreColoured}
use Rattle.neph_runs.proofs.Hued.{turn_coloured}
use Rattle.neph_runs.proofs.StartSound.{start_coloured}
use Rattle.neph_runs.proofs.Legally.{legal_append, turn_legal, turns_legal}

-- a history and then another
bears_append : (s : Script) (m mid : Machine) (h k : List Noted) → Legal s m h mid → BearsCopies s m h → BearsCopies s mid k → BearsCopies s m (h ++ k)
bears_append s m mid [] k legal a b = subst (λ v. BearsCopies s v k) (sym legal) b
bears_append s m mid (x ∷ xs) k legal a b = (a.0, bears_append s (step s m x.entry (told_of x.reply)).machine mid xs k legal.1 a.1 b)

-- what a live domain was born as
life_of : (x : Option Life) → is_some x ≡ true → (l : Life) × (x ≡ Some l)
life_of None e = absurd cc
life_of (Some l) e = (l, refl)

module _ (s : Script) (well : IsWellFormed s) (st : State) (sound : IsSound s st) where
  abbrev m : Machine
  m = st.machine

  -- the commit of a domain whose page steps are done
  commit_bears : (id : ℕ) → is_some (seat st id).life ≡ true → (seat st id).book.stage ≡ Forking zero → BearsCopies s m (commit_turn s st id).noted
  commit_bears id live stage =
      let x = seat st id in
      let h = sound.seats id live in
      let places = sound.orderly.places in
      let high = sound.orderly.high in
      let within : id < 64 = live_within st id sound.orderly live in
      let fork = forked s well st id sound.orderly live zero stage in
      let child = fork.0 in
      let far : child ≢ id = λ e. absurd (omega (arith, e, fork.1.1)) in
      let born = life_of x.life live in
      let l = born.0 in
      let size : length x.own.pages ≡ l.size = h.sized ∙ ap size_of born.1 in
      let shape : HasDevicePages m id l = record { apart = λ pfn lt. h.halves.apart pfn (omega (arith, lt, size)); devices = h.halves.devices; identity = h.halves.identity; size = size } in
      let p = flat_domain m id l in
      let e = entry.Commit id x.own.line in
      let out = step s m e Enough in
      let answer : out.reply ≡ reply.Child child = ap (λ v. answered v) fork.1.0 in
      let leaves : LeavesChild m id child p out =
      copies_its_parent s m id x.own.line child [] Enough p l (ap (option_map (flat_domain m id)) born.1) born.1 shape fork.1.0 far (omega (arith, within, places.own)) (omega (arith, fork.1.2, high, places.own)) (omega (arith, fork.1.2, high, places.lives))
      (omega (arith, fork.1.2, high, places.exposed)) (omega (arith, fork.1.2, high, places.guests)) in
      let copy : LeavesCopy m id child out = (p, ap (option_map (flat_domain m id)) born.1, leaves) in
      subst (λ r. BearsCopies s m (record { entry = e; reply = r } ∷ [])) (sym answer) (copy, tt)
    where
      answered : List ℕ → Reply
      answered v = (shared_commit m.shared id v).reply

  move_bears : (id : ℕ) → is_some (seat st id).life ≡ true → (mv : Move) → IsFresh (seat st id).book mv → BearsCopies s m (move_turn s st id mv).noted
  move_bears id live Rests fresh = tt
  move_bears id live StepsPage fresh = tt
  move_bears id live Commits fresh = commit_bears id live fresh
  move_bears id live Copies fresh = tt
  move_bears id live TakesSpare fresh = tt
  move_bears id live (Does told spends) fresh = (tt, tt)

  domain_bears : (id : ℕ) → BearsCopies s m (domain_turn s st id).noted
  domain_bears id =
      let mv = next_move s st id in
      elim (is_live id m.shared.lives) as (λ b. is_live id m.shared.lives ≡ b → BearsCopies s m (cond b (move_turn s st id mv) (nothing st)).noted) [
        | true ↦ λ live. move_bears id live mv (fresh s st id)
        | false ↦ λ e. tt
      ] refl

  joins_bear : (w : List Cloned) → BearsCopies s m (joins st w).noted
  joins_bear [] = tt
  joins_bear (w ∷ rest) = (tt, tt)

  turn_bears : (a : Actor) → BearsCopies s m (turn s st a).noted
  turn_bears (actor.Dom id) = domain_bears id
  turn_bears actor.Daemon = joins_bear m.shared.tables.waiting
  turn_bears actor.Console = tt
  turn_bears actor.Net = tt
  turn_bears actor.P9 = tt

turns_bear : (s : Script) → IsWellFormed s → (st : State) (actors : List Actor) → IsSound s st → AreColoured st → BearsCopies s st.machine (turns s st actors).noted
turns_bear s well st [] sound all = tt
turns_bear s well st (a ∷ rest) sound all =
    let one = turn s st a in
    let more = turns s one.state rest in
    let then = turns_bear s well one.state rest (turn_sound s well st a sound) (turn_coloured s well st a sound all) in
    elim (is_over st.machine) as (λ b. BearsCopies s st.machine (cond b (nothing st) (before one more)).noted) [
      | true ↦ tt
      | false ↦ bears_append s st.machine one.state.machine one.noted more.noted (turn_legal s well st sound all a) (turn_bears s well st sound a) then
    ]

rounds_bear : (n : ℕ) (s : Script) → IsWellFormed s → (start : Machine) (st : State) (h : List Noted) (steps : ℕ) (r : Ran) → IsSound s st → AreColoured st → Legal s start h st.machine → BearsCopies s start h → rounds n s st h steps ≡ Some r → BearsCopies s start r.history
rounds_bear zero s well start st h steps r sound all legal bears e = absurd cc
rounds_bear (suc n) s well start st h steps r sound all legal bears e =
    let one = turns s st round in
    let over : Ran = record { last = st; stalled = false; history = h; steps = steps } in
    let stalled : Ran = record { last = st; stalled = true; history = h; steps = steps } in
    let more = rounds n s one.state (h ++ one.noted) (steps + one.steps) in
    let then = turns_legal s well st round sound all in
    elim (is_over st.machine) as (λ b. cond b (Some over) (cond one.moved more (Some stalled)) ≡ Some r → BearsCopies s start r.history) [
      | true ↦ λ is. subst (λ (v : Ran). BearsCopies s start v.history) (some_is is) bears
      | false ↦ λ is.
          elim one.moved as (λ b. cond b more (Some stalled) ≡ Some r → BearsCopies s start r.history) [
            | true ↦ λ rest.
                rounds_bear n s well start one.state (h ++ one.noted) (steps + one.steps) r then.1.0 then.1.1 (legal_append s start st.machine one.state.machine h one.noted legal then.0)
                (bears_append s start st.machine h one.noted legal bears (turns_bear s well st round sound all)) rest
            | false ↦ λ rest. subst (λ (v : Ran). BearsCopies s start v.history) (some_is rest) bears
          ] is
    ] e

pub runs_bear_copies : RunsBearCopies
runs_bear_copies s r well run =
    let first = first_turns s in
    let begin = turns_legal s well (start_state s) s.turns (start_sound s well) (start_coloured s) in
    let bears = turns_bear s well (start_state s) s.turns (start_sound s well) (start_coloured s) in
    rounds_bear run.count s well (start_machine s) first.state first.noted first.steps r begin.1.0 begin.1.1 begin.0 bears run.ends
