-- Each turn leaves the colours of pages that are alone to them.
use Rattle.std.proofs.Common.{◌≡◌, ◌≢◌, ℕ, zero, ◌+◌, ◌<◌, ◌≤◌, Bool, true, false, cond, inl, inr, List, [], ◌∷◌, ◌++◌, length, get_or, set, Option, Some, None, refl, sym, ap, subst, ◌∙◌, arith}
use Rattle.std.specs.Prelude.{option_map}
use Rattle.std.specs.Option.{is_some}
use Rattle.std.specs.FinMap as fm
use Rattle.std.proofs.lemmas.Bool.{false≢true}
use Rattle.std.proofs.lemmas.List.{get_or-set_same}
use Rattle.neph_base.specs.declared.command.Command.{Command}
use Rattle.neph_base.specs.declared.command.Command.TheVariants as command
use Rattle.neph_base.specs.declared.reply.Actor.{Actor}
use Rattle.neph_base.specs.declared.reply.Actor.TheVariants as actor
use Rattle.neph_base.specs.declared.reply.Entry.TheVariants.{Line}
use Rattle.neph_base.specs.declared.reply.Reply.TheVariants as reply
use Rattle.neph_model.specs.declared.own.Own.{Own}
use Rattle.neph_model.specs.declared.script.Script.{Script}
use Rattle.neph_model.specs.declared.life.Life.{Life}
use Rattle.neph_model.specs.declared.life.Guest.{Guest}
use Rattle.neph_model.specs.declared.life.Cloned.{Cloned}
use Rattle.neph_model.specs.declared.book.Book.{Book}
use Rattle.neph_model.specs.declared.book.Stage.TheVariants.{Ready, Copying, Forking}
use Rattle.neph_model.specs.declared.book.Move.{Move}
use Rattle.neph_model.specs.declared.book.Move.TheVariants.{Rests, StepsPage, Commits, Copies, TakesSpare, Does}
use Rattle.neph_model.specs.declared.book.Spends.{Spends}
use Rattle.neph_model.specs.declared.book.Spends.TheVariants.{Nothing}
use Rattle.neph_model.specs.declared.told.Told.{Told}
use Rattle.neph_model.specs.WellFormed.{IsWellFormed}
use Rattle.neph_model.specs.Machine.{no_own, no_guest, own_at, exposed_at, is_live, guest_at, but_handles}
use Rattle.neph_model.specs.Trap.{is_blocked, begin_clone}
use Rattle.neph_model.specs.Births.{end_domain}
use Rattle.neph_model.specs.Step.{Outcome, step, is_paused}
use Rattle.neph_model.specs.Books.{State, free, no_book, put_book, book_spent, fresh_spent, pages_of, shared_count}
use Rattle.neph_model.specs.Turns.{nothing, quietly, stage_stepped, book_after, next_command, next_move, line_turn, move_turn, domain_turn, turn}
use Rattle.neph_runs.specs.Orderly.{Seat, seat, outline}
use Rattle.neph_runs.proofs.Lines.{Goes, Ends, Begins, line_kind, goes_no_exit, begins_clone}
use Rattle.neph_runs.proofs.Seats.{book_turns, goes_turns, ends_turns, begins_turns}
use Rattle.neph_runs.proofs.Births.{child_seat, commit_born, bears}
use Rattle.neph_runs.proofs.Falls.{next_id, live_within, after_line, plain_book}
use Rattle.neph_runs.proofs.Turning.{IsFresh, forked, joins, joins_seats}
use Rattle.neph_runs.proofs.Says.{Says, Reasons}
use Rattle.neph_runs.proofs.Steps.{Steps, half_of, half_at}
use Rattle.neph_runs.proofs.StepsBy.{leaf_of, page_written, command_steps}
use Rattle.neph_runs.proofs.Colours.{times}
use Rattle.neph_runs.proofs.Rooms.{IsSound, seat_command}
use Rattle.neph_runs.proofs.Adding.{fresh, reasons}
use Rattle.neph_runs.proofs.Hues.{SoloAt, AreColoured, Recolours, spent_recolours, one_coloured, steps_solo, stays_one}
use Rattle.neph_runs.proofs.HueBirths.{born_coloured}

module _ (s : Script) (well : IsWellFormed s) (st : State) (id : ℕ) (sound : IsSound s st) (all : AreColoured st) (live : is_some (seat st id).life ≡ true) where
  abbrev x : Seat
  x = seat st id

  within : id < 64
  within = live_within st id sound.orderly live

  booked : id < length st.books.list
  booked = let p = sound.orderly.places in omega (arith, within, p.books)

  -- another book of the same colours
  quiet_coloured : (b : Book) (steps : ℕ) → b.colours ≡ x.book.colours → AreColoured (quietly st (put_book id b st.books) steps).state
  quiet_coloured b steps same =
      let bs = st.books in
      let y : Seat = record x { book = b } in
      let new = (quietly st (put_book id b bs) steps).state in
      let turns = book_turns st id sound.orderly.places within b bs.fresh in
      let re : Recolours bs new.books = spent_recolours st all id booked Nothing b (λ c. let e = ap (times c) same in omega (arith, e)) in
      one_coloured st all id booked new y re turns
      (λ l pfn inside own. subst (λ (l : List ℕ). pages_of (get_or l pfn 0) new.books ≤ 1) (sym same) (stays_one bs new.books re (get_or x.book.colours pfn 0) (all.solo id live pfn inside own))) (λ l. absurd (false≢true (sym l ∙ live)))

  goes_coloured : (told : Told) (spends : Spends) (out : Outcome) (c : Command) → Says (free s st) st.books x.own x.book c told spends → Goes st.machine id out
      → Steps (half_of x) (half_at out.machine id) (leaf_of spends) (page_written x.own told c) → AreColoured (after_line st id spends out)
  goes_coloured told spends out c says g steps =
      let bs = st.books in
      let b0 = book_spent spends bs.fresh x.book in
      let b = book_after x.own out.reply b0 in
      let plain : b ≡ record b0 { stage = Ready } = plain_book x.own out.reply b0 g.on in
      let fresh = fresh_spent spends bs.fresh in
      let y : Seat = record x { own = g.after; guest = but_handles (guest_at id out.machine.shared.tables); exposed = outline (exposed_at id out.machine.shared.pages); book = b } in
      let new = after_line st id spends out in
      let p = sound.orderly.places in
      let turns = goes_turns st id p within out g b fresh in
      let h = sound.seats id live in
      let o = sound.orderly.seats id live in
      let own : own_at id out.machine.own ≡ g.after = ap (own_at id) g.own ∙ get_or-set_same st.machine.own id g.after no_own (omega (arith, p.own)) in
      let stepped : Steps (half_of x) (half_of y) (leaf_of spends) (page_written x.own told c) = subst (λ n. Steps (half_of x) (record (half_at out.machine id) { own = n }) (leaf_of spends) (page_written x.own told c)) own steps in
      let re : Recolours bs new.books = spent_recolours st all id booked spends b (λ k. let e = ap (λ (v : Book). times k v.colours) plain in omega (arith, e)) in
      one_coloured st all id booked new y re turns
      (λ l pfn inside mine. subst (λ (v : Book). pages_of (get_or v.colours pfn 0) new.books ≤ 1) (sym plain) (steps_solo st all id booked live h.halves o.colours new.books re (free s st) c told spends (half_of y) says stepped pfn inside mine))
      (λ l. absurd (false≢true (sym l ∙ live)))

  ends_coloured : (spends : Spends) (out : Outcome) → Ends st.machine id out → AreColoured (after_line st id spends out)
  ends_coloured spends out e = subst AreColoured (sym whole) ended where
    stopped : Outcome
    stopped = record { machine = record { own = set st.machine.own id no_own; shared = end_domain st.machine.shared id }; reply = reply.Ended }

    whole : after_line st id spends out ≡ after_line st id spends stopped
    whole = ap (after_line st id spends) (ap (λ m. record { machine = m; reply = out.reply }) e.machine ∙ ap (λ r. record { machine = stopped.machine; reply = r }) e.reply)

    ended : AreColoured (after_line st id spends stopped)
    ended =
        let bs = st.books in
        let fresh = fresh_spent spends bs.fresh in
        let y : Seat = record { own = no_own; life = None; guest = no_guest; exposed = outline fm.empty; book = no_book } in
        let new = after_line st id spends stopped in
        let turns = ends_turns st id sound.orderly.places within no_book fresh in
        let re : Recolours bs new.books = spent_recolours st all id booked spends no_book (λ c. omega arith) in
        one_coloured st all id booked new y re turns (λ l. absurd (false≢true l)) (λ l. refl)

  -- what the begin of a clone comes to
  abbrev begun : Outcome
  begun = record { machine = record { own = set st.machine.own id (record x.own { refused = false }); shared = record st.machine.shared { tables = begin_clone st.machine.shared.tables id (guest_at id st.machine.shared.tables) } }; reply = reply.Begun (next_id st) }

  begins_coloured : (told : Told) (spends : Spends) (out : Outcome) (c : Command) → Says (free s st) st.books x.own x.book c told spends → Begins st.machine id told out
      → Steps (half_of x) (half_at out.machine id) (leaf_of spends) (page_written x.own told c) → AreColoured (after_line st id spends out)
  begins_coloured told spends out c says e steps = subst AreColoured (sym (ap (after_line st id spends) whole)) began where
    whole : out ≡ begun
    whole = ap (λ m. record { machine = m; reply = out.reply }) e.machine ∙ ap (λ r. record { machine = begun.machine; reply = r }) e.reply

    began : AreColoured (after_line st id spends begun)
    began =
        let bs = st.books in
        let b0 = book_spent spends bs.fresh x.book in
        let b : Book = record b0 { stage = Forking (shared_count x.own) } in
        let fresh = fresh_spent spends bs.fresh in
        let g : Guest = record (guest_at id st.machine.shared.tables) { accepted = x.guest.accepted + 1; begun = x.guest.begun ++ next_id st ∷ [] } in
        let o : Own = record x.own { refused = false } in
        let y : Seat = record x { own = o; guest = but_handles g; book = b } in
        let new = after_line st id spends begun in
        let p = sound.orderly.places in
        let turns = begins_turns st id p within g o (next_id st + 1) b fresh in
        let h = sound.seats id live in
        let ord = sound.orderly.seats id live in
        let re : Recolours bs new.books = spent_recolours st all id booked spends b (λ k. omega arith) in
        let own : own_at id out.machine.own ≡ o = ap (λ (v : Outcome). own_at id v.machine.own) whole ∙ get_or-set_same st.machine.own id o no_own (omega (arith, p.own)) in
        let stepped : Steps (half_of x) (record (half_at out.machine id) { own = o }) (leaf_of spends) (page_written x.own told c) = subst (λ n. Steps (half_of x) (record (half_at out.machine id) { own = n }) (leaf_of spends) (page_written x.own told c)) own steps in
        one_coloured st all id booked new y re turns
        (λ l pfn inside mine. steps_solo st all id booked live h.halves ord.colours new.books re (free s st) c told spends (record (half_at out.machine id) { own = o }) says stepped pfn inside mine)
        (λ l. absurd (false≢true (sym l ∙ live)))

  line_coloured : (told : Told) (spends : Spends) → Says (free s st) st.books x.own x.book (seat_command s x) told spends → AreColoured (line_turn s st id told spends).state
  line_coloured told spends says =
      let m = st.machine in
      let c = seat_command s x in
      let out = step s m (Line id x.own.line) told in
      let p = sound.orderly.places in
      let steps : c ≢ command.Exit → Steps (half_of x) (half_at out.machine id) (leaf_of spends) (page_written x.own told c) = λ far.
      command_steps m id told (omega (arith, within, p.own)) (omega (arith, within, p.exposed)) (omega (arith, within, p.guests)) (sound.seats id live).halves s c x.book st.books (free s st) spends far says in
      let goes : Goes m id out → AreColoured (after_line st id spends out) = λ g. goes_coloured told spends out c says g (steps (goes_no_exit s m id told c g.on)) in
      let begins : Begins m id told out → AreColoured (after_line st id spends out) = λ e.
      let is = begins_clone s m id told c (next_id st) e.reply in
      begins_coloured told spends out c says e (steps (λ q. clone_exit (sym is ∙ q))) in
      elim (line_kind s well m id told) as (λ k. AreColoured (after_line st id spends out)) [
        | inl e ↦ ends_coloured spends out e
        | inr k ↦ elim k.1 as (λ y. AreColoured (after_line st id spends out)) [ inl g ↦ goes g | inr e ↦ elim e as (λ y. AreColoured (after_line st id spends out)) [ inl e ↦ ends_coloured spends out e | inr e ↦ begins e ] ]
      ]
    where
      clone_exit : command.Clone ≡ command.Exit → ⊥
      clone_exit e = cc

  child_lives : (child fresh : ℕ) → is_some (child_seat id child fresh x).life ≡ true
  child_lives child fresh = by x.life live where
    by : (life : Option Life) → is_some life ≡ true → is_some (option_map (λ (l : Life). record l { parent = id }) life) ≡ true
    by None e = e
    by (Some l) e = refl

  commits_coloured : x.book.stage ≡ Forking zero → AreColoured (move_turn s st id Commits).state
  commits_coloured e =
      let fork = forked s well st id sound.orderly live zero e in
      let child = fork.0 in
      let begun = fork.1.0 in
      let after : id < child = fork.1.1 in
      let below : child < next_id st = fork.1.2 in
      let high = sound.orderly.high in
      let ne : id ≢ child = λ e. absurd (omega arith) in
      let bears = bears s st id child sound.orderly.places within (omega arith) ne in
      let did = commit_born s st id child begun in
      subst AreColoured (sym did.0) (born_coloured s st id child sound.orderly all live within (omega arith) ne bears (child_lives child st.books.fresh))

  move_coloured : (mv : Move) → IsFresh x.book mv → (paused blocked : Bool) → Reasons (free s st) st.books x.own x.book (seat_command s x) paused blocked mv → AreColoured (move_turn s st id mv).state
  move_coloured Rests fresh paused blocked why = all
  move_coloured StepsPage fresh paused blocked why = quiet_coloured (record x.book { stage = stage_stepped x.book.stage }) 1 refl
  move_coloured Commits fresh paused blocked why = commits_coloured fresh
  move_coloured Copies fresh paused blocked why = quiet_coloured (record x.book { stage = Copying }) 0 refl
  move_coloured TakesSpare fresh paused blocked why = quiet_coloured (record x.book { spare = true }) 0 refl
  move_coloured (Does told spends) fresh paused blocked why = line_coloured told spends why.1

domain_coloured : (s : Script) → IsWellFormed s → (st : State) (id : ℕ) → IsSound s st → AreColoured st → AreColoured (domain_turn s st id).state
domain_coloured s well st id sound all =
    let m = st.machine in
    let mv = next_move s st id in
    elim (is_live id m.shared.lives) as (λ b. is_live id m.shared.lives ≡ b → AreColoured (cond b (move_turn s st id mv) (nothing st)).state) [
      | true ↦ λ live. move_coloured s well st id sound all live mv (fresh s st id) (is_paused id m.shared) (is_blocked m.shared id (next_command s m id)) (reasons s st id sound live)
      | false ↦ λ e. all
    ] refl

joins_coloured : (st : State) (w : List Cloned) → AreColoured st → AreColoured (joins st w).state
joins_coloured st [] all = all
joins_coloured st (w ∷ rest) all =
    let same = joins_seats st w rest in
    let new = (joins st (w ∷ rest)).state in
    record {
      small = all.small;
      dead = λ j l. ap (λ (v : Seat). v.book) (same j) ∙ all.dead j (ap (λ (v : Seat). is_some v.life) (sym (same j)) ∙ l);
      solo = λ j l. subst (SoloAt st.books) (sym (same j)) (all.solo j (ap (λ (v : Seat). is_some v.life) (sym (same j)) ∙ l));
    }

pub turn_coloured : (s : Script) → IsWellFormed s → (st : State) (a : Actor) → IsSound s st → AreColoured st → AreColoured (turn s st a).state
turn_coloured s well st (actor.Dom id) sound all = domain_coloured s well st id sound all
turn_coloured s well st actor.Daemon sound all = joins_coloured st st.machine.shared.tables.waiting all
turn_coloured s well st actor.Console sound all = all
turn_coloured s well st actor.Net sound all = all
turn_coloured s well st actor.P9 sound all = all
