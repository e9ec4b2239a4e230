-- The frames that a run's last machine uses are no more than it has.
use Rattle.std.proofs.Common.{◌≡◌, ◌≢◌, ℕ, zero, suc, ◌+◌, ◌*◌, ◌<◌, ◌≤◌, Bool, true, false, cond, List, [], ◌∷◌, length, get_or, set, refl, sym, ap, subst, ◌∙◌, arith}
use Rattle.std.specs.Option.{is_some}
use Rattle.std.proofs.lemmas.List.{length-set, get_or-set_other}
use Rattle.std.proofs.lemmas.List.Sums.{sum_by-set}
use Rattle.neph_base.specs.declared.command.Command.{Command}
use Rattle.neph_base.specs.declared.reply.Actor.{Actor}
use Rattle.neph_base.specs.declared.reply.Actor.TheVariants as actor
use Rattle.neph_model.specs.declared.script.Script.{Script}
use Rattle.neph_model.specs.declared.life.Cloned.{Cloned}
use Rattle.neph_model.specs.declared.book.Book.{Book}
use Rattle.neph_model.specs.declared.book.Stage.{Stage}
use Rattle.neph_model.specs.declared.book.Stage.TheVariants.{Ready, Copying, Forking}
use Rattle.neph_model.specs.declared.book.Move.{Move}
use Rattle.neph_model.specs.declared.book.Move.TheVariants.{Rests, StepsPage, Commits, Copies, TakesSpare, Does}
use Rattle.neph_model.specs.WellFormed.{IsWellFormed}
use Rattle.neph_model.specs.Machine.{is_live, is_over}
use Rattle.neph_model.specs.Births.{parent_own, child_own}
use Rattle.neph_model.specs.Trap.{is_blocked}
use Rattle.neph_model.specs.Step.{is_paused}
use Rattle.neph_model.specs.Books.{Books, State, free, no_book, book_of, spares_held, child_colours, new_count}
use Rattle.neph_model.specs.Turns.{nothing, stage_stepped, next_command, next_move, move_turn, domain_turn, turn, before, turns}
use Rattle.neph_runs.specs.Orderly.{Seat, seat, IsOrderly}
use Rattle.neph_runs.proofs.Sums.{ids_le}
use Rattle.neph_runs.proofs.Births.{parent_seat, child_seat, born, commit_born, bears}
use Rattle.neph_runs.proofs.Falls.{next_id, live_within}
use Rattle.neph_runs.proofs.Turning.{IsFresh, fresh_move, forked, move_falls, joins, joins_seats, joins_falls}
use Rattle.neph_runs.proofs.Says.{Reasons, WritesWhere, move_reasons}
use Rattle.neph_runs.proofs.Colours.{bit, times_child}
use Rattle.neph_runs.proofs.Accounts.{need_with, tables_at, aside_at, frames_used, free_is, two_use, colours_born}
use Rattle.neph_runs.proofs.Steps.{half_of}
use Rattle.neph_runs.proofs.Sound.{parent_halves, child_halves, new_most}
use Rattle.neph_runs.proofs.Caps.{later_capped, child_capped, child_size}
use Rattle.neph_runs.proofs.Rooms.{IsSoundAt, IsSound, seat_command, two_seats, quiet_sound, line_sound}

cond_most : (b : Bool) (n : ℕ) → cond b n 0 ≤ n
cond_most true n = omega arith
cond_most false n = omega arith

-- a parent's spare stays, and a child has none
born_spares : (bs : Books) (id child : ℕ) (p c : Book) (fresh : ℕ) → id < length bs.list → child < length bs.list → id ≢ child → p.spare ≡ (get_or bs.list id no_book).spare → c.spare ≡ false → spares_held (record { list = set (set bs.list child c) id p; fresh = fresh }) ≤ spares_held bs
born_spares bs id child p c fresh lt high ne same none =
    let f : Book → ℕ = λ (x : Book). bit x.spare in
    let mid = set bs.list child c in
    let first = sum_by-set f bs.list child c no_book high in
    let then = sum_by-set f mid id p no_book (omega (arith, length-set bs.list child c)) in
    let at : f (get_or mid id no_book) ≡ f (get_or bs.list id no_book) = ap f (get_or-set_other bs.list child id c no_book ne) in
    let kept : f p ≡ f (get_or bs.list id no_book) = ap bit same in
    let bare : f c ≡ 0 = ap bit none in
    omega (arith, first, then, at, kept, bare)

module _ (s : Script) (well : IsWellFormed s) (st : State) (id : ℕ) (sound : IsSound s st) (live : is_some (seat st id).life ≡ true) where
  abbrev x : Seat
  x = seat st id

  within : id < 64
  within = live_within st id sound.orderly live

  commits_sound : x.book.stage ≡ Forking zero → IsSound s (move_turn s st id Commits).state
  commits_sound e =
      let bs = st.books in
      let fork = forked s well st id sound.orderly live zero e in
      let child = fork.0 in
      let begun = fork.1.0 in
      let after : id < child = fork.1.1 in
      let below : child < next_id st = fork.1.2 in
      let high = sound.orderly.high in
      let ne : id ≢ child = λ e. absurd (omega arith) in
      let places = sound.orderly.places in
      let bears = bears s st id child places within (omega arith) ne in
      let did = commit_born s st id child begun in
      let new = born s st id child in
      let p = parent_seat x in
      let c = child_seat id child bs.fresh x in
      let h = sound.seats id live in
      let ord = sound.orderly.seats id live in
      let orderly : IsOrderly new = subst IsOrderly did.0 (move_falls s well st id sound.orderly live Commits e).orderly in
      let uses = two_use st new id child p c within ne bears in
      let n = need_with x.exposed (length x.own.leaves) in
      let tables_old = ap (λ v. cond v (1 + length x.own.leaves) 0) live in
      let aside_old : aside_at x ≡ n = ap (λ v. cond v (length x.guest.begun * n) 0) live ∙ ap (λ (l : List ℕ). length l * n) begun ∙ omega arith in
      let tables_parent = ap (λ v. cond v (1 + length x.own.leaves) 0) live in
      let tables_child = cond_most (is_some c.life) (1 + length x.own.leaves) in
      let aside_parent : aside_at p ≡ 0 = ap (λ v. cond v (0 * n) 0) live ∙ omega arith in
      let none : ℕ = 0 * need_with c.exposed (length c.own.leaves) in
      let aside_child : aside_at c ≤ none = cond_most (is_some c.life) none in
      let zero : none ≡ 0 = omega arith in
      let k = new_count x.own 0 x.book.colours in
      let fresh = new_most x.own x.book.colours (omega (arith, ord.colours)) in
      let hides = h.halves.hides in
      let booked : id < length bs.list = omega (arith, within, places.books) in
      let placed : child < length bs.list = omega (arith, places.books) in
      let cb = book_of (child_colours x.own 0 x.book.colours bs.fresh) in
      let pb : Book = record x.book { stage = Ready } in
      let colours = colours_born bs id child pb cb k booked placed ne refl (λ y lt. times_child y bs.fresh x.own 0 x.book.colours lt) in
      let spares = born_spares bs id child pb cb (bs.fresh + k) booked placed ne refl refl in
      let room = sound.room in
      let room' : frames_used new ≤ s.frames = omega (arith, uses.0, uses.1, spares, colours, tables_old, tables_parent, tables_child, aside_old, aside_parent, aside_child, zero, fresh, hides, room) in
      let seats = two_seats (IsSoundAt s) st new id child p c sound.seats bears (λ l. record { halves = parent_halves (half_of x) h.halves; writes = tt; capped = later_capped s x.life x.own (parent_own x.own) h.capped refl refl (omega arith); sized = h.sized })
      (λ l. record { halves = child_halves child id (half_of x) h.halves; writes = tt; capped = child_capped s id x.life x.own (child_own child id x.own) h.capped (length-set x.own.pages 0 _) refl (omega arith); sized = length-set x.own.pages 0 _ ∙ h.sized ∙ child_size id x.life }) in
      subst (IsSound s) (sym did.0) (record { orderly = orderly; seats = seats; room = room' })

  steps_writes : (stage : Stage) (c : Command) → (left : ℕ) → stage ≡ Forking (suc left) → WritesWhere (stage_stepped stage) c
  steps_writes stage c left e = subst (λ v. WritesWhere (stage_stepped v) c) (sym e) tt

  free_room : free s st ≢ 0 → frames_used st + 1 ≤ s.frames
  free_room some = let is = free_is s st in omega (arith, is, some)

  pub move_sound : (mv : Move) → IsFresh x.book mv → (paused blocked : Bool) → Reasons (free s st) st.books x.own x.book (seat_command s x) paused blocked mv → IsSound s (move_turn s st id mv).state
  move_sound Rests fresh paused blocked why = sound
  move_sound StepsPage fresh paused blocked why =
      let room = sound.room in
      quiet_sound s well st id sound live (record x.book { stage = stage_stepped x.book.stage }) 1 (move_falls s well st id sound.orderly live StepsPage fresh).orderly refl (steps_writes x.book.stage (seat_command s x) fresh.0 fresh.1) (omega (arith, room))
  move_sound Commits fresh paused blocked why = commits_sound fresh
  move_sound Copies fresh paused blocked why =
      let room = sound.room in
      quiet_sound s well st id sound live (record x.book { stage = Copying }) 0 (move_falls s well st id sound.orderly live Copies fresh).orderly refl why (omega (arith, room))
  move_sound TakesSpare fresh paused blocked why =
      let room = free_room why.0 in
      let bare = ap bit why.1 in
      let h = sound.seats id live in
      quiet_sound s well st id sound live (record x.book { spare = true }) 0 (move_falls s well st id sound.orderly live TakesSpare fresh).orderly refl h.writes (omega (arith, room, bare))
  move_sound (Does told spends) fresh paused blocked why = line_sound s well st id sound live told spends fresh why.1

-- what a domain's move has its reasons in
pub reasons : (s : Script) (st : State) (id : ℕ) → IsSound s st → is_some (seat st id).life ≡ true
    → let m = st.machine in let c = next_command s m id in let x = seat st id in Reasons (free s st) st.books x.own x.book c (is_paused id m.shared) (is_blocked m.shared id c) (next_move s st id)
reasons s st id sound live =
    let m = st.machine in
    let x = seat st id in
    let c = next_command s m id in
    let h = sound.seats id live in
    move_reasons (free s st) st.books (is_paused id m.shared) (is_blocked m.shared id c) x.own x.book c x.book.stage h.writes

pub fresh : (s : Script) (st : State) (id : ℕ) → IsFresh (seat st id).book (next_move s st id)
fresh s st id =
    let m = st.machine in
    let x = seat st id in
    let c = next_command s m id in
    fresh_move (free s st) st.books (is_paused id m.shared) (is_blocked m.shared id c) x.own x.book c x.book.stage refl

domain_sound : (s : Script) → IsWellFormed s → (st : State) (id : ℕ) → IsSound s st → IsSound s (domain_turn s st id).state
domain_sound s well st id sound =
    let m = st.machine in
    let mv = next_move s st id in
    elim (is_live id m.shared.lives) as (λ b. is_live id m.shared.lives ≡ b → IsSound s (cond b (move_turn s st id mv) (nothing st)).state) [
      | true ↦ λ live. move_sound s well st id sound live mv (fresh s st id) (is_paused id m.shared) (is_blocked m.shared id (next_command s m id)) (reasons s st id sound live)
      | false ↦ λ e. sound
    ] refl

joins_sound : (s : Script) (st : State) (w : List Cloned) → IsSound s st → st.machine.shared.tables.waiting ≡ w → IsSound s (joins st w).state
joins_sound s st [] sound is = sound
joins_sound s st (w ∷ rest) sound is =
    let same = joins_seats st w rest in
    let new = (joins st (w ∷ rest)).state in
    let tables = ids_le (λ j. tables_at (seat st j)) (λ j. tables_at (seat new j)) (λ j lt. let e = ap tables_at (same j) in omega (arith, e)) in
    let asides = ids_le (λ j. aside_at (seat st j)) (λ j. aside_at (seat new j)) (λ j lt. let e = ap aside_at (same j) in omega (arith, e)) in
    let room = sound.room in
    let room' : frames_used new ≤ s.frames = omega (arith, tables, asides, room) in
    record {
      orderly = (joins_falls s st (w ∷ rest) sound.orderly is).orderly;
      seats = λ j l. subst (IsSoundAt s) (sym (same j)) (sound.seats j (ap (λ (v : Seat). is_some v.life) (sym (same j)) ∙ l));
      room = room';
    }

pub turn_sound : (s : Script) → IsWellFormed s → (st : State) (a : Actor) → IsSound s st → IsSound s (turn s st a).state
turn_sound s well st (actor.Dom id) sound = domain_sound s well st id sound
turn_sound s well st actor.Daemon sound = joins_sound s st st.machine.shared.tables.waiting sound refl
turn_sound s well st actor.Console sound = sound
turn_sound s well st actor.Net sound = sound
turn_sound s well st actor.P9 sound = sound

pub turns_sound : (s : Script) → IsWellFormed s → (st : State) (actors : List Actor) → IsSound s st → IsSound s (turns s st actors).state
turns_sound s well st [] sound = sound
turns_sound s well st (a ∷ rest) sound =
    let one = turn s st a in
    elim (is_over st.machine) as (λ b. IsSound s (cond b (nothing st) (before one (turns s one.state rest))).state) [
      | true ↦ sound
      | false ↦ turns_sound s well one.state rest (turn_sound s well st a sound)
    ]
