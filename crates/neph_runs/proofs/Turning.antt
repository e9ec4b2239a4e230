-- Each turn falls: each move, the turns of the daemon, and some turns in order.
use Rattle.std.proofs.Common.{◌≡◌, ◌≢◌, ℕ, zero, suc, ◌+◌, ◌*◌, ◌<◌, ◌≤◌, Bool, true, false, cond, ◌||◌, ◌&&◌, List, [], ◌∷◌, length, set, Option, Some, None, refl, sym, ap, subst, ◌∙◌, arith}
use Rattle.std.specs.Prelude.{⊤, ◌==◌}
use Rattle.std.specs.Option.{is_some}
use Rattle.std.proofs.lemmas.Bool.{false≢true, or_parts}
use Rattle.std.proofs.lemmas.List.{length-set, length-append, set-get_or}
use Rattle.neph_base.specs.declared.command.Command.{Command}
use Rattle.neph_base.specs.declared.command.Command.TheVariants as command
use Rattle.neph_base.specs.declared.reply.Actor.{Actor}
use Rattle.neph_base.specs.declared.reply.Actor.TheVariants as actor
use Rattle.neph_base.specs.declared.reply.Entry.TheVariants as entry
use Rattle.neph_model.specs.declared.own.Own.{Own}
use Rattle.neph_model.specs.declared.script.Script.{Script}
use Rattle.neph_model.specs.declared.life.Life.{Life}
use Rattle.neph_model.specs.declared.life.Cloned.{Cloned}
use Rattle.neph_model.specs.declared.book.Book.{Book}
use Rattle.neph_model.specs.declared.book.Stage.{Stage}
use Rattle.neph_model.specs.declared.book.Stage.TheVariants.{Ready, Copying, Forking}
use Rattle.neph_model.specs.declared.book.Move.{Move}
use Rattle.neph_model.specs.declared.book.Move.TheVariants.{Rests, StepsPage, Commits, Copies, TakesSpare, Does}
use Rattle.neph_model.specs.declared.book.Spends.{Spends}
use Rattle.neph_model.specs.declared.book.Spends.TheVariants.{Nothing, Leaf, Copy}
use Rattle.neph_model.specs.declared.told.Told.TheVariants.{Enough, Short}
use Rattle.neph_model.specs.WellFormed.{IsWellFormed}
use Rattle.neph_model.specs.Machine.{no_own, own_at, is_live, is_over}
use Rattle.neph_model.specs.Own.{mapping_at, is_bad_pfn, has_leaf}
use Rattle.neph_model.specs.Trap.{is_blocked}
use Rattle.neph_model.specs.Step.{shared_join, is_paused, is_some_left}
use Rattle.neph_model.specs.Books.{Books, State, free, put_book, child_colours, goes_shared}
use Rattle.neph_model.specs.Turns.{Done, nothing, quietly, noting, page_to_copy, with_frame, copy_move, copying_move, ready_move, stage_move, next_command, next_move, stage_stepped, commit_turn, move_turn, domain_turn, entry_turn, turn, before, turns}
use Rattle.neph_runs.specs.Orderly.{Seat, seat, ForksWell, IsOrderlyAt, IsOrderly}
use Rattle.neph_runs.proofs.Sums.{same_or, ids_le, ids_two}
use Rattle.neph_runs.specs.Work.{lines_left, spare_left, stage_work, size_by, work_at, work_left}
use Rattle.neph_runs.proofs.Births.{parent_seat, child_seat, born, commit_born, bears}
use Rattle.neph_runs.proofs.Falls.{Falls, AtLine, next_id, waits, rests, works, quiet_falls, line_falls, spare_small, live_work}

pub child_size : (o : Own) (pfn : ℕ) (colours : List ℕ) (fresh : ℕ) → length (child_colours o pfn colours fresh) ≡ length colours
child_size o pfn [] fresh = refl
child_size o pfn (c ∷ cs) fresh =
    elim (goes_shared o pfn) as (λ b. length (cond b (c ∷ child_colours o (suc pfn) cs fresh) (fresh ∷ child_colours o (suc pfn) cs (fresh + 1))) ≡ suc (length cs)) [
      | true ↦ ap suc (child_size o (suc pfn) cs fresh)
      | false ↦ ap suc (child_size o (suc pfn) cs (fresh + 1))
    ]

-- what a child may still do
born_work : (s : Script) (id child fresh : ℕ) (x : Seat) (life : Option Life) → x.life ≡ life → work_at s (child_seat id child fresh x) ≤ 4 * lines_left (size_by s x.life) (x.own.line + 1) + 2
born_work s id child fresh x None e = rw e (omega arith)
born_work s id child fresh x (Some l) e = rw e (omega arith)

-- a move that has its reason in the stage
abbrev pub IsFresh : Book → Move → Type 0
IsFresh b Rests = ⊤
IsFresh b StepsPage = (left : ℕ) × (b.stage ≡ Forking (suc left))
IsFresh b Commits = b.stage ≡ Forking zero
IsFresh b Copies = b.stage ≡ Ready
IsFresh b TakesSpare = AtLine b.stage × (b.spare ≡ false)
IsFresh b (Does told spends) = AtLine b.stage

fresh_either : (b : Book) (v : Bool) (x y : Move) → IsFresh b x → IsFresh b y → IsFresh b (cond v x y)
fresh_either b true x y h k = h
fresh_either b false x y h k = k

fresh_frame : (n : ℕ) (b : Book) (spends : Spends) → AtLine b.stage → IsFresh b (with_frame n b spends)
fresh_frame n b spends at =
    let lacks : Move = cond (n == 0) (Does Short Nothing) TakesSpare in
    elim b.spare as (λ v. b.spare ≡ v → IsFresh b (cond v (Does Enough spends) lacks)) [
      | true ↦ λ e. at
      | false ↦ λ e. fresh_either b (n == 0) (Does Short Nothing) TakesSpare at (at, e)
    ] refl

fresh_copy : (n : ℕ) (b : Book) (page : Option ℕ) → AtLine b.stage → IsFresh b (copy_move n b page)
fresh_copy n b None at = at
fresh_copy n b (Some pfn) at = fresh_frame n b (Copy pfn) at

fresh_copying : (n : ℕ) (bs : Books) (o : Own) (b : Book) (c : Command) → AtLine b.stage → IsFresh b (copying_move n bs o b c)
fresh_copying n bs o b (command.W addr bytes) at = fresh_copy n b (page_to_copy bs o b (mapping_at o addr)) at
fresh_copying n bs o b _ at = at

fresh_ready : (n : ℕ) (bs : Books) (o : Own) (b : Book) (c : Command) → b.stage ≡ Ready → AtLine b.stage → IsFresh b (ready_move n bs o b c)
fresh_ready n bs o b (command.W addr bytes) e at = fresh_either b (is_some (page_to_copy bs o b (mapping_at o addr))) Copies (Does Enough Nothing) e at
fresh_ready n bs o b (command.Map vpn pfn mode) e at = fresh_either b (is_bad_pfn o pfn mode || has_leaf o vpn) (Does Enough Nothing) (with_frame n b Leaf) at (fresh_frame n b Leaf at)
fresh_ready n bs o b _ e at = at

pub fresh_move : (n : ℕ) (bs : Books) (paused blocked : Bool) (o : Own) (b : Book) (c : Command) (stage : Stage) → b.stage ≡ stage → IsFresh b (stage_move n bs paused blocked o b c stage)
fresh_move n bs paused blocked o b c (Forking (suc left)) e = (left, e)
fresh_move n bs paused blocked o b c (Forking zero) e = e
fresh_move n bs paused blocked o b c Copying e = fresh_either b paused Rests (copying_move n bs o b c) tt (fresh_copying n bs o b c (subst AtLine (sym e) tt))
fresh_move n bs paused blocked o b c Ready e = fresh_either b (paused || blocked) Rests (ready_move n bs o b c) tt (fresh_ready n bs o b c e (subst AtLine (sym e) tt))

spare_one : (b : Book) → b.spare ≡ false → spare_left b ≡ 1
spare_one b e = ap (λ v. cond {A = ℕ} v 0 1) e

spare_less : (lines : ℕ) (b : Book) (stage : Stage) → AtLine stage → b.spare ≡ false → stage_work lines (record b { spare = true }) stage < stage_work lines b stage
spare_less lines b Ready at e = let one = spare_one b e in omega (arith, one)
spare_less lines b Copying at e = let one = spare_one b e in omega (arith, one)
spare_less lines b (Forking left) at e = absurd at

module _ (s : Script) (well : IsWellFormed s) (st : State) (id : ℕ) (orderly : IsOrderly st) (live : is_some (seat st id).life ≡ true) where
  abbrev x : Seat
  x = seat st id

  is_orderly : IsOrderlyAt id (next_id st) x
  is_orderly = orderly.seats id live

  -- the child that is begun, before its commit
  pub forked : (left : ℕ) → x.book.stage ≡ Forking left → ForksWell id (next_id st) x.guest.begun (Forking left)
  forked left e = let h = is_orderly in subst (ForksWell id (next_id st) x.guest.begun) e h.forks

  steps_falls : (left : ℕ) → x.book.stage ≡ Forking (suc left) → Falls s st (move_turn s st id StepsPage)
  steps_falls left e =
      let b = x.book in
      let was = ap (stage_work (lines_left (size_by s x.life) x.own.line) b) e in
      subst (λ stage. Falls s st (quietly st (put_book id (record b { stage = stage_stepped stage }) st.books) 1)) (sym e) (quiet_falls s well st id orderly live (record b { stage = Forking left }) 1 refl (forked (suc left) e) (omega (arith, was)))

  copies_falls : x.book.stage ≡ Ready → Falls s st (move_turn s st id Copies)
  copies_falls e =
      let b = x.book in
      let h = is_orderly in
      let was = ap (stage_work (lines_left (size_by s x.life) x.own.line) b) e in
      quiet_falls s well st id orderly live (record b { stage = Copying }) 0 refl (subst (ForksWell id (next_id st) x.guest.begun) e h.forks) (omega (arith, was))

  spare_falls : AtLine x.book.stage → x.book.spare ≡ false → Falls s st (move_turn s st id TakesSpare)
  spare_falls at e =
      let b = x.book in
      let h = is_orderly in
      quiet_falls s well st id orderly live (record b { spare = true }) 0 refl h.forks (spare_less (lines_left (size_by s x.life) x.own.line) b b.stage at e)

  commits_falls : x.book.stage ≡ Forking zero → Falls s st (move_turn s st id Commits)
  commits_falls e =
      let fork = forked zero e in
      let child = fork.0 in
      let begun = fork.1.0 in
      let after : id < child = fork.1.1 in
      let below : child < next_id st = fork.1.2 in
      let h = is_orderly in
      let new = born s st id child in
      let did = commit_born s st id child begun in
      let high = orderly.high in
      let within : id < 64 = omega arith in
      let ne : id ≢ child = λ e. absurd (omega arith) in
      let bears = bears s st id child orderly.places within (omega arith) ne in
      let p = parent_seat x in
      let c = child_seat id child st.books.fresh x in
      let fresh_parent : IsOrderlyAt id (next_id st) p = record { low = h.low; high = h.high; forks = refl; pages = h.pages; colours = h.colours } in
      let size = length-set x.own.pages 0 _ in
      let fresh_child : IsOrderlyAt child (next_id st) c =
      record { low = omega (arith, h.low); high = below; forks = refl; pages = omega (arith, size, h.pages); colours = child_size x.own 0 x.book.colours st.books.fresh ∙ h.colours ∙ sym size } in
      let seats : (j : ℕ) → is_some (seat new j).life ≡ true → IsOrderlyAt j (next_id st) (seat new j) = λ j.
      same_or {P = is_some (seat new j).life ≡ true → IsOrderlyAt j (next_id st) (seat new j)} j id
      (λ e l. subst (λ i. IsOrderlyAt i (next_id st) (seat new j)) (sym e) (subst (IsOrderlyAt id (next_id st)) (sym (ap (seat new) e ∙ bears.parent_is)) fresh_parent))
      (λ off.
      same_or {P = is_some (seat new j).life ≡ true → IsOrderlyAt j (next_id st) (seat new j)} j child
      (λ e l. subst (λ i. IsOrderlyAt i (next_id st) (seat new j)) (sym e) (subst (IsOrderlyAt child (next_id st)) (sym (ap (seat new) e ∙ bears.child_is)) fresh_child))
      (λ away l.
      let is = bears.others j off away in
      subst (IsOrderlyAt j (next_id st)) (sym is) (orderly.seats j (ap (λ (v : Seat). is_some v.life) (sym is) ∙ l)))) in
      let f : ℕ → ℕ = λ j. work_at s (seat st j) in
      let g : ℕ → ℕ = λ j. work_at s (seat new j) in
      let child_work = ap (work_at s) bears.child_is in
      let most = born_work s id child st.books.fresh x x.life refl in
      let k : ℕ = 4 * lines_left (size_by s x.life) (x.own.line + 1) + 2 in
      let sums = ids_two f g id child k within ne (omega (arith, child_work, most)) (λ j off away. let is = ap (work_at s) (bears.others j off away) in omega (arith, is)) in
      let was = live_work s x live in
      let stage = ap (stage_work (lines_left (size_by s x.life) x.own.line) x.book) e in
      let parent_work = ap (work_at s) bears.parent_is in
      let is = live_work s p live in
      let small = spare_small x.book in
      let wait : waits new ≡ waits st + 1 = length-append st.machine.shared.tables.waiting _ in
      let sound : IsOrderly new = record { places = bears.places; low = orderly.low; high = orderly.high; seats = seats } in
      let less : work_left s new < work_left s st = omega (arith, sums, was, stage, parent_work, is, small, wait) in
      works s st (commit_turn s st id) did.1 (subst IsOrderly (sym did.0) sound) (subst (λ v. work_left s v < work_left s st) (sym did.0) less)

  pub move_falls : (mv : Move) → IsFresh x.book mv → Falls s st (move_turn s st id mv)
  move_falls Rests fresh = rests s st orderly
  move_falls StepsPage fresh = steps_falls fresh.0 fresh.1
  move_falls Commits fresh = commits_falls fresh
  move_falls Copies fresh = copies_falls fresh
  move_falls TakesSpare fresh = spare_falls fresh.0 fresh.1
  move_falls (Does told spends) fresh = line_falls s well st id orderly live told spends fresh

domain_falls : (s : Script) → IsWellFormed s → (st : State) (id : ℕ) → IsOrderly st → Falls s st (domain_turn s st id)
domain_falls s well st id orderly =
    let x = seat st id in
    let m = st.machine in
    let c = next_command s m id in
    let mv = next_move s st id in
    elim (is_live id m.shared.lives) as (λ b. is_live id m.shared.lives ≡ b → Falls s st (cond b (move_turn s st id mv) (nothing st))) [
      | true ↦ λ live. move_falls s well st id orderly live mv (fresh_move (free s st) st.books (is_paused id m.shared) (is_blocked m.shared id c) x.own x.book c x.book.stage refl)
      | false ↦ λ e. rests s st orderly
    ] refl

-- the daemon's entry, where these clones wait
abbrev pub joins : State → List Cloned → Done
joins st w =
    let did = shared_join st.machine.shared w in
    cond (is_some_left w && true) (noting entry.Daemon (record { machine = record st.machine { own = set st.machine.own 0 (own_at 0 st.machine.own); shared = did.shared }; reply = did.reply }) st.books) (nothing st)

daemon_joins : (s : Script) (st : State) → entry_turn s st entry.Daemon ≡ joins st st.machine.shared.tables.waiting
daemon_joins s st = refl

-- a second stage leaves every seat as it was
pub joins_seats : (st : State) (w : Cloned) (rest : List Cloned) (j : ℕ) → seat (joins st (w ∷ rest)).state j ≡ seat st j
joins_seats st w rest j = ap (λ l. record { own = own_at j l; life = (seat st j).life; guest = (seat st j).guest; exposed = (seat st j).exposed; book = (seat st j).book }) (set-get_or st.machine.own 0 no_own)

pub joins_falls : (s : Script) (st : State) (w : List Cloned) → IsOrderly st → st.machine.shared.tables.waiting ≡ w → Falls s st (joins st w)
joins_falls s st [] orderly is = rests s st orderly
joins_falls s st (w ∷ rest) orderly is =
    let fewer : waits st ≡ suc (length rest) = ap (λ l. length l) is in
    let p = orderly.places in
    let new = (joins st (w ∷ rest)).state in
    let seats : (j : ℕ) → seat new j ≡ seat st j = joins_seats st w rest in
    let left = ids_le (λ j. work_at s (seat st j)) (λ j. work_at s (seat new j)) (λ j lt. let e = ap (work_at s) (seats j) in omega (arith, e)) in
    works s st (joins st (w ∷ rest)) refl
    (record {
      places = record { own = length-set st.machine.own 0 (own_at 0 st.machine.own) ∙ p.own; lives = p.lives; guests = p.guests; exposed = p.exposed; books = p.books };
      low = orderly.low;
      high = orderly.high;
      seats = λ j l. subst (IsOrderlyAt j (next_id st)) (sym (seats j)) (orderly.seats j (ap (λ (v : Seat). is_some v.life) (sym (seats j)) ∙ l));
    })
    (omega (arith, fewer, left))

pub turn_falls : (s : Script) → IsWellFormed s → (st : State) (a : Actor) → IsOrderly st → Falls s st (turn s st a)
turn_falls s well st (actor.Dom id) orderly = domain_falls s well st id orderly
turn_falls s well st actor.Daemon orderly = joins_falls s st st.machine.shared.tables.waiting orderly refl
turn_falls s well st actor.Console orderly = rests s st orderly
turn_falls s well st actor.Net orderly = rests s st orderly
turn_falls s well st actor.P9 orderly = rests s st orderly

less_by : (a b : Bool) (after mid before : ℕ) → (a ≡ true → mid < before) → (a ≡ false → mid ≡ before) → (b ≡ true → after < mid) → (b ≡ false → after ≡ mid) → a || b ≡ true → after < before
less_by true true after mid before p q r t e = omega (arith, p refl, r refl)
less_by true false after mid before p q r t e = omega (arith, p refl, t refl)
less_by false true after mid before p q r t e = omega (arith, q refl, r refl)
less_by false false after mid before p q r t e = absurd (false≢true e)

pub turns_fall : (s : Script) → IsWellFormed s → (st : State) (actors : List Actor) → IsOrderly st → Falls s st (turns s st actors)
turns_fall s well st [] orderly = rests s st orderly
turns_fall s well st (a ∷ rest) orderly =
    let one = turn s st a in
    let fell = turn_falls s well st a orderly in
    let more = turns s one.state rest in
    let fall = turns_fall s well one.state rest fell.orderly in
    let first : one.moved ≡ false → work_left s one.state ≡ work_left s st = λ (e : one.moved ≡ false). ap (work_left s) (fell.same e) in
    let then : more.moved ≡ false → work_left s more.state ≡ work_left s one.state = λ (e : more.moved ≡ false). ap (work_left s) (fall.same e) in
    elim (is_over st.machine) as (λ b. Falls s st (cond b (nothing st) (before one more))) [
      | true ↦ rests s st orderly
      | false ↦ record {
        orderly = fall.orderly;
        smaller = λ e. less_by one.moved more.moved (work_left s more.state) (work_left s one.state) (work_left s st) fell.smaller first fall.smaller then e;
        same = λ e. let both = or_parts one.moved more.moved e in fall.same both.1 ∙ fell.same both.0;
      }
    ]
