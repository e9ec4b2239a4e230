-- A round in which every turn did nothing is one of a stalled machine.
use Rattle.std.proofs.Common.{◌≡◌, ℕ, zero, suc, ◌-◌, ◌<◌, Bool, true, false, cond, ◌||◌, ◌&&◌, List, [], ◌∷◌, length, get_or, map, Option, Some, None, All, refl, sym, ap, ◌∙◌, arith}
use Rattle.std.specs.List.{range_with_len}
use Rattle.std.specs.Option.{is_some}
use Rattle.std.specs.Prelude.{◌==◌, ⊤}
use Rattle.std.proofs.lemmas.Bool.{false≢true, or_parts, eqb-false}
use Rattle.std.proofs.lemmas.List.{length-append, get_or_append_left, get_or_at}
use Rattle.std.proofs.lemmas.List.FromFn.{length-map-range_with_len, get_or-map-range_with_len}
use Rattle.std.proofs.lemmas.List.Sums.{sum_by-cons}
use Rattle.std.proofs.lemmas.List.Elements.{All-nil, All-cons}
use Rattle.neph_base.specs.declared.command.Command.{Command}
use Rattle.neph_base.specs.declared.command.Command.TheVariants as command
use Rattle.neph_base.specs.declared.reply.Actor.{Actor}
use Rattle.neph_base.specs.declared.reply.Actor.TheVariants as actor
use Rattle.neph_model.specs.declared.own.Own.{Own}
use Rattle.neph_model.specs.declared.script.Script.{Script}
use Rattle.neph_model.specs.declared.life.Life.{Life}
use Rattle.neph_model.specs.declared.life.Cloned.{Cloned}
use Rattle.neph_model.specs.declared.book.Book.{Book}
use Rattle.neph_model.specs.declared.book.Stage.{Stage}
use Rattle.neph_model.specs.declared.book.Stage.TheVariants.{Ready, Copying, Forking}
use Rattle.neph_model.specs.declared.book.Move.{Move}
use Rattle.neph_model.specs.declared.book.Move.TheVariants.{Rests, StepsPage, Commits, Copies, TakesSpare, Does}
use Rattle.neph_model.specs.declared.book.Spends.{Spends}
use Rattle.neph_model.specs.declared.book.Spends.TheVariants.{Nothing, Leaf, Copy}
use Rattle.neph_model.specs.declared.told.Told.TheVariants.{Enough, Short}
use Rattle.neph_model.specs.WellFormed.{IsWellFormed}
use Rattle.neph_model.specs.Machine.{is_live, is_over, live_count}
use Rattle.neph_model.specs.Own.{mapping_at, is_bad_pfn, has_leaf}
use Rattle.neph_model.specs.Trap.{is_blocked}
use Rattle.neph_model.specs.Step.{is_paused, is_some_left, awaits_join}
use Rattle.neph_model.specs.Books.{Books, State, free}
use Rattle.neph_model.specs.Turns.{nothing, with_frame, page_to_copy, copy_move, copying_move, ready_move, stage_move, next_command, next_move, move_turn, turn, turns, round}
use Rattle.neph_model.specs.Run.{IsStalled}
use Rattle.neph_runs.specs.Orderly.{seat, ForksWell, IsOrderly}
use Rattle.neph_runs.proofs.Falls.{next_id}
use Rattle.neph_runs.proofs.Turning.{turn_falls, joins}

-- where no turn did anything, each of the actors had nothing to do
pub all_idle : (s : Script) → IsWellFormed s → (st : State) (actors : List Actor) → IsOrderly st → is_over st.machine ≡ false → (turns s st actors).moved ≡ false → All (λ a. (turn s st a).moved ≡ false) actors
all_idle s well st [] orderly live e = All-nil (λ a. (turn s st a).moved ≡ false)
all_idle s well st (a ∷ rest) orderly live e =
    let one = turn s st a in
    let whole : one.moved || (turns s one.state rest).moved ≡ false = rw live at e in
    let both = or_parts one.moved (turns s one.state rest).moved whole in
    let same : (turns s st rest).moved ≡ false = rw ((turn_falls s well st a orderly).same both.0) at both.1 in
    All-cons (λ a. (turn s st a).moved ≡ false) a rest both.0 (all_idle s well st rest orderly live same)

-- some domain is live, where not none is
pub some_live : (ls : List (Option Life)) → 0 < live_count ls → (i : ℕ) × (is_some (get_or ls i None) ≡ true)
some_live [] lt = absurd (omega arith)
some_live (Some l ∷ ls) lt = (0, refl)
some_live (None ∷ ls) lt =
    let next : (i : ℕ) × (is_some (get_or ls i None) ≡ true) = some_live ls (omega (arith, sum_by-cons (λ (o : Option Life). cond (is_some o) 1 0) None ls)) in
    (suc next.0, next.1)

doms : List Actor
doms = map actor.Dom (range_with_len 1 63)

doms_length : length doms ≡ 63
unfolding doms
doms_length = length-map-range_with_len actor.Dom 1 63

dom_in_round : (n : ℕ) (a : Actor) → 0 < n → n < 64 → (n - 1 < length round) × (get_or round (n - 1) a ≡ actor.Dom n)
unfolding round doms
dom_in_round n a low high =
    let backs : List Actor = actor.Daemon ∷ actor.Console ∷ actor.Net ∷ actor.P9 ∷ [] in
    let place : n - 1 < 63 = omega arith in
    let within : n - 1 < length doms = omega (arith, doms_length) in
    (omega (arith, length-append doms backs, doms_length), get_or_append_left doms backs a (n - 1) within ∙ get_or-map-range_with_len actor.Dom 1 63 (n - 1) n a place (omega arith))

daemon_in_round : (a : Actor) → (63 < length round) × (get_or round 63 a ≡ actor.Daemon)
unfolding round doms
daemon_in_round a =
    let backs : List Actor = actor.Console ∷ actor.Net ∷ actor.P9 ∷ [] in
    (omega (arith, length-append doms (actor.Daemon ∷ backs), doms_length), get_or_at doms actor.Daemon backs a 63 doms_length)

none_waits : (st : State) (w : List Cloned) → (joins st w).moved ≡ false → w ≡ []
none_waits st [] e = refl
none_waits st (w ∷ rest) e = absurd (false≢true (sym e))

-- a move that is no rest
abbrev Moves : Move → Type 0
Moves Rests = ⊥
Moves _ = ⊤

move_moves : (s : Script) (st : State) (id : ℕ) (mv : Move) → Moves mv → (move_turn s st id mv).moved ≡ true
move_moves s st id Rests h = absurd h
move_moves s st id StepsPage h = refl
move_moves s st id Commits h = refl
move_moves s st id Copies h = refl
move_moves s st id TakesSpare h = refl
move_moves s st id (Does told spends) h = refl

moves_either : (b : Bool) (x y : Move) → Moves x → Moves y → Moves (cond b x y)
moves_either true x y h k = h
moves_either false x y h k = k

moves_frame : (n : ℕ) (b : Book) (spends : Spends) → Moves (with_frame n b spends)
moves_frame n b spends = moves_either b.spare (Does Enough spends) (cond (n == 0) (Does Short Nothing) TakesSpare) tt (moves_either (n == 0) (Does Short Nothing) TakesSpare tt tt)

moves_copy : (n : ℕ) (b : Book) (page : Option ℕ) → Moves (copy_move n b page)
moves_copy n b None = tt
moves_copy n b (Some pfn) = moves_frame n b (Copy pfn)

moves_copying : (n : ℕ) (bs : Books) (o : Own) (b : Book) (c : Command) → Moves (copying_move n bs o b c)
moves_copying n bs o b (command.W addr bytes) = moves_copy n b (page_to_copy bs o b (mapping_at o addr))
moves_copying n bs o b _ = tt

moves_ready : (n : ℕ) (bs : Books) (o : Own) (b : Book) (c : Command) → Moves (ready_move n bs o b c)
moves_ready n bs o b (command.W addr bytes) = moves_either (is_some (page_to_copy bs o b (mapping_at o addr))) Copies (Does Enough Nothing) tt tt
moves_ready n bs o b (command.Map vpn pfn mode) = moves_either (is_bad_pfn o pfn mode || has_leaf o vpn) (Does Enough Nothing) (with_frame n b Leaf) tt (moves_frame n b Leaf)
moves_ready n bs o b _ = tt

-- A domain whose turn did nothing is paused, or its command is blocked, and it has begun no clone.
rests_by : (s : Script) (st : State) (id : ℕ) (n : ℕ) (bs : Books) (paused blocked : Bool) (o : Own) (b : Book) (c : Command) (stage : Stage) (next : ℕ) (begun : List ℕ) → ForksWell id next begun stage
    → (move_turn s st id (stage_move n bs paused blocked o b c stage)).moved ≡ false → (begun ≡ []) × (paused || blocked ≡ true)
rests_by s st id n bs paused blocked o b c (Forking (suc left)) next begun f e = absurd (false≢true (sym e))
rests_by s st id n bs paused blocked o b c (Forking zero) next begun f e = absurd (false≢true (sym e))
rests_by s st id n bs true blocked o b c Copying next begun f e = (f, refl)
rests_by s st id n bs false blocked o b c Copying next begun f e = absurd (false≢true (sym e ∙ move_moves s st id (copying_move n bs o b c) (moves_copying n bs o b c)))
rests_by s st id n bs true blocked o b c Ready next begun f e = (f, refl)
rests_by s st id n bs false true o b c Ready next begun f e = (f, refl)
rests_by s st id n bs false false o b c Ready next begun f e = absurd (false≢true (sym e ∙ move_moves s st id (ready_move n bs o b c) (moves_ready n bs o b c)))

-- what is so of a domain whose turn did nothing, where no clone waits
rests_blocked : (s : Script) (st : State) (id : ℕ) → IsOrderly st → is_live id st.machine.shared.lives ≡ true → st.machine.shared.tables.waiting ≡ [] → (turn s st (actor.Dom id)).moved ≡ false
    → (is_paused id st.machine.shared ≡ false) × (is_blocked st.machine.shared id (next_command s st.machine id) ≡ true)
rests_blocked s st id orderly live none e =
    let m = st.machine in
    let x = seat st id in
    let c = next_command s m id in
    let paused = is_paused id m.shared in
    let blocked = is_blocked m.shared id c in
    let h = orderly.seats id live in
    let here : (move_turn s st id (next_move s st id)).moved ≡ false = sym (ap (λ b. (cond b (move_turn s st id (next_move s st id)) (nothing st)).moved) live) ∙ e in
    let both = rests_by s st id (free s st) st.books paused blocked x.own x.book c x.book.stage (next_id st) x.guest.begun h.forks here in
    let runs : paused ≡ false =
    ap (λ l. is_some_left {X = ℕ} l || awaits_join id m.shared.tables.waiting) both.0 ∙ ap (λ l. awaits_join id l) none in
    (runs, sym (ap (λ b. b || blocked) runs) ∙ both.1)

pub stalls : (s : Script) → IsWellFormed s → (st : State) → IsOrderly st → is_over st.machine ≡ false → (turns s st round).moved ≡ false → IsStalled s st.machine
stalls s well st orderly over idle =
    let m = st.machine in
    let still = all_idle s well st round orderly over idle in
    let daemon = daemon_in_round actor.Daemon in
    let quiet : (turn s st actor.Daemon).moved ≡ false = rw daemon.1 at (still 63 actor.Daemon daemon.0) in
    let none : m.shared.tables.waiting ≡ [] = none_waits st m.shared.tables.waiting quiet in
    let rests : (id : ℕ) → is_live id m.shared.lives ≡ true → (is_paused id m.shared ≡ false) × (is_blocked m.shared id (next_command s m id) ≡ true) = λ id live.
    let h = orderly.seats id live in
    let high = orderly.high in
    let dom = dom_in_round id actor.Daemon h.low (omega (arith, h.high)) in
    rests_blocked s st id orderly live none (rw dom.1 at (still (id - 1) actor.Daemon dom.0)) in
    record {
      live = over;
      running = λ id live. (rests id live).0;
      blocked = λ id live. (rests id live).1;
      daemon = ap (λ l. is_some_left {X = Cloned} l && true) none;
    }

-- some domain of a machine that isn't over is live
pub one_live : (st : State) → is_over st.machine ≡ false → (id : ℕ) × (is_live id st.machine.shared.lives ≡ true)
one_live st over = let ne = eqb-false (live_count st.machine.shared.lives) 0 over in some_live st.machine.shared.lives (omega (arith, ne))
