-- Machines that stand for the states of a script's run, and their courses.
use Rattle.std.proofs.Common.{◌≡◌, ℕ, ◌<◌, ◌+◌, ◌++◌, ◌||◌, ◌&&◌, ◌≤◌, arith, Bool, true, false, List, [], ◌∷◌, length, drop, refl, sym, ap, subst, ◌∙◌}
use Rattle.std.proofs.lemmas.List.{append-nil}
use Rattle.std.specs.declared.result.Result.{Result}
use Rattle.std.specs.declared.result.Result.TheVariants.{Ok, Err}
use Rattle.std.specs.Result.{IsErr}
use Rattle.neph_base.specs.declared.memory.NoMemory.{NoMemory}
use Rattle.neph_base.specs.declared.reply.Actor.{Actor}
use Rattle.neph_base.specs.declared.reply.Actor.TheVariants.{Dom, Daemon}
use Rattle.neph_base.specs.declared.reply.Noted.{Noted}
use Rattle.neph_model.specs.declared.script.Script.{Script}
use Rattle.neph_model.specs.WellFormed.{IsWellFormed}
use Rattle.neph_model.specs.Machine.{Shared, is_over}
use Rattle.neph_model.specs.Step.{is_some_left}
use Rattle.neph_model.specs.Books.{State}
use Rattle.neph_model.specs.Turns.{Done, nothing, turn, turns, round}
use Rattle.neph_runs.specs.Orderly.{IsOrderly}
use Rattle.neph_runs.specs.Work.{work_left}
use Rattle.neph_pool.specs.Plain.{plain_world}
use Rattle.neph_print.specs.Course.{Tells}
use Rattle.neph_rows.specs.Live.{IsNoneLive, IsFirstLive}
use Rattle.neph_machine.specs.declared.turn.Turn.{Turn}
use Rattle.neph_machine.specs.Reached.{state_after}
use Rattle.neph_machine.specs.StandsFor.{StandsFor}
use Rattle.neph_machine.specs.Turned.{did_move, entry_of, Took, Lacked}
use Rattle.neph_machine.proofs.Reached.{reached}
use Rattle.neph_turns.proofs.Work.{machine_left, work_is}
use Rattle.neph_core.specs.declared.machine.Machine.{Machine}
use Rattle.neph_core.specs.Course.{Course, Stands, Starts, course, entries_after}
use Rattle.neph_core.specs.Does.{Goes, Lacks, GoesOrLacks}
use Rattle.neph_core.specs.Plays.{EndsRun}
use Rattle.neph_core.proofs.Courses.{SoFar, at_start, one_more, passes, ends, ends_over, ends_all, Reached, IsGoing, at_first, one_round, less_left, at_stall, at_end}
use Rattle.neph_core.proofs.Passing.{backends, backends_rest, daemon_rests, round_from, round_is, one_of_round, none_live_passed, goes_on_live}

-- each state of a run is in order
orderly : (s : Script) → IsWellFormed s → (before : List Actor) → IsOrderly (state_after s before)
orderly s well before = (reached s well before).sound.orderly

module _ (old new : Machine) (before : List Actor) where
  -- a turn of the machine over frames, whose entry the transcript tells behind the others
  pub goes : (a : Actor) (t : Turn) → Took plain_world old.frames new.frames (turn old.frames.script (state_after old.frames.script before) a) t
      → Tells old.frames.script new.transcript (entries_after old.frames.script before ++ entry_of t)
      → Goes old new before (turn old.frames.script (state_after old.frames.script before) a) (did_move t)
  goes a t took told =
      let here : Tells old.frames.script new.transcript (entries_after old.frames.script (a ∷ before)) =
      subst (λ (xs : List Noted). Tells old.frames.script new.transcript (entries_after old.frames.script before ++ xs)) took.entry told in
      record {
        after = a ∷ before;
        stands = record {
          frames = subst (λ (s : Script). StandsFor plain_world new.frames (state_after s (a ∷ before))) (sym took.script) took.stands;
          tells = subst (λ (s : Script). Tells s new.transcript (entries_after s (a ∷ before))) (sym took.script) here;
        };
        does = record {
          script = took.script;
          state = ap (λ (s : Script). state_after s (a ∷ before)) took.script;
          history = ap (λ (s : Script). entries_after s (a ∷ before)) took.script;
          shares = took.shares;
          told = took.moved;
        };
      }

  pub goes_as : (a : Actor) (t u : Turn) → t ≡ u → Took plain_world old.frames new.frames (turn old.frames.script (state_after old.frames.script before) a) t
      → Tells old.frames.script new.transcript (entries_after old.frames.script before ++ entry_of u)
      → Goes old new before (turn old.frames.script (state_after old.frames.script before) a) (did_move u)
  goes_as a t u e took told = goes a u (subst (Took plain_world old.frames new.frames (turn old.frames.script (state_after old.frames.script before) a)) e took) told

  -- the same, where it made no entry
  pub goes_quietly : (a : Actor) (t u : Turn) → t ≡ u → entry_of u ≡ [] → Took plain_world old.frames new.frames (turn old.frames.script (state_after old.frames.script before) a) t
      → Tells old.frames.script new.transcript (entries_after old.frames.script before)
      → Goes old new before (turn old.frames.script (state_after old.frames.script before) a) (did_move u)
  goes_quietly a t u e none took told =
      let entries = entries_after old.frames.script before in
      goes_as a t u e took (subst (Tells old.frames.script new.transcript) (sym (ap (λ (xs : List Noted). entries ++ xs) none ∙ append-nil entries)) told)

  -- memory ran out
  pub lacks : Lacked plain_world old.frames new.frames (state_after old.frames.script before) → Tells old.frames.script new.transcript (entries_after old.frames.script before) → Lacks old new before
  lacks lacked told = record {
    stands = record {
      frames = subst (λ (s : Script). StandsFor plain_world new.frames (state_after s before)) (sym lacked.script) lacked.stands;
      tells = subst (λ (s : Script). Tells s new.transcript (entries_after s before)) (sym lacked.script) told;
    };
    same = ap (λ (s : Script). let c : Course = record { script = s; state = state_after s before; history = entries_after s before; shares = plain_world.shares new.frames.pool } in c) lacked.script
        ∙ ap (λ (n : ℕ). let c : Course = record { script = old.frames.script; state = state_after old.frames.script before; history = entries_after old.frames.script before; shares = n } in c) lacked.shares;
  }

-- a turn that told so
pub lacks_told : (old new : Machine) (before : List Actor) (done : Done) (r : Result Bool NoMemory) → IsErr r → Lacks old new before → GoesOrLacks old new before done r
lacks_told old new before done (Err e) is lacked = lacked
lacks_told old new before done (Ok moved) is lacked = absurd cc

-- what the turns of some first actors did to a machine, before those of the rest
pub record GoneOn (first : Machine) (before actors : List Actor) (now : Machine) (moved : Bool) (rest : List Actor) : Type 0 where
  pub after : List Actor
  pub stands : Stands now after
  pub so_far : SoFar (course first before) actors (course now after) moved rest

module _ (first : Machine) (before actors : List Actor) where
  pub goes_from : Stands first before → GoneOn first before actors first false actors
  goes_from stands = record { after = before; stands = stands; so_far = at_start (course first before) actors }

  module _ (now : Machine) (moved : Bool) where
    pub stops_over : (rest : List Actor) (g : GoneOn first before actors now moved rest) → is_over (course now g.after).state.machine ≡ true
        → Goes first now before (turns first.frames.script (state_after first.frames.script before) actors) moved
    stops_over rest g over = record { after = g.after; stands = g.stands; does = ends_over (course first before) actors (course now g.after) moved rest g.so_far over }

    pub stops_all : (n : ℕ) (g : GoneOn first before actors now moved (drop n actors)) → n ≡ length actors
        → Goes first now before (turns first.frames.script (state_after first.frames.script before) actors) moved
    stops_all n g e = record { after = g.after; stands = g.stands; does = ends_all (course first before) actors (course now g.after) moved n g.so_far e }

    pub stops_idle : (rest : List Actor) (g : GoneOn first before actors now moved rest)
        → turns first.frames.script (course now g.after).state rest ≡ nothing (course now g.after).state
        → Goes first now before (turns first.frames.script (state_after first.frames.script before) actors) moved
    stops_idle rest g idle = record { after = g.after; stands = g.stands; does = ends (course first before) actors (course now g.after) moved rest g.so_far idle }

    abbrev pub goes_past : (rest later : List Actor) (g : GoneOn first before actors now moved rest)
        → turns first.frames.script (course now g.after).state rest ≡ turns first.frames.script (course now g.after).state later
        → GoneOn first before actors now moved later
    goes_past rest later g same = record { after = g.after; stands = g.stands; so_far = passes (course first before) actors (course now g.after) moved rest later same g.so_far }

    pub goes_on : (next : Machine) (did : Bool) (a : Actor) (rest later : List Actor) → rest ≡ a ∷ later → (g : GoneOn first before actors now moved rest) → is_over (course now g.after).state.machine ≡ false
        → Goes now next g.after (turn now.frames.script (state_after now.frames.script g.after) a) did → GoneOn first before actors next (moved || did) later
    goes_on next did a rest later is g live step = record {
      after = step.after;
      stands = step.stands;
      so_far = one_more (course first before) actors (course now g.after) (course next step.after) moved did a rest later is live g.so_far step.does;
    }

-- what the turns of a round did to a machine, before those from the turn of an id on
pub record InRound (first now : Machine) (moved : Bool) (from : ℕ) : Type 0 where
  pub low : from ≤ 64
  pub gone : (before : List Actor) → Stands first before → GoneOn first before round now moved (round_from from)

pub round_begins : (m : Machine) → InRound m m false 1
round_begins m = record { low = omega arith; gone = λ before stands. subst (GoneOn m before round m false) round_is (goes_from m before round stands) }

module _ (first now : Machine) (moved : Bool) (from : ℕ) (h : InRound first now moved from) (before : List Actor) (stands : Stands first before) where
  abbrev here : State
  here = (course now (h.gone before stands).after).state

  -- with no domain live from here to an id
  abbrev past : (to : ℕ) → from ≤ to → to ≤ 64 → IsNoneLive here.machine.shared.lives from to → GoneOn first before round now moved (round_from to)
  past to low high none = goes_past first before round now moved (round_from from) (round_from to) (h.gone before stands) (none_live_passed first.frames.script here from to low high none)

  module _ (next : Machine) (did : Bool) where
    -- the turn of the next live domain, whose id is read again
    pub next_domain : (id read : ℕ) → read ≡ id → id < 64 → IsFirstLive here.machine.shared.lives from id
        → Goes now next (h.gone before stands).after (turn now.frames.script here (Dom id)) did → GoneOn first before round next (moved || did) (round_from (read + 1))
    next_domain id read e lt live step =
        subst (λ k. GoneOn first before round next (moved || did) (round_from (k + 1))) (sym e)
        (goes_on first before round now moved next did (Dom id) (round_from id) (round_from (id + 1)) (one_of_round id lt) (past id live.at (omega (arith, lt)) live.first) (goes_on_live here id live.live) step)

    -- the daemon's turn, behind that of the last domain
    pub daemon_last : IsNoneLive here.machine.shared.lives from 64 → is_over here.machine ≡ false
        → Goes now next (h.gone before stands).after (turn now.frames.script here Daemon) did → Goes first next before (turns first.frames.script (state_after first.frames.script before) round) (moved || did)
    daemon_last none live step =
        let g = goes_on first before round now moved next did Daemon (round_from 64) backends refl (past 64 h.low (omega arith) none) live step in
        stops_idle first before round next (moved || did) backends g (backends_rest first.frames.script (course next g.after).state)

  -- no turn more, where no clone waits for the daemon
  pub none_waits : (waiting : Bool) → waiting ≡ is_some_left now.frames.hv.registry.tables.waiting → waiting ≡ false → IsNoneLive here.machine.shared.lives from 64
      → Goes first now before (turns first.frames.script (state_after first.frames.script before) round) moved
  none_waits waiting is e none =
      let g = past 64 h.low (omega arith) none in
      let rests : is_some_left here.machine.shared.tables.waiting ≡ false = ap (λ (sh : Shared). is_some_left sh.tables.waiting) g.stands.frames.shared ∙ sym is ∙ e in
      stops_idle first before round now moved (round_from 64) g (daemon_rests first.frames.script here (ap (λ (b : Bool). b && true) rests))

  -- none where the run is over
  pub over_last : is_over here.machine ≡ true → Goes first now before (turns first.frames.script (state_after first.frames.script before) round) moved
  over_last over = stops_over first before round now moved (round_from from) (h.gone before stands) over

-- the machine of a run behind the first turns and some rounds
pub record Rounded (s : Script) (m : Machine) : Type 0 where
  pub before : List Actor
  pub stands : Stands m before
  pub reached : Reached s (course m before)

pub first_round : (s : Script) (start now : Machine) (moved : Bool) → (h : Starts s start) → Goes start now [] (turns start.frames.script (state_after start.frames.script []) s.turns) moved → Rounded s now
first_round s start now moved h goes = record {
  before = goes.after;
  stands = goes.stands;
  reached = at_first s (course start []) (course now goes.after) moved h.script (ap (λ (x : Script). state_after x []) h.script) refl h.shares goes.does;
}

module _ (s : Script) (well : IsWellFormed s) (now next : Machine) (moved : Bool) (h : Rounded s now) (live : is_over (course now h.before).state.machine ≡ false)
    (goes : Goes now next h.before (turns now.frames.script (state_after now.frames.script h.before) round) moved) where
  state_is : state_after s h.before ≡ (course now h.before).state
  state_is = ap (λ (x : Script). state_after x h.before) (sym h.reached.script)

  goes_on_still : IsGoing s (course now h.before)
  goes_on_still = record { formed = well; orderly = subst IsOrderly state_is (orderly s well h.before); live = live }

  pub next_round : moved ≡ true → Rounded s next
  next_round e = record {
    before = goes.after;
    stands = goes.stands;
    reached = one_round s (course now h.before) (course next goes.after) moved h.reached goes_on_still goes.does e;
  }

  left_is : (m : Machine) (before : List Actor) → m.frames.script ≡ s → Stands m before → machine_left m.frames ≡ work_left s (course m before).state
  left_is m before e stands = work_is plain_world m.frames (state_after m.frames.script before) stands.frames ∙ ap (λ (x : Script). work_left x (course m before).state) e

  pub less_is_left : moved ≡ true → machine_left next.frames < machine_left now.frames
  less_is_left e =
      let same : next.frames.script ≡ s = goes.does.script ∙ h.reached.script in
      rw (left_is next goes.after same goes.stands, left_is now h.before h.reached.script h.stands)
      (less_left s (course now h.before) (course next goes.after) moved h.reached goes_on_still goes.does e)

  pub ends_stalled : moved ≡ false → EndsRun s next true
  ends_stalled e = record {
    before = goes.after;
    stands = goes.stands;
    plays = at_stall s (course now h.before) (course next goes.after) moved h.reached goes_on_still goes.does e;
  }

pub ends_done : (s : Script) (now : Machine) (h : Rounded s now) → is_over (course now h.before).state.machine ≡ true → EndsRun s now false
ends_done s now h over = record { before = h.before; stands = h.stands; plays = at_end s (course now h.before) h.reached over }
