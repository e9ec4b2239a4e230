-- Turns and rounds, one after another.
use Rattle.std.proofs.Common.{◌≡◌, ℕ, suc, ◌+◌, ◌<◌, Bool, true, false, cond, ◌||◌, List, [], ◌∷◌, ◌++◌, length, get_or, drop, Some, refl, sym, ap, ◌∙◌, arith, append_assoc}
use Rattle.std.proofs.lemmas.Bool.{or_parts}
use Rattle.std.proofs.lemmas.List.{append-nil, drop_more, drop_all}
use Rattle.neph_base.specs.declared.reply.Actor.{Actor}
use Rattle.neph_base.specs.declared.reply.Actor.TheVariants as actor
use Rattle.neph_base.specs.declared.reply.Entry.{Entry}
use Rattle.neph_base.specs.declared.reply.Entry.TheVariants as entry
use Rattle.neph_base.specs.declared.reply.Noted.{Noted}
use Rattle.neph_model.specs.declared.script.Script.{Script}
use Rattle.neph_model.specs.declared.book.Move.{Move}
use Rattle.neph_model.specs.declared.book.Move.TheVariants.{Rests, StepsPage, Commits, Copies, TakesSpare, Does as DoesLine}
use Rattle.neph_model.specs.declared.told.Told.TheVariants.{Enough}
use Rattle.neph_model.specs.WellFormed.{IsWellFormed}
use Rattle.neph_model.specs.Machine.{is_live, is_over}
use Rattle.neph_model.specs.Step.{is_due, step}
use Rattle.neph_model.specs.Books.{State, start_state}
use Rattle.neph_model.specs.Turns.{Done, nothing, noting, next_move, move_turn, turn, turns, before, round}
use Rattle.neph_model.specs.Run.{Ran, rounds, first_turns}
use Rattle.neph_runs.specs.Orderly.{IsOrderly}
use Rattle.neph_runs.specs.Work.{work_left}
use Rattle.neph_runs.proofs.CallerLemmas.{turns_less, turns_same}
use Rattle.neph_core.specs.Course.{Course}
use Rattle.neph_core.specs.Does.{counted, Does}
use Rattle.neph_core.specs.Plays.{Plays}

-- counts that each go on by some from the one before
counted_more : (a m b n c : ℕ) → counted b ≡ counted (a + m) → counted c ≡ counted (b + n) → counted c ≡ counted (a + (m + n))
counted_more a m b n c e h = omega (arith, e, h)

-- what the turns of some first actors did, before those of the rest
pub record SoFar (first : Course) (actors : List Actor) (now : Course) (moved : Bool) (rest : List Actor) : Type 0 where
  pub script : now.script ≡ first.script
  pub noted : List Noted
  pub steps : ℕ
  pub history : now.history ≡ first.history ++ noted
  pub shares : counted now.shares ≡ counted (first.shares + steps)
  pub whole : before (record { state = now.state; moved = moved; noted = noted; steps = steps }) (turns first.script now.state rest) ≡ turns first.script first.state actors

before_assoc : (a b c : Done) → before (before a b) c ≡ before a (before b c)
before_assoc a b c =
    let sums : a.steps + b.steps + c.steps ≡ a.steps + (b.steps + c.steps) = omega arith in
    elim a.moved as (λ t. before (before (record a { moved = t }) b) c ≡ before (record a { moved = t }) (before b c)) [
      | true ↦ ap (λ (xs : List Noted). record { state = c.state; moved = true; noted = xs; steps = a.steps + b.steps + c.steps }) (append_assoc a.noted b.noted c.noted)
          ∙ ap (λ (n : ℕ). record { state = c.state; moved = true; noted = a.noted ++ (b.noted ++ c.noted); steps = n }) sums
      | false ↦ ap (λ (xs : List Noted). record { state = c.state; moved = b.moved || c.moved; noted = xs; steps = a.steps + b.steps + c.steps }) (append_assoc a.noted b.noted c.noted)
          ∙ ap (λ (n : ℕ). record { state = c.state; moved = b.moved || c.moved; noted = a.noted ++ (b.noted ++ c.noted); steps = n }) sums
    ]

or_false : (b : Bool) → b || false ≡ b
or_false true = refl
or_false false = refl

pub at_start : (first : Course) (actors : List Actor) → SoFar first actors first false actors
at_start first actors =
    let d = turns first.script first.state actors in
    let none : 0 + d.steps ≡ d.steps = omega arith in
    record { script = refl; noted = []; steps = 0; history = sym (append-nil first.history); shares = ap counted (omega arith); whole = ap (λ (n : ℕ). record d { steps = n }) none }

pub ends : (first : Course) (actors : List Actor) (now : Course) (moved : Bool) (rest : List Actor) → SoFar first actors now moved rest → turns first.script now.state rest ≡ nothing now.state
    → Does first now (turns first.script first.state actors) moved
ends first actors now moved rest so_far idle =
    let a : Done = record { state = now.state; moved = moved; noted = so_far.noted; steps = so_far.steps } in
    let whole : before a (nothing now.state) ≡ turns first.script first.state actors = ap (before a) (sym idle) ∙ so_far.whole in
    record {
      script = so_far.script;
      state = ap (λ (d : Done). d.state) whole;
      told = sym (or_false moved) ∙ ap (λ (d : Done). d.moved) whole;
      shares = (let n : so_far.steps ≡ so_far.steps + 0 = omega arith in so_far.shares ∙ ap (λ (k : ℕ). counted (first.shares + k)) (n ∙ ap (λ (d : Done). d.steps) whole));
      history = so_far.history ∙ ap (λ (xs : List Noted). first.history ++ xs) (sym (append-nil so_far.noted) ∙ ap (λ (d : Done). d.noted) whole);
    }

pub turns_over : (s : Script) (st : State) (xs : List Actor) → is_over st.machine ≡ true → turns s st xs ≡ nothing st
turns_over s st [] e = refl
turns_over s st (a ∷ xs) e = rw e refl

pub ends_over : (first : Course) (actors : List Actor) (now : Course) (moved : Bool) (rest : List Actor) → SoFar first actors now moved rest → is_over now.state.machine ≡ true
    → Does first now (turns first.script first.state actors) moved
ends_over first actors now moved rest so_far e = ends first actors now moved rest so_far (turns_over first.script now.state rest e)

pub ends_all : (first : Course) (actors : List Actor) (now : Course) (moved : Bool) (n : ℕ) → SoFar first actors now moved (drop n actors) → n ≡ length actors
    → Does first now (turns first.script first.state actors) moved
ends_all first actors now moved n so_far e = ends first actors now moved (drop n actors) so_far (ap (turns first.script now.state) (drop_all n actors (omega arith)))

-- the next of some actors
pub next_actor : (actors : List Actor) (n : ℕ) (a : Actor) → n < length actors → a ≡ get_or actors n a → drop n actors ≡ a ∷ drop (n + 1) actors
next_actor actors n a lt is = drop_more actors n a lt ∙ ap (λ (x : Actor). x ∷ drop (n + 1) actors) (sym is)

pub one_more : (first : Course) (actors : List Actor) (now next : Course) (moved did : Bool) (a : Actor) (rest later : List Actor) → rest ≡ a ∷ later → is_over now.state.machine ≡ false
    → SoFar first actors now moved rest → Does now next (turn now.script now.state a) did → SoFar first actors next (moved || did) later
one_more first actors now next moved did actor rest later is live so_far step =
    let one = turn first.script now.state actor in
    let same : turn now.script now.state actor ≡ one = ap (λ (s : Script). turn s now.state actor) so_far.script in
    let a : Done = record { state = now.state; moved = moved; noted = so_far.noted; steps = so_far.steps } in
    let more : turns first.script now.state rest ≡ before one (turns first.script one.state later) = rw (is, live) refl in
    let joined : before (before a one) (turns first.script one.state later) ≡ turns first.script first.state actors =
    before_assoc a one (turns first.script one.state later) ∙ ap (before a) (sym more) ∙ so_far.whole in
    let state : next.state ≡ one.state = step.state ∙ ap (λ (d : Done). d.state) same in
    let told : did ≡ one.moved = step.told ∙ ap (λ (d : Done). d.moved) same in
    record {
      script = step.script ∙ so_far.script;
      noted = so_far.noted ++ one.noted;
      steps = so_far.steps + one.steps;
      history = step.history ∙ ap (λ (d : Done). now.history ++ d.noted) same ∙ ap (λ (xs : List Noted). xs ++ one.noted) so_far.history
          ∙ append_assoc first.history so_far.noted one.noted;
      shares = counted_more first.shares so_far.steps now.shares one.steps next.shares so_far.shares (step.shares ∙ ap (λ (d : Done). counted (now.shares + d.steps)) same);
      whole = rw (state, told) joined;
    }

-- turns at the head of the rest that do nothing may be passed over
pub passes : (first : Course) (actors : List Actor) (now : Course) (moved : Bool) (rest later : List Actor) → turns first.script now.state rest ≡ turns first.script now.state later
    → SoFar first actors now moved rest → SoFar first actors now moved later
passes first actors now moved rest later same so_far =
    let a : Done = record { state = now.state; moved = moved; noted = so_far.noted; steps = so_far.steps } in
    record { script = so_far.script; noted = so_far.noted; steps = so_far.steps; history = so_far.history; shares = so_far.shares; whole = ap (before a) (sym same) ∙ so_far.whole }

-- a turn that did nothing makes no entry and no page step
abbrev IsIdle : Done → Type 0
IsIdle d = (d.noted ≡ []) × (d.steps ≡ 0)

idle_move : (s : Script) (st : State) (id : ℕ) (mv : Move) → (move_turn s st id mv).moved ≡ false → IsIdle (move_turn s st id mv)
idle_move s st id Rests e = (refl, refl)
idle_move s st id StepsPage e = absurd cc
idle_move s st id Commits e = absurd cc
idle_move s st id Copies e = absurd cc
idle_move s st id TakesSpare e = absurd cc
idle_move s st id (DoesLine told spends) e = absurd cc

idle_domain : (s : Script) (st : State) (id : ℕ) (b : Bool) → (cond b (move_turn s st id (next_move s st id)) (nothing st)).moved ≡ false → IsIdle (cond b (move_turn s st id (next_move s st id)) (nothing st))
idle_domain s st id true e = idle_move s st id (next_move s st id) e
idle_domain s st id false e = (refl, refl)

idle_entry : (s : Script) (st : State) (x : Entry) (b : Bool) → (cond b (noting x (step s st.machine x Enough) st.books) (nothing st)).moved ≡ false → IsIdle (cond b (noting x (step s st.machine x Enough) st.books) (nothing st))
idle_entry s st x true e = absurd cc
idle_entry s st x false e = (refl, refl)

idle_turn : (s : Script) (st : State) (a : Actor) → (turn s st a).moved ≡ false → IsIdle (turn s st a)
idle_turn s st (actor.Dom id) e = idle_domain s st id (is_live id st.machine.shared.lives) e
idle_turn s st actor.Daemon e = idle_entry s st entry.Daemon (is_due s st.machine entry.Daemon) e
idle_turn s st actor.Console e = (refl, refl)
idle_turn s st actor.Net e = (refl, refl)
idle_turn s st actor.P9 e = (refl, refl)

idle_before : (st : State) (over : Bool) (a b : Done) → (a.moved ≡ false → IsIdle a) → (b.moved ≡ false → IsIdle b) → (cond over (nothing st) (before a b)).moved ≡ false → IsIdle (cond over (nothing st) (before a b))
idle_before st true a b f g e = (refl, refl)
idle_before st false a b f g e =
    let both = or_parts a.moved b.moved e in
    let first = f both.0 in
    let later = g both.1 in
    (ap (λ (xs : List Noted). xs ++ b.noted) first.0 ∙ later.0, omega (arith, first.1, later.1))

idle_turns : (s : Script) (st : State) (actors : List Actor) → (turns s st actors).moved ≡ false → IsIdle (turns s st actors)
idle_turns s st [] e = (refl, refl)
idle_turns s st (a ∷ rest) e =
    let one = turn s st a in idle_before st (is_over st.machine) one (turns s one.state rest) (idle_turn s st a) (idle_turns s one.state rest) e

-- the turns that the script gives, and then some rounds, led from the start to here
pub record Reached (s : Script) (now : Course) : Type 0 where
  pub script : now.script ≡ s
  pub count : ℕ
  pub steps : ℕ
  pub shares : counted now.shares ≡ counted steps
  pub on : (n : ℕ) → rounds (count + n) s (first_turns s).state (first_turns s).noted (first_turns s).steps ≡ rounds n s now.state now.history steps

pub at_first : (s : Script) (start now : Course) (moved : Bool) → start.script ≡ s → start.state ≡ start_state s → start.history ≡ [] → start.shares ≡ 0 → Does start now (turns start.script start.state s.turns) moved → Reached s now
at_first s start now moved script state history none step =
    let same : turns start.script start.state s.turns ≡ first_turns s = ap (λ (x : Script). turns x start.state s.turns) script ∙ ap (λ (x : State). turns s x s.turns) state in
    let noted : now.history ≡ (first_turns s).noted =
    step.history ∙ ap (λ (xs : List Noted). xs ++ (turns start.script start.state s.turns).noted) history ∙ ap (λ (d : Done). d.noted) same in
    let here : now.state ≡ (first_turns s).state = step.state ∙ ap (λ (d : Done). d.state) same in
    let shares : counted now.shares ≡ counted (first_turns s).steps =
    step.shares ∙ ap (λ (d : Done). counted (start.shares + d.steps)) same ∙ ap counted (omega (arith, none)) in
    record { script = step.script ∙ script; count = 0; steps = (first_turns s).steps; shares = shares; on = λ n. let k : 0 + n ≡ n = omega arith in rw (k, here, noted) refl }

-- the state before a round: one that a machine can be in, with a live domain
pub record IsGoing (s : Script) (now : Course) : Type 0 where
  pub formed : IsWellFormed s
  pub orderly : IsOrderly now.state
  pub live : is_over now.state.machine ≡ false

module _ (s : Script) (now next : Course) (moved : Bool) (so_far : Reached s now) (goes_on : IsGoing s now) (did : Does now next (turns now.script now.state round) moved) where
  abbrev this_round : Done
  this_round = turns s now.state round

  same : turns now.script now.state round ≡ this_round
  same = ap (λ (x : Script). turns x now.state round) so_far.script

  state : next.state ≡ this_round.state
  state = did.state ∙ ap (λ (d : Done). d.state) same

  noted : next.history ≡ now.history ++ this_round.noted
  noted = did.history ∙ ap (λ (d : Done). now.history ++ d.noted) same

  shared : counted next.shares ≡ counted (now.shares + this_round.steps)
  shared = did.shares ∙ ap (λ (d : Done). counted (now.shares + d.steps)) same

  told : moved ≡ this_round.moved
  told = did.told ∙ ap (λ (d : Done). d.moved) same

  pub one_round : moved ≡ true → Reached s next
  one_round goes_round =
      record {
        script = did.script ∙ so_far.script;
        count = so_far.count + 1;
        steps = so_far.steps + this_round.steps;
        shares = counted_more 0 so_far.steps now.shares this_round.steps next.shares (so_far.shares ∙ ap counted (omega arith)) shared ∙ ap counted (omega arith);
        on = λ n.
            let k : so_far.count + 1 + n ≡ so_far.count + suc n = omega arith in
            let goes : this_round.moved ≡ true = sym told ∙ goes_round in
            let more : rounds (suc n) s now.state now.history so_far.steps ≡ rounds n s next.state next.history (so_far.steps + this_round.steps) = rw (goes_on.live, goes, ← state, ← noted) refl in
            ap (λ c. rounds c s (first_turns s).state (first_turns s).noted (first_turns s).steps) k ∙ so_far.on (suc n) ∙ more;
      }

  pub less_left : moved ≡ true → work_left s next.state < work_left s now.state
  less_left goes_round = rw state (turns_less s goes_on.formed now.state round goes_on.orderly (sym told ∙ goes_round))

  pub at_stall : moved ≡ false → Plays s next true
  at_stall rests =
      let idle : this_round.moved ≡ false = sym told ∙ rests in
      let stays : next.state ≡ now.state = state ∙ turns_same s goes_on.formed now.state round goes_on.orderly idle in
      let none = idle_turns s now.state round idle in
      let quiet : next.history ≡ now.history = noted ∙ ap (λ (xs : List Noted). now.history ++ xs) none.0 ∙ append-nil now.history in
      let r : Ran = record { last = now.state; stalled = true; history = now.history; steps = so_far.steps } in
      let last : rounds 1 s now.state now.history so_far.steps ≡ Some r = rw (goes_on.live, idle) refl in
      record { ran = r; run = record { count = so_far.count + 1; ends = so_far.on 1 ∙ last }; ended = refl; script = did.script ∙ so_far.script; last = sym stays; entries = sym quiet; steps = shared ∙ ap counted (omega (arith, none.1)) ∙ so_far.shares }

pub at_end : (s : Script) (now : Course) → Reached s now → is_over now.state.machine ≡ true → Plays s now false
at_end s now so_far over =
    let r : Ran = record { last = now.state; stalled = false; history = now.history; steps = so_far.steps } in
    let last : rounds 1 s now.state now.history so_far.steps ≡ Some r = rw over refl in
    record { ran = r; run = record { count = so_far.count + 1; ends = so_far.on 1 ∙ last }; ended = refl; script = so_far.script; last = refl; entries = refl; steps = so_far.shares }
