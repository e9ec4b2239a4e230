-- What holds of each state that a script's run comes to.
use Rattle.std.proofs.Common.{◌≡◌, ◌≢◌, ℕ, ◌%◌, ◌<◌, Bool, true, false, cond, List, [], ◌∷◌, set, Option, Some, None, Err, refl, sym, ap, subst, ◌∙◌, arith}
use Rattle.std.specs.Option.{is_some}
use Rattle.std.proofs.lemmas.Bool.{eq-eqb}
use Rattle.std.proofs.lemmas.List.{set-get_or}
use Rattle.neph_base.specs.declared.command.Command.TheVariants as command
use Rattle.neph_base.specs.declared.reply.Actor.{Actor}
use Rattle.neph_base.specs.declared.reply.Actor.TheVariants as actor
use Rattle.neph_base.specs.declared.reply.Entry.TheVariants.{Line, Commit}
use Rattle.neph_model.specs.declared.own.Own.{Own}
use Rattle.neph_model.specs.declared.life.Cloned.{Cloned}
use Rattle.neph_model.specs.declared.script.Script.{Script}
use Rattle.neph_model.specs.declared.told.Told.{Told}
use Rattle.neph_model.specs.declared.told.Told.TheVariants.{Enough}
use Rattle.neph_model.specs.declared.book.Stage.{Stage}
use Rattle.neph_model.specs.declared.book.Stage.TheVariants.{Ready, Copying, Forking}
use Rattle.neph_model.specs.declared.book.Move.{Move}
use Rattle.neph_model.specs.declared.book.Move.TheVariants.{Rests, StepsPage, Commits, Copies, TakesSpare, Does}
use Rattle.neph_model.specs.WellFormed.{IsWellFormed, FitsPage}
use Rattle.neph_model.specs.Programs.{command_at}
use Rattle.neph_model.specs.Machine.{no_own, own_at, guest_at, is_live, program_of}
use Rattle.neph_model.specs.Births.{parent_own, join}
use Rattle.neph_model.specs.Step.{Outcome, shared_commit, child_made, bear, step, is_paused}
use Rattle.neph_model.specs.Trap.{is_blocked}
use Rattle.neph_model.specs.Books.{State, free, start_state}
use Rattle.neph_model.specs.Turns.{nothing, next_command, next_move, move_turn, domain_turn, turn}
use Rattle.neph_laws.proofs.Apart.{stays_apart}
use Rattle.neph_laws.proofs.Granted.{grants_stay}
use Rattle.neph_flat.specs.Sound as flat
use Rattle.neph_flat.proofs.OwnKeeps.{runs_line}
use Rattle.neph_flat.proofs.MachineKeeps.{StaysLawful, line_step, sound_commit, sound_join, line_due_is}
use Rattle.neph_flat.proofs.StartSound.{sound_start}
use Rattle.neph_runs.specs.Orderly.{ForksWell, IsOrderlyAt, seat as part_at}
use Rattle.neph_runs.proofs.Falls.{live_within}
use Rattle.neph_runs.proofs.Turning.{IsFresh, forked, joins}
use Rattle.neph_runs.proofs.Says.{Reasons}
use Rattle.neph_runs.proofs.Rooms as rooms
use Rattle.neph_runs.proofs.Rooms.{seat_command}
use Rattle.neph_runs.proofs.Adding.{reasons, fresh, turn_sound}
use Rattle.neph_runs.proofs.StartSound.{start_sound, start_coloured}
use Rattle.neph_runs.proofs.Hues.{AreColoured}
use Rattle.neph_runs.proofs.Hued.{turn_coloured}
use Rattle.neph_machine.specs.Reached.{state_after}

-- the state is sound, as the runs keep it; so is its plain machine; and its colours are in order
pub record IsReached (s : Script) (st : State) : Type 0 where
  pub sound : rooms.IsSound s st
  pub machine : flat.IsSound s st.machine
  pub coloured : AreColoured st

-- the first of the children that a domain has begun has an id that was given after its own
pub first_child : (id next : ℕ) (begun : List ℕ) (stage : Stage) → ForksWell id next begun stage → (child : ℕ) (left : List ℕ) → begun ≡ child ∷ left → (id < child) × (child < next)
first_child id next begun Ready h child left is = absurd (cc)
first_child id next begun Copying h child left is = absurd (cc)
first_child id next begun (Forking n) h child left is =
    let whole : h.0 ∷ [] ≡ child ∷ left = sym h.1.0 ∙ is in
    let same : h.0 ≡ child = head whole in
    (omega (arith, same, h.1.1), omega (arith, same, h.1.2))
  where
    head : {a b : ℕ} {xs ys : List ℕ} → a ∷ xs ≡ b ∷ ys → a ≡ b
    head e = cc

-- what an entry leaves
lawful : StaysLawful
lawful = (stays_apart, grants_stay)

-- a turn of a live domain leaves the plain machine sound
module _ (s : Script) (well : IsWellFormed s) (st : State) (id : ℕ) (sound : rooms.IsSound s st) (machine : flat.IsSound s st.machine) (live : is_some (part_at st id).life ≡ true) where
  line_machine : (told : Told) → is_paused id st.machine.shared ≡ false → flat.IsSound s (step s st.machine (Line id (own_at id st.machine.own).line) told).machine
  line_machine told runs =
      let m = st.machine in
      let line = (own_at id m.own).line in
      let places = sound.orderly.places in
      line_step lawful s m id line told machine (line_due_is s m id line true false true live runs (eq-eqb line line refl)) (live_within st id sound.orderly live) places.lives places.guests

  commit_machine : (part_at st id).book.stage ≡ Forking 0 → flat.IsSound s (step s st.machine (Commit id (own_at id st.machine.own).line) Enough).machine
  commit_machine e =
      let m = st.machine in
      let line = (own_at id m.own).line in
      let o = own_at id m.own in
      let places = sound.orderly.places in
      let high = sound.orderly.high in
      let fork = forked s well st id sound.orderly live 0 e in
      let child = fork.0 in
      let begun : (guest_at id m.shared.tables).begun ≡ child ∷ [] = fork.1.0 in
      let below : child < 64 = omega (arith, fork.1.2, high) in
      let out = λ (xs : List ℕ).
      let did = shared_commit m.shared id xs in
      let x : Outcome = record { machine = record { own = set (bear m.own id o (child_made (Commit id line) did.reply)) id (parent_own o); shared = did.shared }; reply = did.reply } in x in
      let goes : step s m (Commit id line) Enough ≡ out (child ∷ []) = ap out begun in
      subst (λ (x : Outcome). flat.IsSound s x.machine) (sym goes) (sound_commit lawful s m id line child [] Enough machine live begun fork.1.1 below places.lives places.guests goes)

  move_machine : (mv : Move) (blocked : Bool) → IsFresh (part_at st id).book mv → Reasons (free s st) st.books (part_at st id).own (part_at st id).book (seat_command s (part_at st id)) (is_paused id st.machine.shared) blocked mv → flat.IsSound s (move_turn s st id mv).state.machine
  move_machine Rests blocked fresh why = machine
  move_machine StepsPage blocked fresh why = machine
  move_machine Commits blocked fresh why = commit_machine fresh
  move_machine Copies blocked fresh why = machine
  move_machine TakesSpare blocked fresh why = machine
  move_machine (Does told spends) blocked fresh why = line_machine told why.0

domain_machine : (s : Script) → IsWellFormed s → (st : State) (id : ℕ) → rooms.IsSound s st → flat.IsSound s st.machine → flat.IsSound s (domain_turn s st id).state.machine
domain_machine s well st id sound machine =
    let m = st.machine in
    let mv = next_move s st id in
    elim (is_live id m.shared.lives) as (λ b. is_live id m.shared.lives ≡ b → flat.IsSound s (cond b (move_turn s st id mv) (nothing st)).state.machine) [
      | true ↦ λ live. move_machine s well st id sound machine live mv (is_blocked m.shared id (next_command s m id)) (fresh s st id) (reasons s st id sound live)
      | false ↦ λ e. machine
    ] refl

joins_machine : (s : Script) (st : State) (w : List Cloned) → flat.IsSound s st.machine → flat.IsSound s (joins st w).state.machine
joins_machine s st [] h = h
joins_machine s st (w ∷ rest) h = subst (λ (os : List Own). flat.IsSound s (record { own = os; shared = join st.machine.shared rest })) (sym (set-get_or st.machine.own 0 no_own)) (sound_join s st.machine rest h)

-- a turn leaves the plain machine sound
pub turn_machine : (s : Script) → IsWellFormed s → (st : State) (a : Actor) → rooms.IsSound s st → flat.IsSound s st.machine → flat.IsSound s (turn s st a).state.machine
turn_machine s well st (actor.Dom id) sound machine = domain_machine s well st id sound machine
turn_machine s well st actor.Daemon sound machine = joins_machine s st st.machine.shared.tables.waiting machine
turn_machine s well st actor.Console sound machine = machine
turn_machine s well st actor.Net sound machine = machine
turn_machine s well st actor.P9 sound machine = machine

-- a turn of a state that was reached comes to one
pub turn_reached : (s : Script) → IsWellFormed s → (st : State) (a : Actor) → IsReached s st → IsReached s (turn s st a).state
turn_reached s well st a h =
    record {
      sound = turn_sound s well st a h.sound;
      machine = turn_machine s well st a h.sound h.machine;
      coloured = turn_coloured s well st a h.sound h.coloured;
    }

pub start_reached : (s : Script) → IsWellFormed s → IsReached s (start_state s)
start_reached s well = record { sound = start_sound s well; machine = sound_start s well; coloured = start_coloured s }

-- each state of a run is so
pub reached : (s : Script) → IsWellFormed s → (before : List Actor) → IsReached s (state_after s before)
reached s well [] = start_reached s well
reached s well (a ∷ before) = turn_reached s well (state_after s before) a (reached s well before)

-- what is known of the own half of a live domain, and of what is kept of it: its pages are there, its virtual pages map to pages, and its line with the children that it has begun and its leaf tables are within their bounds
pub live_own : (s : Script) (st : State) → IsReached s st → (id : ℕ) → is_some (part_at st id).life ≡ true → flat.IsSoundDomain (part_at st id).own (part_at st id).guest
live_own s st h id live = let d = h.machine.each id live in record { own = d.own; commits = d.commits }

-- what is known of the ids of a live domain and of the child that it has begun
pub live_orderly : (s : Script) (st : State) → IsReached s st → (id : ℕ) → is_some (part_at st id).life ≡ true → IsOrderlyAt id st.machine.shared.tables.next (part_at st id)
live_orderly s st h id live = h.sound.orderly.seats id live

-- the id of a live domain is one of 1 to 63
pub live_ids : (s : Script) (st : State) → IsReached s st → (id : ℕ) → is_some (part_at st id).life ≡ true → (0 < id) × (id < 64)
live_ids s st h id live = let ord = h.sound.orderly.seats id live in (ord.low, live_within st id h.sound.orderly live)

-- what the hypervisor keeps of a live domain's halves, its stage, its cap and its size
pub live_sound : (s : Script) (st : State) → IsReached s st → (id : ℕ) → is_some (part_at st id).life ≡ true → rooms.IsSoundAt s (part_at st id)
live_sound s st h id live = h.sound.seats id live

-- the command at the line of an id neither reads nor writes past the end of a page
pub fits_page : (s : Script) (st : State) → IsReached s st → (id : ℕ) → FitsPage (command_at s (program_of (part_at st id).life) (part_at st id).own.line)
fits_page s st h id = let x = part_at st id in (runs_line s (program_of x.life) x.own.line h.machine.formed).fits

-- a domain at another command than an exit has a line below 512
pub line_short : (s : Script) (st : State) → IsReached s st → (id : ℕ) → command_at s (program_of (part_at st id).life) (part_at st id).own.line ≢ command.Exit → (part_at st id).own.line < 512
line_short s st h id other = let x = part_at st id in (runs_line s (program_of x.life) x.own.line h.machine.formed).short other
