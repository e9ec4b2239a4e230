-- What a caller that runs a script turn by turn needs of its states.
use Rattle.std.proofs.Common.{◌≡◌, ℕ, ◌<◌, ◌≤◌, Bool, true, false, List, length, refl, arith}
use Rattle.neph_base.specs.declared.reply.Actor.{Actor}
use Rattle.neph_model.specs.declared.script.Script.{Script}
use Rattle.neph_model.specs.WellFormed.{IsWellFormed}
use Rattle.neph_model.specs.Machine.{own_at, is_live}
use Rattle.neph_model.specs.Books.{State, book_at, counts, start_state}
use Rattle.neph_model.specs.Frames.{AddsUp}
use Rattle.neph_model.specs.Laws.{IsInOneHalf}
use Rattle.neph_model.specs.Turns.{turn, turns}
use Rattle.neph_runs.specs.Orderly.{HasPlaces, IsOrderly}
use Rattle.neph_runs.specs.Work.{work_left}
use Rattle.neph_runs.proofs.Falls.{live_within}
use Rattle.neph_runs.proofs.Turning.{turn_falls, turns_fall}
use Rattle.neph_runs.proofs.Opening as opening
use Rattle.neph_runs.proofs.StartSound as starting
use Rattle.neph_runs.proofs.Adding as adding
use Rattle.neph_runs.proofs.Accounts.{adds_up}
use Rattle.neph_runs.proofs.Rooms.{IsSound}

-- the state at the start of a script is in order
pub start_orderly : (s : Script) → IsWellFormed s → IsOrderly (start_state s)
start_orderly s well = opening.start_orderly s well

-- a turn leaves a state in order
pub turn_orderly : (s : Script) → IsWellFormed s → (st : State) (a : Actor) → IsOrderly st → IsOrderly (turn s st a).state
turn_orderly s well st a orderly = (turn_falls s well st a orderly).orderly

-- so do some turns
pub turns_orderly : (s : Script) → IsWellFormed s → (st : State) (actors : List Actor) → IsOrderly st → IsOrderly (turns s st actors).state
turns_orderly s well st actors orderly = (turns_fall s well st actors orderly).orderly

-- a turn that did something leaves less to do
pub turn_less : (s : Script) → IsWellFormed s → (st : State) (a : Actor) → IsOrderly st → (turn s st a).moved ≡ true → work_left s (turn s st a).state < work_left s st
turn_less s well st a orderly moved = (turn_falls s well st a orderly).smaller moved

-- so do some turns of which one did something
pub turns_less : (s : Script) → IsWellFormed s → (st : State) (actors : List Actor) → IsOrderly st → (turns s st actors).moved ≡ true → work_left s (turns s st actors).state < work_left s st
turns_less s well st actors orderly moved = (turns_fall s well st actors orderly).smaller moved

-- a turn that did nothing leaves the state as it was
pub turn_same : (s : Script) → IsWellFormed s → (st : State) (a : Actor) → IsOrderly st → (turn s st a).moved ≡ false → (turn s st a).state ≡ st
turn_same s well st a orderly idle = (turn_falls s well st a orderly).same idle

-- so do some turns that all did nothing
pub turns_same : (s : Script) → IsWellFormed s → (st : State) (actors : List Actor) → IsOrderly st → (turns s st actors).moved ≡ false → (turns s st actors).state ≡ st
turns_same s well st actors orderly idle = (turns_fall s well st actors orderly).same idle

-- there is a place for each id: an own half, what it was born as, what the hypervisor keeps, exposed pages and a book
pub has_places : (st : State) → IsOrderly st → HasPlaces st
has_places st orderly = orderly.places

-- no domain has the id 0
pub none_at_zero : (st : State) → IsOrderly st → is_live 0 st.machine.shared.lives ≡ false
none_at_zero st orderly = not_true (is_live 0 st.machine.shared.lives) (λ live. let h = orderly.seats 0 live in omega (arith, h.low)) where
  not_true : (b : Bool) → (b ≡ true → ⊥) → b ≡ false
  not_true true f = absurd (f refl)
  not_true false f = refl

-- the id of a live domain is one of 1 to 63
pub live_in_range : (st : State) (id : ℕ) → IsOrderly st → is_live id st.machine.shared.lives ≡ true → (0 < id) × (id < 64)
live_in_range st id orderly live = ((orderly.seats id live).low, live_within st id orderly live)

-- a live domain has a colour for each of its pages, which are no more than 1024
pub colours_are_pages : (st : State) (id : ℕ) → IsOrderly st → is_live id st.machine.shared.lives ≡ true
    → (length (book_at id st.books).colours ≡ length (own_at id st.machine.own).pages) × (length (own_at id st.machine.own).pages ≤ 1024)
colours_are_pages st id orderly live = let h = orderly.seats id live in (h.colours, h.pages)

-- The start of a script is sound: in order, the halves of each domain apart, and no more frames used than there are.
pub start_sound : (s : Script) → IsWellFormed s → IsSound s (start_state s)
start_sound s well = starting.start_sound s well

-- a turn leaves a state sound
pub turn_sound : (s : Script) → IsWellFormed s → (st : State) (a : Actor) → IsSound s st → IsSound s (turn s st a).state
turn_sound s well st a sound = adding.turn_sound s well st a sound

-- so do some turns
pub turns_sound : (s : Script) → IsWellFormed s → (st : State) (actors : List Actor) → IsSound s st → IsSound s (turns s st actors).state
turns_sound s well st actors sound = adding.turns_sound s well st actors sound

-- a sound state is in order
pub sound_orderly : (s : Script) (st : State) → IsSound s st → IsOrderly st
sound_orderly s st sound = sound.orderly

-- the frames that a sound state uses and the free ones are all
pub sound_adds_up : (s : Script) (st : State) → IsSound s st → AddsUp (counts s st)
sound_adds_up s st sound = adds_up s st sound.room

-- each page of a live domain of a sound state is in one half alone
pub sound_apart : (s : Script) (st : State) (id pfn : ℕ) → IsSound s st → is_live id st.machine.shared.lives ≡ true → pfn < length (own_at id st.machine.own).pages → IsInOneHalf st.machine id pfn
sound_apart s st id pfn sound live lt = (sound.seats id live).halves.apart pfn lt
