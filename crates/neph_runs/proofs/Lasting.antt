-- What each round leaves holds of a run's last state.
use Rattle.std.proofs.Common.{◌≡◌, ℕ, zero, suc, ◌+◌, true, false, cond, List, ◌++◌, Some, subst}
use Rattle.neph_base.specs.declared.reply.Noted.{Noted}
use Rattle.neph_model.specs.declared.script.Script.{Script}
use Rattle.neph_model.specs.WellFormed.{IsWellFormed}
use Rattle.neph_model.specs.Machine.{is_over}
use Rattle.neph_model.specs.Books.{State, start_state}
use Rattle.neph_model.specs.Turns.{turns, round}
use Rattle.neph_model.specs.Run.{Ran, rounds, first_turns}
use Rattle.neph_model.specs.RunLaws.{CountsAddUp}
use Rattle.neph_runs.proofs.OneRun.{some_is}
use Rattle.neph_runs.proofs.Accounts.{adds_up}
use Rattle.neph_runs.proofs.Rooms.{IsSound}
use Rattle.neph_runs.proofs.Adding.{turns_sound}
use Rattle.neph_runs.proofs.StartSound.{start_sound}

last_sound : (n : ℕ) (s : Script) → IsWellFormed s → (st : State) (h : List Noted) (steps : ℕ) (r : Ran) → IsSound s st → rounds n s st h steps ≡ Some r → IsSound s r.last
last_sound zero s well st h steps r sound e = absurd cc
last_sound (suc n) s well st h steps r sound e =
    let one = turns s st round in
    let over : Ran = record { last = st; stalled = false; history = h; steps = steps } in
    let stalled : Ran = record { last = st; stalled = true; history = h; steps = steps } in
    let more = rounds n s one.state (h ++ one.noted) (steps + one.steps) in
    elim (is_over st.machine) as (λ b. cond b (Some over) (cond one.moved more (Some stalled)) ≡ Some r → IsSound s r.last) [
      | true ↦ λ is. subst (λ (v : Ran). IsSound s v.last) (some_is is) sound
      | false ↦ λ is.
          elim one.moved as (λ b. cond b more (Some stalled) ≡ Some r → IsSound s r.last) [
            | true ↦ λ rest. last_sound n s well one.state (h ++ one.noted) (steps + one.steps) r (turns_sound s well st round sound) rest
            | false ↦ λ rest. subst (λ (v : Ran). IsSound s v.last) (some_is rest) sound
          ] is
    ] e

pub counts_add_up : CountsAddUp
counts_add_up s r well run =
    let first = first_turns s in
    let sound = last_sound run.count s well first.state first.noted first.steps r (turns_sound s well (start_state s) s.turns (start_sound s well)) run.ends in
    adds_up s r.last sound.room
