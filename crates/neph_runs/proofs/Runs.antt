-- A script has a run, which ends with no live domain.
use Rattle.std.proofs.Common.{◌≡◌, ℕ, zero, suc, ◌+◌, ◌<◌, true, false, cond, ◌⊎◌, inl, inr, List, ◌++◌, Some, refl, subst, arith}
use Rattle.std.proofs.lemmas.Bool.{false≢true}
use Rattle.neph_base.specs.declared.reply.Noted.{Noted}
use Rattle.neph_model.specs.declared.script.Script.{Script}
use Rattle.neph_model.specs.WellFormed.{IsWellFormed}
use Rattle.neph_model.specs.Machine.{is_over}
use Rattle.neph_model.specs.Books.{State, start_state}
use Rattle.neph_model.specs.Turns.{turns, round}
use Rattle.neph_model.specs.Run.{Ran, IsStalled, rounds, first_turns}
use Rattle.neph_model.specs.RunLaws.{HasRun, EndsOverOrStalled, EndsOver}
use Rattle.neph_runs.specs.Orderly.{IsOrderly}
use Rattle.neph_runs.specs.Work.{work_left}
use Rattle.neph_runs.proofs.OneRun.{some_is}
use Rattle.neph_runs.proofs.Turning.{turns_fall}
use Rattle.neph_runs.proofs.Opening.{start_orderly}
use Rattle.neph_runs.proofs.Stalls.{stalls, one_live}

-- some number of rounds comes to an end
abbrev Comes : Script → State → List Noted → ℕ → Type 0
Comes s st h steps = (count : ℕ) × ((r : Ran) × (rounds count s st h steps ≡ Some r))

comes_below : (n : ℕ) (s : Script) → IsWellFormed s → (st : State) (h : List Noted) (steps : ℕ) → IsOrderly st → work_left s st < n → Comes s st h steps
comes_below zero s well st h steps orderly lt = absurd (omega arith)
comes_below (suc n) s well st h steps orderly lt =
    let one = turns s st round in
    let fall = turns_fall s well st round orderly in
    let over : Ran = record { last = st; stalled = false; history = h; steps = steps } in
    let stalled : Ran = record { last = st; stalled = true; history = h; steps = steps } in
    elim (is_over st.machine) as (λ b. is_over st.machine ≡ b → Comes s st h steps) [
      | true ↦ λ o. (1, (over, rw o refl))
      | false ↦ λ o.
          elim one.moved as (λ b. one.moved ≡ b → Comes s st h steps) [
            | true ↦ λ e.
                let less : work_left s one.state < n = omega (arith, fall.smaller e) in
                let rest = comes_below n s well one.state (h ++ one.noted) (steps + one.steps) fall.orderly less in
                (suc rest.0, (rest.1.0, rw (o, e) rest.1.1))
            | false ↦ λ e. (1, (stalled, rw (o, e) refl))
          ] refl
    ] refl

pub first_orderly : (s : Script) → IsWellFormed s → IsOrderly (first_turns s).state
first_orderly s well = (turns_fall s well (start_state s) s.turns (start_orderly s well)).orderly

pub some_run : HasRun
some_run s well =
    let first = first_turns s in
    let end = comes_below (suc (work_left s first.state)) s well first.state first.noted first.steps (first_orderly s well) (omega arith) in
    (end.1.0, record { count = end.0; ends = end.1.1 })

-- a run that has ended, or stalled
abbrev Stops : Script → Ran → Type 0
Stops s r = ((r.stalled ≡ false) × (is_over r.last.machine ≡ true)) ⊎ ((r.stalled ≡ true) × IsStalled s r.last.machine)

stops_from : (n : ℕ) (s : Script) → IsWellFormed s → (st : State) (h : List Noted) (steps : ℕ) (r : Ran) → IsOrderly st → rounds n s st h steps ≡ Some r → Stops s r
stops_from zero s well st h steps r orderly e = absurd cc
stops_from (suc n) s well st h steps r orderly e =
    let one = turns s st round in
    let fall = turns_fall s well st round orderly in
    let over : Ran = record { last = st; stalled = false; history = h; steps = steps } in
    let stalled : Ran = record { last = st; stalled = true; history = h; steps = steps } in
    let more = rounds n s one.state (h ++ one.noted) (steps + one.steps) in
    elim (is_over st.machine) as (λ b. is_over st.machine ≡ b → cond b (Some over) (cond one.moved more (Some stalled)) ≡ Some r → Stops s r) [
      | true ↦ λ o is. subst (Stops s) (some_is is) (inl (refl, o))
      | false ↦ λ o is.
          elim one.moved as (λ b. one.moved ≡ b → cond b more (Some stalled) ≡ Some r → Stops s r) [
            | true ↦ λ moved rest. stops_from n s well one.state (h ++ one.noted) (steps + one.steps) r fall.orderly rest
            | false ↦ λ idle rest. subst (Stops s) (some_is rest) (inr (refl, stalls s well st orderly o idle))
          ] refl is
    ] refl e

pub ends_over_or_stalled : EndsOverOrStalled
ends_over_or_stalled s r well run =
    let first = first_turns s in
    stops_from run.count s well first.state first.noted first.steps r (first_orderly s well) run.ends

pub ends_over : EndsOver
ends_over s r well run =
    elim (ends_over_or_stalled s r well run) [
      | inl over ↦ over
      | inr stalled ↦
          let some = one_live r.last stalled.1.live in
          absurd (false≢true (stalled.1.blocked some.0 some.1))
    ]
