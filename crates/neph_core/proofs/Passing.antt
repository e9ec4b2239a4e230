-- The turns of a round: those that do nothing may be passed over.
use Rattle.std.proofs.Common.{◌≡◌, ℕ, zero, suc, ◌+◌, ◌-◌, ◌<◌, ◌≤◌, map, Bool, true, false, cond, List, ◌∷◌, [], ◌++◌, None, length, refl, sym, ap, ◌∙◌, inl, inr, arith}
use Rattle.std.specs.Prelude.{is_some}
use Rattle.std.specs.declared.option.Option.{Option}
use Rattle.std.specs.List.{range_with_len}
use Rattle.std.proofs.lemmas.Bool.{cases_lt}
use Rattle.std.proofs.lemmas.Bool.Decides.{nat_tests}
use Rattle.std.proofs.lemmas.List.{get_or_past}
use Rattle.std.proofs.lemmas.List.Sums.{get_or-le-sum_by}
use Rattle.neph_base.specs.declared.reply.Actor.{Actor}
use Rattle.neph_base.specs.declared.reply.Actor.TheVariants as actor
use Rattle.neph_model.specs.declared.life.Life.{Life}
use Rattle.neph_model.specs.declared.script.Script.{Script}
use Rattle.neph_model.specs.Machine.{is_live, is_over, live_count}
use Rattle.neph_model.specs.Books.{State}
use Rattle.neph_model.specs.Step.{is_due, step}
use Rattle.neph_model.specs.declared.told.Told.TheVariants.{Enough}
use Rattle.neph_base.specs.declared.reply.Entry.TheVariants as entry
use Rattle.neph_model.specs.Turns.{Done, nothing, noting, next_move, move_turn, turn, turns, before, round}
use Rattle.neph_rows.specs.Live.{IsNoneLive}
use Rattle.neph_core.proofs.Courses.{turns_over}

-- the backends, whose turns do nothing
abbrev pub backends : List Actor
backends = actor.Console ∷ actor.Net ∷ actor.P9 ∷ []

-- what is left of a round from the turn of an id on
abbrev pub round_from : ℕ → List Actor
round_from id = map (λ x. actor.Dom x) (range_with_len id (64 - id)) ++ actor.Daemon ∷ backends

pub round_is : round ≡ round_from 1
unfolding round
round_is = refl

-- the turn of an id, and what is left then
pub one_of_round : (id : ℕ) → id < 64 → round_from id ≡ actor.Dom id ∷ round_from (id + 1)
one_of_round id lt =
    let k : 64 - id ≡ suc (64 - (id + 1)) = omega (arith, lt) in
    ap (λ n. map (λ x. actor.Dom x) (range_with_len id n) ++ actor.Daemon ∷ backends) k

-- a turn that does nothing may be passed over
pub idle_first : (s : Script) (st : State) (a : Actor) (rest : List Actor) → turn s st a ≡ nothing st → turns s st (a ∷ rest) ≡ turns s st rest
idle_first s st a rest idle = by (is_over st.machine) refl where
  d : Done
  d = turns s st rest

  by : (over : Bool) → is_over st.machine ≡ over → turns s st (a ∷ rest) ≡ turns s st rest
  by true e = turns_over s st (a ∷ rest) e ∙ sym (turns_over s st rest e)
  by false e =
      let none : 0 + (turns s st rest).steps ≡ (turns s st rest).steps = omega arith in
      ap (λ (b : Bool). cond b (nothing st) (before (turn s st a) (turns s (turn s st a).state rest))) e
      ∙ ap (λ (one : Done). before one (turns s one.state rest)) idle ∙ ap (λ (n : ℕ). record (turns s st rest) { steps = n }) none

-- those of the backends
pub backends_rest : (s : Script) (st : State) → turns s st backends ≡ nothing st
backends_rest s st = idle_first s st actor.Console (actor.Net ∷ actor.P9 ∷ []) refl ∙ idle_first s st actor.Net (actor.P9 ∷ []) refl ∙ idle_first s st actor.P9 [] refl

-- and that of the daemon, where no clone waits for it
pub daemon_rests : (s : Script) (st : State) → is_due s st.machine entry.Daemon ≡ false → turns s st (actor.Daemon ∷ backends) ≡ nothing st
daemon_rests s st e =
    idle_first s st actor.Daemon backends (ap (λ (b : Bool). cond b (noting entry.Daemon (step s st.machine entry.Daemon Enough) st.books) (nothing st)) e) ∙ backends_rest s st

-- and those of ids with no live domain
rests : (s : Script) (st : State) (id : ℕ) → is_live id st.machine.shared.lives ≡ false → turn s st (actor.Dom id) ≡ nothing st
rests s st id e = ap (λ (b : Bool). cond b (move_turn s st id (next_move s st id)) (nothing st)) e

passed : (s : Script) (st : State) (n from to : ℕ) → from + n ≡ to → to ≤ 64 → IsNoneLive st.machine.shared.lives from to → turns s st (round_from from) ≡ turns s st (round_from to)
passed s st zero from to e le none = let same : from ≡ to = omega (arith, e) in ap (λ k. turns s st (round_from k)) same
passed s st (suc n) from to e le none =
    ap (turns s st) (one_of_round from (omega (arith, e, le))) ∙ idle_first s st (actor.Dom from) (round_from (from + 1)) (rests s st from (none from (omega arith) (omega (arith, e))))
    ∙ passed s st n (from + 1) to (omega (arith, e)) le (λ k low lt. none k (omega (arith, low)) lt)

pub none_live_passed : (s : Script) (st : State) (from to : ℕ) → from ≤ to → to ≤ 64 → IsNoneLive st.machine.shared.lives from to → turns s st (round_from from) ≡ turns s st (round_from to)
none_live_passed s st from to low le none = passed s st (to - from) from to (omega (arith, low)) le none

-- where a domain is live the run isn't over
pub some_counts : (lives : List (Option Life)) (id : ℕ) → is_live id lives ≡ true → 0 < live_count lives
some_counts lives id e =
    elim (cases_lt id (length lives)) [
      | inl lt ↦ omega (arith, get_or-le-sum_by (λ (o : Option Life). cond (is_some o) 1 0) lives id None lt, ap {B = ℕ} (λ (b : Bool). cond b 1 0) e)
      | inr ge ↦ (let gone : is_live id lives ≡ false = ap (λ (o : Option Life). is_some o) (get_or_past lives id None ge) in absurd cc)
    ]

pub goes_on_live : (st : State) (id : ℕ) → is_live id st.machine.shared.lives ≡ true → is_over st.machine ≡ false
goes_on_live st id e =
    let some = some_counts st.machine.shared.lives id e in
    grind (arith, nat_tests, some)
