-- The live domains run the programs that they were born with.
use Rattle.std.proofs.Common.{◌≡◌, ℕ, zero, suc, ◌<◌, true, false, List, [], ◌∷◌, length, set, Option, Some, None, refl, sym, ap, subst, ◌∙◌, arith}
use Rattle.std.specs.Prelude.{IfSome, option_map, ◌==◌, is_some}
use Rattle.std.proofs.lemmas.Bool.{and_parts, eqb-true, eqb-false}
use Rattle.std.proofs.lemmas.List.{length-set, get_or-set_same, get_or-set_other}
use Rattle.neph_model.specs.declared.told.Told.{Told}
use Rattle.neph_base.specs.declared.reply.Entry.{Entry}
use Rattle.neph_base.specs.declared.reply.Entry.TheVariants.{Line, Commit, Daemon}
use Rattle.neph_base.specs.declared.command.Command.{Command}
use Rattle.neph_base.specs.declared.command.Command.TheVariants as command
use Rattle.neph_model.specs.declared.script.Script.{Script}
use Rattle.neph_model.specs.declared.life.Life.{Life}
use Rattle.neph_model.specs.declared.life.Cloned.{Cloned}
use Rattle.neph_model.specs.Machine.{Shared, life_at, is_live, guest_at, program_of, program_run}
use Rattle.neph_model.specs.Programs.{command_at}
use Rattle.neph_model.specs.Lent.{Lent}
use Rattle.neph_model.specs.Trap.{trap}
use Rattle.neph_model.specs.Births.{end_domain}
use Rattle.neph_model.specs.Step.{actor, child_made, shared_line, shared_commit, shared_join, shared_step, may_stand}
use Rattle.neph_model.specs.Laws.{RunPrograms}
use Rattle.neph_laws.proofs.Local.{called_lives, join_lives}

-- a domain that has end_domain isn't live
dead : (lives : List (Option Life)) (id : ℕ) → life_at id (set lives id None) ≡ None
dead [] id = refl
dead (x ∷ xs) zero = refl
dead (x ∷ xs) (suc i) = dead xs i

dead_or_home : (p : ℕ → ℕ) (sh : Shared) (dom : ℕ) → RunPrograms p sh → RunPrograms p (end_domain sh dom)
dead_or_home p sh dom home id =
    elim (id == dom) as (λ b. id == dom ≡ b → is_live id (set sh.lives dom None) ≡ true → program_run id (set sh.lives dom None) ≡ p id) [
      | true ↦ λ e live. let gone : life_at id (set sh.lives dom None) ≡ None = rw (eqb-true id dom e) (dead sh.lives dom) in absurd (no_life gone live)
      | false ↦ λ e live.
          let far = get_or-set_other sh.lives dom id None None (eqb-false id dom e) in
          ap program_of far ∙ home id (ap is_some (sym far) ∙ live)
    ] refl where
      no_life : {o : Option Life} → o ≡ None → is_some o ≡ true → ⊥
      no_life e f = cc

line_home : (p : ℕ → ℕ) (sh : Shared) (dom : ℕ) (l : Lent) (told : Told) (c : Command) → RunPrograms p sh → RunPrograms p (shared_line sh dom l told c).shared
line_home p sh dom l told command.Exit home = dead_or_home p sh dom home
line_home p sh dom l told c home = λ id. subst (λ lives. is_live id lives ≡ true → program_run id lives ≡ p id) (sym (called_lives sh (trap sh dom (guest_at dom sh.tables) l told c))) (home id)

child_program : (id : ℕ) (o : Option Life) → program_of (option_map (λ (l : Life). record l { parent = id }) o) ≡ program_of o
child_program id None = refl
child_program id (Some l) = refl

commit_home : (p : ℕ → ℕ) (sh : Shared) (dom line : ℕ) (begun : List ℕ) → length sh.lives ≡ 64 → RunPrograms p sh → is_live dom sh.lives ≡ true → IfSome (child_made (Commit dom line) (shared_commit sh dom begun).reply) (λ child. (child < 64) × (p child ≡ p dom))
    → RunPrograms p (shared_commit sh dom begun).shared
commit_home p sh dom line [] size home here born id = home id
commit_home p sh dom line (child ∷ left) size home here born id =
    let life = option_map (λ (l : Life). record l { parent = dom }) (life_at dom sh.lives) in
    let lives = set sh.lives child life in
    elim (id == child) as (λ b. id == child ≡ b → is_live id lives ≡ true → program_run id lives ≡ p id) [
      | true ↦ λ e live.
          let same = eqb-true id child e in
          let put : life_at child lives ≡ life = get_or-set_same sh.lives child life None (omega (arith, born.0, size)) in
          ap (λ i. program_run i lives) same ∙ ap program_of put ∙ child_program dom (life_at dom sh.lives) ∙ home dom here ∙ sym born.1 ∙ ap p (sym same)
      | false ↦ λ e live.
          let far : life_at id lives ≡ life_at id sh.lives = get_or-set_other sh.lives child id life None (eqb-false id child e) in
          ap program_of far ∙ home id (ap is_some (sym far) ∙ live)
    ] refl

join_home : (p : ℕ → ℕ) (sh : Shared) (w : List Cloned) → RunPrograms p sh → RunPrograms p (shared_join sh w).shared
join_home p sh [] home = home
join_home p sh (x ∷ w) home = home

-- an entry under the lock keeps the programs
pub step_home : (p : ℕ → ℕ) (s : Script) (sh : Shared) (e : Entry) (l : Lent) (told : Told) → length sh.lives ≡ 64 → RunPrograms p sh → may_stand s sh e ≡ true → IfSome (child_made e (shared_step s sh e l told).reply) (λ child. (child < 64) × (p child ≡ p (actor e)))
    → RunPrograms p (shared_step s sh e l told).shared
step_home p s sh (Line dom line) l told size home stands born = line_home p sh dom l told (command_at s (program_run dom sh.lives) line) home
step_home p s sh (Commit dom line) l told size home stands born = commit_home p sh dom line (guest_at dom sh.tables).begun size home (and_parts (is_live dom sh.lives) _ stands).0 born
step_home p s sh Daemon l told size home stands born = join_home p sh sh.tables.waiting home

line_size : (sh : Shared) (dom : ℕ) (l : Lent) (told : Told) (c : Command) → length (shared_line sh dom l told c).shared.lives ≡ length sh.lives
line_size sh dom l told command.Exit = length-set sh.lives dom None
line_size sh dom l told c = ap length (called_lives sh (trap sh dom (guest_at dom sh.tables) l told c))

commit_size : (sh : Shared) (dom : ℕ) (begun : List ℕ) → length (shared_commit sh dom begun).shared.lives ≡ length sh.lives
commit_size sh dom [] = refl
commit_size sh dom (child ∷ left) = length-set sh.lives child _

pub step_size : (s : Script) (sh : Shared) (e : Entry) (l : Lent) (told : Told) → length (shared_step s sh e l told).shared.lives ≡ length sh.lives
step_size s sh (Line dom line) l told = line_size sh dom l told (command_at s (program_run dom sh.lives) line)
step_size s sh (Commit dom line) l told = commit_size sh dom (guest_at dom sh.tables).begun
step_size s sh Daemon l told = ap length (join_lives sh sh.tables.waiting)
