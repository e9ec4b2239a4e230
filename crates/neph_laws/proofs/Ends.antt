-- The local entries of a log are a legal history.
use Rattle.std.proofs.Common.{◌≡◌, ◌≢◌, ℕ, zero, suc, ◌+◌, ◌<◌, Bool, true, false, cond, not, ◌&&◌, List, [], ◌∷◌, ◌++◌, length, set, Option, Some, refl, sym, ap, subst, ◌∙◌, arith}
use Rattle.std.proofs.lemmas.Bool.{eq-eqb}
use Rattle.std.proofs.lemmas.List.{length-set, get_or-set_same, get_or-set_other, set-set, set-get_or}
use Rattle.neph_base.specs.declared.reply.Entry.TheVariants.{Line}
use Rattle.neph_base.specs.declared.reply.Noted.{Noted}
use Rattle.neph_base.specs.declared.reply.Reply.{Reply}
use Rattle.neph_base.specs.declared.command.Command.{Command}
use Rattle.neph_model.specs.declared.script.Script.{Script}
use Rattle.neph_model.specs.declared.own.Own.{Own}
use Rattle.neph_model.specs.declared.life.Life.{Life}
use Rattle.neph_model.specs.Machine.{Shared, Machine, no_own, own_at, put_own, is_live, program_run}
use Rattle.neph_model.specs.Programs.{command_at}
use Rattle.neph_model.specs.Own.{local_step}
use Rattle.neph_model.specs.Trap.{is_blocked}
use Rattle.neph_model.specs.Step.{Outcome, own_step, step, is_paused}
use Rattle.neph_model.specs.Legal.{CountsFrames, told_of, Legal}
use Rattle.neph_model.specs.Weave.{LogItem, log_entries, rest_entries, log_at, RunsLocally, is_running, RunsOn, Tracks}
use Rattle.neph_laws.proofs.Local.{local_alone}

-- a local command is never blocked
not_blocked : (s : Script) (p : ℕ) (o : Own) (r : Reply) (sh : Shared) (id : ℕ) (c : Command) (did : Own × Reply) → local_step s p o (told_of r) c ≡ Some did → is_blocked sh id c ≡ false
not_blocked s p o r sh id c did e = refl

-- what running means
pub running_parts : (id : ℕ) (sh : Shared) → is_running id sh ≡ true → (is_live id sh.lives ≡ true) × (is_paused id sh ≡ false)
running_parts id sh e = parts (is_live id sh.lives) (is_paused id sh) e where
  parts : (a b : Bool) → cond a (cond b false true) false ≡ true → (a ≡ true) × (b ≡ false)
  parts true true e = absurd cc
  parts true false e = (refl, refl)
  parts false b e = absurd cc

pub runs_by_parts : (id : ℕ) (sh : Shared) → is_live id sh.lives ≡ true → is_paused id sh ≡ false → is_running id sh ≡ true
runs_by_parts id sh live free = rw (live, free) refl

pub found_within : (lives : List (Option Life)) (i : ℕ) → is_live i lives ≡ true → i < length lives
found_within [] i e = absurd cc
found_within (x ∷ xs) zero e = omega arith
found_within (x ∷ xs) (suc i) e = omega (arith, found_within xs i e)

-- a line that may stand
stands_here : (live paused blocked : Bool) → live ≡ true → paused ≡ false → blocked ≡ false → live && (not paused && not blocked) ≡ true
stands_here true false false a b c = refl
stands_here true false true a b c = absurd cc
stands_here true true blocked a b c = absurd cc
stands_here false paused blocked a b c = absurd cc

pub legal_append : (s : Script) (xs ys : List Noted) (m mid last : Machine) → Legal s m xs mid → Legal s mid ys last → Legal s m (xs ++ ys) last
legal_append s [] ys m mid last a b = subst (λ (x : Machine). Legal s x ys last) (sym a) b
legal_append s (x ∷ xs) ys m mid last a b = (a.0, legal_append s xs ys (step s m x.entry (told_of x.reply)).machine mid last a.1 b)

-- a running domain's local entries are a legal history, which changes its own half alone
runs_legal : (s : Script) (p id : ℕ) (xs : List LogItem) (m : Machine) (o last : Own) → own_at id m.own ≡ o → program_run id m.shared.lives ≡ p → is_running id m.shared ≡ true → id < length m.own → RunsLocally s p o xs last
    → Legal s m (log_entries id xs) (put_own id last m)
runs_legal s p id [] m o last at prog running within runs =
    ap (λ (l : List Own). record m { own = l }) (sym (set-get_or m.own id no_own) ∙ ap (set m.own id) (at ∙ runs))
runs_legal s p id (x ∷ xs) m o last at prog running within runs =
    let next = runs.0 in
    let told = told_of x.reply in
    let e = Line id x.line in
    let does : own_step s (program_run id m.shared.lives) (own_at id m.own) e told ≡ Some (next, x.reply) = rw (prog, at) runs.1.1 in
    let clear : is_blocked m.shared id (command_at s (program_run id m.shared.lives) x.line) ≡ false = not_blocked s p o x.reply m.shared id (command_at s p x.line) (next, x.reply) runs.1.1 in
    let m1 = put_own id next m in
    let here : own_at id m1.own ≡ next = get_or-set_same m.own id next no_own within in
    let goes = local_alone s m e told (next, x.reply) does in
    let rest = runs_legal s p id xs m1 next last here prog running (omega (arith, within, length-set m.own id next)) runs.1.2 in
    let end : Machine = put_own id last m in
    let joined : put_own id last m1 ≡ end = ap (λ (l : List Own). record m { own = l }) (set-set m.own id next last) in (
      record {
        stands = stands_here (is_live id m.shared.lives) (is_paused id m.shared) _ (running_parts id m.shared running).0 (running_parts id m.shared running).1 clear;
        next = eq-eqb (own_at id m.own).line x.line (ap (λ (h : Own). h.line) at ∙ sym runs.1.0);
        reply = ap (λ (w : Outcome). w.reply) goes;
        frames = subst (CountsFrames s (program_run id m.shared.lives) m.shared (own_at id m.own) (record { entry = e; reply = x.reply })) (sym does) tt;
      },
      subst (λ (n : Machine). Legal s n (log_entries id xs) end) (sym (ap (λ (w : Outcome). w.machine) goes)) (subst (λ (n : Machine). Legal s m1 (log_entries id xs) n) joined rest),
    )

-- the own halves own_behind a domain's local entries: a legal history leads to them, and the others' are as they were
pub record Went (s : Script) (m : Machine) (id : ℕ) (xs : List LogItem) (last : Own) : Type 0 where
  pub own : List Own
  pub legal : Legal s m (log_entries id xs) (record m { own = own })
  pub here : own_at id own ≡ last
  pub others : (i : ℕ) → i ≢ id → own_at i own ≡ own_at i m.own
  pub size : length own ≡ length m.own

pub went : (s : Script) (p id : ℕ) (xs : List LogItem) (m : Machine) (last : Own) → (is_live id m.shared.lives ≡ true → program_run id m.shared.lives ≡ p) → length m.own ≡ 64 → length m.shared.lives ≡ 64 → RunsLocally s p (own_at id m.own) xs last → RunsOn m.shared id xs
    → Went s m id xs last
went s p id [] m last home size lives runs on = record { own = m.own; legal = refl; here = runs; others = λ i far. refl; size = refl }
went s p id (x ∷ xs) m last home size lives runs on =
    let live = (running_parts id m.shared on).0 in
    let within : id < length m.own = omega (arith, found_within m.shared.lives id live, size, lives) in
    record {
      own = set m.own id last;
      legal = runs_legal s p id (x ∷ xs) m (own_at id m.own) last refl (home live) on within runs;
      here = get_or-set_same m.own id last no_own within;
      others = λ i far. get_or-set_other m.own id i last no_own far;
      size = length-set m.own id last;
    }

-- the own halves own_behind the logs that are left
pub record Ends (s : Script) (m : Machine) (j : ℕ) (logs : List (List LogItem)) (last : ℕ → Own) : Type 0 where
  pub own : List Own
  pub legal : Legal s m (rest_entries j logs) (record m { own = own })
  pub here : (k : ℕ) → own_at (j + k) own ≡ last (j + k)
  pub before : (i : ℕ) → i < j → own_at i own ≡ own_at i m.own

pub ends : (s : Script) (p : ℕ → ℕ) (last : ℕ → Own) (j : ℕ) (logs : List (List LogItem)) (m : Machine) → ((id : ℕ) → is_live id m.shared.lives ≡ true → program_run id m.shared.lives ≡ p id) → length m.own ≡ 64 → length m.shared.lives ≡ 64
    → ((k : ℕ) → Tracks s m.shared (j + k) (p (j + k)) (own_at (j + k) m.own) 0 (log_at k logs) [] (last (j + k))) → Ends s m j logs last
ends s p last j [] m home size lives tracks = record { own = m.own; legal = refl; here = λ k. (tracks k).0; before = λ i lt. refl }
ends s p last j (log ∷ logs) m home size lives tracks =
    let at : j + 0 ≡ j = omega arith in
    let first : Tracks s m.shared j (p j) (own_at j m.own) 0 log [] (last j) = subst (λ i. Tracks s m.shared i (p i) (own_at i m.own) 0 log [] (last i)) at (tracks 0) in
    let one = went s (p j) j log m (last j) (home j) size lives first.0 first.1 in
    let m1 : Machine = record m { own = one.own } in
    let rest = ends s p last (suc j) logs m1 home (one.size ∙ size) lives (λ k.
    let next : j + suc k ≡ suc j + k = omega arith in
    let track = subst (λ i. Tracks s m.shared i (p i) (own_at i m.own) 0 (log_at k logs) [] (last i)) next (tracks (suc k)) in
    let far : suc j + k ≢ j = omega arith in
    subst (λ o. Tracks s m.shared (suc j + k) (p (suc j + k)) o 0 (log_at k logs) [] (last (suc j + k))) (sym (one.others (suc j + k) far)) track) in
    record {
      own = rest.own;
      legal = legal_append s (log_entries j log) (rest_entries (suc j) logs) m m1 (record m { own = rest.own }) one.legal rest.legal;
      here = λ k. here_at j k rest.own last (rest.before j (omega arith) ∙ one.here) rest.here;
      before = λ i lt. rest.before i (omega arith) ∙ one.others i (omega arith);
    } where
      here_at : (j k : ℕ) (own : List Own) (last : ℕ → Own) → own_at j own ≡ last j → ((k : ℕ) → own_at (suc j + k) own ≡ last (suc j + k)) → own_at (j + k) own ≡ last (j + k)
      here_at j zero own last now items_later = let at : j + 0 ≡ j = omega arith in rw at now
      here_at j (suc k) own last now items_later = let next : j + suc k ≡ suc j + k = omega arith in rw next (items_later k)
