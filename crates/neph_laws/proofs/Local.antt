-- Local entries change their domain's own half alone, and the others have their journal.
use Rattle.std.proofs.Common.{◌≡◌, ◌≢◌, ℕ, List, [], ◌∷◌, set, Option, Some, None, Result, Ok, Err, refl, sym, ap, subst, ◌∙◌}
use Rattle.std.specs.Prelude.{IfSome}
use Rattle.std.proofs.lemmas.List.{get_or-set_other, set_comm}
use Rattle.neph_model.specs.declared.told.Told.{Told}
use Rattle.neph_base.specs.declared.reply.Entry.{Entry}
use Rattle.neph_base.specs.declared.reply.Entry.TheVariants.{Line, Commit, Daemon}
use Rattle.neph_base.specs.declared.reply.Reply.{Reply}
use Rattle.neph_base.specs.declared.command.Command.{Command}
use Rattle.neph_base.specs.declared.command.Command.TheVariants as command
use Rattle.neph_base.specs.declared.reply.Refusal.{Refusal}
use Rattle.neph_model.specs.declared.script.Script.{Script}
use Rattle.neph_model.specs.Programs.{command_at}
use Rattle.neph_model.specs.declared.own.Own.{Own}
use Rattle.neph_model.specs.declared.life.Cloned.{Cloned}
use Rattle.neph_model.specs.Machine.{Shared, Machine, no_own, own_at, put_own, life_at, program_of, program_run, guest_at}
use Rattle.neph_model.specs.Lent.{Lent}
use Rattle.neph_model.specs.Trap.{Accepted, trap}
use Rattle.neph_model.specs.Step.{Outcome, actor, own_step, lends, own_after, child_made, bear, call_effect, shared_line, shared_commit, shared_join, shared_step, locked_step, step_by, step}
use Rattle.neph_model.specs.Legal.{CountsFrames, told_of, Replays, with_act, journal}
use Rattle.neph_model.specs.Laws.{MaySwap, LocalAlone, LocalMoves, SharedReplays}

pub local_alone : LocalAlone
local_alone s m e told did is = ap (step_by s m e told) is

pub locked_is : (s : Script) (m : Machine) (e : Entry) (told : Told) → own_step s (program_run (actor e) m.shared.lives) (own_at (actor e) m.own) e told ≡ None → step s m e told ≡ locked_step s m e told
locked_is s m e told is = ap (step_by s m e told) is

-- an own half of another id is put before a child's or after it
pub bear_set : (own : List Own) (a b : ℕ) (x o : Own) (k : Option ℕ) → IfSome k (λ child. child ≢ a) → bear (set own a x) b o k ≡ set (bear own b o k) a x
bear_set own a b x o None h = refl
bear_set own a b x o (Some c) h = set_comm own a c x _ (λ e. h (sym e))

pub bear_other : (own : List Own) (a b : ℕ) (o : Own) (k : Option ℕ) → IfSome k (λ child. child ≢ a) → own_at a (bear own b o k) ≡ own_at a own
bear_other own a b o None h = refl
bear_other own a b o (Some c) h = get_or-set_other own c a _ no_own (λ e. h (sym e))

-- an entry under the lock, of an actor with this program and this own half
abbrev pub locked_from : Script → Machine → ℕ → Own → Entry → Told → Outcome
locked_from s m p o f told =
    let id = actor f in
    let did = shared_step s m.shared f (lends s p o f) told in
    record { machine = record { own = set (bear m.own id o (child_made f did.reply)) id (own_after s p o f did.reply did.back); shared = did.shared }; reply = did.reply }

pub called_lives : (sh : Shared) (r : Result Accepted Refusal) → (call_effect sh r).shared.lives ≡ sh.lives
called_lives sh (Ok did) = refl
called_lives sh (Err why) = refl

line_lives : (sh : Shared) (id a : ℕ) (l : Lent) (told : Told) (c : Command) → a ≢ id → life_at a (shared_line sh id l told c).shared.lives ≡ life_at a sh.lives
line_lives sh id a l told command.Exit apart = get_or-set_other sh.lives id a None None apart
line_lives sh id a l told c apart = ap (life_at a) (called_lives sh (trap sh id (guest_at id sh.tables) l told c))

commit_lives : (sh : Shared) (id a line : ℕ) (begun : List ℕ) → IfSome (child_made (Commit id line) (shared_commit sh id begun).reply) (λ child. child ≢ a) → life_at a (shared_commit sh id begun).shared.lives ≡ life_at a sh.lives
commit_lives sh id a line [] free = refl
commit_lives sh id a line (child ∷ left) free = get_or-set_other sh.lives child a _ None (λ e. free (sym e))

pub join_lives : (sh : Shared) (w : List Cloned) → (shared_join sh w).shared.lives ≡ sh.lives
join_lives sh [] = refl
join_lives sh (x ∷ w) = refl

-- an entry under the lock leaves what another id was born as, unless it is the commit that makes it
pub lives_stay : (s : Script) (sh : Shared) (f : Entry) (l : Lent) (told : Told) (a : ℕ) → a ≢ actor f → IfSome (child_made f (shared_step s sh f l told).reply) (λ child. child ≢ a) → life_at a (shared_step s sh f l told).shared.lives ≡ life_at a sh.lives
lives_stay s sh (Line dom line) l told a apart free = line_lives sh dom a l told (command_at s (program_run dom sh.lives) line) apart
lives_stay s sh (Commit dom line) l told a apart free = commit_lives sh dom a line (guest_at dom sh.tables).begun free
lives_stay s sh Daemon l told a apart free = ap (life_at a) (join_lives sh sh.tables.waiting)

-- two steps and the same in the other order, by what each comes to
swapped : (first second : Machine → Outcome) (m : Machine) (o1 o2 o12 o21 : Outcome) → first m ≡ o1 → second m ≡ o2 → first o2.machine ≡ o12 → second o1.machine ≡ o21 → o12.machine ≡ o21.machine → o12.reply ≡ o1.reply → o21.reply ≡ o2.reply
    → ((first (second m).machine).machine ≡ (second (first m).machine).machine) × ((first (second m).machine).reply ≡ (first m).reply) × ((second (first m).machine).reply ≡ (second m).reply)
swapped first second m o1 o2 o12 o21 e1 e2 e12 e21 same r1 r2 =
    let p : first (second m).machine ≡ o12 = ap (λ (o : Outcome). first o.machine) e2 ∙ e12 in
    let q : second (first m).machine ≡ o21 = ap (λ (o : Outcome). second o.machine) e1 ∙ e21 in (
      ap (λ (o : Outcome). o.machine) p ∙ same ∙ sym (ap (λ (o : Outcome). o.machine) q),
      ap (λ (o : Outcome). o.reply) p ∙ r1 ∙ sym (ap (λ (o : Outcome). o.reply) e1),
      ap (λ (o : Outcome). o.reply) q ∙ r2 ∙ sym (ap (λ (o : Outcome). o.reply) e2),
    )

may_swap : (s : Script) (m : Machine) (e : Entry) (told : Told) (f : Entry) (other : Told)
    → ((step s (step s m f other).machine e told).machine ≡ (step s (step s m e told).machine f other).machine)
    × ((step s (step s m f other).machine e told).reply ≡ (step s m e told).reply)
    × ((step s (step s m e told).machine f other).reply ≡ (step s m f other).reply)
    → MaySwap s m e told f other
may_swap s m e told f other t = record { machine = t.0; first = t.1; second = t.2 }

pub local_moves : LocalMoves
local_moves s m e f told other did alone apart births =
    let a = actor e in
    let b = actor f in
    let x = did.0 in
    let p = program_run b m.shared.lives in
    let o = own_at b m.own in
    let m1 : Machine = put_own a x m in
    let o1 : Outcome = record { machine = m1; reply = did.1 } in
    let same : own_at b m1.own ≡ o = get_or-set_other m.own a b x no_own apart in
    let back : a ≢ b = λ q. apart (sym q) in
    let e1 = local_alone s m e told did alone in
    elim (own_step s p o f other) as (λ g. own_step s p o f other ≡ g → MaySwap s m e told f other) [
      | Some d ↦ λ is.
          let m2 : Machine = put_own b d.0 m in
          let o12 : Outcome = record { machine = put_own a x m2; reply = did.1 } in
          let o21 : Outcome = record { machine = put_own b d.0 m1; reply = d.1 } in
          let there : own_at a m2.own ≡ own_at a m.own = get_or-set_other m.own b a d.0 no_own back in
          let e12 = local_alone s m2 e told did (ap (λ h. own_step s (program_run a m.shared.lives) h e told) there ∙ alone) in
          let e21 = local_alone s m1 f other d (ap (λ h. own_step s p h f other) same ∙ is) in
          may_swap s m e told f other (swapped (λ n. step s n e told) (λ n. step s n f other) m o1 (record { machine = m2; reply = d.1 }) o12 o21 e1 (local_alone s m f other d is) e12 e21
          (ap (λ (l : List Own). record m { own = l }) (set_comm m.own b a d.0 x apart)) refl refl)
      | None ↦ λ is.
          let act = locked_from s m p o f other in
          let k = child_made f act.reply in
          let y = own_after s p o f act.reply (shared_step s m.shared f (lends s p o f) other).back in
          let f2 : step s m f other ≡ act = locked_is s m f other is in
          let free : IfSome k (λ child. child ≢ a) = subst (λ (r : Reply). IfSome (child_made f r) (λ child. child ≢ a)) (ap (λ (w : Outcome). w.reply) f2) births in
          let m2 = act.machine in
          let o12 : Outcome = record { machine = put_own a x m2; reply = did.1 } in
          let o21 = locked_from s m1 p o f other in
          let born : life_at a m2.shared.lives ≡ life_at a m.shared.lives = lives_stay s m.shared f (lends s p o f) other a back free in
          let there : own_at a m2.own ≡ own_at a m.own = get_or-set_other (bear m.own b o k) b a y no_own back ∙ bear_other m.own a b o k free in
          let e12 = local_alone s m2 e told did (ap (λ h. own_step s (program_of h) (own_at a m2.own) e told) born ∙ ap (λ h. own_step s (program_run a m.shared.lives) h e told) there ∙ alone) in
          let e21 : step s m1 f other ≡ o21 = locked_is s m1 f other (ap (λ h. own_step s p h f other) same ∙ is) ∙ ap (λ h. locked_from s m1 p h f other) same in
          let lists : set (set (bear m.own b o k) b y) a x ≡ set (bear m1.own b o k) b y = set_comm (bear m.own b o k) b a y x apart ∙ ap (λ (l : List Own). set l b y) (sym (bear_set m.own a b x o k free)) in
          may_swap s m e told f other (swapped (λ n. step s n e told) (λ n. step s n f other) m o1 act o12 o21 e1 f2 e12 e21 (ap (λ (l : List Own). record m2 { own = l }) lists) refl refl)
    ] refl

pub shared_replays : SharedReplays
shared_replays s m last [] legal = ap (λ (x : Machine). x.shared) legal
shared_replays s m last (x ∷ xs) legal =
    let told = told_of x.reply in
    let p = program_run (actor x.entry) m.shared.lives in
    let o = own_at (actor x.entry) m.own in
    let next = step s m x.entry told in
    let rest : Replays s next.machine.shared (journal s next.machine xs) last.shared = shared_replays s next.machine last xs legal.1 in
    elim (own_step s p o x.entry told) as (λ g. own_step s p o x.entry told ≡ g → Replays s m.shared (with_act s m x g (journal s next.machine xs)) last.shared) [
      | Some did ↦ λ is.
          let stays : next.machine.shared ≡ m.shared = ap (λ (w : Outcome). w.machine.shared) (local_alone s m x.entry told did is) in
          subst (λ sh. Replays s sh (journal s next.machine xs) last.shared) stays rest
      | None ↦ λ is.
          let act = locked_from s m p o x.entry told in
          let same : next ≡ act = locked_is s m x.entry told is in
          let frames = subst (CountsFrames s p m.shared o x) is legal.0.frames in (
            record { stands = legal.0.stands; reply = sym (ap (λ (w : Outcome). w.reply) same) ∙ legal.0.reply; back = refl; frames = frames.0 },
            subst (λ sh. Replays s sh (journal s next.machine xs) last.shared) (ap (λ (w : Outcome). w.machine.shared) same) rest,
          )
    ] refl
