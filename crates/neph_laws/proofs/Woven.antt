-- The weave of a replayed journal with the domains' logs is legal.
use Rattle.std.proofs.Common.{◌≡◌, ◌≢◌, ℕ, ◌+◌, ◌<◌, Bool, true, false, not, cond, List, [], ◌∷◌, length, set, Option, Some, None, refl, sym, ap, subst, ◌∙◌, arith}
use Rattle.std.specs.Prelude.{IfSome, ◌==◌}
use Rattle.std.specs.Option.{option_map_or}
use Rattle.std.proofs.lemmas.Bool.{and_parts, eqb-true, eqb-false}
use Rattle.std.proofs.lemmas.List.{length-set, get_or-set_same, get_or-set_other}
use Rattle.std.proofs.lemmas.List.Elements.{All-head, All-tail}
use Rattle.neph_model.specs.declared.told.Told.{Told}
use Rattle.neph_base.specs.declared.reply.Entry.{Entry}
use Rattle.neph_base.specs.declared.reply.Entry.TheVariants.{Line, Commit, Daemon}
use Rattle.neph_base.specs.declared.reply.Reply.{Reply}
use Rattle.neph_model.specs.declared.script.Script.{Script}
use Rattle.neph_model.specs.declared.own.Own.{Own}
use Rattle.neph_model.specs.Machine.{Shared, Machine, no_own, own_at, is_live, program_run}
use Rattle.neph_model.specs.Births.{child_own}
use Rattle.neph_model.specs.Lent.{Lent, PageBack}
use Rattle.neph_model.specs.Step.{Outcome, actor, own_step, lends, own_after, child_made, bear, shared_step, step, is_paused, may_stand}
use Rattle.neph_model.specs.Counting.{CountsWell, lacks_well, entry_command}
use Rattle.neph_model.specs.Legal.{CountsFrames, told_of, own_part, Legal, Act}
use Rattle.neph_model.specs.Weave.{LogItem, items_due, items_later, log_entries, count_at, log_at, weave, RunsOn, Follows, IsNextAct, makes, Tracks}
use Rattle.neph_model.specs.Laws.{HasPlaces, RunPrograms, MakesChild, WeavesLegally}
use Rattle.neph_laws.proofs.Local.{locked_from, locked_is}
use Rattle.neph_laws.proofs.Ends.{found_within, runs_by_parts, legal_append, went, ends}
use Rattle.neph_laws.proofs.Home.{step_home, step_size}

-- the actor of an act that may stand has a place
has_place : (s : Script) (sh : Shared) (e : Entry) → length sh.lives ≡ 64 → may_stand s sh e ≡ true → actor e < 64
has_place s sh (Line dom line) size stands = omega (arith, size, found_within sh.lives dom (and_parts (is_live dom sh.lives) _ stands).0)
has_place s sh (Commit dom line) size stands = omega (arith, size, found_within sh.lives dom (and_parts (is_live dom sh.lives) _ stands).0)
has_place s sh Daemon size stands = omega arith

-- local entries that stand before an act are those of a running domain
runs_on : (s : Script) (sh : Shared) (e : Entry) (log : List LogItem) → Follows e log → may_stand s sh e ≡ true → RunsOn sh (actor e) log
runs_on s sh (Line dom line) [] follows stands = tt
runs_on s sh (Line dom line) (x ∷ xs) follows stands =
    let live = and_parts (is_live dom sh.lives) _ stands in
    runs_by_parts dom sh live.0 (not_true (is_paused dom sh) (and_parts (not (is_paused dom sh)) _ live.1).0) where
      not_true : (b : Bool) → not b ≡ true → b ≡ false
      not_true true e = absurd cc
      not_true false e = refl
runs_on s sh (Commit dom line) log follows stands = subst (RunsOn sh dom) (sym follows) tt
runs_on s sh Daemon log follows stands = subst (RunsOn sh 0) (sym follows) tt

-- an act on a machine whose actor has this own half and this program
acts_so : (s : Script) (m : Machine) (e : Entry) (told : Told) (p : ℕ) (o : Own) → (is_live (actor e) m.shared.lives ≡ true → program_run (actor e) m.shared.lives ≡ p) → may_stand s m.shared e ≡ true → own_at (actor e) m.own ≡ o → own_step s p o e told ≡ None → step s m e told ≡ locked_from s m p o e told
acts_so s m (Line dom line) told p o home stands at none =
    let prog = home (and_parts (is_live dom m.shared.lives) _ stands).0 in
    let e = Line dom line in
    locked_is s m e told (ap (λ q. own_step s q (own_at dom m.own) e told) prog ∙ ap (λ h. own_step s p h e told) at ∙ none) ∙ ap (λ q. locked_from s m q (own_at dom m.own) e told) prog ∙ ap (λ h. locked_from s m p h e told) at
acts_so s m (Commit dom line) told p o home stands at none = ap (λ h. locked_from s m p h (Commit dom line) told) at
acts_so s m Daemon told p o home stands at none = ap (λ h. locked_from s m p h Daemon told) at

-- an act counts frames that are possible, and says that none is left where one may lack, as it does in the journal and by its domain's half
counts_so : (s : Script) (m : Machine) (e : Entry) (r : Reply) (p : ℕ) (o : Own) → (is_live (actor e) m.shared.lives ≡ true → program_run (actor e) m.shared.lives ≡ p) → may_stand s m.shared e ≡ true → own_at (actor e) m.own ≡ o → own_step s p o e (told_of r) ≡ None
    → CountsWell s m.shared (entry_command s (program_run (actor e) m.shared.lives) e) r → lacks_well o (entry_command s p e) r ≡ true
    → CountsFrames s (program_run (actor e) m.shared.lives) m.shared (own_at (actor e) m.own) (record { entry = e; reply = r }) (own_part s m (record { entry = e; reply = r }))
counts_so s m (Line dom line) r p o home stands at none counts lacks =
    let prog = home (and_parts (is_live dom m.shared.lives) _ stands).0 in
    rw (prog, at, none) (subst (λ q. CountsWell s m.shared (entry_command s q (Line dom line)) r) prog counts, lacks)
counts_so s m (Commit dom line) r p o home stands at none counts lacks = (counts, rw at lacks)
counts_so s m Daemon r p o home stands at none counts lacks = (counts, rw at lacks)

bear_length : (own : List Own) (id : ℕ) (o : Own) (k : Option ℕ) → length (bear own id o k) ≡ length own
bear_length own id o None = refl
bear_length own id o (Some c) = length-set own c _

-- the own half of a child of this act
bears : (own : List Own) (id child other : ℕ) (o born : Own) → length own ≡ 64 → child < 64 → born ≡ o → own_at other (set own child (child_own child id o)) ≡ cond (child == other) (child_own other id born) (own_at other own)
bears own id child other o born size place is =
    elim (child == other) as (λ b. child == other ≡ b → own_at other (set own child (child_own child id o)) ≡ cond b (child_own other id born) (own_at other own)) [
      | true ↦ λ e.
          let same = eqb-true child other e in
          ap (λ i. own_at i (set own child (child_own child id o))) (sym same) ∙ get_or-set_same own child (child_own child id o) no_own (omega (arith, size, place)) ∙ ap (λ i. child_own i id o) same ∙ ap (child_own other id) (sym is)
      | false ↦ λ e. get_or-set_other own child other (child_own child id o) no_own (λ q. eqb-false child other e (sym q))
    ] refl

born_at : (p : ℕ → ℕ) (own : List Own) (id k : ℕ) (here born : Own) (child : Option ℕ) → length own ≡ 64 → IfSome child (λ c. (c < 64) × (p c ≡ p id)) → IfSome child (λ c. born ≡ here) → own_at k (bear own id here child) ≡ cond (option_map_or (λ c. c == k) child false) (child_own k id born) (own_at k own)
born_at p own id k here born None size place is = refl
born_at p own id k here born (Some c) size place is = bears own id c k here born size place.0 is

-- a commit is lent the own half of its domain
born_half : (s : Script) (p : ℕ) (o : Own) (e : Entry) (r : Reply) → IfSome (child_made e r) (λ c. (lends s p o e).born ≡ o)
born_half s p o (Commit dom line) r = whole (child_made (Commit dom line) r) where
  whole : (child : Option ℕ) → IfSome child (λ c. o ≡ o)
  whole None = tt
  whole (Some c) = refl
born_half s p o (Line dom line) r = tt
born_half s p o Daemon r = tt

-- an act whose actor has this own half, own_behind its local entries
module _ (s : Script) (end : Shared) (p : ℕ → ℕ) (last : ℕ → Own) (a : Act) (acts : List Act) (m : Machine) (counts : List ℕ) (logs : List (List LogItem)) (sized : HasPlaces m.own m.shared.lives counts logs) (home : RunPrograms p m.shared) (born : MakesChild p a) (own : List Own) (here : Own)
    (at : own_at (actor a.noted.entry) own ≡ here) (others : (i : ℕ) → i ≢ actor a.noted.entry → own_at i own ≡ own_at i m.own) (size : length own ≡ 64) (stands : may_stand s m.shared a.noted.entry ≡ true)
    (next : IsNextAct s (p (actor a.noted.entry)) here (items_due (count_at (actor a.noted.entry) counts) (log_at (actor a.noted.entry) logs)) a)
    (reply : (shared_step s m.shared a.noted.entry a.lent (told_of a.noted.reply)).reply ≡ a.noted.reply) (back : (shared_step s m.shared a.noted.entry a.lent (told_of a.noted.reply)).back ≡ a.back) where
  -- the own halves and the machine own_behind it
  abbrev after : Reply → Option PageBack → List Own
  after r b = let id = actor a.noted.entry in set (bear own id here (child_made a.noted.entry r)) id (own_after s (p id) here a.noted.entry r b)

  abbrev own_behind : Machine
  own_behind = record { own = after a.noted.reply a.back; shared = (shared_step s m.shared a.noted.entry a.lent (told_of a.noted.reply)).shared }

  steps : step s (record m { own = own }) a.noted.entry (told_of a.noted.reply) ≡ record { machine = own_behind; reply = a.noted.reply }
  steps =
      let e = a.noted.entry in
      let told = told_of a.noted.reply in
      let id = actor e in
      let did = shared_step s m.shared e a.lent told in
      let from : Lent → Outcome = λ l. let x = shared_step s m.shared e l told in record { machine = record { own = after x.reply x.back; shared = x.shared }; reply = x.reply } in
      acts_so s (record m { own = own }) e told (p id) here (home id) stands at next.locked ∙ ap from (sym next.lent)
      ∙ ap (λ r. record { machine = record { own = after r did.back; shared = did.shared }; reply = r }) reply ∙ ap (λ b. record { machine = record { own = after a.noted.reply b; shared = did.shared }; reply = a.noted.reply }) back

  after_size : length own_behind.own ≡ 64
  after_size = length-set (bear own (actor a.noted.entry) here (child_made a.noted.entry a.noted.reply)) (actor a.noted.entry) _ ∙ bear_length own (actor a.noted.entry) here (child_made a.noted.entry a.noted.reply) ∙ size

  still_home : RunPrograms p own_behind.shared
  still_home = step_home p s m.shared a.noted.entry a.lent (told_of a.noted.reply) sized.domains home stands (subst (λ r. IfSome (child_made a.noted.entry r) (λ child. (child < 64) × (p child ≡ p (actor a.noted.entry)))) (sym reply) born)

  its_half : own_at (actor a.noted.entry) own_behind.own ≡ own_after s (p (actor a.noted.entry)) here a.noted.entry a.noted.reply a.back
  its_half =
      let place = has_place s m.shared a.noted.entry sized.domains stands in
      let bare = bear own (actor a.noted.entry) here (child_made a.noted.entry a.noted.reply) in
      get_or-set_same bare (actor a.noted.entry) _ no_own (omega (arith, place, bear_length own (actor a.noted.entry) here (child_made a.noted.entry a.noted.reply), size))

  other_half : (k : ℕ) → k ≢ actor a.noted.entry → own_at k own_behind.own ≡ cond (makes k a) (child_own k (actor a.noted.entry) a.lent.born) (own_at k m.own)
  other_half k far =
      let id = actor a.noted.entry in
      let child = child_made a.noted.entry a.noted.reply in
      let whole : IfSome child (λ c. a.lent.born ≡ here) = subst (λ (l : Lent). IfSome child (λ c. l.born ≡ here)) (sym next.lent) (born_half s (p id) here a.noted.entry a.noted.reply) in
      get_or-set_other (bear own id here child) id k _ no_own far ∙ born_at p own id k here a.lent.born child size born whole ∙ ap (cond (makes k a) (child_own k id a.lent.born)) (others k far)

  tracks_on : ((id : ℕ) → Tracks s end id (p id) (own_at id m.own) (count_at id counts) (log_at id logs) (a ∷ acts) (last id))
      → Tracks s end (actor a.noted.entry) (p (actor a.noted.entry)) (own_after s (p (actor a.noted.entry)) here a.noted.entry a.noted.reply a.back) (count_at (actor a.noted.entry) counts + 1) (items_later (count_at (actor a.noted.entry) counts) (log_at (actor a.noted.entry) logs)) acts (last (actor a.noted.entry))
      → (k : ℕ) → Tracks s end k (p k) (own_at k own_behind.own) (count_at k (set counts (actor a.noted.entry) (count_at (actor a.noted.entry) counts + 1))) (log_at k (set logs (actor a.noted.entry) (items_later (count_at (actor a.noted.entry) counts) (log_at (actor a.noted.entry) logs)))) acts (last k)
  tracks_on tracks mine k =
      let id = actor a.noted.entry in
      let n = count_at id counts in
      let rest = items_later n (log_at id logs) in
      let place = has_place s m.shared a.noted.entry sized.domains stands in
      elim (id == k) as (λ b. id == k ≡ b → Tracks s end k (p k) (own_at k own_behind.own) (count_at k (set counts id (n + 1))) (log_at k (set logs id rest)) acts (last k)) [
        | true ↦ λ e.
            let count : count_at id (set counts id (n + 1)) ≡ n + 1 = get_or-set_same counts id (n + 1) 0 (omega (arith, place, sized.entries)) in
            let log : log_at id (set logs id rest) ≡ rest = get_or-set_same logs id rest [] (omega (arith, place, sized.items)) in
            let here_now = subst (λ h. Tracks s end id (p id) h (n + 1) rest acts (last id)) (sym its_half) mine in
            let counted = subst (λ c. Tracks s end id (p id) (own_at id own_behind.own) c rest acts (last id)) (sym count) here_now in
            let logged = subst (λ l. Tracks s end id (p id) (own_at id own_behind.own) (count_at id (set counts id (n + 1))) l acts (last id)) (sym log) counted in
            subst (λ i. Tracks s end i (p i) (own_at i own_behind.own) (count_at i (set counts id (n + 1))) (log_at i (set logs id rest)) acts (last i)) (eqb-true id k e) logged
        | false ↦ λ e.
            let far : k ≢ id = λ q. eqb-false id k e (sym q) in
            let count : count_at k (set counts id (n + 1)) ≡ count_at k counts = get_or-set_other counts id k (n + 1) 0 far in
            let log : log_at k (set logs id rest) ≡ log_at k logs = get_or-set_other logs id k rest [] far in
            let track = (tracks k).1 (eqb-false id k e) in
            let here_now = subst (λ h. Tracks s end k (p k) h (count_at k counts) (log_at k logs) acts (last k)) (sym (other_half k far)) track in
            let counted = subst (λ c. Tracks s end k (p k) (own_at k own_behind.own) c (log_at k logs) acts (last k)) (sym count) here_now in
            subst (λ l. Tracks s end k (p k) (own_at k own_behind.own) (count_at k (set counts id (n + 1))) l acts (last k)) (sym log) counted
      ] refl

pub weaves_legally : WeavesLegally
weaves_legally s m end counts logs [] p last sized home born replays tracks =
    let done = ends s p last 0 logs m home sized.owns sized.domains (λ k.
    let at : 0 + k ≡ k = omega arith in
    let track = tracks k in
    rw at (track.0, subst (λ sh. RunsOn sh k (log_at k logs)) (sym replays) track.1)) in
    (record m { own = done.own }, (done.legal, replays, λ id. let at : 0 + id ≡ id = omega arith in rw (sym at) (done.here id)))
weaves_legally s m end counts logs (a ∷ acts) p last sized home born replays tracks =
    let e = a.noted.entry in
    let told = told_of a.noted.reply in
    let id = actor e in
    let n = count_at id counts in
    let log = log_at id logs in
    let d = items_due n log in
    let mine = (tracks id).0 refl in
    let here = mine.0 in
    let next = mine.1.1 in
    let stands = replays.0.stands in
    let one = went s (p id) id d m here (home id) sized.owns sized.domains mine.1.0 (runs_on s m.shared e d next.follows stands) in
    let first = All-head (MakesChild p) a acts born in
    let size : length one.own ≡ 64 = one.size ∙ sized.owns in
    let m1 : Machine = record m { own = one.own } in
    let m2 = own_behind s end p last a acts m counts logs sized home first one.own here one.here one.others size stands next replays.0.reply replays.0.back in
    let goes = steps s end p last a acts m counts logs sized home first one.own here one.here one.others size stands next replays.0.reply replays.0.back in
    let places : HasPlaces m2.own m2.shared.lives (set counts id (n + 1)) (set logs id (items_later n log)) =
    record {
      owns = after_size s end p last a acts m counts logs sized home first one.own here one.here one.others size stands next replays.0.reply replays.0.back;
      domains = step_size s m.shared e a.lent told ∙ sized.domains;
      entries = length-set counts id (n + 1) ∙ sized.entries;
      items = length-set logs id (items_later n log) ∙ sized.items;
    } in
    let rest = weaves_legally s m2 end (set counts id (n + 1)) (set logs id (items_later n log)) acts p last places
    (still_home s end p last a acts m counts logs sized home first one.own here one.here one.others size stands next replays.0.reply replays.0.back) (All-tail (MakesChild p) a acts born) replays.1
    (tracks_on s end p last a acts m counts logs sized home first one.own here one.here one.others size stands next replays.0.reply replays.0.back tracks mine.1.2) in
    let tail = weave (set counts id (n + 1)) (set logs id (items_later n log)) acts in
    let following : Legal s m1 (a.noted ∷ tail) rest.0 = (
      record {
        stands = stands;
        next = rw one.here next.next;
        reply = ap (λ (w : Outcome). w.reply) goes;
        frames = counts_so s m1 e a.noted.reply (p id) here (home id) stands one.here next.locked replays.0.frames next.lacks;
      },
      subst (λ (x : Machine). Legal s x tail rest.0) (sym (ap (λ (w : Outcome). w.machine) goes)) rest.1.0,
    ) in
    (rest.0, (legal_append s (log_entries id d) (a.noted ∷ tail) m m1 rest.0 one.legal following, rest.1.1, rest.1.2))
