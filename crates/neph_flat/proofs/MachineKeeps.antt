-- Each entry that is due keeps the machine sound.
use Rattle.std.proofs.Common.{◌≡◌, ◌≢◌, ℕ, ◌+◌, ◌<◌, ◌≤◌, ◌==◌, Bool, true, false, not, ◌&&◌, ◌||◌, List, [], ◌∷◌, ◌++◌, length, get_or, set, Option, Some, None, Result, Ok, Err, All, refl, sym, ap, subst, ◌∙◌, arith}
use Rattle.std.specs.Prelude.{IfSome, is_some, option_map}
use Rattle.std.specs.Option.{option_map_or}
use Rattle.std.specs.FinMap as fm
use Rattle.std.proofs.lemmas.Bool.{eqb-true, eqb-false}
use Rattle.std.proofs.lemmas.List.{length-set, length-append, length-map, get_or-set_same, get_or-set_other, set_comm, set-get_or, get_or_default}
use Rattle.std.proofs.lemmas.List.Elements.{All-head}
use Rattle.neph_base.specs.declared.command.Command.{Command}
use Rattle.neph_base.specs.declared.command.Command.TheVariants as command
use Rattle.neph_base.specs.declared.command.Mode.TheVariants.{Ro, Rw}
use Rattle.neph_base.specs.declared.reply.Entry.{Entry}
use Rattle.neph_base.specs.declared.reply.Entry.TheVariants.{Line, Commit, Daemon}
use Rattle.neph_base.specs.declared.reply.Reply.{Reply}
use Rattle.neph_base.specs.declared.reply.Reply.TheVariants as reply
use Rattle.neph_base.specs.declared.reply.Refusal.{Refusal}
use Rattle.neph_model.specs.declared.script.Script.{Script}
use Rattle.neph_model.specs.declared.memory.Mapping.{Mapping}
use Rattle.neph_model.specs.declared.life.Life.{Life}
use Rattle.neph_model.specs.declared.life.Guest.{Guest}
use Rattle.neph_model.specs.declared.life.Cloned.{Cloned}
use Rattle.neph_model.specs.declared.own.Own.{Own}
use Rattle.neph_model.specs.declared.told.Told.{Told}
use Rattle.neph_grant.specs.Handles.{Mappings}
use Rattle.neph_laws.proofs.HandleRows.{IsOfHandles, handle_row}
use Rattle.neph_laws.proofs.GrantRows.{ungrant_row}
use Rattle.neph_grant.specs.Table.{Grants}
use Rattle.neph_model.specs.Machine.{Machine, Shared, Tables, Exposed, own_at, no_own, no_guest, guest_at, life_at, is_live, exposed_at, program_run}
use Rattle.neph_model.specs.Programs.{command_at, labels_of, program_at}
use Rattle.neph_model.specs.Own.{local_step, page_of, with_alone, mapping_at}
use Rattle.neph_model.specs.Lent.{Lent, PageBack, lent, own_given, own_replied, own_behind, with_page_back}
use Rattle.neph_model.specs.Trap as trap
use Rattle.neph_model.specs.Births.{child_own, parent_own, commit, join, child_exposed, child_guest}
use Rattle.neph_model.specs.Memory.{page_with_identity}
use Rattle.neph_model.specs.Laws.{IsApart, IsGranted, StaysApart, StaysGranted}
use Rattle.neph_model.specs.Step.{Outcome, Locked, locked, step_by, locked_step, call_effect, shared_line, shared_commit, shared_join, step, actor, child_made, is_due, is_paused, is_some_left, bear}
use Rattle.neph_base.specs.declared.memory.NoMemory.{NoMemory}
use Rattle.neph_rows.specs.Records.{Records, shared_of}
use Rattle.neph_rows.specs.Sound.{IsSoundRecords, IsChildOf}
use Rattle.neph_flat.specs.Answers.{StepDone}
use Rattle.neph_flat.specs.Sound.{IsSoundOwn, IsSoundDomain, IsSound}
use Rattle.neph_flat.proofs.OwnKeeps.{Keeps, Runs, keeps_line, sound_on, local_sound, runs_line}

cases : {A : Type 0} (j id : ℕ) → (j ≡ id → A) → (j ≢ id → A) → A
cases {A = A} j id same far = elim (j == id) as (λ b. j == id ≡ b → A) [ true ↦ λ e. same (eqb-true j id e) | false ↦ λ e. far (eqb-false j id e) ] refl

-- each live domain is sound
abbrev Each : List (Option Life) → List Own → List Guest → Type 0
Each lives own guests = (id : ℕ) → is_live id lives ≡ true → IsSoundDomain (own_at id own) (get_or guests id no_guest)

-- the same where one of them is changed to a sound one
each_put : (lives lives2 : List (Option Life)) (own own2 : List Own) (guests guests2 : List Guest) (id : ℕ) → Each lives own guests
    → ((j : ℕ) → j ≢ id → get_or lives2 j None ≡ get_or lives j None) → ((j : ℕ) → j ≢ id → own_at j own2 ≡ own_at j own) → ((j : ℕ) → j ≢ id → get_or guests2 j no_guest ≡ get_or guests j no_guest)
    → (is_live id lives2 ≡ true → IsSoundDomain (own_at id own2) (get_or guests2 id no_guest)) → Each lives2 own2 guests2
each_put lives lives2 own own2 guests guests2 id h l o g new j live =
    cases j id (λ e. subst (λ k. is_live k lives2 ≡ true → IsSoundDomain (own_at k own2) (get_or guests2 k no_guest)) (sym e) new live)
    (λ far. rw (o j far, g j far) (h j (sym (ap is_some (l j far)) ∙ live)))

far_set : {A : Type 0} (xs : List A) (i : ℕ) (x d : A) (j : ℕ) → j ≢ i → get_or (set xs i x) j d ≡ get_or xs j d
far_set xs i x d j far = get_or-set_other xs i j x d far

same_far : {A : Type 0} (xs : List A) (i : ℕ) (d : A) (j : ℕ) → j ≢ i → get_or xs j d ≡ get_or xs j d
same_far xs i d j far = refl

-- a page that is given back, and one that is written
keeps_back : (o : Own) (back : Option PageBack) → Keeps o (with_page_back o back)
keeps_back o None = keeps_line o o.line o.came o.refused
keeps_back o (Some p) =
    let same = length-set o.pages p.pfn (Some p.bytes) in
    record { pages = same; alone = refl; leaves = omega arith; mapped = λ h v. rw same (h v) }

keeps_alone : (o : Own) (pfn : ℕ) → Keeps o (with_alone o pfn)
keeps_alone o pfn = record { pages = refl; alone = length-set o.alone pfn true; leaves = omega arith; mapped = λ h. h }

-- so do an own half that is sound
sound_same : (o new : Own) → IsSoundOwn o → Keeps o new → new.line ≡ o.line → new.leaves ≡ o.leaves → IsSoundOwn new
sound_same o new h k line leaves =
    record {
      pages_low = omega (arith, k.pages, h.pages_low);
      pages_high = omega (arith, k.pages, h.pages_high);
      mapped = k.mapped h.mapped;
      alone = k.alone ∙ h.alone ∙ sym k.pages;
      line = omega (arith, line, h.line);
      leaves = omega (arith, line, ap length leaves, h.leaves);
    }

-- an own half that is as sound as another, at its line
abbrev AsSound : Own → Own → Type 0
AsSound o new = (IsSoundOwn o → IsSoundOwn new) × (new.line ≡ o.line)

met_sound : (o : Own) (met : Option Mapping) → AsSound o (option_map_or (λ (x : Mapping). with_alone o x.pfn) met o)
met_sound o None = (λ h. h, refl)
met_sound o (Some x) = (λ h. sound_same o (with_alone o x.pfn) h (keeps_alone o x.pfn) refl refl, refl)

w_sound : (o : Own) (addr : ℕ) (bytes : List ℕ) (r : Reply) → AsSound o (own_given o (command.W addr bytes) r)
w_sound o addr bytes reply.Done = met_sound o (mapping_at o addr)
w_sound o addr bytes _ = (λ h. h, refl)

given_sound : (o : Own) (c : Command) (r : Reply) → AsSound o (own_given o c r)
given_sound o (command.W addr bytes) r = w_sound o addr bytes r
given_sound o _ r = (λ h. h, refl)

back_sound : (o : Own) (back : Option PageBack) → AsSound o (with_page_back o back)
back_sound o None = (λ h. h, refl)
back_sound o (Some p) = (λ h. sound_same o (with_page_back o (Some p)) h (keeps_back o (Some p)) refl refl, refl)

-- how many clones a reply begins
abbrev begins : Reply → ℕ
begins (reply.Begun child) = 1
begins _ = 0

moved_on : (o : Own) (refused : Bool) → IsSoundOwn o → o.line < 512 → IsSoundOwn (record o { line = o.line + 1; refused = refused }) × (o.line + 1 + 0 ≤ 512)
moved_on o refused h lt = (sound_on o (record o { line = o.line + 1; refused = refused }) h (keeps_line o (o.line + 1) o.came refused) (omega arith) (omega arith) (omega (arith, h.leaves)), omega arith)

replied_sound : (o : Own) (r : Reply) → IsSoundOwn o → o.line < 512 → IsSoundOwn (own_replied o r) × ((own_replied o r).line + begins r ≤ 512)
replied_sound o (reply.Begun child) h lt = (sound_same o (record o { refused = false }) h (keeps_line o o.line o.came false) refl refl, omega arith)
replied_sound o (reply.Refused why) h lt = moved_on o true h lt
replied_sound o _ h lt = moved_on o false h lt

called_sound : (o : Own) (c : Command) (r : Reply) (back : Option PageBack) → IsSoundOwn o → o.line < 512
    → let new = own_replied (with_page_back (own_given o c r) back) r in IsSoundOwn new × (new.line + begins r ≤ 512)
called_sound o c r back h lt =
    let given = given_sound o c r in
    let backed = back_sound (own_given o c r) back in
    replied_sound (with_page_back (own_given o c r) back) r (backed.0 (given.0 h)) (omega (arith, backed.1, given.1))

behind_sound : (o : Own) (c : Command) (r : Reply) (back : Option PageBack) → c ≢ command.Exit → IsSoundOwn o → o.line < 512 → IsSoundOwn (own_behind o c r back) × ((own_behind o c r back).line + begins r ≤ 512)
behind_sound o command.Exit r back other h lt = absurd (other refl)
behind_sound o (command.W addr bytes) r back other h lt = called_sound o (command.W addr bytes) r back h lt
behind_sound o (command.R addr len) r back other h lt = called_sound o (command.R addr len) r back h lt
behind_sound o (command.Map vpn pfn mode) r back other h lt = called_sound o (command.Map vpn pfn mode) r back h lt
behind_sound o (command.Unmap vpn) r back other h lt = called_sound o (command.Unmap vpn) r back h lt
behind_sound o (command.Jump label) r back other h lt = called_sound o (command.Jump label) r back h lt
behind_sound o (command.JChild label) r back other h lt = called_sound o (command.JChild label) r back h lt
behind_sound o (command.JFail label) r back other h lt = called_sound o (command.JFail label) r back h lt
behind_sound o command.Free r back other h lt = called_sound o command.Free r back h lt
behind_sound o command.Clone r back other h lt = called_sound o command.Clone r back h lt
behind_sound o (command.Ungrant n) r back other h lt = called_sound o (command.Ungrant n) r back h lt
behind_sound o (command.Gmap granter n) r back other h lt = called_sound o (command.Gmap granter n) r back h lt
behind_sound o (command.Gunmap k) r back other h lt = called_sound o (command.Gunmap k) r back h lt
behind_sound o (command.Hr k at n) r back other h lt = called_sound o (command.Hr k at n) r back h lt
behind_sound o (command.Hw k at bytes) r back other h lt = called_sound o (command.Hw k at bytes) r back h lt

-- what a call leaves of the tables: what is kept of its domain alone is changed, by the clones that it begins
record Called (sh : Shared) (id : ℕ) (did : trap.CallResult) : Type 0 where
  tables : (j : ℕ) → j ≢ id → guest_at j (call_effect sh did).shared.tables ≡ guest_at j sh.tables
  begun : length (guest_at id (call_effect sh did).shared.tables).begun ≤ length (guest_at id sh.tables).begun + begins (call_effect sh did).reply
  pages : length (call_effect sh did).shared.pages ≡ length sh.pages
  lives : (call_effect sh did).shared.lives ≡ sh.lives

quiet : (sh : Shared) (id : ℕ) (did : trap.CallResult) → (call_effect sh did).shared.tables ≡ sh.tables → length (call_effect sh did).shared.pages ≡ length sh.pages → (call_effect sh did).shared.lives ≡ sh.lives → Called sh id did
quiet sh id did t p l =
    let same : length (guest_at id (call_effect sh did).shared.tables).begun ≡ length (guest_at id sh.tables).begun = ap (λ (x : Tables). length (guest_at id x).begun) t in
    record { tables = λ j far. ap (guest_at j) t; begun = omega (arith, same); pages = p; lives = l }

called_w : (sh : Shared) (id at : ℕ) (bytes : List ℕ) (pfn : ℕ) (mode : _) (b : Bool) → trap.is_exposed sh.pages id pfn ≡ b → Called sh id (trap.w_call sh id at bytes (Some (record { pfn = pfn; mode = mode })))
called_w sh id at bytes pfn mode false is = rw is (quiet sh id (Err _) refl refl refl)
called_w sh id at bytes pfn Ro true is = rw is (quiet sh id (Err _) refl refl refl)
called_w sh id at bytes pfn Rw true is = rw is (quiet sh id (Ok _) refl (length-set sh.pages id _) refl)

called_met : (sh : Shared) (id at : ℕ) (bytes : List ℕ) (met : Option Mapping) → Called sh id (trap.w_call sh id at bytes met)
called_met sh id at bytes None = quiet sh id (trap.w_call sh id at bytes None) refl refl refl
called_met sh id at bytes (Some to) = called_w sh id at bytes to.pfn to.mode (trap.is_exposed sh.pages id to.pfn) refl

called_clone : (sh : Shared) (id : ℕ) (why : Option Refusal) → id < length sh.tables.guests → Called sh id (trap.clone_call sh id (guest_at id sh.tables) why)
called_clone sh id (Some why) low = quiet sh id (Err why) refl refl refl
called_clone sh id None low =
    let g = guest_at id sh.tables in
    let new : Guest = record g { begun = g.begun ++ sh.tables.next ∷ []; accepted = g.accepted + 1 } in
    let here : get_or (set sh.tables.guests id new) id no_guest ≡ new = get_or-set_same sh.tables.guests id new no_guest low in
    record {
      tables = λ j far. far_set sh.tables.guests id new no_guest j far;
      begun = omega (arith, ap (λ (x : Guest). length x.begun) here, length-append g.begun (sh.tables.next ∷ []));
      pages = refl;
      lives = refl;
    }

called_handles : (sh : Shared) (id : ℕ) (l : Lent) (told : Told) (c : Command) → id < length sh.tables.guests → IsOfHandles c → Called sh id (trap.trap sh id (guest_at id sh.tables) l told c)
called_handles sh id l told c low is =
    let g = guest_at id sh.tables in
    let handles : (hs : Mappings) (r : Reply) → begins r ≡ 0 → Called sh id (trap.answers (trap.with_handles sh id g hs) r) = λ hs r none.
    let new : Guest = record g { handles = hs } in
    let here : get_or (set sh.tables.guests id new) id no_guest ≡ new = get_or-set_same sh.tables.guests id new no_guest low in
    record { tables = λ j far. far_set sh.tables.guests id new no_guest j far; begun = omega (arith, ap (λ (x : Guest). length x.begun) here); pages = refl; lives = refl } in
    handle_row sh id g (Called sh id) (λ why plain. quiet sh id (Err why) refl refl refl) (λ bytes. quiet sh id (trap.answers sh (reply.Bytes bytes)) refl refl refl) (λ hs h. handles hs (reply.Number h) refl) (λ hs. handles hs reply.Done refl)
    (λ granter pfn at bytes there. quiet sh id (Ok _) refl (length-set sh.pages granter _) refl) l told c is

called_ended : (sh : Shared) (id r : ℕ) → id < length sh.tables.guests → Called sh id (trap.ungrant_call sh id (guest_at id sh.tables) r)
called_ended sh id r low =
    let g = guest_at id sh.tables in
    let here : (gs : Grants) → let new : Guest = record g { grants = gs } in get_or (set sh.tables.guests id new) id no_guest ≡ new = λ gs. get_or-set_same sh.tables.guests id (record g { grants = gs }) no_guest low in
    ungrant_row sh id g (Called sh id) (λ why plain. quiet sh id (Err why) refl refl refl)
    (λ q e may.
    let gs = fm.remove g.grants q in
    record { tables = λ j far. far_set sh.tables.guests id (record g { grants = gs }) no_guest j far; begun = omega (arith, ap (λ (x : Guest). length x.begun) (here gs)); pages = refl; lives = refl })
    (λ q e may free.
    let gs = fm.remove g.grants q in
    record { tables = λ j far. far_set sh.tables.guests id (record g { grants = gs }) no_guest j far; begun = omega (arith, ap (λ (x : Guest). length x.begun) (here gs)); pages = length-set sh.pages id _; lives = refl }) r

called : (sh : Shared) (id : ℕ) (l : Lent) (told : Told) (c : Command) → id < length sh.tables.guests → Called sh id (trap.trap sh id (guest_at id sh.tables) l told c)
called sh id l told (command.W addr bytes) low = called_met sh id _ bytes l.met
called sh id l told (command.R addr len) low = quiet sh id (trap.trap sh id (guest_at id sh.tables) l told (command.R addr len)) refl refl refl
called sh id l told (command.Map vpn pfn mode) low = quiet sh id (Err _) refl refl refl
called sh id l told (command.Unmap vpn) low = quiet sh id (Err _) refl refl refl
called sh id l told (command.Jump label) low = quiet sh id (Err _) refl refl refl
called sh id l told (command.JChild label) low = quiet sh id (Err _) refl refl refl
called sh id l told (command.JFail label) low = quiet sh id (Err _) refl refl refl
called sh id l told command.Exit low = quiet sh id (Err _) refl refl refl
called sh id l told command.Free low = quiet sh id (trap.trap sh id (guest_at id sh.tables) l told command.Free) refl refl refl
called sh id l told command.Clone low = called_clone sh id _ low
called sh id l told (command.Ungrant n) low = called_ended sh id n low
called sh id l told (command.Gmap granter n) low = called_handles sh id l told (command.Gmap granter n) low tt
called sh id l told (command.Gunmap k) low = called_handles sh id l told (command.Gunmap k) low tt
called sh id l told (command.Hr k at n) low = called_handles sh id l told (command.Hr k at n) low tt
called sh id l told (command.Hw k at bytes) low = called_handles sh id l told (command.Hw k at bytes) low tt

may_split : (a b c d : Bool) → ((a && (not (b || c) && true)) && d) ≡ true → (a ≡ true) × (b ≡ false) × (d ≡ true)
may_split true false false true e = (refl, refl, refl)
may_split true false false false e = absurd (cc)
may_split true false true d e = absurd (cc)
may_split true true c d e = absurd (cc)
may_split false b c d e = absurd (cc)

none_left : (xs : List ℕ) → is_some_left xs ≡ false → length xs ≡ 0
none_left [] e = refl
none_left (x ∷ xs) e = absurd (cc)

-- what is known of a domain whose line is due
pub record DueLine (s : Script) (m : Machine) (id at : ℕ) : Type 0 where
  pub live : is_live id m.shared.lives ≡ true
  pub idle : length (guest_at id m.shared.tables).begun ≡ 0
  pub line : (own_at id m.own).line ≡ at

pub due_line : (s : Script) (m : Machine) (id line : ℕ) → is_due s m (Line id line) ≡ true → DueLine s m id line
due_line s m id line e =
    let t = may_split (is_live id m.shared.lives) (is_some_left (guest_at id m.shared.tables).begun) _ ((own_at id m.own).line == line) e in
    record { live = t.0; idle = none_left (guest_at id m.shared.tables).begun t.1; line = eqb-true (own_at id m.own).line line t.2 }

-- the command of a due line runs as its program's
runs_due : (s : Script) (m : Machine) (id line p : ℕ) → IsSound s m → DueLine s m id line → Runs (labels_of (program_at s p)) (own_at id m.own).line (command_at s p line)
runs_due s m id line p h due = subst (λ k. Runs (labels_of (program_at s p)) (own_at id m.own).line (command_at s p k)) due.line (runs_line s p (own_at id m.own).line h.formed)

-- what an entry leaves, by the laws: each page in one half alone, and each grant of an exposed page
abbrev pub StaysLawful : Type 0
StaysLawful = StaysApart × StaysGranted

apart_kept : StaysLawful → (s : Script) (m new : Machine) (e : Entry) (told : Told) (r : Reply) → IsSound s m → step s m e told ≡ record { machine = new; reply = r } → actor e < 64
    → IfSome (child_made e r) (λ child. (child < 64) × (child ≢ actor e)) → IsApart new
apart_kept stays s m new e told r h did low born =
    let goes = subst (λ n. IfSome (child_made e r) (λ child. (child < n) × (child ≢ actor e))) (sym h.places) born in
    let made = subst (λ (o : Outcome). IfSome (child_made e o.reply) (λ child. (child < length m.own) × (child ≢ actor e))) (sym did) goes in
    subst (λ (o : Outcome). IsApart o.machine) did (stays.0 s m e told (h.places ∙ sym h.exposed) (omega (arith, h.places, low)) made h.apart)

granted_kept : StaysLawful → (s : Script) (m new : Machine) (e : Entry) (told : Told) (r : Reply) → IsSound s m → length m.shared.tables.guests ≡ 64 → step s m e told ≡ record { machine = new; reply = r } → actor e < 64
    → IfSome (child_made e r) (λ child. (child < 64) × (child ≢ actor e)) → IsGranted new
granted_kept stays s m new e told r h guests did low born =
    let goes = subst (λ n. IfSome (child_made e r) (λ child. (child < n) × (child ≢ actor e))) (sym h.places) born in
    let made = subst (λ (o : Outcome). IfSome (child_made e o.reply) (λ child. (child < length m.own) × (child ≢ actor e))) (sym did) goes in
    subst (λ (o : Outcome). IsGranted o.machine) did (stays.1 s m e told (h.places ∙ sym h.exposed) (h.places ∙ sym guests) (omega (arith, h.places, low)) made h.granted)

-- a line that its domain does by itself
pub sound_local : StaysLawful → (s : Script) (m : Machine) (id line : ℕ) (told : Told) (new : Own) (r : Reply) → IsSound s m → is_due s m (Line id line) ≡ true → id < 64 → length m.shared.tables.guests ≡ 64
    → local_step s (program_run id m.shared.lives) (own_at id m.own) told (command_at s (program_run id m.shared.lives) line) ≡ Some (new, r)
    → step s m (Line id line) told ≡ record { machine = record m { own = set m.own id new }; reply = r } → IsSound s (record m { own = set m.own id new })
sound_local stays s m id line told new r h due low guests did goes =
    let p = program_run id m.shared.lives in
    let at = due_line s m id line due in
    let here = h.each id at.live in
    let own = local_sound s p (own_at id m.own) new told (command_at s p line) r here.own (runs_due s m id line p h at) did in
    let there : own_at id (set m.own id new) ≡ new = get_or-set_same m.own id new no_own (omega (arith, h.places, low)) in
    record {
      formed = h.formed;
      places = length-set m.own id new ∙ h.places;
      exposed = h.exposed;
      apart = apart_kept stays s m (record m { own = set m.own id new }) (Line id line) told r h goes low tt;
      granted = granted_kept stays s m (record m { own = set m.own id new }) (Line id line) told r h guests goes low tt;
      each = each_put m.shared.lives m.shared.lives m.own (set m.own id new) m.shared.tables.guests m.shared.tables.guests id h.each (λ j far. refl) (far_set m.own id new no_own) (λ j far. refl)
          (λ live. rw there (record { own = own; commits = omega (arith, own.line, at.idle) }));
    }

-- what a line under the lock leaves of the halves
record LineKept (m : Machine) (id : ℕ) (c : Command) (sh : Shared) (r : Reply) (back : Option PageBack) : Type 0 where
  pages : length sh.pages ≡ length m.shared.pages
  each : Each sh.lives (set m.own id (own_behind (own_at id m.own) c r back)) sh.tables.guests

ended_kept : (s : Script) (m : Machine) (id : ℕ) (l : Lent) (told : Told) → IsSound s m → id < length m.shared.lives → let did = shared_line m.shared id l told command.Exit in LineKept m id command.Exit did.shared did.reply did.back
ended_kept s m id l told h low =
    let lives2 : List (Option Life) = set m.shared.lives id None in
    let dead : is_live id lives2 ≡ false = ap is_some (get_or-set_same m.shared.lives id None None low) in
    record {
      pages = length-set m.shared.pages id fm.empty;
      each = each_put m.shared.lives lives2 m.own (set m.own id no_own) m.shared.tables.guests (set m.shared.tables.guests id no_guest) id h.each (far_set m.shared.lives id None None) (far_set m.own id no_own no_own)
          (far_set m.shared.tables.guests id no_guest no_guest) (λ live. let clash : true ≡ false = sym live ∙ dead in absurd (cc));
    }

call_kept : (s : Script) (m : Machine) (id : ℕ) (c : Command) (did : trap.CallResult) → IsSound s m → is_live id m.shared.lives ≡ true → length (guest_at id m.shared.tables).begun ≡ 0 → (own_at id m.own).line < 512 → c ≢ command.Exit → id < length m.own
    → Called m.shared id did → let e = call_effect m.shared did in LineKept m id c e.shared e.reply e.back
call_kept s m id c did h live idle lt other low k =
    let e = call_effect m.shared did in
    let o = own_at id m.own in
    let new = own_behind o c e.reply e.back in
    let here = behind_sound o c e.reply e.back other (h.each id live).own lt in
    let there : own_at id (set m.own id new) ≡ new = get_or-set_same m.own id new no_own low in
    record {
      pages = k.pages;
      each = each_put m.shared.lives e.shared.lives m.own (set m.own id new) m.shared.tables.guests e.shared.tables.guests id h.each (λ j far. ap (life_at j) k.lives) (far_set m.own id new no_own) k.tables
          (λ still. rw there (record { own = here.0; commits = omega (arith, here.1, k.begun, idle) }));
    }

line_kept : (s : Script) (m : Machine) (id line : ℕ) (l : Lent) (told : Told) (c : Command) → IsSound s m → DueLine s m id line → (c ≢ command.Exit → (own_at id m.own).line < 512) → id < 64 → length m.shared.lives ≡ 64 → length m.shared.tables.guests ≡ 64
    → let did = shared_line m.shared id l told c in LineKept m id c did.shared did.reply did.back
line_kept s m id line l told command.Exit h at short low lives guests = ended_kept s m id l told h (omega (arith, lives, low))
line_kept s m id line l told (command.W addr bytes) h at short low lives guests =
    call_kept s m id (command.W addr bytes) _ h at.live at.idle (short (λ e. absurd (cc))) (λ e. absurd (cc)) (omega (arith, h.places, low)) (called m.shared id l told (command.W addr bytes) (omega (arith, guests, low)))
line_kept s m id line l told (command.R addr len) h at short low lives guests =
    call_kept s m id (command.R addr len) _ h at.live at.idle (short (λ e. absurd (cc))) (λ e. absurd (cc)) (omega (arith, h.places, low)) (called m.shared id l told (command.R addr len) (omega (arith, guests, low)))
line_kept s m id line l told (command.Map vpn pfn mode) h at short low lives guests =
    call_kept s m id (command.Map vpn pfn mode) _ h at.live at.idle (short (λ e. absurd (cc))) (λ e. absurd (cc)) (omega (arith, h.places, low)) (called m.shared id l told (command.Map vpn pfn mode) (omega (arith, guests, low)))
line_kept s m id line l told (command.Unmap vpn) h at short low lives guests =
    call_kept s m id (command.Unmap vpn) _ h at.live at.idle (short (λ e. absurd (cc))) (λ e. absurd (cc)) (omega (arith, h.places, low)) (called m.shared id l told (command.Unmap vpn) (omega (arith, guests, low)))
line_kept s m id line l told (command.Jump label) h at short low lives guests =
    call_kept s m id (command.Jump label) _ h at.live at.idle (short (λ e. absurd (cc))) (λ e. absurd (cc)) (omega (arith, h.places, low)) (called m.shared id l told (command.Jump label) (omega (arith, guests, low)))
line_kept s m id line l told (command.JChild label) h at short low lives guests =
    call_kept s m id (command.JChild label) _ h at.live at.idle (short (λ e. absurd (cc))) (λ e. absurd (cc)) (omega (arith, h.places, low)) (called m.shared id l told (command.JChild label) (omega (arith, guests, low)))
line_kept s m id line l told (command.JFail label) h at short low lives guests =
    call_kept s m id (command.JFail label) _ h at.live at.idle (short (λ e. absurd (cc))) (λ e. absurd (cc)) (omega (arith, h.places, low)) (called m.shared id l told (command.JFail label) (omega (arith, guests, low)))
line_kept s m id line l told command.Free h at short low lives guests =
    call_kept s m id command.Free _ h at.live at.idle (short (λ e. absurd (cc))) (λ e. absurd (cc)) (omega (arith, h.places, low)) (called m.shared id l told command.Free (omega (arith, guests, low)))
line_kept s m id line l told (command.Ungrant n) h at short low lives guests =
    call_kept s m id (command.Ungrant n) _ h at.live at.idle (short (λ e. absurd (cc))) (λ e. absurd (cc)) (omega (arith, h.places, low)) (called m.shared id l told (command.Ungrant n) (omega (arith, guests, low)))
line_kept s m id line l told (command.Gmap granter n) h at short low lives guests =
    call_kept s m id (command.Gmap granter n) _ h at.live at.idle (short (λ e. absurd (cc))) (λ e. absurd (cc)) (omega (arith, h.places, low)) (called m.shared id l told (command.Gmap granter n) (omega (arith, guests, low)))
line_kept s m id line l told (command.Gunmap k) h at short low lives guests =
    call_kept s m id (command.Gunmap k) _ h at.live at.idle (short (λ e. absurd (cc))) (λ e. absurd (cc)) (omega (arith, h.places, low)) (called m.shared id l told (command.Gunmap k) (omega (arith, guests, low)))
line_kept s m id line l told (command.Hr k at' n) h at short low lives guests =
    call_kept s m id (command.Hr k at' n) _ h at.live at.idle (short (λ e. absurd (cc))) (λ e. absurd (cc)) (omega (arith, h.places, low)) (called m.shared id l told (command.Hr k at' n) (omega (arith, guests, low)))
line_kept s m id line l told (command.Hw k at' bytes) h at short low lives guests =
    call_kept s m id (command.Hw k at' bytes) _ h at.live at.idle (short (λ e. absurd (cc))) (λ e. absurd (cc)) (omega (arith, h.places, low)) (called m.shared id l told (command.Hw k at' bytes) (omega (arith, guests, low)))
line_kept s m id line l told command.Clone h at short low lives guests =
    call_kept s m id command.Clone _ h at.live at.idle (short (λ e. absurd (cc))) (λ e. absurd (cc)) (omega (arith, h.places, low)) (called m.shared id l told command.Clone (omega (arith, guests, low)))

kid_keeps : (child id : ℕ) (o : Own) → Keeps o (child_own child id o)
kid_keeps child id o =
    let first = option_map (λ page. page_with_identity page child id (length o.pages)) (page_of o 0) in
    let same = length-set o.pages 0 first in
    record { pages = same; alone = length-map o.alone (λ a. false); leaves = omega arith; mapped = λ h v. rw same (h v) }

parent_keeps : (o : Own) → Keeps o (parent_own o)
parent_keeps o = record { pages = refl; alone = length-map o.alone (λ a. false); leaves = omega arith; mapped = λ h. h }

-- the commit of a clone
pub sound_commit : StaysLawful → (s : Script) (m : Machine) (id line child : ℕ) (left : List ℕ) (told : Told) → IsSound s m → is_live id m.shared.lives ≡ true → (guest_at id m.shared.tables).begun ≡ child ∷ left → id < child → child < 64
    → length m.shared.lives ≡ 64 → length m.shared.tables.guests ≡ 64
    → let o = own_at id m.own in let new : Machine = record { own = set (set m.own child (child_own child id o)) id (parent_own o); shared = commit m.shared id child left } in
    step s m (Commit id line) told ≡ record { machine = new; reply = reply.Child child } → IsSound s new
sound_commit stays s m id line child left told h live begun after low lives guests goes =
    let o = own_at id m.own in
    let kid = child_own child id o in
    let par = parent_own o in
    let g = guest_at id m.shared.tables in
    let left_guest : Guest = record g { begun = left } in
    let here = h.each id live in
    let room : o.line + 1 + length left ≤ 512 = omega (arith, here.commits, ap length begun) in
    let kid_sound = sound_on o kid here.own (kid_keeps child id o) (omega arith) (omega (arith, room)) (omega (arith, here.own.leaves)) in
    let par_sound = sound_on o par here.own (parent_keeps o) (omega arith) (omega (arith, room)) (omega (arith, here.own.leaves)) in
    let born : Option Life = option_map (λ (l : Life). record l { parent = id }) (life_at id m.shared.lives) in
    let lives2 : List (Option Life) = set m.shared.lives child born in
    let own1 = set m.own child kid in
    let own2 = set own1 id par in
    let kid_guest : Guest = child_guest g in
    let g1 : List Guest = set m.shared.tables.guests child kid_guest in
    let g2 : List Guest = set g1 id left_guest in
    let apart_ids : id ≢ child = λ e. absurd (omega (arith, e, after)) in
    let there1 : own_at child own1 ≡ kid = get_or-set_same m.own child kid no_own (omega (arith, h.places, low)) in
    let kept1 : get_or g1 child no_guest ≡ kid_guest = get_or-set_same m.shared.tables.guests child kid_guest no_guest (omega (arith, guests, low)) in
    let there2 : own_at id own2 ≡ par = get_or-set_same own1 id par no_own (omega (arith, h.places, low, after, length-set m.own child kid)) in
    let kept2 : get_or g2 id no_guest ≡ left_guest = get_or-set_same g1 id left_guest no_guest (omega (arith, guests, low, after, length-set m.shared.tables.guests child kid_guest)) in
    let one : Each lives2 own1 g1 = each_put m.shared.lives lives2 m.own own1 m.shared.tables.guests g1 child h.each (far_set m.shared.lives child born None) (far_set m.own child kid no_own) (far_set m.shared.tables.guests child kid_guest no_guest)
    (λ still. rw (there1, kept1) (record { own = kid_sound; commits = omega (arith, room) })) in
    let two : Each lives2 own2 g2 = each_put lives2 lives2 own1 own2 g1 g2 id one (λ j far. refl) (far_set own1 id par no_own) (far_set g1 id left_guest no_guest)
    (λ still. rw (there2, kept2) (record { own = par_sound; commits = room })) in
    record {
      formed = h.formed;
      places = length-set own1 id par ∙ length-set m.own child kid ∙ h.places;
      exposed = length-set m.shared.pages child (child_exposed (exposed_at id m.shared.pages)) ∙ h.exposed;
      apart = apart_kept stays s m (record { own = own2; shared = commit m.shared id child left }) (Commit id line) told (reply.Child child) h goes (omega (arith, after, low)) (low, λ e. apart_ids (sym e));
      granted = granted_kept stays s m (record { own = own2; shared = commit m.shared id child left }) (Commit id line) told (reply.Child child) h guests goes (omega (arith, after, low)) (low, λ e. apart_ids (sym e));
      each = subst (λ (gs : List Guest). Each lives2 own2 gs) (sym (set_comm m.shared.tables.guests id child left_guest kid_guest apart_ids)) two;
    }

-- the second stage of the oldest clone
pub sound_join : (s : Script) (m : Machine) (rest : List Cloned) → IsSound s m → IsSound s (record m { shared = join m.shared rest })
sound_join s m rest h = record { formed = h.formed; places = h.places; exposed = h.exposed; apart = h.apart; granted = h.granted; each = h.each }

-- what is known of a domain whose commit is due
pub due_commit : (s : Script) (m : Machine) (id line : ℕ) → is_due s m (Commit id line) ≡ true → (is_live id m.shared.lives ≡ true) × (child : ℕ) × (left : List ℕ) × ((guest_at id m.shared.tables).begun ≡ child ∷ left)
due_commit s m id line e = at (is_live id m.shared.lives) (guest_at id m.shared.tables).begun ((own_at id m.own).line == line) e where
  at : (b : Bool) (xs : List ℕ) (d : Bool) → ((b && is_some_left xs) && d) ≡ true → (b ≡ true) × (child : ℕ) × (left : List ℕ) × (xs ≡ child ∷ left)
  at true (x ∷ xs) d e = (refl, x, xs, refl)
  at true [] d e = absurd (cc)
  at false xs d e = absurd (cc)

-- an entry that is due, of an actor with an id
record DueEntry (m : Machine) (e : Entry) : Type 0 where
  low : actor e < 64
  lives : length m.shared.lives ≡ 64
  guests : length m.shared.tables.guests ≡ 64
  children : (child : ℕ) (left : List ℕ) → (guest_at (actor e) m.shared.tables).begun ≡ child ∷ left → (actor e < child) × (child < 64)

-- a line that is due
pub line_step : StaysLawful → (s : Script) (m : Machine) (id line : ℕ) (told : Told) → IsSound s m → is_due s m (Line id line) ≡ true → id < 64 → length m.shared.lives ≡ 64 → length m.shared.tables.guests ≡ 64 → IsSound s (step s m (Line id line) told).machine
line_step stays s m id line told h due low lives guests =
    let e = Line id line in
    let p = program_run id m.shared.lives in
    let c = command_at s p line in
    let o = own_at id m.own in
    elim (local_step s p o told c) as (λ x. local_step s p o told c ≡ x → IsSound s (step_by s m e told x).machine) [
      | Some did ↦ λ is. sound_local stays s m id line told did.0 did.1 h due low guests is (ap (step_by s m e told) is)
      | None ↦ λ is.
          let goes : step s m e told ≡ locked_step s m e told = ap (step_by s m e told) is in
          let known = due_line s m id line due in
          let runs = runs_due s m id line p h known in
          let k = line_kept s m id line (lent o c) told c h known runs.short low lives guests in
          record {
            formed = h.formed;
            places = length-set m.own id _ ∙ h.places;
            exposed = k.pages ∙ h.exposed;
            apart = apart_kept stays s m (locked_step s m e told).machine e told (locked_step s m e told).reply h goes low tt;
            granted = granted_kept stays s m (locked_step s m e told).machine e told (locked_step s m e told).reply h guests goes low tt;
            each = k.each;
          }
    ] refl

commit_step : StaysLawful → (s : Script) (m : Machine) (id line : ℕ) (told : Told) → IsSound s m → is_due s m (Commit id line) ≡ true → DueEntry m (Commit id line) → IsSound s (step s m (Commit id line) told).machine
commit_step stays s m id line told h due at =
    let two = due_commit s m id line due in
    let o = own_at id m.own in
    let machine = λ (xs : List ℕ).
    let did = shared_commit m.shared id xs in
    let out : Outcome = record { machine = record { own = set (bear m.own id o (child_made (Commit id line) did.reply)) id (parent_own o); shared = did.shared }; reply = did.reply } in out in
    let goes : step s m (Commit id line) told ≡ machine (two.1 ∷ two.2) = ap machine two.3 in
    let ids = at.children two.1 two.2 two.3 in
    subst (λ (x : Outcome). IsSound s x.machine) (sym goes) (sound_commit stays s m id line two.1 two.2 told h two.0 two.3 ids.0 ids.1 at.lives at.guests goes)

join_step : (s : Script) (m : Machine) (told : Told) → IsSound s m → IsSound s (step s m Daemon told).machine
join_step s m told h = by m.shared.tables.waiting where
  same : set m.own 0 (own_at 0 m.own) ≡ m.own
  same = set-get_or m.own 0 no_own

  by : (ws : List Cloned) → IsSound s (record { own = set m.own 0 (own_at 0 m.own); shared = (shared_join m.shared ws).shared })
  by [] = subst (λ (os : List Own). IsSound s (record { own = os; shared = m.shared })) (sym same) h
  by (w ∷ rest) = subst (λ (os : List Own). IsSound s (record { own = os; shared = join m.shared rest })) (sym same) (sound_join s m rest h)

sound_step : StaysLawful → (s : Script) (m : Machine) (e : Entry) (told : Told) → IsSound s m → is_due s m e ≡ true → DueEntry m e → IsSound s (step s m e told).machine
sound_step stays s m (Line id line) told h due at = line_step stays s m id line told h due at.low at.lives at.guests
sound_step stays s m (Commit id line) told h due at = commit_step stays s m id line told h due at
sound_step stays s m Daemon told h due at = join_step s m told h

due_entry : (r : Records) (own : List Own) (pages : List Exposed) (e : Entry) → IsSoundRecords r → actor e < 64 → DueEntry (record { own = own; shared = shared_of r pages }) e
due_entry r own pages e h low =
    record {
      low = low;
      lives = h.places;
      guests = h.guests;
      children = λ child left is.
          let all : All (IsChildOf r.tables.next (actor e)) (child ∷ left) = subst (All (IsChildOf r.tables.next (actor e))) is (h.each (actor e)).begun in
          let one = All-head (IsChildOf r.tables.next (actor e)) child left all in (one.0, omega (arith, one.1, h.next_high));
    }

-- an entry that was done leaves a sound machine
pub sound_done : StaysLawful → (s : Script) (r : Records) (own : List Own) (pages : List Exposed) (new : Machine) (e : Entry) (told : Told) (did : Result Reply NoMemory)
    → let m : Machine = record { own = own; shared = shared_of r pages } in IsSound s m → is_due s m e ≡ true → IsSoundRecords r → actor e < 64 → StepDone s m new e told did → IsSound s new
sound_done stays s r own pages new e told (Ok answer) h due rs low did =
    let m : Machine = record { own = own; shared = shared_of r pages } in
    subst (λ (x : Outcome). IsSound s x.machine) did (sound_step stays s m e told h due (due_entry r own pages e rs low))
sound_done stays s r own pages new e told (Err lacks) h due rs low did = subst (IsSound s) (sym did.1) h

-- whether a line is due
pub line_due_is : (s : Script) (m : Machine) (id line : ℕ) (a p d : Bool) → is_live id m.shared.lives ≡ a → is_paused id m.shared ≡ p → ((own_at id m.own).line == line) ≡ d → is_due s m (Line id line) ≡ ((a && (not p && true)) && d)
line_due_is s m id line a p d ea ep ed = rw (ea, ep, ed) refl

pub commit_due_is : (s : Script) (m : Machine) (id line : ℕ) (a b d : Bool) → is_live id m.shared.lives ≡ a → is_some_left (guest_at id m.shared.tables).begun ≡ b → ((own_at id m.own).line == line) ≡ d → is_due s m (Commit id line) ≡ ((a && b) && d)
commit_due_is s m id line a b d ea eb ed = rw (ea, eb, ed) refl

-- the own half that is read at an id
pub own_read : (own : List Own) (i id : ℕ) (o : Own) → length own ≡ 64 → i ≡ id → i < 64 → o ≡ get_or own i o → o ≡ own_at id own
own_read own i id o places same low is = is ∙ ap (λ k. get_or own k o) same ∙ sym (get_or_default own id no_own o (omega (arith, places, same, low)))
