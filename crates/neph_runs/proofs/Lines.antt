-- What a line of a domain does: the domain goes on with a later line, ends, or begins a clone.
use Rattle.std.proofs.Common.{◌≡◌, ◌≢◌, ℕ, zero, suc, ◌+◌, ◌%◌, ◌<◌, Bool, true, false, cond, ◌⊎◌, inl, inr, List, [], ◌∷◌, length, take, drop, get_or, set, Option, Some, None, Ok, Err, refl, sym, ap, subst, ◌∙◌, arith}
use Rattle.std.specs.Prelude.{⊤, nat_le, slice_get, option_map}
use Rattle.std.specs.Option.{option_map_or}
use Rattle.std.specs.FinMap as map
use Rattle.std.proofs.lemmas.List.{length-set, get_or-set_other}
use Rattle.std.proofs.lemmas.Bool.{leb-false}
use Rattle.std.proofs.lemmas.Option.{slice_get_within, get_or_from_slice_get}
use Rattle.neph_base.specs.declared.command.Command.{Command}
use Rattle.neph_base.specs.declared.command.Command.TheVariants as command
use Rattle.neph_base.specs.declared.command.Mode.{Mode}
use Rattle.neph_base.specs.declared.command.Mode.TheVariants.{Ro, Rw}
use Rattle.neph_base.specs.declared.reply.Entry.TheVariants.{Line}
use Rattle.neph_base.specs.declared.reply.Reply.{Reply}
use Rattle.neph_base.specs.declared.reply.Reply.TheVariants as reply
use Rattle.neph_base.specs.declared.reply.Refusal.{Refusal}
use Rattle.neph_base.specs.declared.reply.Refusal.TheVariants.{BadPfn, NoFrame, ReadOnly, Limit, Ids}
use Rattle.neph_model.specs.declared.own.Own.{Own}
use Rattle.neph_model.specs.declared.script.Script.{Script}
use Rattle.neph_model.specs.declared.script.Program.{Program}
use Rattle.neph_model.specs.declared.script.Label.{Label}
use Rattle.neph_model.specs.declared.memory.Mapping.{Mapping}
use Rattle.neph_model.specs.declared.life.Life.{Life}
use Rattle.neph_model.specs.declared.life.Guest.{Guest}
use Rattle.neph_model.specs.declared.told.Told.{Told}
use Rattle.neph_model.specs.declared.told.Told.TheVariants.{Enough, Short, Free}
use Rattle.neph_model.specs.Memory.{page_with_bytes}
use Rattle.neph_model.specs.Programs.{commands_of, labels_of, program_at, command_in, command_at, label_line}
use Rattle.neph_model.specs.Machine.{Tables, Shared, Machine, own_at, life_at, guest_at, exposed_at, program_run, no_own, no_guest, put_own, put_guest, but_handles, but_shares}
use Rattle.neph_model.specs.Own.{LocalResult, page_of, mapping_at, with_alone, with_bytes, with_mapping, with_leaf, is_bad_pfn, has_leaf, w_step, r_step, leaf_step, map_step, unmap_step, settle, jump_step, local_step}
use Rattle.neph_model.specs.Lent.{Lent, PageBack, lent, own_given, own_replied, own_behind, with_page_back}
use Rattle.neph_model.specs.Trap.{Accepted, CallResult, answers, is_exposed, exposed_bytes, with_exposed_bytes, w_call, r_call, trap, with_handles, ungrant_call, free_told, need, lacks_frames, clone_refusal, begin_clone, clone_call}
use Rattle.neph_grant.specs.Handles.{Mappings}
use Rattle.neph_grant.specs.Table.{Grants}
use Rattle.neph_model.specs.Births.{end_domain}
use Rattle.neph_model.specs.Step.{Outcome, call_effect, shared_line, step}
use Rattle.neph_model.specs.WellFormed.{JumpsAhead, IsWellFormedProgram, IsWellFormed}
use Rattle.neph_laws.proofs.HandleRows.{IsOfHandles, handle_row, put_as}
use Rattle.neph_laws.proofs.GrantRows.{ungrant_row}
use Rattle.neph_runs.specs.Orderly.{outline}
use Rattle.neph_runs.proofs.Steps.{written_outline}

-- a reply behind which a domain goes on to another line
abbrev pub GoesOn : Reply → Type 0
GoesOn reply.Ended = ⊥
GoesOn (reply.Begun child) = ⊥
GoesOn _ = ⊤

-- the tables keep all but handles, and of the domain of an id all but its grants too
pub record KeepsTables (id : ℕ) (t new : Tables) : Type 0 where
  pub next : new.next ≡ t.next
  pub waiting : new.waiting ≡ t.waiting
  pub guests : length new.guests ≡ length t.guests
  pub each : (j : ℕ) → j ≢ id → but_handles (guest_at j new) ≡ but_handles (guest_at j t)
  pub here : but_shares (guest_at id new) ≡ but_shares (guest_at id t)

same_tables : (id : ℕ) (t : Tables) → KeepsTables id t t
same_tables id t = record { next = refl; waiting = refl; guests = refl; each = λ j ne. refl; here = refl }

handled_tables : (t : Tables) (id : ℕ) (hs : Mappings) → KeepsTables id t (put_guest id (record (guest_at id t) { handles = hs }) t)
handled_tables t id hs =
    let g : Guest = record (guest_at id t) { handles = hs } in
    record { next = refl; waiting = refl; guests = length-set t.guests id g; each = λ j ne. put_as but_handles t.guests id g no_guest refl j; here = put_as but_shares t.guests id g no_guest refl id }

granted_tables : (t : Tables) (id : ℕ) (gs : Grants) → KeepsTables id t (put_guest id (record (guest_at id t) { grants = gs }) t)
granted_tables t id gs =
    let g : Guest = record (guest_at id t) { grants = gs } in
    record { next = refl; waiting = refl; guests = length-set t.guests id g; each = λ j ne. ap but_handles (get_or-set_other t.guests id j g no_guest ne); here = put_as but_shares t.guests id g no_guest refl id }

-- The domain of an id goes on: its own half is this, with as many pages. Of the other ids nothing changes but the bytes of exposed pages.
pub record Goes (m : Machine) (id : ℕ) (out : Outcome) : Type 0 where
  pub after : Own
  pub own : out.machine.own ≡ set m.own id after
  pub lives : out.machine.shared.lives ≡ m.shared.lives
  pub tables : KeepsTables id m.shared.tables out.machine.shared.tables
  pub exposed : length out.machine.shared.pages ≡ length m.shared.pages
  pub others : (j : ℕ) → j ≢ id → outline (exposed_at j out.machine.shared.pages) ≡ outline (exposed_at j m.shared.pages)
  pub later : (own_at id m.own).line < after.line
  pub pages : length after.pages ≡ length (own_at id m.own).pages
  pub on : GoesOn out.reply

-- the domain of an id ends
pub record Ends (m : Machine) (id : ℕ) (out : Outcome) : Type 0 where
  pub machine : out.machine ≡ record { own = set m.own id no_own; shared = end_domain m.shared id }
  pub reply : out.reply ≡ reply.Ended

-- the domain of an id begins a clone
pub record Begins (m : Machine) (id : ℕ) (told : Told) (out : Outcome) : Type 0 where
  pub machine : out.machine ≡ record { own = set m.own id (record (own_at id m.own) { refused = false }); shared = record m.shared { tables = begin_clone m.shared.tables id (guest_at id m.shared.tables) } }
  pub reply : out.reply ≡ reply.Begun m.shared.tables.next
  pub room : m.shared.tables.next < 64
  pub frames : lacks_frames (need (exposed_at id m.shared.pages) (length (own_at id m.own).leaves)) told ≡ None

-- what a line does
abbrev pub Kind : Machine → ℕ → Told → Outcome → Type 0
Kind m id told out = Goes m id out ⊎ (Ends m id out ⊎ Begins m id told out)

-- what a local command leaves of its domain
record Keeps (o new : Own) : Type 0 where
  pages : length new.pages ≡ length o.pages

abbrev KeepsBy : Own → LocalResult → Type 0
KeepsBy o None = ⊤
KeepsBy o (Some (Ok did)) = Keeps o did.0 × GoesOn did.1
KeepsBy o (Some (Err why)) = ⊤

same_pages : (o : Own) → Keeps o o
same_pages o = record { pages = refl }

keeps_w : (o : Own) (told : Told) (at : ℕ) (bytes : List ℕ) (to : Option Mapping) → KeepsBy o (w_step o told at bytes to)
keeps_w o told at bytes None = tt
keeps_w o told at bytes (Some to) = go (page_of o to.pfn) to.mode told where
  by : Option (List ℕ) → Mode → Told → LocalResult
  by None mode t = None
  by (Some page) Ro t = Some (Err ReadOnly)
  by (Some page) Rw Short = None
  by (Some page) Rw Enough = Some (Ok (with_bytes o to.pfn page at bytes, reply.Done))
  by (Some page) Rw (Free f) = Some (Ok (with_bytes o to.pfn page at bytes, reply.Done))

  put : (page : List ℕ) → Keeps o (with_bytes o to.pfn page at bytes)
  put page = record { pages = length-set o.pages to.pfn (Some (page_with_bytes page at bytes)) }

  go : (page : Option (List ℕ)) (mode : Mode) (t : Told) → KeepsBy o (by page mode t)
  go None mode t = tt
  go (Some page) Ro t = tt
  go (Some page) Rw Short = tt
  go (Some page) Rw Enough = (put page, tt)
  go (Some page) Rw (Free f) = (put page, tt)

keeps_r : (o : Own) (at n : ℕ) (to : Option Mapping) → KeepsBy o (r_step o at n to)
keeps_r o at n None = tt
keeps_r o at n (Some to) =
    elim (page_of o to.pfn) as (λ page. KeepsBy o (elim page as (λ x. LocalResult) [ None ↦ None | Some p ↦ Some (Ok (o, reply.Bytes (take n (drop at p)))) ])) [ None ↦ tt | Some p ↦ (same_pages o, tt) ]

keeps_either : (o : Own) (b : Bool) (x y : LocalResult) → KeepsBy o x → KeepsBy o y → KeepsBy o (cond b x y)
keeps_either o true x y h k = h
keeps_either o false x y h k = k

keeps_leaf : (o new : Own) (told : Told) → Keeps o new → KeepsBy o (leaf_step new told)
keeps_leaf o new Enough k = (k, tt)
keeps_leaf o new Short k = tt
keeps_leaf o new (Free f) k = (k, tt)

keeps_map : (o : Own) (told : Told) (vpn pfn : ℕ) (mode : Mode) → KeepsBy o (map_step o told vpn pfn mode)
keeps_map o told vpn pfn mode =
    let new = with_mapping o vpn pfn mode in
    let more = with_leaf new vpn in
    let maps : LocalResult = Some (Ok (new, reply.Done)) in
    let leaf = leaf_step more told in
    let kept : Keeps o more = record { pages = refl } in
    keeps_either o (is_bad_pfn o pfn mode) (Some (Err BadPfn)) (cond (has_leaf o vpn) maps leaf) tt (keeps_either o (has_leaf o vpn) maps leaf (record { pages = refl }, tt) (keeps_leaf o more told kept))

keeps_unmap : (o : Own) (vpn : ℕ) (to : Option Mapping) → KeepsBy o (unmap_step o vpn to)
keeps_unmap o vpn None = tt
keeps_unmap o vpn (Some to) = (record { pages = refl }, tt)

-- an accepted call of a domain that goes on
record Answers (sh : Shared) (id : ℕ) (a : Accepted) : Type 0 where
  tables : KeepsTables id sh.tables a.tables
  exposed : length a.pages ≡ length sh.pages
  others : (j : ℕ) → j ≢ id → outline (exposed_at j a.pages) ≡ outline (exposed_at j sh.pages)
  on : GoesOn a.reply

abbrev CallsOn : Shared → ℕ → CallResult → Type 0
CallsOn sh id (Ok a) = Answers sh id a
CallsOn sh id (Err why) = ⊤

answers_on : (sh : Shared) (id : ℕ) (r : Reply) → GoesOn r → CallsOn sh id (answers sh r)
answers_on sh id r on = record { tables = same_tables id sh.tables; exposed = refl; others = λ j ne. refl; on = on }

w_on : (sh : Shared) (id at : ℕ) (bytes : List ℕ) (met : Option Mapping) → CallsOn sh id (w_call sh id at bytes met)
w_on sh id at bytes None = tt
w_on sh id at bytes (Some to) = either (is_exposed sh.pages id to.pfn) to.mode where
  by : Mode → CallResult
  by Ro = Err ReadOnly
  by Rw = answers (record sh { pages = with_exposed_bytes sh.pages id to.pfn at bytes }) reply.Done

  go : (mode : Mode) → CallsOn sh id (by mode)
  go Ro = tt
  go Rw = record { tables = same_tables id sh.tables; exposed = length-set sh.pages id _; others = λ j ne. ap outline (get_or-set_other sh.pages id j _ map.empty ne); on = tt }

  either : (b : Bool) (mode : Mode) → CallsOn sh id (cond b (by mode) (Err NoFrame))
  either true mode = go mode
  either false mode = tt

-- a command of handles
handled_on : (sh : Shared) (id : ℕ) (l : Lent) (told : Told) (c : Command) → IsOfHandles c → CallsOn sh id (trap sh id (guest_at id sh.tables) l told c)
handled_on sh id =
    let handles : (hs : Mappings) (r : Reply) → GoesOn r → CallsOn sh id (answers (with_handles sh id (guest_at id sh.tables) hs) r) = λ hs r on.
    record { tables = handled_tables sh.tables id hs; exposed = refl; others = λ j ne. refl; on = on } in
    handle_row sh id (guest_at id sh.tables) (CallsOn sh id) (λ why plain. tt) (λ bytes. answers_on sh id (reply.Bytes bytes) tt) (λ hs h. handles hs (reply.Number h) tt) (λ hs. handles hs reply.Done tt)
    (λ granter pfn at bytes there. record { tables = same_tables id sh.tables; exposed = length-set sh.pages granter _; others = λ j ne. written_outline sh.pages granter pfn at bytes there j; on = tt })

-- `ungrant`
ended_on : (sh : Shared) (id r : ℕ) → CallsOn sh id (ungrant_call sh id (guest_at id sh.tables) r)
ended_on sh id =
    let g = guest_at id sh.tables in
    ungrant_row sh id g (CallsOn sh id) (λ why plain. tt) (λ q e may. record { tables = granted_tables sh.tables id (map.remove g.grants q); exposed = refl; others = λ j ne. refl; on = tt })
    (λ q e may free. record { tables = granted_tables sh.tables id (map.remove g.grants q); exposed = length-set sh.pages id _; others = λ j ne. ap outline (get_or-set_other sh.pages id j _ map.empty ne); on = tt })

module _ (m : Machine) (id : ℕ) (told : Told) where
  abbrev o : Own
  o = own_at id m.own

  -- an entry that the domain does by itself, or else this
  abbrev pub out_by : Outcome → Option (Own × Reply) → Outcome
  out_by lock (Some did) = record { machine = put_own id did.0 m; reply = did.1 }
  out_by lock None = lock

  -- a call under the lock
  abbrev pub called : (Reply → Own) → CallResult → Outcome
  called given x =
      let did = call_effect m.shared x in
      record { machine = record { own = set m.own id (own_replied (with_page_back (given did.reply) did.back) did.reply); shared = did.shared }; reply = did.reply }

  went : (new : Own) (r : Reply) → Keeps o new → GoesOn r → o.line < new.line → Kind m id told (record { machine = put_own id new m; reply = r })
  went new r k on later = inl (record { after = new; own = refl; lives = refl; tables = same_tables id m.shared.tables; exposed = refl; others = λ j ne. refl; later = later; pages = k.pages; on = on })

  settled : (lock : Outcome) (x : LocalResult) → Kind m id told lock → KeepsBy o x → Kind m id told (out_by lock (option_map (settle o) x))
  settled lock None h k = h
  settled lock (Some (Ok did)) h k = went (record did.0 { line = o.line + 1; refused = false }) did.1 (record { pages = k.0.pages }) k.1 (omega arith)
  settled lock (Some (Err why)) h k = went (record o { line = o.line + 1; refused = true }) (reply.Refused why) (record { pages = refl }) tt (omega arith)

  jumped : (lock : Outcome) (line : ℕ) (taken : Bool) → o.line < line → Kind m id told (out_by lock (jump_step o line taken))
  jumped lock line true later = went (record o { line = line }) reply.Go (record { pages = refl }) tt later
  jumped lock line false later = went (record o { line = o.line + 1 }) reply.On (record { pages = refl }) tt (omega arith)

  replied : (x : Own) (r : Reply) → GoesOn r → ((own_replied x r).line ≡ x.line + 1) × ((own_replied x r).pages ≡ x.pages)
  replied x reply.Done on = (refl, refl)
  replied x reply.Go on = (refl, refl)
  replied x reply.On on = (refl, refl)
  replied x reply.Ended on = absurd on
  replied x (reply.Number n) on = (refl, refl)
  replied x (reply.Begun c) on = absurd on
  replied x (reply.Child c) on = (refl, refl)
  replied x (reply.Bytes bs) on = (refl, refl)
  replied x (reply.Refused why) on = (refl, refl)

  backed : (x : Own) (back : Option PageBack) → ((with_page_back x back).line ≡ x.line) × (length (with_page_back x back).pages ≡ length x.pages)
  backed x None = (refl, refl)
  backed x (Some p) = (refl, length-set x.pages p.pfn (Some p.bytes))

  calls : (given : Reply → Own) → ((r : Reply) → (given r).line ≡ o.line) → ((r : Reply) → length (given r).pages ≡ length o.pages) → (x : CallResult) → CallsOn m.shared id x → Kind m id told (called given x)
  calls given lines pages (Ok a) h =
      let back = backed (given a.reply) a.back in
      let did = replied (with_page_back (given a.reply) a.back) a.reply h.on in
      let line = lines a.reply in
      inl
      (record {
        after = own_replied (with_page_back (given a.reply) a.back) a.reply;
        own = refl;
        lives = refl;
        tables = h.tables;
        exposed = h.exposed;
        others = h.others;
        later = omega (arith, did.0, back.0, line);
        pages = ap (λ l. length l) did.1 ∙ back.1 ∙ pages a.reply;
        on = h.on;
      })
  calls given lines pages (Err why) h =
      let line = lines (reply.Refused why) in
      inl
      (record {
        after = own_replied (given (reply.Refused why)) (reply.Refused why);
        own = refl;
        lives = refl;
        tables = same_tables id m.shared.tables;
        exposed = refl;
        others = λ j ne. refl;
        later = omega (arith, line);
        pages = pages (reply.Refused why);
        on = tt;
      })

  -- a call under the lock leaves the domain's own half as it is, but for its line and mark
  alone : (x : CallResult) → CallsOn m.shared id x → Kind m id told (called (λ r. o) x)
  alone x h = calls (λ r. o) (λ r. refl) (λ r. refl) x h

  given_w : (addr : ℕ) (bytes : List ℕ) (r : Reply) → ((own_given o (command.W addr bytes) r).line ≡ o.line) × (length (own_given o (command.W addr bytes) r).pages ≡ length o.pages)
  given_w addr bytes reply.Done =
      elim (mapping_at o addr) as (λ to. ((option_map_or (λ (x : Mapping). with_alone o x.pfn) to o).line ≡ o.line) × (length (option_map_or (λ (x : Mapping). with_alone o x.pfn) to o).pages ≡ length o.pages)) [
        | None ↦ (refl, refl)
        | Some to ↦ (refl, refl)
      ]
  given_w addr bytes reply.Go = (refl, refl)
  given_w addr bytes reply.On = (refl, refl)
  given_w addr bytes reply.Ended = (refl, refl)
  given_w addr bytes (reply.Number n) = (refl, refl)
  given_w addr bytes (reply.Begun c) = (refl, refl)
  given_w addr bytes (reply.Child c) = (refl, refl)
  given_w addr bytes (reply.Bytes bs) = (refl, refl)
  given_w addr bytes (reply.Refused why) = (refl, refl)

  cloned : (why : Option Refusal) → clone_refusal m.shared.tables (guest_at id m.shared.tables) (life_at id m.shared.lives) (need (exposed_at id m.shared.pages) (length o.leaves)) told ≡ why
      → Kind m id told (called (λ r. o) (clone_call m.shared id (guest_at id m.shared.tables) why))
  cloned (Some why) e = alone (Err why) tt
  cloned None e =
      let free = not_refused m.shared.tables (guest_at id m.shared.tables) (life_at id m.shared.lives) (need (exposed_at id m.shared.pages) (length o.leaves)) e in
      inr (inr (record { machine = refl; reply = refl; room = free.0; frames = free.1 }))
    where
      by : (t : Tables) (g : Guest) (limit n : ℕ) (x y : Bool) → (y ≡ nat_le 64 t.next) → cond x (Some Limit) (cond y (Some Ids) (lacks_frames n told)) ≡ None → (t.next < 64) × (lacks_frames n told ≡ None)
      by t g limit n true y is e = absurd cc
      by t g limit n false true is e = absurd cc
      by t g limit n false false is e = (leb-false 64 t.next (sym is), e)

      not_refused : (t : Tables) (g : Guest) (life : Option Life) (n : ℕ) → clone_refusal t g life n told ≡ None → (t.next < 64) × (lacks_frames n told ≡ None)
      not_refused t g None n e = absurd cc
      not_refused t g (Some life) n e = by t g life.limit n (nat_le life.limit g.accepted) (nat_le 64 t.next) refl e

  -- a command under the lock
  abbrev pub locks : Command → Outcome
  locks c =
      let did = shared_line m.shared id (lent o c) told c in
      record { machine = record { own = set m.own id (own_behind o c did.reply did.back); shared = did.shared }; reply = did.reply }

  -- a command
  abbrev pub does : Script → Command → Outcome
  does s c = out_by (locks c) (local_step s (program_run id m.shared.lives) o told c)

  -- what a command of handles comes to
  abbrev handles_call : Command → CallResult
  handles_call c = trap m.shared id (guest_at id m.shared.tables) (lent o c) told c

  handled : (c : Command) → IsOfHandles c → Kind m id told (called (λ r. o) (handles_call c))
  handled c is = alone (handles_call c) (handled_on m.shared id (lent o c) told c is)

  -- what `ungrant` comes to
  abbrev ended_call : ℕ → CallResult
  ended_call r = ungrant_call m.shared id (guest_at id m.shared.tables) r

  ended : (r : ℕ) → Kind m id told (called (λ q. o) (ended_call r))
  ended r = alone (ended_call r) (ended_on m.shared id r)

  locks_on : (c : Command) → c ≢ command.Exit → Kind m id told (locks c)
  locks_on (command.W addr bytes) far = calls (own_given o (command.W addr bytes)) (λ r. (given_w addr bytes r).0) (λ r. (given_w addr bytes r).1) (w_call m.shared id (addr % 4096) bytes (mapping_at o addr)) (w_on m.shared id (addr % 4096) bytes (mapping_at o addr))
  locks_on (command.R addr len) far = alone (r_call m.shared id (addr % 4096) len (mapping_at o addr)) (answers_on m.shared id (reply.Bytes (option_map_or (λ (x : Mapping). take len (drop (addr % 4096) (exposed_bytes m.shared.pages id x.pfn))) (mapping_at o addr) [])) tt)
  locks_on (command.Map vpn pfn mode) far = alone (Err NoFrame) tt
  locks_on (command.Unmap vpn) far = alone (Err NoFrame) tt
  locks_on (command.Jump label) far = alone (Err NoFrame) tt
  locks_on (command.JChild label) far = alone (Err NoFrame) tt
  locks_on (command.JFail label) far = alone (Err NoFrame) tt
  locks_on command.Exit far = absurd (far refl)
  locks_on command.Free far = alone (answers m.shared (reply.Number (free_told told))) (answers_on m.shared id (reply.Number (free_told told)) tt)
  locks_on command.Clone far = cloned (clone_refusal m.shared.tables (guest_at id m.shared.tables) (life_at id m.shared.lives) (need (exposed_at id m.shared.pages) (length o.leaves)) told) refl
  locks_on (command.Ungrant r) far = ended r
  locks_on (command.Gmap granter r) far = handled (command.Gmap granter r) tt
  locks_on (command.Gunmap h) far = handled (command.Gunmap h) tt
  locks_on (command.Hr h at n) far = handled (command.Hr h at n) tt
  locks_on (command.Hw h at bytes) far = handled (command.Hw h at bytes) tt

  ends : Kind m id told (locks command.Exit)
  ends = inr (inl (record { machine = refl; reply = refl }))

  -- the labels of the program of the domain
  abbrev its_labels : Script → List Label
  its_labels s = labels_of (program_at s (program_run id m.shared.lives))

  kind : (s : Script) (c : Command) → JumpsAhead (its_labels s) o.line c → Kind m id told (does s c)
  kind s (command.W addr bytes) ahead = settled (locks (command.W addr bytes)) (w_step o told (addr % 4096) bytes (mapping_at o addr)) (locks_on (command.W addr bytes) (λ e. absurd cc)) (keeps_w o told (addr % 4096) bytes (mapping_at o addr))
  kind s (command.R addr len) ahead = settled (locks (command.R addr len)) (r_step o (addr % 4096) len (mapping_at o addr)) (locks_on (command.R addr len) (λ e. absurd cc)) (keeps_r o (addr % 4096) len (mapping_at o addr))
  kind s (command.Map vpn pfn mode) ahead = settled (locks (command.Map vpn pfn mode)) (map_step o told vpn pfn mode) (locks_on (command.Map vpn pfn mode) (λ e. absurd cc)) (keeps_map o told vpn pfn mode)
  kind s (command.Unmap vpn) ahead = settled (locks (command.Unmap vpn)) (unmap_step o vpn (map.get o.vmap vpn)) (locks_on (command.Unmap vpn) (λ e. absurd cc)) (keeps_unmap o vpn (map.get o.vmap vpn))
  kind s (command.Jump label) ahead = jumped (locks (command.Jump label)) (label_line (its_labels s) label) true ahead.1
  kind s (command.JChild label) ahead = jumped (locks (command.JChild label)) (label_line (its_labels s) label) o.came ahead.1
  kind s (command.JFail label) ahead = jumped (locks (command.JFail label)) (label_line (its_labels s) label) o.refused ahead.1
  kind s command.Exit ahead = ends
  kind s command.Free ahead = locks_on command.Free (λ e. absurd cc)
  kind s command.Clone ahead = locks_on command.Clone (λ e. absurd cc)
  kind s (command.Ungrant r) ahead = ended r
  kind s (command.Gmap granter r) ahead = handled (command.Gmap granter r) tt
  kind s (command.Gunmap h) ahead = handled (command.Gunmap h) tt
  kind s (command.Hr h at n) ahead = handled (command.Hr h at n) tt
  kind s (command.Hw h at bytes) ahead = handled (command.Hw h at bytes) tt

  on_settled : (lock : Outcome) (x : LocalResult) → GoesOn lock.reply → KeepsBy o x → GoesOn (out_by lock (option_map (settle o) x)).reply
  on_settled lock None h k = h
  on_settled lock (Some (Ok did)) h k = k.1
  on_settled lock (Some (Err why)) h k = tt

  on_jumped : (lock : Outcome) (line : ℕ) (taken : Bool) → GoesOn (out_by lock (jump_step o line taken)).reply
  on_jumped lock line true = tt
  on_jumped lock line false = tt

  on_called : (given : Reply → Own) (x : CallResult) → CallsOn m.shared id x → GoesOn (called given x).reply
  on_called given (Ok a) h = h.on
  on_called given (Err why) h = tt

  handled_goes : (c : Command) → IsOfHandles c → GoesOn (called (λ r. o) (handles_call c)).reply
  handled_goes c is = on_called (λ r. o) (handles_call c) (handled_on m.shared id (lent o c) told c is)

  -- only an exit ends a domain, and only a clone begins one
  pub goes_on : (s : Script) (c : Command) → c ≢ command.Exit → c ≢ command.Clone → GoesOn (does s c).reply
  goes_on s (command.W addr bytes) far off =
      on_settled (locks (command.W addr bytes)) (w_step o told (addr % 4096) bytes (mapping_at o addr)) (on_called (own_given o (command.W addr bytes)) (w_call m.shared id (addr % 4096) bytes (mapping_at o addr)) (w_on m.shared id (addr % 4096) bytes (mapping_at o addr))) (keeps_w o told (addr % 4096) bytes (mapping_at o addr))
  goes_on s (command.R addr len) far off = on_settled (locks (command.R addr len)) (r_step o (addr % 4096) len (mapping_at o addr)) tt (keeps_r o (addr % 4096) len (mapping_at o addr))
  goes_on s (command.Map vpn pfn mode) far off = on_settled (locks (command.Map vpn pfn mode)) (map_step o told vpn pfn mode) tt (keeps_map o told vpn pfn mode)
  goes_on s (command.Unmap vpn) far off = on_settled (locks (command.Unmap vpn)) (unmap_step o vpn (map.get o.vmap vpn)) tt (keeps_unmap o vpn (map.get o.vmap vpn))
  goes_on s (command.Jump label) far off = on_jumped (locks (command.Jump label)) (label_line (its_labels s) label) true
  goes_on s (command.JChild label) far off = on_jumped (locks (command.JChild label)) (label_line (its_labels s) label) o.came
  goes_on s (command.JFail label) far off = on_jumped (locks (command.JFail label)) (label_line (its_labels s) label) o.refused
  goes_on s command.Exit far off = absurd (far refl)
  goes_on s command.Free far off = tt
  goes_on s command.Clone far off = absurd (off refl)
  goes_on s (command.Ungrant r) far off = on_called (λ q. o) (ended_call r) (ended_on m.shared id r)
  goes_on s (command.Gmap granter r) far off = handled_goes (command.Gmap granter r) tt
  goes_on s (command.Gunmap h) far off = handled_goes (command.Gunmap h) tt
  goes_on s (command.Hr h at n) far off = handled_goes (command.Hr h at n) tt
  goes_on s (command.Hw h at bytes) far off = handled_goes (command.Hw h at bytes) tt

  -- the step of a line is what its command does
  pub step_does : (s : Script) (line : ℕ) → step s m (Line id line) told ≡ does s (command_at s (program_run id m.shared.lives) line)
  step_does s line = refl

-- a line is one of the program's, or the exit behind its last
pub line_within : (cs : List Command) (line : ℕ) → (line < length cs) ⊎ (command_in cs line ≡ command.Exit)
line_within [] line = inr refl
line_within (c ∷ cs) zero = inl (omega arith)
line_within (c ∷ cs) (suc n) = elim (line_within cs n) [ inl lt ↦ inl (omega arith) | inr e ↦ inr e ]

jumps_ahead : (s : Script) → IsWellFormed s → (n line : ℕ) (p : Option Program) → slice_get s.programs n ≡ p → JumpsAhead (labels_of p) line (command_in (commands_of p) line)
jumps_ahead s well n line None found = tt
jumps_ahead s well n line (Some p) found =
    let here : get_or s.programs n p ≡ p = get_or_from_slice_get s.programs n p p found in
    let formed : IsWellFormedProgram p = subst IsWellFormedProgram here (well.programs n p (slice_get_within s.programs n p found)) in
    formed.ahead line

-- how many commands the program of the domain of an id has
abbrev pub size_run : Script → ℕ → List (Option Life) → ℕ
size_run s id lives = length (commands_of (program_at s (program_run id lives)))

-- what the next line of a domain does: it is one of the program's, unless the domain ends
pub line_kind : (s : Script) → IsWellFormed s → (m : Machine) (id : ℕ) (told : Told)
    → let out = step s m (Line id (own_at id m.own).line) told in Ends m id out ⊎ (((own_at id m.own).line < size_run s id m.shared.lives) × Kind m id told out)
line_kind s well m id told =
    let p = program_run id m.shared.lives in
    let line = (own_at id m.own).line in
    let c = command_at s p line in
    elim (line_within (commands_of (program_at s p)) line) [
      | inl lt ↦ inr (lt, kind m id told s c (jumps_ahead s well p line (program_at s p) refl))
      | inr e ↦ inl (subst (λ x. Ends m id (does m id told s x)) (sym e) (record { machine = refl; reply = refl }))
    ]

-- a command is a clone, or isn't
clone_or : (c : Command) → (c ≡ command.Clone) ⊎ (c ≢ command.Clone)
clone_or command.Clone = inl refl
clone_or (command.W addr bytes) = inr (λ e. absurd cc)
clone_or (command.R addr len) = inr (λ e. absurd cc)
clone_or (command.Map vpn pfn mode) = inr (λ e. absurd cc)
clone_or (command.Unmap vpn) = inr (λ e. absurd cc)
clone_or (command.Jump label) = inr (λ e. absurd cc)
clone_or (command.JChild label) = inr (λ e. absurd cc)
clone_or (command.JFail label) = inr (λ e. absurd cc)
clone_or command.Exit = inr (λ e. absurd cc)
clone_or command.Free = inr (λ e. absurd cc)
clone_or (command.Ungrant r) = inr (λ e. absurd cc)
clone_or (command.Gmap granter r) = inr (λ e. absurd cc)
clone_or (command.Gunmap h) = inr (λ e. absurd cc)
clone_or (command.Hr h at n) = inr (λ e. absurd cc)
clone_or (command.Hw h at bytes) = inr (λ e. absurd cc)

-- a domain that goes on is at no exit
pub goes_no_exit : (s : Script) (m : Machine) (id : ℕ) (told : Told) (c : Command) → GoesOn (does m id told s c).reply → c ≢ command.Exit
goes_no_exit s m id told c on e = subst (λ x. GoesOn (does m id told s x).reply) e on

-- a domain that begins a clone is at a clone
pub begins_clone : (s : Script) (m : Machine) (id : ℕ) (told : Told) (c : Command) (child : ℕ) → (does m id told s c).reply ≡ reply.Begun child → c ≡ command.Clone
begins_clone s m id told c child is =
    elim (clone_or c) [
      | inl e ↦ e
      | inr off ↦
          let far : c ≢ command.Exit = λ e. ended (sym (ap (λ x. (does m id told s x).reply) e) ∙ is) in
          absurd (subst GoesOn is (goes_on m id told s c far off))
    ]
  where
    ended : reply.Ended ≡ reply.Begun child → ⊥
    ended e = cc
