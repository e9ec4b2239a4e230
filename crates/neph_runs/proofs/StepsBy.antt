-- What each command leaves of the pages, the map and the leaf tables of its domain.
use Rattle.std.proofs.Common.{◌≡◌, ◌≢◌, ℕ, ◌+◌, ◌%◌, ◌<◌, Bool, true, false, cond, ◌||◌, List, [], ◌∷◌, ◌++◌, length, take, drop, set, Option, Some, None, Ok, Err, refl, sym, ap, subst, ◌∙◌, arith, eq-eqb}
use Rattle.std.specs.Prelude.{option_map, nat_le, nat_lt, not, ◌-◌}
use Rattle.std.specs.Option.{option_map_or}
use Rattle.std.specs.Option.{is_some}
use Rattle.std.specs.Ordering.{nat_cmp, eq_by_cmp}
use Rattle.std.specs.Cmp.{nat_cmp_total}
use Rattle.std.specs.FinMap as fm
use Rattle.std.proofs.lemmas.Bool.{false≢true, leb-false, or_parts}
use Rattle.std.proofs.lemmas.List.{get_or-set_same}
use Rattle.neph_base.specs.declared.command.Command.{Command}
use Rattle.neph_base.specs.declared.command.Command.TheVariants as command
use Rattle.neph_base.specs.declared.command.Mode.{Mode}
use Rattle.neph_base.specs.declared.command.Mode.TheVariants.{Ro, Rw}
use Rattle.neph_base.specs.declared.reply.Reply.{Reply}
use Rattle.neph_base.specs.declared.reply.Reply.TheVariants as reply
use Rattle.neph_base.specs.declared.reply.Refusal.{Refusal}
use Rattle.neph_base.specs.declared.reply.Refusal.TheVariants.{BadPfn, NoFrame, ReadOnly}
use Rattle.neph_grant.specs.declared.entry.GrantEntry.{GrantEntry}
use Rattle.neph_grant.specs.declared.table.TheConstants.{GRANT_REFS}
use Rattle.neph_grant.specs.Handles.{Mappings}
use Rattle.neph_grant.specs.Table.{Grants, names_page}
use Rattle.neph_grant.specs.Uses.{is_of_page}
use Rattle.neph_grant.proofs.BelowLemmas.{some_below_at}
use Rattle.neph_model.specs.declared.own.Own.{Own}
use Rattle.neph_model.specs.declared.life.Guest.{Guest}
use Rattle.neph_model.specs.declared.script.Script.{Script}
use Rattle.neph_model.specs.declared.memory.Mapping.{Mapping}
use Rattle.neph_model.specs.declared.book.Book.{Book}
use Rattle.neph_model.specs.declared.book.Spends.{Spends}
use Rattle.neph_model.specs.declared.book.Spends.TheVariants.{Nothing, Leaf, Copy}
use Rattle.neph_model.specs.declared.told.Told.{Told}
use Rattle.neph_model.specs.declared.told.Told.TheVariants.{Enough, Short, Free}
use Rattle.neph_model.specs.Programs.{label_line_at}
use Rattle.neph_model.specs.Counting.{is_map}
use Rattle.neph_model.specs.Machine.{Machine, Exposed, no_own, no_guest, put_guest, own_at, guest_at, life_at, exposed_at, program_run, put_own}
use Rattle.neph_model.specs.Own.{LocalResult, page_of, with_page, mapping_at, with_alone, with_bytes, with_mapping, with_leaf, is_bad_pfn, has_leaf, w_step, r_step, leaf_step, map_step, unmap_step, settle, jump_step}
use Rattle.neph_model.specs.Trap.{CallResult, answers, is_exposed, exposed_bytes, with_exposed_bytes, w_call, trap, with_handles, ungrant_call, free_told, need, clone_refusal, clone_call}
use Rattle.neph_model.specs.Memory.{page_with_bytes}
use Rattle.neph_model.specs.Lent.{Lent, lent}
use Rattle.neph_model.specs.Step.{Outcome}
use Rattle.neph_model.specs.Books.{Books}
use Rattle.neph_laws.proofs.HandleRows.{IsOfHandles, handle_row, put_as}
use Rattle.neph_laws.proofs.GrantRows.{MayEnd, ungrant_row, without_there}
use Rattle.neph_runs.specs.Orderly.{outline}
use Rattle.neph_runs.proofs.Lines.{out_by, called, locks, does}
use Rattle.neph_runs.proofs.Says.{Says}
use Rattle.neph_runs.proofs.Sound.{AreHalves, hidden_none, home_hidden}
use Rattle.neph_runs.proofs.Steps.{Half, ComesHome, Steps, half_at, with_own, steps_same, steps_line, steps_bytes, steps_alone, steps_ended, steps_home, steps_mapping, steps_leaf, steps_unmap, insert_shown, insert_count, written_outline}

-- how many leaf tables a spare becomes
abbrev pub leaf_of : Spends → ℕ
leaf_of Nothing = 0
leaf_of Leaf = 1
leaf_of (Copy pfn) = 0

-- the page that a write to what its address maps to writes, where its frame didn't lack
abbrev pub written_to : Told → Option Mapping → Option ℕ
written_to t None = None
written_to t (Some to) = by to.mode t where
  by : Mode → Told → Option ℕ
  by Ro t = None
  by Rw Short = None
  by Rw Enough = Some to.pfn
  by Rw (Free f) = Some to.pfn

-- the page that a command writes
abbrev pub page_written : Own → Told → Command → Option ℕ
page_written o t (command.W addr bytes) = written_to t (mapping_at o addr)
page_written o t _ = None

module _ (m : Machine) (id : ℕ) (told : Told) (owns : id < length m.own) (exposes : id < length m.shared.pages) where
  abbrev o : Own
  o = own_at id m.own

  abbrev shown : Exposed
  shown = exposed_at id m.shared.pages

  abbrev x : Half
  x = half_at m id

  -- so an outcome leaves the domain
  abbrev pub Leaves : ℕ → Option ℕ → Outcome → Type 0
  Leaves more wrote out = Steps x (half_at out.machine id) more wrote

  put : (n : Own) (r : Reply) (more : ℕ) (wrote : Option ℕ) → Steps x (with_own x n) more wrote → Leaves more wrote (record { machine = put_own id n m; reply = r })
  put n r more wrote h = subst (λ v. Steps x (with_own x v) more wrote) (sym (get_or-set_same m.own id n no_own owns)) h

  same : (line : ℕ) (refused : Bool) (r : Reply) (wrote : Option ℕ) → Leaves 0 wrote (record { machine = put_own id (record o { line = line; refused = refused }) m; reply = r })
  same line refused r wrote = put (record o { line = line; refused = refused }) r 0 wrote (steps_same x line refused wrote)

  abbrev StepsBy : Outcome → ℕ → Option ℕ → LocalResult → Type 0
  StepsBy lock more wrote None = Leaves more wrote lock
  StepsBy lock more wrote (Some (Ok did)) = Steps x (with_own x did.0) more wrote
  StepsBy lock more wrote (Some (Err why)) = more ≡ 0

  settled : (lock : Outcome) (more : ℕ) (wrote : Option ℕ) (did : LocalResult) → StepsBy lock more wrote did → Leaves more wrote (out_by m id told lock (option_map (settle o) did))
  settled lock more wrote None h = h
  settled lock more wrote (Some (Ok did)) h = put (record did.0 { line = o.line + 1; refused = false }) did.1 more wrote (steps_line x (with_own x did.0) more wrote (o.line + 1) false h)
  settled lock more wrote (Some (Err why)) h = subst (λ k. Leaves k wrote (out_by m id told lock (option_map (settle o) (Some (Err why))))) (sym h) (same (o.line + 1) true (reply.Refused why) wrote)

  either : (lock : Outcome) (more : ℕ) (wrote : Option ℕ) (b : Bool) (p q : LocalResult) → (b ≡ true → StepsBy lock more wrote p) → (b ≡ false → StepsBy lock more wrote q) → StepsBy lock more wrote (cond b p q)
  either lock more wrote true p q h k = h refl
  either lock more wrote false p q h k = k refl

  jumped : (lock : Outcome) (line : ℕ) (taken : Bool) → Leaves 0 None (out_by m id told lock (jump_step o line taken))
  jumped lock line true = same line o.refused reply.Go None
  jumped lock line false = same (o.line + 1) o.refused reply.On None

  -- a write under the lock, by what its address maps to
  abbrev given : Option Mapping → Reply → Own
  given met reply.Done = option_map_or (λ (x : Mapping). with_alone o x.pfn) met o
  given met _ = o

  w_locks : (at : ℕ) (bytes : List ℕ) (wrote : Option ℕ) (met : Option Mapping) → Leaves 0 wrote (called m id told (given met) (w_call m.shared id at bytes met))
  w_locks at bytes wrote None = same (o.line + 1) true (reply.Refused NoFrame) wrote
  w_locks at bytes wrote (Some to) = by (is_exposed m.shared.pages id to.pfn) to.mode refl where
    with : CallResult
    with = answers (record m.shared { pages = with_exposed_bytes m.shared.pages id to.pfn at bytes }) reply.Done

    mode_call : Mode → CallResult
    mode_call Ro = Err ReadOnly
    mode_call Rw = with

    f : Exposed
    f = fm.insert shown to.pfn (page_with_bytes (exposed_bytes m.shared.pages id to.pfn) at bytes)

    done : is_exposed m.shared.pages id to.pfn ≡ true → Leaves 0 wrote (called m id told (given (Some to)) with)
    done some =
        let n : Own = record (with_alone o to.pfn) { line = o.line + 1; refused = false } in
        subst (λ v. Steps x (record x { own = v; exposed = outline (exposed_at id (set m.shared.pages id f)) }) 0 wrote) (sym (get_or-set_same m.own id n no_own owns))
        (subst (λ (v : Exposed). Steps x (record x { own = n; exposed = outline v }) 0 wrote) (sym (get_or-set_same m.shared.pages id f fm.empty exposes))
        (steps_line x (record x { own = with_alone o to.pfn; exposed = outline f }) 0 wrote (o.line + 1) false (steps_alone x (outline f) to.pfn wrote some (λ q. insert_shown shown to.pfn _ q some) (insert_count shown to.pfn _ some))))

    by : (b : Bool) (mode : Mode) → is_exposed m.shared.pages id to.pfn ≡ b → Leaves 0 wrote (called m id told (given (Some to)) (cond b (mode_call mode) (Err NoFrame)))
    by true Ro some = same (o.line + 1) true (reply.Refused ReadOnly) wrote
    by true Rw some = done some
    by false mode none = same (o.line + 1) true (reply.Refused NoFrame) wrote

  w_steps : (addr : ℕ) (bytes : List ℕ) (met : Option Mapping) → mapping_at o addr ≡ met → StepsBy (locks m id told (command.W addr bytes)) 0 (written_to told met) (w_step o told (addr % 4096) bytes met)
  w_steps addr bytes None is = refl
  w_steps addr bytes (Some to) is = go (page_of o to.pfn) to.mode told refl where
    wrote : Mode → Told → Option ℕ
    wrote Ro t = None
    wrote Rw Short = None
    wrote Rw Enough = Some to.pfn
    wrote Rw (Free f) = Some to.pfn

    by : Option (List ℕ) → Mode → Told → LocalResult
    by None mode t = None
    by (Some page) Ro t = Some (Err ReadOnly)
    by (Some page) Rw Short = None
    by (Some page) Rw Enough = Some (Ok (with_bytes o to.pfn page (addr % 4096) bytes, reply.Done))
    by (Some page) Rw (Free f) = Some (Ok (with_bytes o to.pfn page (addr % 4096) bytes, reply.Done))

    lock : (w : Option ℕ) → Leaves 0 w (locks m id told (command.W addr bytes))
    lock w = subst (λ v. Leaves 0 w (called m id told (given v) (w_call m.shared id (addr % 4096) bytes v))) (sym is) (w_locks (addr % 4096) bytes w (Some to))

    go : (page : Option (List ℕ)) (mode : Mode) (t : Told) → page_of o to.pfn ≡ page → StepsBy (locks m id told (command.W addr bytes)) 0 (wrote mode t) (by page mode t)
    go None mode t p = lock (wrote mode t)
    go (Some page) Ro t p = refl
    go (Some page) Rw Short p = lock None
    go (Some page) Rw Enough p = steps_bytes x to.pfn page (addr % 4096) bytes p
    go (Some page) Rw (Free f) p = steps_bytes x to.pfn page (addr % 4096) bytes p

  r_steps : (lock : Outcome) (at n : ℕ) (to : Option Mapping) → Leaves 0 None lock → StepsBy lock 0 None (r_step o at n to)
  r_steps lock at n None h = refl
  r_steps lock at n (Some to) h =
      elim (page_of o to.pfn) as (λ page. StepsBy lock 0 None (elim page as (λ v. LocalResult) [ None ↦ None | Some p ↦ Some (Ok (o, reply.Bytes (take n (drop at p)))) ])) [ None ↦ h | Some p ↦ steps_same x o.line o.refused None ]

  unmap_steps : (lock : Outcome) (vpn : ℕ) (to : Option Mapping) → StepsBy lock 0 None (unmap_step o vpn to)
  unmap_steps lock vpn None = refl
  unmap_steps lock vpn (Some to) = steps_unmap x vpn

  -- the domain's halves behind an entry of the tables with the same grants
  same_grants : (g : Guest) (line : ℕ) (r : Reply) → g.grants ≡ x.grants
      → Steps x (record { own = own_at id (set m.own id (record o { line = line; refused = false })); exposed = x.exposed; grants = (guest_at id (put_guest id g m.shared.tables)).grants }) 0 None
  same_grants g line r is =
      let kept : (guest_at id (put_guest id g m.shared.tables)).grants ≡ x.grants = put_as (λ (v : Guest). v.grants) m.shared.tables.guests id g no_guest is id in
      subst (λ v. Steps x (record { own = own_at id (set m.own id (record o { line = line; refused = false })); exposed = x.exposed; grants = v }) 0 None) (sym kept) (same line false r None)

  cloned : (why : Option Refusal) → Leaves 0 None (called m id told (λ r. o) (clone_call m.shared id (guest_at id m.shared.tables) why))
  cloned (Some why) = same (o.line + 1) true (reply.Refused why) None
  cloned None =
      let g = guest_at id m.shared.tables in
      same_grants (record g { begun = g.begun ++ m.shared.tables.next ∷ []; accepted = g.accepted + 1 }) o.line (reply.Begun m.shared.tables.next) refl

  -- a command of handles leaves the domain's half but for its line and mark, and its exposed pages where they were
  handled : (c : Command) (l : Lent) → IsOfHandles c → Leaves 0 None (called m id told (λ r. o) (trap m.shared id (guest_at id m.shared.tables) l told c))
  handled c l is =
      handle_row m.shared id (guest_at id m.shared.tables) (λ v. Leaves 0 None (called m id told (λ r. o) v)) (λ why plain. same (o.line + 1) true (reply.Refused why) None) (λ bytes. same (o.line + 1) false (reply.Bytes bytes) None)
      (λ hs h. same_grants (record (guest_at id m.shared.tables) { handles = hs }) (o.line + 1) (reply.Number h) refl) (λ hs. same_grants (record (guest_at id m.shared.tables) { handles = hs }) (o.line + 1) reply.Done refl)
      (λ granter pfn at bytes there.
      subst (λ v. Steps x (record x { own = own_at id (set m.own id (record o { line = o.line + 1; refused = false })); exposed = v }) 0 None) (sym (written_outline m.shared.pages granter pfn at bytes there id)) (same (o.line + 1) false reply.Done None)) l told c is

  -- each entry that is left when one is taken away was there
  left_was : (t : Grants) (r q : ℕ) (g : GrantEntry) → fm.get (fm.remove t r) q ≡ Some g → fm.get t q ≡ Some g
  left_was t r q g at = by (eq_by_cmp nat_cmp q r) (sym (fm.get-remove nat_cmp_total t r q) ∙ at) where
    by : (b : Bool) → cond b None (fm.get t q) ≡ Some g → fm.get t q ≡ Some g
    by true e = absurd cc
    by false e = e

  module _ (guests : id < length m.shared.tables.guests) (h : AreHalves x) where
    abbrev g : Guest
    g = guest_at id m.shared.tables

    -- the domain's halves behind these grants, this own half and these exposed pages
    ends_put : (left : Grants) (n : Own) (f : Exposed) (r : Reply) → Steps x (record { own = n; exposed = outline f; grants = left }) 0 None
        → Steps x (record { own = own_at id (set m.own id (record n { line = o.line + 1; refused = false })); exposed = outline f; grants = (guest_at id (put_guest id (record g { grants = left }) m.shared.tables)).grants }) 0 None
    ends_put left n f r steps =
        let goes : Own = record n { line = o.line + 1; refused = false } in
        let mine : Guest = record g { grants = left } in
        subst (λ (v : Guest). Steps x (record { own = own_at id (set m.own id goes); exposed = outline f; grants = v.grants }) 0 None) (sym (get_or-set_same m.shared.tables.guests id mine no_guest guests))
        (subst (λ v. Steps x (record { own = v; exposed = outline f; grants = left }) 0 None) (sym (get_or-set_same m.own id goes no_own owns)) (steps_line x (record { own = n; exposed = outline f; grants = left }) 0 None (o.line + 1) false steps))

    -- the page that an entry named comes home
    comes_home : (q : ℕ) (e : GrantEntry) → MayEnd x.grants q e → names_page (fm.remove x.grants q) e.pfn ≡ false
        → ComesHome x (record { own = with_page o e.pfn (Some (exposed_bytes m.shared.pages id e.pfn)); exposed = outline (fm.remove shown e.pfn); grants = fm.remove x.grants q }) e.pfn
    comes_home q e may free =
        let was = h.named q e may.there in
        let inside = h.inside q e may.there in
        let none = hidden_none (page_of o e.pfn) (h.apart e.pfn inside ∙ ap not was) in
        let one = home_hidden o.pages e.pfn [] inside none in
        let len = fm.len-remove nat_cmp_total shown e.pfn ∙ ap (λ b. cond b (fm.len shown - 1) (fm.len shown)) was in
        let mine = h.hides in
        record {
          bytes = exposed_bytes m.shared.pages id e.pfn;
          pages = refl;
          high = h.high q e may.there may.device;
          inside = inside;
          was = was;
          shown = λ p. without_there shown e.pfn p;
          count = omega (arith, one, len, mine);
          fewer = left_was x.grants q;
          unnamed = λ r k at same.
              let old = left_was x.grants q r k at in
              false≢true (sym free ∙ some_below_at GRANT_REFS (λ i. is_of_page e.pfn (fm.get (fm.remove x.grants q) i)) r (h.low r k old) (ap (is_of_page e.pfn) at ∙ eq-eqb k.pfn e.pfn same));
        }

    ended : (r : ℕ) → Leaves 0 None (called m id told (λ q. o) (ungrant_call m.shared id g r))
    ended r =
        ungrant_row m.shared id g (λ v. Leaves 0 None (called m id told (λ q. o) v)) (λ why plain. same (o.line + 1) true (reply.Refused why) None)
        (λ q e may. ends_put (fm.remove x.grants q) o shown reply.Done (steps_ended x (fm.remove x.grants q) (left_was x.grants q)))
        (λ q e may free.
        let left = fm.remove x.grants q in
        let f = fm.remove shown e.pfn in
        let bytes = exposed_bytes m.shared.pages id e.pfn in
        subst (λ (v : Exposed). Steps x (record { own = own_at id (set m.own id (record (with_page o e.pfn (Some bytes)) { line = o.line + 1; refused = false })); exposed = outline v; grants = (guest_at id (put_guest id (record g { grants = left }) m.shared.tables)).grants }) 0 None)
        (sym (get_or-set_same m.shared.pages id f fm.empty exposes)) (ends_put left (with_page o e.pfn (Some bytes)) f reply.Done (steps_home x (outline f) left e.pfn bytes (comes_home q e may free)))) r

  not_bad : (vpn pfn : ℕ) (mode : Mode) → is_bad_pfn o pfn mode ≡ false → pfn < length o.pages
  not_bad vpn pfn Ro h = leb-false (length o.pages) pfn h
  not_bad vpn pfn Rw h = leb-false (length o.pages) pfn (or_parts (nat_le (length o.pages) pfn) (nat_lt pfn 4) h).0

  -- a `map`, told so, where the group has its leaf table or not
  map_steps : (vpn pfn : ℕ) (mode : Mode) (b : Book) (bs : Books) (n : ℕ) (spends : Spends) → Says n bs o b (command.Map vpn pfn mode) told spends → StepsBy (locks m id told (command.Map vpn pfn mode)) (leaf_of spends) None (map_step o told vpn pfn mode)
  map_steps vpn pfn mode b bs n spends says = go (is_bad_pfn o pfn mode) (has_leaf o vpn) told spends refl says where
    lock : Outcome
    lock = locks m id told (command.Map vpn pfn mode)

    maps : LocalResult
    maps = Some (Ok (with_mapping o vpn pfn mode, reply.Done))

    more : Own
    more = with_leaf (with_mapping o vpn pfn mode) vpn

    locked : Leaves 0 None lock
    locked = same (o.line + 1) true (reply.Refused NoFrame) None

    Said : Bool → Bool → Told → Spends → Type 0
    Said bad has Enough Nothing = bad || has ≡ true
    Said bad has Enough Leaf = (bad || has ≡ false) × (b.spare ≡ true)
    Said bad has Short Nothing = (n ≡ 0) × (bad || has ≡ false)
    Said bad has _ _ = ⊥

    go : (bad has : Bool) (t : Told) (sp : Spends) → is_bad_pfn o pfn mode ≡ bad → Said bad has t sp → StepsBy lock (leaf_of sp) None (cond bad (Some (Err BadPfn)) (cond has maps (leaf_step more t)))
    go true has Enough Nothing is h = refl
    go true has Enough Leaf is h = absurd (false≢true (sym h.0))
    go true has Short Nothing is h = absurd (false≢true (sym h.1))
    go false true Enough Nothing is h = steps_mapping x vpn pfn mode (not_bad vpn pfn mode is)
    go false true Enough Leaf is h = absurd (false≢true (sym h.0))
    go false true Short Nothing is h = absurd (false≢true (sym h.1))
    go false false Enough Nothing is h = absurd (false≢true h)
    go false false Enough Leaf is h = steps_leaf x vpn pfn mode (not_bad vpn pfn mode is)
    go false false Short Nothing is h = locked
    go bad has Enough (Copy p) is h = absurd h
    go bad has Short Leaf is h = absurd h
    go bad has Short (Copy p) is h = absurd h
    go bad has (Free f) sp is h = absurd h

  -- only a `map` makes a leaf table
  no_leaf : (c : Command) (b : Book) (bs : Books) (n : ℕ) (t : Told) (sp : Spends) → Says n bs o b c t sp → is_map c ≡ false → 0 ≡ leaf_of sp
  no_leaf c b bs n t Nothing h far = refl
  no_leaf c b bs n t (Copy pfn) h far = refl
  no_leaf (command.Map vpn pfn mode) b bs n t Leaf h far = absurd (false≢true (sym far))
  no_leaf _ b bs n Enough Leaf h far = absurd h
  no_leaf _ b bs n Short Leaf h far = absurd h
  no_leaf _ b bs n (Free f) Leaf h far = absurd h

  -- a command that is no exit
  pub command_steps : (guests : id < length m.shared.tables.guests) → AreHalves x → (s : Script) (c : Command) (b : Book) (bs : Books) (n : ℕ) (spends : Spends) → c ≢ command.Exit → Says n bs o b c told spends → Leaves (leaf_of spends) (page_written o told c) (does m id told s c)
  command_steps guests apart s (command.Map vpn pfn mode) b bs n spends far says = settled (locks m id told (command.Map vpn pfn mode)) (leaf_of spends) None (map_step o told vpn pfn mode) (map_steps vpn pfn mode b bs n spends says)
  command_steps guests apart s (command.W addr bytes) b bs n spends far says =
      let c = command.W addr bytes in
      subst (λ k. Leaves k (page_written o told c) (does m id told s c)) (no_leaf c b bs n told spends says refl) (settled (locks m id told c) 0 (page_written o told c) (w_step o told (addr % 4096) bytes (mapping_at o addr)) (w_steps addr bytes (mapping_at o addr) refl))
  command_steps guests apart s (command.R addr len) b bs n spends far says =
      let c = command.R addr len in
      subst (λ k. Leaves k None (does m id told s c)) (no_leaf c b bs n told spends says refl) (settled (locks m id told c) 0 None (r_step o (addr % 4096) len (mapping_at o addr)) (r_steps (locks m id told c) (addr % 4096) len (mapping_at o addr) (same (o.line + 1) false (locks m id told c).reply None)))
  command_steps guests apart s (command.Unmap vpn) b bs n spends far says =
      let c = command.Unmap vpn in
      subst (λ k. Leaves k None (does m id told s c)) (no_leaf c b bs n told spends says refl) (settled (locks m id told c) 0 None (unmap_step o vpn (fm.get o.vmap vpn)) (unmap_steps (locks m id told c) vpn (fm.get o.vmap vpn)))
  command_steps guests apart s (command.Jump label) b bs n spends far says =
      let c = command.Jump label in
      subst (λ k. Leaves k None (does m id told s c)) (no_leaf c b bs n told spends says refl) (jumped (locks m id told c) (label_line_at s (program_run id m.shared.lives) label) true)
  command_steps guests apart s (command.JChild label) b bs n spends far says =
      let c = command.JChild label in
      subst (λ k. Leaves k None (does m id told s c)) (no_leaf c b bs n told spends says refl) (jumped (locks m id told c) (label_line_at s (program_run id m.shared.lives) label) o.came)
  command_steps guests apart s (command.JFail label) b bs n spends far says =
      let c = command.JFail label in
      subst (λ k. Leaves k None (does m id told s c)) (no_leaf c b bs n told spends says refl) (jumped (locks m id told c) (label_line_at s (program_run id m.shared.lives) label) o.refused)
  command_steps guests apart s command.Exit b bs n spends far says = absurd (far refl)
  command_steps guests apart s command.Free b bs n spends far says =
      subst (λ k. Leaves k None (does m id told s command.Free)) (no_leaf command.Free b bs n told spends says refl) (same (o.line + 1) false (reply.Number (free_told told)) None)
  command_steps guests apart s command.Clone b bs n spends far says =
      subst (λ k. Leaves k None (does m id told s command.Clone)) (no_leaf command.Clone b bs n told spends says refl) (cloned (clone_refusal m.shared.tables (guest_at id m.shared.tables) (life_at id m.shared.lives) (need (exposed_at id m.shared.pages) (length o.leaves)) told))
  command_steps guests apart s (command.Ungrant r) b bs n spends far says =
      let c = command.Ungrant r in
      subst (λ k. Leaves k None (does m id told s c)) (no_leaf c b bs n told spends says refl) (ended guests apart r)
  command_steps guests apart s (command.Gmap granter r) b bs n spends far says =
      let c = command.Gmap granter r in
      subst (λ k. Leaves k None (does m id told s c)) (no_leaf c b bs n told spends says refl) (handled c (lent o c) tt)
  command_steps guests apart s (command.Gunmap h) b bs n spends far says =
      let c = command.Gunmap h in
      subst (λ k. Leaves k None (does m id told s c)) (no_leaf c b bs n told spends says refl) (handled c (lent o c) tt)
  command_steps guests apart s (command.Hr h at len) b bs n spends far says =
      let c = command.Hr h at len in
      subst (λ k. Leaves k None (does m id told s c)) (no_leaf c b bs n told spends says refl) (handled c (lent o c) tt)
  command_steps guests apart s (command.Hw h at bytes) b bs n spends far says =
      let c = command.Hw h at bytes in
      subst (λ k. Leaves k None (does m id told s c)) (no_leaf c b bs n told spends says refl) (handled c (lent o c) tt)
