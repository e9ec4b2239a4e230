-- What a line was told of the free frames can be read off its reply, and what its reply counts.
use Rattle.std.proofs.Common.{◌≡◌, ℕ, ◌/◌, ◌%◌, ◌<◌, Bool, true, false, cond, ◌||◌, List, length, take, drop, Option, Some, None, Ok, Err, refl, sym, ap, subst, ◌∙◌}
use Rattle.std.specs.Prelude.{⊤, option_map, nat_le, nat_lt, not, IfSome}
use Rattle.std.specs.Option.{is_some, option_map_or}
use Rattle.std.specs.FinMap as fm
use Rattle.std.proofs.lemmas.Bool.{false≢true}
use Rattle.neph_base.specs.declared.command.Command.{Command}
use Rattle.neph_base.specs.declared.command.Command.TheVariants as command
use Rattle.neph_base.specs.declared.command.Mode.{Mode}
use Rattle.neph_base.specs.declared.command.Mode.TheVariants.{Ro, Rw}
use Rattle.neph_base.specs.declared.reply.Reply.{Reply}
use Rattle.neph_base.specs.declared.reply.Reply.TheVariants as reply
use Rattle.neph_base.specs.declared.reply.Refusal.{Refusal}
use Rattle.neph_base.specs.declared.reply.Refusal.TheVariants.{BadPfn, NoFrame, ReadOnly, Limit, Ids, Frames}
use Rattle.neph_model.specs.declared.own.Own.{Own}
use Rattle.neph_model.specs.declared.script.Script.{Script}
use Rattle.neph_model.specs.declared.life.Life.{Life}
use Rattle.neph_model.specs.declared.life.Guest.{Guest}
use Rattle.neph_model.specs.declared.memory.Mapping.{Mapping}
use Rattle.neph_model.specs.declared.book.Book.{Book}
use Rattle.neph_model.specs.declared.book.Spends.{Spends}
use Rattle.neph_model.specs.declared.book.Spends.TheVariants.{Nothing, Leaf, Copy}
use Rattle.neph_model.specs.declared.told.Told.{Told}
use Rattle.neph_model.specs.declared.told.Told.TheVariants.{Enough, Short, Free}
use Rattle.neph_model.specs.Machine.{Machine, own_at, guest_at, life_at, exposed_at, program_run}
use Rattle.neph_model.specs.Own.{LocalResult, page_of, mapping_at, with_alone, with_bytes, with_mapping, with_leaf, is_bad_pfn, has_leaf, w_step, r_step, leaf_step, map_step, unmap_step, settle, jump_step}
use Rattle.neph_model.specs.Trap.{CallResult, answers, is_exposed, with_exposed_bytes, w_call, r_call, trap, ungrant_call, need, lacks_frames, clone_refusal, clone_call}
use Rattle.neph_model.specs.Programs.{label_line_at}
use Rattle.neph_model.specs.Step.{Outcome}
use Rattle.neph_model.specs.Books.{Books}
use Rattle.neph_model.specs.Turns.{page_to_copy}
use Rattle.neph_model.specs.Counting.{frames_counted, may_be_shared, lacks_well}
use Rattle.neph_model.specs.Legal.{told_of}
use Rattle.neph_runs.proofs.Lines.{out_by, called, locks, does}
use Rattle.neph_runs.proofs.Says.{Says}
use Rattle.neph_model.specs.Lent.{lent}
use Rattle.neph_laws.proofs.HandleRows.{IsOfHandles, IsPlainWhy, handle_row}
use Rattle.neph_runs.specs.Orderly.{outline}
use Rattle.neph_laws.proofs.GrantRows.{ungrant_row}
use Rattle.neph_runs.proofs.Steps.{half_at}
use Rattle.neph_runs.proofs.Sound.{AreHalves}
use Rattle.neph_runs.proofs.Rooms.{clone_says}

-- a reply counts n frames, if it counts any, and says that none is left only where one may lack
abbrev pub Counted : ℕ → Own → Command → Reply → Type 0
Counted n o c r = IfSome (frames_counted c r) (λ k. k ≡ n) × (lacks_well o c r ≡ true)

not_short : Short ≡ Enough → ⊥
not_short e = cc

not_free : (f : ℕ) → Free f ≡ Enough → ⊥
not_free f e = cc

module _ (m : Machine) (id : ℕ) (halves : AreHalves (half_at m id)) where
  abbrev o : Own
  o = own_at id m.own

  -- what the line was told is read off its reply, and so does its reply count
  abbrev Tells : ℕ → Command → (Told → Outcome) → Told → Type 0
  Tells n c out t = (out (told_of (out t).reply) ≡ out t) × Counted n o c (out t).reply

  -- a page that a mapping leads to is its own or exposed
  mapped_apart : (addr : ℕ) (to : Mapping) → mapping_at o addr ≡ Some to → is_some (page_of o to.pfn) ≡ not (is_exposed m.shared.pages id to.pfn)
  mapped_apart addr to is = halves.apart to.pfn (subst (λ x. IfSome x (λ (x : Mapping). x.pfn < length o.pages)) is (halves.maps (addr / 4096)))

  own_only : (a b : Bool) → a ≡ not b → a ≡ true → b ≡ false
  own_only a true e h = absurd (false≢true (sym e ∙ h))
  own_only a false e h = refl

  one_only : (a b : Bool) → a ≡ not b → a ≡ false → b ≡ true
  one_only a true e h = refl
  one_only a false e h = absurd (false≢true (sym h ∙ e))

  -- an own half behind a reply to a write, by what its address maps to
  abbrev given : Option Mapping → Reply → Own
  given met reply.Done = option_map_or (λ (x : Mapping). with_alone o x.pfn) met o
  given met _ = o

  -- a write, by what its address maps to
  abbrev w_out : ℕ → List ℕ → Option Mapping → Told → Outcome
  w_out at bytes met t = out_by m id t (called m id t (given met) (w_call m.shared id at bytes met)) (option_map (settle o) (w_step o t at bytes met))

  -- so a write is told
  abbrev WSays : ℕ → Books → Book → Option Mapping → Told → Type 0
  WSays n bs b met Enough = ⊤
  WSays n bs b met Short = (n ≡ 0) × ((pfn : ℕ) × (page_to_copy bs o b met ≡ Some pfn))
  WSays n bs b met (Free f) = ⊥

  w_tells : (n addr : ℕ) (bytes : List ℕ) (bs : Books) (b : Book) (t : Told) (met : Option Mapping) → mapping_at o addr ≡ met → WSays n bs b met t → ((pfn : ℕ) → page_to_copy bs o b met ≡ Some pfn → may_be_shared o met ≡ true)
      → Tells n (command.W addr bytes) (w_out (addr % 4096) bytes met) t
  w_tells n addr bytes bs b t None is says may = (refl, (tt, refl))
  w_tells n addr bytes bs b t (Some to) is says may = go (page_of o to.pfn) (is_exposed m.shared.pages id to.pfn) to.mode t refl refl says where
    c : Command
    c = command.W addr bytes

    at : ℕ
    at = addr % 4096

    mode_call : Mode → CallResult
    mode_call Ro = Err ReadOnly
    mode_call Rw = answers (record m.shared { pages = with_exposed_bytes m.shared.pages id to.pfn at bytes }) reply.Done

    local : Option (List ℕ) → Mode → Told → LocalResult
    local None mode t = None
    local (Some page) Ro t = Some (Err ReadOnly)
    local (Some page) Rw Short = None
    local (Some page) Rw Enough = Some (Ok (with_bytes o to.pfn page at bytes, reply.Done))
    local (Some page) Rw (Free f) = Some (Ok (with_bytes o to.pfn page at bytes, reply.Done))

    out : Option (List ℕ) → Bool → Mode → Told → Outcome
    out page shown mode t = out_by m id t (called m id t (given (Some to)) (cond shown (mode_call mode) (Err NoFrame))) (option_map (settle o) (local page mode t))

    shared : is_some (page_of o to.pfn) ≡ not (is_exposed m.shared.pages id to.pfn)
    shared = mapped_apart addr to is

    here : (n ≡ 0) → may_be_shared o (Some to) ≡ true → Counted n o c (reply.Refused NoFrame)
    here none shares = (sym none, subst (λ x. may_be_shared o x ≡ true) (sym is) shares)

    go : (page : Option (List ℕ)) (shown : Bool) (mode : Mode) (t : Told) → page_of o to.pfn ≡ page → is_exposed m.shared.pages id to.pfn ≡ shown → WSays n bs b (Some to) t → Tells n c (out page shown mode) t
    go None true Ro t p e h = (refl, (tt, refl))
    go None true Rw t p e h = (refl, (tt, refl))
    go None false mode t p e h = absurd (false≢true (sym e ∙ one_only (is_some (page_of o to.pfn)) (is_exposed m.shared.pages id to.pfn) shared (ap is_some p)))
    go (Some page) shown Ro t p e h = (refl, (tt, refl))
    go (Some page) shown Rw Enough p e h = (refl, (tt, refl))
    go (Some page) true Rw Short p e h = absurd (false≢true (sym (own_only (is_some (page_of o to.pfn)) (is_exposed m.shared.pages id to.pfn) shared (ap is_some p)) ∙ e))
    go (Some page) false Rw Short p e h = (refl, here h.0 (may h.1.0 h.1.1))
    go (Some page) shown Rw (Free f) p e h = absurd h

  either_tells : (n : ℕ) (c : Command) (b : Bool) (x y : Told → Outcome) (t : Told) → Tells n c x t → Tells n c y t → Tells n c (λ t. cond b (x t) (y t)) t
  either_tells n c true x y t h k = h
  either_tells n c false x y t h k = k

  map_tells : (n vpn pfn : ℕ) (mode : Mode) (bs : Books) (b : Book) (t : Told) (sp : Spends) → Says n bs o b (command.Map vpn pfn mode) t sp → Tells n (command.Map vpn pfn mode) (λ t. out_by m id t (locks m id t (command.Map vpn pfn mode)) (option_map (settle o) (map_step o t vpn pfn mode))) t
  map_tells n vpn pfn mode bs b t sp says = go (is_bad_pfn o pfn mode) (has_leaf o vpn) t sp refl (said t sp says) where
    c : Command
    c = command.Map vpn pfn mode

    maps : LocalResult
    maps = Some (Ok (with_mapping o vpn pfn mode, reply.Done))

    more : Own
    more = with_leaf (with_mapping o vpn pfn mode) vpn

    Said : Bool → Bool → Told → Spends → Type 0
    Said bad has Enough sp = ⊤
    Said bad has Short Nothing = (n ≡ 0) × (bad || has ≡ false)
    Said bad has Short Leaf = ⊥
    Said bad has Short (Copy p) = ⊥
    Said bad has (Free f) sp = ⊥

    said : (t : Told) (sp : Spends) → Says n bs o b c t sp → Said (is_bad_pfn o pfn mode) (has_leaf o vpn) t sp
    said Enough sp h = tt
    said Short Nothing h = h
    said Short Leaf h = h
    said Short (Copy p) h = h
    said (Free f) sp h = h

    out : Bool → Bool → Told → Outcome
    out bad has t = out_by m id t (locks m id t c) (option_map (settle o) (cond bad (Some (Err BadPfn)) (cond has maps (leaf_step more t))))

    go : (bad has : Bool) (t : Told) (sp : Spends) → has_leaf o vpn ≡ has → Said bad has t sp → Tells n c (out bad has) t
    go true has t sp e h = (refl, (tt, refl))
    go false true t sp e h = (refl, (tt, refl))
    go false false Enough sp e h = (refl, (tt, refl))
    go false false Short Nothing e h = (refl, (sym h.0, ap not e))
    go false false Short Leaf e h = absurd h
    go false false Short (Copy p) e h = absurd h
    go false false (Free f) sp e h = absurd h

  r_tells : (n addr len : ℕ) (t : Told) (to : Option Mapping) → Counted n o (command.R addr len) (out_by m id t (called m id t (λ r. o) (r_call m.shared id (addr % 4096) len to)) (option_map (settle o) (r_step o (addr % 4096) len to))).reply
  r_tells n addr len t None = (tt, refl)
  r_tells n addr len t (Some to) =
      let lock = called m id t (λ r. o) (r_call m.shared id (addr % 4096) len (Some to)) in
      elim (page_of o to.pfn) as (λ page. Counted n o (command.R addr len) (out_by m id t lock (option_map (settle o) (elim page as (λ x. LocalResult) [ None ↦ None | Some p ↦ Some (Ok (o, reply.Bytes (take len (drop (addr % 4096) p)))) ]))).reply) [
        | None ↦ (tt, refl)
        | Some p ↦ (tt, refl)
      ]

  clone_tells : (n : ℕ) (t : Told) → t ≡ Free n → Tells n command.Clone (λ t. called m id t (λ r. o) (clone_call m.shared id (guest_at id m.shared.tables) (clone_refusal m.shared.tables (guest_at id m.shared.tables) (life_at id m.shared.lives) (need (exposed_at id m.shared.pages) (length o.leaves)) t))) t
  clone_tells n t is = subst (Tells n command.Clone (out (life_at id m.shared.lives))) (sym is) (by (life_at id m.shared.lives)) where
    g : Guest
    g = guest_at id m.shared.tables

    k : ℕ
    k = need (exposed_at id m.shared.pages) (length o.leaves)

    out : Option Life → Told → Outcome
    out life t = called m id t (λ r. o) (clone_call m.shared id g (clone_refusal m.shared.tables g life k t))

    three : Bool → Bool → (Told → Option Refusal) → Told → Outcome
    three x y lacks t = called m id t (λ r. o) (clone_call m.shared id g (cond x (Some Limit) (cond y (Some Ids) (lacks t))))

    last : (b : Bool) → nat_lt n k ≡ b → Tells n command.Clone (three false false (lacks_frames k)) (Free n)
    last true e =
        let short : lacks_frames k (Free n) ≡ Some (Frames k n) = ap (λ v. cond v (Some (Frames k n)) None) e in
        let why : Option Refusal → Outcome = λ why. called m id (Free n) (λ r. o) (clone_call m.shared id g why) in
        let here : three false false (lacks_frames k) (Free n) ≡ why (Some (Frames k n)) = ap why short in
        (ap (λ v. three false false (lacks_frames k) (told_of v.reply)) here, subst (λ v. Counted n o command.Clone v.reply) (sym here) (refl, refl))
    last false e =
        let enough : lacks_frames k (Free n) ≡ None = ap (λ v. cond v (Some (Frames k n)) None) e in
        let why : Option Refusal → Outcome = λ why. called m id (Free n) (λ r. o) (clone_call m.shared id g why) in
        let here : three false false (lacks_frames k) (Free n) ≡ why None = ap why enough in
        (ap (λ v. three false false (lacks_frames k) (told_of v.reply)) here ∙ sym here, subst (λ v. Counted n o command.Clone v.reply) (sym here) (tt, refl))

    by : (life : Option Life) → Tells n command.Clone (out life) (Free n)
    by None = (refl, (tt, refl))
    by (Some life) = go (nat_le life.limit g.accepted) (nat_le 64 m.shared.tables.next) where
      go : (x y : Bool) → Tells n command.Clone (three x y (lacks_frames k)) (Free n)
      go true y = (refl, (tt, refl))
      go false true = (refl, (tt, refl))
      go false false = last (nat_lt n k) refl

  w_says : (n : ℕ) (addr : ℕ) (bytes : List ℕ) (bs : Books) (b : Book) (t : Told) (sp : Spends) → Says n bs o b (command.W addr bytes) t sp → WSays n bs b (mapping_at o addr) t
  w_says n addr bytes bs b Enough sp h = tt
  w_says n addr bytes bs b Short Nothing h = h
  w_says n addr bytes bs b Short Leaf h = absurd h
  w_says n addr bytes bs b Short (Copy pfn) h = absurd h
  w_says n addr bytes bs b (Free f) sp h = h

  jump_counts : (n line : ℕ) (taken : Bool) (lock : Outcome) (c : Command) → Counted n o c reply.Go → Counted n o c reply.On → (t : Told) → Counted n o c (out_by m id t lock (jump_step o line taken)).reply
  jump_counts n line true lock c h k t = h
  jump_counts n line false lock c h k t = k

  unmap_counts : (n vpn : ℕ) (to : Option Mapping) (lock : Outcome) (t : Told) → Counted n o (command.Unmap vpn) (out_by m id t lock (option_map (settle o) (unmap_step o vpn to))).reply
  unmap_counts n vpn None lock t = (tt, refl)
  unmap_counts n vpn (Some to) lock t = (tt, refl)

  free_tells : (n : ℕ) (t : Told) (s : Script) → t ≡ Free n → Tells n command.Free (λ t. does m id t s command.Free) t
  free_tells n t s is = subst (Tells n command.Free (λ t. does m id t s command.Free)) (sym is) (refl, (refl, refl))

  free_says : (n : ℕ) (bs : Books) (b : Book) (t : Told) (sp : Spends) → Says n bs o b command.Free t sp → t ≡ Free n
  free_says n bs b (Free f) Nothing h = ap Free h
  free_says n bs b Enough sp h = absurd h
  free_says n bs b Short sp h = absurd h
  free_says n bs b (Free f) Leaf h = absurd h
  free_says n bs b (Free f) (Copy pfn) h = absurd h

  -- a reply that counts no frames, of a command of handles
  abbrev Plain : Reply → Type 0
  Plain (reply.Refused why) = IsPlainWhy why
  Plain _ = ⊤

  plain_counts : (n : ℕ) (c : Command) (r : Reply) → IsOfHandles c → Plain r → Counted n o c r
  plain_counts n (command.Gmap granter r) (reply.Refused NoFrame) is p = absurd (not_short p)
  plain_counts n (command.Gmap granter r) (reply.Refused (Frames need free)) is p = absurd (not_free free p)
  plain_counts n (command.Gmap granter r) _ is p = (tt, refl)
  plain_counts n (command.Gunmap h) (reply.Refused NoFrame) is p = absurd (not_short p)
  plain_counts n (command.Gunmap h) (reply.Refused (Frames need free)) is p = absurd (not_free free p)
  plain_counts n (command.Gunmap h) _ is p = (tt, refl)
  plain_counts n (command.Hr h at len) (reply.Refused NoFrame) is p = absurd (not_short p)
  plain_counts n (command.Hr h at len) (reply.Refused (Frames need free)) is p = absurd (not_free free p)
  plain_counts n (command.Hr h at len) _ is p = (tt, refl)
  plain_counts n (command.Hw h at bytes) (reply.Refused NoFrame) is p = absurd (not_short p)
  plain_counts n (command.Hw h at bytes) (reply.Refused (Frames need free)) is p = absurd (not_free free p)
  plain_counts n (command.Hw h at bytes) _ is p = (tt, refl)
  plain_counts n _ r is p = absurd is

  handles_count : (n : ℕ) (c : Command) (t : Told) → IsOfHandles c → Counted n o c (called m id t (λ r. o) (trap m.shared id (guest_at id m.shared.tables) (lent o c) t c)).reply
  handles_count n c t is =
      handle_row m.shared id (guest_at id m.shared.tables) (λ x. Counted n o c (called m id t (λ r. o) x).reply) (λ why plain. plain_counts n c (reply.Refused why) is plain) (λ bytes. plain_counts n c (reply.Bytes bytes) is tt)
      (λ hs h. plain_counts n c (reply.Number h) is tt) (λ hs. plain_counts n c reply.Done is tt) (λ granter pfn at bytes there. plain_counts n c reply.Done is tt) (lent o c) t c is

  refused_counts : (n r : ℕ) (why : Refusal) → IsPlainWhy why → Counted n o (command.Ungrant r) (reply.Refused why)
  refused_counts n r NoFrame p = absurd (not_short p)
  refused_counts n r (Frames need free) p = absurd (not_free free p)
  refused_counts n r _ p = (tt, refl)

  ended_counts : (n : ℕ) (t : Told) (r : ℕ) → Counted n o (command.Ungrant r) (called m id t (λ q. o) (ungrant_call m.shared id (guest_at id m.shared.tables) r)).reply
  ended_counts n t r =
      ungrant_row m.shared id (guest_at id m.shared.tables) (λ x. Counted n o (command.Ungrant r) (called m id t (λ q. o) x).reply) (λ why plain. refused_counts n r why plain) (λ q e may. (tt, refl)) (λ q e may free. (tt, refl)) r

  pub line_tells : (s : Script) (n : ℕ) (bs : Books) (b : Book) (c : Command) (t : Told) (sp : Spends) → Says n bs o b c t sp → ((addr pfn : ℕ) → page_to_copy bs o b (mapping_at o addr) ≡ Some pfn → may_be_shared o (mapping_at o addr) ≡ true) → Tells n c (λ t. does m id t s c) t
  line_tells s n bs b (command.W addr bytes) t sp says may = w_tells n addr bytes bs b t (mapping_at o addr) refl (w_says n addr bytes bs b t sp says) (λ pfn e. may addr pfn e)
  line_tells s n bs b (command.R addr len) t sp says may = (refl, r_tells n addr len t (mapping_at o addr))
  line_tells s n bs b (command.Map vpn pfn mode) t sp says may = map_tells n vpn pfn mode bs b t sp says
  line_tells s n bs b (command.Unmap vpn) t sp says may = (refl, unmap_counts n vpn (fm.get o.vmap vpn) (locks m id t (command.Unmap vpn)) t)
  line_tells s n bs b (command.Jump label) t sp says may = (refl, (tt, refl))
  line_tells s n bs b (command.JChild label) t sp says may = (refl, jump_counts n (label_line_at s (program_run id m.shared.lives) label) o.came (locks m id t (command.JChild label)) (command.JChild label) (tt, refl) (tt, refl) t)
  line_tells s n bs b (command.JFail label) t sp says may = (refl, jump_counts n (label_line_at s (program_run id m.shared.lives) label) o.refused (locks m id t (command.JFail label)) (command.JFail label) (tt, refl) (tt, refl) t)
  line_tells s n bs b command.Exit t sp says may = (refl, (tt, refl))
  line_tells s n bs b command.Free t sp says may = free_tells n t s (free_says n bs b t sp says)
  line_tells s n bs b command.Clone t sp says may = clone_tells n t (clone_says n bs o b t sp says).1
  line_tells s n bs b (command.Ungrant r) t sp says may = (refl, ended_counts n t r)
  line_tells s n bs b (command.Gmap granter r) t sp says may = (refl, handles_count n (command.Gmap granter r) t tt)
  line_tells s n bs b (command.Gunmap h) t sp says may = (refl, handles_count n (command.Gunmap h) t tt)
  line_tells s n bs b (command.Hr h at len) t sp says may = (refl, handles_count n (command.Hr h at len) t tt)
  line_tells s n bs b (command.Hw h at bytes) t sp says may = (refl, handles_count n (command.Hw h at bytes) t tt)
