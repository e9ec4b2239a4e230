-- An entry of the machine leaves each grant one of an exposed page.
use Rattle.std.proofs.Common.{◌≡◌, ◌≢◌, ℕ, zero, suc, ◌+◌, ◌%◌, ◌<◌, Bool, true, false, cond, List, [], ◌∷◌, ◌++◌, length, get_or, set, Option, Some, None, Ok, Err, refl, sym, ap, subst, ◌∙◌, arith, eq-eqb}
use Rattle.std.specs.Prelude.{⊤, Result, option_map, is_some, ◌==◌, IfSome, nat_le}
use Rattle.std.specs.Option.{option_map_or}
use Rattle.std.specs.Ordering.{nat_cmp, eq_by_cmp}
use Rattle.std.specs.Cmp.{nat_cmp_total}
use Rattle.std.specs.FinMap as fm
use Rattle.std.proofs.lemmas.Bool.{false≢true, eqb-true, eqb-false, ne_eqb}
use Rattle.std.proofs.lemmas.List.{length-set, get_or-set_same, get_or-set_other}
use Rattle.neph_base.specs.declared.command.Command.{Command}
use Rattle.neph_base.specs.declared.command.Command.TheVariants as command
use Rattle.neph_base.specs.declared.command.Mode.{Mode}
use Rattle.neph_base.specs.declared.command.Mode.TheVariants.{Ro, Rw}
use Rattle.neph_base.specs.declared.reply.Entry.{Entry}
use Rattle.neph_base.specs.declared.reply.Entry.TheVariants.{Line, Commit, Daemon}
use Rattle.neph_base.specs.declared.reply.Reply.{Reply}
use Rattle.neph_base.specs.declared.reply.Reply.TheVariants as reply
use Rattle.neph_base.specs.declared.reply.Reply.TheVariants.{Refused}
use Rattle.neph_base.specs.declared.reply.Refusal.{Refusal}
use Rattle.neph_grant.specs.declared.entry.GrantEntry.{GrantEntry}
use Rattle.neph_grant.specs.declared.table.TheConstants.{GRANT_REFS}
use Rattle.neph_grant.specs.Handles.{Mappings}
use Rattle.neph_grant.specs.Table.{Grants, names_page}
use Rattle.neph_grant.specs.Uses.{is_of_page}
use Rattle.neph_grant.proofs.BelowLemmas.{some_below_at}
use Rattle.neph_model.specs.declared.script.Script.{Script}
use Rattle.neph_model.specs.declared.memory.Mapping.{Mapping}
use Rattle.neph_model.specs.declared.told.Told.{Told}
use Rattle.neph_model.specs.declared.told.Told.TheVariants.{Enough, Short, Free}
use Rattle.neph_model.specs.declared.own.Own.{Own}
use Rattle.neph_model.specs.declared.life.Life.{Life}
use Rattle.neph_model.specs.declared.life.Guest.{Guest}
use Rattle.neph_model.specs.declared.life.Cloned.{Cloned}
use Rattle.neph_model.specs.Memory.{page_with_bytes, page_with_identity, zero_page, child_network_page}
use Rattle.neph_model.specs.Machine.{Exposed, Shared, Machine, own_at, guest_at, exposed_at, life_at, no_own, no_guest, program_run}
use Rattle.neph_model.specs.Programs.{command_at}
use Rattle.neph_model.specs.Own as own
use Rattle.neph_model.specs.Own.{local_step, settle}
use Rattle.neph_model.specs.Lent.{Lent, PageBack, own_behind}
use Rattle.neph_model.specs.Trap as trap
use Rattle.neph_model.specs.Births.{child_own, child_exposed, child_guest, parent_own, with_changed}
use Rattle.neph_model.specs.Step.{Outcome, actor, own_step, lends, child_made, bear, call_effect, shared_line, shared_commit, shared_join, locked_step, step}
use Rattle.neph_model.specs.Laws.{NamesExposed, AreGranted, IsGranted, StaysGranted}
use Rattle.neph_laws.proofs.Local.{local_alone, locked_is}
use Rattle.neph_laws.proofs.Plainly.{moves_on}
use Rattle.neph_laws.proofs.HandleRows.{IsOfHandles, handle_row, put_as, again, written_there}
use Rattle.neph_laws.proofs.GrantRows.{MayEnd, ungrant_row, without_there}

-- these are exposed where those are, and no entry is new
abbrev Same : Exposed → Exposed → Type 0
Same ps qs = (pfn : ℕ) → is_some (fm.get qs pfn) ≡ is_some (fm.get ps pfn)

abbrev Fewer : Grants → Grants → Type 0
Fewer t u = (r : ℕ) (e : GrantEntry) → fm.get u r ≡ Some e → fm.get t r ≡ Some e

granted_as : (t u : Grants) (n m : ℕ) (ps qs : Exposed) → m ≡ n → Same ps qs → Fewer t u → AreGranted t n ps → AreGranted u m qs
granted_as t u n m ps qs size same fewer all r e at =
    let o = all r e (fewer r e at) in
    let inside = o.inside in
    record { low = o.low; exposed = same e.pfn ∙ o.exposed; inside = omega (arith, inside, size) }

-- what an accepted call leaves of the grants of its domain, and of the others'
record Kept (sh : Shared) (id n : ℕ) (a : trap.Accepted) : Type 0 where
  here : AreGranted (guest_at id sh.tables).grants n (exposed_at id sh.pages) → AreGranted (guest_at id a.tables).grants n (exposed_at id a.pages)
  pages : (k : ℕ) → k ≢ id → Same (exposed_at k sh.pages) (exposed_at k a.pages)
  grants : (k : ℕ) → k ≢ id → (guest_at k a.tables).grants ≡ (guest_at k sh.tables).grants

abbrev KeptBy : Shared → ℕ → ℕ → trap.CallResult → Type 0
KeptBy sh id n (Err why) = ⊤
KeptBy sh id n (Ok a) = Kept sh id n a

no_less : (t u : Grants) → u ≡ t → Fewer t u
no_less t u same r e at = ap (λ (v : Grants). fm.get v r) (sym same) ∙ at

-- a call that changes neither grants nor which pages are exposed
quiet : (sh : Shared) (id n : ℕ) (a : trap.Accepted) → ((k : ℕ) → Same (exposed_at k sh.pages) (exposed_at k a.pages)) → ((k : ℕ) → (guest_at k a.tables).grants ≡ (guest_at k sh.tables).grants) → Kept sh id n a
quiet sh id n a same grants = record {
  here = granted_as (guest_at id sh.tables).grants (guest_at id a.tables).grants n n (exposed_at id sh.pages) (exposed_at id a.pages) refl (same id) (no_less _ _ (grants id));
  pages = λ k far. same k;
  grants = λ k far. grants k;
}

-- each entry that is left when one is taken away was there
left_was : (t : Grants) (r : ℕ) → Fewer t (fm.remove t r)
left_was t r q g at = by (eq_by_cmp nat_cmp q r) (sym (fm.get-remove nat_cmp_total t r q) ∙ at) where
  by : (b : Bool) → cond b None (fm.get t q) ≡ Some g → fm.get t q ≡ Some g
  by true e = absurd cc
  by false e = e

module _ (sh : Shared) (id n : ℕ) (guests : id < length sh.tables.guests) (pages : id < length sh.pages) where
  abbrev g : Guest
  g = guest_at id sh.tables

  abbrev ps : Exposed
  ps = exposed_at id sh.pages

  wrote : (at : ℕ) (bytes : List ℕ) (pfn : ℕ) (mode : Mode) (b : Bool) → trap.is_exposed sh.pages id pfn ≡ b → KeptBy sh id n (trap.w_call sh id at bytes (Some (record { pfn = pfn; mode = mode })))
  wrote at bytes pfn mode false is = rw is tt
  wrote at bytes pfn Ro true is = rw is tt
  wrote at bytes pfn Rw true is = rw is (quiet sh id n _ (written_there sh.pages id pfn at bytes is) (λ k. refl))

  shown : (at : ℕ) (bytes : List ℕ) (met : Option Mapping) → KeptBy sh id n (trap.w_call sh id at bytes met)
  shown at bytes None = tt
  shown at bytes (Some to) = wrote at bytes to.pfn to.mode (trap.is_exposed sh.pages id to.pfn) refl

  -- what is kept of a domain with the same grants
  same_grants : (new : Guest) → new.grants ≡ g.grants → (k : ℕ) → (get_or (set sh.tables.guests id new) k no_guest).grants ≡ (guest_at k sh.tables).grants
  same_grants new is = put_as (λ (v : Guest). v.grants) sh.tables.guests id new no_guest is

  cloned : (why : Option Refusal) → KeptBy sh id n (trap.clone_call sh id g why)
  cloned (Some why) = tt
  cloned None = quiet sh id n _ (λ k pfn. refl) (same_grants (record g { begun = g.begun ++ sh.tables.next ∷ []; accepted = g.accepted + 1 }) refl)

  handled : (l : Lent) (told : Told) (c : Command) → IsOfHandles c → KeptBy sh id n (trap.trap sh id g l told c)
  handled =
      handle_row sh id g (KeptBy sh id n) (λ why plain. tt) (λ bytes. quiet sh id n _ (λ k pfn. refl) (λ k. refl)) (λ hs h. quiet sh id n _ (λ k pfn. refl) (same_grants (record g { handles = hs }) refl))
      (λ hs. quiet sh id n _ (λ k pfn. refl) (same_grants (record g { handles = hs }) refl)) (λ granter pfn at bytes there. quiet sh id n _ (written_there sh.pages granter pfn at bytes there) (λ k. refl))

  -- the grants of the domain, where these are put
  put_here : (gs : Grants) → (guest_at id (trap.with_grants sh id g gs).tables).grants ≡ gs
  put_here gs = ap (λ (v : Guest). v.grants) (get_or-set_same sh.tables.guests id (record g { grants = gs }) no_guest guests)

  put_else : (gs : Grants) (k : ℕ) → k ≢ id → (guest_at k (trap.with_grants sh id g gs).tables).grants ≡ (guest_at k sh.tables).grants
  put_else gs k far = ap (λ (v : Guest). v.grants) (get_or-set_other sh.tables.guests id k (record g { grants = gs }) no_guest far)

  ended : (r : ℕ) → KeptBy sh id n (trap.ungrant_call sh id g r)
  ended =
      ungrant_row sh id g (KeptBy sh id n) (λ why plain. tt)
      (λ q e may.
      let gs = fm.remove g.grants q in
      record {
        here = λ all. subst (λ (v : Grants). AreGranted v n ps) (sym (put_here gs)) (granted_as g.grants gs n n ps ps refl (λ pfn. refl) (left_was g.grants q) all);
        pages = λ k far pfn. refl;
        grants = put_else gs;
      })
      (λ q e may free.
      let gs = fm.remove g.grants q in
      let left = fm.remove ps e.pfn in
      record {
        here = λ all.
            subst (λ (v : Grants). AreGranted v n (exposed_at id (set sh.pages id left))) (sym (put_here gs))
            (subst (λ (v : Exposed). AreGranted gs n v) (sym (get_or-set_same sh.pages id left fm.empty pages))
            (λ r k at.
            let o = all r k (left_was g.grants q r k at) in
            let far : k.pfn ≢ e.pfn = λ same. false≢true (sym free ∙ some_below_at GRANT_REFS (λ i. is_of_page e.pfn (fm.get gs i)) r o.low (ap (is_of_page e.pfn) at ∙ eq-eqb k.pfn e.pfn same)) in
            record { low = o.low; exposed = without_there ps e.pfn k.pfn ∙ ap (λ b. cond b false (is_some (fm.get ps k.pfn))) (ne_eqb k.pfn e.pfn far) ∙ o.exposed; inside = o.inside }));
        pages = λ k far pfn. ap (λ (v : Exposed). is_some (fm.get v pfn)) (get_or-set_other sh.pages id k left fm.empty far);
        grants = put_else gs;
      })

  called : (l : Lent) (told : Told) (c : Command) → KeptBy sh id n (trap.trap sh id g l told c)
  called l told (command.W addr bytes) = shown (addr % 4096) bytes l.met
  called l told (command.R addr len) = quiet sh id n _ (λ k pfn. refl) (λ k. refl)
  called l told command.Free = quiet sh id n _ (λ k pfn. refl) (λ k. refl)
  called l told command.Clone = cloned (trap.clone_refusal sh.tables g (life_at id sh.lives) (trap.need (exposed_at id sh.pages) l.leaves) told)
  called l told (command.Ungrant r) = ended r
  called l told (command.Gmap granter r) = handled l told (command.Gmap granter r) tt
  called l told (command.Gunmap h) = handled l told (command.Gunmap h) tt
  called l told (command.Hr h at k) = handled l told (command.Hr h at k) tt
  called l told (command.Hw h at bytes) = handled l told (command.Hw h at bytes) tt
  called l told _ = tt

-- each grant of each domain, where these own halves, exposed pages and tables are
abbrev All : List Own → List Exposed → List Guest → Type 0
All owns pages guests = (k : ℕ) → AreGranted (get_or guests k no_guest).grants (length (own_at k owns).pages) (exposed_at k pages)

-- two ids are the same or not
ids : {A : Type 0} (k id : ℕ) → (k ≡ id → A) → (k ≢ id → A) → A
ids {A = A} k id same far = elim (k == id) as (λ b. k == id ≡ b → A) [ true ↦ λ e. same (eqb-true k id e) | false ↦ λ e. far (eqb-false k id e) ] refl

-- one domain's are put, and those of the others stay
put_all : (owns : List Own) (pages more : List Exposed) (guests later : List Guest) (id : ℕ) (x : Own) → id < length owns → All owns pages guests → AreGranted (get_or later id no_guest).grants (length x.pages) (exposed_at id more) → ((k : ℕ) → k ≢ id → Same (exposed_at k pages) (exposed_at k more))
    → ((k : ℕ) → k ≢ id → (get_or later k no_guest).grants ≡ (get_or guests k no_guest).grants) → All (set owns id x) more later
put_all owns pages more guests later id x within all one same grants k =
    ids k id
    (λ e. subst (λ i. AreGranted (get_or later i no_guest).grants (length (own_at i (set owns id x)).pages) (exposed_at i more)) (sym e)
    (subst (λ (h : Own). AreGranted (get_or later id no_guest).grants (length h.pages) (exposed_at id more)) (sym (get_or-set_same owns id x no_own within)) one))
    (λ far. subst (λ (h : Own). AreGranted (get_or later k no_guest).grants (length h.pages) (exposed_at k more)) (sym (get_or-set_other owns id k x no_own far))
    (granted_as (get_or guests k no_guest).grants (get_or later k no_guest).grants _ _ (exposed_at k pages) (exposed_at k more) refl (same k far) (no_less _ _ (grants k far)) (all k)))

-- a local row keeps the number of pages
abbrev Sized : Own → own.LocalResult → Type 0
Sized o None = ⊤
Sized o (Some (Err why)) = ⊤
Sized o (Some (Ok x)) = length x.0.pages ≡ length o.pages

same_did : {p q : Own × Reply} → Some p ≡ Some q → p ≡ q
same_did e = cc

settled_size : (o x : Own) (r : Reply) (did : own.LocalResult) → Sized o did → option_map (settle o) did ≡ Some (x, r) → length x.pages ≡ length o.pages
settled_size o x r None k e = absurd cc
settled_size o x r (Some (Err why)) k e = ap (λ (p : Own × Reply). length p.0.pages) (sym (same_did e))
settled_size o x r (Some (Ok d)) k e = ap (λ (p : Own × Reply). length p.0.pages) (sym (same_did e)) ∙ k

jumped_size : (o x : Own) (r : Reply) (line : ℕ) (b : Bool) → own.jump_step o line b ≡ Some (x, r) → length x.pages ≡ length o.pages
jumped_size o x r line true e = ap (λ (p : Own × Reply). length p.0.pages) (sym (same_did e))
jumped_size o x r line false e = ap (λ (p : Own × Reply). length p.0.pages) (sym (same_did e))

module _ (o : Own) where
  either : (b : Bool) (x y : own.LocalResult) → Sized o x → Sized o y → Sized o (cond b x y)
  either true x y f g = f
  either false x y f g = g

  wrote_size : (told : Told) (at : ℕ) (bytes : List ℕ) (pfn : ℕ) (mode : Mode) (page : Option (List ℕ)) → own.page_of o pfn ≡ page → Sized o (own.w_step o told at bytes (Some (record { pfn = pfn; mode = mode })))
  wrote_size told at bytes pfn mode None is = rw is tt
  wrote_size told at bytes pfn Ro (Some b) is = rw is tt
  wrote_size Short at bytes pfn Rw (Some b) is = rw is tt
  wrote_size Enough at bytes pfn Rw (Some b) is = rw is (length-set o.pages pfn _)
  wrote_size (Free f) at bytes pfn Rw (Some b) is = rw is (length-set o.pages pfn _)

  w_size : (told : Told) (at : ℕ) (bytes : List ℕ) (met : Option Mapping) → Sized o (own.w_step o told at bytes met)
  w_size told at bytes None = tt
  w_size told at bytes (Some x) = wrote_size told at bytes x.pfn x.mode (own.page_of o x.pfn) refl

  read_size : (at n pfn : ℕ) (mode : Mode) (page : Option (List ℕ)) → own.page_of o pfn ≡ page → Sized o (own.r_step o at n (Some (record { pfn = pfn; mode = mode })))
  read_size at n pfn mode None is = rw is tt
  read_size at n pfn mode (Some b) is = rw is refl

  r_size : (at n : ℕ) (met : Option Mapping) → Sized o (own.r_step o at n met)
  r_size at n None = tt
  r_size at n (Some x) = read_size at n x.pfn x.mode (own.page_of o x.pfn) refl

  leaf_size : (vpn pfn : ℕ) (mode : Mode) (told : Told) → Sized o (own.leaf_step (own.with_leaf (own.with_mapping o vpn pfn mode) vpn) told)
  leaf_size vpn pfn mode Enough = refl
  leaf_size vpn pfn mode Short = tt
  leaf_size vpn pfn mode (Free f) = refl

  unmap_size : (vpn : ℕ) (met : Option Mapping) → Sized o (own.unmap_step o vpn met)
  unmap_size vpn None = tt
  unmap_size vpn (Some x) = refl

  local_size : (s : Script) (p : ℕ) (told : Told) (c : Command) (x : Own) (r : Reply) → local_step s p o told c ≡ Some (x, r) → length x.pages ≡ length o.pages
  local_size s p told (command.W addr bytes) x r e = settled_size o x r _ (w_size told (addr % 4096) bytes (own.mapping_at o addr)) e
  local_size s p told (command.R addr len) x r e = settled_size o x r _ (r_size (addr % 4096) len (own.mapping_at o addr)) e
  local_size s p told (command.Map vpn pfn mode) x r e =
      settled_size o x r (own.map_step o told vpn pfn mode) (either (own.is_bad_pfn o pfn mode) _ _ tt (either (own.has_leaf o vpn) (Some (Ok (own.with_mapping o vpn pfn mode, reply.Done))) _ refl (leaf_size vpn pfn mode told))) e
  local_size s p told (command.Unmap vpn) x r e = settled_size o x r _ (unmap_size vpn (fm.get o.vmap vpn)) e
  local_size s p told (command.Jump label) x r e = jumped_size o x r _ true e
  local_size s p told (command.JChild label) x r e = jumped_size o x r _ o.came e
  local_size s p told (command.JFail label) x r e = jumped_size o x r _ o.refused e
  local_size s p told _ x r e = absurd cc

own_size : (s : Script) (p : ℕ) (o : Own) (e : Entry) (told : Told) (did : Own × Reply) → own_step s p o e told ≡ Some did → length did.0.pages ≡ length o.pages
own_size s p o (Line dom line) told did is = local_size o s p told (command_at s p line) did.0 did.1 is
own_size s p o (Commit dom line) told did is = absurd cc
own_size s p o Daemon told did is = absurd cc

-- exposed pages with one changed are the same pages
changed_there : (ps : Exposed) (p pfn : ℕ) (f : List ℕ → List ℕ) → is_some (fm.get (with_changed ps p f) pfn) ≡ is_some (fm.get ps pfn)
changed_there ps p pfn f = at (fm.get ps p) refl where
  at : (o : Option (List ℕ)) → fm.get ps p ≡ o → is_some (fm.get (option_map_or (λ page. fm.insert ps p (f page)) o ps) pfn) ≡ is_some (fm.get ps pfn)
  at None is = refl
  at (Some x) is = again ps p pfn (f x) (ap is_some is)

child_there : (ps : Exposed) → Same ps (child_exposed ps)
child_there ps pfn =
    let one = with_changed ps 1 (λ _. zero_page) in
    let two = with_changed one 2 child_network_page in
    changed_there two 3 pfn (λ _. zero_page) ∙ changed_there one 2 pfn child_network_page ∙ changed_there ps 1 pfn (λ _. zero_page)

none_granted : (n : ℕ) (ps : Exposed) (gs : Grants) → gs ≡ fm.empty → AreGranted gs n ps
none_granted n ps gs is r e at = absurd (none (sym (ap (λ (v : Grants). fm.get v r) is ∙ fm.get-empty nat_cmp r) ∙ at)) where
  none : None ≡ Some e → ⊥
  none k = cc

module _ (sh : Shared) (owns : List Own) (id : ℕ) (pages : length owns ≡ length sh.pages) (guests : length owns ≡ length sh.tables.guests) (within : id < length owns) (all : All owns sh.pages sh.tables.guests) where
  abbrev o : Own
  o = own_at id owns

  ends_all : All (set owns id no_own) (set sh.pages id fm.empty) (set sh.tables.guests id no_guest)
  ends_all =
      let gone : (get_or (set sh.tables.guests id no_guest) id no_guest).grants ≡ fm.empty = ap (λ (v : Guest). v.grants) (get_or-set_same sh.tables.guests id no_guest no_guest (omega (arith, within, guests))) in
      put_all owns sh.pages (set sh.pages id fm.empty) sh.tables.guests (set sh.tables.guests id no_guest) id no_own within all (none_granted 0 _ _ gone)
      (λ k far pfn. ap (λ (v : Exposed). is_some (fm.get v pfn)) (get_or-set_other sh.pages id k fm.empty fm.empty far)) (λ k far. ap (λ (v : Guest). v.grants) (get_or-set_other sh.tables.guests id k no_guest no_guest far))

  called_all : (c : Command) (r : trap.CallResult) → c ≢ command.Exit → KeptBy sh id (length o.pages) r
      → All (set owns id (own_behind o c (call_effect sh r).reply (call_effect sh r).back)) (call_effect sh r).shared.pages (call_effect sh r).shared.tables.guests
  called_all c (Ok a) far k =
      let size = (moves_on o c a.reply a.back far).0 in
      put_all owns sh.pages a.pages sh.tables.guests a.tables.guests id (own_behind o c a.reply a.back) within all
      (granted_as (guest_at id a.tables).grants (guest_at id a.tables).grants (length o.pages) _ (exposed_at id a.pages) (exposed_at id a.pages) size (λ pfn. refl) (λ r e at. at) (k.here (all id))) k.pages k.grants
  called_all c (Err why) far k =
      let size = (moves_on o c (Refused why) None far).0 in
      put_all owns sh.pages sh.pages sh.tables.guests sh.tables.guests id (own_behind o c (Refused why) None) within all
      (granted_as (guest_at id sh.tables).grants (guest_at id sh.tables).grants (length o.pages) _ (exposed_at id sh.pages) (exposed_at id sh.pages) size (λ pfn. refl) (λ r e at. at) (all id)) (λ k far pfn. refl) (λ k far. refl)

  line_all : (l : Lent) (told : Told) (c : Command) → All (set owns id (own_behind o c (shared_line sh id l told c).reply (shared_line sh id l told c).back)) (shared_line sh id l told c).shared.pages (shared_line sh id l told c).shared.tables.guests
  line_all l told command.Exit = ends_all
  line_all l told c = called_all c (trap.trap sh id (guest_at id sh.tables) l told c) (λ e. absurd cc) (called sh id (length o.pages) (omega (arith, within, guests)) (omega (arith, within, pages)) l told c)

  commit_all : (line : ℕ) (begun : List ℕ) → IfSome (child_made (Commit id line) (shared_commit sh id begun).reply) (λ child. (child < length owns) × (child ≢ id))
      → All (set (bear owns id o (child_made (Commit id line) (shared_commit sh id begun).reply)) id (parent_own o)) (shared_commit sh id begun).shared.pages (shared_commit sh id begun).shared.tables.guests
  commit_all line [] born = put_all owns sh.pages sh.pages sh.tables.guests sh.tables.guests id (parent_own o) within all (all id) (λ k far pfn. refl) (λ k far. refl)
  commit_all line (child ∷ left) born =
      let g = guest_at id sh.tables in
      let kid = child_own child id o in
      let ps = child_exposed (exposed_at id sh.pages) in
      let more = set sh.pages child ps in
      let mine : Guest = record g { begun = left } in
      let first = set sh.tables.guests id mine in
      let later = set first child (child_guest g) in
      let lengths = length-set sh.tables.guests id mine in
      let kept : (k : ℕ) → (get_or first k no_guest).grants ≡ (get_or sh.tables.guests k no_guest).grants = put_as (λ (v : Guest). v.grants) sh.tables.guests id mine no_guest refl in
      let here : (get_or later child no_guest).grants ≡ g.grants = ap (λ (v : Guest). v.grants) (get_or-set_same first child (child_guest g) no_guest (omega (arith, born.0, guests, lengths))) in
      let there : exposed_at child more ≡ ps = get_or-set_same sh.pages child ps fm.empty (omega (arith, born.0, pages)) in
      let size : length kid.pages ≡ length o.pages = length-set o.pages 0 _ in
      let of_child : AreGranted (get_or later child no_guest).grants (length kid.pages) (exposed_at child more) =
      subst (λ (v : Exposed). AreGranted (get_or later child no_guest).grants (length kid.pages) v) (sym there)
      (granted_as g.grants (get_or later child no_guest).grants (length o.pages) (length kid.pages) (exposed_at id sh.pages) ps size (child_there (exposed_at id sh.pages)) (no_less _ _ here) (all id)) in
      let one : All (set owns child kid) more later =
      put_all owns sh.pages more sh.tables.guests later child kid born.0 all of_child (λ k far pfn. ap (λ (v : Exposed). is_some (fm.get v pfn)) (get_or-set_other sh.pages child k ps fm.empty far))
      (λ k far. ap (λ (v : Guest). v.grants) (get_or-set_other first child k (child_guest g) no_guest far) ∙ kept k) in
      let back : id ≢ child = λ q. born.1 (sym q) in
      let stays : own_at id (set owns child kid) ≡ o = get_or-set_other owns child id kid no_own back in
      put_all (set owns child kid) more more later later id (parent_own o) (omega (arith, within, length-set owns child kid)) one
      (subst (λ (h : Own). AreGranted (get_or later id no_guest).grants (length h.pages) (exposed_at id more)) stays (one id)) (λ k far pfn. refl) (λ k far. refl)

  join_all : (w : List Cloned) → All (set owns id o) (shared_join sh w).shared.pages (shared_join sh w).shared.tables.guests
  join_all [] = put_all owns sh.pages sh.pages sh.tables.guests sh.tables.guests id o within all (all id) (λ k far pfn. refl) (λ k far. refl)
  join_all (x ∷ w) = put_all owns sh.pages sh.pages sh.tables.guests sh.tables.guests id o within all (all id) (λ k far pfn. refl) (λ k far. refl)

locked_all : (s : Script) (m : Machine) (e : Entry) (told : Told) → length m.own ≡ length m.shared.pages → length m.own ≡ length m.shared.tables.guests → actor e < length m.own → IsGranted m
    → IfSome (child_made e (locked_step s m e told).reply) (λ child. (child < length m.own) × (child ≢ actor e)) → IsGranted (locked_step s m e told).machine
locked_all s m (Line dom line) told pages guests within all born = line_all m.shared m.own dom pages guests within all (lends s (program_run dom m.shared.lives) (own_at dom m.own) (Line dom line)) told (command_at s (program_run dom m.shared.lives) line)
locked_all s m (Commit dom line) told pages guests within all born = commit_all m.shared m.own dom pages guests within all line (guest_at dom m.shared.tables).begun born
locked_all s m Daemon told pages guests within all born = join_all m.shared m.own 0 pages guests within all m.shared.tables.waiting

pub grants_stay : StaysGranted
grants_stay s m e told pages guests within births granted =
    let p = program_run (actor e) m.shared.lives in
    let o = own_at (actor e) m.own in
    elim (own_step s p o e told) as (λ g. own_step s p o e told ≡ g → IsGranted (step s m e told).machine) [
      | Some did ↦ λ is.
          let all = put_all m.own m.shared.pages m.shared.pages m.shared.tables.guests m.shared.tables.guests (actor e) did.0 within granted
          (granted_as (guest_at (actor e) m.shared.tables).grants (guest_at (actor e) m.shared.tables).grants (length o.pages) (length did.0.pages) (exposed_at (actor e) m.shared.pages) (exposed_at (actor e) m.shared.pages) (own_size s p o e told did is) (λ pfn. refl) (λ r k at. at) (granted (actor e)))
          (λ k far pfn. refl) (λ k far. refl) in
          subst (λ (w : Outcome). IsGranted w.machine) (sym (local_alone s m e told did is)) all
      | None ↦ λ is.
          let goes = locked_is s m e told is in
          let born = subst (λ (w : Outcome). IfSome (child_made e w.reply) (λ child. (child < length m.own) × (child ≢ actor e))) goes births in
          subst (λ (w : Outcome). IsGranted w.machine) (sym goes) (locked_all s m e told pages guests within granted born)
    ] refl
