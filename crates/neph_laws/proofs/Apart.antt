-- Each page stays in one half alone.
use Rattle.std.proofs.Common.{◌≡◌, ◌≢◌, ℕ, zero, suc, ◌%◌, ◌<◌, Bool, true, false, not, cond, List, [], ◌∷◌, length, get_or, set, Option, Some, None, Ok, Err, refl, sym, ap, subst, ◌∙◌, arith}
use Rattle.std.specs.Prelude.{⊤, option_map, is_some, ◌==◌, IfSome}
use Rattle.std.specs.Option.{option_map_or}
use Rattle.std.specs.Ordering.{nat_cmp, eq_by_cmp}
use Rattle.std.specs.Cmp.{nat_cmp_total, unsigned_tied}
use Rattle.std.specs.FinMap as fm
use Rattle.std.proofs.lemmas.Bool.{eqb-true, eqb-false}
use Rattle.std.proofs.lemmas.List.{length-set, get_or-set_same, get_or-set_other}
use Rattle.neph_base.specs.declared.command.Mode.{Mode}
use Rattle.neph_base.specs.declared.command.Mode.TheVariants.{Ro, Rw}
use Rattle.neph_model.specs.declared.memory.Mapping.{Mapping}
use Rattle.neph_model.specs.Memory.{page_with_bytes, zero_page, child_network_page}
use Rattle.neph_model.specs.declared.told.Told.{Told}
use Rattle.neph_model.specs.declared.told.Told.TheVariants.{Enough, Short, Free}
use Rattle.neph_base.specs.declared.reply.Entry.{Entry}
use Rattle.neph_base.specs.declared.reply.Entry.TheVariants.{Line, Commit, Daemon}
use Rattle.neph_base.specs.declared.command.Command.{Command}
use Rattle.neph_base.specs.declared.command.Command.TheVariants as command
use Rattle.neph_base.specs.declared.reply.Reply.{Reply}
use Rattle.neph_base.specs.declared.reply.Reply.TheVariants as reply
use Rattle.neph_base.specs.declared.reply.Reply.TheVariants.{Refused}
use Rattle.neph_base.specs.declared.reply.Refusal.{Refusal}
use Rattle.neph_model.specs.declared.script.Script.{Script}
use Rattle.neph_model.specs.declared.own.Own.{Own}
use Rattle.neph_model.specs.declared.life.Cloned.{Cloned}
use Rattle.neph_model.specs.declared.life.Guest.{Guest}
use Rattle.neph_model.specs.Machine.{Shared, Machine, Exposed, no_own, own_at, exposed_at, life_at, guest_at, program_run}
use Rattle.neph_model.specs.Programs.{command_at}
use Rattle.neph_model.specs.Lent.{Lent, own_behind}
use Rattle.neph_model.specs.Trap as trap
use Rattle.neph_model.specs.Trap.{Accepted, answers}
use Rattle.neph_model.specs.Own as own
use Rattle.neph_model.specs.Own.{settle, local_step}
use Rattle.neph_model.specs.Births.{child_own, child_exposed, parent_own, with_changed}
use Rattle.neph_model.specs.Step.{Outcome, actor, own_step, lends, child_made, bear, call_effect, shared_line, shared_commit, shared_join, locked_step, step}
use Rattle.neph_model.specs.Laws.{IsApart, StaysApart}
use Rattle.neph_laws.proofs.Local.{local_alone, locked_is}
use Rattle.neph_laws.proofs.HandleRows.{IsOfHandles, handle_row, pages_behind, again, written_there}
use Rattle.neph_laws.proofs.GrantRows.{ungrant_row, without_there}

-- the pages of one domain are each in one half
abbrev One : List (Option (List ℕ)) → Exposed → Type 0
One own ps = (pfn : ℕ) → pfn < length own → is_some (get_or own pfn None) ≡ not (is_some (fm.get ps pfn))

-- a page is put in the place of one that is its own as well, or isn't either
put_same : (pages : List (Option (List ℕ))) (p pfn : ℕ) (y : Option (List ℕ)) → is_some y ≡ is_some (get_or pages p None) → is_some (get_or (set pages p y) pfn None) ≡ is_some (get_or pages pfn None)
put_same [] p pfn y is = refl
put_same (x ∷ xs) zero zero y is = is
put_same (x ∷ xs) zero (suc pfn) y is = refl
put_same (x ∷ xs) (suc p) zero y is = refl
put_same (x ∷ xs) (suc p) (suc pfn) y is = put_same xs p pfn y is

same_one : (own : List (Option (List ℕ))) (p : ℕ) (y : Option (List ℕ)) (ps : Exposed) → is_some y ≡ is_some (get_or own p None) → One own ps → One (set own p y) ps
same_one own p y ps is one pfn lt = put_same own p pfn y is ∙ one pfn (omega (arith, lt, length-set own p y))

put_page : (pages : List (Option (List ℕ))) (p pfn : ℕ) (y : Option (List ℕ)) → pfn < length (set pages p y) → is_some (get_or (set pages p y) pfn None) ≡ cond (pfn == p) (is_some y) (is_some (get_or pages pfn None))
put_page pages p pfn y lt =
    elim (pfn == p) as (λ b. pfn == p ≡ b → is_some (get_or (set pages p y) pfn None) ≡ cond b (is_some y) (is_some (get_or pages pfn None))) [
      | true ↦ λ e. let same = eqb-true pfn p e in rw same (ap is_some (get_or-set_same pages p y None (omega (arith, lt, length-set pages p y, same))))
      | false ↦ λ e. ap is_some (get_or-set_other pages p pfn y None (eqb-false pfn p e))
    ] refl

rewritten_there : (ps : Exposed) (p pfn : ℕ) (f : List ℕ → List ℕ) → is_some (fm.get (with_changed ps p f) pfn) ≡ is_some (fm.get ps pfn)
rewritten_there ps p pfn f = at (fm.get ps p) refl where
  at : (o : Option (List ℕ)) → fm.get ps p ≡ o → is_some (fm.get (option_map_or (λ page. fm.insert ps p (f page)) o ps) pfn) ≡ is_some (fm.get ps pfn)
  at None is = refl
  at (Some x) is = again ps p pfn (f x) (ap is_some is)

mapped_there : (f : List ℕ → List ℕ) (o : Option (List ℕ)) → is_some (option_map f o) ≡ is_some o
mapped_there f None = refl
mapped_there f (Some x) = refl

-- a child has its own pages and its exposed ones where its parent has them
child_one : (child id : ℕ) (o : Own) (ps : Exposed) → One o.pages ps → One (child_own child id o).pages (child_exposed ps)
child_one child id o ps one pfn lt =
    let first = with_changed ps 1 (λ _. zero_page) in
    let second = with_changed first 2 child_network_page in
    let kept : is_some (fm.get (child_exposed ps) pfn) ≡ is_some (fm.get ps pfn) = rewritten_there second 3 pfn (λ _. zero_page) ∙ rewritten_there first 2 pfn child_network_page ∙ rewritten_there ps 1 pfn (λ _. zero_page) in
    same_one o.pages 0 (option_map _ (own.page_of o 0)) ps (mapped_there _ (own.page_of o 0)) one pfn lt ∙ ap not (sym kept)

-- these are exposed where those are
abbrev Same : Exposed → Exposed → Type 0
Same ps qs = (pfn : ℕ) → is_some (fm.get qs pfn) ≡ is_some (fm.get ps pfn)

one_as : (own : List (Option (List ℕ))) (ps qs : Exposed) → Same ps qs → One own ps → One own qs
one_as own ps qs same one pfn lt = one pfn lt ∙ ap not (sym (same pfn))

-- a call keeps the pages of its domain in one half each, and which pages of the others are exposed
abbrev Kept : Shared → ℕ → Own → Command → trap.CallResult → Type 0
Kept sh id o c (Err why) = One (own_behind o c (Refused why) None).pages (exposed_at id sh.pages)
Kept sh id o c (Ok t) = One (own_behind o c t.reply t.back).pages (exposed_at id t.pages) × ((k : ℕ) → k ≢ id → Same (exposed_at k sh.pages) (exposed_at k t.pages)) × (length t.pages ≡ length sh.pages)

either : (sh : Shared) (id : ℕ) (o : Own) (c : Command) (b : Bool) (x y : trap.CallResult) → (b ≡ true → Kept sh id o c x) → (b ≡ false → Kept sh id o c y) → Kept sh id o c (cond b x y)
either sh id o c true x y f g = f refl
either sh id o c false x y f g = g refl

shown_pages : (o : Own) (shown : Option Mapping) → (option_map_or (λ (x : Mapping). own.with_alone o x.pfn) shown o).pages ≡ o.pages
shown_pages o None = refl
shown_pages o (Some x) = refl

module _ (sh : Shared) (id : ℕ) (g : Guest) (o : Own) (within : id < length sh.pages) (one : One o.pages (exposed_at id sh.pages)) where
  others : (ps : Exposed) (k : ℕ) → k ≢ id → exposed_at k (set sh.pages id ps) ≡ exposed_at k sh.pages
  others ps k far = get_or-set_other sh.pages id k ps fm.empty far

  mine : (ps : Exposed) → exposed_at id (set sh.pages id ps) ≡ ps
  mine ps = get_or-set_same sh.pages id ps fm.empty within

  kept_wrote : (addr : ℕ) (all : List ℕ) (at : ℕ) (bytes : List ℕ) (pfn : ℕ) (mode : Mode) → Kept sh id o (command.W addr all) (trap.w_call sh id at bytes (Some (record { pfn = pfn; mode = mode })))
  kept_wrote addr all at bytes pfn Ro = either sh id o (command.W addr all) (trap.is_exposed sh.pages id pfn) _ _ (λ has. one) (λ e. one)
  kept_wrote addr all at bytes pfn Rw =
      let x = page_with_bytes (trap.exposed_bytes sh.pages id pfn) at bytes in
      let ps = fm.insert (exposed_at id sh.pages) pfn x in
      either sh id o (command.W addr all) (trap.is_exposed sh.pages id pfn) _ _
      (λ has. (subst (One (own_behind o (command.W addr all) reply.Done None).pages) (sym (mine ps)) (subst (λ l. One l ps) (sym (shown_pages o (own.mapping_at o addr))) (λ q lt. one q lt ∙ ap not (sym (again (exposed_at id sh.pages) pfn q x has)))), λ k far q. ap (λ (v : Exposed). is_some (fm.get v q)) (others ps k far), length-set sh.pages id ps))
      (λ e. one)

  kept_shown : (addr : ℕ) (all : List ℕ) (at : ℕ) (bytes : List ℕ) (shown : Option Mapping) → Kept sh id o (command.W addr all) (trap.w_call sh id at bytes shown)
  kept_shown addr all at bytes None = one
  kept_shown addr all at bytes (Some x) = kept_wrote addr all at bytes x.pfn x.mode

  kept_cloned : (why : Option Refusal) → Kept sh id o command.Clone (trap.clone_call sh id g why)
  kept_cloned None = (one, λ k far pfn. refl, refl)
  kept_cloned (Some why) = one

  kept_handles : (l : Lent) (told : Told) (c : Command) → IsOfHandles c → Kept sh id o c (trap.trap sh id g l told c)
  kept_handles l told c is =
      let mine : (answer : Reply) (ps : Exposed) → Same (exposed_at id sh.pages) ps → One (own_behind o c answer None).pages ps = λ answer ps same.
      subst (λ own. One own ps) (sym (pages_behind o c answer is)) (one_as o.pages (exposed_at id sh.pages) ps same one) in
      handle_row sh id g (Kept sh id o c) (λ why plain. mine (Refused why) (exposed_at id sh.pages) (λ pfn. refl))
      (λ bytes. (mine (reply.Bytes bytes) (exposed_at id sh.pages) (λ pfn. refl), λ k far pfn. refl, refl))
      (λ m h. (mine (reply.Number h) (exposed_at id sh.pages) (λ pfn. refl), λ k far pfn. refl, refl))
      (λ m. (mine reply.Done (exposed_at id sh.pages) (λ pfn. refl), λ k far pfn. refl, refl))
      (λ granter pfn at bytes there.
      let same = written_there sh.pages granter pfn at bytes there in
      (mine reply.Done _ (same id), λ k far. same k, length-set sh.pages granter _)) l told c is

  -- a page that is given back is the domain's own, and isn't exposed
  back_one : (pfn : ℕ) (bytes : List ℕ) → One (set o.pages pfn (Some bytes)) (fm.remove (exposed_at id sh.pages) pfn)
  back_one pfn bytes q lt =
      put_page o.pages pfn q (Some bytes) lt ∙ turned (q == pfn) (one q (omega (arith, lt, length-set o.pages pfn (Some bytes)))) ∙ ap not (sym (without_there (exposed_at id sh.pages) pfn q))
    where
      turned : (b : Bool) → is_some (get_or o.pages q None) ≡ not (is_some (fm.get (exposed_at id sh.pages) q)) → cond b true (is_some (get_or o.pages q None)) ≡ not (cond b false (is_some (fm.get (exposed_at id sh.pages) q)))
      turned true at = refl
      turned false at = at

  kept_ended : (r : ℕ) → Kept sh id o (command.Ungrant r) (trap.ungrant_call sh id g r)
  kept_ended r =
      ungrant_row sh id g (Kept sh id o (command.Ungrant r)) (λ why plain. one) (λ q e may. (one, λ k far pfn. refl, refl))
      (λ q e may free.
      let left = fm.remove (exposed_at id sh.pages) e.pfn in
      let bytes = trap.exposed_bytes sh.pages id e.pfn in
      (subst (One (set o.pages e.pfn (Some bytes))) (sym (mine left)) (back_one e.pfn bytes), λ k far q. ap (λ (v : Exposed). is_some (fm.get v q)) (others left k far), length-set sh.pages id left)) r

  kept : (l : Lent) (told : Told) (c : Command) → Kept sh id o c (trap.trap sh id g l told c)
  kept l told (command.W addr bytes) = kept_shown addr bytes (addr % 4096) bytes l.met
  kept l told (command.R addr len) = (one, λ k far pfn. refl, refl)
  kept l told command.Free = (one, λ k far pfn. refl, refl)
  kept l told command.Clone = kept_cloned (trap.clone_refusal sh.tables g (life_at id sh.lives) (trap.need (exposed_at id sh.pages) l.leaves) told)
  kept l told (command.Ungrant r) = kept_ended r
  kept l told (command.Gmap granter r) = kept_handles l told (command.Gmap granter r) tt
  kept l told (command.Gunmap h) = kept_handles l told (command.Gunmap h) tt
  kept l told (command.Hr h at n) = kept_handles l told (command.Hr h at n) tt
  kept l told (command.Hw h at bytes) = kept_handles l told (command.Hw h at bytes) tt
  kept l told command.Exit = λ pfn lt. absurd (omega (arith, lt))
  kept l told _ = one

-- a local row keeps the pages of its domain in one half each
abbrev OwnKept : Exposed → own.LocalResult → Type 0
OwnKept ps None = ⊤
OwnKept ps (Some (Err why)) = ⊤
OwnKept ps (Some (Ok x)) = One x.0.pages ps

some_is : {p q : Own × Reply} → Some p ≡ Some q → p ≡ q
some_is e = cc

settled_one : (o x : Own) (r : Reply) (ps : Exposed) (did : own.LocalResult) → One o.pages ps → OwnKept ps did → option_map (settle o) did ≡ Some (x, r) → One x.pages ps
settled_one o x r ps None one k e = absurd cc
settled_one o x r ps (Some (Err why)) one k e = subst (λ (p : Own × Reply). One p.0.pages ps) (some_is e) one
settled_one o x r ps (Some (Ok d)) one k e = subst (λ (p : Own × Reply). One p.0.pages ps) (some_is e) k

jumped_one : (o x : Own) (r : Reply) (ps : Exposed) (line : ℕ) (b : Bool) → One o.pages ps → own.jump_step o line b ≡ Some (x, r) → One x.pages ps
jumped_one o x r ps line true one e = subst (λ (p : Own × Reply). One p.0.pages ps) (some_is e) one
jumped_one o x r ps line false one e = subst (λ (p : Own × Reply). One p.0.pages ps) (some_is e) one

module _ (o : Own) (ps : Exposed) (one : One o.pages ps) where
  own_either : (b : Bool) (x y : own.LocalResult) → OwnKept ps x → OwnKept ps y → OwnKept ps (cond b x y)
  own_either true x y f g = f
  own_either false x y f g = g

  own_wrote : (told : Told) (at : ℕ) (bytes : List ℕ) (pfn : ℕ) (mode : Mode) (page : Option (List ℕ)) → own.page_of o pfn ≡ page → OwnKept ps (own.w_step o told at bytes (Some (record { pfn = pfn; mode = mode })))
  own_wrote told at bytes pfn mode None is = rw is tt
  own_wrote told at bytes pfn Ro (Some b) is = rw is tt
  own_wrote Short at bytes pfn Rw (Some b) is = rw is tt
  own_wrote Enough at bytes pfn Rw (Some b) is = rw is (same_one o.pages pfn (Some (page_with_bytes b at bytes)) ps (ap is_some (sym is)) one)
  own_wrote (Free f) at bytes pfn Rw (Some b) is = rw is (same_one o.pages pfn (Some (page_with_bytes b at bytes)) ps (ap is_some (sym is)) one)

  own_shown : (told : Told) (at : ℕ) (bytes : List ℕ) (shown : Option Mapping) → OwnKept ps (own.w_step o told at bytes shown)
  own_shown told at bytes None = tt
  own_shown told at bytes (Some x) = own_wrote told at bytes x.pfn x.mode (own.page_of o x.pfn) refl

  own_read : (at n pfn : ℕ) (mode : Mode) (page : Option (List ℕ)) → own.page_of o pfn ≡ page → OwnKept ps (own.r_step o at n (Some (record { pfn = pfn; mode = mode })))
  own_read at n pfn mode None is = rw is tt
  own_read at n pfn mode (Some b) is = rw is one

  own_reads : (at n : ℕ) (shown : Option Mapping) → OwnKept ps (own.r_step o at n shown)
  own_reads at n None = tt
  own_reads at n (Some x) = own_read at n x.pfn x.mode (own.page_of o x.pfn) refl

  own_leafless : (vpn pfn : ℕ) (mode : Mode) (told : Told) → OwnKept ps (own.leaf_step (own.with_leaf (own.with_mapping o vpn pfn mode) vpn) told)
  own_leafless vpn pfn mode Enough = one
  own_leafless vpn pfn mode Short = tt
  own_leafless vpn pfn mode (Free f) = one

  own_unmapped : (vpn : ℕ) (shown : Option Mapping) → OwnKept ps (own.unmap_step o vpn shown)
  own_unmapped vpn None = tt
  own_unmapped vpn (Some x) = one

  local_one : (s : Script) (p : ℕ) (told : Told) (c : Command) (x : Own) (r : Reply) → local_step s p o told c ≡ Some (x, r) → One x.pages ps
  local_one s p told (command.W addr bytes) x r e = settled_one o x r ps (own.w_step o told (addr % 4096) bytes (own.mapping_at o addr)) one (own_shown told (addr % 4096) bytes (own.mapping_at o addr)) e
  local_one s p told (command.R addr len) x r e = settled_one o x r ps (own.r_step o (addr % 4096) len (own.mapping_at o addr)) one (own_reads (addr % 4096) len (own.mapping_at o addr)) e
  local_one s p told (command.Map vpn pfn mode) x r e =
      let new = own.with_mapping o vpn pfn mode in
      settled_one o x r ps (own.map_step o told vpn pfn mode) one (own_either (own.is_bad_pfn o pfn mode) _ _ tt (own_either (own.has_leaf o vpn) (Some (Ok (new, reply.Done))) _ one (own_leafless vpn pfn mode told))) e
  local_one s p told (command.Unmap vpn) x r e = settled_one o x r ps (own.unmap_step o vpn (fm.get o.vmap vpn)) one (own_unmapped vpn (fm.get o.vmap vpn)) e
  local_one s p told (command.Jump label) x r e = jumped_one o x r ps _ true one e
  local_one s p told (command.JChild label) x r e = jumped_one o x r ps _ o.came one e
  local_one s p told (command.JFail label) x r e = jumped_one o x r ps _ o.refused one e
  local_one s p told _ x r e = absurd cc

-- all pages, where one domain's half and its exposed pages are new
put_among : (owns : List Own) (pages more : List Exposed) (id : ℕ) (x : Own) → id < length owns → ((k : ℕ) → One (own_at k owns).pages (exposed_at k pages)) → One x.pages (exposed_at id more) → ((k : ℕ) → k ≢ id → Same (exposed_at k pages) (exposed_at k more))
    → (k : ℕ) → One (own_at k (set owns id x)).pages (exposed_at k more)
put_among owns pages more id x within all one far k =
    elim (k == id) as (λ b. k == id ≡ b → One (own_at k (set owns id x)).pages (exposed_at k more)) [
      | true ↦ λ e. subst (λ i. One (own_at i (set owns id x)).pages (exposed_at i more)) (sym (eqb-true k id e)) (subst (λ (h : Own). One h.pages (exposed_at id more)) (sym (get_or-set_same owns id x no_own within)) one)
      | false ↦ λ e.
          let apart = eqb-false k id e in
          subst (λ (h : Own). One h.pages (exposed_at k more)) (sym (get_or-set_other owns id k x no_own apart)) (one_as (own_at k owns).pages (exposed_at k pages) (exposed_at k more) (far k apart) (all k))
    ] refl

-- and the exposed pages of the others are as they were
put_apart : (owns : List Own) (pages more : List Exposed) (id : ℕ) (x : Own) → id < length owns → ((k : ℕ) → One (own_at k owns).pages (exposed_at k pages)) → One x.pages (exposed_at id more) → ((k : ℕ) → k ≢ id → exposed_at k more ≡ exposed_at k pages)
    → (k : ℕ) → One (own_at k (set owns id x)).pages (exposed_at k more)
put_apart owns pages more id x within all one far = put_among owns pages more id x within all one (λ k apart pfn. ap (λ (ps : Exposed). is_some (fm.get ps pfn)) (far k apart))

-- all pages of these own halves and exposed pages
abbrev All : List Own → List Exposed → Type 0
All owns pages = (k : ℕ) → One (own_at k owns).pages (exposed_at k pages)

module _ (sh : Shared) (owns : List Own) (id : ℕ) (size : length owns ≡ length sh.pages) (within : id < length owns) (all : All owns sh.pages) where
  ends_apart : All (set owns id no_own) (set sh.pages id fm.empty)
  ends_apart = put_apart owns sh.pages (set sh.pages id fm.empty) id no_own within all (λ pfn lt. absurd (omega (arith, lt))) (λ k far. get_or-set_other sh.pages id k fm.empty fm.empty far)

  called_apart : (c : Command) (r : trap.CallResult) → Kept sh id (own_at id owns) c r → All (set owns id (own_behind (own_at id owns) c (call_effect sh r).reply (call_effect sh r).back)) (call_effect sh r).shared.pages
  called_apart c (Ok t) k = put_among owns sh.pages t.pages id (own_behind (own_at id owns) c t.reply t.back) within all k.0 k.1
  called_apart c (Err why) k = put_apart owns sh.pages sh.pages id (own_behind (own_at id owns) c (Refused why) None) within all k (λ i far. refl)

  line_apart : (l : Lent) (told : Told) (c : Command) → All (set owns id (own_behind (own_at id owns) c (shared_line sh id l told c).reply (shared_line sh id l told c).back)) (shared_line sh id l told c).shared.pages
  line_apart l told command.Exit = ends_apart
  line_apart l told c = called_apart c (trap.trap sh id (guest_at id sh.tables) l told c) (kept sh id (guest_at id sh.tables) (own_at id owns) (omega (arith, within, size)) (all id) l told c)

  commit_apart : (line : ℕ) (begun : List ℕ) → IfSome (child_made (Commit id line) (shared_commit sh id begun).reply) (λ child. (child < length owns) × (child ≢ id))
      → All (set (bear owns id (own_at id owns) (child_made (Commit id line) (shared_commit sh id begun).reply)) id (parent_own (own_at id owns))) (shared_commit sh id begun).shared.pages
  commit_apart line [] born = put_apart owns sh.pages sh.pages id (parent_own (own_at id owns)) within all (all id) (λ k far. refl)
  commit_apart line (child ∷ left) born =
      let o = own_at id owns in
      let kid = child_own child id o in
      let ps = child_exposed (exposed_at id sh.pages) in
      let more = set sh.pages child ps in
      let there : exposed_at child more ≡ ps = get_or-set_same sh.pages child ps fm.empty (omega (arith, born.0, size)) in
      let first : All (set owns child kid) more =
      put_apart owns sh.pages more child kid born.0 all (subst (One kid.pages) (sym there) (child_one child id o (exposed_at id sh.pages) (all id))) (λ k far. get_or-set_other sh.pages child k ps fm.empty far) in
      let back : id ≢ child = λ q. born.1 (sym q) in
      let stays : own_at id (set owns child kid) ≡ o = get_or-set_other owns child id kid no_own back in
      put_apart (set owns child kid) more more id (parent_own o) (omega (arith, within, length-set owns child kid)) first (subst (λ (h : Own). One h.pages (exposed_at id more)) stays (first id)) (λ k far. refl)

  join_apart : (w : List Cloned) → All (set owns id (own_at id owns)) (shared_join sh w).shared.pages
  join_apart [] = put_apart owns sh.pages sh.pages id (own_at id owns) within all (all id) (λ k far. refl)
  join_apart (x ∷ w) = put_apart owns sh.pages sh.pages id (own_at id owns) within all (all id) (λ k far. refl)

locked_apart : (s : Script) (m : Machine) (e : Entry) (told : Told) → length m.own ≡ length m.shared.pages → actor e < length m.own → All m.own m.shared.pages → IfSome (child_made e (locked_step s m e told).reply) (λ child. (child < length m.own) × (child ≢ actor e))
    → All (locked_step s m e told).machine.own (locked_step s m e told).machine.shared.pages
locked_apart s m (Line dom line) told size within all born = line_apart m.shared m.own dom size within all (lends s (program_run dom m.shared.lives) (own_at dom m.own) (Line dom line)) told (command_at s (program_run dom m.shared.lives) line)
locked_apart s m (Commit dom line) told size within all born = commit_apart m.shared m.own dom size within all line (guest_at dom m.shared.tables).begun born
locked_apart s m Daemon told size within all born = join_apart m.shared m.own 0 size within all m.shared.tables.waiting

own_apart : (s : Script) (p : ℕ) (o : Own) (e : Entry) (told : Told) (did : Own × Reply) (ps : Exposed) → One o.pages ps → own_step s p o e told ≡ Some did → One did.0.pages ps
own_apart s p o (Line dom line) told did ps one is = local_one o ps one s p told (command_at s p line) did.0 did.1 is
own_apart s p o (Commit dom line) told did ps one is = absurd cc
own_apart s p o Daemon told did ps one is = absurd cc

pub stays_apart : StaysApart
stays_apart s m e told size within births apart =
    let p = program_run (actor e) m.shared.lives in
    let o = own_at (actor e) m.own in
    elim (own_step s p o e told) as (λ g. own_step s p o e told ≡ g → IsApart (step s m e told).machine) [
      | Some did ↦ λ is.
          let all = put_apart m.own m.shared.pages m.shared.pages (actor e) did.0 within apart (own_apart s p o e told did (exposed_at (actor e) m.shared.pages) (apart (actor e)) is) (λ k far. refl) in
          subst (λ (w : Outcome). IsApart w.machine) (sym (local_alone s m e told did is)) all
      | None ↦ λ is.
          let goes = locked_is s m e told is in
          let born = subst (λ (w : Outcome). IfSome (child_made e w.reply) (λ child. (child < length m.own) × (child ≢ actor e))) goes births in
          subst (λ (w : Outcome). IsApart w.machine) (sym goes) (locked_apart s m e told size within apart born)
    ] refl
