-- What the commands of handles come to: a refusal, bytes that were read, other handles of the
-- domain, or bytes that were written to an exposed page.
use Rattle.std.proofs.Common.{◌≡◌, ℕ, zero, suc, Bool, true, false, cond, List, [], ◌∷◌, get_or, set, Option, Some, None, Ok, Err, refl, sym, ap, ◌∙◌}
use Rattle.std.specs.Prelude.{Result, ⊤, is_some, ◌==◌}
use Rattle.std.specs.Ordering.{nat_cmp, eq_by_cmp}
use Rattle.std.specs.Cmp.{nat_cmp_total, unsigned_tied}
use Rattle.std.specs.FinMap as fm
use Rattle.std.proofs.lemmas.Bool.{eqb-true}
use Rattle.neph_base.specs.declared.command.Mode.{Mode}
use Rattle.neph_base.specs.declared.command.Mode.TheVariants.{Ro, Rw}
use Rattle.neph_base.specs.declared.command.Command.{Command}
use Rattle.neph_base.specs.declared.command.Command.TheVariants as command
use Rattle.neph_base.specs.declared.reply.Reply.{Reply}
use Rattle.neph_base.specs.declared.reply.Reply.TheVariants as reply
use Rattle.neph_base.specs.declared.reply.Refusal.{Refusal}
use Rattle.neph_base.specs.declared.reply.Refusal.TheVariants as refusal
use Rattle.neph_grant.specs.declared.entry.GrantEntry.{GrantEntry}
use Rattle.neph_grant.specs.declared.handles.GrantMapping.{GrantMapping}
use Rattle.neph_grant.specs.declared.faults.MapRefused.{MapRefused}
use Rattle.neph_grant.specs.declared.faults.MapRefused.TheVariants.{NoEntry, NotYours}
use Rattle.neph_grant.specs.Handles.{Mappings, free_handle}
use Rattle.neph_grant.specs.Table.{admit_answer}
use Rattle.neph_model.specs.declared.own.Own.{Own}
use Rattle.neph_model.specs.declared.life.Guest.{Guest}
use Rattle.neph_model.specs.declared.told.Told.{Told}
use Rattle.neph_model.specs.declared.told.Told.TheVariants.{Enough}
use Rattle.neph_model.specs.Machine.{Shared, Exposed, exposed_at, guest_at, life_at, parent_of}
use Rattle.neph_model.specs.Memory.{page_with_bytes}
use Rattle.neph_model.specs.Lent.{Lent, own_behind, own_replied}
use Rattle.neph_model.specs.Trap as trap
use Rattle.neph_model.specs.Trap.{CallResult, answers, is_exposed, exposed_bytes, with_exposed_bytes, with_handles, mapped_page}
use Rattle.neph_model.specs.Legal.{told_of}

-- a command of handles
abbrev pub IsOfHandles : Command → Type 0
IsOfHandles (command.Gmap granter r) = ⊤
IsOfHandles (command.Gunmap h) = ⊤
IsOfHandles (command.Hr h at n) = ⊤
IsOfHandles (command.Hw h at bytes) = ⊤
IsOfHandles _ = ⊥

-- a refusal that tells nothing of frames
abbrev pub IsPlainWhy : Refusal → Type 0
IsPlainWhy why = told_of (reply.Refused why) ≡ Enough

not_there : (pfn : ℕ) → None ≡ Some pfn → ⊥
not_there pfn e = cc

is_that : (p q : ℕ) → Some p ≡ Some q → p ≡ q
is_that p q e = cc

-- the page of a mapping is exposed
mapped_is_exposed : (sh : Shared) (m : GrantMapping) (pfn : ℕ) (x : Option GrantEntry) → fm.get (guest_at m.granter sh.tables).grants m.reference ≡ x → mapped_page sh m ≡ Some pfn → is_exposed sh.pages m.granter pfn ≡ true
mapped_is_exposed sh m pfn None at is = absurd (not_there pfn (sym (rw at refl) ∙ is))
mapped_is_exposed sh m pfn (Some e) at is = shown (is_exposed sh.pages m.granter e.pfn) refl (sym (rw at refl) ∙ is) where
  shown : (b : Bool) → is_exposed sh.pages m.granter e.pfn ≡ b → cond b (Some e.pfn) None ≡ Some pfn → is_exposed sh.pages m.granter pfn ≡ true
  shown true has same = ap (is_exposed sh.pages m.granter) (sym (is_that e.pfn pfn same)) ∙ has
  shown false has same = absurd (not_there pfn same)

module _ (sh : Shared) (id : ℕ) (g : Guest) (P : CallResult → Type 0) (refuses : (why : Refusal) → IsPlainWhy why → P (Err why))
    (reads : (bytes : List ℕ) → P (answers sh (reply.Bytes bytes))) (maps : (m : Mappings) (h : ℕ) → P (answers (with_handles sh id g m) (reply.Number h)))
    (unmaps : (m : Mappings) → P (answers (with_handles sh id g m) reply.Done))
    (writes : (granter pfn at : ℕ) (bytes : List ℕ) → is_exposed sh.pages granter pfn ≡ true → P (answers (record sh { pages = with_exposed_bytes sh.pages granter pfn at bytes }) reply.Done)) where
  one_of : (b : Bool) (x y : CallResult) → P x → P y → P (cond b x y)
  one_of true x y p q = p
  one_of false x y p q = q

  mapped : (granter r : ℕ) (mode : Mode) (h : Option ℕ) → P (trap.map_at sh id g granter r mode h)
  mapped granter r mode None = refuses refusal.HandlesFull refl
  mapped granter r mode (Some h) = maps _ h

  admitted : (granter r : ℕ) (a : Result (ℕ × Mode) MapRefused) → admit_answer (guest_at granter sh.tables).grants r id (parent_of (life_at id sh.lives)) granter ≡ a → P (trap.map_entry sh id g granter r)
  admitted granter r (Err NoEntry) is = rw is (refuses refusal.NoEntry refl)
  admitted granter r (Err NotYours) is = rw is (refuses refusal.NotYours refl)
  admitted granter r (Ok (pfn, mode)) is = rw is (mapped granter r mode (free_handle g.handles))

  read : (at n : ℕ) (m : GrantMapping) (page : Option ℕ) → mapped_page sh m ≡ page → P (trap.hr_call sh at n (Some m))
  read at n m None is = rw is (refuses refusal.Gone refl)
  read at n m (Some pfn) is = rw is (reads _)

  reads_by : (at n : ℕ) (m : Option GrantMapping) → P (trap.hr_call sh at n m)
  reads_by at n None = refuses refusal.NoHandle refl
  reads_by at n (Some m) = read at n m (mapped_page sh m) refl

  wrote : (at : ℕ) (bytes : List ℕ) (granter r : ℕ) (mode : Mode) (page : Option ℕ) → mapped_page sh (record { granter = granter; reference = r; mode = mode }) ≡ page
      → P (trap.hw_call sh at bytes (Some (record { granter = granter; reference = r; mode = mode })))
  wrote at bytes granter r mode None is = rw is (refuses refusal.Gone refl)
  wrote at bytes granter r Ro (Some pfn) is = rw is (refuses refusal.ReadOnly refl)
  wrote at bytes granter r Rw (Some pfn) is = rw is (writes granter pfn at bytes (mapped_is_exposed sh (record { granter = granter; reference = r; mode = Rw }) pfn _ refl is))

  writes_by : (at : ℕ) (bytes : List ℕ) (m : Option GrantMapping) → P (trap.hw_call sh at bytes m)
  writes_by at bytes None = refuses refusal.NoHandle refl
  writes_by at bytes (Some m) = wrote at bytes m.granter m.reference m.mode (mapped_page sh m) refl

  pub handle_row : (l : Lent) (told : Told) (c : Command) → IsOfHandles c → P (trap.trap sh id g l told c)
  handle_row l told (command.Gmap granter r) is = one_of (trap.has_ended sh granter) _ _ (refuses refusal.Gone refl) (admitted granter r _ refl)
  handle_row l told (command.Gunmap h) is = one_of (is_some (fm.get g.handles h)) _ _ (unmaps _) (refuses refusal.NoHandle refl)
  handle_row l told (command.Hr h at n) is = reads_by at n (fm.get g.handles h)
  handle_row l told (command.Hw h at bytes) is = writes_by at bytes (fm.get g.handles h)
  handle_row l told _ is = absurd is

replied_pages : (x : Own) (r : Reply) → (own_replied x r).pages ≡ x.pages
replied_pages x reply.Done = refl
replied_pages x reply.Go = refl
replied_pages x reply.On = refl
replied_pages x reply.Ended = refl
replied_pages x (reply.Number n) = refl
replied_pages x (reply.Begun child) = refl
replied_pages x (reply.Child child) = refl
replied_pages x (reply.Bytes bytes) = refl
replied_pages x (reply.Refused why) = refl

-- a domain's own half behind such a command is as it was, but for its line and mark
pub behind_handles : (o : Own) (c : Command) (r : Reply) → IsOfHandles c → own_behind o c r None ≡ own_replied o r
behind_handles o (command.Gmap granter n) r is = refl
behind_handles o (command.Gunmap h) r is = refl
behind_handles o (command.Hr h at n) r is = refl
behind_handles o (command.Hw h at bytes) r is = refl
behind_handles o _ r is = absurd is

pub pages_behind : (o : Own) (c : Command) (r : Reply) → IsOfHandles c → (own_behind o c r None).pages ≡ o.pages
pages_behind o c r is = ap (λ (x : Own). x.pages) (behind_handles o c r is) ∙ replied_pages o r

some_cond : (b : Bool) (x : List ℕ) (o : Option (List ℕ)) → is_some (cond b (Some x) o) ≡ cond b true (is_some o)
some_cond true x o = refl
some_cond false x o = refl

-- exposed pages with new bytes in one of them are the same pages
pub again : (ps : Exposed) (p pfn : ℕ) (x : List ℕ) → is_some (fm.get ps p) ≡ true → is_some (fm.get (fm.insert ps p x) pfn) ≡ is_some (fm.get ps pfn)
again ps p pfn x has =
    ap is_some (fm.get-insert nat_cmp_total ps p x pfn) ∙ some_cond (eq_by_cmp nat_cmp pfn p) x (fm.get ps pfn) ∙ ap (λ b. cond b true (is_some (fm.get ps pfn))) (unsigned_tied pfn p)
    ∙ elim (pfn == p) as (λ b. pfn == p ≡ b → cond b true (is_some (fm.get ps pfn)) ≡ is_some (fm.get ps pfn)) [
      | true ↦ λ e. rw (eqb-true pfn p e) (sym has)
      | false ↦ λ e. refl
    ] refl

-- what a test of the places of a list tells stays, where the new one passes as the old one did
pub put_as : {A B : Type 0} (f : A → B) (xs : List A) (at : ℕ) (x d : A) → f x ≡ f (get_or xs at d) → (k : ℕ) → f (get_or (set xs at x) k d) ≡ f (get_or xs k d)
put_as f [] at x d same k = refl
put_as f (y ∷ ys) zero x d same zero = same
put_as f (y ∷ ys) zero x d same (suc k) = refl
put_as f (y ∷ ys) (suc at) x d same zero = refl
put_as f (y ∷ ys) (suc at) x d same (suc k) = put_as f ys at x d same k

pub written_there : (pages : List Exposed) (granter pfn at : ℕ) (bytes : List ℕ) → is_exposed pages granter pfn ≡ true
    → (k q : ℕ) → is_exposed (with_exposed_bytes pages granter pfn at bytes) k q ≡ is_exposed pages k q
written_there pages granter pfn at bytes has k q =
    let x = page_with_bytes (exposed_bytes pages granter pfn) at bytes in
    put_as (λ (v : Exposed). is_some (fm.get v q)) pages granter (fm.insert (exposed_at granter pages) pfn x) fm.empty (again (exposed_at granter pages) pfn q x has) k
