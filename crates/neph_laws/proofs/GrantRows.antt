-- What `ungrant` comes to: a refusal, fewer entries, or fewer entries and a page that is given back.
use Rattle.std.proofs.Common.{◌≡◌, ◌⊎◌, inl, inr, ℕ, ◌+◌, ◌<◌, Bool, true, false, cond, List, Option, Some, None, Ok, Err, refl, sym, ap, ◌∙◌, arith}
use Rattle.std.specs.Prelude.{Result, is_some, ◌==◌, ◌||◌}
use Rattle.std.specs.Ordering.{nat_cmp, eq_by_cmp}
use Rattle.std.specs.Cmp.{nat_cmp_total, unsigned_tied}
use Rattle.std.specs.FinMap as fm
use Rattle.std.proofs.lemmas.Bool.{eqb-true}
use Rattle.neph_base.specs.declared.reply.Reply.TheVariants as reply
use Rattle.neph_base.specs.declared.reply.Refusal.{Refusal}
use Rattle.neph_base.specs.declared.reply.Refusal.TheVariants as refusal
use Rattle.neph_grant.specs.declared.entry.GrantEntry.{GrantEntry}
use Rattle.neph_grant.specs.Table.{Grants, is_device_grant, names_page, device_entry, device_grants}
use Rattle.neph_model.specs.declared.life.Guest.{Guest}
use Rattle.neph_model.specs.Machine.{Shared, Exposed}
use Rattle.neph_model.specs.Trap as trap
use Rattle.neph_model.specs.Trap.{CallResult, answers, with_grants, is_mapped, gives_back, end_entry, ungrant_call}
use Rattle.neph_laws.proofs.HandleRows.{IsPlainWhy}

-- an entry of this table that may be taken away
pub record MayEnd (t : Grants) (r : ℕ) (e : GrantEntry) : Type 0 where
  pub there : fm.get t r ≡ Some e
  pub device : is_device_grant r ≡ false

module _ (sh : Shared) (id : ℕ) (g : Guest) (P : CallResult → Type 0) (refuses : (why : Refusal) → IsPlainWhy why → P (Err why))
    (ends : (r : ℕ) (e : GrantEntry) → MayEnd g.grants r e → P (answers (with_grants sh id g (fm.remove g.grants r)) reply.Done))
    (gives : (r : ℕ) (e : GrantEntry) → MayEnd g.grants r e → names_page (fm.remove g.grants r) e.pfn ≡ false → P (gives_back (with_grants sh id g (fm.remove g.grants r)) id e.pfn)) where
  ended : (r : ℕ) (e : GrantEntry) → MayEnd g.grants r e → (b : Bool) → names_page (fm.remove g.grants r) e.pfn ≡ b → P (end_entry sh id g (fm.remove g.grants r) e.pfn)
  ended r e may true named = rw named (ends r e may)
  ended r e may false named = rw named (gives r e may named)

  found : (r : ℕ) (e : GrantEntry) → fm.get g.grants r ≡ Some e → (device busy : Bool) → is_device_grant r ≡ device → is_mapped sh.tables id r ≡ busy → P (ungrant_call sh id g r)
  found r e is true busy device mapped = rw (is, device) (refuses refusal.Busy refl)
  found r e is false true device mapped = rw (is, device, mapped) (refuses refusal.Busy refl)
  found r e is false false device mapped = rw (is, device, mapped) (ended r e (record { there = is; device = device }) _ refl)

  looked : (r : ℕ) (x : Option GrantEntry) → fm.get g.grants r ≡ x → P (ungrant_call sh id g r)
  looked r None is = rw is (refuses refusal.NoGrant refl)
  looked r (Some e) is = found r e is _ _ refl refl

  pub ungrant_row : (r : ℕ) → P (ungrant_call sh id g r)
  ungrant_row r = looked r _ refl

none_cond : (b : Bool) (o : Option (List ℕ)) → is_some (cond b None o) ≡ cond b false (is_some o)
none_cond true o = refl
none_cond false o = refl

-- exposed pages without one of them
pub without_there : (ps : Exposed) (p pfn : ℕ) → is_some (fm.get (fm.remove ps p) pfn) ≡ cond (pfn == p) false (is_some (fm.get ps pfn))
without_there ps p pfn =
    ap is_some (fm.get-remove nat_cmp_total ps p pfn) ∙ none_cond (eq_by_cmp nat_cmp pfn p) (fm.get ps pfn) ∙ ap (λ b. cond b false (is_some (fm.get ps pfn))) (unsigned_tied pfn p)

same_entry : {a b : GrantEntry} → Some a ≡ Some b → a ≡ b
same_entry e = cc

-- the entries that a table starts with
granted_at : (r k : ℕ) (b : Bool) (a : Option GrantEntry) (g : GrantEntry) → eq_by_cmp nat_cmp r k ≡ b → cond b (Some (device_entry (k + 1))) a ≡ Some g → ((r ≡ k) × (g.pfn ≡ k + 1)) ⊎ (a ≡ Some g)
granted_at r k true a g is e = inl (eqb-true r k (sym (unsigned_tied r k) ∙ is), ap (λ (v : GrantEntry). v.pfn) (sym (same_entry e)))
granted_at r k false a g is e = inr e

pub device_granted : (r : ℕ) (g : GrantEntry) → fm.get device_grants r ≡ Some g → (r < 3) × (g.pfn ≡ r + 1)
device_granted r g at =
    let one : Grants = fm.insert fm.empty 0 (device_entry 1) in
    let two : Grants = fm.insert one 1 (device_entry 2) in
    elim (granted_at r 2 _ (fm.get two r) g refl (sym (fm.get-insert nat_cmp_total two 2 (device_entry 3) r) ∙ at)) [
      | inl d ↦ (omega (arith, d.0), omega (arith, d.0, d.1))
      | inr e ↦
          elim (granted_at r 1 _ (fm.get one r) g refl (sym (fm.get-insert nat_cmp_total one 1 (device_entry 2) r) ∙ e)) [
            | inl d ↦ (omega (arith, d.0), omega (arith, d.0, d.1))
            | inr e ↦
                elim (granted_at r 0 _ (fm.get {X = GrantEntry} fm.empty r) g refl (sym (fm.get-insert nat_cmp_total fm.empty 0 (device_entry 1) r) ∙ e)) [
                  | inl d ↦ (omega (arith, d.0), omega (arith, d.0, d.1))
                  | inr e ↦ absurd (no_entry (sym (fm.get-empty nat_cmp r) ∙ e))
                ]
          ]
    ]
  where
    no_entry : {g : GrantEntry} → None ≡ Some g → ⊥
    no_entry e = cc
