-- Where nothing is shared, there is no entry and no mapping.
use Rattle.std.proofs.Common.{◌≡◌, ℕ, Bool, true, false, Option, None, Some, refl, sym, ap, ◌∙◌}
use Rattle.std.specs.Prelude.{Err, is_some, Box}
use Rattle.std.specs.Option.{option_map_or}
use Rattle.std.specs.Global.{Global}
use Rattle.std.specs.Ordering.{nat_cmp}
use Rattle.std.specs.FinMap as fm
use Rattle.neph_grant.specs.declared.faults.MapRefused.TheVariants.{NoEntry}
use Rattle.neph_grant.specs.declared.entry.GrantEntry.{GrantEntry}
use Rattle.neph_grant.specs.declared.handles.GrantMapping.{GrantMapping}
use Rattle.neph_grant.specs.declared.handles.TheConstants.{HANDLES}
use Rattle.neph_grant.specs.declared.table.TheConstants.{GRANT_REFS}
use Rattle.neph_grant.specs.declared.faults.EndFault.TheVariants.{NoGrant}
use Rattle.neph_grant.specs.Handles.{maps_entry, is_of_entry}
use Rattle.neph_grant.specs.Table.{admit_answer, end_answer, names_page}
use Rattle.neph_grant.specs.Uses.{is_of_page}
use Rattle.neph_grant.proofs.BelowLemmas.{some_below_true}
use Rattle.neph_rows.specs.Shares.{Shares, no_shares, shares_of}
use Rattle.neph_rows.specs.declared.sharing.SharedTables.{SharedTables}

none_is : (t : Option (Box SharedTables Global)) (s : Shares) → shares_of t ≡ s → t ≡ None → s ≡ no_shares
none_is t s view is = sym view ∙ ap shares_of is

pub no_entry : (t : Option (Box SharedTables Global)) (s : Shares) (r : ℕ) → shares_of t ≡ s → t ≡ None → None ≡ fm.get s.grants r
no_entry t s r view is = sym (ap (λ (x : Shares). fm.get x.grants r) (none_is t s view is) ∙ fm.get-empty nat_cmp r)

pub none_admitted : (t : Option (Box SharedTables Global)) (s : Shares) (r me parent granter : ℕ) → shares_of t ≡ s → t ≡ None → Err NoEntry ≡ admit_answer s.grants r me parent granter
none_admitted t s r me parent granter view is = rw (sym (no_entry t s r view is)) refl

pub no_mapping : (t : Option (Box SharedTables Global)) (s : Shares) (h : ℕ) → shares_of t ≡ s → t ≡ None → None ≡ fm.get s.handles h
no_mapping t s h view is = sym (ap (λ (x : Shares). fm.get x.handles h) (none_is t s view is) ∙ fm.get-empty nat_cmp h)

pub none_held : (t : Option (Box SharedTables Global)) (s : Shares) (h : ℕ) → shares_of t ≡ s → t ≡ None → false ≡ is_some (fm.get s.handles h)
none_held t s h view is = ap is_some (no_mapping t s h view is)

pub none_ended : (t : Option (Box SharedTables Global)) (s : Shares) (r : ℕ) (mapped : Bool) → shares_of t ≡ s → t ≡ None → Err NoGrant ≡ end_answer s.grants r mapped
none_ended t s r mapped view is = rw (sym (no_entry t s r view is)) refl

not_true : (b : Bool) → (b ≡ true → ⊥) → false ≡ b
not_true true h = absurd (h refl)
not_true false h = refl

no_page : (p : ℕ) (x : Option GrantEntry) → None ≡ x → is_of_page p x ≡ true → ⊥
no_page p None is e = cc
no_page p (Some x) is e = cc

pub none_named : (t : Option (Box SharedTables Global)) (s : Shares) (p : ℕ) → shares_of t ≡ s → t ≡ None → false ≡ names_page s.grants p
none_named t s p view is = not_true (names_page s.grants p) (λ e.
    let k = some_below_true GRANT_REFS (λ r. is_of_page p (fm.get s.grants r)) e in
    no_page p (fm.get s.grants k.0) (no_entry t s k.0 view is) k.2)

no_use : (granter r : ℕ) (x : Option GrantMapping) → None ≡ x → option_map_or (is_of_entry granter r) x false ≡ true → ⊥
no_use granter r None is e = cc
no_use granter r (Some x) is e = cc

pub none_mapped : (t : Option (Box SharedTables Global)) (s : Shares) (granter r : ℕ) → shares_of t ≡ s → t ≡ None → false ≡ maps_entry s.handles granter r
none_mapped t s granter r view is = not_true (maps_entry s.handles granter r) (λ e.
    let k = some_below_true HANDLES (λ h. option_map_or (is_of_entry granter r) (fm.get s.handles h) false) e in
    no_use granter r (fm.get s.handles k.0) (no_mapping t s k.0 view is) k.2)
