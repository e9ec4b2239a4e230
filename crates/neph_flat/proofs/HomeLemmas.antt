-- An exposed page becomes its domain's own again.
use Rattle.std.proofs.Common.{◌≡◌, ℕ, ◌<◌, List, length, set, get_or, Option, Some, None, Ok, refl, sym, ap, subst, ◌∙◌, arith}
use Rattle.std.specs.Prelude.{option_map}
use Rattle.std.specs.FinMap as fm
use Rattle.std.proofs.lemmas.List.{get_or-set_same, set-set, set-get_or}
use Rattle.neph_base.specs.declared.command.Command.{Command}
use Rattle.neph_base.specs.declared.reply.Reply.{Reply}
use Rattle.neph_grant.specs.declared.entry.GrantEntry.{GrantEntry}
use Rattle.neph_grant.specs.Table.{Grants}
use Rattle.neph_model.specs.declared.own.Own.{Own}
use Rattle.neph_model.specs.declared.told.Told.{Told}
use Rattle.neph_model.specs.Lent.{own_replied}
use Rattle.neph_model.specs.Machine.{Exposed, no_own, own_at}
use Rattle.neph_model.specs.Laws.{AreGranted, NamesExposed}
use Rattle.neph_rows.specs.Row.{NamedBy}
use Rattle.neph_flat.specs.Local.{LocalDone}
use Rattle.neph_flat.proofs.MachineKeeps.{own_read}

-- the page that an entry names is exposed
pub named_in : (t : Grants) (n : ℕ) (ps : Exposed) (r pfn : ℕ) → AreGranted t n ps → (x : Option ℕ) → x ≡ Some pfn → NamedBy t r (Ok x) → NamesExposed n ps r pfn
named_in t n ps r pfn all x some named = by (fm.get t r) refl (subst (λ (v : Option ℕ). NamedBy t r (Ok v)) some named) where
  same : {a b : ℕ} → Some a ≡ Some b → a ≡ b
  same e = cc

  by : (x : Option GrantEntry) → fm.get t r ≡ x → option_map (λ (e : GrantEntry). e.pfn) x ≡ Some pfn → NamesExposed n ps r pfn
  by None at is = absurd cc
  by (Some e) at is = subst (NamesExposed n ps r) (same is) (all r e at)

-- a command that is left to the hypervisor changes nothing
pub left_alone : (c : Command) (told : Told) (old new : Own) (step : Option (Own × Reply)) (x : Option Reply) → x ≡ None → LocalDone c told old new (Ok x) step → new ≡ old
left_alone c told old new step x none done = (subst (λ (v : Option Reply). LocalDone c told old new (Ok v) step) none done).1

pub own_left : (owns : List Own) (i id : ℕ) (old new : Own) → length owns ≡ 64 → i ≡ id → i < 64 → old ≡ get_or owns i old → new ≡ old → own_at id owns ≡ own_at id (set owns i new)
own_left owns i id old new places same low is left =
    let back : new ≡ get_or owns i no_own = left ∙ own_read owns i id old places same low is ∙ ap (λ (k : ℕ). own_at k owns) (sym same) in
    sym (ap (own_at id) (ap (set owns i) back ∙ set-get_or owns i no_own))

-- the own halves behind a domain's that was changed, and has gone on then
pub gone_on : (owns mid last : List Own) (id : ℕ) (x : Own) (y : Reply) → id < length owns → mid ≡ set owns id x → last ≡ set mid id (own_replied (own_at id mid) y) → last ≡ set owns id (own_replied x y)
gone_on owns mid last id x y lt changed on =
    on ∙ ap (λ (l : List Own). set l id (own_replied (own_at id l) y)) changed ∙ ap (λ (o : Own). set (set owns id x) id (own_replied o y)) (get_or-set_same owns id x no_own lt) ∙ set-set owns id x (own_replied x y)
