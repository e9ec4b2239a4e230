-- The row of `gmap`, by whether the granter has ended and what its table admits.
use Rattle.std.proofs.Common.{◌≡◌, ℕ, Bool, true, false, cond, List, Option, refl, sym, ap, ◌∙◌}
use Rattle.std.specs.Prelude.{Result, Ok, Err}
use Rattle.neph_base.specs.declared.command.Mode.{Mode}
use Rattle.neph_base.specs.declared.reply.Refusal.TheVariants as refusal
use Rattle.neph_base.specs.declared.reply.Reply.TheVariants.{Refused}
use Rattle.neph_grant.specs.declared.faults.MapRefused.{MapRefused}
use Rattle.neph_grant.specs.declared.faults.MapRefused.TheVariants.{NoEntry, NotYours}
use Rattle.neph_grant.specs.Handles.{free_handle}
use Rattle.neph_grant.specs.Table.{admit_answer}
use Rattle.neph_model.specs.Machine.{Exposed, Shared, guest_at, life_at, parent_of}
use Rattle.neph_model.specs.Step.{Locked, call_effect, locked}
use Rattle.neph_model.specs.Trap.{CallResult, gmap_call, has_ended, map_entry, map_at}
use Rattle.neph_rows.specs.Records.{Records, shared_of}

module _ (r : Records) (pages : List Exposed) (dom granter reference : ℕ) where
  abbrev sh : Shared
  sh = shared_of r pages

  abbrev row : Bool → Locked
  row b = call_effect sh (cond b (Err refusal.Gone) (map_entry sh dom (guest_at dom r.tables) granter reference))

  abbrev admits : Result (ℕ × Mode) MapRefused
  admits = admit_answer (guest_at granter r.tables).grants reference dom (parent_of (life_at dom r.lives)) granter

  pub gone_row : true ≡ has_ended sh granter → call_effect sh (gmap_call sh dom (guest_at dom r.tables) granter reference) ≡ locked sh (Refused refusal.Gone)
  gone_row is = ap row (sym is)

  open_row : false ≡ has_ended sh granter → call_effect sh (gmap_call sh dom (guest_at dom r.tables) granter reference) ≡ call_effect sh (map_entry sh dom (guest_at dom r.tables) granter reference)
  open_row is = ap row (sym is)

  abbrev by : Result (ℕ × Mode) MapRefused → CallResult
  by (Err NoEntry) = Err refusal.NoEntry
  by (Err NotYours) = Err refusal.NotYours
  by (Ok (pfn, mode)) = map_at sh dom (guest_at dom r.tables) granter reference mode (free_handle (guest_at dom r.tables).handles)

  entry_by : (a : Result (ℕ × Mode) MapRefused) → a ≡ admits → map_entry sh dom (guest_at dom r.tables) granter reference ≡ by a
  entry_by (Err NoEntry) is = rw (sym is) refl
  entry_by (Err NotYours) is = rw (sym is) refl
  entry_by (Ok (pfn, mode)) is = rw (sym is) refl

  pub none_row : false ≡ has_ended sh granter → Err NoEntry ≡ admits → call_effect sh (gmap_call sh dom (guest_at dom r.tables) granter reference) ≡ locked sh (Refused refusal.NoEntry)
  none_row lives is = open_row lives ∙ ap (call_effect sh) (entry_by (Err NoEntry) is)

  pub others_row : false ≡ has_ended sh granter → Err NotYours ≡ admits → call_effect sh (gmap_call sh dom (guest_at dom r.tables) granter reference) ≡ locked sh (Refused refusal.NotYours)
  others_row lives is = open_row lives ∙ ap (call_effect sh) (entry_by (Err NotYours) is)

  pub admitted_row : (pfn : ℕ) (mode : Mode) → false ≡ has_ended sh granter → Ok (pfn, mode) ≡ admits
      → call_effect sh (gmap_call sh dom (guest_at dom r.tables) granter reference) ≡ call_effect sh (map_at sh dom (guest_at dom r.tables) granter reference mode (free_handle (guest_at dom r.tables).handles))
  admitted_row pfn mode lives is = open_row lives ∙ ap (call_effect sh) (entry_by (Ok (pfn, mode)) is)
