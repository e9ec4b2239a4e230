-- A line that its domain can't do by itself.
use Rattle.std.proofs.Common.{◌≡◌, ◌≢◌, ℕ, ◌%◌, Bool, true, false, cond, List, Some, None, refl, sym, ap, ◌∙◌}
use Rattle.std.specs.Prelude.{is_some}
use Rattle.std.specs.declared.option.Option.{Option}
use Rattle.std.specs.Option.{option_map}
use Rattle.neph_base.specs.declared.command.Command.{Command}
use Rattle.neph_base.specs.declared.command.Command.TheVariants as command
use Rattle.neph_base.specs.declared.command.Mode.TheVariants.{Rw}
use Rattle.neph_model.specs.declared.own.Own.{Own}
use Rattle.neph_model.specs.declared.script.Script.{Script}
use Rattle.neph_model.specs.declared.memory.Mapping.{Mapping}
use Rattle.neph_model.specs.declared.book.Book.{Book}
use Rattle.neph_model.specs.declared.book.Move.TheVariants.{Copies, Does}
use Rattle.neph_model.specs.declared.book.Spends.TheVariants.{Nothing}
use Rattle.neph_model.specs.declared.told.Told.TheVariants.{Enough}
use Rattle.neph_model.specs.Own.{LocalResult, page_of, mapping_at, is_bad_pfn, has_leaf, w_step, settle, local_step}
use Rattle.neph_model.specs.Books.{Books}
use Rattle.neph_model.specs.Turns.{ready_move}
use Rattle.neph_lines.proofs.Lines.{told_of}
use Rattle.neph_lines.proofs.InHand.{w_enough}
use Rattle.neph_lines.proofs.Doing.{not_copied}

unsettled : (o : Own) (x : LocalResult) → option_map (settle o) x ≡ None → x ≡ None
unsettled o None e = refl
unsettled o (Some r) e = absurd (cc)

-- a `map` is done or refused
map_tried : {X : Type 0} (x y : Bool) (a b c : X) → cond x (Some a) (cond y (Some b) (Some c)) ≡ None → ⊥
map_tried true y a b c e = cc
map_tried false true a b c e = cc
map_tried false false a b c e = cc

-- a write that has to be asked finds no page of the domain's own to write to
no_write : (o : Own) (at : ℕ) (bytes : List ℕ) (to : Option Mapping) → w_step o Enough at bytes to ≡ None → (pfn : ℕ) → to ≡ Some (record { pfn = pfn; mode = Rw }) → is_some (page_of o pfn) ≡ true → ⊥
no_write o at bytes to e pfn maps some = by (page_of o pfn) refl some where
  by : (page : Option (List ℕ)) → page_of o pfn ≡ page → is_some page ≡ true → ⊥
  by None is s = cc
  by (Some page) is s = let z = sym (w_enough o at bytes to pfn page maps is) ∙ e in cc

-- so the move is a call
pub asked_move : (s : Script) (p free : ℕ) (bs : Books) (o : Own) (b : Book) (c : Command) → c ≢ command.Clone → local_step s p o Enough c ≡ None → ready_move free bs o b c ≡ Does (told_of free c) Nothing
asked_move s p free bs o b (command.W addr bytes) far e =
    ap (λ (x : Option ℕ). cond (is_some x) Copies (Does Enough Nothing)) (not_copied bs o b (mapping_at o addr) (λ pfn maps some. absurd (no_write o (addr % 4096) bytes (mapping_at o addr) (unsettled o (w_step o Enough (addr % 4096) bytes (mapping_at o addr)) e) pfn maps some)))
asked_move s p free bs o b (command.R addr len) far e = refl
asked_move s p free bs o b (command.Map vpn pfn mode) far e = absurd (map_tried (is_bad_pfn o pfn mode) (has_leaf o vpn) _ _ _ (unsettled o _ e))
asked_move s p free bs o b (command.Unmap vpn) far e = refl
asked_move s p free bs o b (command.Jump label) far e = refl
asked_move s p free bs o b (command.JChild label) far e = refl
asked_move s p free bs o b (command.JFail label) far e = refl
asked_move s p free bs o b command.Exit far e = refl
asked_move s p free bs o b command.Free far e = refl
asked_move s p free bs o b command.Clone far e = absurd (far refl)
asked_move s p free bs o b (command.Ungrant r) far e = refl
asked_move s p free bs o b (command.Gmap granter r) far e = refl
asked_move s p free bs o b (command.Gunmap h) far e = refl
asked_move s p free bs o b (command.Hr h at len) far e = refl
asked_move s p free bs o b (command.Hw h at bytes) far e = refl

-- nor can it be done by itself, told what it is told
pub asked_told : (s : Script) (p free : ℕ) (o : Own) (c : Command) → local_step s p o Enough c ≡ None → local_step s p o (told_of free c) c ≡ None
asked_told s p free o command.Free e = refl
asked_told s p free o _ e = e
