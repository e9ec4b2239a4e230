-- What a guest's own half is behind its turn.
use Rattle.std.proofs.Common.{◌≡◌, ◌+◌, ℕ, Bool, true, false, Option, Some, refl, sym, ap, ◌∙◌}
use Rattle.std.specs.Option.{option_map}
use Rattle.neph_base.specs.declared.command.Command.{Command}
use Rattle.neph_base.specs.declared.command.Command.TheVariants as command
use Rattle.neph_base.specs.declared.reply.Reply.{Reply}
use Rattle.neph_model.specs.declared.own.Own.{Own}
use Rattle.neph_model.specs.Own.{settle}
use Rattle.neph_pool.specs.World.{World}
use Rattle.neph_memory.specs.declared.dom_local.DomLocal.{DomLocal}
use Rattle.neph_guest.specs.declared.live.Guest.{Guest}
use Rattle.neph_guest.specs.declared.live.Live.{Live}
use Rattle.neph_guest.specs.declared.row.Row.{Row}
use Rattle.neph_guest.specs.declared.row.Row.TheVariants as row
use Rattle.neph_guest.specs.declared.row.LocalTurn.{LocalTurn}
use Rattle.neph_guest.specs.declared.row.LocalTurn.TheVariants as turn
use Rattle.neph_guest.specs.OwnHalf.{IsOwnMemory, IsOwnHalf}
use Rattle.neph_guest.specs.Turns.{IsJump, RowDone, TurnDone, memory_step, spare_after, HeldSpare, LookDone, guest_after, stage_after, turn_of}

-- how far the guest is, and which it is, behind a row that came to this
pub stage_done : (g : Guest) (x : Row) → (guest_after g x).stage ≡ stage_after g.stage (turn_of x)
stage_done g (row.Does answer) = refl
stage_done g (row.Refuses why) = refl
stage_done g row.Asks = refl
stage_done g row.Copies = refl
stage_done g row.LacksFrame = refl

pub dom_done : (g : Guest) (x : Row) → (guest_after g x).dom ≡ g.dom
dom_done g (row.Does answer) = refl
dom_done g (row.Refuses why) = refl
dom_done g row.Asks = refl
dom_done g row.Copies = refl
dom_done g row.LacksFrame = refl

module _ {Pool Seat : Type 0} (W : World Pool Seat) (p : Pool) (l : Live Pool Seat) where
  -- behind a jump to the line of the guest h
  pub jumped : (h : Guest) (o : Own) (c : Command) (step : Option (Own × Reply)) (answer : Reply) → IsOwnHalf W p l o → h ≡ record l.guest { line = h.line } → step ≡ Some (record o { line = h.line }, answer)
      → TurnDone (IsOwnHalf W p (record { guest = h; local = l.local })) o c step (turn.Did answer)
  jumped h o c step answer half e s = (
    record o { line = h.line },
    s,
    record {
      line = refl;
      came = half.came ∙ sym (ap (λ (g : Guest). g.came) e);
      refused = half.refused ∙ sym (ap (λ (g : Guest). g.failed) e);
      own = record { memory = half.own.memory; marks = half.own.marks };
    },
  )

  pub jump_spare : (c : Command) (t : LocalTurn) → IsJump c → l.local.own.spare ≡ spare_after W p l.local c t
  jump_spare (command.W addr bytes) t j = absurd j
  jump_spare (command.R addr len) t j = absurd j
  jump_spare (command.Map vpn pfn mode) t j = absurd j
  jump_spare (command.Unmap vpn) t j = absurd j
  jump_spare (command.Jump label) t j = refl
  jump_spare (command.JChild label) t j = refl
  jump_spare (command.JFail label) t j = refl
  jump_spare command.Exit t j = absurd j
  jump_spare command.Free t j = absurd j
  jump_spare command.Clone t j = absurd j
  jump_spare (command.Ungrant ref) t j = absurd j
  jump_spare (command.Gmap granter ref) t j = absurd j
  jump_spare (command.Gunmap held) t j = absurd j
  jump_spare (command.Hr held at n) t j = absurd j
  jump_spare (command.Hw held at bytes) t j = absurd j

  pub jump_look : (c : Command) (t : LocalTurn) → IsJump c → LookDone W p l.local l.local.own c t
  jump_look (command.W addr bytes) t j = absurd j
  jump_look (command.R addr len) t j = absurd j
  jump_look (command.Map vpn pfn mode) t j = absurd j
  jump_look (command.Unmap vpn) t j = absurd j
  jump_look (command.Jump label) t j = tt
  jump_look (command.JChild label) t j = tt
  jump_look (command.JFail label) t j = tt
  jump_look command.Exit t j = absurd j
  jump_look command.Free t j = absurd j
  jump_look command.Clone t j = absurd j
  jump_look (command.Ungrant ref) t j = absurd j
  jump_look (command.Gmap granter ref) t j = absurd j
  jump_look (command.Gunmap held) t j = absurd j
  jump_look (command.Hr held at n) t j = absurd j
  jump_look (command.Hw held at bytes) t j = absurd j

  pub jump_held : (c : Command) (t : LocalTurn) → IsJump c → HeldSpare W p l.local c t
  jump_held (command.W addr bytes) t j = absurd j
  jump_held (command.R addr len) t j = absurd j
  jump_held (command.Map vpn pfn mode) t j = absurd j
  jump_held (command.Unmap vpn) t j = absurd j
  jump_held (command.Jump label) t j = tt
  jump_held (command.JChild label) t j = tt
  jump_held (command.JFail label) t j = tt
  jump_held command.Exit t j = absurd j
  jump_held command.Free t j = absurd j
  jump_held command.Clone t j = absurd j
  jump_held (command.Ungrant ref) t j = absurd j
  jump_held (command.Gmap granter ref) t j = absurd j
  jump_held (command.Gunmap held) t j = absurd j
  jump_held (command.Hr held at n) t j = absurd j
  jump_held (command.Hw held at bytes) t j = absurd j

  -- behind a row that left this memory
  module _ (q : Pool) (d : DomLocal Pool Seat) (o : Own) (half : IsOwnHalf W p l o) where
    -- the own half with other marks and another line
    gone_on : (h : Guest) (new : Own) (line : ℕ) (failed : Bool) → line ≡ h.line → new.came ≡ h.came → failed ≡ h.failed → IsOwnMemory W q d new
        → IsOwnHalf W q (record { guest = h; local = d }) (record new { line = line; refused = failed })
    gone_on h new line failed a b c m = record { line = a; came = b; refused = c; own = record { memory = m.memory; marks = m.marks } }

    still : (h : Guest) → h.line ≡ l.guest.line → h.came ≡ l.guest.came → h.failed ≡ l.guest.failed → IsOwnMemory W q d o → IsOwnHalf W q (record { guest = h; local = d }) o
    still h a b c m = record { line = half.line ∙ sym a; came = half.came ∙ sym b; refused = half.refused ∙ sym c; own = m }

    pub settled : (c : Command) (step : Option (Own × Reply)) → step ≡ option_map (settle o) (memory_step o c) → (x : Row) → RowDone (IsOwnMemory W q d) o c (memory_step o c) x
        → TurnDone (IsOwnHalf W q (record { guest = guest_after l.guest x; local = d })) o c step (turn_of x)
    settled c step s (row.Does answer) r = (
      record r.0 { line = o.line + 1; refused = false },
      s ∙ ap (option_map (settle o)) r.1,
      gone_on (guest_after l.guest (row.Does answer)) r.0 (o.line + 1) false (ap (λ (n : ℕ). n + 1) half.line) (r.2 ∙ half.came) refl r.3,
    )
    settled c step s (row.Refuses why) r = (
      record o { line = o.line + 1; refused = true },
      s ∙ ap (option_map (settle o)) r.0,
      gone_on (guest_after l.guest (row.Refuses why)) o (o.line + 1) true (ap (λ (n : ℕ). n + 1) half.line) half.came refl r.1,
    )
    settled c step s row.Asks r = (s ∙ ap (option_map (settle o)) r.0, still l.guest refl refl refl r.1)
    settled c step s row.Copies r = still (guest_after l.guest row.Copies) refl refl refl r
    settled c step s row.LacksFrame r = (r.0, still l.guest refl refl refl r.1)

    -- where nothing was done
    pub same_half : IsOwnMemory W q d o → IsOwnHalf W q (record { guest = l.guest; local = d }) o
    same_half m = still l.guest refl refl refl m
