-- What a write in hand does to its domain's own half.
use Rattle.std.proofs.Common.{◌≡◌, ◌%◌, ◌+◌, ◌⊎◌, inl, inr, ℕ, Bool, true, false, List, length, Option, Some, None, IsSome, IfSome, refl, sym, ap, subst, ◌∙◌}
use Rattle.std.specs.Option.{option_map}
use Rattle.neph_base.specs.declared.command.Command.{Command}
use Rattle.neph_base.specs.declared.command.Command.TheVariants as command
use Rattle.neph_base.specs.declared.command.Mode.TheVariants.{Rw}
use Rattle.neph_base.specs.declared.reply.Reply.TheVariants as reply
use Rattle.neph_base.specs.declared.sizes.TheConstants.{PAGE_BYTES}
use Rattle.neph_model.specs.declared.memory.Mapping.{Mapping}
use Rattle.neph_model.specs.declared.own.Own.{Own}
use Rattle.neph_model.specs.declared.script.Script.{Script}
use Rattle.neph_model.specs.declared.told.Told.TheVariants.{Enough}
use Rattle.neph_model.specs.Own.{settle, local_step}
use Rattle.neph_gmap.specs.GuestPages.{GuestPages}
use Rattle.neph_pool.specs.declared.entry.Entry.{Entry}
use Rattle.neph_pool.specs.World.{World}
use Rattle.neph_memory.specs.declared.dom_local.DomLocal.{DomLocal}
use Rattle.neph_memory.specs.declared.write.Write.{Write}
use Rattle.neph_memory.specs.declared.write.WriteStep.TheVariants as step
use Rattle.neph_memory.specs.Pages.{frame_at}
use Rattle.neph_memory.specs.declared.own.Own.{Own as Memory}
use Rattle.neph_memory.specs.Memory.{bytes_for, is_marked}
use Rattle.neph_memory.specs.Steps.{IsStepOn, IsWriteStep, with_write, page_after_step}
use Rattle.neph_memory.specs.Domains.{domain_page, KeepsPages, KeepsMap, KeepsLeaves, IsSharedPage, KeepsPlaces, MakesAlone, TookSpare}
use Rattle.neph_memory.proofs.Telling.{took_before}
use Rattle.neph_guest.specs.declared.live.Guest.{Guest}
use Rattle.neph_guest.specs.declared.row.Row.TheVariants as row
use Rattle.neph_guest.specs.OwnHalf.{IsOwnMemory, IsOwnHalf}
use Rattle.neph_guest.specs.Turns.{IsWriteInHand, IsLineInHand, RowDone, HasWritten, memory_step}
use Rattle.neph_guest.proofs.Staying.{write_done}
use Rattle.neph_guest.proofs.Settling.{settled}

same_some : (a b : Write) → Some a ≡ Some b → a ≡ b
same_some a b e = cc

ready_step : (es : List (Option Entry)) (x : Option ℕ) (pfn : ℕ) → IsSome x → IsStepOn (bytes_for es x) (record { pfn = pfn; mode = Rw }) step.Done
ready_step es None pfn h = absurd (cc)
ready_step es (Some f) pfn h = tt

module _ {Pool Seat : Type 0} (W : World Pool Seat) (p : Pool) (d : DomLocal Pool Seat) where
  -- the page of the write in hand is the domain's own
  pub page_in_hand : (c : Command) → IsLineInHand W p d c → (w : Write) → d.hand ≡ Some w → IsSome (frame_at d.own.map.pages w.pfn)
  page_in_hand (command.W addr bytes) i w e = subst (λ (x : Write). IsSome (frame_at d.own.map.pages x.pfn)) (same_some _ w (sym i.hand ∙ e)) i.own
  page_in_hand (command.R addr len) i w e = absurd i
  page_in_hand (command.Map vpn pfn mode) i w e = absurd i
  page_in_hand (command.Unmap vpn) i w e = absurd i
  page_in_hand (command.Jump label) i w e = absurd i
  page_in_hand (command.JChild label) i w e = absurd i
  page_in_hand (command.JFail label) i w e = absurd i
  page_in_hand command.Exit i w e = absurd i
  page_in_hand command.Free i w e = absurd i
  page_in_hand command.Clone i w e = absurd i
  page_in_hand (command.Ungrant ref) i w e = absurd i
  page_in_hand (command.Gmap granter ref) i w e = absurd i
  page_in_hand (command.Gunmap held) i w e = absurd i
  page_in_hand (command.Hr held at n) i w e = absurd i
  page_in_hand (command.Hw held at bytes) i w e = absurd i

  line_step : (s : Script) (k : ℕ) (o : Own) (c : Command) → IsLineInHand W p d c → local_step s k o Enough c ≡ option_map (settle o) (memory_step o c)
  line_step s k o (command.W addr bytes) i = refl
  line_step s k o (command.R addr len) i = absurd i
  line_step s k o (command.Map vpn pfn mode) i = absurd i
  line_step s k o (command.Unmap vpn) i = absurd i
  line_step s k o (command.Jump label) i = absurd i
  line_step s k o (command.JChild label) i = absurd i
  line_step s k o (command.JFail label) i = absurd i
  line_step s k o command.Exit i = absurd i
  line_step s k o command.Free i = absurd i
  line_step s k o command.Clone i = absurd i
  line_step s k o (command.Ungrant ref) i = absurd i
  line_step s k o (command.Gmap granter ref) i = absurd i
  line_step s k o (command.Gunmap held) i = absurd i
  line_step s k o (command.Hr held at n) i = absurd i
  line_step s k o (command.Hw held at bytes) i = absurd i

  module _ (q : Pool) (e : DomLocal Pool Seat) (count : length e.own.map.pages ≡ length d.own.map.pages) (maps : KeepsMap W p d q e) (leaves : KeepsLeaves W p d q e)
      (bytes : IfSome d.hand (λ h. (x : ℕ) → domain_page W q e x ≡ with_write (domain_page W p d) h.pfn h.at h.bytes x)) where
    written_in_hand : (addr : ℕ) (bs : List ℕ) → IsWriteInHand W p d addr bs → (o : Own) → IsOwnMemory W p d o → RowDone (IsOwnMemory W q e) o (command.W addr bs) (memory_step o (command.W addr bs)) (row.Does reply.Done)
    written_in_hand addr bs i o m =
        let to : Mapping = record { pfn = i.pfn; mode = Rw } in
        let hand = subst (λ (h : Option Write). IfSome h (λ h. (x : ℕ) → domain_page W q e x ≡ with_write (domain_page W p d) h.pfn h.at h.bytes x)) i.hand bytes in
        write_done W p d q e count maps leaves o m addr bs i.range step.Done
        (subst (λ (x : Option Mapping). IsWriteStep (domain_page W p d) x step.Done) (sym i.mapped) (ready_step (W.entries p d.seat) (frame_at d.own.map.pages i.pfn) i.pfn i.own))
        (λ x. hand x ∙ sym (ap (λ (y : Option Mapping). page_after_step step.Done y (domain_page W p d) (addr % PAGE_BYTES) bs x) i.mapped))

    row_in_hand : (c : Command) → IsLineInHand W p d c → (o : Own) → IsOwnMemory W p d o → RowDone (IsOwnMemory W q e) o c (memory_step o c) (row.Does reply.Done)
    row_in_hand (command.W addr bs) i o m = written_in_hand addr bs i o m
    row_in_hand (command.R addr len) i o m = absurd i
    row_in_hand (command.Map vpn pfn mode) i o m = absurd i
    row_in_hand (command.Unmap vpn) i o m = absurd i
    row_in_hand (command.Jump label) i o m = absurd i
    row_in_hand (command.JChild label) i o m = absurd i
    row_in_hand (command.JFail label) i o m = absurd i
    row_in_hand command.Exit i o m = absurd i
    row_in_hand command.Free i o m = absurd i
    row_in_hand command.Clone i o m = absurd i
    row_in_hand (command.Ungrant ref) i o m = absurd i
    row_in_hand (command.Gmap granter ref) i o m = absurd i
    row_in_hand (command.Gunmap held) i o m = absurd i
    row_in_hand (command.Hr held at n) i o m = absurd i
    row_in_hand (command.Hw held at bytes) i o m = absurd i

    -- the guest g goes on behind its write
    pub copied : (g h : Guest) (s : Script) (k : ℕ) (o : Own) (c : Command) → IsLineInHand W p d c → h.line ≡ g.line + 1 → h.came ≡ g.came → h.failed ≡ false
        → IsOwnHalf W p (record { guest = g; local = d }) o → (x : Own) × (local_step s k o Enough c ≡ Some (x, reply.Done)) × IsOwnHalf W q (record { guest = h; local = e }) x
    copied g h s k o c i a b f half =
        let t = settled W p (record { guest = g; local = d }) q e o half c (local_step s k o Enough c) (line_step s k o c i) (row.Does reply.Done) (row_in_hand c i o half.own) in
        (t.0, t.1, record { line = t.2.line ∙ sym a; came = t.2.came ∙ sym b; refused = t.2.refused ∙ sym f; own = t.2.own })

-- A look that leaves the memory l in the pool r comes first, and then the write, which leaves e in q.
module _ {Pool Seat : Type 0} (W : World Pool Seat) (p : Pool) (d : DomLocal Pool Seat) (r : Pool) (l : DomLocal Pool Seat) where
  module _ (w : Write) (is : d.hand ≡ Some w) where
    module _ (q : Pool) (e : DomLocal Pool Seat) (hand : l.hand ≡ d.hand) (map : l.own.map ≡ d.own.map) (spare : l.own.spare ≡ d.own.spare) where
      abbrev IsWritten : Option Write → (ℕ → Option (List ℕ)) → Type 0
      IsWritten z pages = IfSome z (λ h. (x : ℕ) → domain_page W q e x ≡ with_write pages h.pfn h.at h.bytes x)

      pub bytes_before : KeepsPages W p d r l → IsWritten l.hand (domain_page W r l) → IsWritten d.hand (domain_page W p d)
      bytes_before same b =
          subst (λ (z : Option Write). IsWritten z (domain_page W p d)) hand
          (subst (λ (pages : ℕ → Option (List ℕ)). IsWritten l.hand pages) (λ i x. same x i) b)

      pub count_before : length e.own.map.pages ≡ length l.own.map.pages → length e.own.map.pages ≡ length d.own.map.pages
      count_before c = c ∙ ap (λ (m : GuestPages). length m.pages) map

      alone_before : (k : ℕ) → MakesAlone l e k → MakesAlone d e k
      alone_before k a = record {
        mark = a.mark;
        local = a.local;
        others = λ x n. a.others x n ∙ ap (λ (m : GuestPages). frame_at m.pages x) map;
        count = count_before a.count;
      }

      place_by : (k : ℕ) (b : Bool) → b ≡ is_marked l.own k → (b ≡ false → IsSharedPage W p d k) → W.told r ≡ W.told p → (is_marked l.own k ≡ true → e.own ≡ l.own) → (is_marked l.own k ≡ false → TookSpare W r l q e k)
          → KeepsPlaces d e ⊎ (IsSharedPage W p d k × TookSpare W p d q e k)
      place_by k true m page told stays moved = inl (record { map = ap (λ (o : Memory). o.map) (stays (sym m)) ∙ map; spare = ap (λ (o : Memory). o.spare) (stays (sym m)) ∙ spare })
      place_by k false m page told stays moved = inr (page refl, took_before W p d r l q e k told map spare (moved (sym m)))

      -- the write was done behind a look that answered b
      pub has_written : (b : Bool) → b ≡ is_marked l.own w.pfn → (b ≡ false → IsSharedPage W p d w.pfn) → W.told r ≡ W.told p
          → IfSome l.hand (λ h. is_marked l.own h.pfn ≡ true → e.own ≡ l.own) → IfSome l.hand (λ h. is_marked l.own h.pfn ≡ false → TookSpare W r l q e h.pfn) → IfSome l.hand (λ h. MakesAlone l e h.pfn)
          → IfSome d.hand (λ h. HasWritten W p d q e h.pfn)
      has_written b m page told stays moved alone =
          let at : l.hand ≡ Some w = hand ∙ is in
          subst (λ (x : Option Write). IfSome x (λ h. HasWritten W p d q e h.pfn)) (sym is) (record {
            alone = alone_before w.pfn (subst (λ (x : Option Write). IfSome x (λ h. MakesAlone l e h.pfn)) at alone);
            place = place_by w.pfn b m page told
                (subst (λ (x : Option Write). IfSome x (λ h. is_marked l.own h.pfn ≡ true → e.own ≡ l.own)) at stays)
                (subst (λ (x : Option Write). IfSome x (λ h. is_marked l.own h.pfn ≡ false → TookSpare W r l q e h.pfn)) at moved);
          })
