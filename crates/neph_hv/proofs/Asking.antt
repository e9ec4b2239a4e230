-- A command of a domain that is asked of the hypervisor.
use Rattle.std.proofs.Common.{◌≡◌, ◌≢◌, ◌<◌, ◌^◌, ◌/◌, ℕ, Bool, true, List, [], Some, None, refl, sym, ap, subst, ◌∙◌, length}
use Rattle.std.specs.Prelude.{option_map}
use Rattle.std.specs.declared.option.Option.{Option}
use Rattle.neph_base.specs.declared.command.Command.{Command}
use Rattle.neph_base.specs.declared.command.Command.TheVariants as command
use Rattle.neph_base.specs.declared.reply.Reply.{Reply}
use Rattle.neph_model.specs.declared.memory.Mapping.{Mapping}
use Rattle.neph_model.specs.declared.own.Own.{Own}
use Rattle.neph_model.specs.declared.told.Told.{Told}
use Rattle.neph_model.specs.Lent.{Lent, lent, nothing_lent}
use Rattle.neph_model.specs.Machine.{Exposed, Shared, is_live}
use Rattle.neph_model.specs.Step.{locked, shared_line}
use Rattle.neph_model.specs.Trap.{is_exposed}
use Rattle.neph_pool.specs.Names.{IsApart, both_names}
use Rattle.neph_pool.specs.World.{World, Moves}
use Rattle.neph_memory.specs.declared.dom_local.DomLocal.{DomLocal}
use Rattle.neph_memory.specs.Domains.{IsStanding, IsUnchanged}
use Rattle.neph_memory.specs.Memory.{mapping, pfn_by, wanted_by, IsSpareAt}
use Rattle.neph_memory.specs.OwnHalf.{IsMemoryOf}
use Rattle.neph_memory.specs.Pages.{frame_at}
use Rattle.neph_memory.proofs.Relisting.{mapped_small}
use Rattle.neph_memory.proofs.Standing.{stands_spared}
use Rattle.neph_local.proofs.Stepping.{unchanged_trans, unchanged_spared}
use Rattle.neph_ptab.specs.Tables.{walk_at}
use Rattle.neph_rows.specs.Records.{shared_of, without_shares}
use Rattle.neph_rows.specs.Row.{MayBeAsked, MeetsExposed}
use Rattle.neph_heap.proofs.Heaps.{spares_then}
use Rattle.neph_heap.proofs.Maps.{shown_is}
use Rattle.neph_hyper.specs.Guests.{MayTrap}
use Rattle.neph_hv.specs.declared.hv.Hv.{Hv}
use Rattle.neph_hv.specs.Hv.{IsHv, exposed_in, shared_in}
use Rattle.neph_hv.specs.Serving.{IsServed, IsReadMet, told_in}
use Rattle.neph_hv.specs.Calls.{HasDone}
use Rattle.neph_hv.proofs.Sparing.{apart_flip, heap_spared, shown_spared, spares_left, spares_right}
use Rattle.neph_hv.proofs.Committing.{apart_from}

mapping_pfn : (x : Option ℕ) (b : Bool) (to : Mapping) → mapping x b ≡ Some to → x ≡ Some to.pfn
mapping_pfn None b to e = ap (option_map (λ (t : Mapping). t.pfn)) e
mapping_pfn (Some p) b to e = ap (option_map (λ (t : Mapping). t.pfn)) e

-- what is lent to a command that is no clone is what its address maps to
pub lent_met : (o : Own) (c : Command) → c ≢ command.Clone → (m : Option Mapping) → (lent o c).met ≡ m → lent o c ≡ record nothing_lent { met = m }
lent_met o (command.W addr bytes) far m e = ap (λ (v : Option Mapping). record nothing_lent { met = v }) e
lent_met o (command.R addr len) far m e = ap (λ (v : Option Mapping). record nothing_lent { met = v }) e
lent_met o command.Clone far m e = absurd (far refl)
lent_met o _ far m e = ap (λ (v : Option Mapping). record nothing_lent { met = v }) e

-- the hypervisor h, which serves the domain d in the pool p, behind a look of the domain at its own memory
module _ {Pool Seat : Type 0} (W : World Pool Seat) (p : Pool) (h : Hv Pool Seat) (d : DomLocal Pool Seat) (s : IsServed W p h d) (stands : IsStanding W p d) (q : Pool) (e : DomLocal Pool Seat) (standing : IsStanding W q e) (same : IsUnchanged W p d q e) (look : Moves W p d.seat q e.seat) where
  flipped : IsApart (W.names d.seat) (W.names h.heap.seat)
  flipped = apart_flip (W.names h.heap.seat) (W.names d.seat) s.apart

  apart_now : IsApart (W.names h.heap.seat) (W.names e.seat)
  apart_now = apart_from (W.names h.heap.seat) (W.names d.seat) (W.names e.seat) same.names s.apart

  pub met_hv : IsHv W q h
  met_hv = heap_spared W (W.names d.seat) p q h.heap.seat h.heap.stock [] s.hv look.others flipped

  met_shown : exposed_in W q h ≡ exposed_in W p h
  met_shown = shown_spared W (W.names d.seat) p q h.heap.seat h.heap.stock [] s.hv look.others flipped

  away_shown : (v : ℕ) (to : Mapping) → v < 2 ^ 18 → mapping (pfn_by d.own.map.pages (walk_at (W.entries p d.seat) d.tables.root v)) (wanted_by (walk_at (W.entries p d.seat) d.tables.root v)) ≡ Some to → frame_at d.own.map.pages to.pfn ≡ None → is_exposed (exposed_in W q h) e.id to.pfn ≡ true
  away_shown v to lt maps none =
      let small = mapped_small (W.entries p d.seat) d.tables.root d.own (IsSpareAt d.own) stands.memory.made v to.pfn lt (mapping_pfn _ _ to maps) in
      ap (λ (i : ℕ). is_exposed (exposed_in W q h) i to.pfn) same.id ∙ ap (λ (pages : List Exposed). is_exposed pages d.id to.pfn) met_shown
      ∙ shown_is (W.entries p h.heap.seat) h.heap.stock.exposed d.id to.pfn ∙ s.away to.pfn small none

  -- it is live
  pub asker_lives : is_live e.id h.registry.lives ≡ true
  asker_lives = subst (λ (i : ℕ). is_live i h.registry.lives ≡ true) (sym same.id) s.live

  -- it may be asked
  pub may_ask : (c : Command) (m : Option Mapping) → MayTrap W p d c → IsReadMet W p d c m → MayBeAsked (exposed_in W q h) e.id m c
  may_ask (command.R addr len) m may met = subst (MeetsExposed (exposed_in W q h) e.id) (sym (met.0 ∙ may.maps)) (away_shown (addr / 4096) may.to met.1 may.maps may.away)
  may_ask (command.Ungrant r) m may met = may
  may_ask _ m may met = tt

  -- and behind its call
  module _ (r : Pool) (k : Hv Pool Seat) (call : Moves W q h.heap.seat r k.heap.seat) where
    pub asked_stands : IsStanding W r e
    asked_stands = stands_spared W (W.names h.heap.seat) q r e.seat e.id e.tables.root e.own standing call.others apart_now

    pub asked_same : IsUnchanged W p d r e
    asked_same = unchanged_trans W p d q e r e same (unchanged_spared W (W.names h.heap.seat) q r e same.fits call.others apart_now)

    pub asked_done : (hv : IsHv W r k) (shares : W.shares r ≡ W.shares p) (registry : without_shares k.registry ≡ without_shares h.registry) (stock : k.heap.stock ≡ h.heap.stock) (c : Command) (m : Option Mapping) (told : Told) (y : Reply)
        → c ≢ command.Clone → ((o : Own) → IsMemoryOf W p d o.pages o.vmap o.leaves → (lent o c).met ≡ m) → told ≡ told_in (length h.heap.stock.free) c
        → shared_line (shared_in W q h) e.id (record nothing_lent { met = m }) told c ≡ locked (shared_in W r k) y → HasDone W p h r k d e c y
    asked_done hv shares registry stock c m told y far met is row =
        let a : ℕ → Bool = W.names h.heap.seat in
        let b : ℕ → Bool = W.names d.seat in
        let here : shared_in W q h ≡ shared_in W p h = ap (λ (pages : List Exposed). shared_of h.registry pages) met_shown in
        let plain : shared_line (shared_in W p h) d.id (record nothing_lent { met = m }) (told_in (length h.heap.stock.free) c) c ≡ locked (shared_in W r k) y =
        ap (λ (sh : Shared). shared_line sh d.id (record nothing_lent { met = m }) (told_in (length h.heap.stock.free) c) c) (sym here) ∙ ap (λ (i : ℕ). shared_line (shared_in W q h) i (record nothing_lent { met = m }) (told_in (length h.heap.stock.free) c) c) (sym same.id)
        ∙ ap (λ (t : Told). shared_line (shared_in W q h) e.id (record nothing_lent { met = m }) t c) (sym is) ∙ row in
        record {
          call = record {
            hv = hv;
            others = spares_then W (both_names a b) p q r (spares_right W a b p q look.others) (spares_left W a b q r call.others);
            shares = shares;
          };
          row = λ o mem. ap (λ (v : Lent). shared_line (shared_in W p h) d.id v (told_in (length h.heap.stock.free) c) c) (lent_met o c far m (met o mem)) ∙ plain;
          kept = record { registry = registry; stock = stock; names = call.names };
        }
