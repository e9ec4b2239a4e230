-- What a call on a domain's memory, or on another domain's, leaves of the guest as it was.
use Rattle.std.proofs.Common.{◌≡◌, ℕ, List, length, IsSome, refl, sym, ap, subst, ◌∙◌}
use Rattle.std.specs.declared.option.Option.{Option}
use Rattle.neph_base.specs.declared.command.Command.{Command}
use Rattle.neph_base.specs.declared.command.Command.TheVariants as command
use Rattle.neph_model.specs.declared.own.Own.{Own}
use Rattle.neph_pool.specs.declared.entry.Entry.{Entry}
use Rattle.neph_pool.specs.World.{World}
use Rattle.neph_ptab.specs.Tables.{leaf_at}
use Rattle.neph_gmap.specs.declared.page.Page.{Page}
use Rattle.neph_memory.specs.declared.dom_local.DomLocal.{DomLocal}
use Rattle.neph_memory.specs.declared.own.Own.{Own as Memory}
use Rattle.neph_memory.specs.Pages.{frame_at}
use Rattle.neph_memory.specs.Memory.{vpn_mapping, page_bytes}
use Rattle.neph_memory.specs.Domains.{domain_page, domain_mapping, domain_leaf, KeepsPages, KeepsMap, KeepsLeaves, IsUnchanged}
use Rattle.neph_memory.proofs.HalfParts.{same}
use Rattle.neph_guest.specs.declared.live.Guest.{Guest}
use Rattle.neph_guest.specs.OwnHalf.{IsOwnHalf}
use Rattle.neph_guest.specs.Turns.{IsWriteInHand, IsLineInHand}
use Rattle.neph_guest.proofs.Staying.{pages_stay, map_stays, leaves_stay}

-- from the memory d in the pool p to the memory e in the pool q
module _ {Pool Seat : Type 0} (W : World Pool Seat) (p : Pool) (d : DomLocal Pool Seat) (q : Pool) (e : DomLocal Pool Seat) where
  write_kept : (addr : ℕ) (bytes : List ℕ) → KeepsMap W p d q e → e.own.map.pages ≡ d.own.map.pages → e.hand ≡ d.hand → IsWriteInHand W p d addr bytes → IsWriteInHand W q e addr bytes
  write_kept addr bytes map pages hand i = record {
    pfn = i.pfn;
    range = i.range;
    mapped = map _ i.range ∙ i.mapped;
    own = subst (λ (ps : List Page). IsSome (frame_at ps i.pfn)) (sym pages) i.own;
    hand = hand ∙ i.hand;
  }

  -- the write of the guest's line stays in hand
  pub line_kept : (c : Command) → KeepsMap W p d q e → e.own.map.pages ≡ d.own.map.pages → e.hand ≡ d.hand → IsLineInHand W p d c → IsLineInHand W q e c
  line_kept (command.W addr bytes) map pages hand i = write_kept addr bytes map pages hand i
  line_kept (command.R addr len) map pages hand i = absurd i
  line_kept (command.Map vpn pfn mode) map pages hand i = absurd i
  line_kept (command.Unmap vpn) map pages hand i = absurd i
  line_kept (command.Jump label) map pages hand i = absurd i
  line_kept (command.JChild label) map pages hand i = absurd i
  line_kept (command.JFail label) map pages hand i = absurd i
  line_kept command.Exit map pages hand i = absurd i
  line_kept command.Free map pages hand i = absurd i
  line_kept command.Clone map pages hand i = absurd i
  line_kept (command.Ungrant ref) map pages hand i = absurd i
  line_kept (command.Gmap granter ref) map pages hand i = absurd i
  line_kept (command.Gunmap held) map pages hand i = absurd i
  line_kept (command.Hr held at n) map pages hand i = absurd i
  line_kept (command.Hw held at bytes) map pages hand i = absurd i

  -- the own half stays
  pub half_kept : (g : Guest) (o : Own) → length e.own.map.pages ≡ length d.own.map.pages → KeepsPages W p d q e → KeepsMap W p d q e → KeepsLeaves W p d q e
      → IsOwnHalf W p (record { guest = g; local = d }) o → IsOwnHalf W q (record { guest = g; local = e }) o
  half_kept g o count pages map leaves h = record {
    line = h.line;
    came = h.came;
    refused = h.refused;
    own = record {
      memory = same (length d.own.map.pages) (domain_page W p d) (domain_mapping W p d) (domain_leaf W p d) o.pages o.vmap o.leaves h.own.memory
          (length e.own.map.pages) (domain_page W q e) (domain_mapping W q e) (domain_leaf W q e) count pages map leaves;
      marks = h.own.marks;
    };
  }

  -- where nothing has changed
  pub line_unchanged : (c : Command) → IsUnchanged W p d q e → IsLineInHand W p d c → IsLineInHand W q e c
  line_unchanged c u i = line_kept c (map_stays W p d q e u) (ap (λ (o : Memory). o.map.pages) u.own) u.hand i

  pub half_unchanged : (g : Guest) (o : Own) → IsUnchanged W p d q e → IsOwnHalf W p (record { guest = g; local = d }) o → IsOwnHalf W q (record { guest = g; local = e }) o
  half_unchanged g o u h = half_kept g o (ap (λ (m : Memory). length m.map.pages) u.own) (pages_stay W p d q e u) (map_stays W p d q e u) (leaves_stay W p d q e u) h

-- a call on other seats: the domain's seat has the entries that it had
module _ {Pool Seat : Type 0} (W : World Pool Seat) (p q : Pool) (d : DomLocal Pool Seat) (stays : W.entries q d.seat ≡ W.entries p d.seat) where
  pub pages_spared : KeepsPages W p d q d
  pages_spared x = ap (λ (es : List (Option Entry)). page_bytes es d.own.map.pages x) stays

  pub map_spared : KeepsMap W p d q d
  map_spared v lt = ap (λ (es : List (Option Entry)). vpn_mapping es d.tables.root d.own.map.pages v) stays

  pub leaves_spared : KeepsLeaves W p d q d
  leaves_spared i lt = ap (λ (es : List (Option Entry)). leaf_at es d.tables.root i) stays

  pub line_spared : (c : Command) → IsLineInHand W p d c → IsLineInHand W q d c
  line_spared c i = line_kept W p d q d c map_spared refl refl i

  pub half_spared : (g : Guest) (o : Own) → IsOwnHalf W p (record { guest = g; local = d }) o → IsOwnHalf W q (record { guest = g; local = d }) o
  half_spared g o h = half_kept W p d q d g o refl pages_spared map_spared leaves_spared h
