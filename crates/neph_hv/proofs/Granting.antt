-- An entry of a domain's grants is taken away, and its page comes home.
use Rattle.std.proofs.Common.{◌≡◌, inr, inl, ℕ, true, List, length, set, get_or, Option, Some, None, Ok, refl, sym, ap, subst, ◌∙◌, arith}
use Rattle.std.specs.Prelude.{is_some, option_map, slice_get}
use Rattle.std.specs.FinMap as fm
use Rattle.std.proofs.lemmas.List.{length-set, get_or-set_same, get_or-set_other}
use Rattle.neph_base.specs.declared.command.Command.TheVariants as command
use Rattle.neph_base.specs.declared.reply.Reply.{Reply}
use Rattle.neph_grant.specs.declared.entry.GrantEntry.{GrantEntry}
use Rattle.neph_grant.specs.Table.{Grants}
use Rattle.neph_model.specs.declared.own.Own.{Own}
use Rattle.neph_model.specs.declared.told.Told.{Told}
use Rattle.neph_model.specs.Lent.{PageBack, nothing_lent}
use Rattle.neph_model.specs.Machine.{guest_at}
use Rattle.neph_model.specs.Step.{shared_line}
use Rattle.neph_model.specs.Trap.{exposed_bytes, is_exposed}
use Rattle.neph_pool.specs.World.{World}
use Rattle.neph_pool.proofs.Rows.{same_or_not}
use Rattle.neph_gmap.specs.declared.page.Page.{Page}
use Rattle.neph_gmap.specs.declared.page.Page.TheVariants.{Local, Exposed as Away}
use Rattle.neph_memory.specs.declared.dom_local.DomLocal.{DomLocal}
use Rattle.neph_memory.specs.Domains.{domain_page}
use Rattle.neph_memory.specs.OwnHalf.{IsMemoryOf}
use Rattle.neph_rows.specs.Row.{NamedBy}
use Rattle.neph_heap.specs.Lists.{Lists}
use Rattle.neph_heap.proofs.Maps.{shown_is}
use Rattle.neph_hyper.specs.Guests.{IsUngranted}
use Rattle.neph_hv.specs.declared.hv.Hv.{Hv}
use Rattle.neph_hv.specs.Hv.{exposed_in, shared_in}
use Rattle.neph_hv.specs.Serving.{HasGranted, IsAway, IsServed}
use Rattle.neph_hv.specs.Grants.{HasBack, HasUngranted, Regains}

-- the page that a granted entry names
named_away : (stock : Lists) (t : Grants) (id : ℕ) (pages : List Page) (r pfn : ℕ) → HasGranted stock t id pages → (x : Option GrantEntry) → fm.get t r ≡ x → option_map (λ (e : GrantEntry). e.pfn) x ≡ Some pfn → IsAway stock id pages pfn
named_away stock t id pages r pfn has None at is = absurd cc
named_away stock t id pages r pfn has (Some e) at is = subst (IsAway stock id pages) (same is) (has r e at) where
  same : Some e.pfn ≡ Some pfn → e.pfn ≡ pfn
  same e = cc

module _ {Pool Seat : Type 0} (W : World Pool Seat) (p : Pool) (h : Hv Pool Seat) (d : DomLocal Pool Seat) (s : IsServed W p h d) (r pfn : ℕ) (x : Option ℕ) (some : x ≡ Some pfn) (named : NamedBy (guest_at d.id h.registry.tables).grants r (Ok x)) where
  away : IsAway h.heap.stock d.id d.own.map.pages pfn
  away = named_away h.heap.stock (guest_at d.id h.registry.tables).grants d.id d.own.map.pages r pfn s.granted _ refl (subst (λ (v : Option ℕ). NamedBy (guest_at d.id h.registry.tables).grants r (Ok v)) some named)

  pub named_exposed : is_exposed (exposed_in W p h) d.id pfn ≡ true
  named_exposed = shown_is (W.entries p h.heap.seat) h.heap.stock.exposed d.id pfn ∙ away.exposed

  pub named_gone : slice_get d.own.map.pages pfn ≡ Some Away
  named_gone = away.away

-- what the memory means behind a page that came home
module _ {Pool Seat : Type 0} (W : World Pool Seat) (p : Pool) (h : Hv Pool Seat) (d : DomLocal Pool Seat) (q : Pool) (k : Hv Pool Seat) (e : DomLocal Pool Seat) where
  pub regains_means : (pfn : ℕ) → Regains W p h d q k e pfn → (o : Own) → IsMemoryOf W p d o.pages o.vmap o.leaves
      → IsMemoryOf W q e (set o.pages pfn (Some (exposed_bytes (exposed_in W p h) d.id pfn))) o.vmap o.leaves
  regains_means pfn g o mem =
      let lt = g.inside in
      let bytes = exposed_bytes (exposed_in W p h) d.id pfn in
      let number = mem.count in
      let pages : e.own.map.pages ≡ set d.own.map.pages pfn (Local g.frame) = ap (λ m. m.pages) g.page.map in
      record {
        count = length-set o.pages pfn (Some bytes) ∙ mem.count ∙ sym (ap (λ (l : List Page). length l) pages ∙ length-set d.own.map.pages pfn (Local g.frame));
        page = λ x. elim (same_or_not x pfn) [
          | inl at ↦ subst (λ (v : ℕ). get_or (set o.pages pfn (Some bytes)) v None ≡ domain_page W q e v) (sym at) (get_or-set_same o.pages pfn (Some bytes) None (omega (arith, lt, number)) ∙ sym g.bytes)
          | inr far ↦ get_or-set_other o.pages pfn x (Some bytes) None far ∙ mem.page x ∙ sym (g.page.others x far)
        ];
        mapping = λ v low. mem.mapping v low ∙ sym (g.page.mappings v low);
        past = mem.past;
        group = λ i low. mem.group i low ∙ ap is_some (sym (g.page.leaves i low));
        low = mem.low;
        once = mem.once;
      }

  pub ungranted_answered : (r : ℕ) (y : Reply) → HasUngranted W p h d q k e r y → IsUngranted W p d q e r y
  ungranted_answered r y did = by did.back did.row did.memory where
    by : (back : Option PageBack) → ((told : Told) → shared_line (shared_in W p h) d.id nothing_lent told (command.Ungrant r) ≡ record { shared = shared_in W q k; reply = y; back = back }) → HasBack W p h d q k e back → IsUngranted W p d q e r y
    by None row m = record {
      old = shared_in W p h;
      new = shared_in W q k;
      back = None;
      row = row;
      means = λ o mem. subst (λ (v : Pool). IsMemoryOf W v e o.pages o.vmap o.leaves) (sym m.0) (subst (λ (v : DomLocal Pool Seat). IsMemoryOf W p v o.pages o.vmap o.leaves) (sym m.1) mem);
    }
    by (Some b) row m = record {
      old = shared_in W p h;
      new = shared_in W q k;
      back = Some b;
      row = row;
      means = λ o mem. subst (λ (v : List ℕ). IsMemoryOf W q e (set o.pages b.pfn (Some v)) o.vmap o.leaves) (sym m.1) (regains_means b.pfn m.0 o mem);
    }
