-- What keeps a domain's memory standing.
use Rattle.std.proofs.Common.{◌≡◌, slice_index, length, ℕ, Bool, List, Some, None, IsSome, refl, sym, subst, ap, ◌∙◌, true, false, if◌then◌else◌}
use Rattle.std.specs.declared.option.Option.{Option}
use Rattle.neph_pool.specs.declared.entry.Entry.{Entry}
use Rattle.neph_pool.specs.declared.entry.Hold.TheVariants.{Sole}
use Rattle.neph_pool.specs.Entries.{words_at, with_hold}
use Rattle.neph_pool.specs.Names.{IsApart}
use Rattle.neph_pool.specs.World.{World, Moves, Spares}
use Rattle.neph_ptab.specs.Bits.{leaf_in}
use Rattle.neph_ptab.specs.Tables.{leaf_at}
use Rattle.neph_gmap.specs.declared.page.Page.{Page}
use Rattle.neph_memory.specs.declared.own.Own.{Own}
use Rattle.neph_memory.specs.Pages.{frame_at}
use Rattle.neph_memory.specs.Memory.{IsMemory, vpn_mapping, page_bytes, Stands}
use Rattle.neph_memory.proofs.Rooming.{room_after}
use Rattle.neph_memory.specs.Steps.{with_write}

module _ {Pool Seat : Type 0} (W : World Pool Seat) where
  -- a call that changes no entry
  pub stands_moved : (p : Pool) (s : Seat) (q : Pool) (t : Seat) (id root : ℕ) (o : Own) → Stands W p s id root o → Moves W p s q t → W.entries q t ≡ W.entries p s → Stands W q t id root o
  stands_moved p s q t id root o h m e = record { fits = m.fits; names = m.names ∙ h.names; identity = h.identity; memory = subst (λ (es : List (Option Entry)). IsMemory es root o) (sym e) h.memory; room = room_after (W.entries p s) (W.entries q t) root root (length o.map.pages) (length o.map.pages) (W.cap p) (W.cap q) h.room refl (λ i l. ap (λ (es : List (Option Entry)). leaf_at es root i) e) m.others.cap }

  -- a call on other seats
  pub stands_spared : (ns : ℕ → Bool) (p q : Pool) (s : Seat) (id root : ℕ) (o : Own) → Stands W p s id root o → Spares W ns p q → IsApart ns (W.names s) → Stands W q s id root o
  stands_spared ns p q s id root o h k a = record { fits = k.fits s h.fits a; names = h.names; identity = h.identity; memory = subst (λ (es : List (Option Entry)). IsMemory es root o) (sym (k.entries s h.fits a)) h.memory; room = room_after (W.entries p s) (W.entries q s) root root (length o.map.pages) (length o.map.pages) (W.cap p) (W.cap q) h.room refl (λ i l. ap (λ (es : List (Option Entry)). leaf_at es root i) (k.entries s h.fits a)) k.cap }

pub found_some : (r : Option ℕ) (p : ℕ) → r ≡ Some p → IsSome r
found_some None p e = absurd (cc)
found_some (Some x) p e = refl

-- the page that was found is the one that lies there
pub found_at : (ps : List Page) (f p x : ℕ) (r : Option ℕ) → r ≡ Some p → r ≡ Some x → frame_at ps p ≡ Some f → frame_at ps x ≡ Some f
found_at ps f p x r e h at = let same : p ≡ x = cc in ap (frame_at ps) (sym same) ∙ at

pub look_true : (es fs : List (Option Entry)) (f : ℕ) (b : Bool) → fs ≡ (if b then with_hold es f Sole else es) → b ≡ true → fs ≡ with_hold es f Sole
look_true es fs f true h e = h
look_true es fs f false h e = absurd (cc)

-- what is read of the same entries and pages
pub moved_write : (es fs : List (Option Entry)) (o r : Own) (p at off : ℕ) (bytes : List ℕ) (q : ℕ) → fs ≡ es → r ≡ o → at ≡ off → with_write (page_bytes fs r.map.pages) p at bytes q ≡ with_write (page_bytes es o.map.pages) p off bytes q
moved_write es fs o r p at off bytes q e d h =
    ap (λ (xs : List (Option Entry)). with_write (page_bytes xs r.map.pages) p at bytes q) e
    ∙ ap (λ (x : Own). with_write (page_bytes es x.map.pages) p at bytes q) d
    ∙ ap (λ (k : ℕ). with_write (page_bytes es o.map.pages) p k bytes q) h

pub moved_page : (es fs : List (Option Entry)) (o r : Own) (q : ℕ) → fs ≡ es → r ≡ o → page_bytes fs r.map.pages q ≡ page_bytes es o.map.pages q
moved_page es fs o r q e d = ap (λ (xs : List (Option Entry)). page_bytes xs r.map.pages q) e ∙ ap (λ (x : Own). page_bytes es x.map.pages q) d

pub moved_shown : (es fs : List (Option Entry)) (root top : ℕ) (o r : Own) (u : ℕ) → fs ≡ es → top ≡ root → r ≡ o → vpn_mapping fs top r.map.pages u ≡ vpn_mapping es root o.map.pages u
moved_shown es fs root top o r u e t d =
    ap (λ (xs : List (Option Entry)). vpn_mapping xs top r.map.pages u) e ∙ ap (λ (k : ℕ). vpn_mapping es k r.map.pages u) t ∙ ap (λ (x : Own). vpn_mapping es root x.map.pages u) d

-- the leaf tables are those that the root's words name
pub leaf_words : (es fs : List (Option Entry)) (root i : ℕ) → words_at fs root ≡ words_at es root → leaf_at fs root i ≡ leaf_at es root i
leaf_words es fs root i e = ap (λ (ws : List ℕ). leaf_in (slice_index ws i)) e

pub not_marked : (b : Bool) → b ≡ true → b ≡ false → ⊥
not_marked b h k = cc
