-- Memories in a later pool, in which their seats fit with the entries that they had.
use Rattle.std.proofs.Common.{◌≡◌, ◌+◌, ℕ, List, length, refl, sym, ap, subst, ◌∙◌}
use Rattle.std.specs.declared.option.Option.{Option}
use Rattle.std.specs.Ordering.{nat_cmp}
use Rattle.std.specs.FinMap as map
use Rattle.neph_model.specs.declared.memory.Mapping.{Mapping}
use Rattle.neph_pool.specs.declared.entry.Entry.{Entry}
use Rattle.neph_pool.specs.World.{World}
use Rattle.neph_ptab.specs.Tables.{leaf_at}
use Rattle.neph_memory.specs.declared.dom_local.DomLocal.{DomLocal}
use Rattle.neph_memory.specs.Memory.{page_bytes, vpn_mapping, leaf_count}
use Rattle.neph_memory.specs.Domains.{IsStanding, domain_page, domain_mapping, domain_leaf, domain_leaf_count}
use Rattle.neph_memory.specs.OwnHalf.{IsMemoryOf}
use Rattle.neph_memory.proofs.HalfParts.{same}
use Rattle.neph_gmap.specs.declared.page.Page.{Page}
use Rattle.neph_local.specs.Forks.{IsForking, Forks, IsForkInHand}
use Rattle.neph_local.specs.declared.forking.Fork.{Fork}
use Rattle.neph_local.proofs.Stepping.{unchanged_stands}

module _ {Pool Seat : Type 0} (W : World Pool Seat) (p q : Pool) (d : DomLocal Pool Seat) (e : W.entries q d.seat ≡ W.entries p d.seat) where
  pub stands_later : IsStanding W p d → W.fits q d.seat → W.cap q ≡ W.cap p → IsStanding W q d
  stands_later s f c = unchanged_stands W p d q d s (record { entries = e; own = refl; root = refl; id = refl; hand = refl; cap = c; fits = f; names = refl })

  pub page_later : (x : ℕ) → domain_page W q d x ≡ domain_page W p d x
  page_later x = ap (λ (es : List (Option Entry)). page_bytes es d.own.map.pages x) e

  pub mapping_later : (u : ℕ) → domain_mapping W q d u ≡ domain_mapping W p d u
  mapping_later u = ap (λ (es : List (Option Entry)). vpn_mapping es d.tables.root d.own.map.pages u) e

  pub leaf_later : (i : ℕ) → domain_leaf W q d i ≡ domain_leaf W p d i
  leaf_later i = ap (λ (es : List (Option Entry)). leaf_at es d.tables.root i) e

  pub leaf_count_later : domain_leaf_count W q d ≡ domain_leaf_count W p d
  leaf_count_later = ap (λ (es : List (Option Entry)). leaf_count es d.tables.root) e

  pub memory_later : (pages : List (Option (List ℕ))) (vmap : map.FinMap nat_cmp Mapping) (leaves : List ℕ) → IsMemoryOf W p d pages vmap leaves → IsMemoryOf W q d pages vmap leaves
  memory_later pages vmap leaves m =
      same (length d.own.map.pages) (domain_page W p d) (domain_mapping W p d) (domain_leaf W p d) pages vmap leaves m (length d.own.map.pages) (domain_page W q d) (domain_mapping W q d) (domain_leaf W q d) refl
      page_later (λ u lt. mapping_later u) (λ g lt. leaf_later g)

  -- what the seat of a child or of a fork holds
  pub forks_later : (s : Seat) (child next : ℕ) (ps : List Page) (xs : List ℕ) → Forks W p d.seat s child ps next xs → W.fits q s → W.entries q s ≡ W.entries p s → Forks W q d.seat s child ps next xs
  forks_later s child next ps xs h f k = record {
    fits = f;
    names = h.names;
    forking = subst (λ (es : List (Option Entry)). IsForking es (W.entries q s) ps next xs) (sym e) (subst (λ (es : List (Option Entry)). IsForking (W.entries p d.seat) es ps next xs) (sym k) h.forking);
  }

  pub fork_later : (k : Fork Pool Seat) → IsForkInHand W p d k → W.fits q k.seat → W.entries q k.seat ≡ W.entries p k.seat → IsForkInHand W q d k
  fork_later k h f s = record {
    forks = forks_later k.seat k.child k.next d.own.map.pages k.frames.items h.forks f s;
    began = h.began;
    apart = h.apart;
    enough = h.enough ∙ ap (λ (n : ℕ). n + 2) (sym leaf_count_later);
  }
