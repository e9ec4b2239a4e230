-- A child grows beside its parent.
use Rattle.std.proofs.Common.{◌≡◌, ◌≢◌, ◌<◌, ◌≤◌, ◌+◌, ℕ, Bool, List, slice_get, sym, ap, subst, ◌∙◌, arith}
use Rattle.neph_pool.specs.Names.{IsApart, both_names, only_name}
use Rattle.neph_pool.specs.World.{World, Spares, Moves}
use Rattle.neph_gmap.specs.declared.page.Page.{Page}
use Rattle.neph_memory.specs.declared.dom_local.DomLocal.{DomLocal}
use Rattle.neph_memory.specs.Pages.{frame_of, frame_at}
use Rattle.neph_memory.specs.Domains.{IsStanding, IsUnchanged}
use Rattle.neph_local.specs.Copies.{IsChildStep}
use Rattle.neph_local.proofs.Crowd.{ids_apart}
use Rattle.neph_local.proofs.Stepping.{spares_trans, spares_right, unchanged_spared, unchanged_trans}

pub frame_from : (ps qs : List Page) (x : ℕ) → slice_get qs x ≡ slice_get ps x → frame_at qs x ≡ frame_at ps x
unfolding frame_at
frame_from ps qs x e = ap frame_of e

module _ {Pool Seat : Type 0} (W : World Pool Seat) (p0 : Pool) (d : DomLocal Pool Seat) (s : Seat) (child : ℕ) (stands : IsStanding W p0 d) (names : W.names s ≡ only_name child) (apart : d.id ≢ child)
    (p1 : Pool) (o1 : Spares W (W.names s) p0 p1) where
  away : IsApart (W.names s) (W.names d.seat)
  away = ids_apart (W.names s) (W.names d.seat) child d.id names stands.names (λ e. apart (sym e))

  pub sprouted_same : IsUnchanged W p0 d p1 d
  sprouted_same = unchanged_spared W (W.names s) p0 p1 d stands.fits o1 away

  pub sprouted_others : Spares W (both_names (W.names d.seat) (W.names s)) p0 p1
  sprouted_others = spares_right W (W.names d.seat) (W.names s) p0 p1 o1

  module _ (c1 : DomLocal Pool Seat) (n1 : W.names c1.seat ≡ W.names s) (p2 : Pool) (c2 : DomLocal Pool Seat) (m2 : Moves W p1 c1.seat p2 c2.seat) where
    o2 : Spares W (W.names s) p1 p2
    o2 = subst (λ (ns : ℕ → Bool). Spares W ns p1 p2) n1 m2.others

    pub placed_same : IsUnchanged W p0 d p2 d
    placed_same = unchanged_trans W p0 d p1 d p2 d sprouted_same (unchanged_spared W (W.names s) p1 p2 d sprouted_same.fits o2 away)

    pub placed_others : Spares W (both_names (W.names d.seat) (W.names s)) p0 p2
    placed_others = spares_trans W (both_names (W.names d.seat) (W.names s)) p0 p1 p2 sprouted_others (spares_right W (W.names d.seat) (W.names s) p1 p2 o2)

    module _ (p3 : Pool) (e3 c3 : DomLocal Pool Seat) (step : IsChildStep W p2 d c2 p3 e3 c3) where
      pub grown_same : IsUnchanged W p0 d p3 e3
      grown_same = unchanged_trans W p0 d p2 d p3 e3 placed_same step.parent

      pub grown_others : Spares W (both_names (W.names d.seat) (W.names s)) p0 p3
      grown_others = spares_trans W (both_names (W.names d.seat) (W.names s)) p0 p2 p3 placed_others
          (subst (λ (ns : ℕ → Bool). Spares W (both_names (W.names d.seat) ns) p2 p3) (m2.names ∙ n1) step.others)

pub zero_or_not : (x n : ℕ) → 1 ≤ x → n ≡ 0 → x ≢ n
zero_or_not x n le e h = omega (arith, le, e, h)

pub some_more : (a b n : ℕ) → a ≡ n + 1 → 0 < a
some_more a b n e = omega (arith, e)

pub one_fewer : (a b n m : ℕ) → b + 1 ≡ a → a ≡ n + 1 → m ≡ n → b ≡ m
one_fewer a b n m h e k = omega (arith, h, e, k)

pub zero_small : 0 < 1024
zero_small = omega arith

pub not_zero : (x : ℕ) → 1 ≤ x → x ≢ 0
not_zero x le e = omega (arith, le, e)

pub some_pages : (n : ℕ) → 8 ≤ n → 0 < n
some_pages n le = omega (arith, le)
