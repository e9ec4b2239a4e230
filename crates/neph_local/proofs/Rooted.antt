-- A memory without pages of its own, while other frames wait.
use Rattle.std.proofs.Common.{◌≡◌, ◌≢◌, ◌<◌, ◌≤◌, ◌^◌, ◌⊎◌, ◌&&◌, inl, inr, ℕ, zero, suc, Bool, true, List, [], length, replicate, slice_get, slice_index_or, Some, None, refl, sym, ap, subst, ◌∙◌, arith}
use Rattle.std.specs.declared.option.Option.{Option}
use Rattle.neph_pool.specs.declared.entry.Entry.{Entry}
use Rattle.neph_pool.specs.Entries.{hold_at, is_here, weight_of, with_words, IsOnceAt}
use Rattle.neph_pool.proofs.Entries.{hold_at-with_words}
use Rattle.neph_ptab.specs.declared.walk.Walk.{Walk}
use Rattle.neph_ptab.specs.declared.walk.Walk.TheVariants.{None as Unmapped}
use Rattle.neph_ptab.specs.Tables.{leaf_at, walk_at, IsTable, IsTables}
use Rattle.neph_gmap.specs.declared.page.Page.{Page}
use Rattle.neph_gmap.specs.declared.page.Page.TheVariants.{Exposed as Away}
use Rattle.neph_gmap.specs.GuestPages.{GuestPages, vpns_at, has_number}
use Rattle.neph_memory.specs.declared.own.Own.{Own}
use Rattle.std.proofs.lemmas.Bool.{le-ltb}
use Rattle.neph_local.proofs.Starting.{showing, starting}
use Rattle.neph_memory.specs.Pages.{frame_at}
use Rattle.neph_memory.specs.Memory.{mapping, pfn_by, wanted_by, bytes_for, IsPageAt, LeadsTo, IsMade}
use Rattle.neph_local.specs.Starts.{StartsTo, starts_local}

none_there : (n p f : ℕ) → frame_at (replicate n Away) p ≡ Some f → ⊥
unfolding frame_at
none_there zero p f e = cc
none_there (suc n) zero f e = cc
none_there (suc n) (suc p) f e = none_there n p f e

no_list : (n p v : ℕ) → has_number v (slice_index_or (replicate n []) p []) ≡ true → ⊥
no_list zero p v e = cc
no_list (suc n) zero v e = cc
no_list (suc n) (suc p) v e = no_list n p v e

pub long : {X : Type 0} (n : ℕ) (x : X) → length (replicate n x) ≡ n
long zero x = refl
long (suc n) x = ap suc (long n x)

none_some : (x : Option ℕ) (f : ℕ) → x ≡ None → x ≡ Some f → ⊥
none_some x f a b = cc

away_at : (n q : ℕ) → q < n → slice_get (replicate n Away) q ≡ Some Away
away_at zero q lt = absurd (omega arith)
away_at (suc n) zero lt = refl
away_at (suc n) (suc q) lt = away_at n q (omega arith)

empty_at : (n q : ℕ) → ◌≡◌ {A = List ℕ} (slice_index_or (replicate n []) q []) []
empty_at zero q = refl
empty_at (suc n) zero = refl
empty_at (suc n) (suc q) = empty_at n q

no_frame : (n q : ℕ) → frame_at (replicate n Away) q ≡ None
unfolding frame_at
no_frame zero q = refl
no_frame (suc n) zero = refl
no_frame (suc n) (suc q) = no_frame n q

module _ (es fs : List (Option Entry)) (root n : ℕ) (o : Own) (ws : List ℕ) (A : ℕ → Type 0) (e : fs ≡ with_words es root ws) (t : IsTables fs root) (walks : (v : ℕ) → v < 2 ^ 18 → walk_at fs root v ≡ Unmapped)
    (no_leaf : (i : ℕ) → i < 512 → leaf_at fs root i ≡ None) (once : (f : ℕ) → A f → IsOnceAt es f) (other : (f : ℕ) → A f → f ≢ root)
    (only : (f : ℕ) → is_here (hold_at es f) ≡ true → (f ≡ root) ⊎ A f) (few : n ≤ 1024)
    (map : o.map ≡ record { pages = replicate n Away; vpns = replicate n [] }) (marks : length o.marks.items ≡ n) where
  pages_are : o.map.pages ≡ replicate n Away
  pages_are = ap (λ (m : GuestPages). m.pages) map

  vpns_are : o.map.vpns ≡ replicate n []
  vpns_are = ap (λ (m : GuestPages). m.vpns) map

  no_page : (p f : ℕ) → frame_at o.map.pages p ≡ Some f → ⊥
  no_page p f h = none_there n p f (ap (λ (ps : List Page). frame_at ps p) (sym pages_are) ∙ h)

  no_vpn : (p v : ℕ) → has_number v (vpns_at o.map p) ≡ true → ⊥
  no_vpn p v h = no_list n p v (ap (λ (ls : List (List ℕ)). has_number v (slice_index_or ls p [])) (sym vpns_are) ∙ h)

  none_shown : (p : ℕ) (w : Walk) → w ≡ Unmapped → pfn_by o.map.pages w ≡ Some p → ⊥
  none_shown p w h k = let z : None ≡ Some p = sym (ap (pfn_by o.map.pages) h) ∙ k in cc

  pub pages_long : length o.map.pages ≡ n
  pages_long = ap (λ (ps : List Page). length ps) pages_are ∙ long n Away

  holds : (g : ℕ) → hold_at fs g ≡ hold_at es g
  holds g = ap (λ (xs : List (Option Entry)). hold_at xs g) e ∙ hold_at-with_words es root ws g

  no_table : (g : ℕ) → g ≢ root → IsTable fs root g → ⊥
  no_table g k (inl d) = k d
  no_table g k (inr x) = none_some _ g (no_leaf x.0 x.1) x.2

  still : (g : ℕ) → (g ≡ root) ⊎ A g → IsTable fs root g ⊎ (IsPageAt o g ⊎ A g)
  still g (inl d) = inl (inl d)
  still g (inr h) = inr (inr h)

  pub rooted_made : IsMade fs root o A
  rooted_made = record {
    tables = t;
    few = subst (λ (k : ℕ). k ≤ 1024) (sym pages_long) few;
    lists = ap (λ (ls : List (List ℕ)). length ls) vpns_are ∙ long n [] ∙ sym pages_long;
    marks = marks ∙ sym pages_long;
    held = λ p f h. absurd (no_page p f h);
    plain = λ p f h k. no_page p f h;
    apart = λ p q f h k. absurd (no_page p f h);
    sole = λ p f h. absurd (no_page p f h);
    once = λ g h. ap weight_of (holds g) ∙ once g h;
    unused = λ g h k. no_table g (other g h) k;
    blank = λ p g h k. no_page p g k;
    only = λ g h. still g (only g (ap is_here (sym (holds g)) ∙ h));
    walks = λ v lt. subst (LeadsTo fs o) (sym (walks v lt)) tt;
    listed = λ p v lt. (λ h. absurd (no_vpn p v h), λ h. absurd (none_shown p (walk_at fs root v) (walks v lt) h));
  }

  pub rooted_starts : StartsTo fs root o 0 0
  rooted_starts = record {
    alone = λ q lt h. absurd (omega (arith, lt));
    waits = λ q le lt. ap (λ (ps : List Page). slice_get ps q) pages_are ∙ away_at n q (subst (λ (k : ℕ). q < k) pages_long lt);
    unlisted = λ q le. ap (λ (ls : List (List ℕ)). slice_index_or ls q []) vpns_are ∙ empty_at n q;
    shows = λ u lt. ap (λ (w : Walk). mapping (pfn_by o.map.pages w) (wanted_by w)) (walks u lt) ∙ sym (ap (showing u) (le-ltb u 0 (omega arith)));
    bytes = λ q. ap (bytes_for fs) (ap (λ (ps : List Page). frame_at ps q) pages_are ∙ no_frame n q) ∙ sym (ap (λ (b : Bool). starting (b && starts_local q)) (le-ltb q 0 (omega arith)));
  }
