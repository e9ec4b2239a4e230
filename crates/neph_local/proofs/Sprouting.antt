-- A child's memory before it has pages: its root stands, and all else of its seat waits.
use Rattle.std.proofs.Common.{subst, ◌≡◌, ◌≢◌, ◌<◌, ◌≤◌, ◌^◌, ◌++◌, ◌⊎◌, inl, inr, ℕ, List, [], ◌∷◌, length, replicate, Some, None, sym, ap, ◌∙◌, arith}
use Rattle.neph_memory.specs.Memory.{page_bytes}
use Rattle.neph_pool.specs.Bytes.{bytes_of, bytes_at}
use Rattle.std.specs.declared.option.Option.{Option}
use Rattle.neph_pool.specs.declared.entry.Entry.{Entry}
use Rattle.neph_pool.specs.declared.entry.Hold.{Hold}
use Rattle.neph_pool.specs.declared.entry.Hold.TheVariants.{Sole, Counted}
use Rattle.neph_pool.specs.Entries.{hold_at, weight_of, with_words, IsOnceAt, IsSoleAt}
use Rattle.neph_ptab.specs.declared.walk.Walk.TheVariants.{None as Unmapped}
use Rattle.neph_ptab.specs.Tables.{leaf_at, walk_at, IsTables}
use Rattle.neph_gmap.specs.declared.page.Page.{Page}
use Rattle.neph_gmap.specs.declared.page.Page.TheVariants.{Exposed as Away}
use Rattle.neph_memory.specs.declared.own.Own.{Own}
use Rattle.neph_memory.proofs.Building.{took, fewer, rest, once_new, sole_new, wiped_holds, wiped_else}
use Rattle.neph_local.proofs.Rooted.{rooted_made, rooted_starts, pages_long}
use Rattle.neph_memory.specs.Pages.{frame_at}
use Rattle.neph_memory.specs.Building.{IsAmong}
use Rattle.neph_pool.specs.Handing.{AreDistinct}
use Rattle.neph_local.specs.Forks.{IsDone, IsForking, Coming, Adopts, MayAdopt}

counted_sole : (h : Option Hold) → h ≡ Some (Counted 1) → h ≡ Some Sole → ⊥
counted_sole h a b = cc

-- es: the parent's entries; ef, fs: the child's before and after; the fork has come past the last page
module _ (es ef fs : List (Option Entry)) (ps : List Page) (root n : ℕ) (old new : List ℕ) (o : Own) (ws : List ℕ) (k : IsForking es ef ps n old) (long : length ps ≡ n) (is : old ≡ new ++ root ∷ [])
    (e : fs ≡ with_words ef root ws) (t : IsTables fs root) (walks : (v : ℕ) → v < 2 ^ 18 → walk_at fs root v ≡ Unmapped) (no_leaf : (i : ℕ) → i < 512 → leaf_at fs root i ≡ None) (few : n ≤ 1024)
    (map : o.map ≡ record { pages = replicate n Away; vpns = replicate n [] }) (marks : length o.marks.items ≡ n)
    (alone : (q x g : ℕ) → frame_at ps q ≡ Some g → frame_at ps x ≡ Some g → q ≡ x) (small : (p g : ℕ) → frame_at ps p ≡ Some g → p < n) (some : 0 < n) where
  holds : (g : ℕ) → hold_at fs g ≡ hold_at ef g
  holds = wiped_holds ef fs root ws e

  sole_root : IsSoleAt ef root
  sole_root = k.aside root (took ef fs old new root is k.once k.aside holds)

  less : (g : ℕ) → IsAmong new g → IsAmong old g × (g ≢ root)
  less = fewer ef fs old new root is k.once k.aside holds

  once : (g : ℕ) → Coming ps 1 n new g → IsOnceAt ef g
  once g (inl x) = ap weight_of (k.lent g x)
  once g (inr h) = ap weight_of (k.aside g (less g h).0)

  other : (g : ℕ) → Coming ps 1 n new g → g ≢ root
  other g (inl x) d = counted_sole _ (k.lent g x) (ap (hold_at ef) d ∙ sole_root)
  other g (inr h) d = (less g h).1 d

  still_in : (g : ℕ) → (g ≡ root) ⊎ IsAmong new g → (g ≡ root) ⊎ Coming ps 1 n new g
  still_in g (inl d) = inl d
  still_in g (inr h) = inr (inr h)

  still : (g : ℕ) → IsDone ps n g ⊎ IsAmong old g → (g ≡ root) ⊎ Coming ps 1 n new g
  still g (inl x) = inr (inl x)
  still g (inr h) = still_in g (rest ef fs old new root is k.once k.aside holds g h)

  pub sprouts : Adopts fs root o ps 1 n new
  sprouts = let s = rooted_starts ef fs root n o ws (Coming ps 1 n new) e t walks no_leaf once other (λ g h. still g (k.only g h)) few map marks in record {
    identity = s.waits 0 (omega arith) (subst (λ (j : ℕ). 0 < j) (sym (pages_long ef fs root n o ws (Coming ps 1 n new) e t walks no_leaf once other (λ g h. still g (k.only g h)) few map marks)) some);
    made = rooted_made ef fs root n o ws (Coming ps 1 n new) e t walks no_leaf once other (λ g h. still g (k.only g h)) few map marks;
    done = λ q l x. absurd (omega (arith, l, x));
    later = λ q l x. s.waits q (omega arith) x;
    unlisted = λ q. s.unlisted q (omega arith);
    count = pages_long ef fs root n o ws (Coming ps 1 n new) e t walks no_leaf once other (λ g h. still g (k.only g h)) few map marks ∙ sym long;
  }

  pub may_adopt : MayAdopt fs ps new
  may_adopt = record {
    alone = alone;
    aside = sole_new ef fs old new root is k.once k.aside holds;
    lent = λ p g le at. holds g ∙ k.lent g (p, le, small p g at, at);
  }

  pub sprout_once : AreDistinct new
  sprout_once = once_new ef fs old new root is k.once k.aside holds

  not_root : (g : ℕ) → hold_at ef g ≡ Some (Counted 1) → g ≢ root
  not_root g h d = counted_sole _ h (ap (hold_at ef) d ∙ sole_root)

  -- the parent's pages are what the child's references show
  pub sprout_bytes : (q f : ℕ) → 1 ≤ q → frame_at ps q ≡ Some f → page_bytes es ps q ≡ Some (bytes_at fs f)
  sprout_bytes q f le at =
      k.bytes q f le (small q f at) at ∙ ap (λ (xs : List ℕ). Some (bytes_of xs)) (sym (wiped_else ef fs root ws e f (not_root f (k.lent f (q, le, small q f at, at)))))
