-- The child's memory is built from what its seat has of the parent's pages and from the frames put aside.
use Rattle.std.proofs.Common.{◌≡◌, ◌≢◌, ◌<◌, ◌≤◌, ◌+◌, ◌^◌, ◌↔◌, ◌⊎◌, inl, inr, ℕ, true, false, List, [], length, length-set, slice_index_or, set, slice_get, Some, None, refl, sym, ap, subst, ◌∙◌, arith}
use Rattle.std.specs.declared.option.Option.{Option}
use Rattle.neph_pool.specs.declared.entry.Entry.{Entry}
use Rattle.neph_pool.specs.declared.entry.Hold.{Hold}
use Rattle.neph_pool.specs.declared.entry.Hold.TheVariants.{Sole, Counted}
use Rattle.neph_pool.specs.Entries.{hold_at, IsSoleAt}
use Rattle.neph_pool.proofs.Rows.{same_or_not}
use Rattle.neph_gmap.specs.declared.page.Page.{Page}
use Rattle.neph_gmap.specs.declared.page.Page.TheVariants.{Local as At, Exposed as Away}
use Rattle.neph_gmap.specs.GuestPages.{vpns_at, has_number}
use Rattle.neph_memory.specs.declared.own.Own.{Own}
use Rattle.neph_memory.proofs.Places.{some_same, frame_set, frame_else, place_else}
use Rattle.neph_memory.proofs.Making.{made_as}
use Rattle.neph_memory.proofs.Placing.{placed_made, placed_bytes, placed_new}
use Rattle.neph_pool.specs.Bytes.{bytes_at}
use Rattle.neph_memory.specs.Pages.{frame_of, frame_at}
use Rattle.neph_memory.specs.Memory.{page_bytes, IsMade}
use Rattle.neph_memory.specs.Building.{IsAmong}
use Rattle.neph_local.specs.Forks.{Coming, Adopts, MayAdopt}

none_listed : (u : ℕ) (xs : List ℕ) → xs ≡ [] → has_number u xs ≡ true → ⊥
none_listed u xs e h = let z : false ≡ true = sym (ap (has_number u) e) ∙ h in cc

counted_sole : (h : Option Hold) → h ≡ Some (Counted 1) → h ≡ Some Sole → ⊥
counted_sole h a b = cc

not_true : false ≡ true → ⊥
not_true e = cc

-- ps: the parent's pages, of which no two have one frame; the frames put aside are none of them
module _ (ef : List (Option Entry)) (root : ℕ) (o o' : Own) (ps : List Page) (p next f : ℕ) (frames : List ℕ) (m : IsMade ef root o (Coming ps p next frames))
    (alone : (q x g : ℕ) → frame_at ps q ≡ Some g → frame_at ps x ≡ Some g → q ≡ x) (aside : (g : ℕ) → IsAmong frames g → IsSoleAt ef g) (lt : p < next) (at : frame_at ps p ≡ Some f) (lent : hold_at ef f ≡ Some (Counted 1))
    (away : slice_get o.map.pages p ≡ Some Away) (none : vpns_at o.map p ≡ [])
    (pages : o'.map.pages ≡ set o.map.pages p (At f)) (vpns : o'.map.vpns ≡ o.map.vpns) (marks : o'.marks.items ≡ set o.marks.items p false) where
  came : Coming ps p next frames f
  came = inl (p, omega arith, lt, at)

  aside_not : (g : ℕ) → IsAmong frames g → g ≢ f
  aside_not g h e = counted_sole _ (ap (hold_at ef) e ∙ lent) (aside g h)

  fewer : (g : ℕ) → Coming ps (p + 1) next frames g → Coming ps p next frames g × (g ≢ f)
  fewer g (inl x) = (inl (x.0, omega (arith, x.1), x.2, x.3), λ e. other x.0 x.1 (alone x.0 p f (x.3 ∙ ap Some e) at)) where
    other : (q : ℕ) → p + 1 ≤ q → q ≡ p → ⊥
    other q le e = omega (arith, le, e)
  fewer g (inr h) = (inr h, aside_not g h)

  rest : (g : ℕ) → Coming ps p next frames g → (g ≡ f) ⊎ Coming ps (p + 1) next frames g
  rest g (inl x) = by_case (same_or_not x.0 p) where
    by_case : (x.0 ≡ p) ⊎ (x.0 ≢ p) → (g ≡ f) ⊎ Coming ps (p + 1) next frames g
    by_case (inl e) = inl (some_same g f (sym x.3 ∙ ap (frame_at ps) e ∙ at))
    by_case (inr n) = inr (inl (x.0, omega (arith, n, x.1), x.2, x.3))
  rest g (inr h) = inr (inr h)

  unlisted : (u : ℕ) → u < 2 ^ 18 → has_number u (vpns_at o.map p) ≡ true → ⊥
  unlisted u l h = none_listed u (vpns_at o.map p) none h

  unsole : (false ≡ true) ↔ IsSoleAt ef f
  unsole = (λ h. absurd (not_true h), λ h. absurd (counted_sole _ lent h))

  pub adopted_made : IsMade ef root o' (Coming ps (p + 1) next frames)
  adopted_made = placed_made ef ef root o (Coming ps p next frames) (Coming ps (p + 1) next frames) m p f away unlisted came fewer rest (λ g. refl) (λ g n. refl) false unsole o' pages vpns marks

  pub adopted_bytes : (q : ℕ) → q ≢ p → page_bytes ef o'.map.pages q ≡ page_bytes ef o.map.pages q
  adopted_bytes = placed_bytes ef ef root o (Coming ps p next frames) (Coming ps (p + 1) next frames) m p f away unlisted came fewer rest (λ g. refl) (λ g n. refl) false unsole o' pages vpns marks

  pub adopted_new : page_bytes ef o'.map.pages p ≡ Some (bytes_at ef f)
  adopted_new = placed_new ef ef root o (Coming ps p next frames) (Coming ps (p + 1) next frames) m p f away unlisted came fewer rest (λ g. refl) (λ g n. refl) false unsole o' pages vpns marks

-- a page that the parent has
pub adopts_local : (ef : List (Option Entry)) (root : ℕ) (o o' : Own) (ps : List Page) (n m f : ℕ) (frames : List ℕ) → Adopts ef root o ps n m frames → MayAdopt ef ps frames → 1 ≤ n → n < m → m ≡ length ps → frame_at ps n ≡ Some f
    → o'.map.pages ≡ set o.map.pages n (At f) → o'.map.vpns ≡ o.map.vpns → o'.marks.items ≡ set o.marks.items n false → Adopts ef root o' ps (n + 1) m frames
adopts_local ef root o o' ps n m f frames a k le lt is at pages vpns marks =
    let small : n < length o.map.pages = omega (arith, lt, is, a.count) in
    let away = a.later n (omega arith) small in record {
      made = adopted_made ef root o o' ps n m f frames a.made k.alone k.aside lt at (k.lent n f le at) away (a.unlisted n) pages vpns marks;
      identity = ap (λ (xs : List Page). slice_get xs 0) pages ∙ place_else o.map.pages n 0 (At f) (λ e. omega (arith, e, le)) ∙ a.identity;
      done = λ q l x. by_case q (same_or_not q n) small l x;
      later = λ q l x. ap (λ (xs : List Page). slice_get xs q) pages ∙ place_else o.map.pages n q (At f) (λ e. omega (arith, e, l)) ∙ a.later q (omega (arith, l)) (subst (λ (j : ℕ). q < j) (ap (λ (xs : List Page). length xs) pages ∙ length-set o.map.pages n (At f)) x);
      unlisted = λ q. ap (λ (ls : List (List ℕ)). slice_index_or ls q []) vpns ∙ a.unlisted q;
      count = ap (λ (xs : List Page). length xs) pages ∙ length-set o.map.pages n (At f) ∙ a.count;
    } where
      by_case : (q : ℕ) → (q ≡ n) ⊎ (q ≢ n) → n < length o.map.pages → 1 ≤ q → q < n + 1 → frame_at o'.map.pages q ≡ frame_at ps q
      by_case q (inl e) small l x = ap (frame_at o'.map.pages) e ∙ ap (λ (xs : List Page). frame_at xs n) pages ∙ frame_set o.map.pages n (At f) small ∙ sym at ∙ ap (frame_at ps) (sym e)
      by_case q (inr d) small l x = ap (λ (xs : List Page). frame_at xs q) pages ∙ frame_else o.map.pages n q (At f) d ∙ a.done q l (omega (arith, d, x))

none_some : (x : Option ℕ) (f : ℕ) → x ≡ None → x ≡ Some f → ⊥
none_some x f a b = cc

away_frame : (ps : List Page) (p : ℕ) → slice_get ps p ≡ Some Away → frame_at ps p ≡ None
unfolding frame_at
away_frame ps p e = ap frame_of e

-- a page that the parent hasn't
pub adopts_past : (ef : List (Option Entry)) (root : ℕ) (o : Own) (ps : List Page) (n m : ℕ) (frames : List ℕ) → Adopts ef root o ps n m frames → n < m → m ≡ length ps → frame_at ps n ≡ None → Adopts ef root o ps (n + 1) m frames
adopts_past ef root o ps n m frames a lt is none = record {
  made = made_as ef root o (Coming ps n m frames) a.made (Coming ps (n + 1) m frames) to from;
  identity = a.identity;
  done = λ q l x. by_case q (same_or_not q n) l x;
  later = λ q l x. a.later q (omega (arith, l)) x;
  unlisted = a.unlisted;
  count = a.count;
} where
  to : (g : ℕ) → Coming ps n m frames g → Coming ps (n + 1) m frames g
  to g (inl x) = in_case (same_or_not x.0 n) where
    in_case : (x.0 ≡ n) ⊎ (x.0 ≢ n) → Coming ps (n + 1) m frames g
    in_case (inl e) = absurd (none_some _ g none (ap (frame_at ps) (sym e) ∙ x.3))
    in_case (inr d) = inl (x.0, omega (arith, d, x.1), x.2, x.3)
  to g (inr h) = inr h

  from : (g : ℕ) → Coming ps (n + 1) m frames g → Coming ps n m frames g
  from g (inl x) = inl (x.0, omega (arith, x.1), x.2, x.3)
  from g (inr h) = inr h

  by_case : (q : ℕ) → (q ≡ n) ⊎ (q ≢ n) → 1 ≤ q → q < n + 1 → frame_at o.map.pages q ≡ frame_at ps q
  by_case q (inl e) l x = ap (frame_at o.map.pages) e ∙ away_frame o.map.pages n (a.later n (omega arith) (omega (arith, lt, is, a.count))) ∙ sym none ∙ ap (frame_at ps) (sym e)
  by_case q (inr d) l x = a.done q l (omega (arith, d, x))

-- then only the frames put aside wait
pub adopts_all : (ef : List (Option Entry)) (root : ℕ) (o : Own) (ps : List Page) (n m : ℕ) (frames : List ℕ) → Adopts ef root o ps n m frames → m ≤ n → IsMade ef root o (IsAmong frames)
adopts_all ef root o ps n m frames a le = made_as ef root o (Coming ps n m frames) a.made (IsAmong frames) to (λ g h. inr h) where
  past : (p : ℕ) → n ≤ p → p < m → ⊥
  past p l x = omega (arith, l, x, le)

  to : (g : ℕ) → Coming ps n m frames g → IsAmong frames g
  to g (inl x) = absurd (past x.0 x.1 x.2)
  to g (inr h) = h
