-- What a seat has after a copy, after many frames came or went, and at its start.
use Rattle.std.proofs.Common.{◌≡◌, ◌≢◌, ℕ, zero, suc, ◌+◌, ◌<◌, ◌≤◌, inl, inr, true, List, [], ◌∷◌, ◌++◌, replicate, Some, None, refl, sym, ap, ◌∙◌, arith}
use Rattle.std.specs.List.{range_with_len}
use Rattle.std.proofs.lemmas.Bool.Decides.{leb_tells}
use Rattle.std.specs.declared.option.Option.{Option}
use Rattle.neph_pool.specs.declared.entry.Entry.{Entry}
use Rattle.neph_pool.specs.declared.entry.Hold.{Hold}
use Rattle.neph_pool.specs.declared.entry.Hold.TheVariants.{Zero, Sole, Counted}
use Rattle.neph_pool.specs.Entries.{entry_at, hold_at, hold_of, is_here}
use Rattle.neph_pool.specs.Handing.{nothing, either_entry, add_entries}
use Rattle.neph_pool.specs.Rows.{blank_entry}
use Rattle.neph_pool.proofs.Parts.{hold_at-nothing, hold_at-replicate}
use Rattle.neph_accounts.specs.Holdings.{times, Holding, no_holding, HasAt, Has}
use Rattle.neph_accounts.specs.Changes.{HoldsNow}
use Rattle.neph_accounts.proofs.Times.{one_at, one_self, one_else, same_or_not, times_both, times_range, times_past}
use Rattle.neph_accounts.proofs.Holds.{at_page}

-- A page moves to a frame of the seat's own. The seat's reference of the old frame is gone, or was
-- the last: then the old frame is the seat's own.
module _ (es now : List (Option Entry)) (l m : Holding) (f g : ℕ) (has : Has es l)
    (old : 0 < times f l.pages) (new : 0 < times g l.own)
    (pages : (x : ℕ) → times x m.pages + one_at f x ≡ times x l.pages + one_at g x)
    (flying : m.flying ≡ l.flying) (kept : m.kept ≡ l.kept) where
  old_page : (times f l.pages ≡ 1) × (times f l.flying + times f l.own + times f l.kept ≡ 0)
  old_page = let k =
      at_page (hold_at es f) (times f l.pages) (times f l.flying) (times f l.own) (times f l.kept)
      (has f) old in (k.1, k.2)

  apart : g ≢ f
  apart e = let k = ap (λ (x : ℕ). times x l.own) e in omega (arith, k, new, old_page.1)

  same_flying : (x : ℕ) → times x m.flying ≡ times x l.flying
  same_flying x = ap (times x) flying

  same_kept : (x : ℕ) → times x m.kept ≡ times x l.kept
  same_kept x = ap (times x) kept

  others : (x a b : ℕ) → x ≢ f → a ≡ one_at g x → times x m.own + a ≡ times x l.own
      → HasAt (hold_at es x) (times x l.pages) (times x l.flying) (times x l.own) (times x l.kept)
      → HasAt (hold_at es x) (times x m.pages) (times x m.flying) (times x m.own) (times x m.kept)
  others x a b n is own k = by (hold_at es x) k where
    none : one_at f x ≡ 0
    none = one_else f x (λ e. n (sym e))

    by : (h : Option Hold)
        → HasAt h (times x l.pages) (times x l.flying) (times x l.own) (times x l.kept)
        → HasAt h (times x m.pages) (times x m.flying) (times x m.own) (times x m.kept)
    by None e = omega (arith, e, is, own, none, pages x, same_flying x, same_kept x)
    by (Some Zero) e =
        (omega (arith, e.0, is, own, none, pages x, same_flying x), omega (arith, e.1, same_kept x))
    by (Some Sole) e =
        (omega (arith, e.0, is, own, none, pages x), omega (arith, e.1, same_flying x, same_kept x))
    by (Some (Counted c)) e = (
      e.0,
      omega (arith, e.1, e.2, is, own, none, pages x, same_flying x),
      omega (arith, e.2, own, same_kept x),
    )

  pub copied_gone : HoldsNow f None es now → ((x : ℕ) → times x m.own + one_at g x ≡ times x l.own)
      → Has now m
  copied_gone step own x = elim (same_or_not x f) [
    | inl e ↦ rw (e, step.here)
        (omega (
          arith,
          old_page.0,
          old_page.1,
          pages f,
          own f,
          one_self f,
          one_else g f apart,
          same_flying f,
          same_kept f,
        ))
    | inr n ↦ rw (step.others x n) (others x (one_at g x) 0 n refl (own x) (has x))
  ]

  pub copied_kept : HoldsNow f (Some Sole) es now
      → ((x : ℕ) → times x m.own + one_at g x ≡ times x l.own + one_at f x) → Has now m
  copied_kept step own x = elim (same_or_not x f) [
    | inl e ↦ rw (e, step.here) (
      omega (arith, old_page.0, old_page.1, pages f, own f, one_self f, one_else g f apart),
      omega (arith, old_page.1, same_flying f, same_kept f),
    )
    | inr n ↦ rw (step.others x n)
        (others x (one_at g x) 0 n refl (let z = one_else f x (λ e. n (sym e)) in
        omega (arith, own x, z)) (has x))
  ]

-- the pages in flight are the seat's pages from now on
pub flown_home : (es now : List (Option Entry)) (l : Holding) (ys : List ℕ) → Has es l
    → ((g : ℕ) → hold_at now g ≡ hold_at es g)
    → ((g : ℕ) → times g ys ≡ times g l.pages + times g l.flying)
    → Has now (record l { pages = ys; flying = [] })
flown_home es now l ys has same all g = rw (same g) (by (hold_at es g) (has g)) where
  by : (h : Option Hold)
      → HasAt h (times g l.pages) (times g l.flying) (times g l.own) (times g l.kept)
      → HasAt h (times g ys) 0 (times g l.own) (times g l.kept)
  by None e = omega (arith, e, all g)
  by (Some Zero) e = (omega (arith, e.0, all g), e.1)
  by (Some Sole) e = (omega (arith, e.0, e.1, all g), omega (arith, e.1))
  by (Some (Counted c)) e = (e.0, omega (arith, e.1, all g), e.2)

-- a new seat
pub fresh_has : (n : ℕ) → Has (nothing n) no_holding
fresh_has n g = let e = hold_at-nothing n g in rw e refl

past_at : (n f : ℕ) (x : Option Entry) → n ≤ f → entry_at (replicate n x) f ≡ None
past_at zero f x le = refl
past_at (suc n) zero x le = absurd (omega arith)
past_at (suc n) (suc f) x le = past_at n f x (omega arith)

past : (n f : ℕ) (x : Option Entry) → n ≤ f → hold_at (replicate n x) f ≡ None
unfolding hold_at
past n f x le = ap hold_of (past_at n f x le)

blank_hold : hold_of blank_entry ≡ Some Zero
unfolding blank_entry
blank_hold = refl

-- the first seat of a pool, which keeps all frames free
pub first_has : (n : ℕ)
    → Has (replicate n blank_entry) (record no_holding { kept = range_with_len 0 n })
first_has n f = elim (leb_tells (suc f) n) [
  | inl h ↦ (let lt : f < n = (let l = h.1 in omega (arith, l)) in let e =
      hold_at-replicate n f blank_entry lt in
      rw (e, blank_hold) (refl, times_range f 0 n (omega arith) (omega (arith, lt))))
  | inr h ↦ (let le : n ≤ f = (let l = h.1 in omega (arith, l)) in let e =
      past n f blank_entry le in rw e (omega (arith, times_past f 0 n (omega (arith, le)))))
]

-- the holding of two seats
abbrev pub both_holdings : Holding → Holding → Holding
both_holdings l m =
    record {
      pages = l.pages ++ m.pages;
      flying = l.flying ++ m.flying;
      own =
          l.own ++ m.own;
      kept = l.kept ++ m.kept;
    }

either_at : (es fs : List (Option Entry)) (f : ℕ)
    → entry_at (add_entries es fs) f ≡ either_entry (entry_at es f) (entry_at fs f)
unfolding add_entries
either_at [] [] f = refl
either_at [] (y ∷ ys) f = refl
either_at (x ∷ xs) [] f = by (entry_at (x ∷ xs) f) where
  by : (o : Option Entry) → o ≡ either_entry o None
  by None = refl
  by (Some e) = refl
either_at (x ∷ xs) (y ∷ ys) zero = refl
either_at (x ∷ xs) (y ∷ ys) (suc f) = either_at xs ys f

-- `join` of a seat that has nothing of the other's
pub joined_has : (es fs now : List (Option Entry)) (l m : Holding) → Has es l → Has fs m
    → now ≡ add_entries es fs → ((f : ℕ) → is_here (hold_at fs f) ≡ true → hold_at es f ≡ None)
    → Has now (both_holdings l m)
unfolding hold_at
joined_has es fs now l m a b e absent f =
    let k : hold_at now f ≡ hold_of (either_entry (entry_at es f) (entry_at fs f)) =
    ap (λ (xs : List (Option Entry)). hold_of (entry_at xs f)) e
    ∙ ap hold_of (either_at es fs f) in
    rw (
      k,
      times_both f l.pages m.pages,
      times_both f l.flying m.flying,
      times_both f l.own m.own,
      times_both f l.kept m.kept,
    ) (by (entry_at es f) (entry_at fs f) (a f) (b f) (absent f))
  where
    add : (h : Option Hold) (p y o k : ℕ) (p' y' o' k' : ℕ) → HasAt h p y o k
        → p' + y' + o' + k' ≡ 0 → HasAt h (p + p') (y + y') (o + o') (k + k')
    add None p y o k p' y' o' k' e z = omega (arith, e, z)
    add (Some Zero) p y o k p' y' o' k' e z = (omega (arith, e.0, z), omega (arith, e.1, z))
    add (Some Sole) p y o k p' y' o' k' e z = (omega (arith, e.0, z), omega (arith, e.1, z))
    add (Some (Counted c)) p y o k p' y' o' k' e z =
        (e.0, omega (arith, e.1, z), omega (arith, e.2, z))

    add_left : (h : Option Hold) (p y o k : ℕ) (p' y' o' k' : ℕ) → HasAt h p' y' o' k'
        → p + y + o + k ≡ 0 → HasAt h (p + p') (y + y') (o + o') (k + k')
    add_left None p y o k p' y' o' k' e z = omega (arith, e, z)
    add_left (Some Zero) p y o k p' y' o' k' e z = (omega (arith, e.0, z), omega (arith, e.1, z))
    add_left (Some Sole) p y o k p' y' o' k' e z = (omega (arith, e.0, z), omega (arith, e.1, z))
    add_left (Some (Counted c)) p y o k p' y' o' k' e z =
        (e.0, omega (arith, e.1, z), omega (arith, e.2, z))

    by : (x y : Option Entry)
        → HasAt (hold_of x) (times f l.pages) (times f l.flying) (times f l.own) (times f l.kept)
        → HasAt (hold_of y) (times f m.pages) (times f m.flying) (times f m.own) (times f m.kept)
        → (is_here (hold_of y) ≡ true → hold_of x ≡ None)
        → HasAt (hold_of (either_entry x y)) (times f l.pages + times f m.pages)
        (times f l.flying + times f m.flying) (times f l.own + times f m.own)
        (times f l.kept + times f m.kept)
    by None y c d no' =
        add_left (hold_of y) (times f l.pages) (times f l.flying) (times f l.own) (times f l.kept)
        (times f m.pages) (times f m.flying) (times f m.own) (times f m.kept) d c
    by (Some x) None c d no' =
        add (Some x.hold) (times f l.pages) (times f l.flying) (times f l.own) (times f l.kept)
        (times f m.pages) (times f m.flying) (times f m.own) (times f m.kept) c d
    by (Some x) (Some y) c d no' = absurd (let z = no' refl in cc)
