-- What two seats have after some frames went from one to the other.
use Rattle.std.proofs.Common.{◌≡◌, ℕ, ◌+◌, ◌-◌, ◌<◌, ◌≤◌, inl, inr, ◌==◌, Bool, true, false, List, [], ◌∷◌, length, Some, None, refl, sym, ap, ◌∙◌, arith, if◌then◌else◌}
use Rattle.std.proofs.lemmas.List.{get_or_past}
use Rattle.std.proofs.lemmas.Bool.Decides.{leb_tells}
use Rattle.std.specs.declared.option.Option.{Option}
use Rattle.neph_pool.specs.declared.entry.Entry.{Entry}
use Rattle.neph_pool.specs.declared.entry.Hold.{Hold}
use Rattle.neph_pool.specs.declared.entry.Hold.TheVariants.{Zero, Sole, Counted}
use Rattle.neph_pool.specs.Entries.{entry_at, entry_as, hold_at, hold_of, words_of}
use Rattle.neph_pool.specs.Handing.{left_hold, moved_hold, left_of, moved_of, is_among, left_after, moved_into}
use Rattle.neph_pool.proofs.Walks.{entry_left, entry_moved, length-left_after, length-moved_into, among_here, among_else}
use Rattle.neph_accounts.specs.Holdings.{times, Holding, no_holding, HasAt, Has}
use Rattle.neph_accounts.proofs.Times.{one_at, one_self, one_else, same_or_not, times_cons}
use Rattle.neph_accounts.proofs.Holds.{none_at}

-- how often a holding names a frame
abbrev pub names_of : Holding → ℕ → ℕ
names_of l f = times f l.pages + times f l.flying + times f l.own + times f l.kept

-- one holding is two others together
pub record AreParts (l m part : Holding) : Type 0 where
  pub pages : (f : ℕ) → times f l.pages ≡ times f m.pages + times f part.pages
  pub flying : (f : ℕ) → times f l.flying ≡ times f m.flying + times f part.flying
  pub own : (f : ℕ) → times f l.own ≡ times f m.own + times f part.own
  pub kept : (f : ℕ) → times f l.kept ≡ times f m.kept + times f part.kept

-- a holding is one of these frames
pub record IsOf (part : Holding) (frames : List ℕ) : Type 0 where
  pub among : (f : ℕ) → is_among f frames ≡ true → 0 < names_of part f
  pub else_none : (f : ℕ) → is_among f frames ≡ false → names_of part f ≡ 0

-- a frame is among some as often as it is in their list
pub among_some : (f : ℕ) (fs : List ℕ) → is_among f fs ≡ true → 0 < times f fs
among_some f [] h = absurd (cc)
among_some f (g ∷ fs) h = elim (same_or_not f g) [
  | inl e ↦ (let k = ap (λ (y : ℕ). one_at y f) (sym e) in
      omega (arith, k, one_self f, times_cons f g fs))
  | inr n ↦ omega (arith, among_some f fs (sym (among_else f g fs n) ∙ h), times_cons f g fs)
]

pub among_none : (f : ℕ) (fs : List ℕ) → is_among f fs ≡ false → times f fs ≡ 0
among_none f [] h = refl
among_none f (g ∷ fs) h = elim (same_or_not f g) [
  | inl e ↦ absurd (let k = ap (λ (y : ℕ). is_among f (y ∷ fs)) (sym e) ∙ among_here f fs in
      let z = sym h ∙ k in cc)
  | inr n ↦ omega (
    arith,
    among_none f fs (sym (among_else f g fs n) ∙ h),
    one_else g f (λ e. n (sym e)),
    times_cons f g fs,
  )
]

-- frames of the seat's own
pub own_part : (fs : List ℕ) → IsOf (record no_holding { own = fs }) fs
own_part fs =
    record {
      among = λ f h. omega (arith, among_some f fs h);
      else_none =
          λ f h. omega (arith, among_none f fs h);
    }

-- frames that are kept free
pub kept_part : (fs : List ℕ) → IsOf (record no_holding { kept = fs }) fs
kept_part fs =
    record {
      among = λ f h. omega (arith, among_some f fs h);
      else_none =
          λ f h. omega (arith, among_none f fs h);
    }

hold_as : (h : Option Hold) (ws : List ℕ) → hold_of (entry_as h ws) ≡ h
hold_as None ws = refl
hold_as (Some h) ws = refl

past : (es : List (Option Entry)) (f : ℕ) → length es ≤ f → hold_at es f ≡ None
unfolding hold_at
past es f le = ap hold_of (get_or_past es f None le)

hold_left : (es : List (Option Entry)) (fs : List ℕ) (f : ℕ) (b : Bool) → is_among f fs ≡ b
    → hold_at (left_after es fs) f ≡ (if b then left_hold (hold_at es f) else hold_at es f)
unfolding hold_at
hold_left es fs f b e = elim (leb_tells (length es) f) [
  | inl h ↦
      (let le = h.1 in
      let a = past es f le in
      ap hold_of
      (get_or_past (left_after es fs) f None (omega (arith, le, length-left_after es fs)))
      ∙ sym (by_none b (hold_at es f) a))
  | inr h ↦ (let lt : f < length es = (let l = h.1 in omega (arith, l)) in
      ap hold_of (entry_left es fs f lt)
      ∙ ap (λ (x : Bool). hold_of (if x then left_of (entry_at es f) else entry_at es f)) e ∙ by b)
] where
  by_none : (b : Bool) (h : Option Hold) → h ≡ None → (if b then left_hold h else h) ≡ None
  by_none true h e = ap left_hold e
  by_none false h e = e

  by : (b : Bool)
      → hold_of (if b then left_of (entry_at es f) else entry_at es f) ≡
      (if b then left_hold (hold_of (entry_at es f)) else hold_of (entry_at es f))
  by true = hold_as (left_hold (hold_of (entry_at es f))) (words_of (entry_at es f))
  by false = refl

hold_moved : (es to : List (Option Entry)) (fs : List ℕ) (f : ℕ) (b : Bool) → length to ≡ length es
    → is_among f fs ≡ b
    → hold_at (moved_into es to fs) f ≡ (if b then moved_hold (hold_at es f) else hold_at to f)
unfolding hold_at
hold_moved es to fs f b long e = elim (leb_tells (length to) f) [
  | inl h ↦
      (let le = h.1 in
      ap hold_of
      (get_or_past (moved_into es to fs) f None
      (omega (arith, le, length-moved_into es to fs)))
      ∙ sym (by_none b (hold_at es f) (hold_at to f) (past es f (omega (arith, le, long)))
      (past to f le)))
  | inr h ↦ (let lt : f < length to = (let l = h.1 in omega (arith, l)) in
      ap hold_of (entry_moved es to fs f lt)
      ∙ ap (λ (x : Bool). hold_of (if x then moved_of (entry_at es f) else entry_at to f)) e ∙ by b)
] where
  by_none : (b : Bool) (h k : Option Hold) → h ≡ None → k ≡ None
      → (if b then moved_hold h else k) ≡ None
  by_none true h k e q = ap moved_hold e
  by_none false h k e q = q

  by : (b : Bool)
      → hold_of (if b then moved_of (entry_at es f) else entry_at to f) ≡
      (if b then moved_hold (hold_of (entry_at es f)) else hold_of (entry_at to f))
  by true = hold_as (moved_hold (hold_of (entry_at es f))) (words_of (entry_at es f))
  by false = refl

-- `hand` of some frames, for the giver
pub handed_left : (es now : List (Option Entry)) (fs : List ℕ) (l m part : Holding) → Has es l
    → AreParts l m part → IsOf part fs → now ≡ left_after es fs → Has now m
handed_left es now fs l m part has parts of e f =
    let k : hold_at now f ≡ (if is_among f fs then left_hold (hold_at es f) else hold_at es f) =
    ap (λ (xs : List (Option Entry)). hold_at xs f) e
    ∙ hold_left es fs f (is_among f fs) refl in
    rw k (by (is_among f fs) (of.among f) (of.else_none f) (hold_at es f) (has f))
  where
    gone : (n : ℕ) (b : Bool) → n ≡ 1 → (n == 1) ≡ b → (pages flying own kept : ℕ)
        → pages + flying + own + kept ≡ 0
        → HasAt (if b then None else Some (Counted (n - 1))) pages flying own kept
    gone n true e q pages flying own kept z = z
    gone n false e q pages flying own kept z =
        absurd (let k = ap (λ (y : ℕ). y == 1) e in let j = sym k ∙ q in cc)

    by : (b : Bool) → (b ≡ true → 0 < names_of part f) → (b ≡ false → names_of part f ≡ 0)
        → (h : Option Hold)
        → HasAt h (times f l.pages) (times f l.flying) (times f l.own) (times f l.kept)
        → HasAt (if b then left_hold h else h) (times f m.pages) (times f m.flying) (times f m.own)
        (times f m.kept)
    by true some none None a = let s = some refl in
        absurd (omega (arith, a, s, parts.pages f, parts.flying f, parts.own f, parts.kept f))
    by true some none (Some Zero) a = let s = some refl in
        omega (arith, a.0, a.1, s, parts.pages f, parts.flying f, parts.own f, parts.kept f)
    by true some none (Some Sole) a = let s = some refl in
        omega (arith, a.0, a.1, s, parts.pages f, parts.flying f, parts.own f, parts.kept f)
    by true some none (Some (Counted n)) a = let s = some refl in
        gone n (n == 1) a.0 refl (times f m.pages) (times f m.flying) (times f m.own)
        (times f m.kept)
        (omega (arith, a.1, a.2, s, parts.pages f, parts.flying f, parts.own f, parts.kept f))
    by false some none None a = let z = none refl in
        omega (arith, a, z, parts.pages f, parts.flying f, parts.own f, parts.kept f)
    by false some none (Some Zero) a = let z = none refl in (
      omega (arith, a.0, z, parts.pages f, parts.flying f, parts.own f, parts.kept f),
      omega (arith, a.1, z, parts.kept f),
    )
    by false some none (Some Sole) a = let z = none refl in (
      omega (arith, a.0, z, parts.pages f, parts.flying f, parts.own f, parts.kept f),
      omega (arith, a.1, z, parts.flying f, parts.kept f),
    )
    by false some none (Some (Counted n)) a = let z = none refl in (
      a.0,
      omega (arith, a.1, z, parts.pages f, parts.flying f, parts.own f, parts.kept f),
      omega (arith, a.2, z, parts.own f, parts.kept f),
    )

-- and for the taker, which had none of them
pub handed_moved : (es to now : List (Option Entry)) (fs : List ℕ) (l m part old new : Holding)
    → Has es l → Has to old → AreParts l m part → AreParts new old part → IsOf part fs
    → length to ≡ length es → ((f : ℕ) → is_among f fs ≡ true → hold_at to f ≡ None)
    → now ≡ moved_into es to fs → Has now new
handed_moved es to now fs l m part old new has had parts more of long absent e f =
    let k : hold_at now f ≡ (if is_among f fs then moved_hold (hold_at es f) else hold_at to f) =
    ap (λ (xs : List (Option Entry)). hold_at xs f) e
    ∙ hold_moved es to fs f (is_among f fs) long refl in
    rw k (by (is_among f fs) (of.among f) (of.else_none f) (absent f) (hold_at es f) (has f))
  where
    kept : (h : Option Hold) → names_of part f ≡ 0
        → HasAt h (times f old.pages) (times f old.flying) (times f old.own) (times f old.kept)
        → HasAt h (times f new.pages) (times f new.flying) (times f new.own) (times f new.kept)
    kept None z a = omega (arith, a, z, more.pages f, more.flying f, more.own f, more.kept f)
    kept (Some Zero) z a = (
      omega (arith, a.0, z, more.pages f, more.flying f, more.own f),
      omega (arith, a.1, z, more.kept f),
    )
    kept (Some Sole) z a = (
      omega (arith, a.0, z, more.pages f, more.own f),
      omega (arith, a.1, z, more.flying f, more.kept f),
    )
    kept (Some (Counted n)) z a = (
      a.0,
      omega (arith, a.1, z, more.pages f, more.flying f),
      omega (arith, a.2, z, more.own f, more.kept f),
    )

    by : (b : Bool) → (b ≡ true → 0 < names_of part f) → (b ≡ false → names_of part f ≡ 0)
        → (b ≡ true → hold_at to f ≡ None) → (h : Option Hold)
        → HasAt h (times f l.pages) (times f l.flying) (times f l.own) (times f l.kept)
        → HasAt (if b then moved_hold h else hold_at to f) (times f new.pages) (times f new.flying)
        (times f new.own) (times f new.kept)
    by false some none gone h a = kept (hold_at to f) (none refl) (had f)
    by true some none gone h a =
        here h a (some refl)
        (none_at (hold_at to f) (times f old.pages) (times f old.flying) (times f old.own)
        (times f old.kept) (had f) (gone refl)) where
          here : (h : Option Hold)
              → HasAt h (times f l.pages) (times f l.flying) (times f l.own) (times f l.kept)
              → 0 < names_of part f
              → times f old.pages + times f old.flying + times f old.own + times f old.kept ≡ 0
              → HasAt (moved_hold h) (times f new.pages) (times f new.flying) (times f new.own)
              (times f new.kept)
          here None a s z =
              absurd (omega (arith, a, s, parts.pages f, parts.flying f, parts.own f, parts.kept f))
          here (Some Zero) a s z = (
            omega (
              arith,
              a.0,
              z,
              parts.pages f,
              parts.flying f,
              parts.own f,
              more.pages f,
              more.flying f,
              more.own f,
            ),
            omega (
              arith,
              a.0,
              a.1,
              s,
              z,
              parts.pages f,
              parts.flying f,
              parts.own f,
              parts.kept f,
              more.kept f,
            ),
          )
          here (Some Sole) a s z = (
            omega (
              arith,
              a.0,
              a.1,
              s,
              z,
              parts.pages f,
              parts.flying f,
              parts.own f,
              parts.kept f,
              more.pages f,
              more.own f,
            ),
            omega (arith, a.1, z, parts.flying f, parts.kept f, more.flying f, more.kept f),
          )
          here (Some (Counted n)) a s z = (
            refl,
            omega (
              arith,
              a.1,
              a.2,
              s,
              z,
              parts.pages f,
              parts.flying f,
              parts.own f,
              parts.kept f,
              more.pages f,
              more.flying f,
            ),
            omega (arith, a.2, z, parts.own f, parts.kept f, more.own f, more.kept f),
          )
