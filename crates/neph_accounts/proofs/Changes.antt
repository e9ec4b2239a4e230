-- What the calls of a pool do to one frame.
use Rattle.std.proofs.Common.{◌≡◌, ℕ, Bool, true, false, List, [], ◌∷◌, length, Some, None, refl, ap, ◌∙◌, arith, if◌then◌else◌}
use Rattle.std.specs.declared.option.Option.{Option}
use Rattle.neph_pool.specs.declared.entry.Entry.{Entry}
use Rattle.neph_pool.specs.declared.entry.Hold.{Hold}
use Rattle.neph_pool.specs.declared.entry.Hold.TheVariants.{Zero, Sole, Counted}
use Rattle.neph_pool.specs.Entries.{hold_at, with_hold, without, is_here, weight_of}
use Rattle.neph_pool.specs.Handing.{left_hold, moved_hold, giving, taking, left_after, moved_into}
use Rattle.neph_pool.proofs.Entries.{hold_at-with_hold, hold_at-with_hold_other, hold_at-without, hold_at-without_other}
use Rattle.neph_pool.proofs.Parts.{place_of, hold_at-giving, hold_at-giving_other, hold_at-taking, hold_at-taking_other}
use Rattle.neph_pool.proofs.Walks.{left_one, moved_one}
use Rattle.neph_accounts.specs.Changes.{HoldsNow}

module _ (f : ℕ) (es now : List (Option Entry)) where
  -- the same hold, or the same entries, by another name
  pub now_as : (h k : Option Hold) (gs : List (Option Entry)) → now ≡ gs → h ≡ k
      → HoldsNow f h es gs → HoldsNow f k es now
  now_as h k gs e q a =
      record {
        here = ap (λ (xs : List (Option Entry)). hold_at xs f) e ∙ a.here ∙ q;
        others =
            λ g n. ap (λ (xs : List (Option Entry)). hold_at xs g) e ∙ a.others g n;
      }

  -- no hold changes
  pub now_same : ((g : ℕ) → hold_at now g ≡ hold_at es g) → HoldsNow f (hold_at es f) es now
  now_same h = record { here = h f; others = λ g n. h g }

  -- one call after another
  pub now_then : (h k : Option Hold) (mid : List (Option Entry)) → HoldsNow f h es mid
      → HoldsNow f k mid now → HoldsNow f k es now
  now_then h k mid a b = record { here = b.here; others = λ g n. b.others g n ∙ a.others g n }

  -- `share`, `retake`, and `look` where it tells so
  pub now_hold : (h : Hold) → is_here (hold_at es f) ≡ true → now ≡ with_hold es f h
      → HoldsNow f (Some h) es now
  now_hold h here e =
      now_as (Some h) (Some h)
      (with_hold es f h) e refl
      (record {
        here = hold_at-with_hold es f h here;
        others =
            λ g n. hold_at-with_hold_other es f h g n;
      })

  pub now_gone : now ≡ without es f → HoldsNow f None es now
  now_gone e =
      now_as None None (without es f) e refl
      (record { here = hold_at-without es f; others = λ g n. hold_at-without_other es f g n })

  -- `release`
  pub now_released : (last : Bool) → is_here (hold_at es f) ≡ true
      → now ≡ (if last then with_hold es f Zero else without es f)
      → HoldsNow f (if last then Some Zero else None) es now
  now_released true here e = now_hold Zero here e
  now_released false here e = now_gone e

  -- `hand` of one frame, for the giver
  pub now_given : is_here (hold_at es f) ≡ true → now ≡ left_after es (f ∷ [])
      → HoldsNow f (left_hold (hold_at es f)) es now
  now_given here e =
      let fit = place_of es es f refl here in
      now_as (left_hold (hold_at es f)) (left_hold (hold_at es f)) (giving es f)
      (e ∙ left_one es f) refl
      (record { here = hold_at-giving es f fit; others = λ g n. hold_at-giving_other es f g n })

-- and for the taker
pub now_taken : (f : ℕ) (es to now : List (Option Entry)) → length to ≡ length es
    → is_here (hold_at es f) ≡ true → now ≡ moved_into es to (f ∷ [])
    → HoldsNow f (moved_hold (hold_at es f)) to now
now_taken f es to now long here e =
    let fit = place_of es to f long here in
    now_as f to now (moved_hold (hold_at es f)) (moved_hold (hold_at es f)) (taking es to f)
    (e ∙ moved_one es to f) refl
    (record {
      here = hold_at-taking es to f fit;
      others =
          λ g n. hold_at-taking_other es to f g n;
    })

pub weight_here : (h : Option Hold) → weight_of h ≡ 1 → is_here h ≡ true
weight_here None e = absurd (omega arith)
weight_here (Some h) e = refl

-- `share`, and then `hand` of the frame: the giver has one reference of it again
pub lent_now : (f : ℕ) (es mid now : List (Option Entry)) → weight_of (hold_at es f) ≡ 1
    → mid ≡ with_hold es f (Counted 2) → now ≡ left_after mid (f ∷ [])
    → HoldsNow f (Some (Counted 1)) es now
lent_now f es mid now once e q =
    let first = now_hold f es mid (Counted 2) (weight_here (hold_at es f) once) e in
    now_then f es now (Some (Counted 2))
    (Some (Counted 1)) mid first (now_as f mid now (left_hold (hold_at mid f))
    (Some (Counted 1)) now refl (ap left_hold first.here)
    (now_given f mid now (ap is_here first.here) q))

-- and the taker has the other
pub borrowed_now : (f : ℕ) (es mid to now : List (Option Entry)) → weight_of (hold_at es f) ≡ 1
    → mid ≡ with_hold es f (Counted 2) → length to ≡ length mid → now ≡ moved_into mid to (f ∷ [])
    → HoldsNow f (Some (Counted 1)) to now
borrowed_now f es mid to now once e long q =
    let first = now_hold f es mid (Counted 2) (weight_here (hold_at es f) once) e in
    now_as f to now (moved_hold (hold_at mid f))
    (Some (Counted 1)) now refl (ap moved_hold first.here)
    (now_taken f mid to now long (ap is_here first.here) q)

-- `release` of the last reference, and then `retake`: the seat has the frame to itself
pub retaken_now : (f : ℕ) (es mid now : List (Option Entry)) → weight_of (hold_at es f) ≡ 1
    → mid ≡ with_hold es f Zero → now ≡ with_hold mid f Sole → HoldsNow f (Some Sole) es now
retaken_now f es mid now once e q =
    let first = now_hold f es mid Zero (weight_here (hold_at es f) once) e in
    now_then f es now (Some Zero)
    (Some Sole) mid first (now_hold f mid now Sole (ap is_here first.here) q)
