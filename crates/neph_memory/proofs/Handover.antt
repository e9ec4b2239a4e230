-- A frame that a seat has to itself goes over to another seat.
use Rattle.std.proofs.Common.{◌≡◌, ◌≢◌, ◌∷◌, [], ℕ, Bool, false, List, length, set, Some, None, refl, sym, ap, ◌∙◌}
use Rattle.std.specs.declared.option.Option.{Option}
use Rattle.neph_pool.specs.declared.entry.Entry.{Entry}
use Rattle.neph_pool.specs.declared.entry.Hold.{Hold}
use Rattle.neph_pool.specs.declared.entry.Hold.TheVariants.{Zero, Sole, Counted}
use Rattle.neph_pool.specs.Entries.{entry_at, entry_as, words_of, hold_at, words_at, is_here, is_whole, without, IsSoleAt}
use Rattle.neph_pool.specs.Handing.{giving, left_hold, moved_hold, left_after, moved_into, MayHand}
use Rattle.neph_pool.specs.Names.{IsApart}
use Rattle.neph_pool.proofs.Walks.{left_one, moved_one, may_one}
use Rattle.neph_pool.proofs.Parts.{hold_at-giving, hold_at-giving_other, hold_at-taking, hold_at-taking_other, words_at-taking, place_of}
use Rattle.neph_memory.proofs.Sparing.{words_else}

whole_not : (h : Option Hold) → h ≡ Some Sole → is_whole h ≡ false → ⊥
whole_not None e w = cc
whole_not (Some Zero) e w = cc
whole_not (Some Sole) e w = cc
whole_not (Some (Counted n)) e w = cc

-- such a frame may go to any seat
pub may_go : (es to : List (Option Entry)) (f : ℕ) → IsSoleAt es f → MayHand es to (f ∷ [])
may_go es to f s = may_one es to f (ap is_here s, λ w. absurd (whole_not (hold_at es f) s w))

module _ (es es' : List (Option Entry)) (f : ℕ) (left : es' ≡ left_after es (f ∷ [])) where
  pub given_holds : (g : ℕ) → g ≢ f → hold_at es' g ≡ hold_at es g
  given_holds g n = ap (λ (xs : List (Option Entry)). hold_at xs g) (left ∙ left_one es f) ∙ hold_at-giving_other es f g n

  pub given_words : (g : ℕ) → g ≢ f → words_at es' g ≡ words_at es g
  given_words g n = ap (λ (xs : List (Option Entry)). words_at xs g) (left ∙ left_one es f) ∙ words_else es f g _ n

  pub given_gone : IsSoleAt es f → hold_at es' f ≡ None
  given_gone s = ap (λ (xs : List (Option Entry)). hold_at xs f) (left ∙ left_one es f) ∙ hold_at-giving es f (place_of es es f refl (ap is_here s)) ∙ ap left_hold s

giving_sole : (es : List (Option Entry)) (f : ℕ) → IsSoleAt es f → giving es f ≡ without es f
unfolding hold_at without
giving_sole es f s = ap (λ (h : Option Hold). set es f (entry_as (left_hold h) (words_of (entry_at es f)))) s

pub given_without : (es es' : List (Option Entry)) (f : ℕ) → es' ≡ left_after es (f ∷ []) → IsSoleAt es f → es' ≡ without es f
given_without es es' f left s = left ∙ left_one es f ∙ giving_sole es f s

module _ (es to to' : List (Option Entry)) (f : ℕ) (moved : to' ≡ moved_into es to (f ∷ [])) where
  pub got_holds : (g : ℕ) → g ≢ f → hold_at to' g ≡ hold_at to g
  got_holds g n = ap (λ (xs : List (Option Entry)). hold_at xs g) (moved ∙ moved_one es to f) ∙ hold_at-taking_other es to f g n

  pub got_words : (g : ℕ) → g ≢ f → words_at to' g ≡ words_at to g
  got_words g n = ap (λ (xs : List (Option Entry)). words_at xs g) (moved ∙ moved_one es to f) ∙ words_else to f g _ n

  pub got_here : length to ≡ length es → IsSoleAt es f → IsSoleAt to' f
  got_here long s = ap (λ (xs : List (Option Entry)). hold_at xs f) (moved ∙ moved_one es to f) ∙ hold_at-taking es to f (place_of es to f long (ap is_here s)) ∙ ap moved_hold s

  pub got_same : length to ≡ length es → IsSoleAt es f → words_at to' f ≡ words_at es f
  got_same long s =
      ap (λ (xs : List (Option Entry)). words_at xs f) (moved ∙ moved_one es to f)
      ∙ words_at-taking es to f (place_of es to f long (ap is_here s)) (ap is_here (ap moved_hold s))

-- two seats that keep their names stay apart
pub apart_same : (ns ms ns' ms' : ℕ → Bool) → ns' ≡ ns → ms' ≡ ms → IsApart ns ms → IsApart ns' ms'
apart_same ns ms ns' ms' e d a k x y = a k (ap (λ (h : ℕ → Bool). h k) (sym e) ∙ x) (ap (λ (h : ℕ → Bool). h k) (sym d) ∙ y)

pub apart_flip : (ns ms ns' ms' : ℕ → Bool) → ns' ≡ ns → ms' ≡ ms → IsApart ns ms → IsApart ms' ns'
apart_flip ns ms ns' ms' e d a k x y = a k (ap (λ (h : ℕ → Bool). h k) (sym e) ∙ y) (ap (λ (h : ℕ → Bool). h k) (sym d) ∙ x)
