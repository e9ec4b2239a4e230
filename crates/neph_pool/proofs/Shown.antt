-- The frames of given owners and words.
use Rattle.std.proofs.Common.{◌≡◌, ℕ, zero, suc, ◌<◌, List, [], ◌∷◌, length, set, get_or, replicate, refl, sym, ap, ◌∙◌, subst, arith}
use Rattle.neph_pool.specs.declared.owners.Owners.{Owners}
use Rattle.neph_pool.specs.declared.owners.Owners.TheVariants.{Spare}
use Rattle.neph_pool.specs.Page.{blank_page}
use Rattle.neph_pool.specs.Frames.{PlainFrame, blank_frame, frame_at, frames_in, FrameStep}
use Rattle.neph_pool.specs.Holders.{OwnersStep}

pub shown_length : (os : List Owners) (ws : List (List ℕ)) → length (frames_in os ws) ≡ length os
unfolding frames_in
shown_length [] ws = refl
shown_length (o ∷ os) [] = ap suc (shown_length os [])
shown_length (o ∷ os) (w ∷ ws) = ap suc (shown_length os ws)

pub shown_owners : (os : List Owners) (ws : List (List ℕ)) (f : ℕ) (o : Owners) → f < length os → o ≡ get_or os f o → (frame_at (frames_in os ws) f).owners ≡ o
unfolding frames_in
shown_owners [] ws f o h e = absurd (omega arith)
shown_owners (x ∷ os) [] zero o h e = sym e
shown_owners (x ∷ os) [] (suc f) o h e = shown_owners os [] f o (omega arith) e
shown_owners (x ∷ os) (w ∷ ws) zero o h e = sym e
shown_owners (x ∷ os) (w ∷ ws) (suc f) o h e = shown_owners os ws f o (omega arith) e

pub shown_words : (os : List Owners) (ws : List (List ℕ)) (f : ℕ) → f < length os → (frame_at (frames_in os ws) f).words ≡ get_or ws f []
unfolding frames_in
shown_words [] ws f h = absurd (omega arith)
shown_words (x ∷ os) [] zero h = refl
shown_words (x ∷ os) [] (suc f) h = shown_words os [] f (omega arith)
shown_words (x ∷ os) (w ∷ ws) zero h = refl
shown_words (x ∷ os) (w ∷ ws) (suc f) h = shown_words os ws f (omega arith)

pub shown_put : (os : List Owners) (ws : List (List ℕ)) (f : ℕ) (o : Owners) → frames_in (set os f o) ws ≡ set (frames_in os ws) f (record (frame_at (frames_in os ws) f) { owners = o })
unfolding frames_in
shown_put [] ws f o = refl
shown_put (x ∷ os) [] zero o = refl
shown_put (x ∷ os) [] (suc f) o = ap (λ (xs : List PlainFrame). record { owners = x; words = [] } ∷ xs) (shown_put os [] f o)
shown_put (x ∷ os) (w ∷ ws) zero o = refl
shown_put (x ∷ os) (w ∷ ws) (suc f) o = ap (λ (xs : List PlainFrame). record { owners = x; words = w } ∷ xs) (shown_put os ws f o)

pub shown_write : (os : List Owners) (ws : List (List ℕ)) (f : ℕ) (w : List ℕ) → length os ≡ length ws → frames_in os (set ws f w) ≡ set (frames_in os ws) f (record (frame_at (frames_in os ws) f) { words = w })
unfolding frames_in
shown_write [] ws f w e = refl
shown_write (x ∷ os) [] f w e = absurd (omega arith)
shown_write (x ∷ os) (v ∷ ws) zero w e = refl
shown_write (x ∷ os) (v ∷ ws) (suc f) w e = ap (λ (xs : List PlainFrame). record { owners = x; words = v } ∷ xs) (shown_write os ws f w (omega arith))

pub shown_start : (n : ℕ) → frames_in (replicate n (Spare 0)) (replicate n blank_page) ≡ replicate n blank_frame
unfolding frames_in
shown_start zero = refl
shown_start (suc n) = ap (λ (xs : List PlainFrame). blank_frame ∷ xs) (shown_start n)

pub shown_holder : (os : List Owners) (ws : List (List ℕ)) (f : ℕ) → (frame_at (frames_in os ws) f).owners ≡ get_or os f (Spare 0)
unfolding frames_in
shown_holder [] ws f = refl
shown_holder (x ∷ os) [] zero = refl
shown_holder (x ∷ os) [] (suc f) = shown_holder os [] f
shown_holder (x ∷ os) (w ∷ ws) zero = refl
shown_holder (x ∷ os) (w ∷ ws) (suc f) = shown_holder os ws f

-- the owners of one frame changed
pub shown_step : (IsStep : Owners → Owners → Type 0) (os ns : List Owners) (ws : List (List ℕ)) (xs : List PlainFrame) (f : ℕ) → frames_in os ws ≡ xs → OwnersStep IsStep os f ns → FrameStep IsStep xs f (frames_in ns ws)
shown_step IsStep os ns ws xs f e s =
    subst (λ (ys : List PlainFrame). FrameStep IsStep ys f (frames_in ns ws)) e
    (s.0, ap (λ (ks : List Owners). frames_in ks ws) s.1 ∙ shown_put os ws f s.0, subst (λ (o : Owners). IsStep o s.0) (sym (shown_holder os ws f)) s.2)

pub owners_shown : (os : List Owners) (ws : List (List ℕ)) (xs : List PlainFrame) (f : ℕ) → frames_in os ws ≡ xs → (frame_at xs f).owners ≡ get_or os f (Spare 0)
owners_shown os ws xs f e = ap (λ (ys : List PlainFrame). (frame_at ys f).owners) (sym e) ∙ shown_holder os ws f
