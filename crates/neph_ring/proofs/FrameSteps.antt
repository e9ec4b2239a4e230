-- Reads and writes of a page in a frame.
use Rattle.std.proofs.Common.{◌≡◌, ℕ, List, length, set, get_or, sym, ap, ◌∙◌}
use Rattle.std.specs.declared.option.Option.{Option}
use Rattle.neph_pool.specs.declared.entry.Entry.{Entry}
use Rattle.neph_pool.specs.World.{World, Moves, SameCounts}
use Rattle.neph_pool.specs.Entries.{IsShaped, IsSoleAt, is_here, hold_at, words_at, with_words, with_word}
use Rattle.neph_pool.proofs.Entries.{hold_at-with_words, words_at-with_words, with_words-same}
use Rattle.neph_ring.specs.Frames.{Place, KeepsPlace, page_words}
use Rattle.neph_ring.specs.FrameLaws.{page_words_full}

pub whole : (n : ℕ) (es : List (Option Entry)) (f : ℕ) → IsShaped n es → IsSoleAt es f → length (words_at es f) ≡ 512
whole n es f h sole = h.words f (ap is_here sole)

pub word_read : (n : ℕ) (es : List (Option Entry)) (f w r : ℕ) → IsShaped n es → IsSoleAt es f → r ≡ get_or (words_at es f) w 0 → r ≡ get_or (page_words (words_at es f)) w 0
word_read n es f w r h sole e = e ∙ ap (λ (xs : List ℕ). get_or xs w 0) (sym (page_words_full (words_at es f) (whole n es f h sole)))

pub word_written : (n m : ℕ) (es fs : List (Option Entry)) (f w v : ℕ) → IsShaped n es → IsShaped m fs → IsSoleAt es f → fs ≡ with_word es f w v
    → page_words (words_at fs f) ≡ set (page_words (words_at es f)) w v
word_written n m es fs f w v h k sole e =
    let new : words_at fs f ≡ set (words_at es f) w v = ap (λ (xs : List (Option Entry)). words_at xs f) e ∙ words_at-with_words es f (set (words_at es f) w v) (ap is_here sole) in
    let sole_after : IsSoleAt fs f = ap (λ (xs : List (Option Entry)). hold_at xs f) e ∙ hold_at-with_words es f (set (words_at es f) w v) f ∙ sole in
    page_words_full (words_at fs f) (whole m fs f k sole_after) ∙ new ∙ ap (λ (xs : List ℕ). set xs w v) (sym (page_words_full (words_at es f) (whole n es f h sole)))

pub sole_written : (es fs : List (Option Entry)) (f w v : ℕ) → IsSoleAt es f → fs ≡ with_word es f w v → IsSoleAt fs f
sole_written es fs f w v sole e = ap (λ (xs : List (Option Entry)). hold_at xs f) e ∙ hold_at-with_words es f (set (words_at es f) w v) f ∙ sole

module _ {Pool Seat : Type 0} (W : World Pool Seat) (a b : Place Pool Seat) (pool : b.pool.ghost_name ≡ a.pool.ghost_name) (seat : b.seat.ghost_name ≡ a.seat.ghost_name)
    (frame : b.frame ≡ a.frame) (moves : Moves W a.pool.now a.seat.now b.pool.now b.seat.now) (counts : SameCounts W a.pool.now b.pool.now) where
  pub keeps_read : W.entries b.pool.now b.seat.now ≡ W.entries a.pool.now a.seat.now → KeepsPlace W a b
  keeps_read e = record {
    pool = pool;
    seat = seat;
    frame = frame;
    fits = λ h. moves.fits;
    names = moves.names;
    entries = e ∙ sym (with_words-same (W.entries a.pool.now a.seat.now) a.frame) ∙ ap (λ (xs : List (Option Entry)). with_words (W.entries a.pool.now a.seat.now) a.frame (words_at xs a.frame)) (sym e);
    others = moves.others;
    counts = counts;
  }

  pub keeps_written : (ws : List ℕ) → IsSoleAt (W.entries a.pool.now a.seat.now) a.frame → W.entries b.pool.now b.seat.now ≡ with_words (W.entries a.pool.now a.seat.now) a.frame ws → KeepsPlace W a b
  keeps_written ws sole e = record {
    pool = pool;
    seat = seat;
    frame = frame;
    fits = λ h. moves.fits;
    names = moves.names;
    entries = e ∙ ap (λ (xs : List ℕ). with_words (W.entries a.pool.now a.seat.now) a.frame xs)
        (sym (ap (λ (xs : List (Option Entry)). words_at xs a.frame) e ∙ words_at-with_words (W.entries a.pool.now a.seat.now) a.frame ws (ap is_here sole)));
    others = moves.others;
    counts = counts;
  }
