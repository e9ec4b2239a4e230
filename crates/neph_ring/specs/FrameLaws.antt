-- The laws of a page in a frame.
use Rattle.std.proofs.Common.{◌≡◌, ◌++◌, ℕ, List, length, replicate, Bool, subst, refl, sym, ap, ◌∙◌, arith, length-append}
use Rattle.std.proofs.lemmas.List.{length-take, length-replicate, take_at}
use Rattle.std.specs.declared.option.Option.{Option}
use Rattle.neph_pool.specs.declared.entry.Entry.{Entry}
use Rattle.neph_pool.specs.World.{World, Spares}
use Rattle.neph_pool.specs.Entries.{words_at, with_words}
use Rattle.neph_pool.proofs.Entries.{with_words-twice, with_words-same}
use Rattle.neph_ring.specs.Frames.{Place, KeepsPlace, page_words}

-- a page has 512 words
pub length-page_words : (ws : List ℕ) → length (page_words ws) ≡ 512
unfolding page_words
length-page_words ws =
    let zeros : List ℕ = replicate 512 0 in
    let z : length zeros ≡ 512 = length-replicate {A = ℕ} 512 0 in
    omega (arith, length-take 512 (ws ++ zeros), length-append ws zeros)

-- 512 words are those of a page as they stand
pub page_words_full : (ws : List ℕ) → length ws ≡ 512 → page_words ws ≡ ws
unfolding page_words
page_words_full ws h = take_at ws (replicate 512 0) 512 h

-- these entries differ from those in the words of one frame alone
abbrev DiffersAt : ℕ → List (Option Entry) → List (Option Entry) → Type 0
DiffersAt f fs es = fs ≡ with_words es f (words_at fs f)

-- two changes to the words of one frame are one change to them
pub entries_trans :
    (es fs gs : List (Option Entry)) (f g : ℕ) → g ≡ f
    → DiffersAt f fs es → DiffersAt g gs fs → DiffersAt f gs es
entries_trans es fs gs f g e a b =
    b ∙ ap (λ (k : ℕ). with_words fs k (words_at gs k)) e
    ∙ ap (λ (xs : List (Option Entry)). with_words xs f (words_at gs f)) a
    ∙ with_words-twice es f (words_at fs f) (words_at gs f)

module _ {Pool Seat : Type 0} (W : World Pool Seat) where
  -- what two steps each leave as it was, both together leave as it was
  spares_trans :
      (ns ms : ℕ → Bool) (p q r : Pool) → ms ≡ ns
      → Spares W ns p q → Spares W ms q r → Spares W ns p r
  spares_trans ns ms p q r e h k =
      let same : Spares W ns q r = subst (λ (xs : ℕ → Bool). Spares W xs q r) e k in
      record {
        frames = same.frames ∙ h.frames;
        cap = same.cap ∙ h.cap;
        fits = λ t f a. same.fits t (h.fits t f a) a;
        entries = λ t f a. same.entries t (h.fits t f a) a ∙ h.entries t f a;
      }

  -- a place that stays as it was is kept
  pub place_same : (a : Place Pool Seat) → KeepsPlace W a a
  place_same a = record {
    pool = refl;
    seat = refl;
    frame = refl;
    fits = λ h. h;
    names = refl;
    entries = sym (with_words-same (W.entries a.pool.now a.seat.now) a.frame);
    others = record { frames = refl; cap = refl; fits = λ t h n. h; entries = λ t h n. refl };
    counts = record { shares = refl; told = refl };
  }

  -- two steps that keep the place keep it together
  pub place_trans :
      (a b c : Place Pool Seat) → KeepsPlace W a b → KeepsPlace W b c → KeepsPlace W a c
  place_trans a b c h k =
      record {
        pool = k.pool ∙ h.pool;
        seat = k.seat ∙ h.seat;
        frame = k.frame ∙ h.frame;
        fits = λ e. k.fits (h.fits e);
        names = k.names ∙ h.names;
        entries = entries_trans _ _ _ a.frame b.frame h.frame h.entries k.entries;
        others = spares_trans (W.names a.seat.now) (W.names b.seat.now)
            a.pool.now b.pool.now c.pool.now h.names h.others k.others;
        counts = record {
          shares = k.counts.shares ∙ h.counts.shares;
          told = k.counts.told ∙ h.counts.told;
        };
      }
