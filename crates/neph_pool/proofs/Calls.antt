-- What a row of calls leaves as it was.
use Rattle.std.proofs.Common.{◌≡◌, ℕ, Bool, refl, ◌∙◌, subst}
use Rattle.neph_pool.specs.Names.{IsApart}
use Rattle.neph_pool.specs.World.{World, Stays, Spares, Moves, SameCounts}

module _ {Pool Seat : Type 0} (W : World Pool Seat) where
  pub stays_refl : (p : Pool) (s : Seat) → W.fits p s → Stays W p s s
  stays_refl p s h = record { fits = h; names = refl }

  pub stays_trans : (q r : Pool) (s t u : Seat) → Stays W q s t → Stays W r t u → Stays W r s u
  stays_trans q r s t u k l = record { fits = l.fits; names = l.names ∙ k.names }

  pub spares_refl : (ns : ℕ → Bool) (p : Pool) → Spares W ns p p
  spares_refl ns p = record { frames = refl; cap = refl; fits = λ t f a. f; entries = λ t f a. refl }

  -- two calls on seats of the same names
  pub spares_trans : (ns : ℕ → Bool) (p q r : Pool) (ms : ℕ → Bool) → ms ≡ ns → Spares W ns p q → Spares W ms q r → Spares W ns p r
  spares_trans ns p q r ms e h k = let k' = subst (λ (xs : ℕ → Bool). Spares W xs q r) e k in record {
    frames = k'.frames ∙ h.frames;
    cap = k'.cap ∙ h.cap;
    fits = λ t f a. k'.fits t (h.fits t f a) a;
    entries = λ t f a. k'.entries t (h.fits t f a) a ∙ h.entries t f a;
  }

  pub moves_refl : (p : Pool) (s : Seat) → W.fits p s → Moves W p s p s
  moves_refl p s h = record { fits = h; names = refl; others = spares_refl (W.names s) p }

  pub moves_trans : (p : Pool) (s : Seat) (q : Pool) (t : Seat) (r : Pool) (u : Seat) → Moves W p s q t → Moves W q t r u → Moves W p s r u
  moves_trans p s q t r u k l = record { fits = l.fits; names = l.names ∙ k.names; others = spares_trans (W.names s) p q r (W.names t) k.names k.others l.others }

  -- what another seat has after a call
  pub moves_entries : (p : Pool) (s : Seat) (q : Pool) (t x : Seat) → Moves W p s q t → W.fits p x → IsApart (W.names s) (W.names x) → W.entries q x ≡ W.entries p x
  moves_entries p s q t x k h a = k.others.entries x h a

  pub moves_fits : (p : Pool) (s : Seat) (q : Pool) (t x : Seat) → Moves W p s q t → W.fits p x → IsApart (W.names s) (W.names x) → W.fits q x
  moves_fits p s q t x k h a = k.others.fits x h a

  pub same_counts_refl : (p : Pool) → SameCounts W p p
  same_counts_refl p = record { shares = refl; told = refl }

  pub same_counts_trans : (p q r : Pool) → SameCounts W p q → SameCounts W q r → SameCounts W p r
  same_counts_trans p q r h k = record { shares = k.shares ∙ h.shares; told = k.told ∙ h.told }

-- for the attribute of a function that makes several calls
pub ruleset call_laws = (moves_refl, moves_trans, moves_entries, moves_fits)
