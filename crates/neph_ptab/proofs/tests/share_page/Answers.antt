use Rattle.std.proofs.Common.{◌≡◌, ◌≢◌, ◌==◌, ◌||◌, ◌⊎◌, inl, inr, ℕ, Bool, true, false, [], ◌∷◌, sym, subst, ne_eqb}
use Rattle.neph_pool.proofs.Rows.{same_or_not}
use Rattle.neph_ptab.specs.Moves.{IsLocal, is_shown}
use Rattle.neph_ptab.specs.Tables.{walk_at}
use Rattle.neph_ptab.proofs.tests.share_page.Goals as goal

none : (b : Bool) → b ≡ false → (b || false) ≡ true → ⊥
none true e h = cc
none false e h = cc

only : (u v : ℕ) → (u ≡ v) ⊎ (u ≢ v) → is_shown u (v ∷ []) ≡ true → u ≡ v
only u v (inl e) h = e
only u v (inr n) h = absurd (none (v == u) (ne_eqb v u (λ e. n (sym e))) h)

pub move_page-requires-clause-local : goal.move_page-requires-clause-local
move_page-requires-clause-local g c = λ u lt h.
    let W = g.P.FramePool.world in
    subst (λ (k : ℕ). IsLocal (walk_at (W.entries c.args.pool.now c.args.s.now) c.args.tables.now.root k)) (sym (only u c.args.v (same_or_not u c.args.v) h)) c.requires.local
