-- A page that lies in a frame of a pool.
use Rattle.std.specs.Prelude.{◌≡◌, ◌++◌, ℕ, List, take, replicate}
use Rattle.std.specs.Borrow.{MutBor}
use Rattle.std.specs.declared.option.Option.{Option}
use Rattle.neph_pool.specs.declared.entry.Entry.{Entry}
use Rattle.neph_pool.specs.World.{World, Spares, SameCounts}
use Rattle.neph_pool.specs.Entries.{IsSoleAt, words_at, with_words}
use Rattle.neph_pool.specs.Names.{IsNamed}

-- a pool and a seat that are borrowed, and a frame
pub record Place (Pool Seat : Type 0) : Type 0 where
  pub pool : MutBor Pool
  pub seat : MutBor Seat
  pub frame : ℕ

-- the seat is one of the pool's, has a name, and has the frame to itself
pub record IsPlace {Pool Seat : Type 0} (W : World Pool Seat)
    (p : Pool) (s : Seat) (f : ℕ) : Type 0 where
  pub fits : W.fits p s
  pub named : IsNamed (W.names s)
  pub sole : IsSoleAt (W.entries p s) f

-- 512 words; a frame has no others
unfoldable pub page_words : List ℕ → List ℕ
page_words ws = take 512 (ws ++ replicate 512 0)

-- the entries of the pool, as the seat sees them
abbrev pub place_entries :
    {Pool Seat : Type 0} → World Pool Seat → Place Pool Seat → List (Option Entry)
place_entries W a = W.entries a.pool.now a.seat.now

-- the words of the frame, as the seat sees them
abbrev pub place_words : {Pool Seat : Type 0} → World Pool Seat → Place Pool Seat → List ℕ
place_words W a = page_words (words_at (place_entries W a) a.frame)

-- The same pool, seat and frame are borrowed. The seat keeps its names, and its entries but for the
-- words of this frame. Every other seat is as it was, no count of references changed, and nothing
-- was shared.
pub record KeepsPlace {Pool Seat : Type 0} (W : World Pool Seat)
    (a b : Place Pool Seat) : Type 0 where
  pub pool : b.pool.ghost_name ≡ a.pool.ghost_name
  pub seat : b.seat.ghost_name ≡ a.seat.ghost_name
  pub frame : b.frame ≡ a.frame
  pub fits : W.fits a.pool.now a.seat.now → W.fits b.pool.now b.seat.now
  pub names : W.names b.seat.now ≡ W.names a.seat.now
  pub entries : place_entries W b
      ≡ with_words (place_entries W a) a.frame (words_at (place_entries W b) a.frame)
  pub others : Spares W (W.names a.seat.now) a.pool.now b.pool.now
  pub counts : SameCounts W a.pool.now b.pool.now
