-- What a pool and its seats mean, and what a call leaves as it was.
use Rattle.std.specs.Prelude.{◌≡◌, ℕ, Bool, List, slice_index, slice_set, Some, None}
use Rattle.std.specs.declared.option.Option.{Option}
use Rattle.neph_pool.specs.declared.entry.Entry.{Entry}
use Rattle.neph_pool.specs.Names.{IsNamed, IsApart, only_name}
use Rattle.neph_pool.specs.Handing.{nothing}

-- how the states of a pool and of its seats are read
pub record World (Pool Seat : Type 0) : Type 1 where
  -- the names of a seat
  pub names : Seat → ℕ → Bool
  -- the count of references that its last look or release met
  pub met : Seat → ℕ
  -- the seat is one of this pool
  pub fits : Pool → Seat → Type 0
  -- what the seat has of each frame
  pub entries : Pool → Seat → List (Option Entry)
  -- how many frames there are
  pub frames : Pool → ℕ
  -- how many entries a seat without the name 0 may have for each name
  pub cap : Pool → ℕ
  -- how many times a frame was shared
  pub shares : Pool → ℕ
  -- the count of references of each frame, where the pool tells it
  pub told : Pool → Option (List ℕ)

module _ {Pool Seat : Type 0} (W : World Pool Seat) where
  -- a seat of this pool, with a name
  abbrev pub IsSeat : Pool → Seat → Type 0
  IsSeat p s = W.fits p s × IsNamed (W.names s)

  -- a seat of a call still fits and keeps its names
  pub record Stays (q : Pool) (s t : Seat) : Type 0 where
    pub fits : W.fits q t
    pub names : W.names t ≡ W.names s

  -- every seat with none of these names still fits, with the entries that it had
  pub record Spares (ns : ℕ → Bool) (p q : Pool) : Type 0 where
    pub frames : W.frames q ≡ W.frames p
    pub cap : W.cap q ≡ W.cap p
    pub fits : (t : Seat) → W.fits p t → IsApart ns (W.names t) → W.fits q t
    pub entries : (t : Seat) → W.fits p t → IsApart ns (W.names t) → W.entries q t ≡ W.entries p t

  -- a call with one seat: the seat fits and keeps its names, and all other seats are as they were
  pub record Moves (p : Pool) (s : Seat) (q : Pool) (t : Seat) : Type 0 where
    pub fits : W.fits q t
    pub names : W.names t ≡ W.names s
    pub others : Spares (W.names s) p q

  -- no count of references changes, and nothing was shared
  pub record SameCounts (p q : Pool) : Type 0 where
    pub shares : W.shares q ≡ W.shares p
    pub told : W.told q ≡ W.told p

  -- a new seat with one name and no entry, which has met no count yet
  pub record IsFresh (q : Pool) (t : Seat) (d : ℕ) : Type 0 where
    pub fits : W.fits q t
    pub names : W.names t ≡ only_name d
    pub entries : W.entries q t ≡ nothing (W.frames q)
    pub met : W.met t ≡ 0

-- the counts after that of one frame changed
abbrev pub recounted : (ℕ → ℕ) → ℕ → Option (List ℕ) → Option (List ℕ)
recounted change f None = None
recounted change f (Some counts) = Some (slice_set counts f (change (slice_index counts f)))
