-- What the plain pool and its seats mean.
use Rattle.std.specs.Prelude.{◌≡◌, ◌≢◌, ◌*◌, ◌<◌, ◌≤◌, ℕ, Bool, true, false, List, map, replicate, length, slice_index, slice_index_or, Some}
use Rattle.neph_pool.specs.declared.plain_pool.PlainPool.{PlainPool}
use Rattle.neph_pool.specs.declared.plain_pool.PlainSeat.{PlainSeat}
use Rattle.neph_pool.specs.Entries.{entry_count}
use Rattle.neph_pool.specs.Frames.{frame_at}
use Rattle.neph_pool.specs.Names.{name_count}
use Rattle.neph_pool.specs.World.{World}
use Rattle.neph_pool.specs.Rows.{row_entries, total_at, names_of, IsTable, blank_entry}

-- what holds of a plain pool between two calls
pub record IsKept (p : PlainPool) : Type 0 where
  pub table : IsTable p.rows
  pub few : length p.frames ≤ 16384
  pub full : (f : ℕ) → f < length p.frames → length (frame_at p.frames f).words ≡ 512
  pub held : (r : ℕ) → r < 64 → slice_index p.held r ≡ entry_count (row_entries r p.frames)
  pub capped : (r : ℕ) → r ≢ 0
      → entry_count (row_entries r p.frames) ≤ p.cap * name_count (names_of p.rows r)

abbrev pub plain_names : PlainSeat → ℕ → Bool
plain_names s d = slice_index_or s.names d false

-- the seat has a row, whose number is one of its names, and exactly the names that the table has
-- for the row
pub record PlainFits (p : PlainPool) (s : PlainSeat) : Type 0 where
  pub kept : IsKept p
  pub row : s.row < 64
  pub named : plain_names s s.row ≡ true
  pub names : (d : ℕ) → plain_names s d ≡ names_of p.rows s.row d

-- the count of references of each frame
abbrev pub counts_of : PlainPool → List ℕ
counts_of p = map total_at p.frames

abbrev pub plain_world : World PlainPool PlainSeat
plain_world = record {
  names = plain_names;
  met = λ s. s.met;
  fits = PlainFits;
  entries = λ p s. row_entries s.row p.frames;
  frames = λ p. length p.frames;
  cap = λ p. p.cap;
  shares = λ p. p.shares;
  told = λ p. Some (counts_of p);
}

-- a new pool of n frames, with a seat that keeps all of them, as zeros, has every name and has met
-- no count yet
pub record IsStart (n cap : ℕ) (p : PlainPool) (s : PlainSeat) : Type 0 where
  pub fits : PlainFits p s
  pub names : (d : ℕ) → d < 64 → plain_names s d ≡ true
  pub entries : plain_world.entries p s ≡ replicate n blank_entry
  pub met : plain_world.met s ≡ 0
  pub frames : plain_world.frames p ≡ n
  pub most : plain_world.cap p ≡ cap
  pub shares : plain_world.shares p ≡ 0
  pub counts : counts_of p ≡ replicate n 0
