-- The laws of the plain pool.
use Rattle.std.proofs.Common.{◌≡◌, ◌≢◌, ◌<◌, ◌≤◌, ◌==◌, ℕ, zero, suc, List, [], ◌∷◌, map, length, Bool, true, false, Some, None, refl, ◌∙◌, sym, ap, arith, get_or, eq-eqb, if◌then◌else◌}
use Rattle.std.proofs.lemmas.List.{length-map}
use Rattle.std.specs.declared.option.Option.{Option}
use Rattle.neph_pool.specs.declared.entry.Hold.{Hold}
use Rattle.neph_pool.specs.declared.entry.Hold.TheVariants.{Zero, Sole, Counted}
use Rattle.neph_pool.specs.declared.owners.Owners.{Owners}
use Rattle.neph_pool.specs.declared.owners.Owners.TheVariants.{Spare, Alone, Many}
use Rattle.neph_pool.specs.Frames.{PlainFrame, frame_at}
use Rattle.neph_pool.specs.declared.plain_pool.PlainPool.{PlainPool}
use Rattle.neph_pool.specs.declared.plain_pool.PlainSeat.{PlainSeat}
use Rattle.neph_pool.specs.Entries.{IsShaped, entry_as, hold_of, words_of, hold_at, words_at, is_here, is_held, weight_of}
use Rattle.neph_pool.specs.Names.{IsCapped, name_count}
use Rattle.neph_pool.specs.Owners.{held_by}
use Rattle.neph_pool.specs.Rows.{row_of, names_of, entry_of}
use Rattle.neph_pool.specs.Plain.{plain_world, plain_names}

words_as : (h : Option Hold) (ws : List ℕ) → is_here (hold_of (entry_as h ws)) ≡ true
    → words_of (entry_as h ws) ≡ ws
words_as None ws e = cc
words_as (Some h) ws e = refl

words_of_row : (r : ℕ) (xs : List PlainFrame) (f : ℕ)
    → ((g : ℕ) → g < length xs → length (frame_at xs g).words ≡ 512)
    → is_here (hold_at (map (entry_of r) xs) f) ≡ true
    → length (words_at (map (entry_of r) xs) f) ≡ 512
unfolding hold_at words_at entry_of
words_of_row r [] f full h = cc
words_of_row r (x ∷ xs) zero full h =
    rw (words_as (held_by r x.owners) x.words h) (full zero (omega arith))
words_of_row r (x ∷ xs) (suc f) full h = words_of_row r xs f (λ g lt. full (suc g) (omega arith)) h

some_spare : (b : Bool) → is_held (if b then Some Zero else None) ≡ true
    → 0 < weight_of (if b then Some Zero else None)
some_spare true h = absurd (cc)
some_spare false h = absurd (cc)

some_alone : (b : Bool) → is_held (if b then Some Sole else None) ≡ true
    → 0 < weight_of (if b then Some Sole else None)
some_alone true h = omega arith
some_alone false h = absurd (cc)

some_many : (b : Bool) (n : ℕ) → (n == 0) ≡ b
    → is_held (if b then None else Some (Counted n)) ≡ true
    → 0 < weight_of (if b then None else Some (Counted n))
some_many true n e h = absurd (cc)
some_many false zero e h = absurd (cc)
some_many false (suc n) e h = omega arith

some_held : (r : ℕ) (o : Owners) → is_held (held_by r o) ≡ true → 0 < weight_of (held_by r o)
some_held r (Spare q) h = some_spare (r == q) h
some_held r (Alone q) h = some_alone (r == q) h
some_held r (Many ws) h = some_many (get_or ws.by_row r 0 == 0) (get_or ws.by_row r 0) refl h

most_spare : (b : Bool) → weight_of (if b then Some Zero else None) ≤ 2
most_spare true = omega arith
most_spare false = omega arith

most_alone : (b : Bool) → weight_of (if b then Some Sole else None) ≤ 2
most_alone true = omega arith
most_alone false = omega arith

most_many : (b : Bool) (n : ℕ) → n ≤ 2 → weight_of (if b then None else Some (Counted n)) ≤ 2
most_many true n h = omega arith
most_many false n h = h

most_held : (r : ℕ) (o : Owners) → weight_of (held_by r o) ≤ 2
most_held r (Spare q) = most_spare (r == q)
most_held r (Alone q) = most_alone (r == q)
most_held r (Many ws) = most_many (get_or ws.by_row r 0 == 0) (get_or ws.by_row r 0) (ws.light r)

hold_of-as : (h : Option Hold) (ws : List ℕ) → hold_of (entry_as h ws) ≡ h
hold_of-as None ws = refl
hold_of-as (Some h) ws = refl

some_of_row : (r : ℕ) (xs : List PlainFrame) (f : ℕ)
    → is_held (hold_at (map (entry_of r) xs) f) ≡ true
    → 0 < weight_of (hold_at (map (entry_of r) xs) f)
unfolding hold_at entry_of
some_of_row r [] f h = absurd (cc)
some_of_row r (x ∷ xs) zero h =
    rw (hold_of-as (held_by r x.owners) x.words)
    (some_held r x.owners (ap is_held (sym (hold_of-as (held_by r x.owners) x.words)) ∙ h))
some_of_row r (x ∷ xs) (suc f) h = some_of_row r xs f h

most_of_row : (r : ℕ) (xs : List PlainFrame) (f : ℕ)
    → weight_of (hold_at (map (entry_of r) xs) f) ≤ 2
unfolding hold_at entry_of
most_of_row r [] f = omega arith
most_of_row r (x ∷ xs) zero = rw (hold_of-as (held_by r x.owners) x.words) (most_held r x.owners)
most_of_row r (x ∷ xs) (suc f) = most_of_row r xs f

pub plain_shaped : (p : PlainPool) (s : PlainSeat) → plain_world.fits p s
    → IsShaped (plain_world.frames p) (plain_world.entries p s)
plain_shaped p s h = record {
  places = length-map p.frames (entry_of s.row);
  words = λ f. words_of_row s.row p.frames f h.kept.full;
  some = some_of_row s.row p.frames;
  most = most_of_row s.row p.frames;
}

-- the same names have the same count
pub same_count : (ms ns : ℕ → Bool) → ((d : ℕ) → ms d ≡ ns d) → name_count ms ≡ name_count ns
same_count ms ns h = let e : ms ≡ ns = λ i d. h d i in ap name_count e

has_first : (p : PlainPool) (s : PlainSeat) → plain_world.fits p s → s.row ≡ 0
    → plain_names s 0 ≡ true
has_first p s h e = h.names 0 ∙ eq-eqb (row_of p.rows 0) s.row (h.kept.table.first ∙ sym e)

pub plain_capped : (p : PlainPool) (s : PlainSeat) → plain_world.fits p s
    → IsCapped (plain_world.cap p) (plain_world.names s) (plain_world.entries p s)
plain_capped p s h none =
    let ne : s.row ≢ 0 = (λ (e : s.row ≡ 0).
    let yes : plain_names s 0 ≡ true = has_first p s h e in absurd (cc)) in
    rw (same_count (plain_names s) (names_of p.rows s.row) h.names) (h.kept.capped s.row ne)
