-- Children that wait for their second stage, oldest first.
use Rattle.std.specs.Prelude.{◌≡◌, ℕ, List, ◌∷◌, Option, slice_get}

-- the child that has waited longest
abbrev pub oldest : List ℕ → Option ℕ
oldest waiting = slice_get waiting 0

-- the child that has waited longest waits no more
abbrev pub TakesOldest : List ℕ → List ℕ → ℕ → Type 0
TakesOldest old new child = old ≡ child ∷ new
