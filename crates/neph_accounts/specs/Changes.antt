-- What a call does to one frame of a seat, and to the lists that name the seat's frames.
use Rattle.std.specs.Prelude.{◌≡◌, ◌≢◌, ℕ, List, ◌∷◌}
use Rattle.std.specs.declared.option.Option.{Option}
use Rattle.neph_pool.specs.declared.entry.Entry.{Entry}
use Rattle.neph_pool.specs.declared.entry.Hold.{Hold}
use Rattle.neph_pool.specs.Entries.{hold_at}
use Rattle.neph_accounts.specs.Holdings.{times}

-- the frame is held so now, and each other frame as before
pub record HoldsNow (f : ℕ) (h : Option Hold) (es now : List (Option Entry)) : Type 0 where
  pub here : hold_at now f ≡ h
  pub others : (other : ℕ) → other ≢ f → hold_at now other ≡ hold_at es other

-- one list names the frame once more than another, and each other frame as often
abbrev pub IsMore : ℕ → List ℕ → List ℕ → Type 0
IsMore f less more = (g : ℕ) → times g more ≡ times g (f ∷ less)
