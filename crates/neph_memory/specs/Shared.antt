-- What a step leaves as it was of the frames that a seat shares.
use Rattle.std.specs.Prelude.{◌≡◌, ℕ, List}
use Rattle.std.specs.declared.option.Option.{Option}
use Rattle.neph_pool.specs.declared.entry.Entry.{Entry}
use Rattle.neph_pool.specs.Entries.{hold_at, words_at, IsSoleAt}
use Rattle.neph_pool.specs.World.{World}
use Rattle.neph_memory.specs.declared.dom_local.DomLocal.{DomLocal}

-- Each frame is held as it was. A frame that the seat hasn't to itself has the words that it had.
pub record SharedStays (es fs : List (Option Entry)) : Type 0 where
  pub holds : (f : ℕ) → hold_at fs f ≡ hold_at es f
  pub words : (f : ℕ) → (IsSoleAt es f → ⊥) → words_at fs f ≡ words_at es f

-- the same of a domain's frames, from the memory d in the pool p to the memory e in the pool q
abbrev pub KeepsShared : {Pool Seat : Type 0} → World Pool Seat → Pool → DomLocal Pool Seat → Pool
    → DomLocal Pool Seat → Type 0
KeepsShared W p d q e = SharedStays (W.entries p d.seat) (W.entries q e.seat)
