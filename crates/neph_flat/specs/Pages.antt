-- How exposed pages are kept.
use Rattle.std.specs.Prelude.{◌≡◌, ◌≤◌, List, length, All}
use Rattle.std.specs.FinMap as fm
use Rattle.neph_model.specs.Machine.{Exposed}

-- a map of exposed pages has no more of them than a guest may have pages
abbrev pub HasFew : Exposed → Type 0
HasFew pages = fm.len pages ≤ 1024

-- each id from 0 to 63 has a place, with few pages
pub record IsPlaced (pages : List Exposed) : Type 0 where
  pub places : length pages ≡ 64
  pub few : All HasFew pages
