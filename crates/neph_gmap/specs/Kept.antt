-- How the numbers of one page are kept.
use Rattle.std.specs.Prelude.{ℕ, List, []}
use Rattle.neph_gmap.specs.declared.vpns.Kept.{Kept}
use Rattle.neph_gmap.specs.declared.vpns.Kept.TheVariants.{Nothing, One, Many}

-- the numbers that are kept
abbrev pub numbers_in : Kept → List ℕ
numbers_in Nothing = []
numbers_in (One one) = one
numbers_in (Many list) = list.items
