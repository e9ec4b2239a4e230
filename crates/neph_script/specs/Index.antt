-- Places by name.
use Rattle.std.specs.Prelude.{ℕ, Bool, if◌then◌else◌, List, Option, None, Some}
use Rattle.std.specs.Map.{lookup}
use Rattle.std.specs.Global.{Vec}
use Rattle.neph_command.specs.Words.{equals}
use Rattle.neph_script.specs.declared.index.Index.{Index}

-- the place of a name
abbrev pub place_in : Index → List ℕ → Option ℕ
place_in ix name = lookup (λ (k : Vec ℕ). equals name k.items) ix.places.entries

-- the place of a name where it had one, else this one if the name is the one that was put
abbrev pub place_after : Option ℕ → Bool → ℕ → Option ℕ
place_after (Some place) here at = Some place
place_after None here at = if here then Some at else None
