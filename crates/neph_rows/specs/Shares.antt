-- What an id shares with others, as it is kept.
use Rattle.std.specs.Prelude.{Bool, true, false, Option, None, Some, Box}
use Rattle.std.specs.Global.{Global}
use Rattle.std.specs.FinMap as fm
use Rattle.neph_grant.specs.Handles.{Mappings}
use Rattle.neph_grant.specs.Table.{Grants}
use Rattle.neph_rows.specs.declared.sharing.SharedTables.{SharedTables}

-- grants, handles, and whether there is room for them
pub record Shares : Type 0 where
  pub grants : Grants
  pub handles : Mappings
  pub room : Bool

-- nothing is shared, and there is no room
abbrev pub no_shares : Shares
no_shares = record { grants = fm.empty; handles = fm.empty; room = false }

-- these tables are shared
abbrev pub shares_in : SharedTables → Shares
shares_in t = record { grants = t.grants; handles = t.handles; room = true }

-- what is shared by tables that may be there
abbrev pub shares_of : Option (Box SharedTables Global) → Shares
shares_of None = no_shares
shares_of (Some b) = shares_in b.value
