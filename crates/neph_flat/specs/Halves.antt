-- The machine that is kept in two halves.
use Rattle.neph_model.specs.Machine.{Machine}
use Rattle.neph_rows.specs.Records.{shared_of}
use Rattle.neph_flat.specs.declared.halves.Halves.{Halves}

-- the machine that some halves keep
abbrev pub seen : Halves → Machine
seen a = record { own = a.own.items; shared = shared_of a.registry a.pages }
