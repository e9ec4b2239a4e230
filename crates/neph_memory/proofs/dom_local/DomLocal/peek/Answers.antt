use Rattle.neph_memory.proofs.Leading.{named}
use Rattle.neph_memory.proofs.Standing.{stands_moved}
use Rattle.std.proofs.Common.{List, ap}
use Rattle.std.specs.declared.option.Option.{Option}
use Rattle.neph_pool.specs.declared.entry.Entry.{Entry}
use Rattle.neph_ptab.specs.Tables.{leaf_at}
use Rattle.neph_memory.proofs.dom_local.DomLocal.peek.Goals as goal

pub walk-requires-clause-seat : goal.walk-requires-clause-seat
walk-requires-clause-seat g c = (c.requires.stands.fits, named _ _ c.requires.stands.names)

pub returns-clause-stands : goal.returns-clause-stands
returns-clause-stands g c = stands_moved _ _ _ _ _ _ _ _ c.requires.stands c.walk.ensures.moves c.walk.ensures.entries

pub returns-clause-leaves : goal.returns-clause-leaves
returns-clause-leaves g c = λ i l. ap (λ (es : List (Option Entry)). leaf_at es c.args.self.now.tables.root i) c.walk.ensures.entries
