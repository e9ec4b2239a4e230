use Rattle.std.proofs.Common.{List, ap}
use Rattle.std.specs.declared.option.Option.{Option}
use Rattle.neph_pool.specs.declared.entry.Entry.{Entry}
use Rattle.neph_ptab.specs.Tables.{leaf_at}
use Rattle.neph_memory.proofs.Leading.{named, unaliased}
use Rattle.neph_memory.proofs.Standing.{stands_moved}
use Rattle.neph_memory.specs.Memory.{vpn_mapping, page_bytes, leaf_count}
use Rattle.neph_memory.proofs.dom_local.DomLocal.mapped_page.Goals as goal

pub walk-walk-requires-clause-seat : goal.walk-walk-requires-clause-seat
walk-walk-requires-clause-seat g c = (c.requires.stands.fits, named _ _ c.requires.stands.names)

pub page_by-requires : goal.page_by-requires
page_by-requires g c = unaliased _ _ c.args.self.now.own c.requires.stands.memory

pub returns-clause-stands : goal.returns-clause-stands
returns-clause-stands g c = stands_moved _ _ _ _ _ _ _ _ c.requires.stands c.walk-walk.ensures.moves c.walk-walk.ensures.entries

pub returns-clause-mappings : goal.returns-clause-mappings
returns-clause-mappings g c = λ u l. ap (λ (es : List (Option Entry)). vpn_mapping es c.args.self.now.tables.root c.args.self.now.own.map.pages u) c.walk-walk.ensures.entries

pub returns-clause-leaves : goal.returns-clause-leaves
returns-clause-leaves g c = λ i l. ap (λ (es : List (Option Entry)). leaf_at es c.args.self.now.tables.root i) c.walk-walk.ensures.entries

pub returns-clause-bytes : goal.returns-clause-bytes
returns-clause-bytes g c = λ q. ap (λ (es : List (Option Entry)). page_bytes es c.args.self.now.own.map.pages q) c.walk-walk.ensures.entries

pub returns-clause-count : goal.returns-clause-count
returns-clause-count g c = ap (λ (es : List (Option Entry)). leaf_count es c.args.self.now.tables.root) c.walk-walk.ensures.entries
