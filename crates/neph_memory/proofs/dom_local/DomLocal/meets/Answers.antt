use Rattle.std.proofs.Common.{refl, ap, ◌∙◌}
use Rattle.neph_ptab.specs.declared.walk.Walk.{Walk}
use Rattle.neph_memory.specs.Memory.{mapping, pfn_by, wanted_by}
use Rattle.neph_memory.proofs.Leading.{named, unaliased}
use Rattle.neph_memory.proofs.Standing.{stands_moved}
use Rattle.neph_memory.proofs.dom_local.DomLocal.meets.Goals as goal

pub walk-walk-requires-clause-seat : goal.walk-walk-requires-clause-seat
walk-walk-requires-clause-seat g c = (c.requires.stands.fits, named _ _ c.requires.stands.names)

pub mapping_in-requires : goal.mapping_in-requires
mapping_in-requires g c = unaliased _ _ c.args.self.now.own c.requires.stands.memory

pub returns-clause-mapping : goal.returns-clause-mapping
returns-clause-mapping g c = c.mapping_in.ensures ∙ ap (λ (w : Walk). mapping (pfn_by c.args.self.now.own.map.pages w) (wanted_by w)) c.walk-walk.ensures.walk

pub returns-clause-stands : goal.returns-clause-stands
returns-clause-stands g c = stands_moved _ _ _ _ _ _ _ _ c.requires.stands c.walk-walk.ensures.moves c.walk-walk.ensures.entries

pub returns-clause-same : goal.returns-clause-same
returns-clause-same g c = record {
  entries = c.walk-walk.ensures.entries;
  own = refl;
  root = refl;
  id = refl;
  hand = refl;
  cap = c.walk-walk.ensures.moves.others.cap;
  fits = c.walk-walk.ensures.moves.fits;
  names = c.walk-walk.ensures.moves.names;
}
