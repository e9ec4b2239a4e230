use Rattle.std.proofs.Common.{◌==◌, ◌/◌, ◌%◌, ℕ, None, sym, ap, ◌∙◌, if◌then◌else◌}
use Rattle.std.specs.declared.option.Option.{Option}
use Rattle.neph_model.specs.declared.memory.Mapping.{Mapping}
use Rattle.neph_pool.proofs.Calls.{moves_trans}
use Rattle.neph_ptab.specs.Tables.{leaf_at, walk_at}
use Rattle.neph_memory.proofs.Relisting.{mapped_small, mapped_leaf, not_mapped, dropped_nothing}
use Rattle.neph_memory.specs.Memory.{IsSpareAt, wanted_by}
use Rattle.neph_memory.proofs.dom_local.DomLocal.unmap_page.Goals as goal

pub drop_map-requires-clause-page : goal.drop_map-requires-clause-page
drop_map-requires-clause-page g c =
    let W = g.P.FramePool.world in
    mapped_small (W.entries c.mapped_page.new.pool c.mapped_page.new.self.seat) c.mapped_page.new.self.tables.root c.mapped_page.new.self.own (IsSpareAt c.mapped_page.new.self.own) c.mapped_page.ensures.stands.memory.made c.args.v c.in-Some.p c.mapped_page.ensures.range (sym c.in-Some.ensures.page)

pub drop_map-requires-clause-leaf : goal.drop_map-requires-clause-leaf
drop_map-requires-clause-leaf g c =
    let W = g.P.FramePool.world in
    let es = W.entries c.mapped_page.new.pool c.mapped_page.new.self.seat in
    mapped_leaf es c.mapped_page.new.self.own.map.pages (leaf_at es c.mapped_page.new.self.tables.root (c.args.v / 512)) (c.args.v % 512) c.in-Some.p (sym c.in-Some.ensures.page)

pub returns-in-Some-clause-mappings : goal.returns-in-Some-clause-mappings
returns-in-Some-clause-mappings g c = λ u l. c.drop_map.ensures.mappings u l ∙ ap (λ (x : Option Mapping). if u == c.args.v then None else x) (c.mapped_page.ensures.mappings u l)

pub returns-in-Some-clause-leaves : goal.returns-in-Some-clause-leaves
returns-in-Some-clause-leaves g c = λ i l. c.drop_map.ensures.leaves i l ∙ c.mapped_page.ensures.leaves i l

pub returns-in-Some-clause-bytes : goal.returns-in-Some-clause-bytes
returns-in-Some-clause-bytes g c = λ q. c.drop_map.ensures.bytes q ∙ c.mapped_page.ensures.bytes q

pub returns-in-Some-clause-moves : goal.returns-in-Some-clause-moves
returns-in-Some-clause-moves g c = moves_trans _ _ _ _ _ _ _ c.mapped_page.ensures.moves c.drop_map.ensures.moves

pub returns-in-None-clause-mappings : goal.returns-in-None-clause-mappings
returns-in-None-clause-mappings g c = λ u l.
    let W = g.P.FramePool.world in
    let es = W.entries c.mapped_page.new.pool c.mapped_page.new.self.seat in
    let root : ℕ = c.mapped_page.new.self.tables.root in
    c.mapped_page.ensures.mappings u l
    ∙ dropped_nothing (W.entries c.args.pool.now c.args.self.now.seat) c.args.self.now.tables.root c.args.self.now.own.map.pages c.args.v u (sym (c.mapped_page.ensures.mappings c.args.v c.mapped_page.ensures.range) ∙ not_mapped _ (wanted_by (walk_at es root c.args.v)) (sym c.in-None.ensures.page))
