use Rattle.std.proofs.Common.{◌==◌, ◌<◌, ◌/◌, ℕ, Some, IsSome, length, refl, sym, ap, subst, ◌∙◌, arith, if◌then◌else◌}
use Rattle.std.specs.declared.option.Option.{Option}
use Rattle.neph_model.specs.declared.memory.Mapping.{Mapping}
use Rattle.neph_base.specs.declared.command.Mode.{Mode}
use Rattle.neph_pool.proofs.Calls.{moves_trans}
use Rattle.neph_memory.specs.declared.own.Own.{Own}
use Rattle.neph_memory.proofs.Answering.{page_there, answer_tried, some_spare, leaf_there, no_memory, no_leaf, leaf_same, leaf_spent}
use Rattle.neph_memory.specs.Memory.{mode_of}
use Rattle.neph_memory.specs.Domains.{domain_mapping, domain_leaf}
use Rattle.neph_memory.proofs.dom_local.DomLocal.map_page.Goals as goal

pub map_anew-requires-clause-page : goal.map_anew-requires-clause-page
map_anew-requires-clause-page g c = subst (λ (o : Own). c.args.p < length o.map.pages) (sym c.lacks_leaf.ensures.own) (page_there _ c.args.p c.args.m (sym c.is_bad_page.ensures ∙ c.if-is_bad_page.false))

pub map_anew-requires-clause-needed : goal.map_anew-requires-clause-needed
map_anew-requires-clause-needed g c = c.if-lacks_leaf.ensures.lacks.0 refl

pub map_anew-requires-clause-room : goal.map_anew-requires-clause-room
map_anew-requires-clause-room g c =
    let lt : c.args.v / 512 < 512 = omega (arith, c.lacks_leaf.ensures.range) in
    let none = sym (c.lacks_leaf.ensures.leaves (c.args.v / 512) lt) ∙ c.if-lacks_leaf.ensures.lacks.0 refl in
    let pages = ap (λ (o : Own). length o.map.pages) c.lacks_leaf.ensures.own in
    let room = c.requires.room none in
    omega (arith, room, pages, c.lacks_leaf.ensures.count, c.lacks_leaf.ensures.moves.others.cap)

pub returns-in_err-map_anew-in-Some-clause-answer : goal.returns-in_err-map_anew-in-Some-clause-answer
returns-in_err-map_anew-in-Some-clause-answer g c = answer_tried _ _ c.args.self.now.own.spare _ (sym c.is_bad_page.ensures ∙ c.if-is_bad_page.false) (λ _. subst IsSome (sym (sym (ap (λ (o : Own). o.spare) c.lacks_leaf.ensures.own) ∙ c.in-Some.is)) refl) (no_memory _ c.from_residual.ensures.1)

pub returns-in_err-map_anew-in-Some-clause-moves : goal.returns-in_err-map_anew-in-Some-clause-moves
returns-in_err-map_anew-in-Some-clause-moves g c = moves_trans _ _ _ _ _ _ _ c.lacks_leaf.ensures.moves c.map_anew.ensures.moves

pub returns-then-lacks_leaf-clause-mappings : goal.returns-then-lacks_leaf-clause-mappings
returns-then-lacks_leaf-clause-mappings g c = λ u l.
    c.in_ok-map_anew-in-Some.ensures.mappings u l
    ∙ ap (λ (x : Option Mapping). if u == c.args.v then Some (record { pfn = c.args.p; mode = mode_of c.is_writable-rw.result }) else x) (c.lacks_leaf.ensures.mappings u l)
    ∙ ap (λ (m : Mode). if u == c.args.v then Some (record { pfn = c.args.p; mode = m }) else domain_mapping g.P.FramePool.world c.args.pool.now c.args.self.now u) c.is_writable-rw.ensures

pub returns-then-lacks_leaf-clause-leaves : goal.returns-then-lacks_leaf-clause-leaves
returns-then-lacks_leaf-clause-leaves g c = λ i l.
    leaf_spent i (c.args.v / 512) c.in-Some.f _ _ _ c.args.self.now.own.spare (c.in_ok-map_anew-in-Some.ensures.leaves i l) (c.lacks_leaf.ensures.leaves i l) (λ e. ap (λ (k : ℕ). domain_leaf g.P.FramePool.world c.lacks_leaf.new.pool c.lacks_leaf.new.self k) e ∙ c.if-lacks_leaf.ensures.lacks.0 refl) (sym (ap (λ (o : Own). o.spare) c.lacks_leaf.ensures.own) ∙ c.in-Some.is)

pub returns-then-lacks_leaf-clause-bytes : goal.returns-then-lacks_leaf-clause-bytes
returns-then-lacks_leaf-clause-bytes g c = λ q. c.in_ok-map_anew-in-Some.ensures.bytes q ∙ c.lacks_leaf.ensures.bytes q

pub returns-then-lacks_leaf-clause-moves : goal.returns-then-lacks_leaf-clause-moves
returns-then-lacks_leaf-clause-moves g c = moves_trans _ _ _ _ _ _ _ c.lacks_leaf.ensures.moves c.map_anew.ensures.moves

pub remap-requires-clause-page : goal.remap-requires-clause-page
remap-requires-clause-page g c = subst (λ (o : Own). c.args.p < length o.map.pages) (sym (c.mapped_page-from.ensures.own ∙ c.lacks_leaf.ensures.own)) (page_there _ c.args.p c.args.m (sym c.is_bad_page.ensures ∙ c.if-is_bad_page.false))

pub remap-requires-clause-leaf : goal.remap-requires-clause-leaf
remap-requires-clause-leaf g c =
    let lt : c.args.v / 512 < 512 = omega (arith, c.lacks_leaf.ensures.range) in
    subst IsSome (sym (c.mapped_page-from.ensures.leaves (c.args.v / 512) lt)) (leaf_there _ _ c.if-lacks_leaf.false c.lacks_leaf.ensures.lacks.1)

pub returns-in_err-remap-clause-answer : goal.returns-in_err-remap-clause-answer
returns-in_err-remap-clause-answer g c =
    let lt : c.args.v / 512 < 512 = omega (arith, c.lacks_leaf.ensures.range) in
    answer_tried _ _ c.args.self.now.own.spare _ (sym c.is_bad_page.ensures ∙ c.if-is_bad_page.false) (λ e. absurd (no_leaf _ e (subst IsSome (c.lacks_leaf.ensures.leaves (c.args.v / 512) lt) (leaf_there _ _ c.if-lacks_leaf.false c.lacks_leaf.ensures.lacks.1)))) (no_memory _ c.from_residual-in_err-remap.ensures.1)

pub returns-in_err-remap-clause-moves : goal.returns-in_err-remap-clause-moves
returns-in_err-remap-clause-moves g c = moves_trans _ _ _ _ _ _ _ (moves_trans _ _ _ _ _ _ _ c.lacks_leaf.ensures.moves c.mapped_page-from.ensures.moves) c.remap.ensures.moves

pub returns-clause-answer : goal.returns-clause-answer
returns-clause-answer g c =
    let lt : c.args.v / 512 < 512 = omega (arith, c.lacks_leaf.ensures.range) in
    answer_tried _ _ c.args.self.now.own.spare _ (sym c.is_bad_page.ensures ∙ c.if-is_bad_page.false) (λ e. absurd (no_leaf _ e (subst IsSome (c.lacks_leaf.ensures.leaves (c.args.v / 512) lt) (leaf_there _ _ c.if-lacks_leaf.false c.lacks_leaf.ensures.lacks.1)))) tt

pub returns-clause-mappings : goal.returns-clause-mappings
returns-clause-mappings g c = λ u l.
    c.in_ok-remap.ensures.mappings u l
    ∙ ap (λ (x : Option Mapping). if u == c.args.v then Some (record { pfn = c.args.p; mode = mode_of c.is_writable-rw.result }) else x) (c.mapped_page-from.ensures.mappings u l ∙ c.lacks_leaf.ensures.mappings u l)
    ∙ ap (λ (m : Mode). if u == c.args.v then Some (record { pfn = c.args.p; mode = m }) else domain_mapping g.P.FramePool.world c.args.pool.now c.args.self.now u) c.is_writable-rw.ensures

pub returns-clause-leaves : goal.returns-clause-leaves
returns-clause-leaves g c = λ i l.
    let lt : c.args.v / 512 < 512 = omega (arith, c.lacks_leaf.ensures.range) in
    leaf_same i (c.args.v / 512) _ _ c.args.self.now.own.spare (λ e. subst IsSome (ap (λ (k : ℕ). domain_leaf g.P.FramePool.world c.args.pool.now c.args.self.now k) (sym e)) (subst IsSome (c.lacks_leaf.ensures.leaves (c.args.v / 512) lt) (leaf_there _ _ c.if-lacks_leaf.false c.lacks_leaf.ensures.lacks.1)))
    (c.in_ok-remap.ensures.leaves i l ∙ c.mapped_page-from.ensures.leaves i l ∙ c.lacks_leaf.ensures.leaves i l)

pub returns-clause-spare : goal.returns-clause-spare
returns-clause-spare g c =
    let lt : c.args.v / 512 < 512 = omega (arith, c.lacks_leaf.ensures.range) in
    c.in_ok-remap.ensures.spare ∙ ap (λ (o : Own). o.spare) (c.mapped_page-from.ensures.own ∙ c.lacks_leaf.ensures.own)
    ∙ sym (some_spare _ c.args.self.now.own.spare (subst IsSome (c.lacks_leaf.ensures.leaves (c.args.v / 512) lt) (leaf_there _ _ c.if-lacks_leaf.false c.lacks_leaf.ensures.lacks.1)))

pub returns-clause-bytes : goal.returns-clause-bytes
returns-clause-bytes g c = λ q. c.in_ok-remap.ensures.bytes q ∙ c.mapped_page-from.ensures.bytes q ∙ c.lacks_leaf.ensures.bytes q

pub returns-clause-moves : goal.returns-clause-moves
returns-clause-moves g c = moves_trans _ _ _ _ _ _ _ (moves_trans _ _ _ _ _ _ _ c.lacks_leaf.ensures.moves c.mapped_page-from.ensures.moves) c.remap.ensures.moves
