use Rattle.std.proofs.Common.{◌≡◌, ◌<◌, ◌≤◌, length, IsSome, sym, ap, subst, ◌∙◌, arith}
use Rattle.neph_local.proofs.Starting.{starts_identity}
use Rattle.neph_pool.proofs.Calls.{moves_trans}
use Rattle.neph_memory.specs.declared.own.Own.{Own}
use Rattle.neph_model.specs.Start.{started_512s}
use Rattle.neph_memory.specs.Memory.{leaf_count}
use Rattle.neph_memory.proofs.Rooming.{leaves_first}
use Rattle.neph_memory.proofs.Making.{builds_stands}
use Rattle.neph_local.proofs.started.start_blank.Goals as goal

pub start_devices-requires-clause-leaf : goal.start_devices-requires-clause-leaf
start_devices-requires-clause-leaf g c = subst IsSome (sym (c.start_page.ensures.leaves 0 (omega arith))) (c.add_leaves.ensures.leaves 0 (omega (arith, c.requires.many)))

pub start_others-requires-clause-leaves : goal.start_others-requires-clause-leaves
start_others-requires-clause-leaves g c = λ i lt.
    let small : i < 512 = omega (arith, lt, c.requires.few) in
    subst IsSome (sym (c.start_devices.ensures.leaves i small ∙ c.start_page.ensures.leaves i small)) (c.add_leaves.ensures.leaves i lt)

pub returns-clause-stands : goal.returns-clause-stands
returns-clause-stands g c =
    let W = g.P.FramePool.world in
    builds_stands W c.start_others.new.pool c.start_others.new.d.seat c.start_others.new.d.id c.start_others.new.d.tables.root c.start_others.new.d.own c.start_others.new.frames.items
    c.in_ok-start_others.ensures.builds c.in_ok-start_others.ensures.left
    (c.start_others.ensures.spare ∙ c.start_devices.ensures.spare ∙ c.start_page.ensures.spare ∙ ap (λ (o : Own). o.spare) c.add_leaves.ensures.own ∙ c.in_ok-d.ensures.spare)
    (starts_identity _ _ _ c.args.pages c.args.pages c.in_ok-start_others.ensures.starts (omega (arith, c.requires.many)))
    (let few : leaf_count (W.entries c.start_others.new.pool c.start_others.new.d.seat) c.start_others.new.d.tables.root ≤ started_512s c.args.pages = leaves_first _ _ (started_512s c.args.pages) 512 (λ i le lt. c.start_others.ensures.leaves i lt ∙ c.start_devices.ensures.leaves i lt ∙ c.start_page.ensures.leaves i lt ∙ c.add_leaves.ensures.none i le lt) in
    let pages : length c.start_others.new.d.own.map.pages ≡ c.args.pages = c.start_others.ensures.count ∙ c.start_devices.ensures.count ∙ c.start_page.ensures.count ∙ ap (λ (o : Own). length o.map.pages) c.add_leaves.ensures.own ∙ c.in_ok-d.ensures.count in
    let cap : W.cap c.start_others.new.pool ≡ W.cap c.args.pool.now = c.start_others.ensures.moves.others.cap ∙ c.start_devices.ensures.moves.others.cap ∙ c.start_page.ensures.moves.others.cap ∙ c.add_leaves.ensures.moves.others.cap ∙ c.in_ok-d.ensures.moves.others.cap in
    omega (arith, few, pages, cap, c.requires.room))

pub returns-clause-leaves : goal.returns-clause-leaves
returns-clause-leaves g c = λ i lt.
    let small : i < 512 = omega (arith, lt, c.requires.few) in
    subst IsSome (sym (c.start_others.ensures.leaves i small ∙ c.start_devices.ensures.leaves i small ∙ c.start_page.ensures.leaves i small)) (c.add_leaves.ensures.leaves i lt)

pub returns-clause-none : goal.returns-clause-none
returns-clause-none g c = λ i le lt. c.start_others.ensures.leaves i lt ∙ c.start_devices.ensures.leaves i lt ∙ c.start_page.ensures.leaves i lt ∙ c.add_leaves.ensures.none i le lt

pub returns-clause-moves : goal.returns-clause-moves
returns-clause-moves g c =
    let W = g.P.FramePool.world in
    moves_trans W _ _ _ _ _ _ (moves_trans W _ _ _ _ _ _ (moves_trans W _ _ _ _ _ _ (moves_trans W _ _ _ _ _ _ c.in_ok-d.ensures.moves c.add_leaves.ensures.moves) c.start_page.ensures.moves) c.start_devices.ensures.moves) c.start_others.ensures.moves
