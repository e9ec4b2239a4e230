use Rattle.std.proofs.Common.{◌≡◌, sym, ap, subst, ◌∙◌}
use Rattle.neph_model.specs.declared.told.Told.TheVariants.{Enough}
use Rattle.neph_model.specs.Own.{local_step}
use Rattle.neph_guest.specs.declared.live.Guest.{Guest}
use Rattle.neph_guest.specs.declared.row.LocalTurn.{LocalTurn}
use Rattle.neph_guest.specs.OwnHalf.{IsOwnHalf}
use Rattle.neph_guest.specs.Turns.{TurnDone, HeldSpare, LookDone, guest_after, stage_after}
use Rattle.neph_guest.proofs.Settling.{jumped, jump_spare, jump_held, jump_look, settled, stage_done, dom_done}
use Rattle.neph_guest.proofs.local.local_turn.Goals as goal

pub returns-in-Some-clause-turn : goal.returns-in-Some-clause-turn
returns-in-Some-clause-turn g c = λ s p o e h.
    jumped g.P.FramePool.world c.args.pool.now c.args.live.now c.jump.new.guest o c.args.command.now _ c.in-Some.reply h c.in-Some.ensures.guest
    (c.in-Some.ensures.step s p o e h.line h.came h.refused)

pub returns-in-Some-clause-spare : goal.returns-in-Some-clause-spare
returns-in-Some-clause-spare g c = jump_spare g.P.FramePool.world c.args.pool.now c.args.live.now c.args.command.now _ c.in-Some.ensures.some

pub returns-in-Some-clause-held : goal.returns-in-Some-clause-held
returns-in-Some-clause-held g c = jump_held g.P.FramePool.world c.args.pool.now c.args.live.now c.args.command.now _ c.in-Some.ensures.some

pub returns-in_ok-row-in-None-clause-turn : goal.returns-in_ok-row-in-None-clause-turn
returns-in_ok-row-in-None-clause-turn g c = λ s p o e h.
    let W = g.P.FramePool.world in
    let l = c.args.live.now in
    let row = c.in_ok-row-in-None.row in
    let guest : c.settle.new.guest ≡ guest_after l.guest row = c.settle.ensures.guest ∙ ap (λ (x : Guest). guest_after x row) c.in-None.ensures.guest in
    let step = c.in-None.ensures.step s p o e h.line h.came h.refused in
    subst (λ (x : Guest). TurnDone (IsOwnHalf W c.memory_row.new.pool (record { guest = x; local = c.memory_row.new.d })) o c.args.command.now (local_step s p o Enough c.args.command.now) c.settle.result) (sym guest)
    (subst (λ (t : LocalTurn). TurnDone (IsOwnHalf W c.memory_row.new.pool (record { guest = guest_after l.guest row; local = c.memory_row.new.d })) o c.args.command.now (local_step s p o Enough c.args.command.now) t) (sym c.settle.ensures.turn)
    (settled W c.args.pool.now l c.memory_row.new.pool c.memory_row.new.d o h c.args.command.now (local_step s p o Enough c.args.command.now) step row (c.in_ok-row-in-None.ensures.row o h.own)))

pub returns-in-Some-clause-look : goal.returns-in-Some-clause-look
returns-in-Some-clause-look g c = jump_look g.P.FramePool.world c.args.pool.now c.args.live.now c.args.command.now _ c.in-Some.ensures.some

pub returns-in_ok-row-in-None-clause-held : goal.returns-in_ok-row-in-None-clause-held
returns-in_ok-row-in-None-clause-held g c =
    subst (HeldSpare g.P.FramePool.world c.args.pool.now c.args.live.now.local c.args.command.now) (sym c.settle.ensures.turn) c.in_ok-row-in-None.ensures.held

pub returns-in_ok-row-in-None-clause-look : goal.returns-in_ok-row-in-None-clause-look
returns-in_ok-row-in-None-clause-look g c =
    subst (LookDone g.P.FramePool.world c.args.pool.now c.args.live.now.local c.memory_row.new.d.own c.args.command.now) (sym c.settle.ensures.turn) c.in_ok-row-in-None.ensures.look

pub returns-in_ok-row-in-None-clause-stage : goal.returns-in_ok-row-in-None-clause-stage
returns-in_ok-row-in-None-clause-stage g c =
    let row = c.in_ok-row-in-None.row in
    let old = c.args.live.now.guest in
    ap (λ (x : Guest). x.stage) (c.settle.ensures.guest ∙ ap (λ (x : Guest). guest_after x row) c.in-None.ensures.guest) ∙ stage_done old row ∙ ap (stage_after old.stage) (sym c.settle.ensures.turn)

pub returns-in_ok-row-in-None-clause-dom : goal.returns-in_ok-row-in-None-clause-dom
returns-in_ok-row-in-None-clause-dom g c =
    let row = c.in_ok-row-in-None.row in
    ap (λ (x : Guest). x.dom) (c.settle.ensures.guest ∙ ap (λ (x : Guest). guest_after x row) c.in-None.ensures.guest) ∙ dom_done c.args.live.now.guest row
