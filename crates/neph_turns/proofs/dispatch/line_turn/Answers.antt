use Rattle.std.proofs.Common.{◌≡◌, ◌≢◌, ℕ, List, Option, Ok, refl, sym, ap, subst, ◌∙◌}
use Rattle.neph_base.specs.declared.command.Command.TheVariants.{Exit}
use Rattle.neph_base.specs.declared.reply.Actor.{Actor}
use Rattle.neph_base.specs.declared.reply.Actor.TheVariants.{Dom}
use Rattle.neph_base.specs.declared.reply.Entry.TheVariants.{Line}
use Rattle.neph_model.specs.Turns.{turn}
use Rattle.neph_runs.specs.Orderly.{seat as part_at}
use Rattle.neph_pool.specs.World.{World}
use Rattle.neph_local.specs.declared.forking.Fork.{Fork}
use Rattle.neph_guest.specs.declared.live.Live.{Live}
use Rattle.neph_guest.specs.declared.live.Stage.TheVariants.{Forking}
use Rattle.neph_machine.specs.declared.place.Place.TheVariants.{Domain}
use Rattle.neph_machine.specs.declared.machine.Machine.{Machine}
use Rattle.neph_machine.specs.declared.turn.Turn.{Turn}
use Rattle.neph_machine.specs.declared.turn.Turn.TheVariants.{Noted as Entered}
use Rattle.neph_machine.specs.Places.{place_at}
use Rattle.neph_machine.specs.Reached.{state_after}
use Rattle.neph_machine.specs.Stages.{IsReadyAt}
use Rattle.neph_machine.specs.StandsFor.{StandsFor}
use Rattle.neph_machine.specs.Turned.{IsRunning, Took}
use Rattle.neph_machine.proofs.Carrying.{same_live}
use Rattle.neph_machine.proofs.Reached.{reached}
use Rattle.neph_lines.proofs.Sparing.{was}
use Rattle.neph_lines.proofs.Mapping.{leaf_room}
use Rattle.neph_turns.specs.Standing.{IsAtLine}
use Rattle.neph_turns.proofs.TookBy.{IsTurn, with_begun}
use Rattle.neph_turns.proofs.Needs.{read_program, absent_program, serves, line_command, fits, room, in_hand}
use Rattle.neph_turns.proofs.GuestTurns.{behind, guest_turn_took}
use Rattle.neph_turns.proofs.dispatch.line_turn.Goals as goal

calm_is : {Pool Seat : Type 0} (m : Machine Pool Seat) (id : ℕ) (l : Live Pool Seat) → IsAtLine m id → place_at id m.places.items ≡ Domain l → l.guest.stage ≢ Forking
calm_is m id l h here e = h.calm (ap (λ (v : Live _ _). v.guest.stage) (same_live h.live l (sym h.here ∙ here)) ∙ e)

pub bare_turn-requires-clause-absent : goal.bare_turn-requires-clause-absent
bare_turn-requires-clause-absent g c = absent_program _ _ _ _ c.items.ensures c.program-number.ensures.value c.in_default.ensures.lookup.0

pub guest_turn-requires : goal.guest_turn-requires
guest_turn-requires g c =
    let W = g.P.FramePool.world in
    let old = c.args.machine.now in
    let id = c.args.id in
    let n = c.requires.running in
    let st = state_after old.script n.0 in
    let r = reached old.script c.requires.formed n.0 in
    let l = c.live_mut-live.result.now in
    let here = c.live_mut-live.ensures.here in
    let p = c.in-Some.program.now in
    let found = read_program _ _ _ _ _ c.items.ensures c.program-number.ensures.value c.in-Some.ensures.lookup.3.0 c.in-Some.ensures.lookup.1 in
    let is = was W old st r n.1 id l here in
    record {
      serves = serves W old st r n.1 id l here;
      stands = is.stands;
      half = ((part_at st id).own, is.own);
      fits = fits W old st r n.1 id l here p found;
      room = room W old st r n.1 id l here p found;
      leaf = leaf_room W old st r n.1 id l here (line_command W old st r n.1 id l here p found);
      quiet = calm_is old id l c.requires.here here;
      copying = in_hand W old st r n.1 id l here p found;
      none = refl;
    }

pub returns-in-Err : goal.returns-in-Err
returns-in-Err g c before stands =
    let W = g.P.FramePool.world in
    let old = c.args.machine.now in
    let l = c.live_mut-live.result.now in
    let here = c.live_mut-live.ensures.here in
    let found = read_program _ _ _ _ _ c.items.ensures c.program-number.ensures.value c.in-Some.ensures.lookup.3.0 c.in-Some.ensures.lookup.1 in
    guest_turn_took W old (state_after old.script before) (reached old.script c.requires.formed before) stands c.args.id l here c.requires.surveyed c.requires.formed (calm_is old c.args.id l c.requires.here here)
    c.in-Some.program.now found c.guest_turn.new.pool c.guest_turn.new.hv c.guest_turn.new.live c.guest_turn.new.begun _ c.in-Err.ensures

pub returns-in-Ok-Rests : goal.returns-in-Ok-Rests
returns-in-Ok-Rests g c before stands =
    let W = g.P.FramePool.world in
    let old = c.args.machine.now in
    let st = state_after old.script before in
    let l = c.live_mut-live.result.now in
    let here = c.live_mut-live.ensures.here in
    let found = read_program _ _ _ _ _ c.items.ensures c.program-number.ensures.value c.in-Some.ensures.lookup.3.0 c.in-Some.ensures.lookup.1 in
    subst (λ v. IsTurn W old (behind old c.args.id c.guest_turn.new.pool c.guest_turn.new.hv c.guest_turn.new.live) st c.args.id l.guest.line (turn old.script st (Dom c.args.id)) c.guest_turn.new.begun (Ok v)) c.in-Ok-Rests.field-0-is
    (guest_turn_took W old st (reached old.script c.requires.formed before) stands c.args.id l here c.requires.surveyed c.requires.formed (calm_is old c.args.id l c.requires.here here)
    c.in-Some.program.now found c.guest_turn.new.pool c.guest_turn.new.hv c.guest_turn.new.live c.guest_turn.new.begun _ c.in-Ok-Rests.ensures)

pub returns-in-Ok-Moves : goal.returns-in-Ok-Moves
returns-in-Ok-Moves g c before stands =
    let W = g.P.FramePool.world in
    let old = c.args.machine.now in
    let st = state_after old.script before in
    let l = c.live_mut-live.result.now in
    let here = c.live_mut-live.ensures.here in
    let found = read_program _ _ _ _ _ c.items.ensures c.program-number.ensures.value c.in-Some.ensures.lookup.3.0 c.in-Some.ensures.lookup.1 in
    subst (λ v. IsTurn W old (behind old c.args.id c.guest_turn.new.pool c.guest_turn.new.hv c.guest_turn.new.live) st c.args.id l.guest.line (turn old.script st (Dom c.args.id)) c.guest_turn.new.begun (Ok v)) c.in-Ok-Moves.field-0-is
    (guest_turn_took W old st (reached old.script c.requires.formed before) stands c.args.id l here c.requires.surveyed c.requires.formed (calm_is old c.args.id l c.requires.here here)
    c.in-Some.program.now found c.guest_turn.new.pool c.guest_turn.new.hv c.guest_turn.new.live c.guest_turn.new.begun _ c.in-Ok-Moves.ensures)

-- no clone has begun
pub returns-in_default-begun : goal.returns-in_default-begun
returns-in_default-begun g c before stands =
    let W = g.P.FramePool.world in
    let old = c.args.machine.now in
    let st = state_after old.script before in
    let l = c.live_mut-live.result.now in
    let here = c.live_mut-live.ensures.here in
    let found = read_program _ _ _ _ _ c.items.ensures c.program-number.ensures.value c.in-Some.ensures.lookup.3.0 c.in-Some.ensures.lookup.1 in
    let new = behind old c.args.id c.guest_turn.new.pool c.guest_turn.new.hv c.guest_turn.new.live in
    let took = subst (λ v. IsTurn W old new st c.args.id l.guest.line (turn old.script st (Dom c.args.id)) c.guest_turn.new.begun (Ok v)) c.in-Ok-Did.field-0-is
    (guest_turn_took W old st (reached old.script c.requires.formed before) stands c.args.id l here c.requires.surveyed c.requires.formed (calm_is old c.args.id l c.requires.here here)
    c.in-Some.program.now found c.guest_turn.new.pool c.guest_turn.new.hv c.guest_turn.new.live c.guest_turn.new.begun _ c.in-Ok-Did.ensures) in
    subst (λ (b : Option (Fork _ _)). Took W old (with_begun new c.args.id b) (turn old.script st (Dom c.args.id)) (Entered (record { entry = Line c.args.id l.guest.line; reply = c.in-Ok-Did.reply }))) c.in_default-begun.is took

-- a clone has begun
pub returns-in-Some-begun : goal.returns-in-Some-begun
returns-in-Some-begun g c before stands =
    let W = g.P.FramePool.world in
    let old = c.args.machine.now in
    let st = state_after old.script before in
    let l = c.live_mut-live.result.now in
    let here = c.live_mut-live.ensures.here in
    let found = read_program _ _ _ _ _ c.items.ensures c.program-number.ensures.value c.in-Some.ensures.lookup.3.0 c.in-Some.ensures.lookup.1 in
    let new = behind old c.args.id c.guest_turn.new.pool c.guest_turn.new.hv c.guest_turn.new.live in
    let took = subst (λ v. IsTurn W old new st c.args.id l.guest.line (turn old.script st (Dom c.args.id)) c.guest_turn.new.begun (Ok v)) c.in-Ok-Did.field-0-is
    (guest_turn_took W old st (reached old.script c.requires.formed before) stands c.args.id l here c.requires.surveyed c.requires.formed (calm_is old c.args.id l c.requires.here here)
    c.in-Some.program.now found c.guest_turn.new.pool c.guest_turn.new.hv c.guest_turn.new.live c.guest_turn.new.begun _ c.in-Ok-Did.ensures) in
    let flies = subst (λ (b : Option (Fork _ _)). Took W old (with_begun new c.args.id b) (turn old.script st (Dom c.args.id)) (Entered (record { entry = Line c.args.id l.guest.line; reply = c.in-Ok-Did.reply }))) c.in-Some-begun.is took in
    subst (λ v. Took W old (record new { places = v }) (turn old.script st (Dom c.args.id)) (Entered (record { entry = Line c.args.id l.guest.line; reply = c.in-Ok-Did.reply }))) (sym c.put_place.ensures.put) flies

module _ {Pool Seat : Type 0} (W : World Pool Seat) (old new : Machine Pool Seat) (same : new ≡ old) where
  pub runs_still : IsRunning W old → IsRunning W new
  runs_still h = subst (IsRunning W) (sym same) h

  -- what a turn of it did
  pub did_still : (before : List Actor) (id : ℕ) (x : Machine Pool Seat) (t : Turn) → (StandsFor W new (state_after new.script before) → Took W new x (turn new.script (state_after new.script before) (Dom id)) t)
      → StandsFor W old (state_after old.script before) → Took W old x (turn old.script (state_after old.script before) (Dom id)) t
  did_still before id x t did = subst (λ (m : Machine Pool Seat). StandsFor W m (state_after m.script before) → Took W m x (turn m.script (state_after m.script before) (Dom id)) t) same did

pub exit_turn-requires-clause-running : goal.exit_turn-requires-clause-running
exit_turn-requires-clause-running g c =
    let W = g.P.FramePool.world in
    let old = c.args.machine.now in
    let n = c.requires.running in
    let st = state_after old.script n.0 in
    let l = c.live_mut-live.result.now in
    let here = c.live_mut-live.ensures.here in
    let found = read_program _ _ _ _ _ c.items.ensures c.program-number.ensures.value c.in-Some.ensures.lookup.3.0 c.in-Some.ensures.lookup.1 in
    let new = behind old c.args.id c.guest_turn.new.pool c.guest_turn.new.hv c.guest_turn.new.live in
    let took = subst (λ v. IsTurn W old new st c.args.id l.guest.line (turn old.script st (Dom c.args.id)) c.guest_turn.new.begun (Ok v)) c.in-Ok-Ends.field-0-is
    (guest_turn_took W old st (reached old.script c.requires.formed n.0) n.1 c.args.id l here c.requires.surveyed c.requires.formed (calm_is old c.args.id l c.requires.here here)
    c.in-Some.program.now found c.guest_turn.new.pool c.guest_turn.new.hv c.guest_turn.new.live c.guest_turn.new.begun _ c.in-Ok-Ends.ensures) in
    runs_still W old new took.0 n

pub exit_turn-requires-clause-here : goal.exit_turn-requires-clause-here
exit_turn-requires-clause-here g c =
    let W = g.P.FramePool.world in
    let old = c.args.machine.now in
    let n = c.requires.running in
    let st = state_after old.script n.0 in
    let l = c.live_mut-live.result.now in
    let here = c.live_mut-live.ensures.here in
    let found = read_program _ _ _ _ _ c.items.ensures c.program-number.ensures.value c.in-Some.ensures.lookup.3.0 c.in-Some.ensures.lookup.1 in
    let took = subst (λ v. IsTurn W old (behind old c.args.id c.guest_turn.new.pool c.guest_turn.new.hv c.guest_turn.new.live) st c.args.id l.guest.line (turn old.script st (Dom c.args.id)) c.guest_turn.new.begun (Ok v)) c.in-Ok-Ends.field-0-is
    (guest_turn_took W old st (reached old.script c.requires.formed n.0) n.1 c.args.id l here c.requires.surveyed c.requires.formed (calm_is old c.args.id l c.requires.here here)
    c.in-Some.program.now found c.guest_turn.new.pool c.guest_turn.new.hv c.guest_turn.new.live c.guest_turn.new.begun _ c.in-Ok-Ends.ensures) in
    subst (λ (m : Machine _ _). IsReadyAt m c.args.id Exit) (sym took.0) took.1

pub returns-in-Ok-Ends : goal.returns-in-Ok-Ends
returns-in-Ok-Ends g c before stands =
    let W = g.P.FramePool.world in
    let old = c.args.machine.now in
    let st = state_after old.script before in
    let l = c.live_mut-live.result.now in
    let here = c.live_mut-live.ensures.here in
    let found = read_program _ _ _ _ _ c.items.ensures c.program-number.ensures.value c.in-Some.ensures.lookup.3.0 c.in-Some.ensures.lookup.1 in
    let new = behind old c.args.id c.guest_turn.new.pool c.guest_turn.new.hv c.guest_turn.new.live in
    let took = subst (λ v. IsTurn W old new st c.args.id l.guest.line (turn old.script st (Dom c.args.id)) c.guest_turn.new.begun (Ok v)) c.in-Ok-Ends.field-0-is
    (guest_turn_took W old st (reached old.script c.requires.formed before) stands c.args.id l here c.requires.surveyed c.requires.formed (calm_is old c.args.id l c.requires.here here)
    c.in-Some.program.now found c.guest_turn.new.pool c.guest_turn.new.hv c.guest_turn.new.live c.guest_turn.new.begun _ c.in-Ok-Ends.ensures) in
    did_still W old new took.0 before c.args.id c.exit_turn.new.machine c.exit_turn.result (c.exit_turn.ensures before) stands
