use Rattle.std.proofs.Common.{Ok, inl, refl, sym, subst, ◌∙◌}
use Rattle.neph_base.specs.declared.command.Command.{Command}
use Rattle.neph_model.specs.Programs.{command_in}
use Rattle.neph_model.specs.WellFormed.{FitsPage}
use Rattle.neph_guest.specs.declared.live.Stage.{Stage}
use Rattle.neph_guest.specs.declared.turned.Turned.TheVariants.{Ends}
use Rattle.neph_guest.specs.Turned.{HasCopied, HasDone, StageDone}
use Rattle.neph_guest.specs.Turns.{HasLeafRoom, IsLineInHand}
use Rattle.neph_guest.proofs.GuestTurns.{hand_no_exit, stage_ready, exit_ready}
use Rattle.neph_guest.proofs.turn.guest_turn.Goals as goal

pub returns-then-is_paused : goal.returns-then-is_paused
returns-then-is_paused g c = record {
  paused = c.is_paused.result;
  told = c.is_paused.ensures;
  rests = λ e. (refl, c.requires.none, record { pool = refl; hv = refl; live = refl });
  goes = λ e. let t = c.if-is_paused.true in absurd (cc);
}

pub returns-in_default : goal.returns-in_default
returns-in_default g c =
    let W = g.P.FramePool.world in
    let C = g.H.Hyper.calls in
    let p = c.args.pool.now in
    let h = c.args.hv.now in
    let l = c.args.live.now in
    let program = c.args.program.now in
    record {
      paused = c.is_paused.result;
      told = c.is_paused.ensures;
      rests = λ e. let t = c.if-is_paused.false in absurd (cc);
      goes = λ e. subst (λ (s : Stage). StageDone W C p h l p h l program (command_in program.commands l.guest.line) s c.args.begun.now (Ok Ends)) (sym (exit_ready W p l.local _ l.guest.stage c.in_default.ensures.exit c.requires.quiet c.requires.copying))
          (inl (c.in_default.ensures.exit, refl, c.requires.none, record { pool = refl; hv = refl; live = refl }));
    }

pub copying_turn-requires : goal.copying_turn-requires
copying_turn-requires g c =
    let W = g.P.FramePool.world in
    let p = c.args.pool.now in
    let l = c.args.live.now in
    let its = c.in-Some.ensures.written in
    let hand = c.requires.copying c.in-Copying.is in
    record {
      serves = c.requires.serves;
      stands = c.requires.stands;
      fits = subst FitsPage its c.requires.fits;
      room = c.requires.room (hand_no_exit W p l.local _ hand);
      copying = c.in-Copying.is;
      line = subst (λ (x : Command). IsLineInHand W p l.local x) its hand;
    }

pub returns-in-Copying : goal.returns-in-Copying
returns-in-Copying g c =
    let W = g.P.FramePool.world in
    let C = g.H.Hyper.calls in
    let p = c.args.pool.now in
    let h = c.args.hv.now in
    let l = c.args.live.now in
    let q = c.copying_turn.new.pool in
    let k = c.copying_turn.new.hv in
    let m = c.copying_turn.new.live in
    let t = c.copying_turn.result in
    let program = c.args.program.now in
    record {
      paused = c.is_paused.result;
      told = c.is_paused.ensures;
      rests = λ e. let t = c.if-is_paused.false in absurd (cc);
      goes = λ e. subst (λ (s : Stage). StageDone W C p h l q k m program (command_in program.commands l.guest.line) s c.args.begun.now (Ok t)) (sym c.in-Copying.is)
          (subst (λ (x : Command). HasCopied W C p h l q k m x t) (sym c.in-Some.ensures.written) c.copying_turn.ensures, c.requires.none, tt);
    }

pub ready_turn-requires : goal.ready_turn-requires
ready_turn-requires g c =
    let its = c.in-Some.ensures.written in
    record {
      serves = c.requires.serves;
      stands = c.requires.stands;
      half = c.requires.half;
      fits = subst FitsPage its c.requires.fits;
      far = c.in-Some.ensures.far;
      room = c.requires.room (λ e. c.in-Some.ensures.far (sym its ∙ e));
      leaf = subst (λ (x : Command). HasLeafRoom g.P.FramePool.world c.args.pool.now c.args.live.now.local x) its c.requires.leaf;
      none = c.requires.none;
    }

pub returns-in_default-stage : goal.returns-in_default-stage
returns-in_default-stage g c =
    let W = g.P.FramePool.world in
    let C = g.H.Hyper.calls in
    let p = c.args.pool.now in
    let h = c.args.hv.now in
    let l = c.args.live.now in
    let q = c.ready_turn.new.pool in
    let k = c.ready_turn.new.hv in
    let m = c.ready_turn.new.live in
    let b = c.ready_turn.new.begun in
    let t = c.ready_turn.result in
    let program = c.args.program.now in
    record {
      paused = c.is_paused.result;
      told = c.is_paused.ensures;
      rests = λ e. let t = c.if-is_paused.false in absurd (cc);
      goes = λ e. subst (λ (s : Stage). StageDone W C p h l q k m program (command_in program.commands l.guest.line) s b t) (sym (stage_ready l.guest.stage c.in_default-stage.not-Copying c.requires.quiet))
          (subst (λ (x : Command). HasDone W C p h l q k m program x b t) (sym c.in-Some.ensures.written) c.ready_turn.ensures);
    }
