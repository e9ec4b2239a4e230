use Rattle.std.proofs.Common.{◌≡◌, ◌∙◌, arith, ap, sym, subst, length}
use Rattle.std.proofs.lemmas.List.{length-append}
use Rattle.neph_script.specs.Index.{place_in}
use Rattle.neph_script.specs.Seen.{IsDraft, unended}
use Rattle.neph_script.proofs.Places.{index_push}
use Rattle.neph_script.proofs.state.Reader.end_program.Goals as goal

pub returns-clause-sound : goal.returns-clause-sound
returns-clause-sound c =
    let sound = c.requires.sound in
    let one : unended c.args.self.now.place ≡ 1 = ap unended c.requires.fits in
    record {
      frames = sound.frames;
      programs_few = omega (arith, ap length c.in_ok-push.ensures.items ∙ length-append c.args.self.now.programs.items _, one, sound.programs_few);
      places = index_push (λ p. p.name) (place_in c.args.self.now.places) (place_in c.put.new.self) c.args.self.now.programs.items c.push.new.self.items _ c.in_ok-key.key.items c.len.result sound.places c.in_ok-put.ensures (c.in_ok-key.ensures.items ∙ c.items.ensures) (omega (arith, c.len.ensures, c.args.self.now.programs.ok.0)) c.in_ok-push.ensures.items;
      draft = subst IsDraft (sym c.replace-draft.ensures.after) c.none.ensures.sound;
      starts_few = sound.starts_few;
      starts = sound.starts;
      turn_lines = sound.turn_lines;
    }
