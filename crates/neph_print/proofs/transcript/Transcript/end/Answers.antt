use Rattle.neph_print.proofs.CourseLemmas.{all_put, whole_text}
use Rattle.neph_print.proofs.transcript.Transcript.end.Goals.{then-stalled, else-stalled}
use Rattle.neph_print.proofs.transcript.Transcript.end.Goals as goal

pub returns : goal.returns
returns c = λ s history told.
    whole_text s history c.args.frames.now c.args.stalled _ _ _ (all_put s c.args.self history told c.requires).text c.in_ok-put_frames_line.ensures
    (elim c.if-stalled.branch [
      | then-stalled w ↦ rw w.if-stalled.true (rw w.put_word-is at c.in_ok-put_word.ensures)
      | else-stalled w ↦ rw w.if-stalled.false (rw w.put_word-is at c.in_ok-put_word.ensures)
    ])
