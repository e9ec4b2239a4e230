use Rattle.std.proofs.Common.{ap, ◌∙◌}
use Rattle.neph_model.specs.declared.frames.FrameCounts.{FrameCounts}
use Rattle.neph_model.specs.Transcript.{transcript}
use Rattle.neph_machine.proofs.Surveying.{plain_surveyed}
use Rattle.neph_core.specs.Course.{entries_after}
use Rattle.neph_core.proofs.machine.Machine.end.Goals as goal

pub put_latest-requires : goal.put_latest-requires
put_latest-requires c =
    let n = c.requires.running in
    (entries_after c.args.self.frames.script n.0, n.1.tells)

pub counts-requires-clause-surveyed : goal.counts-requires-clause-surveyed
counts-requires-clause-surveyed c = plain_surveyed

pub returns-clause-text : goal.returns-clause-text
returns-clause-text c = λ before stands.
    let s = c.args.self.frames.script in
    let entries = entries_after s before in
    let counted = c.counts.ensures.value before stands.frames in
    c.in_ok-text.ensures s entries (c.put_latest.ensures.tells entries stands.tells) ∙ ap (λ (f : FrameCounts). transcript s entries f c.args.stalled) counted
