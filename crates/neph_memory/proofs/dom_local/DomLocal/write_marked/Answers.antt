use Rattle.std.proofs.Common.{sym, ◌∙◌}
use Rattle.neph_memory.proofs.dom_local.DomLocal.write_marked.Goals as goal

pub write_frame-requires-clause-page : goal.write_frame-requires-clause-page
write_frame-requires-clause-page g c = (c.args.p, sym c.frame_for.ensures ∙ c.unwrap-frame.ensures)

pub write_frame-requires-clause-sole : goal.write_frame-requires-clause-sole
write_frame-requires-clause-sole g c = (c.requires.stands.memory.made.sole c.args.p c.unwrap-frame.result (sym c.frame_for.ensures ∙ c.unwrap-frame.ensures)).0 c.requires.marked

pub returns-clause-bytes : goal.returns-clause-bytes
returns-clause-bytes g c = c.write_frame.ensures.bytes c.args.p (sym c.frame_for.ensures ∙ c.unwrap-frame.ensures)
