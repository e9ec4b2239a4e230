use Rattle.neph_ring.proofs.P9Pages.{put_parts, holds_put, kept_put}
use Rattle.neph_ring.proofs.Spans.{length_page}
use Rattle.neph_ring.proofs.p9.put_message.Goals as goal

pub returns-clause-page : goal.returns-clause-page
returns-clause-page g c =
    put_parts _ _ _ _ _ _ _ (length_page _ (g.met.W.Words.full c.args.page.now)) c.requires c.number.ensures c.write_u32.ensures.bytes c.write_u32-2.ensures.bytes c.write_bytes.ensures.bytes

pub returns-clause-holds : goal.returns-clause-holds
returns-clause-holds g c = holds_put _ _ c.args.state c.args.bytes.now (length_page _ (g.met.W.Words.full c.args.page.now)) c.requires (returns-clause-page g c)

pub returns-clause-kept : goal.returns-clause-kept
returns-clause-kept g c = kept_put _ _ c.args.state c.args.bytes.now (length_page _ (g.met.W.Words.full c.args.page.now)) c.requires (returns-clause-page g c)
