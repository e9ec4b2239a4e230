use Rattle.std.proofs.Common.{List, sym, subst, arith}
use Rattle.neph_p9msg.specs.declared.msg.Qid.{Qid}
use Rattle.neph_p9msg.specs.declared.msg.MsgBody.TheVariants.{Rwalk}
use Rattle.neph_p9srv.specs.Rules.{IsReply}
use Rattle.neph_p9srv.proofs.WalkLemmas.{qids_fit}
use Rattle.neph_p9srv.proofs.requests.walked.Goals as goal

pub returns-in_ok-insert-clause-message : goal.returns-in_ok-insert-clause-message
returns-in_ok-insert-clause-message c =
    subst (λ (qs : List Qid). IsReply (Rwalk qs)) (sym c.of.ensures) (qids_fit c.in_ok-qids.qids.items (omega (arith, c.in_ok-qids.ensures.most, c.requires)) c.in_ok-qids.ensures.fits)

pub returns-else-is_empty-clause-message : goal.returns-else-is_empty-clause-message
returns-else-is_empty-clause-message c =
    subst (λ (qs : List Qid). IsReply (Rwalk qs)) (sym c.of-else-is_empty.ensures) (qids_fit c.in_ok-qids.qids.items (omega (arith, c.in_ok-qids.ensures.most, c.requires)) c.in_ok-qids.ensures.fits)
