use Rattle.std.proofs.Common.{◌≡◌, ℕ, ◌+◌, ◌<◌, ◌^◌, Some, None, List, [], ◌∷◌, ◌++◌, length, map, drop, sym, ap, subst, ◌∙◌, append_assoc, arith}
use Rattle.std.specs.List.{AllByRecursion}
use Rattle.std.proofs.lemmas.List.{append-nil, length-append}
use Rattle.neph_p9msg.specs.declared.msg.Qid.{Qid}
use Rattle.neph_p9srv.specs.State.{next, trail, qid_of, end_of}
use Rattle.neph_p9srv.proofs.WalkLemmas.{trail_none, trail_some, trail_end, all_push}
use Rattle.neph_p9srv.proofs.requests.trail.Goals as goal

pub returns-in-None-clause-qids : goal.returns-in-None-clause-qids
returns-in-None-clause-qids c =
    let none : next c.args.tree.now c.loop-name.last c.name-item.result ≡ None = ap (next c.args.tree.now c.loop-name.last) (sym c.items.ensures) ∙ sym c.in-None.ensures in
    let stop = trail_none c.args.tree.now c.loop-name.last c.args.names.now c.loop-name.name-index c.name-item.result c.loop-name-test.true c.name-item.is none in
    sym (append-nil c.loop-name.qids.items) ∙ ap (λ (ns : List ℕ). c.loop-name.qids.items ++ map (qid_of c.args.tree.now) ns) (sym stop) ∙ c.loop-name.invariant.qids

pub returns-in-None-clause-end : goal.returns-in-None-clause-end
returns-in-None-clause-end c =
    let none : next c.args.tree.now c.loop-name.last c.name-item.result ≡ None = ap (next c.args.tree.now c.loop-name.last) (sym c.items.ensures) ∙ sym c.in-None.ensures in
    let stop = trail_none c.args.tree.now c.loop-name.last c.args.names.now c.loop-name.name-index c.name-item.result c.loop-name-test.true c.name-item.is none in
    ap (end_of c.loop-name.last) (sym stop) ∙ c.loop-name.invariant.last

pub loop-name-preserved : goal.loop-name-preserved
loop-name-preserved c =
    let nodes = c.args.tree.now in
    let n = c.in-Some.n in
    let rest = trail nodes n (drop (c.loop-name.name-index + 1) c.args.names.now) in
    let found : next c.args.tree.now c.loop-name.last c.name-item.result ≡ Some c.in-Some.n = ap (next c.args.tree.now c.loop-name.last) (sym c.items.ensures) ∙ sym c.in-Some.ensures in
    let on = trail_some nodes c.loop-name.last c.args.names.now c.loop-name.name-index c.name-item.result n c.loop-name-test.true c.name-item.is found in
    let pushed : c.push.new.self.items ≡ c.loop-name.qids.items ++ c.qid.result ∷ [] = c.in_ok-push-in-Some.ensures.items in
    record {
      qids = ap (λ (xs : List Qid). xs ++ map (qid_of nodes) rest) (pushed ∙ ap (λ (q : Qid). c.loop-name.qids.items ++ q ∷ []) c.qid.ensures.value)
          ∙ append_assoc c.loop-name.qids.items (qid_of nodes n ∷ []) (map (qid_of nodes) rest)
          ∙ sym (ap (λ (ns : List ℕ). c.loop-name.qids.items ++ map (qid_of nodes) ns) on) ∙ c.loop-name.invariant.qids;
      last = sym (ap (end_of c.loop-name.last) on) ∙ c.loop-name.invariant.last;
      fits = subst (λ (xs : List Qid). AllByRecursion (λ q. q.path < 256 ^ 8) xs) (sym pushed) (all_push (λ q. q.path < 256 ^ 8) c.loop-name.qids.items c.qid.result c.loop-name.invariant.fits c.qid.ensures.range);
      most = omega (arith, ap length pushed, length-append c.loop-name.qids.items (c.qid.result ∷ []), c.loop-name.invariant.most);
    }

pub returns-clause-qids : goal.returns-clause-qids
returns-clause-qids c =
    let stop = trail_end c.args.tree.now c.loop-name.last c.args.names.now c.loop-name.name-index c.loop-name-test.false in
    sym (append-nil c.loop-name.qids.items) ∙ ap (λ (ns : List ℕ). c.loop-name.qids.items ++ map (qid_of c.args.tree.now) ns) (sym stop) ∙ c.loop-name.invariant.qids

pub returns-clause-end : goal.returns-clause-end
returns-clause-end c = ap (end_of c.loop-name.last) (sym (trail_end c.args.tree.now c.loop-name.last c.args.names.now c.loop-name.name-index c.loop-name-test.false)) ∙ c.loop-name.invariant.last
