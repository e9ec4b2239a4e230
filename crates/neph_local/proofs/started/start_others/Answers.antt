use Rattle.std.proofs.Common.{◌/◌, ℕ, IsSome, sym, subst, ◌∙◌, arith}
use Rattle.neph_pool.proofs.Calls.{moves_trans, same_counts_trans}
use Rattle.neph_local.proofs.started.start_others.Goals as goal

pub start_page-requires-clause-leaf : goal.start_page-requires-clause-leaf
start_page-requires-clause-leaf g c =
    let lt = c.loop-n-test.true in
    let i : ℕ = c.loop-n.n / 512 in
    subst IsSome (sym (c.loop-n.invariant.leaves i (omega (arith, lt, c.requires.few)))) (c.requires.leaves i (omega (arith, lt)))

pub returns-in_err-start_page-clause-leaves : goal.returns-in_err-start_page-clause-leaves
returns-in_err-start_page-clause-leaves g c = λ i lt. c.start_page.ensures.leaves i lt ∙ c.loop-n.invariant.leaves i lt

pub returns-in_err-start_page-clause-moves : goal.returns-in_err-start_page-clause-moves
returns-in_err-start_page-clause-moves g c = moves_trans _ _ _ _ _ _ _ c.loop-n.invariant.moves c.start_page.ensures.moves

pub loop-n-preserved : goal.loop-n-preserved
loop-n-preserved g c =
    let v = c.loop-n.invariant in
    let left = c.in_ok-start_page.ensures.left in record {
      moves = moves_trans _ _ _ _ _ _ _ v.moves c.start_page.ensures.moves;
      counts = same_counts_trans _ _ _ _ v.counts c.start_page.ensures.counts;
      builds = c.in_ok-start_page.ensures.builds;
      starts = c.in_ok-start_page.ensures.starts;
      leaves = λ j lt. c.start_page.ensures.leaves j lt ∙ v.leaves j lt;
      left = omega (arith, left, v.left);
      count = c.start_page.ensures.count ∙ v.count;
      spare = c.start_page.ensures.spare ∙ v.spare;
      id = c.start_page.ensures.id ∙ v.id;
      hand = c.start_page.ensures.hand ∙ v.hand;
    }

pub returns-in_err-start_page-clause-counts : goal.returns-in_err-start_page-clause-counts
returns-in_err-start_page-clause-counts g c = same_counts_trans _ _ _ _ c.loop-n.invariant.counts c.start_page.ensures.counts
