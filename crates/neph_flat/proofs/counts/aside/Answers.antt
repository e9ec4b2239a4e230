use Rattle.std.proofs.Common.{◌≡◌, ℕ, cond, sum_by, arith, ap, ◌∙◌}
use Rattle.std.specs.List.{range_with_len}
use Rattle.neph_model.specs.Books.{aside_for}
use Rattle.neph_model.specs.Machine.{is_live, sum_live}
use Rattle.neph_flat.specs.Halves.{seen}
use Rattle.neph_flat.proofs.StartLists.{sum_more}
use Rattle.neph_flat.proofs.counts.aside.Goals as goal

pub loop-id-preserved : goal.loop-id-preserved
loop-id-preserved c =
    let f : ℕ → ℕ = λ id. cond (is_live id c.args.h.now.registry.lives) (aside_for (seen c.args.h.now) id) 0 in
    let last : c.live_aside-frames.result ≡ f c.loop-id.id = c.live_aside-frames.ensures.value in
    let sum : c.loop-id.frames ≡ sum_by f (range_with_len 0 c.loop-id.id) = c.loop-id.invariant.sum in
    record { sum = omega (arith, sum, last, sum_more f c.loop-id.id); few = omega (arith, c.loop-id.invariant.few, c.live_aside-frames.ensures.few) }

pub returns-clause-value : goal.returns-clause-value
unfolding sum_live
returns-clause-value c =
    let f : ℕ → ℕ = λ id. cond (is_live id c.args.h.now.registry.lives) (aside_for (seen c.args.h.now) id) 0 in
    let all : c.loop-id.id ≡ 64 = omega (arith, c.loop-id.auto.id-end, c.loop-id-test.false) in
    c.loop-id.invariant.sum ∙ ap (λ n. sum_by f (range_with_len 0 n)) all
