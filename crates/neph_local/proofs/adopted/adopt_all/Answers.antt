use Rattle.std.proofs.Common.{◌≡◌, ℕ, length, subst, arith}
use Rattle.neph_local.proofs.Adopting.{adopts_all}
use Rattle.neph_local.specs.Forks.{Adopts}
use Rattle.neph_local.proofs.adopted.adopt_all.Goals as goal

pub returns-clause-made : goal.returns-clause-made
returns-clause-made g c =
    adopts_all _ c.args.root c.loop-n.own c.args.from.now.pages c.loop-n.n (length c.args.from.now.pages) _ c.loop-n.invariant.adopts (omega (arith, c.requires.pages))

pub returns-clause-adopts : goal.returns-clause-adopts
returns-clause-adopts g c =
    let e : c.loop-n.n ≡ c.args.pages = omega arith in
    subst (λ (k : ℕ). Adopts (g.P.FramePool.world.entries c.args.pool.now c.args.k.now.seat) c.args.root c.loop-n.own c.args.from.now.pages k (length c.args.from.now.pages) c.args.k.now.frames.items) e c.loop-n.invariant.adopts
