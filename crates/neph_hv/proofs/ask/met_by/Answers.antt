use Rattle.std.proofs.Common.{◌<◌, ◌^◌, ◌/◌, sym, ap, ◌∙◌, arith}
use Rattle.neph_memory.specs.Domains.{domain_mapping}
use Rattle.neph_hv.proofs.ask.met_by.Goals as goal

pub returns-in-W-clause-met : goal.returns-in-W-clause-met
returns-in-W-clause-met g c =
    let lt : c.in-W.addr / 4096 < 2 ^ 18 = omega (arith, c.vpn.ensures, c.meets.ensures.range) in
    rw c.in-W.is (λ o h. h.mapping (c.in-W.addr / 4096) lt ∙ ap (domain_mapping g.P.FramePool.world c.args.pool.now c.args.d.now) (sym c.vpn.ensures) ∙ sym c.meets.ensures.mapping)

pub returns-in-R-clause-met : goal.returns-in-R-clause-met
returns-in-R-clause-met g c =
    let lt : c.in-R.addr / 4096 < 2 ^ 18 = omega (arith, c.vpn-in-R.ensures, c.meets-in-R.ensures.range) in
    rw c.in-R.is (λ o h. h.mapping (c.in-R.addr / 4096) lt ∙ ap (domain_mapping g.P.FramePool.world c.args.pool.now c.args.d.now) (sym c.vpn-in-R.ensures) ∙ sym c.meets-in-R.ensures.mapping)
