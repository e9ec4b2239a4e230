use Rattle.std.proofs.Common.{arith, ◌∙◌, ap, ℕ, take, drop, ◌+◌, ◌-◌, ◌≡◌}
use Rattle.byteorder.specs.Endian.{little_number}
use Rattle.neph_ring.specs.Bytes.{u16_at, span}
use Rattle.neph_ring.proofs.network.slot_number.Goals as goal

pub returns : goal.returns
unfolding u16_at span
returns c = let at : ℕ = c.args.at in
    c.read_u16.ensures ∙ ap (λ (n : ℕ). little_number 2 (take n (drop at c.args.slot.now))) (let e : at + 2 - at ≡ 2 = omega arith in e)
