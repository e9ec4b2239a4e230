use Rattle.std.proofs.Common.{◌<◌, sym, ◌∙◌, refl, arith}
use Rattle.neph_ptab.specs.Bits.{number_in}
use Rattle.neph_ptab.proofs.bits.leaf_in.Goals as goal

pub number_in-requires : goal.number_in-requires
number_in-requires c =
    let small : number_in c.args.word < 16384 = c.requires (number_in c.args.word) (rw (sym c.has_bit.ensures ∙ c.if-has_bit.true) refl) in
    omega arith
