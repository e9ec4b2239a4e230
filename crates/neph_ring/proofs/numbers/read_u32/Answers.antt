use Rattle.std.proofs.Common.{◌∙◌, ap}
use Rattle.byteorder.specs.Endian.{little_number}
use Rattle.neph_ring.specs.Bytes.{u32_at}
use Rattle.neph_ring.proofs.numbers.read_u32.Goals as goal

pub returns-clause-number : goal.returns-clause-number
unfolding u32_at
returns-clause-number g c = c.read_u32.ensures ∙ ap (little_number 4) c.read_bytes.ensures.bytes
