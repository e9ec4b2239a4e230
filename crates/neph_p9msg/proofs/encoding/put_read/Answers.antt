use Rattle.neph_p9msg.specs.Grammar.{number}
use Rattle.neph_p9msg.proofs.Puts.{three_puts}
use Rattle.neph_p9msg.proofs.encoding.put_read.Goals as goal

pub returns : goal.returns
returns c = three_puts c.args.draft.now c.put_u32.new.self c.put_u64.new.self c.put_u32-2.new.self (number 4 c.args.fid) (number 8 c.args.offset) (number 4 c.args.count) c.put_u32.ensures c.put_u64.ensures c.put_u32-2.ensures
