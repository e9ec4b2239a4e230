use Rattle.neph_p9msg.specs.Grammar.{number, payload}
use Rattle.neph_p9msg.proofs.Puts.{three_puts}
use Rattle.neph_p9msg.proofs.encoding.put_write.Goals as goal

pub returns : goal.returns
returns c = three_puts c.args.draft.now c.put_u32.new.self c.put_u64.new.self c.put_payload.new.draft (number 4 c.args.fid) (number 8 c.args.offset) (payload c.args.bytes.now) c.put_u32.ensures c.put_u64.ensures c.put_payload.ensures
