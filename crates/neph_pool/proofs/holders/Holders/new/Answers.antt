use Rattle.neph_pool.proofs.Sharers.{new_kinds, holders_start}
use Rattle.neph_pool.proofs.holders.Holders.new.Goals as goal

pub returns-clause-owners : goal.returns-clause-owners
returns-clause-owners c = rw (new_kinds _ _ _ c.args.frames c.in_ok-kinds.ensures.items c.in_ok-kinds.ensures.len c.in_ok-resize.ensures.items) (holders_start _ c.args.frames _)
