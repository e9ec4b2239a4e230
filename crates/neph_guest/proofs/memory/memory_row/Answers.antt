use Rattle.std.proofs.Common.{OnErr, IfOk, Ok, Err, subst}
use Rattle.std.specs.Bool.{⊤}
use Rattle.std.specs.declared.result.Result.{Result}
use Rattle.neph_base.specs.declared.memory.NoMemory.{NoMemory}
use Rattle.neph_guest.specs.declared.row.Row.{Row}
use Rattle.neph_guest.specs.Turns.{HasLeafRoom}
use Rattle.neph_guest.proofs.memory.memory_row.Goals as goal

any_err : (r : Result Row NoMemory) → OnErr r ⊤
any_err (Ok row) = tt
any_err (Err lacks) = tt

any_ok : (r : Result Row NoMemory) → IfOk r (λ row. ⊤)
any_ok (Ok row) = tt
any_ok (Err lacks) = tt

pub returns-in-W-clause-row : goal.returns-in-W-clause-row
returns-in-W-clause-row g c = rw c.in-W.is c.write.ensures.row

pub returns-in-W-clause-hand : goal.returns-in-W-clause-hand
returns-in-W-clause-hand g c = rw c.in-W.is c.write.ensures.hand

pub returns-in-R-clause-row : goal.returns-in-R-clause-row
returns-in-R-clause-row g c = rw c.in-R.is c.read.ensures.row

pub returns-in-Map-clause-row : goal.returns-in-Map-clause-row
returns-in-Map-clause-row g c = rw c.in-Map.is c.map.ensures.row

pub returns-in-Map-clause-hand : goal.returns-in-Map-clause-hand
returns-in-Map-clause-hand g c = rw c.in-Map.is c.map.ensures.hand

pub returns-in-Map-clause-spare : goal.returns-in-Map-clause-spare
returns-in-Map-clause-spare g c = rw c.in-Map.is c.map.ensures.spare

pub returns-in-Unmap-clause-row : goal.returns-in-Unmap-clause-row
returns-in-Unmap-clause-row g c = rw c.in-Unmap.is c.unmap.ensures.row

pub returns-in-Map-clause-map : goal.returns-in-Map-clause-map
returns-in-Map-clause-map g c = rw c.in-Map.is (any_err c.map.result)

pub map-requires-clause-cap : goal.map-requires-clause-cap
map-requires-clause-cap g c = subst (HasLeafRoom g.P.FramePool.world c.args.pool.now c.args.d.now) c.in-Map.is c.requires.cap

pub returns-in-W-clause-look : goal.returns-in-W-clause-look
returns-in-W-clause-look g c = rw c.in-W.is c.write.ensures.look

pub returns-in-R-clause-look : goal.returns-in-R-clause-look
returns-in-R-clause-look g c = rw c.in-R.is tt

pub returns-in-Map-clause-look : goal.returns-in-Map-clause-look
returns-in-Map-clause-look g c = rw c.in-Map.is (any_ok c.map.result)

pub returns-in-Unmap-clause-look : goal.returns-in-Unmap-clause-look
returns-in-Unmap-clause-look g c = rw c.in-Unmap.is tt

pub returns-in-W-clause-held : goal.returns-in-W-clause-held
returns-in-W-clause-held g c = rw c.in-W.is tt

pub returns-in-R-clause-held : goal.returns-in-R-clause-held
returns-in-R-clause-held g c = rw c.in-R.is tt

pub returns-in-Map-clause-held : goal.returns-in-Map-clause-held
returns-in-Map-clause-held g c = rw c.in-Map.is c.map.ensures.held

pub returns-in-Unmap-clause-held : goal.returns-in-Unmap-clause-held
returns-in-Unmap-clause-held g c = rw c.in-Unmap.is tt
