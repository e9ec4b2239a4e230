use Rattle.std.proofs.Common.{◌≡◌, ◌≤◌, ◌*◌, sum_by, cond}
use Rattle.std.specs.List.{range_with_len}
use Rattle.neph_model.specs.Books.{table_frames}
use Rattle.neph_model.specs.Machine.{is_live}
use Rattle.neph_flat.specs.Halves.{seen}
use Rattle.neph_flat.proofs.counts.tables.Given as goal

abbrev pub invariant-loop-id : goal.invariant-loop-id
invariant-loop-id l =
    record { sum : l.frames ≡ sum_by (λ id. cond (is_live id l.h.registry.lives) (table_frames (seen l.h) id) 0) (range_with_len 0 l.id); few : l.frames ≤ 600 * l.id }
