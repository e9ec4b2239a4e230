use Rattle.std.proofs.Common.{◌≡◌, ◌<◌, ◌≤◌, ℕ, false, get_or, if◌then◌else◌}
use Rattle.neph_pool.specs.Rows.{row_of}
use Rattle.neph_pool.proofs.renaming.point_names.Given as goal

abbrev pub invariant-loop-d : goal.invariant-loop-d
invariant-loop-d l = record {
  before : (e : ℕ) → e < l.d → row_of l.rows e ≡ (if get_or l.names e false then l.to else row_of l.initial.rows e);
  after : (e : ℕ) → l.d ≤ e → row_of l.rows e ≡ row_of l.initial.rows e;
}
