use Rattle.std.proofs.Common.{◌≡◌, ◌<◌, ◌≤◌, ◌||◌, ℕ, false, get_or}
use Rattle.neph_pool.proofs.renaming.add_names.Given as goal

abbrev pub invariant-loop-d : goal.invariant-loop-d
invariant-loop-d l = record {
  before : (e : ℕ) → e < l.d → get_or l.names e false ≡ (get_or l.initial.names e false || get_or l.more e false);
  after : (e : ℕ) → l.d ≤ e → get_or l.names e false ≡ get_or l.initial.names e false;
}
