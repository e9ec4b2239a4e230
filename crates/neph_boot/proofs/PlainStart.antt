-- A new plain pool meets what the start of a machine needs of its pool.
use Rattle.std.proofs.Common.{ℕ, ◌<◌, List, ap, ◌∙◌}
use Rattle.std.specs.declared.option.Option.{Option}
use Rattle.neph_pool.specs.declared.entry.Entry.{Entry}
use Rattle.neph_pool.specs.declared.plain_pool.PlainPool.{PlainPool}
use Rattle.neph_pool.specs.declared.plain_pool.PlainSeat.{PlainSeat}
use Rattle.neph_pool.specs.Entries.{hold_at, IsZeroAt}
use Rattle.neph_pool.specs.Plain.{plain_world, IsStart}
use Rattle.neph_pool.specs.Rows.{blank_entry}
use Rattle.neph_pool.proofs.Parts.{hold_at-replicate}

-- its seat keeps each frame
pub plain_zero : (n cap : ℕ) (p : PlainPool) (s : PlainSeat) → IsStart n cap p s → (f : ℕ) → f < n → IsZeroAt (plain_world.entries p s) f
unfolding blank_entry
plain_zero n cap p s start f lt = ap (λ (es : List (Option Entry)). hold_at es f) start.entries ∙ hold_at-replicate n f blank_entry lt
