use Rattle.std.proofs.Common.{◌<◌, ℕ, Bool, List, ap, ◌∙◌, arith}
use Rattle.std.specs.declared.option.Option.{Option}
use Rattle.neph_pool.specs.declared.entry.Entry.{Entry}
use Rattle.neph_pool.specs.Entries.{hold_at}
use Rattle.neph_pool.specs.Rows.{blank_entry}
use Rattle.neph_pool.proofs.Parts.{hold_at-replicate}
use Rattle.neph_ptab.proofs.tests.pages_are_mapped.Goals as goal

pub map_in-seen-requires-clause-root : goal.map_in-seen-requires-clause-root
unfolding blank_entry
map_in-seen-requires-clause-root g c =
    let small : c.in_ok-root.root < 16 = omega arith in
    ap (λ (es : List (Option Entry)). hold_at es c.in_ok-root.root) c.in_ok-pool.ensures.entries ∙ hold_at-replicate 16 c.in_ok-root.root blank_entry small

pub map_in-seen-requires-clause-leaf : goal.map_in-seen-requires-clause-leaf
unfolding blank_entry
map_in-seen-requires-clause-leaf g c =
    let small : c.in_ok-leaf.leaf < 16 = omega arith in
    ap (λ (es : List (Option Entry)). hold_at es c.in_ok-leaf.leaf) c.in_ok-pool.ensures.entries ∙ hold_at-replicate 16 c.in_ok-leaf.leaf blank_entry small

pub tell-requires-clause-name : goal.tell-requires-clause-name
tell-requires-clause-name g c = ap (λ (f : ℕ → Bool). f 0) c.map_in-seen.ensures.moves.names ∙ c.in_ok-pool.ensures.names 0 (omega arith)
