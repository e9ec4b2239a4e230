use Rattle.std.proofs.Common.{sym, ap, subst, ◌∙◌, arith}
use Rattle.std.specs.List.{sum_by}
use Rattle.neph_machine.specs.FrameUses.{tables_in, spares_in, aside_in}
use Rattle.neph_machine.specs.Places.{place_at}
use Rattle.neph_machine.specs.Reached.{state_after}
use Rattle.neph_machine.proofs.Reached.{reached}
use Rattle.neph_turns.specs.Seats.{StandsIn}
use Rattle.neph_turns.proofs.Counted.{within, counts_are, stand_in}
use Rattle.neph_turns.proofs.uses.counts.Goals as goal

pub overflow_cast-free : goal.overflow_cast-free
overflow_cast-free g c = let w = within g.P.FramePool.world c.args.machine.now c.requires.surveyed c.requires.formed c.requires.running in omega (arith, w.free, w.high, c.free_len-free.ensures)

pub fork_count-requires : goal.fork_count-requires
fork_count-requires g c = let w = within g.P.FramePool.world c.args.machine.now c.requires.surveyed c.requires.formed c.requires.running in omega (arith, ap (sum_by aside_in) c.deref.ensures.value, w.aside, w.high)

pub overflow_add-aside : goal.overflow_add-aside
overflow_add-aside g c =
    let w = within g.P.FramePool.world c.args.machine.now c.requires.surveyed c.requires.formed c.requires.running in
    let aside = c.fork_count.ensures ∙ ap (sum_by aside_in) c.deref.ensures.value in
    omega (arith, aside, w.aside, w.high, c.aside_len-put_aside.ensures)

pub overflow_cast-aside : goal.overflow_cast-aside
overflow_cast-aside g c =
    let w = within g.P.FramePool.world c.args.machine.now c.requires.surveyed c.requires.formed c.requires.running in
    let aside = c.fork_count.ensures ∙ ap (sum_by aside_in) c.deref.ensures.value in
    omega (arith, aside, w.aside, w.high, c.aside_len-put_aside.ensures)

pub spare_count-spares-requires : goal.spare_count-spares-requires
spare_count-spares-requires g c = let w = within g.P.FramePool.world c.args.machine.now c.requires.surveyed c.requires.formed c.requires.running in omega (arith, ap (sum_by spares_in) c.deref-2.ensures.value, w.spares, w.high)

pub table_count-tables-requires-clause-stand : goal.table_count-tables-requires-clause-stand
table_count-tables-requires-clause-stand g c =
    let W = g.P.FramePool.world in
    let m = c.args.machine.now in
    let n = c.requires.running in
    λ id. subst (λ xs. StandsIn W m.pool id (place_at id xs)) (sym c.deref_mut.ensures.value)
    (stand_in W m (state_after m.script n.0) (reached m.script c.requires.formed n.0) n.1 c.requires.surveyed id)

pub table_count-tables-requires-clause-few : goal.table_count-tables-requires-clause-few
table_count-tables-requires-clause-few g c =
    let w = within g.P.FramePool.world c.args.machine.now c.requires.surveyed c.requires.formed c.requires.running in
    omega (arith, ap (sum_by (tables_in g.P.FramePool.world c.args.machine.now.pool)) c.deref_mut.ensures.value, w.tables, w.high)

pub counts_of-requires : goal.counts_of-requires
counts_of-requires g c =
    let w = within g.P.FramePool.world c.args.machine.now c.requires.surveyed c.requires.formed c.requires.running in
    let tables = c.table_count-tables.ensures.count ∙ ap (sum_by (tables_in g.P.FramePool.world c.args.machine.now.pool)) c.deref_mut.ensures.value in
    let spares = c.spare_count-spares.ensures ∙ ap (sum_by spares_in) c.deref-2.ensures.value in
    let aside = c.fork_count.ensures ∙ ap (sum_by aside_in) c.deref.ensures.value in
    omega (arith, tables, spares, aside, c.aside_len-put_aside.ensures, c.free_len-free.ensures, w.all)

pub returns-clause-value : goal.returns-clause-value
returns-clause-value g c = λ before stands.
    let W = g.P.FramePool.world in
    let m = c.args.machine.now in
    let tables = c.table_count-tables.ensures.count ∙ ap (sum_by (tables_in g.P.FramePool.world c.args.machine.now.pool)) c.deref_mut.ensures.value in
    let spares = c.spare_count-spares.ensures ∙ ap (sum_by spares_in) c.deref-2.ensures.value in
    let aside = c.fork_count.ensures ∙ ap (sum_by aside_in) c.deref.ensures.value in
    c.counts_of.ensures ∙ counts_are W m (state_after m.script before) (reached m.script c.requires.formed before) stands c.requires.surveyed c.table_count-tables.result c.spare_count-spares.result _ c.free_len-free.result
    tables spares (omega (arith, aside, c.aside_len-put_aside.ensures)) c.free_len-free.ensures
