use Rattle.std.proofs.Common.{◌+◌, ◌/◌, ◌==◌, if◌then◌else◌, ℕ, List, Bool, not, is_some, inr, refl, sym, ap, subst, ◌∙◌}
use Rattle.std.specs.declared.option.Option.{Option}
use Rattle.neph_pool.specs.declared.entry.Entry.{Entry}
use Rattle.neph_pool.specs.Entries.{hold_at}
use Rattle.neph_pool.specs.Names.{both_names}
use Rattle.neph_pool.specs.World.{Spares}
use Rattle.neph_ptab.specs.Tables.{leaf_at, walk_at, IsTables}
use Rattle.neph_memory.proofs.Building.{popped}
use Rattle.neph_memory.proofs.Numbers.{in_last}
use Rattle.neph_memory.specs.Building.{IsAmong}
use Rattle.neph_local.specs.Copies.{AreCopied}
use Rattle.neph_local.proofs.Copied.{copied_none, copied_more}
use Rattle.neph_local.proofs.Stepping.{spares_trans, spares_left}
use Rattle.neph_local.proofs.copying.copy_table.Goals as goal

pub returns-then-is_none-clause-copied : goal.returns-then-is_none-clause-copied
returns-then-is_none-clause-copied g c = λ cs waits a.
    let W = g.P.FramePool.world in
    let es = W.entries c.args.pool.now c.args.from.now in
    let mid = c.nth_leaf-leaf.ensures.moves.others.entries c.args.seat.now c.requires.seat.0 c.requires.apart in
    subst (λ (fs : List (Option Entry)). AreCopied es c.args.source.now.root cs fs c.args.tables.now.root waits c.args.frames.now.items (c.args.i + 1)) (sym mid)
    (copied_none es c.args.source.now.root cs (W.entries c.args.pool.now c.args.seat.now) c.args.tables.now.root waits c.args.frames.now.items c.args.i c.requires.place
    (ap is_some (sym c.nth_leaf-leaf.ensures.leaf) ∙ c.is_none.ensures ∙ ap not c.if-is_none.true) a)

pub returns-then-is_none-clause-seat : goal.returns-then-is_none-clause-seat
returns-then-is_none-clause-seat g c = record { fits = c.nth_leaf-leaf.ensures.moves.others.fits c.args.seat.now c.requires.seat.0 c.requires.apart; names = refl }

pub returns-then-is_none-clause-others : goal.returns-then-is_none-clause-others
returns-then-is_none-clause-others g c =
    let W = g.P.FramePool.world in spares_left W (W.names c.args.from.now) (W.names c.args.seat.now) c.args.pool.now c.nth_leaf-leaf.new.pool c.nth_leaf-leaf.ensures.moves.others

pub copy_leaf-requires-clause-stands : goal.copy_leaf-requires-clause-stands
copy_leaf-requires-clause-stands g c =
    subst (λ (fs : List (Option Entry)). IsTables fs c.args.tables.now.root) (sym (c.nth_leaf-leaf.ensures.moves.others.entries c.args.seat.now c.requires.seat.0 c.requires.apart)) c.requires.stands

pub copy_leaf-requires-clause-new : goal.copy_leaf-requires-clause-new
copy_leaf-requires-clause-new g c = λ j lt h.
    let e = popped _ _ _ c.unwrap-frame.result c.pop.ensures.items c.unwrap-frame.ensures in
    let took : IsAmong c.args.frames.now.items c.unwrap-frame.result = subst (λ (xs : List ℕ). IsAmong xs c.unwrap-frame.result) (sym e) (in_last c.pop.new.self.items c.unwrap-frame.result) in
    let mid = c.nth_leaf-leaf.ensures.moves.others.entries c.args.seat.now c.requires.seat.0 c.requires.apart in
    c.requires.free c.unwrap-frame.result took (inr (j, lt, sym (ap (λ (fs : List (Option Entry)). leaf_at fs c.args.tables.now.root j) mid) ∙ h))

pub returns-clause-copied : goal.returns-clause-copied
returns-clause-copied g c = λ cs waits a.
    let W = g.P.FramePool.world in
    let es = W.entries c.args.pool.now c.args.from.now in
    let fs = W.entries c.nth_leaf-leaf.new.pool c.args.seat.now in
    let gs = W.entries c.copy_leaf.new.pool c.copy_leaf.new.seat in
    let top = c.args.source.now.root in
    let root = c.args.tables.now.root in
    let i = c.args.i in
    let mid = c.nth_leaf-leaf.ensures.moves.others.entries c.args.seat.now c.requires.seat.0 c.requires.apart in
    let same = c.nth_leaf-leaf.ensures.entries in
    copied_more es top cs fs gs root waits c.args.frames.now.items c.pop.new.self.items i c.unwrap-frame.result c.requires.place
    (subst (λ (xs : List (Option Entry)). AreCopied es top cs xs root waits c.args.frames.now.items i) (sym mid) a)
    (ap is_some (sym c.nth_leaf-leaf.ensures.leaf) ∙ c.is_none.ensures ∙ ap not c.if-is_none.false)
    (popped _ _ _ c.unwrap-frame.result c.pop.ensures.items c.unwrap-frame.ensures)
    (λ x s. c.copy_leaf.ensures.alone x (ap (λ (xs : List (Option Entry)). hold_at xs x) same ∙ s))
    c.copy_leaf.ensures.leaves
    (λ u lt. c.copy_leaf.ensures.walks u lt ∙ ap (λ (xs : List (Option Entry)). if u / 512 == i then walk_at xs top u else walk_at fs root u) same)
    c.copy_leaf.ensures.holds c.copy_leaf.ensures.words c.copy_leaf.ensures.stands

pub returns-clause-others : goal.returns-clause-others
returns-clause-others g c =
    let W = g.P.FramePool.world in
    let ns = both_names (W.names c.args.from.now) (W.names c.args.seat.now) in
    spares_trans W ns c.args.pool.now c.nth_leaf-leaf.new.pool c.copy_leaf.new.pool
    (spares_left W (W.names c.args.from.now) (W.names c.args.seat.now) c.args.pool.now c.nth_leaf-leaf.new.pool c.nth_leaf-leaf.ensures.moves.others)
    (subst (λ (ms : ℕ → Bool). Spares W (both_names ms (W.names c.args.seat.now)) c.nth_leaf-leaf.new.pool c.copy_leaf.new.pool) c.nth_leaf-leaf.ensures.moves.names c.copy_leaf.ensures.others)
