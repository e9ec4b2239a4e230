use Rattle.std.proofs.Common.{◌≡◌, ◌+◌, ◌*◌, ◌≤◌, ℕ, zero, suc, List, [], ◌∷◌, refl, sym, ap, ◌∙◌, arith}
use Rattle.std.specs.declared.option.Option.{Option}
use Rattle.neph_pool.specs.declared.entry.Entry.{Entry}
use Rattle.neph_pool.specs.Entries.{hold_at, is_here, is_counted, weight_of, entry_count, IsShaped}
use Rattle.neph_pool.specs.Handing.{moved_into, left_hold, moved_hold}
use Rattle.neph_pool.proofs.Walks.{may_one, left_one, moved_one}
use Rattle.neph_pool.specs.Names.{name_count}
use Rattle.neph_pool.proofs.Parts.{hold_at-nothing, hold_at-giving, hold_at-taking, count_moved, place_of, name_count-some}
use Rattle.neph_pool.proofs.Tables.{count_nothing}
use Rattle.neph_pool.proofs.tests.lend.Goals as goal

one_of_each : (c n : ℕ) → 1 ≤ c → 1 ≤ n → 1 ≤ c * n
one_of_each zero n h k = absurd (omega arith)
one_of_each (suc c) n h k = omega arith

pub hand-requires-clause-part : goal.hand-requires-clause-part
hand-requires-clause-part g c =
    let none = ap (λ (xs : List (Option Entry)). hold_at xs c.args.f) c.requires.nothing ∙ hold_at-nothing _ c.args.f in
    may_one _ _ c.args.f (ap is_here c.requires.frame, λ w. ap is_counted none)

pub hand-requires-clause-room : goal.hand-requires-clause-room
hand-requires-clause-room g c = λ no'.
    let W = g.P.FramePool.world in
    let es = W.entries c.args.pool.now c.args.s.now in
    let to = W.entries c.args.pool.now c.args.t.now in
    let most : entry_count (moved_into es to (c.args.f ∷ [])) ≤ entry_count to + 1 = count_moved es to (c.args.f ∷ []) (refl, tt) in
    let none : entry_count to ≡ 0 = ap entry_count c.requires.nothing ∙ count_nothing (W.frames c.args.pool.now) in
    let names = name_count-some (W.names c.args.t.now) c.args.d (rw c.get-d.ensures.value at c.get-d.ensures.range) c.requires.t.1 in
    let one : 1 ≤ W.cap c.args.pool.now * name_count (W.names c.args.t.now) = one_of_each (W.cap c.args.pool.now) (name_count (W.names c.args.t.now)) c.requires.cap names in
    omega (arith, most, none, one)

pub returns-clause-given : goal.returns-clause-given
returns-clause-given g c =
    let W = g.P.FramePool.world in
    let es = W.entries c.args.pool.now c.args.s.now in
    let fit = place_of es es c.args.f refl (ap is_here c.requires.frame) in
    ap (λ (xs : List (Option Entry)). weight_of (hold_at xs c.args.f)) (c.hand.ensures.left ∙ left_one es c.args.f) ∙ ap weight_of (hold_at-giving es c.args.f fit ∙ ap left_hold c.requires.frame)

pub returns-clause-taken : goal.returns-clause-taken
returns-clause-taken g c =
    let W = g.P.FramePool.world in
    let es = W.entries c.args.pool.now c.args.s.now in
    let to = W.entries c.args.pool.now c.args.t.now in
    let s : IsShaped (W.frames c.args.pool.now) es = g.met.P.FramePool.shaped _ _ c.requires.s.0 in
    let t : IsShaped (W.frames c.args.pool.now) to = g.met.P.FramePool.shaped _ _ c.requires.t.0 in
    let fit = place_of es to c.args.f (t.places ∙ sym s.places) (ap is_here c.requires.frame) in
    ap (λ (xs : List (Option Entry)). weight_of (hold_at xs c.args.f)) (c.hand.ensures.moved ∙ moved_one es to c.args.f) ∙ ap weight_of (hold_at-taking es to c.args.f fit ∙ ap moved_hold c.requires.frame)
