use Rattle.std.proofs.Common.{ℕ, List, Bool, false, length, refl, sym, ap, subst, ◌∙◌}
use Rattle.neph_pool.specs.Entries.{weight_of}
use Rattle.neph_ptab.specs.Tables.{leaf_at}
use Rattle.neph_memory.specs.declared.own.Own.{Own}
use Rattle.neph_memory.proofs.Leading.{named}
use Rattle.neph_memory.proofs.Building.{popped, more, fewer, rest, sole_took, once_new, sole_new, wiped_holds}
use Rattle.neph_local.proofs.Rooted.{rooted_made, rooted_starts, pages_long, long}
use Rattle.neph_memory.specs.Memory.{IsMade}
use Rattle.neph_memory.specs.Building.{IsAmong}
use Rattle.neph_local.specs.Starts.{StartsTo}
use Rattle.neph_local.proofs.started.rooted.Goals as goal

pub new-tables-requires-clause-seat : goal.new-tables-requires-clause-seat
new-tables-requires-clause-seat g c = (c.requires.fits, named _ _ c.requires.names)

pub new-tables-requires-clause-root : goal.new-tables-requires-clause-root
new-tables-requires-clause-root g c =
    let es = g.P.FramePool.world.entries c.args.pool.now c.args.seat in
    sole_took es es _ _ c.unwrap-root.result (popped _ _ _ c.unwrap-root.result c.pop.ensures.items c.unwrap-root.ensures) c.requires.once c.requires.sole (λ x. refl)

pub returns-clause-builds : goal.returns-clause-builds
returns-clause-builds g c =
    let W = g.P.FramePool.world in
    let es = W.entries c.args.pool.now c.args.seat in
    let fs = W.entries c.new-tables.new.pool c.new-tables.new.seat in
    let o : Own = c.in_ok-own.own in
    let e = popped _ _ _ c.unwrap-root.result c.pop.ensures.items c.unwrap-root.ensures in
    let h = wiped_holds es fs c.unwrap-root.result _ c.new-tables.ensures.entries in record {
      fits = c.new-tables.ensures.moves.fits;
      names = c.new-tables.ensures.moves.names ∙ c.requires.names;
      made = subst (λ (r : ℕ). IsMade fs r o (IsAmong c.pop.new.self.items)) (sym c.new-tables.ensures.root)
          (rooted_made es fs c.unwrap-root.result c.args.pages o _ (IsAmong c.pop.new.self.items) c.new-tables.ensures.entries c.new-tables.ensures.stands c.new-tables.ensures.walks c.new-tables.ensures.leaves
          (λ f h. ap weight_of (c.requires.sole f (more es es _ _ c.unwrap-root.result e c.requires.once c.requires.sole (λ x. refl) f h))) (λ f h. (fewer es es _ _ c.unwrap-root.result e c.requires.once c.requires.sole (λ x. refl) f h).1)
          (λ f h. rest es es _ _ c.unwrap-root.result e c.requires.once c.requires.sole (λ x. refl) f (c.requires.only f h)) c.requires.few c.in_ok-own.ensures.map (ap (λ (bs : List Bool). length bs) c.in_ok-own.ensures.marks ∙ long c.args.pages false));
      sole = sole_new es fs _ _ c.unwrap-root.result e c.requires.once c.requires.sole h;
      once = once_new es fs _ _ c.unwrap-root.result e c.requires.once c.requires.sole h;
    }

pub returns-clause-starts : goal.returns-clause-starts
returns-clause-starts g c =
    let W = g.P.FramePool.world in
    let es = W.entries c.args.pool.now c.args.seat in
    let fs = W.entries c.new-tables.new.pool c.new-tables.new.seat in
    let o : Own = c.in_ok-own.own in
    let e = popped _ _ _ c.unwrap-root.result c.pop.ensures.items c.unwrap-root.ensures in
    subst (λ (r : ℕ). StartsTo fs r o 0 0) (sym c.new-tables.ensures.root)
    (rooted_starts es fs c.unwrap-root.result c.args.pages o _ (IsAmong c.pop.new.self.items) c.new-tables.ensures.entries c.new-tables.ensures.stands c.new-tables.ensures.walks c.new-tables.ensures.leaves
    (λ f h. ap weight_of (c.requires.sole f (more es es _ _ c.unwrap-root.result e c.requires.once c.requires.sole (λ x. refl) f h))) (λ f h. (fewer es es _ _ c.unwrap-root.result e c.requires.once c.requires.sole (λ x. refl) f h).1)
    (λ f h. rest es es _ _ c.unwrap-root.result e c.requires.once c.requires.sole (λ x. refl) f (c.requires.only f h)) c.requires.few c.in_ok-own.ensures.map (ap (λ (bs : List Bool). length bs) c.in_ok-own.ensures.marks ∙ long c.args.pages false))

pub returns-clause-count : goal.returns-clause-count
returns-clause-count g c =
    let W = g.P.FramePool.world in
    let es = W.entries c.args.pool.now c.args.seat in
    let fs = W.entries c.new-tables.new.pool c.new-tables.new.seat in
    let o : Own = c.in_ok-own.own in
    let e = popped _ _ _ c.unwrap-root.result c.pop.ensures.items c.unwrap-root.ensures in
    pages_long es fs c.unwrap-root.result c.args.pages o _ (IsAmong c.pop.new.self.items) c.new-tables.ensures.entries c.new-tables.ensures.stands c.new-tables.ensures.walks c.new-tables.ensures.leaves
    (λ f h. ap weight_of (c.requires.sole f (more es es _ _ c.unwrap-root.result e c.requires.once c.requires.sole (λ x. refl) f h))) (λ f h. (fewer es es _ _ c.unwrap-root.result e c.requires.once c.requires.sole (λ x. refl) f h).1)
    (λ f h. rest es es _ _ c.unwrap-root.result e c.requires.once c.requires.sole (λ x. refl) f (c.requires.only f h)) c.requires.few c.in_ok-own.ensures.map (ap (λ (bs : List Bool). length bs) c.in_ok-own.ensures.marks ∙ long c.args.pages false)

pub returns-clause-leaves : goal.returns-clause-leaves
returns-clause-leaves g c = λ i lt. ap (λ (r : ℕ). leaf_at (g.P.FramePool.world.entries c.new-tables.new.pool c.new-tables.new.seat) r i) c.new-tables.ensures.root ∙ c.new-tables.ensures.leaves i lt
