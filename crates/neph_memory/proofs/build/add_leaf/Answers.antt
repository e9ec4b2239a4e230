use Rattle.std.proofs.Common.{◌<◌, ◌/◌, ℕ, Bool, IsSome, Some, refl, sym, ap, subst, ◌∙◌, arith, if◌then◌else◌, eq-eqb, ne_eqb, inl, inr}
use Rattle.std.specs.declared.option.Option.{Option}
use Rattle.neph_ptab.specs.Tables.{leaf_at, walk_at}
use Rattle.neph_memory.proofs.Leading.{named}
use Rattle.neph_memory.proofs.Building.{popped, took, sole_took, once_new, sole_new, IsLeafed, leafing, leafed_holds}
use Rattle.neph_memory.specs.Memory.{vpn_mapping, IsMade}
use Rattle.neph_memory.specs.Building.{IsAmong}
use Rattle.neph_memory.proofs.Keeping.{shared_twice}
use Rattle.neph_memory.proofs.build.add_leaf.Given as given
use Rattle.neph_memory.proofs.build.add_leaf.Goals as goal

pub add_leaf-requires-clause-seat : goal.add_leaf-requires-clause-seat
add_leaf-requires-clause-seat g c = (c.requires.builds.fits, named _ _ c.requires.builds.names)

pub add_leaf-requires-clause-frame : goal.add_leaf-requires-clause-frame
add_leaf-requires-clause-frame g c =
    let es = g.P.FramePool.world.entries c.args.pool.now c.args.d.now.seat in
    sole_took es es _ _ c.unwrap-f.result (popped _ _ _ c.unwrap-f.result c.pop.ensures.items c.unwrap-f.ensures) c.requires.builds.once c.requires.builds.sole (λ x. refl)

pub add_leaf-requires-clause-root : goal.add_leaf-requires-clause-root
add_leaf-requires-clause-root g c =
    let es = g.P.FramePool.world.entries c.args.pool.now c.args.d.now.seat in
    let t = took es es _ _ c.unwrap-f.result (popped _ _ _ c.unwrap-f.result c.pop.ensures.items c.unwrap-f.ensures) c.requires.builds.once c.requires.builds.sole (λ x. refl) in
    λ e. c.requires.builds.made.unused c.unwrap-f.result t (inl e)

pub add_leaf-requires-clause-new : goal.add_leaf-requires-clause-new
add_leaf-requires-clause-new g c =
    let es = g.P.FramePool.world.entries c.args.pool.now c.args.d.now.seat in
    let t = took es es _ _ c.unwrap-f.result (popped _ _ _ c.unwrap-f.result c.pop.ensures.items c.unwrap-f.ensures) c.requires.builds.once c.requires.builds.sole (λ x. refl) in
    λ i lt e. c.requires.builds.made.unused c.unwrap-f.result t (inr (i, lt, e))

abbrev chosen : ℕ → Option ℕ → Bool → Option ℕ
chosen f x b = if b then Some f else x

fact : (g : given.Over) (c : goal.After-add_leaf g)
    → IsLeafed (g.P.FramePool.world.entries c.args.pool.now c.args.d.now.seat) (g.P.FramePool.world.entries c.add_leaf.new.pool c.add_leaf.new.seat) c.args.d.now.tables.root c.args.d.now.own c.pop.new.self.items c.unwrap-f.result
fact g c =
    let W = g.P.FramePool.world in
    let es = W.entries c.args.pool.now c.args.d.now.seat in
    let fs = W.entries c.add_leaf.new.pool c.add_leaf.new.seat in
    leafing es fs c.args.d.now.tables.root c.args.d.now.own c.args.frames.now.items c.pop.new.self.items (c.args.v / 512) c.unwrap-f.result _ c.requires.builds.made
    (popped _ _ _ c.unwrap-f.result c.pop.ensures.items c.unwrap-f.ensures) c.requires.builds.once c.requires.builds.sole (omega (arith, c.get-number.ensures.value, c.get-number.ensures.range)) c.requires.needed
    c.add_leaf.ensures.entries c.add_leaf.ensures.leaves c.add_leaf.ensures.walks c.add_leaf.ensures.stands

pub returns-clause-builds : goal.returns-clause-builds
returns-clause-builds g c =
    let W = g.P.FramePool.world in
    let es = W.entries c.args.pool.now c.args.d.now.seat in
    let fs = W.entries c.add_leaf.new.pool c.add_leaf.new.seat in
    let e = popped _ _ _ c.unwrap-f.result c.pop.ensures.items c.unwrap-f.ensures in
    let h = leafed_holds es fs c.args.d.now.tables.root (c.args.v / 512) c.unwrap-f.result _ c.add_leaf.ensures.entries in record {
      fits = c.add_leaf.ensures.moves.fits;
      names = c.add_leaf.ensures.moves.names ∙ c.requires.builds.names;
      made = subst (λ (r : ℕ). IsMade fs r c.args.d.now.own (IsAmong c.pop.new.self.items)) (sym c.add_leaf.ensures.root) (fact g c).made;
      sole = sole_new es fs _ _ c.unwrap-f.result e c.requires.builds.once c.requires.builds.sole h;
      once = once_new es fs _ _ c.unwrap-f.result e c.requires.builds.once c.requires.builds.sole h;
    }

pub returns-clause-bytes : goal.returns-clause-bytes
returns-clause-bytes g c = (fact g c).bytes

pub returns-clause-mappings : goal.returns-clause-mappings
returns-clause-mappings g c = λ u lt. ap (λ (r : ℕ). vpn_mapping (g.P.FramePool.world.entries c.add_leaf.new.pool c.add_leaf.new.seat) r c.args.d.now.own.map.pages u) c.add_leaf.ensures.root ∙ (fact g c).mappings u lt

pub returns-clause-leaf : goal.returns-clause-leaf
returns-clause-leaf g c =
    let fs = g.P.FramePool.world.entries c.add_leaf.new.pool c.add_leaf.new.seat in
    let i : ℕ = c.args.v / 512 in
    let lt : i < 512 = omega (arith, c.get-number.ensures.value, c.get-number.ensures.range) in
    subst IsSome (sym (ap (λ (r : ℕ). leaf_at fs r i) c.add_leaf.ensures.root ∙ c.add_leaf.ensures.leaves i lt ∙ ap (chosen c.unwrap-f.result (leaf_at (g.P.FramePool.world.entries c.args.pool.now c.args.d.now.seat) c.args.d.now.tables.root i)) (eq-eqb i i refl))) refl

pub returns-clause-leaves : goal.returns-clause-leaves
returns-clause-leaves g c = λ j lt n.
    let fs = g.P.FramePool.world.entries c.add_leaf.new.pool c.add_leaf.new.seat in
    ap (λ (r : ℕ). leaf_at fs r j) c.add_leaf.ensures.root ∙ c.add_leaf.ensures.leaves j lt ∙ ap (chosen c.unwrap-f.result (leaf_at (g.P.FramePool.world.entries c.args.pool.now c.args.d.now.seat) c.args.d.now.tables.root j)) (ne_eqb j (c.args.v / 512) n)

pub returns-clause-walks : goal.returns-clause-walks
returns-clause-walks g c = λ u l. ap (λ (r : ℕ). walk_at (g.P.FramePool.world.entries c.add_leaf.new.pool c.add_leaf.new.seat) r u) c.add_leaf.ensures.root ∙ c.add_leaf.ensures.walks u l

pub returns-clause-shared : goal.returns-clause-shared
returns-clause-shared g c =
    let W = g.P.FramePool.world in
    let es = W.entries c.args.pool.now c.args.d.now.seat in
    let s = sole_took es es _ _ c.unwrap-f.result (popped _ _ _ c.unwrap-f.result c.pop.ensures.items c.unwrap-f.ensures) c.requires.builds.once c.requires.builds.sole (λ x. refl) in
    shared_twice es (W.entries c.add_leaf.new.pool c.add_leaf.new.seat) c.args.d.now.tables.root c.unwrap-f.result c.requires.builds.made.tables.top s c.add_leaf.ensures.holds c.add_leaf.ensures.words
