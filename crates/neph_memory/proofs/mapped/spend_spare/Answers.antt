use Rattle.std.proofs.Common.{◌<◌, ◌/◌, ℕ, Bool, None, Some, IsSome, refl, sym, ap, subst, ◌∙◌, arith, inl, inr, if◌then◌else◌, eq-eqb, ne_eqb, length, ◌+◌, ◌≤◌}
use Rattle.std.specs.declared.option.Option.{Option}
use Rattle.neph_ptab.specs.Tables.{leaf_at, walk_at}
use Rattle.neph_memory.specs.declared.own.Own.{Own}
use Rattle.neph_memory.proofs.Leading.{named}
use Rattle.neph_memory.proofs.Rooming.{room_more}
use Rattle.neph_memory.proofs.Spending.{spent_memory, spent_shown, spent_bytes}
use Rattle.neph_memory.specs.Memory.{vpn_mapping, leaf_count, IsMemory}
use Rattle.neph_memory.proofs.mapped.spend_spare.Goals as goal

abbrev chosen : ℕ → Option ℕ → Bool → Option ℕ
chosen f x b = if b then Some f else x

pub add_leaf-requires-clause-seat : goal.add_leaf-requires-clause-seat
add_leaf-requires-clause-seat g c = (c.requires.stands.fits, named _ _ c.requires.stands.names)

pub add_leaf-requires-clause-frame : goal.add_leaf-requires-clause-frame
add_leaf-requires-clause-frame g c = c.requires.stands.memory.spare c.args.f c.requires.spare

pub add_leaf-requires-clause-root : goal.add_leaf-requires-clause-root
add_leaf-requires-clause-root g c = λ e. c.requires.stands.memory.made.unused c.args.f c.requires.spare (inl e)

pub add_leaf-requires-clause-new : goal.add_leaf-requires-clause-new
add_leaf-requires-clause-new g c = λ i lt e. c.requires.stands.memory.made.unused c.args.f c.requires.spare (inr (i, lt, e))

pub returns-clause-stands : goal.returns-clause-stands
returns-clause-stands g c =
    let W = g.P.FramePool.world in
    let es = W.entries c.args.pool.now c.args.d.now.seat in
    let fs = W.entries c.add_leaf.new.pool c.add_leaf.new.seat in
    let o : Own = c.args.d.now.own in
    let lt : c.args.v / 512 < 512 = omega (arith, c.get-number.ensures.value, c.get-number.ensures.range) in record {
      fits = c.add_leaf.ensures.moves.fits;
      names = c.add_leaf.ensures.moves.names ∙ c.requires.stands.names;
      room = subst (λ (r : ℕ). length o.map.pages + 2 + leaf_count fs r ≤ W.cap c.add_leaf.new.pool) (sym c.add_leaf.ensures.root)
          (room_more es fs c.args.d.now.tables.root c.args.d.now.tables.root (c.args.v / 512) (length o.map.pages) (length o.map.pages) (W.cap c.args.pool.now) (W.cap c.add_leaf.new.pool) c.requires.room refl
          (λ j l n. c.add_leaf.ensures.leaves j l ∙ ap (chosen c.args.f (leaf_at es c.args.d.now.tables.root j)) (ne_eqb j (c.args.v / 512) n)) c.add_leaf.ensures.moves.others.cap);
      identity = c.requires.stands.identity;
      memory = subst (λ (r : ℕ). IsMemory fs r (record o { spare = None })) (sym c.add_leaf.ensures.root)
          (spent_memory es fs c.args.d.now.tables.root o c.requires.stands.memory (c.args.v / 512) c.args.f _ lt c.requires.needed c.requires.spare c.add_leaf.ensures.entries c.add_leaf.ensures.leaves c.add_leaf.ensures.walks c.add_leaf.ensures.stands);
    }

pub returns-clause-bytes : goal.returns-clause-bytes
returns-clause-bytes g c =
    let W = g.P.FramePool.world in
    let es = W.entries c.args.pool.now c.args.d.now.seat in
    let fs = W.entries c.add_leaf.new.pool c.add_leaf.new.seat in
    let lt : c.args.v / 512 < 512 = omega (arith, c.get-number.ensures.value, c.get-number.ensures.range) in
    spent_bytes es fs c.args.d.now.tables.root c.args.d.now.own c.requires.stands.memory (c.args.v / 512) c.args.f _ lt c.requires.needed c.requires.spare c.add_leaf.ensures.entries c.add_leaf.ensures.leaves c.add_leaf.ensures.walks c.add_leaf.ensures.stands

pub returns-clause-mappings : goal.returns-clause-mappings
returns-clause-mappings g c = λ u l.
    let W = g.P.FramePool.world in
    let es = W.entries c.args.pool.now c.args.d.now.seat in
    let fs = W.entries c.add_leaf.new.pool c.add_leaf.new.seat in
    let lt : c.args.v / 512 < 512 = omega (arith, c.get-number.ensures.value, c.get-number.ensures.range) in
    ap (λ (r : ℕ). vpn_mapping fs r c.args.d.now.own.map.pages u) c.add_leaf.ensures.root
    ∙ spent_shown es fs c.args.d.now.tables.root c.args.d.now.own c.requires.stands.memory (c.args.v / 512) c.args.f _ lt c.requires.needed c.requires.spare c.add_leaf.ensures.entries c.add_leaf.ensures.leaves c.add_leaf.ensures.walks c.add_leaf.ensures.stands u l

pub returns-clause-walk : goal.returns-clause-walk
returns-clause-walk g c = λ u l. ap (λ (r : ℕ). walk_at (g.P.FramePool.world.entries c.add_leaf.new.pool c.add_leaf.new.seat) r u) c.add_leaf.ensures.root ∙ c.add_leaf.ensures.walks u l

pub returns-clause-leaf : goal.returns-clause-leaf
returns-clause-leaf g c =
    let fs = g.P.FramePool.world.entries c.add_leaf.new.pool c.add_leaf.new.seat in
    let i : ℕ = c.args.v / 512 in
    let lt : i < 512 = omega (arith, c.get-number.ensures.value, c.get-number.ensures.range) in
    subst IsSome (sym (ap (λ (r : ℕ). leaf_at fs r i) c.add_leaf.ensures.root ∙ c.add_leaf.ensures.leaves i lt ∙ ap (chosen c.args.f (leaf_at (g.P.FramePool.world.entries c.args.pool.now c.args.d.now.seat) c.args.d.now.tables.root i)) (eq-eqb i i refl))) refl
