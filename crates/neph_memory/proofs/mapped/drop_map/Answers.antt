use Rattle.std.proofs.Common.{◌<◌, ◌^◌, ℕ, refl, sym, ap, subst, ◌∙◌, arith}
use Rattle.neph_gmap.specs.GuestPages.{GuestPages}
use Rattle.neph_ptab.specs.Tables.{leaf_at}
use Rattle.neph_memory.specs.declared.own.Own.{Own}
use Rattle.neph_memory.proofs.Leading.{named}
use Rattle.neph_memory.proofs.Making.{made_rest, stands_after}
use Rattle.neph_memory.proofs.Putting.{drop_made, drop_shown, drop_bytes}
use Rattle.neph_memory.specs.Memory.{vpn_mapping, IsSpareAt, IsMade}
use Rattle.neph_memory.specs.Building.{Rest}
use Rattle.neph_memory.proofs.mapped.drop_map.Given as given
use Rattle.neph_memory.proofs.mapped.drop_map.Goals as goal

pub set-requires-clause-seat : goal.set-requires-clause-seat
set-requires-clause-seat g c = (c.requires.stands.fits, named _ _ c.requires.stands.names)

abbrev after : (g : given.Over) → goal.After-set g → Own
after g c = record { map = c.drop_vpn.new.self; marks = c.args.d.now.own.marks; spare = c.args.d.now.own.spare }

made : (g : given.Over) (c : goal.After-set g) → IsMade (g.P.FramePool.world.entries c.args.pool.now c.args.d.now.seat) c.args.d.now.tables.root c.args.d.now.own
    (Rest (g.P.FramePool.world.entries c.args.pool.now c.args.d.now.seat) c.args.d.now.tables.root c.args.d.now.own)
made g c = made_rest _ _ _ (IsSpareAt c.args.d.now.own) c.requires.stands.memory.made

pub returns-clause-stands : goal.returns-clause-stands
returns-clause-stands g c =
    let W = g.P.FramePool.world in
    let es = W.entries c.args.pool.now c.args.d.now.seat in
    let fs = W.entries c.set.new.pool c.set.new.seat in
    let root : ℕ = c.args.d.now.tables.root in
    let o : Own = c.args.d.now.own in
    let lt : c.args.v < 2 ^ 18 = omega (arith, c.get-number.ensures.value, c.get-number.ensures.range) in
    stands_after W c.args.pool.now c.args.d.now.seat c.set.new.pool c.set.new.seat c.args.d.now.id root c.set.new.self.root o (after g c) c.requires.stands c.set.ensures.moves
    (subst (λ (r : ℕ). IsMade fs r (after g c) (Rest es root o)) (sym c.set.ensures.root)
    (drop_made es fs root o (after g c) (Rest es root o) (made g c) c.set.ensures.tables c.args.v c.args.p lt c.requires.mapped c.requires.page c.set.ensures.walks c.drop_vpn.ensures refl))
    c.set.ensures.tables.holds refl (ap (λ (m : GuestPages). m.pages) c.drop_vpn.ensures) (λ i l. ap (λ (r : ℕ). leaf_at fs r i) c.set.ensures.root ∙ c.set.ensures.tables.leaves i l)

pub returns-clause-bytes : goal.returns-clause-bytes
returns-clause-bytes g c =
    let W = g.P.FramePool.world in
    let es = W.entries c.args.pool.now c.args.d.now.seat in
    let fs = W.entries c.set.new.pool c.set.new.seat in
    let root : ℕ = c.args.d.now.tables.root in
    let o : Own = c.args.d.now.own in
    let lt : c.args.v < 2 ^ 18 = omega (arith, c.get-number.ensures.value, c.get-number.ensures.range) in
    drop_bytes es fs root o (after g c) (Rest es root o) (made g c) c.set.ensures.tables c.args.v c.args.p lt c.requires.mapped c.requires.page c.set.ensures.walks c.drop_vpn.ensures refl

pub returns-clause-mappings : goal.returns-clause-mappings
returns-clause-mappings g c = λ u l.
    let W = g.P.FramePool.world in
    let es = W.entries c.args.pool.now c.args.d.now.seat in
    let fs = W.entries c.set.new.pool c.set.new.seat in
    let root : ℕ = c.args.d.now.tables.root in
    let o : Own = c.args.d.now.own in
    let lt : c.args.v < 2 ^ 18 = omega (arith, c.get-number.ensures.value, c.get-number.ensures.range) in
    ap (λ (r : ℕ). vpn_mapping fs r c.drop_vpn.new.self.pages u) c.set.ensures.root
    ∙ drop_shown es fs root o (after g c) (Rest es root o) (made g c) c.set.ensures.tables c.args.v c.args.p lt c.requires.mapped c.requires.page c.set.ensures.walks c.drop_vpn.ensures refl u l

pub returns-clause-leaves : goal.returns-clause-leaves
returns-clause-leaves g c = λ i lt. ap (λ (r : ℕ). leaf_at (g.P.FramePool.world.entries c.set.new.pool c.set.new.seat) r i) c.set.ensures.root ∙ c.set.ensures.tables.leaves i lt
