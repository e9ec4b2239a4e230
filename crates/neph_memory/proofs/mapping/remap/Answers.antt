use Rattle.std.proofs.Common.{◌≡◌, ◌<◌, ◌^◌, ◌==◌, ℕ, slice_get, refl, sym, ap, subst, ◌∙◌, arith, if◌then◌else◌}
use Rattle.neph_ptab.specs.declared.walk.Walk.{Walk}
use Rattle.neph_ptab.specs.Tables.{leaf_at, walk_at}
use Rattle.neph_gmap.specs.GuestPages.{GuestPages}
use Rattle.neph_memory.specs.declared.own.Own.{Own}
use Rattle.neph_memory.proofs.Leading.{named}
use Rattle.neph_memory.proofs.Making.{made_rest, stands_after}
use Rattle.neph_memory.proofs.Relisting.{relisted_made, relisted_shown, relisted_bytes, relisted_pages}
use Rattle.neph_memory.specs.Memory.{vpn_mapping, is_marked, IsSpareAt, IsMade, Stands}
use Rattle.neph_memory.specs.Building.{Rest, lead_to}
use Rattle.neph_memory.proofs.mapping.remap.Given as given
use Rattle.neph_memory.proofs.mapping.remap.Goals as goal

pub returns-in_err-relist-clause-stands : goal.returns-in_err-relist-clause-stands
returns-in_err-relist-clause-stands g c =
    let o : Own = c.args.d.now.own in
    subst (λ (m : GuestPages). Stands g.P.FramePool.world c.args.pool.now c.args.d.now.seat c.args.d.now.id c.args.d.now.tables.root (record o { map = m })) (sym c.in_err-relist.ensures.err) c.requires.stands

pub set-requires-clause-seat : goal.set-requires-clause-seat
set-requires-clause-seat g c = (c.requires.stands.fits, named _ _ c.requires.stands.names)

abbrev after : (g : given.Over) → goal.After-set g → Own
after g c = record { map = c.relist.new.map; marks = c.args.d.now.own.marks; spare = c.args.d.now.own.spare }

made : (g : given.Over) (c : goal.After-set g) → IsMade (g.P.FramePool.world.entries c.args.pool.now c.args.d.now.seat) c.args.d.now.tables.root c.args.d.now.own
    (Rest (g.P.FramePool.world.entries c.args.pool.now c.args.d.now.seat) c.args.d.now.tables.root c.args.d.now.own)
made g c = made_rest _ _ _ (IsSpareAt c.args.d.now.own) c.requires.stands.memory.made

walks : (g : given.Over) (c : goal.After-set g) → (u : ℕ) → u < 2 ^ 18 → walk_at (g.P.FramePool.world.entries c.set.new.pool c.set.new.seat) c.args.d.now.tables.root u
    ≡ (if u == c.args.v then lead_to (slice_get c.args.d.now.own.map.pages c.args.p) (is_marked c.args.d.now.own c.args.p) c.args.p c.args.rw else walk_at (g.P.FramePool.world.entries c.args.pool.now c.args.d.now.seat) c.args.d.now.tables.root u)
walks g c = λ u lt. c.set.ensures.walks u lt ∙ ap (λ (w : Walk). if u == c.args.v then w else walk_at (g.P.FramePool.world.entries c.args.pool.now c.args.d.now.seat) c.args.d.now.tables.root u) c.lead-to.ensures

pub returns-clause-stands : goal.returns-clause-stands
returns-clause-stands g c =
    let W = g.P.FramePool.world in
    let es = W.entries c.args.pool.now c.args.d.now.seat in
    let fs = W.entries c.set.new.pool c.set.new.seat in
    let root : ℕ = c.args.d.now.tables.root in
    let o : Own = c.args.d.now.own in
    let lt : c.args.v < 2 ^ 18 = omega (arith, c.get-number.ensures.value, c.get-number.ensures.range) in
    stands_after W c.args.pool.now c.args.d.now.seat c.set.new.pool c.set.new.seat c.args.d.now.id root c.set.new.self.root o (after g c) c.requires.stands c.set.ensures.moves
    (subst (λ (r : ℕ). IsMade fs r (after g c) (Rest es root o)) (sym c.set.ensures.root)
    (relisted_made es root o (Rest es root o) (made g c) c.args.p c.args.rw c.requires.page fs (after g c) c.set.ensures.tables c.args.v lt c.args.from c.requires.from (walks g c) c.in_ok-relist.ensures.ok refl))
    c.set.ensures.tables.holds refl (relisted_pages es root o (Rest es root o) (made g c) c.args.p c.args.rw c.requires.page fs (after g c) c.set.ensures.tables c.args.v lt c.args.from c.requires.from (walks g c) c.in_ok-relist.ensures.ok refl) (λ i l. ap (λ (r : ℕ). leaf_at fs r i) c.set.ensures.root ∙ c.set.ensures.tables.leaves i l)

pub returns-clause-mappings : goal.returns-clause-mappings
returns-clause-mappings g c = λ u l.
    let W = g.P.FramePool.world in
    let es = W.entries c.args.pool.now c.args.d.now.seat in
    let fs = W.entries c.set.new.pool c.set.new.seat in
    let root : ℕ = c.args.d.now.tables.root in
    let o : Own = c.args.d.now.own in
    let lt : c.args.v < 2 ^ 18 = omega (arith, c.get-number.ensures.value, c.get-number.ensures.range) in
    ap (λ (r : ℕ). vpn_mapping fs r c.relist.new.map.pages u) c.set.ensures.root
    ∙ relisted_shown es root o (Rest es root o) (made g c) c.args.p c.args.rw c.requires.page fs (after g c) c.set.ensures.tables c.args.v lt c.args.from c.requires.from (walks g c) c.in_ok-relist.ensures.ok refl u l

pub returns-clause-bytes : goal.returns-clause-bytes
returns-clause-bytes g c =
    let W = g.P.FramePool.world in
    let es = W.entries c.args.pool.now c.args.d.now.seat in
    let fs = W.entries c.set.new.pool c.set.new.seat in
    let root : ℕ = c.args.d.now.tables.root in
    let o : Own = c.args.d.now.own in
    let lt : c.args.v < 2 ^ 18 = omega (arith, c.get-number.ensures.value, c.get-number.ensures.range) in
    relisted_bytes es root o (Rest es root o) (made g c) c.args.p c.args.rw c.requires.page fs (after g c) c.set.ensures.tables c.args.v lt c.args.from c.requires.from (walks g c) c.in_ok-relist.ensures.ok refl

pub returns-clause-leaves : goal.returns-clause-leaves
returns-clause-leaves g c = λ i lt. ap (λ (r : ℕ). leaf_at (g.P.FramePool.world.entries c.set.new.pool c.set.new.seat) r i) c.set.ensures.root ∙ c.set.ensures.tables.leaves i lt

pub returns-clause-pages : goal.returns-clause-pages
returns-clause-pages g c =
    let W = g.P.FramePool.world in
    let es = W.entries c.args.pool.now c.args.d.now.seat in
    let fs = W.entries c.set.new.pool c.set.new.seat in
    let root : ℕ = c.args.d.now.tables.root in
    let o : Own = c.args.d.now.own in
    let lt : c.args.v < 2 ^ 18 = omega (arith, c.get-number.ensures.value, c.get-number.ensures.range) in
    relisted_pages es root o (Rest es root o) (made g c) c.args.p c.args.rw c.requires.page fs (after g c) c.set.ensures.tables c.args.v lt c.args.from c.requires.from (walks g c) c.in_ok-relist.ensures.ok refl
