use Rattle.std.proofs.Common.{◌≡◌, ◌<◌, ◌^◌, ◌==◌, ℕ, Bool, slice_get, refl, sym, ap, subst, ◌∙◌, arith, if◌then◌else◌, ne_eqb}
use Rattle.neph_ptab.specs.declared.walk.Walk.{Walk}
use Rattle.neph_ptab.specs.Tables.{leaf_at, walk_at}
use Rattle.neph_memory.specs.declared.own.Own.{Own}
use Rattle.neph_memory.proofs.Leading.{named}
use Rattle.neph_memory.proofs.Putting.{put_made, put_shown, put_bytes, put_else}
use Rattle.neph_memory.specs.Memory.{vpn_mapping, is_marked, IsMade}
use Rattle.neph_memory.specs.Building.{Rest, lead_to}
use Rattle.neph_memory.proofs.Keeping.{shared_same, shared_retabled}
use Rattle.neph_memory.proofs.build.put.Given as given
use Rattle.neph_memory.proofs.build.put.Goals as goal

pub set-requires-clause-seat : goal.set-requires-clause-seat
set-requires-clause-seat g c = (c.requires.fits, named _ _ c.requires.names)

abbrev after : (g : given.Over) → goal.After-set g → Own
after g c = record { map = c.add_vpn.new.self; marks = c.args.d.now.own.marks; spare = c.args.d.now.own.spare }

walks : (g : given.Over) (c : goal.After-set g) → (u : ℕ) → u < 2 ^ 18 → walk_at (g.P.FramePool.world.entries c.set.new.pool c.set.new.seat) c.args.d.now.tables.root u
    ≡ (if u == c.args.v then lead_to (slice_get c.args.d.now.own.map.pages c.args.p) (is_marked c.args.d.now.own c.args.p) c.args.p c.args.rw else walk_at (g.P.FramePool.world.entries c.args.pool.now c.args.d.now.seat) c.args.d.now.tables.root u)
walks g c = λ u lt. c.set.ensures.walks u lt ∙ ap (λ (w : Walk). if u == c.args.v then w else walk_at (g.P.FramePool.world.entries c.args.pool.now c.args.d.now.seat) c.args.d.now.tables.root u) c.lead-to.ensures

pub returns-clause-made : goal.returns-clause-made
returns-clause-made g c =
    let W = g.P.FramePool.world in
    let es = W.entries c.args.pool.now c.args.d.now.seat in
    let fs = W.entries c.set.new.pool c.set.new.seat in
    let root : ℕ = c.args.d.now.tables.root in
    let o : Own = c.args.d.now.own in
    let lt : c.args.v < 2 ^ 18 = omega (arith, c.get-number.ensures.value, c.get-number.ensures.range) in
    subst (λ (r : ℕ). IsMade fs r (after g c) (Rest es root o)) (sym c.set.ensures.root)
    (put_made es root o (Rest es root o) c.requires.made c.args.p c.args.rw c.requires.page fs (after g c) c.set.ensures.tables c.args.v lt c.requires.none (walks g c) c.in_ok-add_vpn.ensures.ok refl)

pub returns-clause-holds : goal.returns-clause-holds
returns-clause-holds g c = c.set.ensures.tables.holds

pub returns-clause-mappings : goal.returns-clause-mappings
returns-clause-mappings g c = λ u l.
    let W = g.P.FramePool.world in
    let es = W.entries c.args.pool.now c.args.d.now.seat in
    let fs = W.entries c.set.new.pool c.set.new.seat in
    let root : ℕ = c.args.d.now.tables.root in
    let o : Own = c.args.d.now.own in
    let lt : c.args.v < 2 ^ 18 = omega (arith, c.get-number.ensures.value, c.get-number.ensures.range) in
    ap (λ (r : ℕ). vpn_mapping fs r c.add_vpn.new.self.pages u) c.set.ensures.root
    ∙ put_shown es root o (Rest es root o) c.requires.made c.args.p c.args.rw c.requires.page fs (after g c) c.set.ensures.tables c.args.v lt c.requires.none (walks g c) c.in_ok-add_vpn.ensures.ok refl u l

pub returns-clause-bytes : goal.returns-clause-bytes
returns-clause-bytes g c =
    let W = g.P.FramePool.world in
    let es = W.entries c.args.pool.now c.args.d.now.seat in
    let fs = W.entries c.set.new.pool c.set.new.seat in
    let root : ℕ = c.args.d.now.tables.root in
    let o : Own = c.args.d.now.own in
    let lt : c.args.v < 2 ^ 18 = omega (arith, c.get-number.ensures.value, c.get-number.ensures.range) in
    put_bytes es root o (Rest es root o) c.requires.made c.args.p c.args.rw c.requires.page fs (after g c) c.set.ensures.tables c.args.v lt c.requires.none (walks g c) c.in_ok-add_vpn.ensures.ok refl

pub returns-clause-lists : goal.returns-clause-lists
returns-clause-lists g c =
    let W = g.P.FramePool.world in
    let es = W.entries c.args.pool.now c.args.d.now.seat in
    let fs = W.entries c.set.new.pool c.set.new.seat in
    let root : ℕ = c.args.d.now.tables.root in
    let o : Own = c.args.d.now.own in
    let lt : c.args.v < 2 ^ 18 = omega (arith, c.get-number.ensures.value, c.get-number.ensures.range) in
    put_else es root o (Rest es root o) c.requires.made c.args.p c.args.rw c.requires.page fs (after g c) c.set.ensures.tables c.args.v lt c.requires.none (walks g c) c.in_ok-add_vpn.ensures.ok refl

pub returns-clause-leaves : goal.returns-clause-leaves
returns-clause-leaves g c = λ i lt. ap (λ (r : ℕ). leaf_at (g.P.FramePool.world.entries c.set.new.pool c.set.new.seat) r i) c.set.ensures.root ∙ c.set.ensures.tables.leaves i lt

pub returns-clause-walks : goal.returns-clause-walks
returns-clause-walks g c = λ u l n.
    ap (λ (r : ℕ). walk_at (g.P.FramePool.world.entries c.set.new.pool c.set.new.seat) r u) c.set.ensures.root ∙ walks g c u l
    ∙ ap (λ (b : Bool). if b then lead_to (slice_get c.args.d.now.own.map.pages c.args.p) (is_marked c.args.d.now.own c.args.p) c.args.p c.args.rw else walk_at (g.P.FramePool.world.entries c.args.pool.now c.args.d.now.seat) c.args.d.now.tables.root u) (ne_eqb u c.args.v n)

pub returns-clause-shared : goal.returns-clause-shared
returns-clause-shared g c = shared_retabled _ _ c.args.d.now.tables.root c.requires.made.tables c.set.ensures.tables

pub returns-in_err-add_vpn-clause-shared : goal.returns-in_err-add_vpn-clause-shared
returns-in_err-add_vpn-clause-shared g c = shared_same _ _ refl
