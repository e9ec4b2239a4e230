use Rattle.std.proofs.Common.{◌≡◌, ◌<◌, ◌/◌, ◌%◌, ◌^◌, ◌==◌, ℕ, None, Some, IsSome, Bool, slice_get, refl, sym, ap, subst, ◌∙◌, arith, inl, inr, if◌then◌else◌, eq-eqb, ne_eqb, length}
use Rattle.std.specs.declared.option.Option.{Option}
use Rattle.neph_model.specs.declared.memory.Mapping.{Mapping}
use Rattle.neph_pool.proofs.Calls.{moves_trans}
use Rattle.neph_ptab.specs.declared.walk.Walk.{Walk}
use Rattle.neph_ptab.specs.declared.walk.Walk.TheVariants.{None as Unmapped}
use Rattle.neph_ptab.specs.Bits.{NotBoth}
use Rattle.neph_ptab.specs.Tables.{leaf_at, walk_at, walk_by, IsRetabled}
use Rattle.neph_gmap.specs.GuestPages.{GuestPages}
use Rattle.neph_memory.specs.declared.own.Own.{Own}
use Rattle.neph_memory.proofs.Leading.{named}
use Rattle.neph_memory.proofs.Making.{made_rest, stands_after}
use Rattle.neph_memory.proofs.Putting.{put_made, put_shown, put_bytes, lead_leads}
use Rattle.neph_memory.proofs.Spending.{spent_memory, spent_shown, spent_bytes}
use Rattle.neph_memory.specs.Memory.{mode_of, vpn_mapping, is_marked, IsSpareAt, IsMade, Stands}
use Rattle.neph_memory.specs.Building.{Rest, lead_to}
use Rattle.neph_memory.proofs.Rooming.{room_more}
use Rattle.neph_memory.proofs.Relisting.{leads_not_both}
use Rattle.neph_memory.proofs.mapping.map_anew.Given as given
use Rattle.neph_memory.proofs.mapping.map_anew.Goals as goal

pub returns-in_err-add_vpn-clause-stands : goal.returns-in_err-add_vpn-clause-stands
returns-in_err-add_vpn-clause-stands g c =
    let o : Own = c.args.d.now.own in
    subst (λ (m : GuestPages). Stands g.P.FramePool.world c.args.pool.now c.args.d.now.seat c.args.d.now.id c.args.d.now.tables.root (record o { map = m })) (sym c.in_err-add_vpn.ensures.err) c.requires.stands

pub add_leaf-requires-clause-seat : goal.add_leaf-requires-clause-seat
add_leaf-requires-clause-seat g c = (c.requires.stands.fits, named _ _ c.requires.stands.names)

pub add_leaf-requires-clause-frame : goal.add_leaf-requires-clause-frame
add_leaf-requires-clause-frame g c = c.requires.stands.memory.spare c.args.f c.requires.spare

pub add_leaf-requires-clause-root : goal.add_leaf-requires-clause-root
add_leaf-requires-clause-root g c = λ e. c.requires.stands.memory.made.unused c.args.f c.requires.spare (inl e)

pub add_leaf-requires-clause-new : goal.add_leaf-requires-clause-new
add_leaf-requires-clause-new g c = λ i lt e. c.requires.stands.memory.made.unused c.args.f c.requires.spare (inr (i, lt, e))

pub set-requires-clause-seat : goal.set-requires-clause-seat
set-requires-clause-seat g c = (c.add_leaf.ensures.moves.fits, named _ _ (c.add_leaf.ensures.moves.names ∙ c.requires.stands.names))

abbrev chosen : ℕ → Option ℕ → Bool → Option ℕ
chosen f x b = if b then Some f else x

pub set-requires-clause-leaf : goal.set-requires-clause-leaf
set-requires-clause-leaf g c =
    let fs = g.P.FramePool.world.entries c.add_leaf.new.pool c.add_leaf.new.seat in
    let i : ℕ = c.args.v / 512 in
    let lt : i < 512 = omega (arith, c.get-number.ensures.value, c.get-number.ensures.range) in
    subst IsSome (sym (ap (λ (r : ℕ). leaf_at fs r i) c.add_leaf.ensures.root ∙ c.add_leaf.ensures.leaves i lt ∙ ap (chosen c.args.f (leaf_at (g.P.FramePool.world.entries c.args.pool.now c.args.d.now.seat) c.args.d.now.tables.root i)) (eq-eqb i i refl))) refl

pub set-requires-clause-to : goal.set-requires-clause-to
set-requires-clause-to g c =
    subst NotBoth (sym c.lead-to.ensures) (leads_not_both _ c.args.d.now.own _ (lead_leads _ c.args.d.now.tables.root c.args.d.now.own (IsSpareAt c.args.d.now.own) c.requires.stands.memory.made c.args.p c.args.rw c.requires.page))

-- the memory with the leaf table
abbrev leafed : (g : given.Over) → goal.After-set g → Own
leafed g c = record { map = c.args.d.now.own.map; marks = c.args.d.now.own.marks; spare = None }

abbrev after : (g : given.Over) → goal.After-set g → Own
after g c = record { map = c.add_vpn.new.self; marks = c.args.d.now.own.marks; spare = None }

small : (g : given.Over) (c : goal.After-set g) → c.args.v / 512 < 512
small g c = omega (arith, c.get-number.ensures.value, c.get-number.ensures.range)

mid : (g : given.Over) (c : goal.After-set g) → Stands g.P.FramePool.world c.add_leaf.new.pool c.add_leaf.new.seat c.args.d.now.id c.args.d.now.tables.root (leafed g c)
mid g c =
    let W = g.P.FramePool.world in
    let es = W.entries c.args.pool.now c.args.d.now.seat in
    let ds = W.entries c.add_leaf.new.pool c.add_leaf.new.seat in record {
      fits = c.add_leaf.ensures.moves.fits;
      names = c.add_leaf.ensures.moves.names ∙ c.requires.stands.names;
      identity = c.requires.stands.identity;
      room = room_more es ds c.args.d.now.tables.root c.args.d.now.tables.root (c.args.v / 512) (length c.args.d.now.own.map.pages) (length c.args.d.now.own.map.pages) _ _ c.requires.room refl
          (λ j l n. c.add_leaf.ensures.leaves j l ∙ ap (chosen c.args.f (leaf_at es c.args.d.now.tables.root j)) (ne_eqb j (c.args.v / 512) n)) c.add_leaf.ensures.moves.others.cap;
      memory = spent_memory es ds c.args.d.now.tables.root c.args.d.now.own c.requires.stands.memory (c.args.v / 512) c.args.f _ (small g c) c.requires.needed c.requires.spare c.add_leaf.ensures.entries c.add_leaf.ensures.leaves c.add_leaf.ensures.walks c.add_leaf.ensures.stands;
    }

retabled : (g : given.Over) (c : goal.After-set g) → IsRetabled (g.P.FramePool.world.entries c.add_leaf.new.pool c.add_leaf.new.seat) (g.P.FramePool.world.entries c.set.new.pool c.set.new.seat) c.args.d.now.tables.root
retabled g c = subst (λ (r : ℕ). IsRetabled (g.P.FramePool.world.entries c.add_leaf.new.pool c.add_leaf.new.seat) (g.P.FramePool.world.entries c.set.new.pool c.set.new.seat) r) c.add_leaf.ensures.root c.set.ensures.tables

root_is : (g : given.Over) (c : goal.After-set g) → c.set.new.self.root ≡ c.args.d.now.tables.root
root_is g c = c.set.ensures.root ∙ c.add_leaf.ensures.root

abbrev to : (g : given.Over) → goal.After-set g → Walk
to g c = lead_to (slice_get c.args.d.now.own.map.pages c.args.p) (is_marked c.args.d.now.own c.args.p) c.args.p c.args.rw

walks : (g : given.Over) (c : goal.After-set g) → (u : ℕ) → u < 2 ^ 18 → walk_at (g.P.FramePool.world.entries c.set.new.pool c.set.new.seat) c.args.d.now.tables.root u
    ≡ (if u == c.args.v then to g c else walk_at (g.P.FramePool.world.entries c.add_leaf.new.pool c.add_leaf.new.seat) c.args.d.now.tables.root u)
walks g c = λ u lt.
    let ds = g.P.FramePool.world.entries c.add_leaf.new.pool c.add_leaf.new.seat in
    let fs = g.P.FramePool.world.entries c.set.new.pool c.set.new.seat in
    subst (λ (r : ℕ). walk_at fs r u ≡ (if u == c.args.v then c.lead-to.result else walk_at ds r u)) c.add_leaf.ensures.root (c.set.ensures.walks u lt) ∙ ap (λ (w : Walk). if u == c.args.v then w else walk_at ds c.args.d.now.tables.root u) c.lead-to.ensures

nowhere : (g : given.Over) (c : goal.After-set g) → walk_at (g.P.FramePool.world.entries c.add_leaf.new.pool c.add_leaf.new.seat) c.args.d.now.tables.root c.args.v ≡ Unmapped
nowhere g c =
    let es = g.P.FramePool.world.entries c.args.pool.now c.args.d.now.seat in
    let lt : c.args.v < 2 ^ 18 = omega (arith, c.get-number.ensures.value, c.get-number.ensures.range) in
    c.add_leaf.ensures.walks c.args.v lt ∙ ap (λ (x : Option ℕ). walk_by es x (c.args.v % 512)) c.requires.needed

pub returns-clause-stands : goal.returns-clause-stands
returns-clause-stands g c =
    let W = g.P.FramePool.world in
    let ds = W.entries c.add_leaf.new.pool c.add_leaf.new.seat in
    let fs = W.entries c.set.new.pool c.set.new.seat in
    let root : ℕ = c.args.d.now.tables.root in
    let o : Own = leafed g c in
    let lt : c.args.v < 2 ^ 18 = omega (arith, c.get-number.ensures.value, c.get-number.ensures.range) in
    stands_after W c.add_leaf.new.pool c.add_leaf.new.seat c.set.new.pool c.set.new.seat c.args.d.now.id root c.set.new.self.root o (after g c) (mid g c) c.set.ensures.moves
    (subst (λ (r : ℕ). IsMade fs r (after g c) (Rest ds root o)) (sym (root_is g c))
    (put_made ds root o (Rest ds root o) (made_rest ds root o (IsSpareAt o) (mid g c).memory.made) c.args.p c.args.rw c.requires.page fs (after g c) (retabled g c) c.args.v lt (nowhere g c) (walks g c) c.in_ok-add_vpn.ensures.ok refl))
    (retabled g c).holds refl (ap (λ (m : GuestPages). m.pages) c.in_ok-add_vpn.ensures.ok) (λ i l. ap (λ (r : ℕ). leaf_at fs r i) (root_is g c) ∙ (retabled g c).leaves i l)

pub returns-clause-mappings : goal.returns-clause-mappings
returns-clause-mappings g c = λ u l.
    let W = g.P.FramePool.world in
    let es = W.entries c.args.pool.now c.args.d.now.seat in
    let ds = W.entries c.add_leaf.new.pool c.add_leaf.new.seat in
    let fs = W.entries c.set.new.pool c.set.new.seat in
    let root : ℕ = c.args.d.now.tables.root in
    let o : Own = leafed g c in
    let lt : c.args.v < 2 ^ 18 = omega (arith, c.get-number.ensures.value, c.get-number.ensures.range) in
    ap (λ (r : ℕ). vpn_mapping fs r c.add_vpn.new.self.pages u) (root_is g c)
    ∙ put_shown ds root o (IsSpareAt o) (mid g c).memory.made c.args.p c.args.rw c.requires.page fs (after g c) (retabled g c) c.args.v lt (nowhere g c) (walks g c) c.in_ok-add_vpn.ensures.ok refl u l
    ∙ ap (λ (x : Option Mapping). if u == c.args.v then Some (record { pfn = c.args.p; mode = mode_of c.args.rw }) else x)
    (spent_shown es ds root c.args.d.now.own c.requires.stands.memory (c.args.v / 512) c.args.f _ (small g c) c.requires.needed c.requires.spare c.add_leaf.ensures.entries c.add_leaf.ensures.leaves c.add_leaf.ensures.walks c.add_leaf.ensures.stands u l)

pub returns-clause-bytes : goal.returns-clause-bytes
returns-clause-bytes g c = λ q.
    let W = g.P.FramePool.world in
    let es = W.entries c.args.pool.now c.args.d.now.seat in
    let ds = W.entries c.add_leaf.new.pool c.add_leaf.new.seat in
    let fs = W.entries c.set.new.pool c.set.new.seat in
    let root : ℕ = c.args.d.now.tables.root in
    let o : Own = leafed g c in
    let lt : c.args.v < 2 ^ 18 = omega (arith, c.get-number.ensures.value, c.get-number.ensures.range) in
    put_bytes ds root o (IsSpareAt o) (mid g c).memory.made c.args.p c.args.rw c.requires.page fs (after g c) (retabled g c) c.args.v lt (nowhere g c) (walks g c) c.in_ok-add_vpn.ensures.ok refl q
    ∙ spent_bytes es ds root c.args.d.now.own c.requires.stands.memory (c.args.v / 512) c.args.f _ (small g c) c.requires.needed c.requires.spare c.add_leaf.ensures.entries c.add_leaf.ensures.leaves c.add_leaf.ensures.walks c.add_leaf.ensures.stands q

pub returns-clause-leaves : goal.returns-clause-leaves
returns-clause-leaves g c = λ i lt. ap (λ (r : ℕ). leaf_at (g.P.FramePool.world.entries c.set.new.pool c.set.new.seat) r i) (root_is g c) ∙ (retabled g c).leaves i lt ∙ c.add_leaf.ensures.leaves i lt

pub returns-clause-moves : goal.returns-clause-moves
returns-clause-moves g c = moves_trans _ _ _ _ _ _ _ c.add_leaf.ensures.moves c.set.ensures.moves
