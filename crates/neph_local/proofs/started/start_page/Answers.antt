use Rattle.std.proofs.Common.{◌≡◌, ◌≤◌, ◌+◌, ◌/◌, ◌⊎◌, ℕ, [], Some, slice_get, IsSome, refl, sym, subst, ◌∙◌, arith}
use Rattle.neph_pool.proofs.Calls.{moves_trans}
use Rattle.neph_ptab.specs.declared.walk.Walk.TheVariants.{None as Unmapped}
use Rattle.neph_ptab.specs.Tables.{leaf_at, walk_at}
use Rattle.neph_gmap.specs.declared.page.Page.TheVariants.{Exposed as Away}
use Rattle.neph_gmap.specs.GuestPages.{vpns_at}
use Rattle.neph_memory.proofs.Making.{made_rest}
use Rattle.neph_local.proofs.Starting.{starts_placed, starts_none, starts_shown, builds_after, number_is}
use Rattle.neph_memory.specs.Building.{IsAmong, Builds}
use Rattle.neph_local.specs.Starts.{StartsTo}
use Rattle.neph_local.proofs.started.start_page.Given as given
use Rattle.neph_local.proofs.started.start_page.Goals as goal

pub place-requires-clause-away : goal.place-requires-clause-away
place-requires-clause-away g c =
    let n : c.unwrap-p.result ≡ c.args.n = number_is _ _ _ _ c.new.ensures c.unwrap-p.ensures ∙ c.from.ensures in
    subst (λ (k : ℕ). slice_get c.args.d.now.own.map.pages k ≡ Some Away) (sym n) (c.requires.starts.waits c.args.n (omega arith) c.requires.page)

pub place-requires-clause-unlisted : goal.place-requires-clause-unlisted
place-requires-clause-unlisted g c =
    let n : c.unwrap-p.result ≡ c.args.n = number_is _ _ _ _ c.new.ensures c.unwrap-p.ensures ∙ c.from.ensures in
    subst (λ (k : ℕ). vpns_at c.args.d.now.own.map k ≡ []) (sym n) (c.requires.starts.unlisted c.args.n (omega arith))

placed : (g : given.Over) (c : goal.After-put-arg-2-1 g) → StartsTo (g.P.FramePool.world.entries c.place.new.pool c.place.new.d.seat) c.place.new.d.tables.root c.place.new.d.own (c.args.n + 1) c.args.n
placed g c =
    let W = g.P.FramePool.world in
    let es = W.entries c.args.pool.now c.args.d.now.seat in
    let fs = W.entries c.place.new.pool c.place.new.d.seat in
    let n : c.unwrap-p.result ≡ c.args.n = number_is _ _ _ _ c.new.ensures c.unwrap-p.ensures ∙ c.from.ensures in
    subst (λ (k : ℕ). StartsTo fs c.place.new.d.tables.root c.place.new.d.own (k + 1) c.args.n) n
    (starts_placed es fs c.args.d.now.tables.root c.place.new.d.tables.root c.args.d.now.own c.place.new.d.own c.unwrap-p.result c.args.n
    (subst (λ (k : ℕ). StartsTo es c.args.d.now.tables.root c.args.d.now.own k c.args.n) (sym n) c.requires.starts) (subst (λ (k : ℕ). (k ≡ 0) ⊎ (4 ≤ k)) (sym n) c.requires.own)
    c.place.ensures.zero c.place.ensures.bytes c.place.ensures.mappings c.place.ensures.others c.place.ensures.vpns c.place.ensures.count c.place.ensures.mark c.place.ensures.marks)

pub put-requires-clause-made : goal.put-requires-clause-made
put-requires-clause-made g c = made_rest _ _ _ (IsAmong c.place.new.frames.items) c.place.ensures.builds.made

pub put-requires-clause-none : goal.put-requires-clause-none
put-requires-clause-none g c =
    let fs = g.P.FramePool.world.entries c.place.new.pool c.place.new.d.seat in
    let v : c.unwrap-v.result ≡ c.args.n = number_is _ _ _ _ c.new-2.ensures c.unwrap-v.ensures ∙ c.from-2.ensures in
    subst (λ (k : ℕ). walk_at fs c.place.new.d.tables.root k ≡ Unmapped) (sym v)
    (starts_none fs c.place.new.d.tables.root c.place.new.d.own (IsAmong c.place.new.frames.items) (c.args.n + 1) c.args.n c.place.ensures.builds.made (placed g c) (omega (arith, c.ranges.n.fits)))

pub put-requires-clause-leaf : goal.put-requires-clause-leaf
put-requires-clause-leaf g c =
    let v : c.unwrap-v.result ≡ c.args.n = number_is _ _ _ _ c.new-2.ensures c.unwrap-v.ensures ∙ c.from-2.ensures in
    subst (λ (k : ℕ). IsSome (leaf_at (g.P.FramePool.world.entries c.place.new.pool c.place.new.d.seat) c.place.new.d.tables.root (k / 512))) (sym v)
    (subst IsSome (sym (c.place.ensures.leaves (c.args.n / 512))) c.requires.leaf)

pub returns-clause-builds : goal.returns-clause-builds
returns-clause-builds g c =
    let W = g.P.FramePool.world in
    subst (λ (k : ℕ). Builds W c.put.new.pool c.put.new.d.seat k c.put.new.d.tables.root c.put.new.d.own c.place.new.frames.items) (sym c.put.ensures.id)
    (builds_after W c.place.new.pool c.place.new.d.seat c.put.new.pool c.put.new.d.seat c.place.new.d.id c.place.new.d.tables.root c.put.new.d.tables.root c.place.new.d.own c.put.new.d.own c.place.new.frames.items
    c.place.ensures.builds c.put.ensures.moves c.in_ok-put.ensures.made c.put.ensures.holds)

pub returns-clause-starts : goal.returns-clause-starts
returns-clause-starts g c =
    let W = g.P.FramePool.world in
    let fs = W.entries c.place.new.pool c.place.new.d.seat in
    let gs = W.entries c.put.new.pool c.put.new.d.seat in
    let p : c.unwrap-p.result ≡ c.args.n = number_is _ _ _ _ c.new.ensures c.unwrap-p.ensures ∙ c.from.ensures in
    let v : c.unwrap-v.result ≡ c.args.n = number_is _ _ _ _ c.new-2.ensures c.unwrap-v.ensures ∙ c.from-2.ensures in
    let es = W.entries c.args.pool.now c.args.d.now.seat in
    let s : StartsTo fs c.place.new.d.tables.root c.place.new.d.own (c.args.n + 1) c.args.n =
    subst (λ (k : ℕ). StartsTo fs c.place.new.d.tables.root c.place.new.d.own (k + 1) c.args.n) p
    (starts_placed es fs c.args.d.now.tables.root c.place.new.d.tables.root c.args.d.now.own c.place.new.d.own c.unwrap-p.result c.args.n
    (subst (λ (k : ℕ). StartsTo es c.args.d.now.tables.root c.args.d.now.own k c.args.n) (sym p) c.requires.starts) (subst (λ (k : ℕ). (k ≡ 0) ⊎ (4 ≤ k)) (sym p) c.requires.own)
    c.place.ensures.zero c.place.ensures.bytes c.place.ensures.mappings c.place.ensures.others c.place.ensures.vpns c.place.ensures.count c.place.ensures.mark c.place.ensures.marks) in
    starts_shown fs gs c.place.new.d.tables.root c.put.new.d.tables.root c.place.new.d.own c.put.new.d.own (c.args.n + 1) c.args.n c.unwrap-v.result c.unwrap-p.result _ s v p refl
    c.in_ok-put.ensures.mappings c.in_ok-put.ensures.bytes c.put.ensures.pages c.in_ok-put.ensures.lists c.put.ensures.marks

pub returns-in_err-put-clause-leaves : goal.returns-in_err-put-clause-leaves
returns-in_err-put-clause-leaves g c = λ i lt. c.put.ensures.leaves i lt ∙ c.place.ensures.leaves i

pub returns-in_err-put-clause-moves : goal.returns-in_err-put-clause-moves
returns-in_err-put-clause-moves g c = moves_trans _ _ _ _ _ _ _ c.place.ensures.moves c.put.ensures.moves

pub returns-clause-leaves : goal.returns-clause-leaves
returns-clause-leaves g c = λ i lt. c.put.ensures.leaves i lt ∙ c.place.ensures.leaves i

pub returns-clause-moves : goal.returns-clause-moves
returns-clause-moves g c = moves_trans _ _ _ _ _ _ _ c.place.ensures.moves c.put.ensures.moves
