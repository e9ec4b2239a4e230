use Rattle.std.proofs.Common.{ℕ, set, IsSome, Some, slice_get, true, refl, sym, ap, subst, ◌∙◌, arith, slice_index_or, false}
use Rattle.std.proofs.lemmas.List.{get_or-set_other}
use Rattle.std.specs.Vec.{with_item}
use Rattle.neph_pool.specs.Entries.{is_here}
use Rattle.neph_gmap.specs.GuestPages.{GuestPages}
use Rattle.neph_ptab.specs.Tables.{zero_words}
use Rattle.neph_memory.specs.declared.own.Own.{Own}
use Rattle.neph_memory.proofs.Leading.{named}
use Rattle.neph_memory.proofs.Places.{place_else}
use Rattle.neph_memory.proofs.Placing.{away_small}
use Rattle.neph_memory.proofs.Building.{popped, took, once_new, sole_new, IsPlaced, placing, wiped_holds, wiped_else, wiped_bytes, blank_bytes}
use Rattle.neph_memory.proofs.Keeping.{shared_wiped}
use Rattle.neph_memory.proofs.build.place.Given as given
use Rattle.neph_memory.proofs.build.place.Goals as goal

pub wipe-requires-clause-seat : goal.wipe-requires-clause-seat
wipe-requires-clause-seat g c = (c.requires.builds.fits, named _ _ c.requires.builds.names)

pub wipe-requires-clause-frame : goal.wipe-requires-clause-frame
wipe-requires-clause-frame g c =
    c.requires.builds.sole c.unwrap-f.result (took (g.P.FramePool.world.entries c.args.pool.now c.args.d.now.seat) (g.P.FramePool.world.entries c.args.pool.now c.args.d.now.seat) _ _ c.unwrap-f.result
    (popped _ _ _ c.unwrap-f.result c.pop.ensures.items c.unwrap-f.ensures) c.requires.builds.once c.requires.builds.sole (λ x. refl))

pub set-requires : goal.set-requires
set-requires g c = away_small _ c.args.p c.requires.away

pub index_mut-requires : goal.index_mut-requires
index_mut-requires g c =
    let small = away_small _ c.args.p c.requires.away in
    omega (arith, small, c.get.ensures.value, c.requires.builds.made.marks, c.args.d.now.own.marks.ok.0)

abbrev after : (g : given.Over) → goal.After-d-1 g → Own
after g c = record { map = c.set.new.self; marks = with_item c.args.d.now.own.marks c.get.result true; spare = c.args.d.now.own.spare }

fact : (g : given.Over) (c : goal.After-d-1 g)
    → IsPlaced (g.P.FramePool.world.entries c.args.pool.now c.args.d.now.seat) (g.P.FramePool.world.entries c.wipe.new.pool c.wipe.new.seat) c.args.d.now.tables.root c.args.d.now.own (after g c) c.pop.new.self.items c.args.p c.unwrap-f.result
fact g c =
    let W = g.P.FramePool.world in
    let es = W.entries c.args.pool.now c.args.d.now.seat in
    let fs = W.entries c.wipe.new.pool c.wipe.new.seat in
    placing es fs c.args.d.now.tables.root c.args.d.now.own (after g c) c.args.frames.now.items c.pop.new.self.items c.args.p c.unwrap-f.result c.requires.builds.made
    (popped _ _ _ c.unwrap-f.result c.pop.ensures.items c.unwrap-f.ensures) c.requires.builds.once c.requires.builds.sole c.requires.away c.requires.unlisted
    (wiped_holds es fs c.unwrap-f.result zero_words c.wipe.ensures.entries) (wiped_else es fs c.unwrap-f.result zero_words c.wipe.ensures.entries)
    (ap (λ (m : GuestPages). m.pages) c.set.ensures) (ap (λ (m : GuestPages). m.vpns) c.set.ensures) (ap (λ (k : ℕ). set c.args.d.now.own.marks.items k true) c.get.ensures.value)

pub returns-clause-builds : goal.returns-clause-builds
returns-clause-builds g c =
    let W = g.P.FramePool.world in
    let es = W.entries c.args.pool.now c.args.d.now.seat in
    let fs = W.entries c.wipe.new.pool c.wipe.new.seat in
    let e = popped _ _ _ c.unwrap-f.result c.pop.ensures.items c.unwrap-f.ensures in
    let h = wiped_holds es fs c.unwrap-f.result zero_words c.wipe.ensures.entries in record {
      fits = c.wipe.ensures.moves.fits;
      names = c.wipe.ensures.moves.names ∙ c.requires.builds.names;
      made = (fact g c).made;
      sole = sole_new es fs _ _ c.unwrap-f.result e c.requires.builds.once c.requires.builds.sole h;
      once = once_new es fs _ _ c.unwrap-f.result e c.requires.builds.once c.requires.builds.sole h;
    }

pub returns-clause-zero : goal.returns-clause-zero
returns-clause-zero g c =
    let W = g.P.FramePool.world in
    let es = W.entries c.args.pool.now c.args.d.now.seat in
    let fs = W.entries c.wipe.new.pool c.wipe.new.seat in
    let e = popped _ _ _ c.unwrap-f.result c.pop.ensures.items c.unwrap-f.ensures in
    let t = took es es _ _ c.unwrap-f.result e c.requires.builds.once c.requires.builds.sole (λ x. refl) in
    (fact g c).fresh ∙ ap Some (wiped_bytes es fs c.unwrap-f.result zero_words (ap is_here (c.requires.builds.sole c.unwrap-f.result t)) c.wipe.ensures.entries ∙ blank_bytes)

pub returns-clause-bytes : goal.returns-clause-bytes
returns-clause-bytes g c = (fact g c).bytes

pub returns-clause-mappings : goal.returns-clause-mappings
returns-clause-mappings g c = (fact g c).mappings

pub returns-clause-leaves : goal.returns-clause-leaves
returns-clause-leaves g c = (fact g c).leaves

pub returns-clause-page : goal.returns-clause-page
returns-clause-page g c = subst IsSome (sym (fact g c).page) refl

pub returns-clause-others : goal.returns-clause-others
returns-clause-others g c = λ q n. ap (λ (m : GuestPages). slice_get m.pages q) c.set.ensures ∙ place_else _ c.args.p q _ n

pub returns-clause-mark : goal.returns-clause-mark
returns-clause-mark g c = (fact g c).mark

pub returns-clause-marks : goal.returns-clause-marks
returns-clause-marks g c = λ q n.
    ap (λ (k : ℕ). slice_index_or (set c.args.d.now.own.marks.items k true) q false) c.get.ensures.value ∙ get_or-set_other c.args.d.now.own.marks.items c.args.p q true false n

pub returns-clause-shared : goal.returns-clause-shared
returns-clause-shared g c =
    let W = g.P.FramePool.world in
    let es = W.entries c.args.pool.now c.args.d.now.seat in
    let e = popped _ _ _ c.unwrap-f.result c.pop.ensures.items c.unwrap-f.ensures in
    let t = took es es _ _ c.unwrap-f.result e c.requires.builds.once c.requires.builds.sole (λ x. refl) in
    shared_wiped es (W.entries c.wipe.new.pool c.wipe.new.seat) c.unwrap-f.result zero_words (c.requires.builds.sole c.unwrap-f.result t) c.wipe.ensures.entries
