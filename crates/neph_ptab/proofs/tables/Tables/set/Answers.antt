use Rattle.std.proofs.Common.{◌≡◌, ◌<◌, ◌/◌, List, Some, length, refl, sym, ap, ◌∙◌, arith}
use Rattle.std.specs.declared.option.Option.{Option}
use Rattle.neph_pool.specs.declared.entry.Entry.{Entry}
use Rattle.neph_pool.specs.Entries.{words_at, with_word, is_here, IsShaped}
use Rattle.neph_ptab.specs.Bits.{walk_word}
use Rattle.neph_ptab.specs.Tables.{leaf_at}
use Rattle.neph_ptab.proofs.Changing.{place_small, same_word, set_leaves, set_stands, set_walks}
use Rattle.neph_ptab.proofs.Retabling.{set_retabled}
use Rattle.neph_ptab.proofs.tables.Tables.set.Given as given
use Rattle.neph_ptab.proofs.tables.Tables.set.Goals as goal

abbrev before : (g : given.Over) → goal.After-write g → List (Option Entry)
before g c = g.P.FramePool.world.entries c.args.pool.now c.args.seat.now

abbrev after : (g : given.Over) → goal.After-write g → List (Option Entry)
after g c = g.P.FramePool.world.entries c.write.new.self c.write.new.s

-- one word has changed
changed : (g : given.Over) (c : goal.After-write g) → after g c ≡ with_word (before g c) c.unwrap-leaf.result c.leaf_place.result (walk_word c.args.to)
changed g c = c.write.ensures.entries ∙ same_word _ _ c.unwrap-leaf.result _ _ _ _ c.leaf.ensures.entries refl c.walk_word.ensures.value

leaf : (g : given.Over) (c : goal.After-write g) → leaf_at (before g c) c.args.self.now.root (c.args.v / 512) ≡ Some c.unwrap-leaf.result
leaf g c = sym c.leaf.ensures.leaf ∙ c.unwrap-leaf.ensures

fits : (g : given.Over) (c : goal.After-write g) → c.leaf_place.result < length (words_at (before g c) c.unwrap-leaf.result)
fits g c =
    let shape : IsShaped (g.P.FramePool.world.frames c.args.pool.now) (before g c) = g.met.P.FramePool.shaped _ _ c.requires.seat.0 in
    let long : length (words_at (before g c) c.unwrap-leaf.result) ≡ 512 = shape.words c.unwrap-leaf.result (ap is_here (c.requires.stands.leaves (c.args.v / 512) c.unwrap-leaf.result (place_small c.args.v c.leaf_place.ensures.range) (leaf g c))) in
    let small = c.leaf_place.ensures.small in
    omega arith

pub returns-clause-walks : goal.returns-clause-walks
returns-clause-walks g c = λ u lt. rw (changed g c)
    (set_walks (before g c) c.args.self.now.root c.requires.stands (c.args.v / 512) c.leaf_place.result c.unwrap-leaf.result (place_small c.args.v c.leaf_place.ensures.range) (leaf g c) (fits g c) c.args.to c.walk_word.ensures.range c.requires.to c.args.v u refl (sym c.leaf_place.ensures.value) lt)

pub returns-clause-tables : goal.returns-clause-tables
returns-clause-tables g c =
    let es = before g c in
    let root = c.args.self.now.root in
    let at = c.args.v / 512 in
    let small = place_small c.args.v c.leaf_place.ensures.range in
    let fs = with_word es c.unwrap-leaf.result c.leaf_place.result (walk_word c.args.to) in
    rw (changed g c)
    (set_retabled es fs root at c.unwrap-leaf.result c.leaf_place.result (walk_word c.args.to) small (leaf g c) refl
    (set_leaves es root c.requires.stands at c.leaf_place.result c.unwrap-leaf.result small (leaf g c) (fits g c) c.args.to c.walk_word.ensures.range c.requires.to)
    (set_stands es root c.requires.stands at c.leaf_place.result c.unwrap-leaf.result small (leaf g c) (fits g c) c.args.to c.walk_word.ensures.range c.requires.to))
