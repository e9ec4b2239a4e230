use Rattle.std.proofs.Common.{◌≡◌, ◌/◌, List, Some, length, ap, ◌∙◌}
use Rattle.std.specs.declared.option.Option.{Option}
use Rattle.neph_pool.specs.declared.entry.Entry.{Entry}
use Rattle.neph_pool.specs.Entries.{words_at, with_word, with_words, is_here, IsShaped}
use Rattle.neph_ptab.specs.Bits.{root_word}
use Rattle.neph_ptab.specs.Tables.{zero_words}
use Rattle.neph_ptab.proofs.Changing.{place_small, same_word, leaf_leaves, leaf_stands, leaf_walks, leaf_holds, leaf_words}
use Rattle.neph_ptab.proofs.tables.Tables.add_leaf.Given as given
use Rattle.neph_ptab.proofs.tables.Tables.add_leaf.Goals as goal

abbrev before : (g : given.Over) → goal.After-write g → List (Option Entry)
before g c = g.P.FramePool.world.entries c.args.pool.now c.args.seat.now

abbrev after : (g : given.Over) → goal.After-write g → List (Option Entry)
after g c = g.P.FramePool.world.entries c.write.new.self c.write.new.s

-- an empty frame, and one word of the root
changed : (g : given.Over) (c : goal.After-write g) → after g c ≡ with_word (with_words (before g c) c.args.frame zero_words) c.args.self.now.root (c.args.v / 512) (root_word (Some c.args.frame))
changed g c = c.write.ensures.entries ∙ same_word _ _ c.args.self.now.root _ _ _ _ c.wipe.ensures.entries c.root_place.ensures.value c.root_word.ensures.value

long : (g : given.Over) (c : goal.After-write g) → length (words_at (before g c) c.args.self.now.root) ≡ 512
long g c =
    let shape : IsShaped (g.P.FramePool.world.frames c.args.pool.now) (before g c) = g.met.P.FramePool.shaped _ _ c.requires.seat.0 in
    shape.words c.args.self.now.root (ap is_here c.requires.stands.top)

pub returns-clause-leaves : goal.returns-clause-leaves
returns-clause-leaves g c = λ i lt. rw (changed g c)
    (leaf_leaves (before g c) c.args.self.now.root c.requires.stands (c.args.v / 512) (place_small c.args.v c.root_place.ensures.range) c.requires.needed c.args.frame c.root_word.ensures.range c.requires.frame c.requires.root c.requires.new (long g c) i)

pub returns-clause-walks : goal.returns-clause-walks
returns-clause-walks g c = λ u lt. rw (changed g c)
    (leaf_walks (before g c) c.args.self.now.root c.requires.stands (c.args.v / 512) (place_small c.args.v c.root_place.ensures.range) c.requires.needed c.args.frame c.root_word.ensures.range c.requires.frame c.requires.root c.requires.new (long g c) u lt)

pub returns-clause-stands : goal.returns-clause-stands
returns-clause-stands g c = rw (changed g c)
    (leaf_stands (before g c) c.args.self.now.root c.requires.stands (c.args.v / 512) (place_small c.args.v c.root_place.ensures.range) c.requires.needed c.args.frame c.root_word.ensures.range c.requires.frame c.requires.root c.requires.new (long g c))

pub returns-clause-holds : goal.returns-clause-holds
returns-clause-holds g c = λ f. rw (changed g c) (leaf_holds (before g c) c.args.self.now.root c.requires.stands (c.args.v / 512) (place_small c.args.v c.root_place.ensures.range) c.requires.needed c.args.frame c.root_word.ensures.range c.requires.frame c.requires.root c.requires.new (long g c) f)

pub returns-clause-words : goal.returns-clause-words
returns-clause-words g c = λ f n m. rw (changed g c) (leaf_words (before g c) c.args.self.now.root c.requires.stands (c.args.v / 512) (place_small c.args.v c.root_place.ensures.range) c.requires.needed c.args.frame c.root_word.ensures.range c.requires.frame c.requires.root c.requires.new (long g c) f n m)
