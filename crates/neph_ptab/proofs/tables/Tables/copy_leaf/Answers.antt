use Rattle.std.proofs.Common.{◌≡◌, ◌<◌, ℕ, List, Some, get_or, length, refl, sym, ap, ◌∙◌}
use Rattle.std.specs.declared.option.Option.{Option}
use Rattle.neph_pool.specs.declared.entry.Entry.{Entry}
use Rattle.neph_pool.specs.Entries.{words_at, with_word, with_words, hold_at, is_here, IsShaped}
use Rattle.neph_pool.proofs.Entries.{hold_at-with_words}
use Rattle.neph_ptab.specs.Bits.{root_word}
use Rattle.neph_ptab.specs.Tables.{leaf_at}
use Rattle.neph_ptab.proofs.Changing.{IsEntry, same_word, filled_leaves, filled_stands, filled_walks, filled_holds, filled_words}
use Rattle.neph_ptab.proofs.Copying.{leaf_entries, copied_walk, spares_thrice}
use Rattle.neph_ptab.proofs.tables.Tables.copy_leaf.Given as given
use Rattle.neph_ptab.proofs.tables.Tables.copy_leaf.Goals as goal

abbrev before : (g : given.Over) → goal.After-write g → List (Option Entry)
before g c = g.P.FramePool.world.entries c.args.pool.now c.args.seat.now

abbrev after : (g : given.Over) → goal.After-write g → List (Option Entry)
after g c = g.P.FramePool.world.entries c.write.new.self c.write.new.s

-- the words of the leaf that is copied
abbrev source : (g : given.Over) → goal.After-write g → List ℕ
source g c = words_at (g.P.FramePool.world.entries c.args.pool.now c.args.from.now) c.unwrap-leaf.result

-- a leaf with these words, and one word of the root
changed : (g : given.Over) (c : goal.After-write g) → after g c ≡ with_word (with_words (before g c) c.args.frame (source g c)) c.args.self.now.root c.args.i (root_word (Some c.args.frame))
changed g c =
    let W = g.P.FramePool.world in
    let mid : W.entries c.nth_leaf.new.pool c.args.seat.now ≡ before g c = c.nth_leaf.ensures.moves.others.entries c.args.seat.now c.requires.seat.0 c.requires.apart in
    let copied : W.entries c.copy_across.new.self c.copy_across.new.to ≡ with_words (before g c) c.args.frame (source g c) =
    c.copy_across.ensures.copied ∙ ap (λ (es : List (Option Entry)). with_words es c.args.frame (words_at (W.entries c.nth_leaf.new.pool c.nth_leaf.new.seat) c.unwrap-leaf.result)) mid
    ∙ ap (λ (es : List (Option Entry)). with_words (before g c) c.args.frame (words_at es c.unwrap-leaf.result)) c.nth_leaf.ensures.entries in
    c.write.ensures.entries ∙ same_word _ _ c.args.self.now.root _ _ _ _ copied refl c.root_word.ensures.value

leaf : (g : given.Over) (c : goal.After-write g) → leaf_at (g.P.FramePool.world.entries c.args.pool.now c.args.from.now) c.args.other.now.root c.args.i ≡ Some c.unwrap-leaf.result
leaf g c = sym c.nth_leaf.ensures.leaf ∙ c.unwrap-leaf.ensures

good : (g : given.Over) (c : goal.After-write g) → (w : ℕ) → w < 512 → IsEntry (get_or (source g c) w 0)
good g c = leaf_entries (g.P.FramePool.world.entries c.args.pool.now c.args.from.now) c.args.other.now.root c.requires.source c.args.i c.unwrap-leaf.result c.requires.place (leaf g c)

long : (g : given.Over) (c : goal.After-write g) → length (words_at (before g c) c.args.self.now.root) ≡ 512
long g c =
    let shape : IsShaped (g.P.FramePool.world.frames c.args.pool.now) (before g c) = g.met.P.FramePool.shaped _ _ c.requires.seat.0 in
    shape.words c.args.self.now.root (ap is_here c.requires.stands.top)

pub write-requires-clause-frame : goal.write-requires-clause-frame
write-requires-clause-frame g c =
    let W = g.P.FramePool.world in
    ap (λ (es : List (Option Entry)). hold_at es c.args.self.now.root) c.copy_across.ensures.copied ∙ hold_at-with_words _ c.args.frame _ c.args.self.now.root
    ∙ ap (λ (es : List (Option Entry)). hold_at es c.args.self.now.root) (c.nth_leaf.ensures.moves.others.entries c.args.seat.now c.requires.seat.0 c.requires.apart) ∙ c.requires.stands.top

pub returns-clause-leaves : goal.returns-clause-leaves
returns-clause-leaves g c = λ j lt. rw (changed g c) (filled_leaves (before g c) c.args.self.now.root c.requires.stands c.args.i c.requires.place c.requires.needed c.args.frame c.root_word.ensures.range c.requires.frame c.requires.root c.requires.new (long g c) (source g c) (good g c) j)

pub returns-clause-walks : goal.returns-clause-walks
returns-clause-walks g c = λ u lt.
    rw (changed g c)
    (filled_walks (before g c) c.args.self.now.root c.requires.stands c.args.i c.requires.place c.requires.needed c.args.frame c.root_word.ensures.range c.requires.frame c.requires.root c.requires.new (long g c) (source g c) (good g c) u lt
    ∙ copied_walk (g.P.FramePool.world.entries c.args.pool.now c.args.from.now) c.args.other.now.root c.args.i c.unwrap-leaf.result u _ (leaf g c))

pub returns-clause-stands : goal.returns-clause-stands
returns-clause-stands g c = rw (changed g c) (filled_stands (before g c) c.args.self.now.root c.requires.stands c.args.i c.requires.place c.requires.needed c.args.frame c.root_word.ensures.range c.requires.frame c.requires.root c.requires.new (long g c) (source g c) (good g c))

pub returns-clause-holds : goal.returns-clause-holds
returns-clause-holds g c = λ f. rw (changed g c) (filled_holds (before g c) c.args.self.now.root c.requires.stands c.args.i c.requires.place c.requires.needed c.args.frame c.root_word.ensures.range c.requires.frame c.requires.root c.requires.new (long g c) (source g c) (good g c) f)

pub returns-clause-words : goal.returns-clause-words
returns-clause-words g c = λ f n m. rw (changed g c) (filled_words (before g c) c.args.self.now.root c.requires.stands c.args.i c.requires.place c.requires.needed c.args.frame c.root_word.ensures.range c.requires.frame c.requires.root c.requires.new (long g c) (source g c) (good g c) f n m)

pub returns-clause-others : goal.returns-clause-others
returns-clause-others g c =
    let W = g.P.FramePool.world in
    spares_thrice W (W.names c.args.from.now) (W.names c.args.seat.now) (W.names c.nth_leaf.new.seat) (W.names c.copy_across.new.to) c.args.pool.now c.nth_leaf.new.pool c.copy_across.new.self c.write.new.self
    c.nth_leaf.ensures.moves.others c.nth_leaf.ensures.moves.names c.copy_across.ensures.others c.copy_across.ensures.to.names c.write.ensures.moves.others
