use Rattle.std.specs.Prelude.{◌≡◌, ◌++◌, drop}
use Rattle.std.specs.Vec.Iter.{into_iter_items}
use Rattle.neph_top.proofs.process.words_behind.Given as goal

-- the words so far and those that the iterator still has are all behind the name
abbrev pub invariant-loop-word : goal.invariant-loop-word
invariant-loop-word l =
    l.words.items ++ into_iter_items l.word-iterator ≡ drop 1 (into_iter_items l.fn.args)
