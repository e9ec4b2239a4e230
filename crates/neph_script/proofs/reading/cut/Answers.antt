use Rattle.std.proofs.Common.{◌+◌, drop, arith}
use Rattle.std.proofs.lemmas.List.{take_rest, length-drop}
use Rattle.neph_script.proofs.Cuts.{cut_here, cut_nowhere, word_more, word_last}
use Rattle.neph_script.proofs.reading.cut.Goals as goal

pub words-preserved : goal.words-preserved
words-preserved c =
    let is = c.in-Some.ensures in
    let rest = c.words.rest.now in
    simp take_rest (record {
      words = word_more (λ w. w.now) c.words.words.items c.push.new.self.items _ c.args.line.now rest (drop (c.in-Some.at + 1) rest) c.words.invariant.words (cut_here 32 rest c.in-Some.at (omega arith) (λ k h. is.0.before k (omega arith) h) is.1) c.in_ok-push.ensures.items;
      short = omega (arith, length-drop (c.in-Some.at + 1) rest, c.words.invariant.short);
    })

pub returns : goal.returns
returns c =
    word_last (λ w. w.now) c.words.words.items c.push-2.new.self.items c.words.rest c.args.line.now c.words.invariant.words (cut_nowhere 32 c.words.rest.now (λ k h. c.in_default.ensures k (omega arith) h)) c.in_ok-push-2.ensures.items
