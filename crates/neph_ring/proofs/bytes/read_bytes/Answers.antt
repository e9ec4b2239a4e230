use Rattle.std.proofs.Common.{arith, refl, ◌∙◌, ◌≡◌, ◌+◌, ◌-◌, ℕ, length, take, drop}
use Rattle.std.proofs.lemmas.List.{length-take, length-drop}
use Rattle.neph_ring.proofs.InWords.{read_more, span_none, length_mid}
use Rattle.neph_ring.proofs.bytes.read_bytes.Goals as goal

pub loop-done-init : goal.loop-done-init
loop-done-init g c = record {
  done = omega arith;
  bytes = span_none _ _;
  words = refl;
  rest = g.met.W.Words.rest_same c.args.page.now;
}

pub loop-done-preserved : goal.loop-done-preserved
loop-done-preserved g c =
    let d : ℕ = c.loop-done.done in
    let n : ℕ = c.min-n.result in
    let count : length (take (d + n - d) (drop d c.loop-done.into)) ≡ n = omega (arith, length-take (d + n - d) (drop d c.loop-done.into), length-drop d c.loop-done.into) in
    record {
      done = omega (arith, length_mid d (d + n - d) c.loop-done.into c.read_in_word.new.into, length-take d c.loop-done.into, c.read_in_word.auto.into);
      bytes = read_more _ _ _ _ _ _ n _ _ c.loop-done.invariant.done c.read_in_word.auto.into count c.loop-done.invariant.bytes c.loop-done.invariant.words c.read_in_word.ensures.bytes;
      words = c.read_in_word.ensures.words ∙ c.loop-done.invariant.words;
      rest = g.met.W.Words.rest_trans _ _ _ c.loop-done.invariant.rest c.read_in_word.ensures.rest;
    }
