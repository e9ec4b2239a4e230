-- Texts of lines, one behind another.
use Rattle.std.proofs.Common.{◌≡◌, ℕ, ◌-◌, List, ◌++◌, length, take, drop, set, ap, ◌∙◌, arith}
use Rattle.std.specs.Prelude.{All}
use Rattle.std.proofs.lemmas.List.{take-append-le, drop-append-le, take_all, drop_all, length-append, length-drop}
use Rattle.std.proofs.lemmas.List.Elements.{All-set, All-weaker}
use Rattle.neph_model.specs.declared.script.Script.{Script}
use Rattle.neph_print.specs.declared.texts.TextPlace.{TextPlace}
use Rattle.neph_print.specs.Texts.{StandsAt, line_text}

-- nothing stands nowhere
pub nowhere : (s : Script) (text : List ℕ) (program line : ℕ) → StandsAt s text (record { program = program; line = line; start = 0; end = 0 })
nowhere s text program line = record { ordered = omega arith; within = omega arith; shown = λ some. absurd (omega arith) }

-- what stands in a text stands in a longer one
grown : (s : Script) (text more : List ℕ) (p : TextPlace) → StandsAt s text p → StandsAt s (text ++ more) p
grown s text more p at =
    record {
      ordered = at.ordered;
      within = omega (arith, at.within, length-append text more);
      shown = λ some.
          rw (drop-append-le p.start text more (omega (arith, at.ordered, at.within)), take-append-le (p.end - p.start) (drop p.start text) more (omega (arith, at.within, length-drop p.start text))) (at.shown some);
    }

-- words behind a text of this length
pub behind : (text words : List ℕ) (n : ℕ) → n ≡ length text → take (length (text ++ words) - n) (drop n (text ++ words)) ≡ words
behind text words n e =
    ap (take (length (text ++ words) - n)) (drop-append-le n text words (omega (arith, e)) ∙ ap (λ (front : List ℕ). front ++ words) (drop_all n text (omega (arith, e))))
    ∙ take_all _ words (omega (arith, e, length-append text words))

latest : (s : Script) (text new : List ℕ) (p : TextPlace) → new ≡ text ++ line_text s p.program p.line → p.start ≡ length text → p.end ≡ length new → StandsAt s new p
latest s text new p is from to =
    record {
      ordered = omega (arith, from, to, ap length is, length-append text (line_text s p.program p.line));
      within = omega (arith, to);
      shown = λ some. rw (to, is) (behind text (line_text s p.program p.line) p.start from);
    }

-- a line's text behind the others has its place
pub one_more : (s : Script) (text new : List ℕ) (places : List TextPlace) (at : ℕ) (p : TextPlace) → new ≡ text ++ line_text s p.program p.line → p.start ≡ length text → p.end ≡ length new
    → All (StandsAt s text) places → All (StandsAt s new) (set places at p)
one_more s text new places at p is from to all =
    let longer : (q : TextPlace) → StandsAt s text q → StandsAt s new q = λ q so. rw is (grown s text (line_text s p.program p.line) q so) in
    All-set (StandsAt s new) places at p (latest s text new p is from to) (All-weaker (StandsAt s text) (StandsAt s new) longer places all)
