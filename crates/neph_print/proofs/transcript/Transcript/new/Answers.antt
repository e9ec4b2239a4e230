use Rattle.std.proofs.Common.{[], refl, List, ℕ, ◌++◌, ap, ◌∙◌}
use Rattle.std.specs.Prelude.{codes}
use Rattle.neph_print.proofs.transcript.Transcript.new.Goals as goal

pub returns : goal.returns
returns c = λ s. record {
  put = [];
  has_put = record {
    text = c.in_ok-put_word.ensures ∙ ap (λ (xs : List ℕ). xs ++ codes "transcript 1\n") c.in_ok-text.ensures.items;
    families = c.start_families.ensures;
    texts = c.none.ensures s;
  };
  whole = refl;
}
