-- Commands whose jumps are settled one by one.
use Rattle.std.proofs.Common.{◌≡◌, ℕ, ◌+◌, ◌<◌, ◌≤◌, List, [], ◌∷◌, ◌++◌, length, get_or, drop, Result, Ok, Err, sym, ap, ◌∙◌}
use Rattle.std.proofs.lemmas.List.{append-nil, drop_all, at_drop_more}
use Rattle.neph_base.specs.declared.command.Command.{Command}
use Rattle.neph_model.specs.declared.script.Label.{Label}
use Rattle.neph_command.specs.declared.command.Said.{Said}
use Rattle.neph_command.specs.declared.why.Why.{Why}
use Rattle.neph_command.specs.Words.{◌>>=◌}
use Rattle.neph_script.specs.Lines.{settled, settled_one}
use Rattle.neph_script.proofs.Onto.{onto, onto_more}

one_step : (labels : List Label) (said : List Said) (i : ℕ) (s : Said) → i < length said → s ≡ get_or said i s
    → settled labels i (drop i said) ≡ (settled_one labels i s >>= λ c. settled labels (i + 1) (drop (i + 1) said) >>= λ cs. Ok (c ∷ cs))
one_step labels said i s lt is = at_drop_more (settled labels i) said i s lt ∙ ap (λ (x : Said). settled_one labels i x >>= λ c. settled labels (i + 1) (drop (i + 1) said) >>= λ cs. Ok (c ∷ cs)) (sym is)

pub refused : (labels : List Label) (said : List Said) (i : ℕ) (front : List Command) (s : Said) (why : Why) → settled labels 0 said ≡ onto front (settled labels i (drop i said)) → i < length said → s ≡ get_or said i s
    → settled_one labels i s ≡ Err why → settled labels 0 said ≡ Err why
refused labels said i front s why so lt is e =
    so ∙ ap (onto front) (one_step labels said i s lt is ∙ ap (λ (r : Result Command Why). r >>= λ c. settled labels (i + 1) (drop (i + 1) said) >>= λ cs. Ok (c ∷ cs)) e)

pub one_more : (labels : List Label) (said : List Said) (i : ℕ) (front : List Command) (s : Said) (c : Command) → settled labels 0 said ≡ onto front (settled labels i (drop i said)) → i < length said → s ≡ get_or said i s
    → settled_one labels i s ≡ Ok c → settled labels 0 said ≡ onto (front ++ c ∷ []) (settled labels (i + 1) (drop (i + 1) said))
one_more labels said i front s c so lt is e =
    so ∙ ap (onto front) (one_step labels said i s lt is ∙ ap (λ (r : Result Command Why). r >>= λ c. settled labels (i + 1) (drop (i + 1) said) >>= λ cs. Ok (c ∷ cs)) e)
    ∙ onto_more front c (settled labels (i + 1) (drop (i + 1) said))

pub at_end : (labels : List Label) (said : List Said) (i : ℕ) (front : List Command) → settled labels 0 said ≡ onto front (settled labels i (drop i said)) → length said ≤ i → settled labels 0 said ≡ Ok front
at_end labels said i front so le = so ∙ ap (λ (xs : List Said). onto front (settled labels i xs)) (drop_all i said le) ∙ ap Ok (append-nil front)
