use Rattle.std.proofs.Common.{◌≡◌, ◌+◌, ◌-◌, ◌*◌, ◌/◌, ℕ, List, Option, length, ◌∙◌, sym, ap, arith}
use Rattle.std.specs.Option.{ok_or}
use Rattle.std.proofs.lemmas.List.{length-set, take_all, drop_all, append-nil, drop-replicate}
use Rattle.neph_command.specs.declared.why.Why.TheVariants.{Hex}
use Rattle.neph_command.proofs.Hex.{unfit, pairs, small_read, pair_read, no_piece, first_piece}
use Rattle.neph_command.proofs.word.piece.Goals as goal

pub returns-then-word-ne0 : goal.returns-then-word-ne0
returns-then-word-ne0 c =
    ap (λ (o : Option (List ℕ)). ok_or o Hex) (sym (unfit c.args.word.now (λ even. omega (arith, c.then-word-ne0.either))))

pub returns-then-most-gt15 : goal.returns-then-most-gt15
returns-then-most-gt15 c =
    let word = c.args.word.now in
    ap (λ (o : Option (List ℕ)). ok_or o Hex)
    (sym (no_piece word _ c.values.digits c.values.i c.values.most (length word / 2) (128 - length word) c.values.invariant.so_far (omega arith) (omega arith) (simp (c.copy_from_slice.ensures.after, drop-replicate))))

pub joined-requires-clause-high : goal.joined-requires-clause-high
joined-requires-clause-high c = small_read _ c.values.digits c.values.i c.values.most c.values.invariant.so_far (omega arith) (omega arith) (2 * c.pairs.i)

pub joined-requires-clause-low : goal.joined-requires-clause-low
joined-requires-clause-low c = small_read _ c.values.digits c.values.i c.values.most c.values.invariant.so_far (omega arith) (omega arith) (2 * c.pairs.i + 1)

pub pairs-preserved : goal.pairs-preserved
pairs-preserved c =
    record {
      whole = length-set c.pairs.kept c.pairs.i c.joined.result ∙ c.pairs.invariant.whole;
      so_far = pair_read c.values.digits c.pairs.kept c.pairs.i c.joined.result (omega arith) (omega arith) c.joined.ensures c.pairs.invariant.so_far;
    }

pub returns : goal.returns
returns c =
    let word = c.args.word.now in
    let digits = c.values.digits in
    let kept = c.pairs.kept in
    let all : pairs digits ≡ kept =
    c.pairs.invariant.so_far ∙ rw (take_all c.pairs.i kept (omega arith), drop_all (2 * c.pairs.i) digits (omega arith)) (append-nil kept) in
    c.ok_or.ensures.value
    ∙ ap (λ (o : Option (List ℕ)). ok_or o Hex)
    (first_piece word _ digits kept c.values.i c.values.most (length word / 2) (128 - length word) c.new.result c.values.invariant.so_far (omega arith) (omega arith) (omega arith) (simp (c.copy_from_slice.ensures.after, drop-replicate)) all c.new.ensures.given c.new.ensures.exactly)
