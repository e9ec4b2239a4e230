use Rattle.std.proofs.Common.{◌≡◌, ◌+◌, ◌-◌, ◌++◌, ◌∷◌, [], ℕ, suc, length, reverse, List, sym, ap, ◌∙◌, arith, rules}
use Rattle.std.specs.List.{range_with_len}
use Rattle.std.proofs.lemmas.List.{length-reverse}
use Rattle.std.proofs.lemmas.List.FromFn.{length-range_with_len}
use Rattle.std.proofs.lemmas.Grind.{reverse_onto}
use Rattle.neph_heap.proofs.stock.Stock.fill.Goals as goal

pub push_reserved-requires : goal.push_reserved-requires
push_reserved-requires c = omega (arith, ap length c.loop-i.invariant.free, length-reverse (range_with_len (c.args.count - c.loop-i.i) c.loop-i.i), length-range_with_len (c.args.count - c.loop-i.i) c.loop-i.i)

-- one number more, below the others
one_more : (a b n m f : ℕ) → b + 1 ≡ a → m ≡ suc n → f ≡ b → reverse (range_with_len a n) ++ f ∷ [] ≡ reverse (range_with_len b m)
one_more a b n m f up more is =
    ap (λ (k : ℕ). reverse (range_with_len a n) ++ k ∷ []) is ∙ ap (λ (k : ℕ). reverse (range_with_len k n) ++ b ∷ []) (sym up)
    ∙ sym (reverse_onto (range_with_len (b + 1) n) b []) ∙ ap (λ (k : ℕ). reverse (range_with_len b k)) (sym more)

pub loop-i-preserved : goal.loop-i-preserved
loop-i-preserved c =
    let f : c.unwrap.result ≡ c.args.count - 1 - c.loop-i.i = grind arith in record {
      free = c.push_reserved.ensures.items ∙ ap (λ (xs : List ℕ). xs ++ c.unwrap.result ∷ []) c.loop-i.invariant.free
          ∙ one_more (c.args.count - c.loop-i.i) (c.args.count - (c.loop-i.i + 1)) c.loop-i.i (c.loop-i.i + 1) c.unwrap.result (omega (arith, c.loop-i-test.true)) (omega arith) (omega (arith, f));
      room = search rules;
      domains = c.loop-i.invariant.domains;
      children = c.loop-i.invariant.children;
    }
