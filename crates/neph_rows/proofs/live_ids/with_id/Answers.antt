use Rattle.std.proofs.Common.{cond, Bool, w64, ap, sym, ◌∙◌}
use Rattle.std.proofs.lemmas.Nat.Bits.{bit_at_set_same, bit_at_set_other, bit_at_clear_same, bit_at_clear_other}
use Rattle.neph_rows.proofs.live_ids.with_id.Goals as goal

pub returns-then-is_in-clause-this : goal.returns-then-is_in-clause-this
returns-then-is_in-clause-this c = bit_at_set_same w64 _ _ c.requires ∙ ap (λ (b : Bool). cond b 1 0) (sym c.if-is_in.true)

pub returns-then-is_in-clause-others : goal.returns-then-is_in-clause-others
returns-then-is_in-clause-others c = λ k lt. bit_at_set_other w64 _ _ c.requires k

pub returns-else-is_in-clause-this : goal.returns-else-is_in-clause-this
returns-else-is_in-clause-this c = bit_at_clear_same w64 _ _ c.requires ∙ ap (λ (b : Bool). cond b 1 0) (sym c.if-is_in.false)

pub returns-else-is_in-clause-others : goal.returns-else-is_in-clause-others
returns-else-is_in-clause-others c = bit_at_clear_other w64 _ _ c.requires
