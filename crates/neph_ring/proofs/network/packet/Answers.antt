use Rattle.std.proofs.Common.{arith, ◌≡◌, ◌<◌, ◌≤◌, inl, inr, refl, ℕ, true, false, ⊎_elim}
use Rattle.std.proofs.lemmas.Bool.{cases_lt}
use Rattle.neph_ring.proofs.Slots.{packet_read, carried, is_slot, not_slot}
use Rattle.neph_ring.proofs.network.packet.Goals.{then-family-gt255-via-then-family-gt255, then-family-gt255-via-else-family-gt255+then-len-gt-SLOT_BODY_BYTES}
use Rattle.neph_ring.proofs.network.packet.Goals as goal

pub returns-then-family-gt255-clause-exactly : goal.returns-then-family-gt255-clause-exactly
returns-then-family-gt255-clause-exactly c =
    elim c.then-family-gt255.branch [
      | then-family-gt255-via-then-family-gt255 w ↦ (λ e. absurd (cc), λ h. absurd (not_slot c.args.slot.now _ _ c.slot_number-family.ensures c.slot_number-len.ensures (inl w.if-family-gt255.true) h))
      | then-family-gt255-via-else-family-gt255+then-len-gt-SLOT_BODY_BYTES w ↦
          (λ e. absurd (cc), λ h. absurd (not_slot c.args.slot.now _ _ c.slot_number-family.ensures c.slot_number-len.ensures (inr (inl w.if-len-gt-SLOT_BODY_BYTES.true)) h))
    ]

pub returns-in_err-body-clause-exactly : goal.returns-in_err-body-clause-exactly
returns-in_err-body-clause-exactly c = (
  λ some. let no : false ≡ true = (rw c.from_residual.ensures at some) in absurd (cc),
  λ h. let n : ℕ = c.slot_number-len.result in
      let l = carried c.args.slot.now n c.requires c.if-len-gt-SLOT_BODY_BYTES.false in
      absurd (⊎_elim
      (λ (none : n < 1). not_slot c.args.slot.now _ _ c.slot_number-family.ensures c.slot_number-len.ensures (inr (inr none)) h)
      (λ (some : 1 ≤ n). let no : false ≡ true = c.in_err-body.ensures.exactly.1 (omega arith, omega arith) in cc)
      (cases_lt n 1)),
)

pub returns-clause-exactly : goal.returns-clause-exactly
returns-clause-exactly c =
    let n : ℕ = c.slot_number-len.result in
    let l = carried c.args.slot.now n c.requires c.if-len-gt-SLOT_BODY_BYTES.false in
    let both = c.in_ok-body.ensures.exactly.0 refl in
    (λ e. is_slot c.args.slot.now _ _ c.slot_number-family.ensures c.slot_number-len.ensures c.if-family-gt255.false (omega (arith, both.0)) c.if-len-gt-SLOT_BODY_BYTES.false, λ h. refl)

pub returns-clause-packet : goal.returns-clause-packet
returns-clause-packet c = packet_read _ _ _ _ _ c.slot_number-family.ensures c.slot_number-port.ensures c.slot_number-len.ensures c.in_ok-body.ensures.given
