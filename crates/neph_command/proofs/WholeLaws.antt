-- No operand has an empty word.
use Rattle.std.proofs.Common.{◌≡◌, ℕ, ◌^◌, ◌<◌, true, false, Bool, List, [], ◌∷◌, length, map, refl, arith}
use Rattle.std.specs.Prelude.{◌&&◌, nat_lt, slice_index}
use Rattle.std.specs.List.{list_all}
use Rattle.std.specs.Fmt.{decimal}
use Rattle.std.proofs.lemmas.Fmt.{decimal_nonempty}
use Rattle.std.proofs.lemmas.Bool.{lt-ltb}
use Rattle.neph_base.specs.declared.command.Mode.TheVariants.{Ro, Rw}
use Rattle.neph_command.specs.Kind.{Kind}
use Rattle.neph_command.specs.Kind.{Kind as kind}
use Rattle.neph_command.specs.declared.operand.Operand.{Operand}
use Rattle.neph_command.specs.declared.operand.Operand.TheVariants as op
use Rattle.neph_model.specs.Words.{hex}
use Rattle.neph_command.specs.Words.{is_name, is_letter}
use Rattle.neph_command.specs.Kinds.{operand_word, Fits, FitAll}

first_true : (a b : Bool) → (a && b) ≡ true → a ≡ true
first_true true b e = refl
first_true false b e = absurd cc

pub name_whole : (n : List ℕ) → is_name n ≡ true → nat_lt 0 (length n) ≡ true
name_whole n e = first_true (nat_lt 0 (length n)) _ (first_true (nat_lt 0 (length n) && nat_lt (length n) 17) _ (first_true (nat_lt 0 (length n) && nat_lt (length n) 17 && is_letter (slice_index n 0)) _ e))

pub number_whole : (n : ℕ) → n < 2 ^ 64 → nat_lt 0 (length (decimal n)) ≡ true
number_whole n lt = lt-ltb 0 (length (decimal n)) (decimal_nonempty n lt)

hex_whole : (bytes : List ℕ) → 0 < length bytes → nat_lt 0 (length (hex bytes)) ≡ true
hex_whole [] some = absurd (omega arith)
hex_whole (b ∷ bytes) some = lt-ltb 0 (length (hex (b ∷ bytes))) (omega arith)

operand_whole : (k : Kind) (x : Operand) → Fits k x → nat_lt 0 (length (operand_word x)) ≡ true
operand_whole kind.addr (op.Addr n) h = number_whole n (omega (arith, h))
operand_whole kind.len (op.Len n) h = number_whole n (omega (arith, h.1))
operand_whole kind.bytes (op.Bytes bytes) h = hex_whole bytes h.some
operand_whole kind.vpn (op.Vpn n) h = number_whole n (omega (arith, h))
operand_whole kind.pfn (op.Pfn n) h = number_whole n (omega (arith, h))
operand_whole kind.mode (op.Mode Ro) h = refl
operand_whole kind.mode (op.Mode Rw) h = refl
operand_whole kind.label (op.Label l) h = name_whole l h
operand_whole kind.dom (op.Dom n) h = number_whole n (omega (arith, h))
operand_whole kind.reference (op.Ref n) h = number_whole n (omega (arith, h))
operand_whole kind.handle (op.Handle n) h = number_whole n (omega (arith, h))
operand_whole kind.offset (op.Offset n) h = number_whole n (omega (arith, h))
operand_whole _ _ h = absurd h

abbrev pub are_whole : List (List ℕ) → Bool
are_whole words = list_all (λ (w : List ℕ). nat_lt 0 (length w)) words

pub all_whole : (ks : List Kind) (xs : List Operand) → FitAll ks xs → are_whole (map operand_word xs) ≡ true
all_whole [] [] h = refl
all_whole [] (x ∷ xs) h = absurd h
all_whole (k ∷ ks) [] h = absurd h
all_whole (k ∷ ks) (x ∷ xs) h = rw (operand_whole k x h.0, all_whole ks xs h.1) refl
