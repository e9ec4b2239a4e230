-- What the words behind a keyword say, by their kinds.
use Rattle.std.specs.Prelude.{◌≡◌, ◌⊎◌, ℕ, ◌<◌, ◌≤◌, true, ⊤, List, [], ◌∷◌, length, Option, None, Some, Result, Ok, Err, All}
use Rattle.std.specs.Fmt.{decimal}
use Rattle.neph_base.specs.declared.command.Mode.{Mode}
use Rattle.neph_model.specs.Words.{hex, mode_word}
use Rattle.neph_command.specs.Words.{◌>>=◌, number, piece, mode, name, is_name}
use Rattle.neph_command.specs.Kind.{Kind}
use Rattle.neph_command.specs.Kind.{Kind as kind}
use Rattle.neph_command.specs.declared.operand.Operand.{Operand}
use Rattle.neph_command.specs.declared.operand.Operand.TheVariants as op
use Rattle.neph_command.specs.declared.why.Why.{Why}

-- what was read, as this operand
abbrev pub as_operand : {A : Type 0} → (A → Operand) → Result A Why → Result Operand Why
as_operand to (Ok x) = Ok (to x)
as_operand to (Err w) = Err w

-- what a word of a kind says
abbrev pub operand : Kind → List ℕ → Result Operand Why
operand kind.addr word = as_operand op.Addr (number 0 1073741823 word)
operand kind.len word = as_operand op.Len (number 1 64 word)
operand kind.bytes word = as_operand op.Bytes (piece word)
operand kind.vpn word = as_operand op.Vpn (number 0 262143 word)
operand kind.pfn word = as_operand op.Pfn (number 0 1023 word)
operand kind.mode word = as_operand op.Mode (mode word)
operand kind.label word = as_operand op.Label (name word)
operand kind.dom word = as_operand op.Dom (number 0 63 word)
operand kind.reference word = as_operand op.Ref (number 0 63 word)
operand kind.handle word = as_operand op.Handle (number 0 63 word)
operand kind.offset word = as_operand op.Offset (number 0 4095 word)

-- what words say, judged from the left
abbrev pub operands : List Kind → List (List ℕ) → Result (List Operand) Why
operands (k ∷ kinds) (w ∷ words) = do
  x ← operand k w
  xs ← operands kinds words
  Ok (x ∷ xs)
operands _ _ = Ok []

-- the value of an operand of each sort
abbrev pub addr_in : Operand → Option ℕ
addr_in (op.Addr x) = Some x
addr_in _ = None

abbrev pub len_in : Operand → Option ℕ
len_in (op.Len x) = Some x
len_in _ = None

abbrev pub bytes_in : Operand → Option (List ℕ)
bytes_in (op.Bytes x) = Some x
bytes_in _ = None

abbrev pub vpn_in : Operand → Option ℕ
vpn_in (op.Vpn x) = Some x
vpn_in _ = None

abbrev pub pfn_in : Operand → Option ℕ
pfn_in (op.Pfn x) = Some x
pfn_in _ = None

abbrev pub mode_in : Operand → Option Mode
mode_in (op.Mode x) = Some x
mode_in _ = None

abbrev pub label_in : Operand → Option (List ℕ)
label_in (op.Label x) = Some x
label_in _ = None

abbrev pub dom_in : Operand → Option ℕ
dom_in (op.Dom x) = Some x
dom_in _ = None

abbrev pub ref_in : Operand → Option ℕ
ref_in (op.Ref x) = Some x
ref_in _ = None

abbrev pub handle_in : Operand → Option ℕ
handle_in (op.Handle x) = Some x
handle_in _ = None

abbrev pub offset_in : Operand → Option ℕ
offset_in (op.Offset x) = Some x
offset_in _ = None

-- the word of an operand
abbrev pub operand_word : Operand → List ℕ
operand_word (op.Addr n) = decimal n
operand_word (op.Len n) = decimal n
operand_word (op.Bytes bytes) = hex bytes
operand_word (op.Vpn n) = decimal n
operand_word (op.Pfn n) = decimal n
operand_word (op.Mode m) = mode_word m
operand_word (op.Label l) = l
operand_word (op.Dom n) = decimal n
operand_word (op.Ref n) = decimal n
operand_word (op.Handle n) = decimal n
operand_word (op.Offset n) = decimal n

-- 1 to 64 bytes
pub record IsPiece (bytes : List ℕ) : Type 0 where
  pub some : 0 < length bytes
  pub few : length bytes ≤ 64
  pub small : All (λ b. b < 256) bytes

-- an operand of this kind, in its range
abbrev pub Fits : Kind → Operand → Type 0
Fits kind.addr (op.Addr n) = n ≤ 1073741823
Fits kind.len (op.Len n) = (1 ≤ n) × (n ≤ 64)
Fits kind.bytes (op.Bytes bytes) = IsPiece bytes
Fits kind.vpn (op.Vpn n) = n ≤ 262143
Fits kind.pfn (op.Pfn n) = n ≤ 1023
Fits kind.mode (op.Mode m) = ⊤
Fits kind.label (op.Label l) = is_name l ≡ true
Fits kind.dom (op.Dom n) = n ≤ 63
Fits kind.reference (op.Ref n) = n ≤ 63
Fits kind.handle (op.Handle n) = n ≤ 63
Fits kind.offset (op.Offset n) = n ≤ 4095
Fits _ _ = ⊥

-- operands of these kinds, one each
abbrev pub FitAll : List Kind → List Operand → Type 0
FitAll [] [] = ⊤
FitAll (k ∷ kinds) (x ∷ xs) = Fits k x × FitAll kinds xs
FitAll _ _ = ⊥

-- a word of this kind says an operand
abbrev pub IsOperand : Kind → List ℕ → Type 0
IsOperand k word = (x : Operand) × (operand k word ≡ Ok x)

-- The first word that says nothing has this fault: each word before it says an operand.
abbrev pub FirstFault : List Kind → List (List ℕ) → Why → Type 0
FirstFault (k ∷ kinds) (x ∷ words) w =
    (operand k x ≡ Err w) ⊎ (IsOperand k x × FirstFault kinds words w)
FirstFault _ _ w = ⊥
