-- What a line of a command says, and the words of a command.
use Rattle.std.specs.Prelude.{◌≡◌, ◌⊎◌, ℕ, ◌+◌, ◌%◌, nat_lt, ◌==◌, Bool, true, false, if◌then◌else◌, List, [], ◌∷◌, length, map, Option, None, Some, Result, Ok, Err}
use Rattle.std.specs.Option.{ok_or}
use Rattle.neph_base.specs.declared.command.Command.{Command}
use Rattle.neph_base.specs.declared.command.Command.TheVariants as command
use Rattle.neph_model.specs.declared.script.Label.{Label}
use Rattle.neph_model.specs.Words.{label_name}
use Rattle.neph_command.specs.Words.{◌>>=◌}
use Rattle.neph_command.specs.Verbs.{keyword, kinds_of, is_unbuilt}
use Rattle.neph_command.specs.Kinds.{operands, operand_word, FitAll, FirstFault, addr_in, len_in, bytes_in, vpn_in, pfn_in, mode_in, label_in, dom_in, ref_in, handle_in, offset_in}
use Rattle.neph_command.specs.declared.command.Said.{Said}
use Rattle.neph_command.specs.declared.command.Said.TheVariants as said
use Rattle.neph_command.specs.declared.operand.Operand.{Operand}
use Rattle.neph_command.specs.declared.operand.Operand.TheVariants as op
use Rattle.neph_command.specs.declared.verb.Verb.{Verb}
use Rattle.neph_command.specs.declared.verb.Verb.TheVariants as verb
use Rattle.neph_command.specs.declared.why.Why.{Why}
use Rattle.neph_command.specs.declared.why.Why.TheVariants as why

-- a value, and then more
infixl 10 ◌>>-◌
abbrev ◌>>-◌ : {A B : Type 0} → Option A → (A → Option B) → Option B
(Some x) >>- f = f x
None >>- f = None

-- the command of a verb with these operands
abbrev pub command_of : Verb → List Operand → Option Said
command_of verb.W (a ∷ b ∷ []) =
    addr_in a >>- λ addr. bytes_in b >>- λ bytes. Some (said.Whole (command.W addr bytes))
command_of verb.R (a ∷ b ∷ []) =
    addr_in a >>- λ addr. len_in b >>- λ len. Some (said.Whole (command.R addr len))
command_of verb.Map (a ∷ b ∷ c ∷ []) =
    vpn_in a >>- λ vpn. pfn_in b >>- λ pfn. mode_in c >>- λ mode.
    Some (said.Whole (command.Map vpn pfn mode))
command_of verb.Unmap (a ∷ []) = vpn_in a >>- λ vpn. Some (said.Whole (command.Unmap vpn))
command_of verb.Jump (a ∷ []) = label_in a >>- λ label. Some (said.Jump label)
command_of verb.JChild (a ∷ []) = label_in a >>- λ label. Some (said.JChild label)
command_of verb.JFail (a ∷ []) = label_in a >>- λ label. Some (said.JFail label)
command_of verb.Exit [] = Some (said.Whole command.Exit)
command_of verb.Free [] = Some (said.Whole command.Free)
command_of verb.Clone [] = Some (said.Whole command.Clone)
command_of verb.Ungrant (a ∷ []) = ref_in a >>- λ r. Some (said.Whole (command.Ungrant r))
command_of verb.Gmap (a ∷ b ∷ []) =
    dom_in a >>- λ granter. ref_in b >>- λ r. Some (said.Whole (command.Gmap granter r))
command_of verb.Gunmap (a ∷ []) = handle_in a >>- λ h. Some (said.Whole (command.Gunmap h))
command_of verb.Hr (a ∷ b ∷ c ∷ []) =
    handle_in a >>- λ h. offset_in b >>- λ offset. len_in c >>- λ len.
    Some (said.Whole (command.Hr h offset len))
command_of verb.Hw (a ∷ b ∷ c ∷ []) =
    handle_in a >>- λ h. offset_in b >>- λ offset. bytes_in c >>- λ bytes.
    Some (said.Whole (command.Hw h offset bytes))
command_of _ _ = None

-- a verb and its operands
pub record Parts : Type 0 where
  pub verb : Verb
  pub operands : List Operand

abbrev pub parts : Verb → List Operand → Parts
parts v xs = record { verb = v; operands = xs }

-- the parts of a command of a program with these labels
abbrev pub parts_in : List Label → Command → Parts
parts_in labels (command.W addr bytes) = parts verb.W (op.Addr addr ∷ op.Bytes bytes ∷ [])
parts_in labels (command.R addr len) = parts verb.R (op.Addr addr ∷ op.Len len ∷ [])
parts_in labels (command.Map vpn pfn mode) =
    parts verb.Map (op.Vpn vpn ∷ op.Pfn pfn ∷ op.Mode mode ∷ [])
parts_in labels (command.Unmap vpn) = parts verb.Unmap (op.Vpn vpn ∷ [])
parts_in labels (command.Jump label) = parts verb.Jump (op.Label (label_name labels label) ∷ [])
parts_in labels (command.JChild label) = parts verb.JChild (op.Label (label_name labels label) ∷ [])
parts_in labels (command.JFail label) = parts verb.JFail (op.Label (label_name labels label) ∷ [])
parts_in labels command.Exit = parts verb.Exit []
parts_in labels command.Free = parts verb.Free []
parts_in labels command.Clone = parts verb.Clone []
parts_in labels (command.Ungrant r) = parts verb.Ungrant (op.Ref r ∷ [])
parts_in labels (command.Gmap granter r) = parts verb.Gmap (op.Dom granter ∷ op.Ref r ∷ [])
parts_in labels (command.Gunmap h) = parts verb.Gunmap (op.Handle h ∷ [])
parts_in labels (command.Hr h offset len) =
    parts verb.Hr (op.Handle h ∷ op.Offset offset ∷ op.Len len ∷ [])
parts_in labels (command.Hw h offset bytes) =
    parts verb.Hw (op.Handle h ∷ op.Offset offset ∷ op.Bytes bytes ∷ [])

-- the parts of a command as its line says it
abbrev pub parts_of : Said → Parts
parts_of (said.Whole c) = parts_in [] c
parts_of (said.Jump label) = parts verb.Jump (op.Label label ∷ [])
parts_of (said.JChild label) = parts verb.JChild (op.Label label ∷ [])
parts_of (said.JFail label) = parts verb.JFail (op.Label label ∷ [])

abbrev pub words_of : Parts → List (List ℕ)
words_of p = keyword p.verb ∷ map operand_word p.operands

abbrev pub verb_said : Said → Verb
verb_said s = (parts_of s).verb

-- the words of a command as its line says it
abbrev pub said_words : Said → List (List ℕ)
said_words s = words_of (parts_of s)

-- What the words behind a keyword say, each judged alone.
abbrev pub said_alone : Verb → List (List ℕ) → Result Said Why
said_alone v words = if length words == length (kinds_of v)
    then (operands (kinds_of v) words >>= λ xs. ok_or (command_of v xs) why.Form) else Err why.Form

-- bytes that would end there in their page, and mustn't cross its end
abbrev pub unless_within : ℕ → Why → Option Why
unless_within end w = if nat_lt 4096 end then Some w else None

-- What is wrong with two operands together, each of which is right: bytes cross their page's end.
abbrev pub extra : Command → Option Why
extra (command.W addr bytes) = unless_within (addr % 4096 + length bytes) why.Hex
extra (command.R addr len) = unless_within (addr % 4096 + len) why.Number
extra (command.Hr h offset len) = unless_within (offset + len) why.Number
extra (command.Hw h offset bytes) = unless_within (offset + length bytes) why.Hex
extra _ = None

abbrev pub extra_said : Said → Option Why
extra_said (said.Whole c) = extra c
extra_said _ = None

abbrev pub unless_wrong : Option Why → Said → Result Said Why
unless_wrong None s = Ok s
unless_wrong (Some w) s = Err w

-- a command of these operands, unless two of them are wrong together
abbrev pub checked : Verb → List Operand → Result Said Why
checked v xs = do
  s ← ok_or (command_of v xs) why.Form
  unless_wrong (extra_said s) s

-- The command of a line with these words behind the keyword.
abbrev pub command_said : Verb → List (List ℕ) → Result Said Why
command_said v words = if is_unbuilt v (length words) then Err why.Unbuilt
    else (if length words == length (kinds_of v)
    then (operands (kinds_of v) words >>= λ xs. checked v xs) else Err why.Form)

-- A command whose operands are in their ranges, alone and together. A jump is said by its label's
-- name, never by its place.
pub record InRange (s : Said) : Type 0 where
  pub fits : FitAll (kinds_of (parts_of s).verb) (parts_of s).operands
  pub right : extra_said s ≡ None

-- each word says an operand, and two of them are wrong together
pub record IsWrong (v : Verb) (words : List (List ℕ)) (w : Why) : Type 0 where
  pub said : Said
  pub spelled : keyword v ∷ words ≡ said_words said
  pub wrong : extra_said said ≡ Some w

-- a fault by whether the command isn't built, and whether it has its number of words
abbrev pub FaultBy : Bool → Bool → Verb → List (List ℕ) → Why → Type 0
FaultBy true counted v words w = w ≡ why.Unbuilt
FaultBy false false v words w = w ≡ why.Form
FaultBy false true v words w = FirstFault (kinds_of v) words w ⊎ IsWrong v words w

-- Why a line of a command is refused: it isn't built yet, else for its number of words, else for
-- its first word that says nothing, else for two operands that are wrong together.
abbrev pub CommandFault : Verb → List (List ℕ) → Why → Type 0
CommandFault v words w =
    FaultBy (is_unbuilt v (length words)) (length words == length (kinds_of v)) v words w
