-- The words that a command is spelled with.
use Rattle.std.specs.Prelude.{ℕ, ◌+◌, ◌/◌, ◌%◌, nat_lt, if◌then◌else◌, List, [], ◌∷◌, codes, Option, None, Some, slice_get}
use Rattle.std.specs.List.{flat_map, join_with_byte}
use Rattle.std.specs.Fmt.{decimal}
use Rattle.neph_base.specs.declared.command.Command.{Command}
use Rattle.neph_base.specs.declared.command.Command.TheVariants.{W, R, Map, Unmap, Jump, JChild, JFail, Exit, Free, Clone, Ungrant, Gmap, Gunmap, Hr, Hw}
use Rattle.neph_base.specs.declared.command.Mode.{Mode}
use Rattle.neph_base.specs.declared.command.Mode.TheVariants.{Ro, Rw}
use Rattle.neph_model.specs.declared.script.Label.{Label}

-- a hexadecimal digit, of 0 to 9 and a to f
abbrev pub hex_digit : ℕ → ℕ
hex_digit n = if nat_lt n 10 then 48 + n else 87 + n

-- a byte as two hexadecimal digits
abbrev pub hex_byte : ℕ → List ℕ
hex_byte b = hex_digit (b / 16) ∷ hex_digit (b % 16) ∷ []

-- bytes, with two digits for each
abbrev pub hex : List ℕ → List ℕ
hex bytes = flat_map hex_byte bytes

abbrev pub mode_word : Mode → List ℕ
mode_word Ro = codes "ro"
mode_word Rw = codes "rw"

-- the name of a label that a program may have
abbrev pub name_of : Option Label → List ℕ
name_of None = []
name_of (Some l) = l.name

-- the name of the label at a place
abbrev pub label_name : List Label → ℕ → List ℕ
label_name labels place = name_of (slice_get labels place)

-- the words of a command of a program with these labels, numbers in decimal
abbrev pub command_words : List Label → Command → List (List ℕ)
command_words labels (W addr bytes) = codes "w" ∷ decimal addr ∷ hex bytes ∷ []
command_words labels (R addr len) = codes "r" ∷ decimal addr ∷ decimal len ∷ []
command_words labels (Map vpn pfn mode) =
    codes "map" ∷ decimal vpn ∷ decimal pfn ∷ mode_word mode ∷ []
command_words labels (Unmap vpn) = codes "unmap" ∷ decimal vpn ∷ []
command_words labels (Jump label) = codes "jump" ∷ label_name labels label ∷ []
command_words labels (JChild label) = codes "jchild" ∷ label_name labels label ∷ []
command_words labels (JFail label) = codes "jfail" ∷ label_name labels label ∷ []
command_words labels Exit = codes "exit" ∷ []
command_words labels Free = codes "free" ∷ []
command_words labels Clone = codes "clone" ∷ []
command_words labels (Ungrant r) = codes "ungrant" ∷ decimal r ∷ []
command_words labels (Gmap granter r) = codes "gmap" ∷ decimal granter ∷ decimal r ∷ []
command_words labels (Gunmap h) = codes "gunmap" ∷ decimal h ∷ []
command_words labels (Hr h offset len) =
    codes "hr" ∷ decimal h ∷ decimal offset ∷ decimal len ∷ []
command_words labels (Hw h offset bytes) =
    codes "hw" ∷ decimal h ∷ decimal offset ∷ hex bytes ∷ []

-- words with a space between each two
abbrev pub spaced : List (List ℕ) → List ℕ
spaced words = join_with_byte 32 words
