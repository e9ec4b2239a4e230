-- The first words of lines.
use Rattle.std.specs.Prelude.{ℕ, Bool, List, [], ◌∷◌, codes, Option}
use Rattle.std.specs.List.{list_any}
use Rattle.std.specs.Option.{option_map, option_or}
use Rattle.std.specs.Map.{lookup}
use Rattle.neph_command.specs.Verbs.{verb_of}
use Rattle.neph_command.specs.Words.{equals}
use Rattle.neph_script.specs.declared.form.Form.{Form}
use Rattle.neph_script.specs.declared.form.Form.TheVariants as form

-- the first words of the lines that aren't commands
abbrev pub others : List (List ℕ × Form)
others =
    (codes "nephele", form.Heading)
    ∷ (codes "frames", form.Frames)
    ∷ (codes "program", form.Program)
    ∷ (codes "label", form.Label)
    ∷ (codes "end", form.End)
    ∷ (codes "domain", form.Domain)
    ∷ (codes "turns", form.Turns)
    ∷ []

-- the form of lines that a word begins
abbrev pub form_of : List ℕ → Option Form
form_of word = option_or (option_map form.Command (verb_of word)) (lookup (equals word) others)

-- the first words of forms that aren't built yet
abbrev pub later : List (List ℕ)
later =
    codes "dir" ∷ codes "file"
    ∷ codes "kill" ∷ codes "dump" ∷ codes "wipe"
    ∷ codes "grant"
    ∷ codes "alloc" ∷ codes "bind" ∷ codes "send" ∷ codes "wait" ∷ codes "close"
    ∷ codes "sread" ∷ codes "swrite" ∷ codes "slist" ∷ codes "srm"
    ∷ codes "puts" ∷ codes "tx" ∷ codes "rx" ∷ codes "p9put" ∷ codes "p9get"
    ∷ []

-- a form that isn't built yet begins with this word
abbrev pub is_later : List ℕ → Bool
is_later word = list_any (equals word) later
