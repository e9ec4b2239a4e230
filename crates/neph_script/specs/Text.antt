-- The text of a script.
use Rattle.std.specs.Prelude.{ℕ, zero, suc, ◌+◌, ◌-◌, ◌/◌, List, [], ◌∷◌, ◌++◌, map, length, take, drop, codes}
use Rattle.std.specs.List.{flat_map}
use Rattle.std.specs.Fmt.{decimal}
use Rattle.neph_base.specs.declared.reply.Actor.{Actor}
use Rattle.neph_model.specs.declared.script.Script.{Script}
use Rattle.neph_model.specs.declared.script.Program.{Program}
use Rattle.neph_model.specs.declared.script.Label.{Label}
use Rattle.neph_model.specs.Words.{command_words, spaced}
use Rattle.neph_script.specs.Spelling.{start_words, turns_words}

abbrev pub heading_words : List (List ℕ)
heading_words = codes "nephele" ∷ codes "1" ∷ []

abbrev pub frames_words : ℕ → List (List ℕ)
frames_words n = codes "frames" ∷ decimal n ∷ []

abbrev pub program_head : List ℕ → List (List ℕ)
program_head name = codes "program" ∷ name ∷ []

abbrev pub label_words : Label → List (List ℕ)
label_words l = codes "label" ∷ l.name ∷ []

abbrev pub end_words : List (List ℕ)
end_words = codes "end" ∷ []

-- Commands from this number on and the labels among them, a label before the command whose number
-- it has. Each command has the words that f gives it.
abbrev pub body_words : {X : Type 0} → (X → List (List ℕ)) → ℕ → List X → List Label
    → List (List (List ℕ))
body_words f at xs [] = map f xs
body_words f at xs (l ∷ ls) = map f (take (l.at - at) xs) ++ label_words l
    ∷ body_words f (at + (l.at - at)) (drop (l.at - at) xs) ls

-- the lines of a program
abbrev pub program_words : Program → List (List (List ℕ))
program_words p = program_head p.name ∷ (body_words (command_words p.labels) 0 p.commands p.labels
    ++ end_words ∷ [])

-- this many groups of 64 actors, the last of which may be shorter
abbrev pub groups : ℕ → List Actor → List (List Actor)
groups zero actors = []
groups (suc k) actors = take 64 actors ∷ groups k (drop 64 actors)

-- actors in groups of 64
abbrev pub turn_groups : List Actor → List (List Actor)
turn_groups actors = groups ((length actors + 63) / 64) actors

-- the lines of a script, each as its words
abbrev pub script_words : Script → List (List (List ℕ))
script_words s =
    heading_words ∷ frames_words s.frames
    ∷ (flat_map program_words s.programs ++ map (start_words s.programs) s.starts
    ++ map turns_words (turn_groups s.turns))

-- a line of these words
abbrev pub line_text : List (List ℕ) → List ℕ
line_text words = spaced words ++ 10 ∷ []

abbrev pub lines_text : List (List (List ℕ)) → List ℕ
lines_text ls = flat_map line_text ls

abbrev pub script_text : Script → List ℕ
script_text s = lines_text (script_words s)
