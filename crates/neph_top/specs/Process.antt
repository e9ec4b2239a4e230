-- What a process answers, by the words behind its program's name.
use Rattle.std.specs.Prelude.{◌≡◌, ◌≢◌, ◌⊎◌, ℕ, List, [], ◌∷◌, codes}
use Rattle.neph_top.specs.Call.{Seen, LacksMemory, AnswersRun, AnswersUsage}

-- there was no memory for the words: nothing was read, written or tallied
pub record LacksWords (c : Seen) (answer : ℕ) : Type 0 where
  pub status : answer ≡ 5
  pub unread : c.rest ≡ c.left
  pub untallied : c.tally_now ≡ c.tally_before
  pub nothing : LacksMemory c

-- The one word `run` runs the script that the source gives; other words are told the usage line,
-- unless there was no memory for them.
pub record AnswersWords (words : List (List ℕ)) (c : Seen) (answer : ℕ) : Type 0 where
  pub run : words ≡ codes "run" ∷ [] → AnswersRun c answer
  pub others : words ≢ codes "run" ∷ [] → AnswersUsage c answer ⊎ LacksWords c answer
