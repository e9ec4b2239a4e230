-- The bytes of a text.
use Rattle.std.specs.Prelude.{ℕ, Bool, ◌||◌, ◌==◌}
use Rattle.neph_script.specs.Grammar.{is_printed}

-- a printed character of ASCII, a space, or the end of a line
abbrev pub may_stand_in_lines : ℕ → Bool
may_stand_in_lines b = is_printed b || b == 10
