-- What a function that may lack memory answers, by what it should answer.
use Rattle.std.specs.Prelude.{◌≡◌, ⊤, Result, Ok, Err}
use Rattle.neph_command.specs.declared.why.Why.{Why}
use Rattle.neph_model.specs.declared.script.Script.{Script}
use Rattle.neph_script.specs.declared.why.BadScript.{BadScript}
use Rattle.neph_script.specs.declared.why.ParseEnd.{ParseEnd}
use Rattle.neph_script.specs.declared.why.ParseEnd.TheVariants as parse_end
use Rattle.neph_script.specs.declared.why.LineEnd.{LineEnd}
use Rattle.neph_script.specs.declared.why.LineEnd.TheVariants as end

-- what should be answered can't stand for this reason, unless memory ran out
abbrev pub Fails : {A : Type 0} → LineEnd → Result A Why → Type 0
Fails (end.Bad why) wanted = wanted ≡ Err why
Fails end.NoMemory wanted = ⊤

-- this is answered that should be, unless memory ran out
abbrev pub Gives : {A : Type 0} → Result A LineEnd → Result A Why → Type 0
Gives (Ok x) wanted = wanted ≡ Ok x
Gives (Err e) wanted = Fails e wanted

-- the same of an answer that is seen by a view
abbrev pub Shows : {X A : Type 0} → (X → A) → Result X LineEnd → Result A Why → Type 0
Shows view (Ok x) wanted = wanted ≡ Ok (view x)
Shows view (Err e) wanted = Fails e wanted

-- the text is refused so, unless memory ran out
abbrev pub IsRefused : ParseEnd → Result Script BadScript → Type 0
IsRefused (parse_end.Bad bad) wanted = wanted ≡ Err bad
IsRefused parse_end.NoMemory wanted = ⊤

-- what should be read of a text is read, unless memory ran out
abbrev pub Reads : Result Script ParseEnd → Result Script BadScript → Type 0
Reads (Ok s) wanted = wanted ≡ Ok s
Reads (Err e) wanted = IsRefused e wanted

-- this holds of the line that can't stand, if there is one
abbrev pub IfBad : Result Script ParseEnd → (BadScript → Type 0) → Type 0
IfBad (Err (parse_end.Bad bad)) P = P bad
IfBad (Err parse_end.NoMemory) P = ⊤
IfBad (Ok s) P = ⊤
