-- The words for what is wrong with a line.
use Rattle.std.specs.Prelude.{ℕ, List, codes}
use Rattle.neph_command.specs.declared.why.Why.{Why}
use Rattle.neph_command.specs.declared.why.Why.TheVariants as why

abbrev pub kind_word : Why → List ℕ
kind_word why.Bytes = codes "bytes"
kind_word why.Word = codes "word"
kind_word why.Many = codes "many"
kind_word why.Form = codes "form"
kind_word why.Number = codes "number"
kind_word why.Hex = codes "hex"
kind_word why.Name = codes "name"
kind_word why.Program = codes "program"
kind_word why.Label = codes "label"
kind_word why.Frames = codes "frames"
kind_word why.Missing = codes "missing"
kind_word why.Unbuilt = codes "unbuilt"
