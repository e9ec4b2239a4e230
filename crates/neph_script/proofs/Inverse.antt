-- What a result says of the reader that gave it.
use Rattle.std.proofs.Common.{◌≡◌, Result, Ok}
use Rattle.neph_model.specs.declared.script.Script.{Script}
use Rattle.neph_script.specs.declared.why.BadScript.{BadScript}

pub same_read : (s t : Script) → ◌≡◌ {A = Result Script BadScript} (Ok s) (Ok t) → s ≡ t
same_read s t e = cc
