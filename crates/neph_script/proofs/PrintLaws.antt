-- What is printed is spelled, and read again.
use Rattle.std.proofs.Common.{◌≡◌, ℕ, List, Result, Ok, Err, sym, ap, subst, ◌∙◌}
use Rattle.std.specs.Prelude.{IfOk}
use Rattle.std.specs.Global.{Vec}
use Rattle.neph_base.specs.declared.memory.NoMemory.{NoMemory}
use Rattle.neph_model.specs.declared.script.Script.{Script}
use Rattle.neph_script.specs.Grammar.{read_script}
use Rattle.neph_script.specs.Spells.{Spells, IsLawful}
use Rattle.neph_script.specs.Text.{script_text}
use Rattle.neph_script.proofs.SpellsLaws.{again, spells_again}

pub if_spells : (s : Script) (r : Result (Vec ℕ) NoMemory) → IfOk r (λ text. text.items ≡ script_text s) → IfOk r (λ text. IsLawful s → Spells text.items s)
if_spells s (Ok text) e = λ h. subst (λ (bytes : List ℕ). Spells bytes s) (sym e) (spells_again s h)
if_spells s (Err x) e = tt

pub if_again : (s : Script) (r : Result (Vec ℕ) NoMemory) → IfOk r (λ text. text.items ≡ script_text s) → IfOk r (λ text. IsLawful s → read_script text.items ≡ Ok s)
if_again s (Ok text) e = λ h. ap read_script e ∙ again s h
if_again s (Err x) e = tt
