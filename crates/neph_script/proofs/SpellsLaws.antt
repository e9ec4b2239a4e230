-- What is read is what is spelled.
use Rattle.std.proofs.Common.{◌≡◌, ℕ, ◌+◌, Bool, true, false, cond, List, [], ◌∷◌, ◌++◌, length, Result, Ok, Err, refl, sym, ap, subst, ◌∙◌, arith}
use Rattle.neph_model.specs.declared.script.Script.{Script}
use Rattle.neph_script.specs.declared.state.Item.{Item}
use Rattle.neph_command.specs.declared.why.Why.{Why}
use Rattle.neph_command.specs.declared.why.Why.TheVariants as why
use Rattle.neph_script.specs.declared.why.BadScript.{BadScript}
use Rattle.neph_script.specs.declared.why.ParseEnd.{ParseEnd}
use Rattle.std.specs.Prelude.{IfOk}
use Rattle.neph_script.specs.Outcomes.{Reads}
use Rattle.neph_script.specs.State.{Read, nothing_read, script_read}
use Rattle.neph_script.specs.Grammar.{words, lines, is_text, is_skipped, may_end, with_line, ended, read_on, read_lines, read_script}
use Rattle.neph_script.specs.Spells.{IsNext, Takes, Leads, Spells, CannotStand, IsFault}
use Rattle.neph_command.specs.Words.{◌>>=◌}
use Rattle.neph_script.specs.Lines.{taken}
use Rattle.neph_script.specs.Grammar.{with_words}
use Rattle.neph_script.specs.Spells.{IsLawful}
use Rattle.neph_script.specs.Text.{script_text}
use Rattle.neph_script.specs.Outcomes.{IfBad}
use Rattle.neph_script.specs.declared.why.ParseEnd.TheVariants as parse_end
use Rattle.neph_model.specs.WellFormed.{IsWellFormed}
use Rattle.neph_script.proofs.FormedLaws.{formed_read}
use Rattle.neph_script.proofs.Again.{printed_again}
use Rattle.neph_script.proofs.SaidLaws.{judged_again}
use Rattle.neph_script.proofs.Folded.{by_line, line_or_bad, ok_or_bad}

takes_line : (r : Read) (line : List ℕ) (next : Read) → with_line r line ≡ Ok next → Takes r line next
takes_line r line next e =
    by_line r line next (Takes r line next) e (λ t k same. record { text = t; says = subst (λ (b : Bool). IsNext b r line next) (sym k) same })
    (λ t k i taken. record { text = t; says = subst (λ (b : Bool). IsNext b r line next) (sym k) (i, taken.stands, taken.next_is) })

record Led (r : Read) (ls : List (List ℕ)) (s : Script) : Type 0 where
  last : Read
  led : Leads r ls last
  may : may_end last.place ≡ true
  is : script_read last ≡ s

leads_lines : (n : ℕ) (r : Read) (ls : List (List ℕ)) (s : Script) → read_lines n r ls ≡ Ok s → Led r ls s
leads_lines n r [] s e = let h = ok_or_bad (may_end r.place) r (record { line = n; why = why.Missing }) s e in record { last = r; led = refl; may = h.0; is = h.1 }
leads_lines n r (line ∷ more) s e =
    let one = line_or_bad n (with_line r line) (λ next. read_lines (n + 1) next more) s e in
    let rest = leads_lines (n + 1) one.0 more s one.2 in
    record { last = rest.last; led = (one.0, takes_line r line one.0 one.1, rest.led); may = rest.may; is = rest.is }

pub spelled : (bytes : List ℕ) (s : Script) → read_script bytes ≡ Ok s → Spells bytes s
unfolding read_script
spelled bytes s e = let l = leads_lines 1 nothing_read (lines bytes) s e in record { last = l.last; led = l.led; may = l.may; is = l.is }

-- a fault behind some lines
record FaultBehind (n : ℕ) (r : Read) (ls : List (List ℕ)) (bad : BadScript) : Type 0 where
  front : List (List ℕ)
  rest : List (List ℕ)
  at : Read
  all : ls ≡ front ++ rest
  number : bad.line ≡ n + length front
  led : Leads r front at
  fault : CannotStand at rest bad.why

missing : (n : ℕ) (r : Read) (bad : BadScript) (b : Bool) → may_end r.place ≡ b → ◌≡◌ {A = Result Script BadScript} (cond b (Ok (script_read r)) (Err (record { line = n; why = why.Missing }))) (Err bad) → FaultBehind n r [] bad
missing n r bad true is e = absurd cc
missing n r bad false is e =
    let same : ◌≡◌ {A = BadScript} (record { line = n; why = why.Missing }) bad = cc in
    let here : FaultBehind n r [] (record { line = n; why = why.Missing }) = record { front = []; rest = []; at = r; all = refl; number = omega arith; led = refl; fault = (is, refl) } in
    subst (FaultBehind n r []) same here

at_line : (n : ℕ) (r : Read) (line : List ℕ) (more : List (List ℕ)) (bad : BadScript) (o : Result Read Why) → with_line r line ≡ o → read_on n o (λ next. read_lines (n + 1) next more) ≡ Err bad
    → ((next : Read) → read_lines (n + 1) next more ≡ Err bad → FaultBehind (n + 1) next more bad) → FaultBehind n r (line ∷ more) bad
at_line n r line more bad (Err w) is e rest =
    let same : ◌≡◌ {A = BadScript} (record { line = n; why = w }) bad = cc in
    let here : FaultBehind n r (line ∷ more) (record { line = n; why = w }) = record { front = []; rest = line ∷ more; at = r; all = refl; number = omega arith; led = refl; fault = is } in
    subst (FaultBehind n r (line ∷ more)) same here
at_line n r line more bad (Ok next) is e rest =
    let f = rest next e in
    record {
      front = line ∷ f.front;
      rest = f.rest;
      at = f.at;
      all = ap (λ (xs : List (List ℕ)). line ∷ xs) f.all;
      number = omega (arith, f.number);
      led = (next, takes_line r line next is, f.led);
      fault = f.fault;
    }

fault_lines : (n : ℕ) (r : Read) (ls : List (List ℕ)) (bad : BadScript) → read_lines n r ls ≡ Err bad → FaultBehind n r ls bad
fault_lines n r [] bad e = missing n r bad (may_end r.place) refl e
fault_lines n r (line ∷ more) bad e = at_line n r line more bad (with_line r line) refl e (λ next h. fault_lines (n + 1) next more bad h)

pub first_fault : (bytes : List ℕ) (bad : BadScript) → read_script bytes ≡ Err bad → IsFault bytes bad
unfolding read_script
first_fault bytes bad e = let f = fault_lines 1 nothing_read (lines bytes) bad e in record { front = f.front; rest = f.rest; r = f.at; all = f.all; number = omega (arith, f.number); led = f.led; fault = f.fault }

tests : (a b : Bool) (x y : Result Read Why) → a ≡ true → cond a (cond b x y) (Err why.Bytes) ≡ cond b x y
tests a b x y e = rw e refl

line_again : (r : Read) (line : List ℕ) (next : Read) → Takes r line next → with_line r line ≡ Ok next
line_again r line next t = tests (is_text line) (is_skipped line) (Ok r) (with_words r (words line)) t.text ∙ by (is_skipped line) t.says where
  by : (b : Bool) → IsNext b r line next → cond b (Ok r) (with_words r (words line)) ≡ Ok next
  by true same = ap Ok same
  by false said = ap (λ (o : Result Item Why). o >>= λ i. Ok (taken r i)) (judged_again r (words line) said.0 said.1) ∙ ap Ok said.2

lines_led : (n : ℕ) (r : Read) (ls : List (List ℕ)) (last : Read) → Leads r ls last → may_end last.place ≡ true → read_lines n r ls ≡ Ok (script_read last)
lines_led n r [] last same may = ap (ended n) same ∙ ap (λ (b : Bool). cond {A = Result Script BadScript} b (Ok (script_read last)) (Err (record { line = n; why = why.Missing }))) may
lines_led n r (line ∷ more) last led may =
    ap (λ (o : Result Read Why). read_on n o (λ next. read_lines (n + 1) next more)) (line_again r line led.0 led.1) ∙ lines_led (n + 1) led.0 more last led.2 may

pub spelled_only : (bytes : List ℕ) (s : Script) → Spells bytes s → read_script bytes ≡ Ok s
unfolding read_script
spelled_only bytes s h = lines_led 1 nothing_read (lines bytes) h.last h.led h.may ∙ ap Ok h.is

pub if_spelled : (bytes : List ℕ) (r : Result Script ParseEnd) → Reads r (read_script bytes) → IfOk r (Spells bytes)
if_spelled bytes (Ok s) e = spelled bytes s e
if_spelled bytes (Err x) e = tt

pub if_formed : (bytes : List ℕ) (r : Result Script ParseEnd) → Reads r (read_script bytes) → IfOk r IsWellFormed
if_formed bytes (Ok s) e = formed_read bytes s e
if_formed bytes (Err x) e = tt

pub if_fault : (bytes : List ℕ) (r : Result Script ParseEnd) → Reads r (read_script bytes) → IfBad r (IsFault bytes)
if_fault bytes (Ok s) e = tt
if_fault bytes (Err (parse_end.Bad bad)) e = first_fault bytes bad e
if_fault bytes (Err parse_end.NoMemory) e = tt

pub only_spelled : (bytes : List ℕ) (r : Result Script ParseEnd) → Reads r (read_script bytes) → (s : Script) → Spells bytes s → Reads r (Ok s)
only_spelled bytes r e s h = subst (Reads r) (spelled_only bytes s h) e

-- the text of a script that some bytes spell is read as that script
pub again : (s : Script) → IsLawful s → read_script (script_text s) ≡ Ok s
again s h = printed_again h.0 s (spelled_only h.0 s h.1)

pub spells_again : (s : Script) → IsLawful s → Spells (script_text s) s
spells_again s h = spelled (script_text s) s (again s h)
