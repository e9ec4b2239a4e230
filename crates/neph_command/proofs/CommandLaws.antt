-- Lines of commands that were read are those that spell the commands, and are read so again.
use Rattle.std.proofs.Common.{◌≡◌, ℕ, ◌≤◌, Bool, true, false, cond, List, [], ◌∷◌, length, map, Option, Some, None, Result, Ok, Err, refl, sym, ap, subst, ◌∙◌, arith, eq-eqb, inl, inr}
use Rattle.std.specs.Prelude.{find, ◌==◌, nat_lt}
use Rattle.std.specs.Option.{ok_or}
use Rattle.std.proofs.lemmas.Bool.{ltb-false}
use Rattle.std.proofs.lemmas.Bool.Decides.{nat_tests}
use Rattle.neph_base.specs.declared.command.Command.{Command}
use Rattle.neph_base.specs.declared.command.Command.TheVariants as command
use Rattle.neph_model.specs.declared.script.Label.{Label}
use Rattle.neph_model.specs.Words.{command_words}
use Rattle.neph_command.specs.declared.operand.Operand.{Operand}
use Rattle.neph_command.specs.declared.operand.Operand.TheVariants as op
use Rattle.neph_command.specs.declared.command.Said.{Said}
use Rattle.neph_command.specs.declared.command.Said.TheVariants as said
use Rattle.neph_command.specs.declared.verb.Verb.{Verb}
use Rattle.neph_command.specs.declared.verb.Verb.TheVariants as verb
use Rattle.neph_command.specs.declared.why.Why.{Why}
use Rattle.neph_command.specs.declared.why.Why.TheVariants as why
use Rattle.neph_command.specs.Words.{◌>>=◌, equals}
use Rattle.neph_command.specs.Verbs.{verbs, keyword, kinds_of, verb_of, is_unbuilt}
use Rattle.neph_command.specs.Kinds.{operands, operand_word, FitAll}
use Rattle.neph_command.specs.Commands.{command_of, Parts, parts, parts_in, parts_of, words_of, said_words, verb_said, unless_within, extra_said, unless_wrong, checked, said_alone, command_said, InRange, IsWrong, FaultBy, CommandFault}
use Rattle.neph_command.proofs.Ranges.{equal_from}
use Rattle.neph_command.proofs.Inverse.{bind_ok, let_in, let_on, same_ok, some_from_ok}
use Rattle.neph_command.proofs.KindLaws.{have_kinds, kinds_fit, all_told, all_again, fit_length, first_fault}

pub one_table : (labels : List Label) (c : Command) → words_of (parts_in labels c) ≡ command_words labels c
one_table labels (command.W addr bytes) = refl
one_table labels _ = refl

pub verb_again : (v : Verb) → verb_of (keyword v) ≡ Some v
verb_again verb.W = refl
verb_again _ = refl

some_same : {A : Type 0} (x y : A) → Some x ≡ Some y → x ≡ y
some_same x y e = cc

found_is : {X : Type 0} (p : X → Bool) (xs : List X) (v : X) → find p xs ≡ Some v → p v ≡ true
found_is p [] v e = absurd cc
found_is {X = X} p (x ∷ xs) v e = at (p x) refl e (found_is p xs v) where
  at : (b : Bool) → p x ≡ b → cond b (Some x) (find p xs) ≡ Some v → (find p xs ≡ Some v → p v ≡ true) → p v ≡ true
  at true is e rest = subst (λ (y : X). p y ≡ true) (some_same x v e) is
  at false is e rest = rest e

pub verb_found : (word : List ℕ) (v : Verb) → verb_of word ≡ Some v → word ≡ keyword v
verb_found word v e = equal_from word (keyword v) (found_is (λ (u : Verb). equals word (keyword u)) verbs v e)

command_again : (s : Said) → InRange s → command_of (parts_of s).verb (parts_of s).operands ≡ Some s
command_again (said.Whole (command.Jump label)) h = absurd cc
command_again (said.Whole (command.JChild label)) h = absurd cc
command_again (said.Whole (command.JFail label)) h = absurd cc
command_again _ h = refl

-- operands of the verb's kinds make a command, and are its parts
record Made (v : Verb) (xs : List Operand) : Type 0 where
  said : Said
  is : command_of v xs ≡ Some said
  parts_are : parts_of said ≡ parts v xs

-- one row for each command
made : (v : Verb) (xs : List Operand) → have_kinds (kinds_of v) xs ≡ true → Made v xs
made verb.W (op.Addr a ∷ op.Bytes b ∷ []) e = record { said = said.Whole (command.W a b); is = refl; parts_are = refl }
made verb.R (op.Addr a ∷ op.Len b ∷ []) e = record { said = said.Whole (command.R a b); is = refl; parts_are = refl }
made verb.Map (op.Vpn a ∷ op.Pfn b ∷ op.Mode c ∷ []) e = record { said = said.Whole (command.Map a b c); is = refl; parts_are = refl }
made verb.Unmap (op.Vpn a ∷ []) e = record { said = said.Whole (command.Unmap a); is = refl; parts_are = refl }
made verb.Jump (op.Label a ∷ []) e = record { said = said.Jump a; is = refl; parts_are = refl }
made verb.JChild (op.Label a ∷ []) e = record { said = said.JChild a; is = refl; parts_are = refl }
made verb.JFail (op.Label a ∷ []) e = record { said = said.JFail a; is = refl; parts_are = refl }
made verb.Exit [] e = record { said = said.Whole command.Exit; is = refl; parts_are = refl }
made verb.Free [] e = record { said = said.Whole command.Free; is = refl; parts_are = refl }
made verb.Clone [] e = record { said = said.Whole command.Clone; is = refl; parts_are = refl }
made verb.Ungrant (op.Ref a ∷ []) e = record { said = said.Whole (command.Ungrant a); is = refl; parts_are = refl }
made verb.Gmap (op.Dom a ∷ op.Ref b ∷ []) e = record { said = said.Whole (command.Gmap a b); is = refl; parts_are = refl }
made verb.Gunmap (op.Handle a ∷ []) e = record { said = said.Whole (command.Gunmap a); is = refl; parts_are = refl }
made verb.Hr (op.Handle a ∷ op.Offset b ∷ op.Len c ∷ []) e = record { said = said.Whole (command.Hr a b c); is = refl; parts_are = refl }
made verb.Hw (op.Handle a ∷ op.Offset b ∷ op.Bytes c ∷ []) e = record { said = said.Whole (command.Hw a b c); is = refl; parts_are = refl }
made _ _ e = absurd cc

-- words that are read one by one, and then as two together
alone_then_extra : (v : Verb) (words : List (List ℕ)) → command_said v words ≡ cond (is_unbuilt v (length words)) (Err why.Unbuilt) (said_alone v words >>= λ s. unless_wrong (extra_said s) s)
alone_then_extra v words = ap (λ (o : Result Said Why). cond (is_unbuilt v (length words)) (Err why.Unbuilt) o) (at (length words == length (kinds_of v)) (operands (kinds_of v) words)) where
  at : (b : Bool) (r : Result (List Operand) Why) → cond b (r >>= λ xs. checked v xs) (Err why.Form) ≡ (cond b (r >>= λ xs. ok_or (command_of v xs) why.Form) (Err why.Form) >>= λ s. unless_wrong (extra_said s) s)
  at true (Ok xs) = refl
  at true (Err w) = refl
  at false r = refl

-- a command of words that are right alone and together
pub alone_right : (v : Verb) (words : List (List ℕ)) (s : Said) → is_unbuilt v (length words) ≡ false → said_alone v words ≡ Ok s → extra_said s ≡ None → command_said v words ≡ Ok s
alone_right v words s u a b = alone_then_extra v words ∙ rw (u, a, b) refl

-- and of words that are right alone and wrong together
pub alone_wrong : (v : Verb) (words : List (List ℕ)) (s : Said) (w : Why) → is_unbuilt v (length words) ≡ false → said_alone v words ≡ Ok s → extra_said s ≡ Some w → command_said v words ≡ Err w
alone_wrong v words s w u a b = alone_then_extra v words ∙ rw (u, a, b) refl

same_number : (a b : ℕ) → (a == b) ≡ true → a ≡ b
same_number a b e = grind (arith, nat_tests)

-- a line of this verb and these words behind it says this command
pub record Says (v : Verb) (words : List (List ℕ)) (s : Said) : Type 0 where
  pub spelled : keyword v ∷ words ≡ said_words s
  pub verb_is : verb_said s ≡ v
  pub fits : InRange s

right : (o : Option Why) (s t : Said) → unless_wrong o s ≡ Ok t → (o ≡ None) × (s ≡ t)
right None s t e = (refl, same_ok s t e)
right (Some w) s t e = absurd cc

pub command_says : (v : Verb) (words : List (List ℕ)) (s : Said) → command_said v words ≡ Ok s → Says v words s
command_says v words s e =
    let built = let_on (is_unbuilt v (length words)) why.Unbuilt _ s e in
    let whole = let_in (length words == length (kinds_of v)) why.Form (operands (kinds_of v) words >>= λ xs. checked v xs) s built.1 in
    let one = bind_ok (operands (kinds_of v) words) (λ xs. checked v xs) s whole.1 in
    let two = bind_ok (ok_or (command_of v one.value) why.Form) (λ t. unless_wrong (extra_said t) t) s one.rest in
    let t = all_told (kinds_of v) words one.value (same_number (length words) (length (kinds_of v)) whole.0) one.first in
    let m = made v one.value (kinds_fit (kinds_of v) one.value t.fits) in
    let end = right (extra_said two.value) two.value s two.rest in
    let same : m.said ≡ s = some_same m.said s (sym m.is ∙ some_from_ok (command_of v one.value) why.Form two.value two.first ∙ ap Some end.1) in
    let are : parts v one.value ≡ parts_of s = sym m.parts_are ∙ ap parts_of same in
    record {
      spelled = ap (λ (ws : List (List ℕ)). keyword v ∷ ws) t.is ∙ ap words_of are;
      verb_is = ap (λ (p : Parts). p.verb) (sym are);
      fits = record { fits = subst (λ (p : Parts). FitAll (kinds_of p.verb) p.operands) are t.fits; right = ap extra_said (sym end.1) ∙ end.0 };
    }

read_back : (v : Verb) (xs : List Operand) (words : List (List ℕ)) (s : Said) → is_unbuilt v (length words) ≡ false → length words ≡ length (kinds_of v) → operands (kinds_of v) words ≡ Ok xs → command_of v xs ≡ Some s → extra_said s ≡ None
    → command_said v words ≡ Ok s
read_back v xs words s u l a b d = rw (u, eq-eqb (length words) (length (kinds_of v)) l, a, b, d) refl

-- a command with its own number of words is built
built : (v : Verb) → is_unbuilt v (length (kinds_of v)) ≡ false
built verb.W = refl
built _ = refl

pub command_read : (s : Said) → InRange s → command_said (verb_said s) (map operand_word (parts_of s).operands) ≡ Ok s
command_read s h =
    let kinds = kinds_of (verb_said s) in
    let l = fit_length kinds (parts_of s).operands h.fits in
    read_back (verb_said s) (parts_of s).operands _ s (ap (is_unbuilt (verb_said s)) l ∙ built (verb_said s)) l (all_again kinds (parts_of s).operands h.fits) (command_again s h) h.right

-- why a line of a command is refused
pub command_fault : (v : Verb) (words : List (List ℕ)) (w : Why) → command_said v words ≡ Err w → CommandFault v words w
command_fault v words w e = at (is_unbuilt v (length words)) (length words == length (kinds_of v)) refl e where
  tested : (o : Option Why) (s : Said) → unless_wrong o s ≡ Err w → o ≡ Some w
  tested None s e = absurd cc
  tested (Some x) s e = cc

  last : (xs : List Operand) → length words ≡ length (kinds_of v) → operands (kinds_of v) words ≡ Ok xs → checked v xs ≡ Err w → IsWrong v words w
  last xs l is e =
      let t = all_told (kinds_of v) words xs l is in
      let m = made v xs (kinds_fit (kinds_of v) xs t.fits) in
      record {
        said = m.said;
        spelled = ap (λ (ws : List (List ℕ)). keyword v ∷ ws) t.is ∙ ap words_of (sym m.parts_are);
        wrong = tested (extra_said m.said) m.said (sym (ap (λ (o : Option Said). ok_or o why.Form >>= λ s. unless_wrong (extra_said s) s) m.is) ∙ e);
      }

  more : length words ≡ length (kinds_of v) → (r : Result (List Operand) Why) → operands (kinds_of v) words ≡ r → (r >>= λ xs. checked v xs) ≡ Err w → FaultBy false true v words w
  more l (Ok xs) is e = inr (last xs l is e)
  more l (Err x) is e = let same : x ≡ w = cc in inl (first_fault (kinds_of v) words w (is ∙ ap Err same))

  at : (u b : Bool) → (length words == length (kinds_of v)) ≡ b → cond u (Err why.Unbuilt) (cond b (operands (kinds_of v) words >>= λ xs. checked v xs) (Err why.Form)) ≡ Err w → FaultBy u b v words w
  at true b l e = cc
  at false true l e = more (same_number (length words) (length (kinds_of v)) l) (operands (kinds_of v) words) refl e
  at false false l e = cc

-- what the rule over two operands says
pub within : (end : ℕ) (w : Why) → unless_within end w ≡ None → end ≤ 4096
within end w e = by (nat_lt 4096 end) refl e where
  by : (b : Bool) → nat_lt 4096 end ≡ b → cond b (Some w) None ≡ None → end ≤ 4096
  by true is e = absurd cc
  by false is e = ltb-false 4096 end is
