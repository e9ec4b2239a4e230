-- Lines that were read are those that spell what they say.
use Rattle.std.proofs.Common.{◌≡◌, ℕ, ◌+◌, ◌<◌, ◌≤◌, Bool, true, false, cond, List, [], ◌∷◌, ◌++◌, map, length, get_or, Option, Some, None, Ok, Err, All, refl, sym, ap, subst, ◌∙◌, arith}
use Rattle.std.specs.Prelude.{codes, nat_lt, slice_get}
use Rattle.std.specs.Map.{lookup}
use Rattle.std.specs.Option.{option_map, option_or}
use Rattle.std.specs.Fmt.{decimal}
use Rattle.std.proofs.lemmas.Bool.{ltb-false}
use Rattle.std.proofs.lemmas.List.Elements.{All-nil, All-cons}
use Rattle.neph_base.specs.declared.reply.Actor.{Actor}
use Rattle.neph_model.specs.declared.script.Program.{Program}
use Rattle.neph_model.specs.declared.script.Start.{Start}
use Rattle.neph_model.specs.WellFormed.{frames_of_starts}
use Rattle.neph_script.specs.declared.form.Form.{Form}
use Rattle.neph_script.specs.declared.form.Form.TheVariants as form
use Rattle.neph_command.specs.declared.verb.Verb.{Verb}
use Rattle.neph_script.specs.declared.state.Item.{Item}
use Rattle.neph_script.specs.declared.state.Item.TheVariants as item
use Rattle.neph_command.specs.declared.why.Why.TheVariants as why
use Rattle.neph_script.specs.Forms.{others, form_of}
use Rattle.neph_script.specs.Actors.{actor_named}
use Rattle.std.specs.Prelude.{if◌then◌else◌, ◌&&◌}
use Rattle.std.specs.Option.{ok_or}
use Rattle.std.specs.Prelude.{◌||◌, nat_le}
use Rattle.std.specs.Prelude.{fold}
use Rattle.std.proofs.lemmas.List.Quantifiers.{position-Some}
use Rattle.std.proofs.lemmas.Option.{slice_get-get_or}
use Rattle.neph_script.specs.State.{Read}
use Rattle.neph_command.specs.Words.{equals, number, name, is_name}
use Rattle.neph_command.specs.Verbs.{keyword, verb_of}
use Rattle.neph_command.specs.Commands.{command_said}
use Rattle.neph_script.specs.Lines.{may_stand, is_many, are_whole, word_count, item_of, judged, judged_as, new_name, unless_given, label_place, program_place, program_named, settled, actors, domain_line, started, fitting}
use Rattle.neph_script.specs.Spelling.{actor_word, IsActor, name_of_program, start_words, item_words, form_said, CanStart, CanBeSaid, Stands}
use Rattle.neph_command.proofs.Inverse.{bind_ok, some_from_ok, let_on, let_in, same_ok}
use Rattle.neph_command.proofs.WordLaws.{number_read, name_read}
use Rattle.neph_script.proofs.ActorLaws.{actor_read}
use Rattle.neph_command.proofs.Ranges.{equal_from}
use Rattle.neph_command.proofs.CommandLaws.{verb_found, command_says}

-- the first word of a form
abbrev pub form_word : Form → List ℕ
form_word form.Heading = codes "nephele"
form_word form.Frames = codes "frames"
form_word form.Program = codes "program"
form_word (form.Command v) = keyword v
form_word form.Label = codes "label"
form_word form.End = codes "end"
form_word form.Domain = codes "domain"
form_word form.Turns = codes "turns"

head_same : (x y : List ℕ) (xs ys : List (List ℕ)) → x ∷ xs ≡ y ∷ ys → x ≡ y
head_same x y xs ys e = cc

tail_same : (x y : List ℕ) (xs ys : List (List ℕ)) → x ∷ xs ≡ y ∷ ys → xs ≡ ys
tail_same x y xs ys e = cc

found_first : {X : Type 0} (f : X → List ℕ) (word first : List ℕ) (y x : X) (rest : Option X) (b : Bool) → f y ≡ first → equals word first ≡ b → cond b (Some y) rest ≡ Some x → (rest ≡ Some x → word ≡ f x) → word ≡ f x
found_first f word first y x rest true same is e more = let here : y ≡ x = cc in equal_from word first is ∙ sym same ∙ ap f here
found_first f word first y x rest false same is e more = more e

-- what a table of words has at a word
found_in : {X : Type 0} (f : X → List ℕ) (word : List ℕ) (table : List (List ℕ × X)) (x : X) → map (λ e. f e.1) table ≡ map (λ e. e.0) table → lookup (equals word) table ≡ Some x → word ≡ f x
found_in f word [] x same e = absurd cc
found_in f word (t ∷ ts) x same e = found_first f word t.0 t.1 x (lookup (equals word) ts) (equals word t.0) (head_same _ _ _ _ same) refl e (λ more. found_in f word ts x (tail_same _ _ _ _ same) more)

pub form_found : (word : List ℕ) (x : Form) → form_of word ≡ Some x → word ≡ form_word x
form_found word x e = by (verb_of word) refl e where
  by : (p : Option Verb) → verb_of word ≡ p → option_or (option_map form.Command p) (lookup (equals word) others) ≡ Some x → word ≡ form_word x
  by (Some v) is e = let same : form.Command v ≡ x = cc in verb_found word v is ∙ ap form_word same
  by None is e = found_in form_word word others x refl e

-- words of actors
pub record SpelledActors (words : List (List ℕ)) (more : List Actor) : Type 0 where
  pub is : words ≡ map actor_word more
  pub fits : All IsActor more
  pub count : length more ≡ length words

pub actors_read : (words : List (List ℕ)) (more : List Actor) → actors words ≡ Ok more → SpelledActors words more
actors_read [] more e = let here : SpelledActors [] [] = record { is = refl; fits = All-nil IsActor; count = refl } in subst (SpelledActors []) (same_ok [] more e) here
actors_read (w ∷ ws) more e =
    let one = bind_ok (actor_named w) _ more e in
    let two = bind_ok (actors ws) _ more one.rest in
    let a = actor_read w one.value one.first in
    let rest = actors_read ws two.value two.first in
    let here : SpelledActors (w ∷ ws) (one.value ∷ two.value) = record {
      is = ap (λ (x : List ℕ). x ∷ ws) a.is ∙ ap (λ (xs : List (List ℕ)). actor_word one.value ∷ xs) rest.is;
      fits = All-cons IsActor one.value two.value a.fits rest.fits;
      count = omega (arith, rest.count);
    } in
    subst (SpelledActors (w ∷ ws)) (same_ok (one.value ∷ two.value) more two.rest) here

-- a word is a name without a place
pub record IsNew (given : List ℕ → Option ℕ) (word n : List ℕ) : Type 0 where
  pub is : word ≡ n
  pub named : is_name n ≡ true
  pub new : given n ≡ None

given_none : (o : Option ℕ) (n m : List ℕ) → unless_given o n ≡ Ok m → (o ≡ None) × (n ≡ m)
given_none None n m e = (refl, same_ok n m e)
given_none (Some place) n m e = absurd cc

pub new_read : (given : List ℕ → Option ℕ) (word n : List ℕ) → new_name given word ≡ Ok n → IsNew given word n
new_read given word n e =
    let one = bind_ok (name word) (λ m. unless_given (given m) m) n e in
    let named = name_read word one.value one.first in
    let free = given_none (given one.value) one.value n one.rest in
    record { is = named.0 ∙ free.1; named = subst (λ (m : List ℕ). is_name m ≡ true) free.1 named.1; new = subst (λ (m : List ℕ). given m ≡ None) free.1 free.0 }

counted : (k : ℕ) (ws : List (List ℕ)) → ℕ
counted k ws = fold (λ (a : ℕ) (x : List ℕ). a + cond (nat_lt 0 (length x)) 1 0) k ws

one_word : (k : ℕ) (w : List ℕ) (ws : List (List ℕ)) (b : Bool) → nat_lt 0 (length w) ≡ b → (b && are_whole ws) ≡ true → (are_whole ws ≡ true → counted (k + cond b 1 0) ws ≡ k + cond b 1 0 + length ws)
    → counted (k + cond b 1 0) ws ≡ k + length (w ∷ ws)
one_word k w ws true is e more = omega (arith, more e)
one_word k w ws false is e more = absurd cc

count_all : (k : ℕ) (ws : List (List ℕ)) → are_whole ws ≡ true → counted k ws ≡ k + length ws
unfolding counted
count_all k [] e = omega arith
count_all k (w ∷ ws) e = one_word k w ws (nat_lt 0 (length w)) refl e (λ h. count_all (k + cond (nat_lt 0 (length w)) 1 0) ws h)

pub all_words : (ws : List (List ℕ)) → are_whole ws ≡ true → word_count ws ≡ length ws
unfolding counted
all_words ws e = count_all 0 ws e ∙ omega arith

-- a word is that of a program
pub record IsProgram (programs : List Program) (word : List ℕ) (p : ℕ) : Type 0 where
  pub is : word ≡ name_of_program (slice_get programs p)
  pub within : p < length programs
  pub named : is_name word ≡ true
  pub place : program_place programs word ≡ Some p

no_program : Program
no_program = record { name = []; commands = []; labels = [] }

pub program_read : (programs : List Program) (word : List ℕ) (p : ℕ) → program_named programs word ≡ Ok p → IsProgram programs word p
program_read programs word p e =
    let one = bind_ok (name word) (λ n. ok_or (program_place programs n) why.Program) p e in
    let named = name_read word one.value one.first in
    let at = some_from_ok (program_place programs one.value) why.Program p one.rest in
    let here : program_place programs word ≡ Some p = ap (program_place programs) named.0 ∙ at in
    let found = position-Some (λ (x : Program). equals word x.name) programs p no_program here in
    let name_is : word ≡ (get_or programs p no_program).name = equal_from word (get_or programs p no_program).name found.1 in
    record { is = name_is ∙ ap name_of_program (sym (slice_get-get_or programs p no_program found.0)); within = found.0; named = ap is_name named.0 ∙ named.1; place = here }

fitting_read : (r : Read) (t : Start) (i : Item) → fitting r t ≡ Ok i → (i ≡ item.Start t) × (frames_of_starts (r.starts ++ t ∷ []) ≤ r.frames)
fitting_read r t i e =
    let one = let_on (nat_lt r.frames (frames_of_starts (r.starts ++ t ∷ []))) why.Frames (Ok (item.Start t)) i e in
    (sym (same_ok (item.Start t) i one.1), ltb-false r.frames (frames_of_starts (r.starts ++ t ∷ [])) one.0)

-- a domain line says this
pub record SaysStart (r : Read) (words : List (List ℕ)) (i : Item) : Type 0 where
  pub start : Start
  pub is : item.Start start ≡ i
  pub spelled : codes "domain" ∷ words ≡ start_words r.programs start
  pub can : CanStart r start

four_words : (w a b c d x y z v : List ℕ) → a ≡ x → b ≡ y → c ≡ z → d ≡ v → w ∷ a ∷ b ∷ c ∷ d ∷ [] ≡ w ∷ x ∷ y ∷ z ∷ v ∷ []
four_words w a b c d x y z v p q r s = cc

pub started_read : (r : Read) (program pages limit net : List ℕ) (i : Item) → domain_line r program pages limit net ≡ Ok i → SaysStart r (program ∷ pages ∷ limit ∷ net ∷ []) i
started_read r program pages limit net i e =
    let open_one = let_on (equals net (codes "exclusive")) why.Unbuilt (started r program pages limit net) i e in
    let one = bind_ok (program_named r.programs program) _ i open_one.1 in
    let two = bind_ok (number 8 1024 pages) _ i one.rest in
    let three = bind_ok (number 0 62 limit) _ i two.rest in
    let p = program_read r.programs program one.value one.first in
    let n = number_read 8 1024 pages two.value two.first in
    let k = number_read 0 62 limit three.value three.first in
    let t : Start = record { program = one.value; pages = two.value; limit = three.value } in
    let end = let_in (equals net (codes "open")) why.Word (fitting r t) i three.rest in
    let fit = fitting_read r t i end.1 in
    record {
      start = t;
      is = sym fit.0;
      spelled = four_words _ program pages limit net _ _ _ _ p.is n.is k.is (equal_from net (codes "open") end.0);
      can = record { program = p.within; name = ap is_name (sym p.is) ∙ p.named; named = ap (program_place r.programs) (sym p.is) ∙ p.place; pages_low = n.low_is; pages_high = n.high_is; limit = k.high_is; frames = fit.1 };
    }

-- a line of a form says something
record Line (r : Read) (f : Form) (ws : List (List ℕ)) : Type 0 where
  may : may_stand f r.place ≡ true
  few : is_many r f ws ≡ false
  whole : are_whole ws ≡ true

said_so : (r : Read) (f : Form) (ws : List (List ℕ)) (i : Item) → Line r f ws → form_word f ∷ ws ≡ item_words r.programs i → form_said i ≡ f → CanBeSaid r i → Stands r (form_word f ∷ ws) i
said_so r f ws i l spelled same can =
    record {
      spelled = spelled;
      place = subst (λ (g : Form). may_stand g r.place ≡ true) (sym same) l.may;
      few = subst (λ (g : Form). is_many r g ws ≡ false) (sym same) l.few;
      said = can;
    }

second : (a b : Bool) → (a || b) ≡ false → b ≡ false
second true b e = absurd cc
second false b e = e

few_turns : (r : Read) (ws : List (List ℕ)) (more : List Actor) → Line r form.Turns ws → length more ≡ length ws → length more ≤ 64
few_turns r ws more l count = let few : word_count ws ≤ 64 = ltb-false 64 (word_count ws) (second (nat_le 64 r.turn_lines) (nat_lt 64 (word_count ws)) l.few) in omega (arith, few, all_words ws l.whole)

item_stands : (r : Read) (f : Form) (ws : List (List ℕ)) (i : Item) → Line r f ws → item_of r f ws ≡ Ok i → Stands r (form_word f ∷ ws) i
item_stands r form.Heading (version ∷ []) i l e =
    let one = bind_ok (number 1 1 version) _ i e in
    let n = number_read 1 1 version one.value one.first in
    let is_one : one.value ≡ 1 = omega (arith, n.low_is, n.high_is) in
    subst (Stands r (form_word form.Heading ∷ version ∷ [])) (same_ok item.Heading i one.rest) (said_so r form.Heading (version ∷ []) item.Heading l (ap (λ (w : List ℕ). codes "nephele" ∷ w ∷ []) (n.is ∙ ap decimal is_one)) refl tt)
item_stands r form.Frames (count ∷ []) i l e =
    let one = bind_ok (number 16 16384 count) _ i e in
    let n = number_read 16 16384 count one.value one.first in
    subst (Stands r (form_word form.Frames ∷ count ∷ [])) (same_ok (item.Frames one.value) i one.rest)
    (said_so r form.Frames (count ∷ []) (item.Frames one.value) l (ap (λ (w : List ℕ). codes "frames" ∷ w ∷ []) n.is) refl (n.low_is, n.high_is))
item_stands r form.Program (word ∷ []) i l e =
    let one = bind_ok (new_name (program_place r.programs) word) _ i e in
    let n = new_read (program_place r.programs) word one.value one.first in
    subst (Stands r (form_word form.Program ∷ word ∷ [])) (same_ok (item.Program one.value) i one.rest)
    (said_so r form.Program (word ∷ []) (item.Program one.value) l (ap (λ (w : List ℕ). codes "program" ∷ w ∷ []) n.is) refl (n.named, n.new))
item_stands r form.Label (word ∷ []) i l e =
    let one = bind_ok (new_name (label_place r.draft.labels) word) _ i e in
    let n = new_read (label_place r.draft.labels) word one.value one.first in
    subst (Stands r (form_word form.Label ∷ word ∷ [])) (same_ok (item.Label one.value) i one.rest)
    (said_so r form.Label (word ∷ []) (item.Label one.value) l (ap (λ (w : List ℕ). codes "label" ∷ w ∷ []) n.is) refl (n.named, n.new))
item_stands r form.End [] i l e =
    let one = bind_ok (settled r.draft.labels 0 r.draft.said) _ i e in
    subst (Stands r (form_word form.End ∷ [])) (same_ok (item.End one.value) i one.rest) (said_so r form.End [] (item.End one.value) l refl refl one.first)
item_stands r form.Domain (program ∷ pages ∷ limit ∷ net ∷ []) i l e =
    let s = started_read r program pages limit net i e in
    subst (Stands r (form_word form.Domain ∷ program ∷ pages ∷ limit ∷ net ∷ [])) s.is (said_so r form.Domain (program ∷ pages ∷ limit ∷ net ∷ []) (item.Start s.start) l s.spelled refl s.can)
item_stands r form.Turns (first ∷ more) i l e =
    let one = bind_ok (actors (first ∷ more)) _ i e in
    let a = actors_read (first ∷ more) one.value one.first in
    subst (Stands r (form_word form.Turns ∷ first ∷ more)) (same_ok (item.Turns one.value) i one.rest)
    (said_so r form.Turns (first ∷ more) (item.Turns one.value) l (ap (λ (ws : List (List ℕ)). codes "turns" ∷ ws) a.is) refl (omega (arith, a.count), few_turns r (first ∷ more) one.value l a.count, a.fits))
item_stands r (form.Command v) ws i l e =
    let one = bind_ok (command_said v ws) _ i e in
    let s = command_says v ws one.value one.first in
    subst (Stands r (form_word (form.Command v) ∷ ws)) (same_ok (item.Command one.value) i one.rest) (said_so r (form.Command v) ws (item.Command one.value) l s.spelled (ap form.Command s.verb_is) s.fits)
item_stands r _ _ i l e = absurd cc

pub judged_stands : (r : Read) (ws : List (List ℕ)) (i : Item) → judged r ws ≡ Ok i → Stands r ws i
judged_stands r [] i e = absurd cc
judged_stands r (first ∷ ws) i e = by (form_of first) refl e where
  by : (o : Option Form) → form_of first ≡ o → judged_as r first o ws ≡ Ok i → Stands r (first ∷ ws) i
  by None is e = absurd cc
  by (Some f) is e =
      let may = let_in (may_stand f r.place) why.Word (if is_many r f ws then Err why.Many else (if are_whole ws then item_of r f ws else Err why.Form)) i e in
      let few = let_on (is_many r f ws) why.Many (if are_whole ws then item_of r f ws else Err why.Form) i may.1 in
      let whole = let_in (are_whole ws) why.Form (item_of r f ws) i few.1 in
      let l : Line r f ws = record { may = may.0; few = few.0; whole = whole.0 } in
      subst (λ (w : List ℕ). Stands r (w ∷ ws) i) (sym (form_found first f is)) (item_stands r f ws i l whole.1)
