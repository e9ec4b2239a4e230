-- Lines that spell what may be said are read so.
use Rattle.std.proofs.Common.{◌≡◌, ℕ, Bool, true, false, cond, List, [], ◌∷◌, ◌++◌, length, map, drop, Option, None, Result, Ok, Err, All, refl, ap, subst, ◌∙◌, arith}
use Rattle.std.specs.Prelude.{nat_lt, slice_get}
use Rattle.std.specs.Map.{lookup}
use Rattle.std.specs.Option.{option_map, option_or}
use Rattle.std.specs.Fmt.{decimal}
use Rattle.std.proofs.lemmas.Bool.{le-ltb}
use Rattle.neph_base.specs.declared.reply.Actor.{Actor}
use Rattle.neph_model.specs.declared.script.Start.{Start}
use Rattle.neph_model.specs.WellFormed.{frames_of_starts}
use Rattle.neph_command.specs.declared.command.Said.{Said}
use Rattle.neph_command.specs.declared.verb.Verb.{Verb}
use Rattle.neph_command.specs.declared.why.Why.{Why}
use Rattle.neph_command.specs.declared.why.Why.TheVariants as why
use Rattle.neph_command.specs.Words.{◌>>=◌, equals, is_name}
use Rattle.neph_command.specs.Verbs.{keyword, kinds_of}
use Rattle.neph_command.specs.Commands.{parts_of, said_words, verb_said}
use Rattle.neph_command.proofs.WordLaws.{number_again, name_again}
use Rattle.neph_command.proofs.WholeLaws.{name_whole, number_whole, all_whole}
use Rattle.neph_command.proofs.CommandLaws.{verb_again, command_read}
use Rattle.neph_script.specs.declared.form.Form.{Form}
use Rattle.neph_script.specs.declared.form.Form.TheVariants as form
use Rattle.neph_script.specs.declared.state.Item.{Item}
use Rattle.neph_script.specs.declared.state.Item.TheVariants as item
use Rattle.neph_script.specs.State.{Read}
use Rattle.neph_script.specs.Forms.{others}
use Rattle.neph_script.specs.Lines.{may_stand, is_many, are_whole, item_of, judged, judged_as, judged_form, new_name, label_place, program_place, program_named, fitting}
use Rattle.neph_script.specs.Spelling.{Stands, CanStart, item_words, start_words, name_of_program, turns_words, actor_word, IsActor}
use Rattle.neph_script.proofs.Turned.{actors_again, whole_words}

-- a line of a form says what its reader gives
form_again : (r : Read) (f : Form) (ws : List (List ℕ)) (i : Item) → may_stand f r.place ≡ true → is_many r f ws ≡ false → are_whole ws ≡ true → item_of r f ws ≡ Ok i → judged_form r f ws ≡ Ok i
form_again r f ws i may few whole e = pick (may_stand f r.place) (is_many r f ws) (are_whole ws) (item_of r f ws) may few whole ∙ e where
  pick : (m a c : Bool) (x : Result Item Why) → m ≡ true → a ≡ false → c ≡ true → cond m (cond a (Err why.Many) (cond c x (Err why.Form))) (Err why.Word) ≡ x
  pick m a c x p q h = rw (p, q, h) refl

one_whole : (a : List ℕ) → nat_lt 0 (length a) ≡ true → are_whole (a ∷ []) ≡ true
one_whole a p = rw p refl

-- the words of a command begin with its keyword
command_first : (r : Read) (s : Said) → judged r (said_words s) ≡ judged_form r (form.Command (verb_said s)) (drop 1 (said_words s))
command_first r s =
    ap (λ (o : Option Verb). judged_as r (keyword (verb_said s)) (option_or (option_map form.Command o) (lookup (equals (keyword (verb_said s))) others)) (drop 1 (said_words s))) (verb_again (verb_said s))

new_again : (given : List ℕ → Option ℕ) (n : List ℕ) → is_name n ≡ true → given n ≡ None → new_name given n ≡ Ok n
new_again given n e none = rw (name_again n e, none) refl

named_again : (r : Read) (t : Start) → CanStart r t → program_named r.programs (name_of_program (slice_get r.programs t.program)) ≡ Ok t.program
named_again r t c = rw (name_again (name_of_program (slice_get r.programs t.program)) c.name, c.named) refl

fitting_again : (r : Read) (t : Start) → CanStart r t → fitting r t ≡ Ok (item.Start t)
fitting_again r t c = rw (le-ltb r.frames (frames_of_starts (r.starts ++ t ∷ [])) c.frames) refl

start_again : (r : Read) (t : Start) → CanStart r t → item_of r form.Domain (drop 1 (start_words r.programs t)) ≡ Ok (item.Start t)
start_again r t c = rw (named_again r t c, number_again 8 1024 t.pages c.pages_low c.pages_high (omega arith), number_again 0 62 t.limit (omega arith) c.limit (omega arith)) (fitting_again r t c)

start_whole : (r : Read) (t : Start) → CanStart r t → are_whole (drop 1 (start_words r.programs t)) ≡ true
start_whole r t c = rw (name_whole (name_of_program (slice_get r.programs t.program)) c.name, number_whole t.pages (omega (arith, c.pages_high)), number_whole t.limit (omega (arith, c.limit))) refl

-- the few of a line's words behind its first
few_here : (r : Read) (f : Form) (ws vs : List (List ℕ)) → is_many r f (drop 1 ws) ≡ false → ws ≡ vs → is_many r f (drop 1 vs) ≡ false
few_here r f ws vs e same = subst (λ (xs : List (List ℕ)). is_many r f (drop 1 xs) ≡ false) same e

turns_item : (r : Read) (a : Actor) (more : List Actor) → All IsActor (a ∷ more) → item_of r form.Turns (map actor_word (a ∷ more)) ≡ Ok (item.Turns (a ∷ more))
turns_item r a more h = ap (λ (o : Result (List Actor) Why). o >>= λ xs. Ok (item.Turns xs)) (actors_again (a ∷ more) h)

turns_again : (r : Read) (ws : List (List ℕ)) (more : List Actor) → Stands r ws (item.Turns more) → judged r (turns_words more) ≡ Ok (item.Turns more)
turns_again r ws [] s = absurd (omega (arith, s.said.0))
turns_again r ws (a ∷ more) s =
    form_again r form.Turns (map actor_word (a ∷ more)) (item.Turns (a ∷ more)) s.place (few_here r form.Turns ws _ s.few s.spelled) (whole_words (a ∷ more) s.said.2) (turns_item r a more s.said.2)

item_again : (r : Read) (ws : List (List ℕ)) (i : Item) → Stands r ws i → judged r (item_words r.programs i) ≡ Ok i
item_again r ws item.Heading s = form_again r form.Heading (decimal 1 ∷ []) item.Heading s.place refl (one_whole (decimal 1) (number_whole 1 (omega arith))) (rw (number_again 1 1 1 (omega arith) (omega arith) (omega arith)) refl)
item_again r ws (item.Frames n) s =
    form_again r form.Frames (decimal n ∷ []) (item.Frames n) s.place refl (one_whole (decimal n) (number_whole n (omega (arith, s.said.1)))) (rw (number_again 16 16384 n s.said.0 s.said.1 (omega arith)) refl)
item_again r ws (item.Program n) s =
    form_again r form.Program (n ∷ []) (item.Program n) s.place (few_here r form.Program ws _ s.few s.spelled) (one_whole n (name_whole n s.said.0)) (rw (new_again (program_place r.programs) n s.said.0 s.said.1) refl)
item_again r ws (item.Command c) s =
    command_first r c
    ∙ form_again r (form.Command (verb_said c)) (drop 1 (said_words c)) (item.Command c) s.place (few_here r (form.Command (verb_said c)) ws _ s.few s.spelled) (all_whole (kinds_of (verb_said c)) (parts_of c).operands s.said.fits)
    (rw (command_read c s.said) refl)
item_again r ws (item.Label n) s =
    form_again r form.Label (n ∷ []) (item.Label n) s.place (few_here r form.Label ws _ s.few s.spelled) (one_whole n (name_whole n s.said.0)) (rw (new_again (label_place r.draft.labels) n s.said.0 s.said.1) refl)
item_again r ws (item.End cs) s = form_again r form.End [] (item.End cs) s.place refl refl (rw s.said refl)
item_again r ws (item.Start t) s =
    form_again r form.Domain (drop 1 (start_words r.programs t)) (item.Start t) s.place (few_here r form.Domain ws _ s.few s.spelled) (start_whole r t s.said) (start_again r t s.said)
item_again r ws (item.Turns more) s = turns_again r ws more s

pub judged_again : (r : Read) (ws : List (List ℕ)) (i : Item) → Stands r ws i → judged r ws ≡ Ok i
judged_again r ws i s = ap (judged r) s.spelled ∙ item_again r ws i s
