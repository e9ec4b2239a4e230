-- Lines of printed text, and their words.
use Rattle.std.proofs.Common.{◌≡◌, ◌≢◌, ℕ, ◌+◌, ◌*◌, ◌≤◌, ◌==◌, Bool, true, false, cond, List, [], ◌∷◌, ◌++◌, length, map, Result, Ok, Err, All, refl, ap, ◌∙◌, arith, append_assoc}
use Rattle.std.specs.Prelude.{codes, nat_le, ◌&&◌}
use Rattle.std.specs.List.{list_all}
use Rattle.std.proofs.lemmas.Bool.{le-leb}
use Rattle.std.proofs.lemmas.Bool.Decides.{nat_tests}
use Rattle.std.proofs.lemmas.List.{length-append, length-map}
use Rattle.std.proofs.lemmas.List.Folds.{list_all-append}
use Rattle.std.proofs.lemmas.List.Elements.{All-nil, All-cons, All-head, All-tail}
use Rattle.std.proofs.lemmas.List.Splits.{slice_split_none, slice_split_at, join_with_byte-slice_split}
use Rattle.neph_base.specs.declared.reply.Actor.{Actor}
use Rattle.neph_model.specs.declared.script.Script.{Script}
use Rattle.neph_model.specs.Words.{spaced}
use Rattle.neph_script.specs.State.{Read, script_read}
use Rattle.neph_command.specs.declared.why.Why.{Why}
use Rattle.neph_command.specs.declared.why.Why.TheVariants as why
use Rattle.neph_script.specs.declared.why.BadScript.{BadScript}
use Rattle.neph_script.specs.Spelling.{actor_word, turns_words, IsActor}
use Rattle.neph_script.specs.Text.{lines_text}
use Rattle.neph_script.specs.Grammar.{words, lines, is_text, is_printed, is_skipped, with_line, with_words, may_end, ended, read_on, read_lines}
use Rattle.neph_command.proofs.Inverse.{bind_ok, same_ok}
use Rattle.neph_script.proofs.Cuts.{line_more}
use Rattle.neph_script.proofs.Printed.{spaced_actors, joined}
use Rattle.neph_script.proofs.Turned.{run, is_visible, IsShort, short_actor, IsGroup}

-- words that are a line which isn't skipped
pub record Good (ws : List (List ℕ)) : Type 0 where
  pub text : is_text (spaced ws) ≡ true
  pub kept : is_skipped (spaced ws) ≡ false
  pub cut : words (spaced ws) ≡ ws

pub good_line : (line : List ℕ) → is_text line ≡ true → is_skipped line ≡ false → Good (words line)
good_line line text kept =
    let same : spaced (words line) ≡ line = join_with_byte-slice_split 32 line in
    record { text = ap is_text same ∙ text; kept = ap is_skipped same ∙ kept; cut = ap words same }

second_true : (a b : Bool) → (a && b) ≡ true → b ≡ true
second_true true b e = e
second_true false b e = absurd cc

pub first_true : (a b : Bool) → (a && b) ≡ true → a ≡ true
first_true true b e = refl
first_true false b e = absurd cc

no_feed_one : (b : ℕ) → is_printed b ≡ true → (b == 10) ≡ false
no_feed_one b e = grind (arith, nat_tests)

no_feed : (line : List ℕ) → list_all is_printed line ≡ true → All (λ b. (b == 10) ≡ false) line
no_feed [] e = All-nil (λ b. (b == 10) ≡ false)
no_feed (b ∷ bs) e = All-cons (λ x. (x == 10) ≡ false) b bs (no_feed_one b (first_true (is_printed b) (list_all is_printed bs) e)) (no_feed bs (second_true (is_printed b) (list_all is_printed bs) e))

-- the lines of a text that begins with a line of text
one_line : (line rest : List ℕ) → is_text line ≡ true → lines ((line ++ 10 ∷ []) ++ rest) ≡ line ∷ lines rest
one_line line rest text =
    let printed = second_true (nat_le (length line) 8192) (list_all is_printed line) text in
    ap lines (append_assoc line (10 ∷ []) rest) ∙ line_more (line ++ 10 ∷ rest) line rest (slice_split_at (λ b. b == 10) line 10 rest (no_feed line printed) refl)

pub lines_again : (ls : List (List (List ℕ))) → All Good ls → lines (lines_text ls) ≡ map spaced ls
lines_again [] h = refl
lines_again (ws ∷ ls) h = one_line (spaced ws) (lines_text ls) (All-head Good ws ls h).text ∙ ap (λ (xs : List (List ℕ)). spaced ws ∷ xs) (lines_again ls (All-tail Good ws ls h))

good_with : (r : Read) (ws : List (List ℕ)) → Good ws → with_line r (spaced ws) ≡ with_words r ws
good_with r ws g = by_tests (is_text (spaced ws)) (is_skipped (spaced ws)) (Ok r) (with_words r (words (spaced ws))) g.text g.kept ∙ ap (with_words r) g.cut where
  by_tests : (a b : Bool) (x y : Result Read Why) → a ≡ true → b ≡ false → cond a (cond b x y) (Err why.Bytes) ≡ y
  by_tests a b x y e f = rw (e, f) refl

pub read_again : (n : ℕ) (r last : Read) (ls : List (List (List ℕ))) → All Good ls → run r ls ≡ Ok last → may_end last.place ≡ true → read_lines n r (map spaced ls) ≡ Ok (script_read last)
read_again n r last [] h e may =
    ap (ended n) (same_ok r last e) ∙ ap (λ (b : Bool). cond {A = Result Script BadScript} b (Ok (script_read last)) (Err (record { line = n; why = why.Missing }))) may
read_again n r last (ws ∷ ls) h e may =
    let one = bind_ok (with_words r ws) (λ m. run m ls) last e in
    ap (λ (o : Result Read Why). read_on n o (λ next. read_lines (n + 1) next (map spaced ls))) (good_with r ws (All-head Good ws ls h) ∙ one.first) ∙ read_again (n + 1) one.value last ls (All-tail Good ws ls h) one.rest may

-- words without spaces are parted again
no_space_one : (b : ℕ) → is_visible b ≡ true → (b == 32) ≡ false
no_space_one b e = grind (arith, nat_tests)

no_space : (w : List ℕ) → list_all is_visible w ≡ true → All (λ b. (b == 32) ≡ false) w
no_space [] e = All-nil (λ b. (b == 32) ≡ false)
no_space (b ∷ bs) e = All-cons (λ x. (x == 32) ≡ false) b bs (no_space_one b (first_true (is_visible b) (list_all is_visible bs) e)) (no_space bs (second_true (is_visible b) (list_all is_visible bs) e))

parted : (w : List ℕ) (ws : List (List ℕ)) → IsShort w → All IsShort ws → words (spaced (w ∷ ws)) ≡ w ∷ ws
parted w [] s h = slice_split_none (λ b. b == 32) w (no_space w s.printed)
parted w (x ∷ xs) s h = slice_split_at (λ b. b == 32) w 32 (spaced (x ∷ xs)) (no_space w s.printed) refl ∙ ap (λ (ys : List (List ℕ)). w ∷ ys) (parted x xs (All-head IsShort x xs h) (All-tail IsShort x xs h))

printed_one : (b : ℕ) → is_visible b ≡ true → is_printed b ≡ true
printed_one b e = grind (arith, nat_tests)

visible_printed : (w : List ℕ) → list_all is_visible w ≡ true → list_all is_printed w ≡ true
visible_printed [] e = refl
visible_printed (b ∷ bs) e =
    rw (printed_one b (first_true (is_visible b) (list_all is_visible bs) e), visible_printed bs (second_true (is_visible b) (list_all is_visible bs) e)) refl

spaced_printed : (w : List ℕ) (ws : List (List ℕ)) → IsShort w → All IsShort ws → list_all is_printed (spaced (w ∷ ws)) ≡ true
spaced_printed w [] s h = visible_printed w s.printed
spaced_printed w (x ∷ xs) s h =
    list_all-append is_printed w (32 ∷ spaced (x ∷ xs)) ∙ rw (visible_printed w s.printed, spaced_printed x xs (All-head IsShort x xs h) (All-tail IsShort x xs h)) refl

spaced_short : (w : List ℕ) (ws : List (List ℕ)) → IsShort w → All IsShort ws → length (spaced (w ∷ ws)) ≤ 7 + 8 * length ws
spaced_short w [] s h = omega (arith, s.few)
spaced_short w (x ∷ xs) s h = omega (arith, length-append w (32 ∷ spaced (x ∷ xs)), s.few, spaced_short x xs (All-head IsShort x xs h) (All-tail IsShort x xs h))

short_actors : (g : List Actor) → All IsActor g → All IsShort (map actor_word g)
short_actors [] h = All-nil IsShort
short_actors (a ∷ g) h = All-cons IsShort (actor_word a) (map actor_word g) (short_actor a (All-head IsActor a g h)) (short_actors g (All-tail IsActor a g h))

kept_first : (b : ℕ) (rest : List ℕ) → b ≢ 35 → is_skipped (b ∷ rest) ≡ false
kept_first b rest ne = grind (arith, nat_tests)

turns_word : IsShort (codes "turns")
turns_word = record { some = omega arith; few = omega arith; printed = refl }

pub good_turns : (g : List Actor) → IsGroup g → Good (turns_words g)
good_turns g is =
    let shorts = short_actors g is.fits in
    let len = spaced_short (codes "turns") (map actor_word g) turns_word shorts in
    record {
      text = rw (le-leb (length (spaced (turns_words g))) 8192 (omega (arith, len, is.few, length-map g actor_word)), spaced_printed (codes "turns") (map actor_word g) turns_word shorts) refl;
      kept = ap is_skipped (joined (codes "turns") g) ∙ kept_first 116 (codes "urns" ++ spaced_actors g) (omega arith);
      cut = parted (codes "turns") (map actor_word g) turns_word shorts;
    }
