-- Lines of turns, in groups of any size.
use Rattle.std.proofs.Common.{◌≡◌, ◌≢◌, ℕ, zero, suc, ◌+◌, ◌*◌, ◌/◌, ◌%◌, ◌<◌, ◌≤◌, Bool, true, false, cond, List, [], ◌∷◌, ◌++◌, length, take, drop, get_or, map, Some, Result, Ok, Err, All, refl, sym, ap, subst, ◌∙◌, arith, append_assoc}
use Rattle.std.specs.List.{list_all}
use Rattle.neph_command.proofs.Inverse.{bind_ok}
use Rattle.std.specs.Prelude.{◌&&◌, codes, nat_lt, nat_le, ◌||◌, slice_index}
use Rattle.std.specs.Fmt.{decimal}
use Rattle.std.proofs.lemmas.Fmt.{decimal_digit, decimal_step}
use Rattle.std.proofs.lemmas.Bool.{lt-ltb, lt-leb, le-ltb}
use Rattle.std.proofs.lemmas.Bool.Decides.{nat_tests}
use Rattle.std.proofs.lemmas.List.{append-nil, length-map, length-take, length-drop, take-append-drop}
use Rattle.std.proofs.lemmas.List.Elements.{All-nil, All-cons, All-head, All-tail, All-take, All-drop}
use Rattle.neph_base.specs.declared.reply.Actor.{Actor}
use Rattle.neph_base.specs.declared.reply.Actor.TheVariants as actor
use Rattle.neph_script.specs.declared.form.Form.TheVariants as form
use Rattle.neph_script.specs.declared.state.Item.{Item}
use Rattle.neph_script.specs.declared.state.Item.TheVariants as item
use Rattle.neph_command.specs.declared.why.Why.{Why}
use Rattle.neph_command.specs.declared.why.Why.TheVariants as why
use Rattle.neph_script.specs.State.{Read, script_read}
use Rattle.neph_command.specs.Words.{◌>>=◌, equals, number_in, is_digit}
use Rattle.neph_script.specs.Actors.{actor_named}
use Rattle.neph_script.specs.Lines.{taken, judged, may_stand, are_whole, word_count, actors}
use Rattle.neph_script.specs.Spelling.{actor_word, turns_words, IsActor}
use Rattle.neph_script.specs.Text.{groups}
use Rattle.neph_script.specs.Grammar.{with_words, may_end}
use Rattle.neph_command.proofs.Ranges.{equal_from, number_only}
use Rattle.neph_script.proofs.LineLaws.{all_words}

-- words read one after another
abbrev pub run : Read → List (List (List ℕ)) → Result Read Why
run r [] = Ok r
run r (ws ∷ more) = with_words r ws >>= λ n. run n more

pub run_append : (r n : Read) (xs ys : List (List (List ℕ))) → run r xs ≡ Ok n → run r (xs ++ ys) ≡ run n ys
run_append r n [] ys e = ap (λ (o : Result Read Why). o >>= λ m. run m ys) e
run_append r n (ws ∷ more) ys e =
    let one = bind_ok (with_words r ws) (λ m. run m more) n e in
    ap (λ (o : Result Read Why). o >>= λ m. run m (more ++ ys)) one.first ∙ run_append one.value n more ys one.rest

-- a printed character but no space
abbrev pub is_visible : ℕ → Bool
is_visible b = nat_le 33 b && nat_le b 126

-- a word of 1 to 7 bytes, none of them a space
pub record IsShort (w : List ℕ) : Type 0 where
  pub some : 0 < length w
  pub few : length w ≤ 7
  pub printed : list_all is_visible w ≡ true

-- a word of digits, at most two
record IsNumber (w : List ℕ) : Type 0 where
  short : IsShort w
  first_low : 48 ≤ get_or w 0 0
  first_high : get_or w 0 0 ≤ 57

visible : (x : ℕ) → x < 10 → is_visible (48 + x) ≡ true
visible x lt = grind (arith, nat_tests)

one_digit : (x : ℕ) → x < 10 → IsNumber ((48 + x) ∷ [])
one_digit x lt = record { short = record { some = omega arith; few = omega arith; printed = rw (visible x lt) refl }; first_low = omega arith; first_high = omega arith }

two_digits : (x y : ℕ) → x < 10 → y < 10 → IsNumber ((48 + x) ∷ (48 + y) ∷ [])
two_digits x y lt lt' = record { short = record { some = omega arith; few = omega arith; printed = rw (visible x lt, visible y lt') refl }; first_low = omega arith; first_high = omega arith }

number_word : (d : ℕ) → d ≤ 63 → IsNumber (decimal d)
number_word d le = by (nat_lt d 10) refl where
  by : (b : Bool) → nat_lt d 10 ≡ b → IsNumber (decimal d)
  by true e = let lt : d < 10 = grind (arith, nat_tests) in subst IsNumber (sym (decimal_digit d lt)) (one_digit d lt)
  by false e =
      let ge : 10 ≤ d = grind (arith, nat_tests) in
      let is : decimal d ≡ (48 + d / 10) ∷ (48 + d % 10) ∷ [] = decimal_step d ge (omega arith) ∙ ap (λ (w : List ℕ). w ++ (48 + d % 10) ∷ []) (decimal_digit (d / 10) (omega arith)) in
      subst IsNumber (sym is) (two_digits (d / 10) (d % 10) (omega arith) (omega arith))

fixed_word : (w : List ℕ) → 0 < length w → length w ≤ 7 → list_all is_visible w ≡ true → IsShort w
fixed_word w a b c = record { some = a; few = b; printed = c }

pub short_actor : (a : Actor) → IsActor a → IsShort (actor_word a)
short_actor (actor.Dom d) h = (number_word d h.1).short
short_actor actor.Daemon h = fixed_word (codes "daemon") (omega arith) (omega arith) refl
short_actor actor.Console h = fixed_word (codes "console") (omega arith) (omega arith) refl
short_actor actor.Net h = fixed_word (codes "net") (omega arith) (omega arith) refl
short_actor actor.P9 h = fixed_word (codes "p9") (omega arith) (omega arith) refl

differ : (w text : List ℕ) → get_or w 0 0 ≢ get_or text 0 0 → equals w text ≡ false
differ w text ne = by (equals w text) refl where
  by : (b : Bool) → equals w text ≡ b → b ≡ false
  by true e = absurd (ne (ap (λ (x : List ℕ). get_or x 0 0) (equal_from w text e)))
  by false e = refl

digit_first : (w : List ℕ) → 48 ≤ get_or w 0 0 → get_or w 0 0 ≤ 57 → is_digit (slice_index w 0) ≡ true
digit_first w low high = grind (arith, nat_tests)

chosen : (w : List ℕ) (d : ℕ) → equals w (codes "daemon") ≡ false → equals w (codes "console") ≡ false → equals w (codes "net") ≡ false → equals w (codes "p9") ≡ false → is_digit (slice_index w 0) ≡ true → number_in 1 63 w ≡ Some d
    → actor_named w ≡ Ok (actor.Dom d)
chosen w d a b c e f g = rw (a, b, c, e, f, g) refl

pub actor_again : (a : Actor) → IsActor a → actor_named (actor_word a) ≡ Ok a
actor_again actor.Daemon h = refl
actor_again actor.Console h = refl
actor_again actor.Net h = refl
actor_again actor.P9 h = refl
actor_again (actor.Dom d) h =
    let n = number_word d h.1 in
    let low : 48 ≤ get_or (decimal d) 0 0 = n.first_low in
    let high : get_or (decimal d) 0 0 ≤ 57 = n.first_high in
    let digit : is_digit (slice_index (decimal d) 0) ≡ true = digit_first (decimal d) low high in
    let is : number_in 1 63 (decimal d) ≡ Some d = number_only (decimal d) 1 63 d (record { is = refl; low_is = h.0; high_is = h.1 }) (omega arith) in
    chosen (decimal d) d (differ (decimal d) (codes "daemon") (λ e. omega (arith, high, e))) (differ (decimal d) (codes "console") (λ e. omega (arith, high, e))) (differ (decimal d) (codes "net") (λ e. omega (arith, high, e)))
    (differ (decimal d) (codes "p9") (λ e. omega (arith, high, e))) digit is

pub actors_again : (xs : List Actor) → All IsActor xs → actors (map actor_word xs) ≡ Ok xs
actors_again [] h = refl
actors_again (a ∷ xs) h = rw (actor_again a (All-head IsActor a xs h), actors_again xs (All-tail IsActor a xs h)) refl

-- actors of one line
pub record IsGroup (g : List Actor) : Type 0 where
  pub some : 0 < length g
  pub few : length g ≤ 64
  pub fits : All IsActor g

pub whole_words : (xs : List Actor) → All IsActor xs → are_whole (map actor_word xs) ≡ true
whole_words [] h = refl
whole_words (a ∷ xs) h = rw (lt-ltb 0 (length (actor_word a)) (short_actor a (All-head IsActor a xs h)).some, whole_words xs (All-tail IsActor a xs h)) refl

pick : (m a b c : Bool) (x : Result Item Why) → m ≡ true → a ≡ false → b ≡ false → c ≡ true → cond m (cond (a || b) (Err why.Many) (cond c x (Err why.Form))) (Err why.Word) ≡ x
pick m a b c x e f g h = rw (e, f, g, h) refl

group_judged : (r : Read) (g : List Actor) → IsGroup g → may_stand form.Turns r.place ≡ true → r.turn_lines < 64 → judged r (turns_words g) ≡ Ok (item.Turns g)
group_judged r [] is may lines = absurd (omega (arith, is.some))
group_judged r (a ∷ more) is may lines =
    let words = map actor_word (a ∷ more) in
    let whole = whole_words (a ∷ more) is.fits in
    let count : word_count words ≡ length (a ∷ more) = all_words words whole ∙ length-map (a ∷ more) actor_word in
    pick (may_stand form.Turns r.place) (nat_le 64 r.turn_lines) (nat_lt 64 (word_count words)) (are_whole words) _ may (lt-leb 64 r.turn_lines lines) (le-ltb 64 (word_count words) (omega (arith, count, is.few))) whole
    ∙ ap (λ (o : Result (List Actor) Why). o >>= λ xs. Ok (item.Turns xs)) (actors_again (a ∷ more) is.fits)

abbrev pub more_turns : Read → List (List Actor) → Read
more_turns r [] = r
more_turns r (g ∷ gs) = more_turns (taken r (item.Turns g)) gs

pub run_groups : (r : Read) (gs : List (List Actor)) → All IsGroup gs → may_stand form.Turns r.place ≡ true → r.turn_lines + length gs ≤ 64 → run r (map turns_words gs) ≡ Ok (more_turns r gs)
run_groups r [] h may lines = refl
run_groups r (g ∷ gs) h may lines =
    ap (λ (o : Result Item Why). (o >>= λ i. Ok (taken r i)) >>= λ n. run n (map turns_words gs)) (group_judged r g (All-head IsGroup g gs h) may (omega arith))
    ∙ run_groups (taken r (item.Turns g)) gs (All-tail IsGroup g gs h) refl (omega arith)

abbrev pub all_of : List (List Actor) → List Actor
all_of [] = []
all_of (g ∷ gs) = g ++ all_of gs

pub script_more : (r : Read) (gs : List (List Actor)) → script_read (more_turns r gs) ≡ record (script_read r) { turns = r.turns ++ all_of gs }
script_more r [] = ap (λ (t : List Actor). record (script_read r) { turns = t }) (sym (append-nil r.turns))
script_more r (g ∷ gs) = script_more (taken r (item.Turns g)) gs ∙ ap (λ (t : List Actor). record (script_read r) { turns = t }) (append_assoc r.turns g (all_of gs))

pub more_push : (r : Read) (gs : List (List Actor)) (g : List Actor) → more_turns r (gs ++ g ∷ []) ≡ taken (more_turns r gs) (item.Turns g)
more_push r [] g = refl
more_push r (x ∷ gs) g = more_push (taken r (item.Turns x)) gs g

pub end_more : (r : Read) (gs : List (List Actor)) → may_end r.place ≡ true → may_end (more_turns r gs).place ≡ true
end_more r [] e = e
end_more r (g ∷ gs) e = end_more (taken r (item.Turns g)) gs refl

pub groups_all : (k : ℕ) (xs : List Actor) → length xs ≤ k * 64 → all_of (groups k xs) ≡ xs
groups_all zero [] h = refl
groups_all zero (x ∷ xs) h = absurd (omega arith)
groups_all (suc k) xs h = ap (λ (ys : List Actor). take 64 xs ++ ys) (groups_all k (drop 64 xs) (omega (arith, length-drop 64 xs))) ∙ take-append-drop 64 xs

pub groups_fit : (k : ℕ) (xs : List Actor) → k ≡ (length xs + 63) / 64 → All IsActor xs → All IsGroup (groups k xs)
groups_fit zero xs is h = All-nil IsGroup
groups_fit (suc k) xs is h =
    let first : IsGroup (take 64 xs) = record { some = omega (arith, length-take 64 xs); few = omega (arith, length-take 64 xs); fits = All-take IsActor 64 xs h } in
    All-cons IsGroup (take 64 xs) (groups k (drop 64 xs)) first (groups_fit k (drop 64 xs) (omega (arith, length-drop 64 xs)) (All-drop IsActor 64 xs h))

pub length_groups : (k : ℕ) (xs : List Actor) → length (groups k xs) ≡ k
length_groups zero xs = refl
length_groups (suc k) xs = ap suc (length_groups k (drop 64 xs))
