-- The lines of a program, one more at a time.
use Rattle.std.proofs.Common.{◌≡◌, ℕ, zero, suc, ◌+◌, ◌-◌, ◌≤◌, List, [], ◌∷◌, ◌++◌, length, take, drop, get_or, map, Option, Some, None, Ok, All, refl, sym, ap, subst, ◌∙◌, arith, append_assoc}
use Rattle.std.specs.Prelude.{codes, nat_lt}
use Rattle.std.proofs.lemmas.List.{map-append, take-append-le, drop-append-le, length-drop, take_all, drop_all}
use Rattle.std.proofs.lemmas.List.Elements.{All-head, All-tail}
use Rattle.std.proofs.lemmas.List.Quantifiers.{position-Some}
use Rattle.std.proofs.lemmas.Option.{slice_get-get_or}
use Rattle.neph_base.specs.declared.command.Command.{Command}
use Rattle.neph_base.specs.declared.command.Command.TheVariants as command
use Rattle.neph_model.specs.declared.script.Label.{Label}
use Rattle.neph_model.specs.Programs.{label_line}
use Rattle.neph_model.specs.Words.{command_words, label_name, name_of}
use Rattle.neph_command.specs.declared.command.Said.{Said}
use Rattle.neph_command.specs.declared.command.Said.TheVariants as said
use Rattle.neph_command.specs.declared.why.Why.TheVariants as why
use Rattle.neph_command.specs.Words.{equals}
use Rattle.neph_script.specs.Lines.{settled, settled_one, toward, ahead, label_place}
use Rattle.neph_command.specs.Commands.{said_words, InRange}
use Rattle.neph_script.specs.Text.{body_words, label_words}
use Rattle.neph_command.proofs.Inverse.{bind_ok, let_in, same_ok}
use Rattle.neph_command.proofs.Ranges.{equal_from}

-- the labels stand within so many commands behind a number
AreWithin : ℕ → List Label → Type 0
AreWithin n labels = All (λ (l : Label). l.at ≤ n) labels

drop_more_of : {X : Type 0} (n : ℕ) (xs : List X) (x : X) → n ≤ length xs → drop n (xs ++ x ∷ []) ≡ drop n xs ++ x ∷ []
drop_more_of n xs x le = drop-append-le n xs (x ∷ []) le

pub command_added : {X : Type 0} (f : X → List (List ℕ)) (at n : ℕ) (xs : List X) (x : X) (ls : List Label) → n ≡ at + length xs → All (λ (l : Label). l.at ≤ n) ls → body_words f at (xs ++ x ∷ []) ls ≡ body_words f at xs ls ++ f x ∷ []
command_added f at n xs x [] count h = map-append f xs (x ∷ [])
command_added {X = X} f at n xs x (l ∷ ls) count h =
    let here : l.at ≤ n = All-head (λ (y : Label). y.at ≤ n) l ls h in
    let k = l.at - at in
    let le : k ≤ length xs = omega arith in
    let more = command_added f (at + k) n (drop k xs) x ls (omega (arith, length-drop k xs)) (All-tail (λ (y : Label). y.at ≤ n) l ls h) in
    ap (λ (ys : List X). map f ys ++ label_words l ∷ body_words f (at + k) (drop k (xs ++ x ∷ [])) ls) (take-append-le k xs (x ∷ []) le)
    ∙ ap (λ (ys : List X). map f (take k xs) ++ label_words l ∷ body_words f (at + k) ys ls) (drop_more_of k xs x le)
    ∙ ap (λ (ys : List (List (List ℕ))). map f (take k xs) ++ label_words l ∷ ys) more
    ∙ sym (append_assoc (map f (take k xs)) (label_words l ∷ body_words f (at + k) (drop k xs) ls) (f x ∷ []))

pub label_added : {X : Type 0} (f : X → List (List ℕ)) (at n : ℕ) (xs : List X) (ls : List Label) (new : Label) → n ≡ at + length xs → All (λ (l : Label). l.at ≤ n) ls → new.at ≡ n → body_words f at xs (ls ++ new ∷ []) ≡ body_words f at xs ls ++ label_words new ∷ []
label_added {X = X} f at n xs [] new count h e =
    let k = new.at - at in
    let all : length xs ≤ k = omega arith in
    ap (λ (ys : List X). map f ys ++ label_words new ∷ map f (drop k xs)) (take_all k xs all) ∙ ap (λ (ys : List X). map f xs ++ label_words new ∷ map f ys) (drop_all k xs all)
label_added f at n xs (l ∷ ls) new count h e =
    let k = l.at - at in
    let here : l.at ≤ n = All-head (λ (y : Label). y.at ≤ n) l ls h in
    let more = label_added f (at + k) n (drop k xs) ls new (omega (arith, here, length-drop k xs)) (All-tail (λ (y : Label). y.at ≤ n) l ls h) e in
    ap (λ (ys : List (List (List ℕ))). map f (take k xs) ++ label_words l ∷ ys) more ∙ sym (append_assoc (map f (take k xs)) (label_words l ∷ body_words f (at + k) (drop k xs) ls) (label_words new ∷ []))

map_take : {X : Type 0} (f : X → List (List ℕ)) (n : ℕ) (xs : List X) → map f (take n xs) ≡ take n (map f xs)
map_take f zero xs = refl
map_take f (suc n) [] = refl
map_take f (suc n) (x ∷ xs) = ap (λ (ys : List (List (List ℕ))). f x ∷ ys) (map_take f n xs)

map_drop : {X : Type 0} (f : X → List (List ℕ)) (n : ℕ) (xs : List X) → map f (drop n xs) ≡ drop n (map f xs)
map_drop f zero xs = refl
map_drop f (suc n) [] = refl
map_drop f (suc n) (x ∷ xs) = map_drop f n xs

-- bodies whose commands have the same words
pub same_body : {X Y : Type 0} (f : X → List (List ℕ)) (g : Y → List (List ℕ)) (at : ℕ) (xs : List X) (ys : List Y) (ls : List Label) → map f xs ≡ map g ys → body_words f at xs ls ≡ body_words g at ys ls
same_body f g at xs ys [] e = e
same_body f g at xs ys (l ∷ ls) e =
    let k = l.at - at in
    let front : map f (take k xs) ≡ map g (take k ys) = map_take f k xs ∙ ap (take k) e ∙ sym (map_take g k ys) in
    let rest : map f (drop k xs) ≡ map g (drop k ys) = map_drop f k xs ∙ ap (drop k) e ∙ sym (map_drop g k ys) in
    ap (λ (zs : List (List (List ℕ))). zs ++ label_words l ∷ body_words f (at + k) (drop k xs) ls) front
    ∙ ap (λ (zs : List (List (List ℕ))). map g (take k ys) ++ label_words l ∷ zs) (same_body f g (at + k) (drop k xs) (drop k ys) ls rest)

no_label : Label
no_label = record { name = []; at = 0 }

-- the label that a settled jump has is the one that its line names
named_label : (labels : List Label) (line : ℕ) (target : List ℕ) (o : Option ℕ) (p : ℕ) → label_place labels target ≡ o → ahead labels line o ≡ Ok p → label_name labels p ≡ target
named_label labels line target None p is e = absurd cc
named_label labels line target (Some q) p is e =
    let h = let_in (nat_lt line (label_line labels q)) why.Label (Ok q) p e in
    let found = position-Some (λ (l : Label). equals target l.name) labels q no_label is in
    let named : label_name labels q ≡ target = ap name_of (slice_get-get_or labels q no_label found.0) ∙ sym (equal_from target (get_or labels q no_label).name found.1) in
    subst (λ (x : ℕ). label_name labels x ≡ target) (same_ok q p h.1) named

toward_words : (labels : List Label) (line : ℕ) (word target : List ℕ) (jump : ℕ → Command) (c : Command) → ((p : ℕ) → command_words labels (jump p) ≡ word ∷ label_name labels p ∷ []) → toward labels line target jump ≡ Ok c → command_words labels c ≡ word ∷ target ∷ []
toward_words labels line word target jump c spelled e =
    let one = bind_ok (ahead labels line (label_place labels target)) (λ p. Ok (jump p)) c e in
    ap (command_words labels) (sym (same_ok (jump one.value) c one.rest)) ∙ spelled one.value ∙ ap (λ (w : List ℕ). word ∷ w ∷ []) (named_label labels line target (label_place labels target) one.value refl one.first)

whole_words : (labels : List Label) (c : Command) → InRange (said.Whole c) → command_words labels c ≡ said_words (said.Whole c)
whole_words labels (command.Jump label) h = absurd cc
whole_words labels (command.JChild label) h = absurd cc
whole_words labels (command.JFail label) h = absurd cc
whole_words labels _ h = refl

one_words : (labels : List Label) (line : ℕ) (s : Said) (c : Command) → InRange s → settled_one labels line s ≡ Ok c → command_words labels c ≡ said_words s
one_words labels line (said.Whole x) c h e = ap (command_words labels) (sym (same_ok x c e)) ∙ whole_words labels x h
one_words labels line (said.Jump target) c h e = toward_words labels line (codes "jump") target command.Jump c (λ p. refl) e
one_words labels line (said.JChild target) c h e = toward_words labels line (codes "jchild") target command.JChild c (λ p. refl) e
one_words labels line (said.JFail target) c h e = toward_words labels line (codes "jfail") target command.JFail c (λ p. refl) e

pub settled_words : (labels : List Label) (line : ℕ) (ss : List Said) (cs : List Command) → All InRange ss → settled labels line ss ≡ Ok cs → map (command_words labels) cs ≡ map said_words ss
settled_words labels line [] cs h e = ap (map (command_words labels)) (sym (same_ok [] cs e))
settled_words labels line (s ∷ ss) cs h e =
    let one = bind_ok (settled_one labels line s) _ cs e in
    let two = bind_ok (settled labels (line + 1) ss) _ cs one.rest in
    ap (map (command_words labels)) (sym (same_ok (one.value ∷ two.value) cs two.rest))
    ∙ ap (λ (w : List (List ℕ)). w ∷ map (command_words labels) two.value) (one_words labels line s one.value (All-head InRange s ss h) one.first)
    ∙ ap (λ (ws : List (List (List ℕ))). said_words s ∷ ws) (settled_words labels (line + 1) ss two.value (All-tail InRange s ss h) two.first)
