-- What was read before the turns, as the words of its lines.
use Rattle.std.proofs.Common.{◌≡◌, ℕ, ◌+◌, ◌≤◌, true, List, [], ◌∷◌, ◌++◌, length, map, Ok, All, refl, sym, ap, subst, ◌∙◌, arith, append_assoc}
use Rattle.std.specs.Prelude.{⊤, codes}
use Rattle.std.specs.List.{flat_map}
use Rattle.std.specs.Fmt.{decimal}
use Rattle.std.proofs.lemmas.List.{append-nil, map-append, length-append}
use Rattle.std.proofs.lemmas.List.Concat.{flat_map-append}
use Rattle.std.proofs.lemmas.List.Elements.{All-nil, All-push}
use Rattle.std.proofs.lemmas.Fmt.{decimal_digit}
use Rattle.neph_base.specs.declared.command.Command.{Command}
use Rattle.neph_base.specs.declared.reply.Actor.{Actor}
use Rattle.neph_model.specs.declared.script.Program.{Program}
use Rattle.neph_model.specs.declared.script.Label.{Label}
use Rattle.neph_model.specs.declared.script.Start.{Start}
use Rattle.neph_model.specs.Words.{command_words}
use Rattle.neph_command.specs.declared.command.Said.{Said}
use Rattle.neph_command.specs.declared.verb.Verb.{Verb}
use Rattle.neph_script.specs.declared.form.Form.TheVariants as form
use Rattle.neph_script.specs.declared.state.Place.{Place}
use Rattle.neph_script.specs.declared.state.Place.TheVariants as place
use Rattle.neph_script.specs.declared.state.Item.{Item}
use Rattle.neph_script.specs.declared.state.Item.TheVariants as item
use Rattle.neph_script.specs.State.{Read, Draft, nothing_read, no_draft}
use Rattle.neph_script.specs.Lines.{taken, settled, may_stand}
use Rattle.neph_command.specs.Commands.{InRange, said_words, verb_said}
use Rattle.neph_script.specs.Spelling.{Stands, start_words, item_words}
use Rattle.neph_script.specs.Text.{heading_words, frames_words, program_head, body_words, label_words, end_words, program_words}
use Rattle.neph_script.proofs.Bodies.{command_added, label_added, same_body, settled_words}

-- the lines before the programs
abbrev pub head_words : Place → ℕ → List (List (List ℕ))
head_words place.Top n = []
head_words place.Headed n = heading_words ∷ []
head_words _ n = heading_words ∷ frames_words n ∷ []

-- the lines of a program without its end
abbrev pub open_words : Draft → List (List (List ℕ))
open_words d = program_head d.name ∷ body_words said_words 0 d.said d.labels

abbrev pub draft_words : Place → Draft → List (List (List ℕ))
draft_words place.Inside d = open_words d
draft_words _ d = []

abbrev pub front_of : Place → ℕ → List Program → Draft → List Start → List (List (List ℕ))
front_of p n ps d ts = head_words p n ++ (flat_map program_words ps ++ (draft_words p d ++ map (start_words ps) ts))

abbrev pub front_words : Read → List (List (List ℕ))
front_words r = front_of r.place r.frames r.programs r.draft r.starts

Lines : Type 0
Lines = List (List (List ℕ))

heading_added : (p : Place) (n : ℕ) (ps : List Program) (d : Draft) (ts : List Start) → p ≡ place.Top → ps ≡ [] → ts ≡ [] → front_of place.Headed n ps d ts ≡ front_of p n ps d ts ++ (codes "nephele" ∷ decimal 1 ∷ []) ∷ []
heading_added p n ps d ts a b c = rw (a, b, c) (ap (λ (w : List ℕ). (codes "nephele" ∷ w ∷ []) ∷ []) (sym (decimal_digit 1 (omega arith))))

frames_added : (p : Place) (n m : ℕ) (ps : List Program) (d : Draft) (ts : List Start) → p ≡ place.Headed → ps ≡ [] → ts ≡ [] → front_of place.Framed m ps d ts ≡ front_of p n ps d ts ++ frames_words m ∷ []
frames_added p n m ps d ts a b c = rw (a, b, c) refl

-- the places where a program may begin, and those of domain lines
abbrev IsOpen : Place → Type 0
IsOpen p = (n : ℕ) (d : Draft) → (head_words p n ≡ heading_words ∷ frames_words n ∷ []) × (draft_words p d ≡ [])

abbrev two : ℕ → List (List (List ℕ))
two n = heading_words ∷ frames_words n ∷ []

one_more : (a b c : List (List (List ℕ))) (w : List (List ℕ)) → a ++ (b ++ (c ++ w ∷ [])) ≡ (a ++ (b ++ c)) ++ w ∷ []
one_more a b c w = ap (λ (xs : List (List (List ℕ))). a ++ xs) (sym (append_assoc b c (w ∷ []))) ∙ sym (append_assoc a (b ++ c) (w ∷ []))

program_added : (p : Place) (n : ℕ) (ps : List Program) (d : Draft) (ts : List Start) (name : List ℕ) → IsOpen p → ts ≡ []
    → front_of place.Inside n ps (record { name = name; said = []; labels = [] }) ts ≡ front_of p n ps d ts ++ program_head name ∷ []
program_added p n ps d ts name is_open none =
    let f = flat_map program_words ps in
    let w = program_head name in
    rw none (one_more (two n) f [] w ∙ ap (λ (xs : List (List (List ℕ))). (xs ++ (f ++ [])) ++ w ∷ []) (sym (is_open n d).0) ∙ ap (λ (xs : List (List (List ℕ))). (head_words p n ++ (f ++ (xs ++ []))) ++ w ∷ []) (sym (is_open n d).1))

inside_added : (n : ℕ) (ps : List Program) (d e : Draft) (w : List (List ℕ)) → open_words e ≡ open_words d ++ w ∷ [] → front_of place.Inside n ps e [] ≡ front_of place.Inside n ps d [] ++ w ∷ []
inside_added n ps d e w is =
    let f = flat_map program_words ps in
    ap (λ (xs : List (List (List ℕ))). two n ++ (f ++ xs)) (append-nil (open_words e) ∙ is) ∙ one_more (two n) f (open_words d) w
    ∙ ap (λ (xs : List (List (List ℕ))). (two n ++ (f ++ xs)) ++ w ∷ []) (sym (append-nil (open_words d)))

command_put : (p : Place) (n : ℕ) (ps : List Program) (d : Draft) (ts : List Start) (s : Said) → p ≡ place.Inside → ts ≡ [] → All (λ (l : Label). l.at ≤ length d.said) d.labels
    → front_of p n ps (record d { said = d.said ++ s ∷ [] }) ts ≡ front_of p n ps d ts ++ said_words s ∷ []
command_put p n ps d ts s is none within =
    rw (is, none)
    (inside_added n ps d (record d { said = d.said ++ s ∷ [] }) (said_words s) (ap (λ (xs : List (List (List ℕ))). program_head d.name ∷ xs) (command_added said_words 0 (length d.said) d.said s d.labels (omega arith) within)))

label_put : (p : Place) (n : ℕ) (ps : List Program) (d : Draft) (ts : List Start) (l : Label) → p ≡ place.Inside → ts ≡ [] → All (λ (x : Label). x.at ≤ length d.said) d.labels → l.at ≡ length d.said
    → front_of p n ps (record d { labels = d.labels ++ l ∷ [] }) ts ≡ front_of p n ps d ts ++ label_words l ∷ []
label_put p n ps d ts l is none within at =
    rw (is, none)
    (inside_added n ps d (record d { labels = d.labels ++ l ∷ [] }) (label_words l) (ap (λ (xs : List (List (List ℕ))). program_head d.name ∷ xs) (label_added said_words 0 (length d.said) d.said d.labels l (omega arith) within at)))

closed : (n : ℕ) (ps : List Program) (d : Draft) (cs : List Command) → All InRange d.said → settled d.labels 0 d.said ≡ Ok cs
    → front_of place.Between n (ps ++ record { name = d.name; commands = cs; labels = d.labels } ∷ []) no_draft [] ≡ front_of place.Inside n ps d [] ++ end_words ∷ []
closed n ps d cs fine e =
    let q : Program = record { name = d.name; commands = cs; labels = d.labels } in
    let f = flat_map program_words ps in
    let same : program_words q ≡ open_words d ++ end_words ∷ [] =
    ap (λ (xs : List (List (List ℕ))). program_head d.name ∷ (xs ++ end_words ∷ [])) (same_body (command_words d.labels) said_words 0 cs d.said d.labels (settled_words d.labels 0 d.said cs fine e)) in
    ap (λ (xs : List (List (List ℕ))). two n ++ xs) (append-nil (flat_map program_words (ps ++ q ∷ [])) ∙ flat_map-append program_words ps (q ∷ []) ∙ ap (λ (xs : List (List (List ℕ))). f ++ xs) (append-nil (program_words q) ∙ same))
    ∙ one_more (two n) f (open_words d) end_words ∙ ap (λ (xs : List (List (List ℕ))). (two n ++ (f ++ xs)) ++ end_words ∷ []) (sym (append-nil (open_words d)))

end_put : (p : Place) (n : ℕ) (ps : List Program) (d : Draft) (ts : List Start) (cs : List Command) → p ≡ place.Inside → ts ≡ [] → All InRange d.said → settled d.labels 0 d.said ≡ Ok cs
    → front_of place.Between n (ps ++ record { name = d.name; commands = cs; labels = d.labels } ∷ []) no_draft ts ≡ front_of p n ps d ts ++ end_words ∷ []
end_put p n ps d ts cs is none fine e = rw (is, none) (closed n ps d cs fine e)

start_put : (p : Place) (n : ℕ) (ps : List Program) (d : Draft) (ts : List Start) (t : Start) → IsOpen p → front_of place.Started n ps d (ts ++ t ∷ []) ≡ front_of p n ps d ts ++ start_words ps t ∷ []
start_put p n ps d ts t is_open =
    let f = flat_map program_words ps in
    let w = start_words ps t in
    let starts = map (start_words ps) ts in
    ap (λ (xs : List (List (List ℕ))). two n ++ (f ++ xs)) (map-append (start_words ps) ts (t ∷ [])) ∙ one_more (two n) f starts w ∙ ap (λ (xs : List (List (List ℕ))). (xs ++ (f ++ starts)) ++ w ∷ []) (sym (is_open n d).0)
    ∙ ap (λ (xs : List (List (List ℕ))). (head_words p n ++ (f ++ (xs ++ starts))) ++ w ∷ []) (sym (is_open n d).1)

-- what there is not yet at a place before the turns
abbrev pub NoMore : Place → List Program → List Start → Type 0
NoMore place.Top ps ts = (ps ≡ []) × (ts ≡ [])
NoMore place.Headed ps ts = (ps ≡ []) × (ts ≡ [])
NoMore place.Framed ps ts = (ps ≡ []) × (ts ≡ [])
NoMore place.Inside ps ts = ts ≡ []
NoMore place.Between ps ts = ts ≡ []
NoMore place.Started ps ts = ⊤
NoMore place.Turned ps ts = ⊥

-- what holds before the turns
pub record Front (r : Read) : Type 0 where
  pub no_more : NoMore r.place r.programs r.starts
  pub said : All InRange r.draft.said
  pub labels : All (λ (l : Label). l.at ≤ length r.draft.said) r.draft.labels
  pub no_lines : r.turn_lines ≡ 0
  pub no_turns : r.turns ≡ []

pub front_start : Front nothing_read
front_start = record { no_more = (refl, refl); said = All-nil InRange; labels = All-nil (λ (l : Label). l.at ≤ 0); no_lines = refl; no_turns = refl }

-- a line before the turns adds its words
pub record Adds (r : Read) (i : Item) : Type 0 where
  pub front : Front (taken r i)
  pub adds : front_words (taken r i) ≡ front_words r ++ item_words r.programs i ∷ []

-- a fact at each place where a form may stand
top_only : (p : Place) (P : Place → Type 0) → may_stand form.Heading p ≡ true → P place.Top → P p
top_only place.Top P e h = h
top_only place.Headed P e h = absurd cc
top_only place.Framed P e h = absurd cc
top_only place.Inside P e h = absurd cc
top_only place.Between P e h = absurd cc
top_only place.Started P e h = absurd cc
top_only place.Turned P e h = absurd cc

headed_only : (p : Place) (P : Place → Type 0) → may_stand form.Frames p ≡ true → P place.Headed → P p
headed_only place.Top P e h = absurd cc
headed_only place.Headed P e h = h
headed_only place.Framed P e h = absurd cc
headed_only place.Inside P e h = absurd cc
headed_only place.Between P e h = absurd cc
headed_only place.Started P e h = absurd cc
headed_only place.Turned P e h = absurd cc

program_only : (p : Place) (P : Place → Type 0) → may_stand form.Program p ≡ true → P place.Framed → P place.Between → P p
program_only place.Top P e g h = absurd cc
program_only place.Headed P e g h = absurd cc
program_only place.Framed P e g h = g
program_only place.Inside P e g h = absurd cc
program_only place.Between P e g h = h
program_only place.Started P e g h = absurd cc
program_only place.Turned P e g h = absurd cc

inside_only : (p : Place) (P : Place → Type 0) → may_stand form.End p ≡ true → P place.Inside → P p
inside_only place.Top P e h = absurd cc
inside_only place.Headed P e h = absurd cc
inside_only place.Framed P e h = absurd cc
inside_only place.Inside P e h = h
inside_only place.Between P e h = absurd cc
inside_only place.Started P e h = absurd cc
inside_only place.Turned P e h = absurd cc

start_only : (p : Place) (P : Place → Type 0) → may_stand form.Domain p ≡ true → P place.Between → P place.Started → P p
start_only place.Top P e g h = absurd cc
start_only place.Headed P e g h = absurd cc
start_only place.Framed P e g h = absurd cc
start_only place.Inside P e g h = absurd cc
start_only place.Between P e g h = g
start_only place.Started P e g h = h
start_only place.Turned P e g h = absurd cc

command_as_end : (v : Verb) (p : Place) → may_stand (form.Command v) p ≡ may_stand form.End p
command_as_end v place.Top = refl
command_as_end v place.Headed = refl
command_as_end v place.Framed = refl
command_as_end v place.Inside = refl
command_as_end v place.Between = refl
command_as_end v place.Started = refl
command_as_end v place.Turned = refl

label_as_end : (p : Place) → may_stand form.Label p ≡ may_stand form.End p
label_as_end place.Top = refl
label_as_end place.Headed = refl
label_as_end place.Framed = refl
label_as_end place.Inside = refl
label_as_end place.Between = refl
label_as_end place.Started = refl
label_as_end place.Turned = refl

-- in a program there are no domain lines yet
in_program : (r : Read) → Front r → may_stand form.End r.place ≡ true → (r.place ≡ place.Inside) × (r.starts ≡ [])
in_program r f e = let at : r.place ≡ place.Inside = inside_only r.place (λ p. p ≡ place.Inside) e refl in (at, subst (λ (p : Place). NoMore p r.programs r.starts) at f.no_more)

longer : (r : Read) (c : Said) → length (r.draft.said ++ c ∷ []) ≡ length r.draft.said + 1
longer r c = length-append r.draft.said (c ∷ [])

-- what an item that isn't turns adds
pub adds : (r : Read) (ws : List (List ℕ)) (i : Item) → ((more : List Actor) → i ≡ item.Turns more → ⊥) → Front r → Stands r ws i → Adds r i
adds r ws item.Heading other f s =
    let at : r.place ≡ place.Top = top_only r.place (λ p. p ≡ place.Top) s.place refl in
    let none : (r.programs ≡ []) × (r.starts ≡ []) = subst (λ (p : Place). NoMore p r.programs r.starts) at f.no_more in
    record { front = record { no_more = none; said = f.said; labels = f.labels; no_lines = f.no_lines; no_turns = f.no_turns }; adds = heading_added r.place r.frames r.programs r.draft r.starts at none.0 none.1 }
adds r ws (item.Frames n) other f s =
    let at : r.place ≡ place.Headed = headed_only r.place (λ p. p ≡ place.Headed) s.place refl in
    let none : (r.programs ≡ []) × (r.starts ≡ []) = subst (λ (p : Place). NoMore p r.programs r.starts) at f.no_more in
    record { front = record { no_more = none; said = f.said; labels = f.labels; no_lines = f.no_lines; no_turns = f.no_turns }; adds = frames_added r.place r.frames n r.programs r.draft r.starts at none.0 none.1 }
adds r ws (item.Program name) other f s =
    let none : r.starts ≡ [] = program_only r.place (λ p. NoMore p r.programs r.starts → r.starts ≡ []) s.place (λ h. h.1) (λ h. h) f.no_more in
    record {
      front = record { no_more = none; said = All-nil InRange; labels = All-nil (λ (l : Label). l.at ≤ 0); no_lines = f.no_lines; no_turns = f.no_turns };
      adds = program_added r.place r.frames r.programs r.draft r.starts name (program_only r.place IsOpen s.place (λ n d. (refl, refl)) (λ n d. (refl, refl))) none;
    }
adds r ws (item.Command c) other f s =
    let in_it = in_program r f (sym (command_as_end (verb_said c) r.place) ∙ s.place) in
    record {
      front = record {
        no_more = f.no_more;
        said = All-push InRange r.draft.said c f.said s.said;
        labels = λ k d lt. omega (arith, longer r c, f.labels k d lt);
        no_lines = f.no_lines;
        no_turns = f.no_turns;
      };
      adds = command_put r.place r.frames r.programs r.draft r.starts c in_it.0 in_it.1 f.labels;
    }
adds r ws (item.Label name) other f s =
    let in_it = in_program r f (sym (label_as_end r.place) ∙ s.place) in
    let l : Label = record { name = name; at = length r.draft.said } in
    record {
      front = record { no_more = f.no_more; said = f.said; labels = All-push (λ (x : Label). x.at ≤ length r.draft.said) r.draft.labels l f.labels (omega arith); no_lines = f.no_lines; no_turns = f.no_turns };
      adds = label_put r.place r.frames r.programs r.draft r.starts l in_it.0 in_it.1 f.labels refl;
    }
adds r ws (item.End cs) other f s =
    let in_it = in_program r f s.place in
    record {
      front = record { no_more = in_it.1; said = All-nil InRange; labels = All-nil (λ (l : Label). l.at ≤ 0); no_lines = f.no_lines; no_turns = f.no_turns };
      adds = end_put r.place r.frames r.programs r.draft r.starts cs in_it.0 in_it.1 f.said s.said;
    }
adds r ws (item.Start t) other f s =
    record {
      front = record { no_more = tt; said = f.said; labels = f.labels; no_lines = f.no_lines; no_turns = f.no_turns };
      adds = start_put r.place r.frames r.programs r.draft r.starts t (start_only r.place IsOpen s.place (λ n d. (refl, refl)) (λ n d. (refl, refl)));
    }
adds r ws (item.Turns more) other f s = absurd (other more refl)
