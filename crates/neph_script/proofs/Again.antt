-- What is read of a text is read of its printed script again.
use Rattle.std.proofs.Common.{◌≡◌, ℕ, ◌+◌, ◌*◌, ◌/◌, ◌<◌, ◌≤◌, true, List, [], ◌∷◌, ◌++◌, length, map, Result, Ok, All, refl, sym, ap, subst, ◌∙◌, arith, inl, inr}
use Rattle.std.specs.Prelude.{◌⊎◌, nat_le}
use Rattle.std.proofs.lemmas.List.{length-append}
use Rattle.std.proofs.lemmas.Bool.{leb-false}
use Rattle.std.proofs.lemmas.List.Elements.{All-nil, All-cons, All-push, All-append, All-head, All-tail, All-map}
use Rattle.neph_base.specs.declared.reply.Actor.{Actor}
use Rattle.neph_model.specs.declared.script.Program.{Program}
use Rattle.neph_model.specs.declared.script.Start.{Start}
use Rattle.neph_model.specs.declared.script.Script.{Script}
use Rattle.neph_script.specs.declared.form.Form.TheVariants as form
use Rattle.neph_script.specs.declared.state.Place.{Place}
use Rattle.neph_script.specs.declared.state.Place.TheVariants as place
use Rattle.neph_script.specs.declared.state.Item.{Item}
use Rattle.neph_script.specs.declared.state.Item.TheVariants as item
use Rattle.neph_command.specs.declared.why.Why.{Why}
use Rattle.neph_script.specs.State.{Read, Draft, nothing_read, script_read}
use Rattle.neph_command.specs.Words.{◌>>=◌}
use Rattle.neph_script.specs.Lines.{taken, may_stand}
use Rattle.neph_script.specs.Spelling.{Stands, IsActor, turns_words, form_said}
use Rattle.neph_script.specs.Text.{script_words, script_text, turn_groups}
use Rattle.neph_script.specs.Grammar.{words, lines, may_end, read_lines, read_script}
use Rattle.neph_script.proofs.Fitting.{first}
use Rattle.neph_script.proofs.Folded.{folded_lines, SaysThis}
use Rattle.neph_script.proofs.Fronts.{Front, NoMore, front_words, front_of, front_start, adds}
use Rattle.neph_script.proofs.Turned.{run, run_append, run_groups, more_turns, more_push, script_more, end_more, all_of, IsGroup, groups_all, groups_fit, length_groups}
use Rattle.neph_script.proofs.Goods.{Good, good_line, good_turns, lines_again, read_again}

-- before the turns: what was read is read of its own words
record Before (r : Read) : Type 0 where
  front : Front r
  reached : run nothing_read (front_words r) ≡ Ok r
  good : All Good (front_words r)

-- behind some lines of turns
record Behind (r : Read) : Type 0 where
  start : Read
  before : Before start
  started : start.place ≡ place.Started
  cuts : List (List Actor)
  groups : All IsGroup cuts
  few : length cuts ≤ 64
  count : r.turn_lines ≡ length cuts
  turned : r.place ≡ place.Turned
  is : r ≡ more_turns start cuts

abbrev OneOf : Read → Type 0
OneOf r = Before r ⊎ Behind r

run_one : (r : Read) (line : List ℕ) (i : Item) → SaysThis r line i → run r (words line ∷ []) ≡ Ok (taken r i)
run_one r line i h = ap (λ (o : Result Item Why). (o >>= λ j. Ok (taken r j)) >>= λ n. Ok n) h.said

-- a line that isn't one of turns
more_before : (r : Read) (line : List ℕ) (i : Item) → ((more : List Actor) → i ≡ item.Turns more → ⊥) → Before r → SaysThis r line i → Before (taken r i)
more_before r line i other b h =
    let a = adds r (words line) i other b.front h.stands in
    let is : front_words (taken r i) ≡ front_words r ++ words line ∷ [] = a.adds ∙ ap (λ (w : List (List ℕ)). front_words r ++ w ∷ []) (sym h.stands.spelled) in
    record {
      front = a.front;
      reached = ap (run nothing_read) is ∙ run_append nothing_read r (front_words r) (words line ∷ []) b.reached ∙ run_one r line i h;
      good = subst (All Good) (sym is) (All-push Good (front_words r) (words line) b.good (good_line line h.text h.kept));
    }

started_here : (p : Place) → may_stand form.Turns p ≡ true → (p ≡ place.Started) ⊎ (p ≡ place.Turned)
started_here place.Top e = absurd cc
started_here place.Headed e = absurd cc
started_here place.Framed e = absurd cc
started_here place.Inside e = absurd cc
started_here place.Between e = absurd cc
started_here place.Started e = inl refl
started_here place.Turned e = inr refl

-- only turns stand behind turns
only_turns : (i : Item) → may_stand (form_said i) place.Turned ≡ true → (P : Type 0) → ((more : List Actor) → i ≡ item.Turns more → P) → P
only_turns item.Heading e P h = absurd cc
only_turns (item.Frames n) e P h = absurd cc
only_turns (item.Program n) e P h = absurd cc
only_turns (item.Command s) e P h = absurd cc
only_turns (item.Label n) e P h = absurd cc
only_turns (item.End cs) e P h = absurd cc
only_turns (item.Start t) e P h = absurd cc
only_turns (item.Turns more) e P h = h more refl

group_of : (r : Read) (ws : List (List ℕ)) (more : List Actor) → Stands r ws (item.Turns more) → IsGroup more
group_of r ws more s = record { some = s.said.0; few = s.said.1; fits = s.said.2 }

first_turns : (r : Read) (line : List ℕ) (more : List Actor) → Before r → SaysThis r line (item.Turns more) → r.place ≡ place.Started → Behind (taken r (item.Turns more))
first_turns r line more b h at =
    record {
      start = r;
      before = b;
      started = at;
      cuts = more ∷ [];
      groups = All-cons IsGroup more [] (group_of r (words line) more h.stands) (All-nil IsGroup);
      few = omega arith;
      count = omega (arith, b.front.no_lines);
      turned = refl;
      is = refl;
    }

lines_left : (r : Read) (ws : List (List ℕ)) (more : List Actor) → Stands r ws (item.Turns more) → r.turn_lines < 64
lines_left r ws more s = leb-false 64 r.turn_lines (first (nat_le 64 r.turn_lines) _ s.few)

next_turns : (r : Read) (line : List ℕ) (more : List Actor) → Behind r → SaysThis r line (item.Turns more) → Behind (taken r (item.Turns more))
next_turns r line more b h =
    record {
      start = b.start;
      before = b.before;
      started = b.started;
      cuts = b.cuts ++ more ∷ [];
      groups = All-push IsGroup b.cuts more b.groups (group_of r (words line) more h.stands);
      few = omega (arith, length-append b.cuts (more ∷ []), b.count, lines_left r (words line) more h.stands);
      count = omega (arith, length-append b.cuts (more ∷ []), b.count);
      turned = refl;
      is = ap (λ (x : Read). taken x (item.Turns more)) b.is ∙ sym (more_push b.start b.cuts more);
    }

turned_not_before : (r : Read) → Before r → r.place ≡ place.Turned → ⊥
turned_not_before r b e = subst (λ (p : Place). NoMore p r.programs r.starts) e b.front.no_more

keeps : (r : Read) (line : List ℕ) (i : Item) → OneOf r → SaysThis r line i → OneOf (taken r i)
keeps r line item.Heading (inl b) h = inl (more_before r line item.Heading (λ more e. absurd cc) b h)
keeps r line (item.Frames n) (inl b) h = inl (more_before r line (item.Frames n) (λ more e. absurd cc) b h)
keeps r line (item.Program n) (inl b) h = inl (more_before r line (item.Program n) (λ more e. absurd cc) b h)
keeps r line (item.Command c) (inl b) h = inl (more_before r line (item.Command c) (λ more e. absurd cc) b h)
keeps r line (item.Label n) (inl b) h = inl (more_before r line (item.Label n) (λ more e. absurd cc) b h)
keeps r line (item.End cs) (inl b) h = inl (more_before r line (item.End cs) (λ more e. absurd cc) b h)
keeps r line (item.Start t) (inl b) h = inl (more_before r line (item.Start t) (λ more e. absurd cc) b h)
keeps r line (item.Turns more) (inl b) h = at (started_here r.place h.stands.place) where
  at : (r.place ≡ place.Started) ⊎ (r.place ≡ place.Turned) → OneOf (taken r (item.Turns more))
  at (inl here) = inr (first_turns r line more b h here)
  at (inr turned) = absurd (turned_not_before r b turned)
keeps r line i (inr b) h =
    only_turns i (subst (λ (p : Place). may_stand (form_said i) p ≡ true) b.turned h.stands.place) (OneOf (taken r i))
    (λ more e. subst (λ (j : Item). OneOf (taken r j)) (sym e) (inr (next_turns r line more b (subst (SaysThis r line) e h))))

all_actors : (cuts : List (List Actor)) → All IsGroup cuts → All IsActor (all_of cuts)
all_actors [] h = All-nil IsActor
all_actors (g ∷ gs) h = All-append IsActor g (all_of gs) (All-head IsGroup g gs h).fits (all_actors gs (All-tail IsGroup g gs h))

few_actors : (cuts : List (List Actor)) → All IsGroup cuts → length (all_of cuts) ≤ 64 * length cuts
few_actors [] h = omega arith
few_actors (g ∷ gs) h = omega (arith, length-append g (all_of gs), (All-head IsGroup g gs h).few, few_actors gs (All-tail IsGroup g gs h))

split_words : (p : Place) (n : ℕ) (ps : List Program) (d : Draft) (ts : List Start) (t : List Actor) → p ≡ place.Started
    → script_words (record { frames = n; programs = ps; starts = ts; turns = t }) ≡ front_of p n ps d ts ++ map turns_words (turn_groups t)
split_words p n ps d ts t at = rw at refl

-- the words of a script are those before its turns, and then its turns in groups
all_words : (start : Read) (s : Script) → start.place ≡ place.Started → s ≡ record (script_read start) { turns = s.turns } → script_words s ≡ front_words start ++ map turns_words (turn_groups s.turns)
all_words start s at is = ap script_words is ∙ split_words start.place start.frames start.programs start.draft start.starts s.turns at

read_printed : (start : Read) (cuts : List (List Actor)) (s : Script) → Before start → start.place ≡ place.Started → All IsGroup cuts → length cuts ≤ 64 → script_read (more_turns start cuts) ≡ s → read_script (script_text s) ≡ Ok s
unfolding read_script
read_printed start cuts s b at fine few is =
    let turns_is : start.turns ++ all_of cuts ≡ all_of cuts = ap (λ (t : List Actor). t ++ all_of cuts) b.front.no_turns in
    let shape : script_read (more_turns start cuts) ≡ record (script_read start) { turns = all_of cuts } = script_more start cuts ∙ ap (λ (t : List Actor). record (script_read start) { turns = t }) turns_is in
    let whole : s ≡ record (script_read start) { turns = all_of cuts } = sym is ∙ shape in
    let t = all_of cuts in
    let own : s.turns ≡ t = ap (λ (x : Script). x.turns) whole in
    let same : s ≡ record (script_read start) { turns = s.turns } = whole ∙ ap (λ (x : List Actor). record (script_read start) { turns = x }) (sym own) in
    let ls = script_words s in
    let gs = turn_groups s.turns in
    let actors : All IsActor s.turns = subst (All IsActor) (sym own) (all_actors cuts fine) in
    let few_turns : length s.turns ≤ 64 * length cuts = omega (arith, ap length own, few_actors cuts fine) in
    let fit : All IsGroup gs = groups_fit ((length s.turns + 63) / 64) s.turns refl actors in
    let count : length gs ≡ (length s.turns + 63) / 64 = length_groups ((length s.turns + 63) / 64) s.turns in
    let parts : ls ≡ front_words start ++ map turns_words gs = all_words start s at same in
    let good : All Good ls = subst (All Good) (sym parts) (All-append Good (front_words start) (map turns_words gs) b.good (All-map Good turns_words gs (λ k d lt. good_turns _ (fit k d lt)))) in
    let ran : run nothing_read ls ≡ Ok (more_turns start gs) =
    ap (run nothing_read) parts ∙ run_append nothing_read start (front_words start) (map turns_words gs) b.reached
    ∙ run_groups start gs fit (ap (may_stand form.Turns) at) (omega (arith, b.front.no_lines, count, few_turns, few)) in
    let back : script_read (more_turns start gs) ≡ s =
    script_more start gs
    ∙ ap (λ (x : List Actor). record (script_read start) { turns = x })
    (ap (λ (x : List Actor). x ++ all_of gs) b.front.no_turns ∙ groups_all ((length s.turns + 63) / 64) s.turns (omega arith))
    ∙ sym same in
    ap (read_lines 1 nothing_read) (lines_again ls good) ∙ read_again 1 nothing_read (more_turns start gs) ls good ran (end_more start gs (ap may_end at)) ∙ ap Ok back

ended_here : (p : Place) → may_end p ≡ true → (p ≡ place.Started) ⊎ (p ≡ place.Turned)
ended_here place.Top e = absurd cc
ended_here place.Headed e = absurd cc
ended_here place.Framed e = absurd cc
ended_here place.Inside e = absurd cc
ended_here place.Between e = absurd cc
ended_here place.Started e = inl refl
ended_here place.Turned e = inr refl

at_end : (last : Read) (s : Script) → OneOf last → may_end last.place ≡ true → script_read last ≡ s → read_script (script_text s) ≡ Ok s
at_end last s (inl b) may is = at (ended_here last.place may) where
  at : (last.place ≡ place.Started) ⊎ (last.place ≡ place.Turned) → read_script (script_text s) ≡ Ok s
  at (inl here) = read_printed last [] s b here (All-nil IsGroup) (omega arith) is
  at (inr turned) = absurd (turned_not_before last b turned)
at_end last s (inr b) may is = read_printed b.start b.cuts s b.before b.started b.groups b.few (ap script_read (sym b.is) ∙ is)

pub printed_again : (bytes : List ℕ) (s : Script) → read_script bytes ≡ Ok s → read_script (script_text s) ≡ Ok s
unfolding read_script
printed_again bytes s e =
    let ends = folded_lines OneOf keeps 1 nothing_read (lines bytes) s (inl (record { front = front_start; reached = refl; good = All-nil Good })) e in
    at_end ends.last s ends.holds ends.may ends.is
