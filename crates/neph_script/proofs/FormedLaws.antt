-- What is read is well formed.
use Rattle.std.proofs.Common.{◌≡◌, ℕ, zero, suc, ◌+◌, ◌≤◌, true, false, List, [], ◌∷◌, ◌++◌, length, Option, Some, None, Ok, All, refl, sym, ap, subst, ◌∙◌, arith}
use Rattle.std.specs.Prelude.{nat_lt}
use Rattle.std.proofs.lemmas.Bool.{ltb-true, leb-false}
use Rattle.std.proofs.lemmas.List.{length-append}
use Rattle.std.proofs.lemmas.List.Elements.{All-nil, All-cons, All-push, All-head, All-tail}
use Rattle.std.proofs.lemmas.List.Quantifiers.{position-Some}
use Rattle.neph_base.specs.declared.command.Command.{Command}
use Rattle.neph_base.specs.declared.command.Command.TheVariants as command
use Rattle.neph_model.specs.declared.script.Script.{Script}
use Rattle.neph_model.specs.declared.script.Program.{Program}
use Rattle.neph_model.specs.declared.script.Label.{Label}
use Rattle.neph_model.specs.declared.script.Start.{Start}
use Rattle.neph_model.specs.Programs.{command_in, label_line}
use Rattle.neph_model.specs.WellFormed.{FitsPage, IsAhead, JumpsAhead, IsWellFormedProgram, IsWellFormedStart, IsWellFormed, frames_of_starts}
use Rattle.neph_command.specs.declared.command.Said.{Said}
use Rattle.neph_command.specs.declared.command.Said.TheVariants as said
use Rattle.neph_script.specs.declared.state.Place.{Place}
use Rattle.neph_script.specs.declared.state.Place.TheVariants as place
use Rattle.neph_script.specs.declared.state.Item.{Item}
use Rattle.neph_script.specs.declared.state.Item.TheVariants as item
use Rattle.neph_script.specs.declared.form.Form.{Form}
use Rattle.neph_script.specs.declared.form.Form.TheVariants as form
use Rattle.neph_command.specs.declared.why.Why.TheVariants as why
use Rattle.neph_script.specs.State.{Read, nothing_read, script_read}
use Rattle.neph_command.specs.Words.{equals}
use Rattle.neph_script.specs.Lines.{taken, settled, settled_one, toward, ahead, label_place, may_stand}
use Rattle.neph_command.specs.Commands.{InRange}
use Rattle.neph_command.proofs.CommandLaws.{within}
use Rattle.neph_script.specs.Spelling.{Stands}
use Rattle.neph_script.specs.Grammar.{read_script, lines, may_end}
use Rattle.neph_command.proofs.Inverse.{bind_ok, let_in, same_ok}
use Rattle.neph_script.proofs.Folded.{folded}

-- the frames were read where their line stands, and the starting domains so far need no more
FramesRead : Place → ℕ → List Start → Type 0
FramesRead place.Top n starts = starts ≡ []
FramesRead place.Headed n starts = starts ≡ []
FramesRead _ n starts = (16 ≤ n) × (n ≤ 16384) × (frames_of_starts starts ≤ n)

record Formed (r : Read) : Type 0 where
  frames : FramesRead r.place r.frames r.starts
  programs : All IsWellFormedProgram r.programs
  said : All InRange r.draft.said
  said_few : length r.draft.said ≤ 512
  labels : All (λ (l : Label). l.at ≤ length r.draft.said) r.draft.labels
  starts : All (IsWellFormedStart (length r.programs)) r.starts
  few : length r.starts ≤ 16

at_start : Formed nothing_read
unfolding FramesRead
at_start = record { frames = refl; programs = All-nil IsWellFormedProgram; said = All-nil InRange; said_few = omega arith; labels = All-nil (λ (l : Label). l.at ≤ 0); starts = All-nil (IsWellFormedStart 0); few = omega arith }

-- a form that stands behind the frames only
framed : (f : Form) (p : Place) (n : ℕ) (starts : List Start) → may_stand f place.Top ≡ false → may_stand f place.Headed ≡ false → may_stand f p ≡ true → FramesRead p n starts → (16 ≤ n) × (n ≤ 16384) × (frames_of_starts starts ≤ n)
unfolding FramesRead
framed f place.Top n starts a b e h = absurd cc
framed f place.Headed n starts a b e h = absurd cc
framed f place.Framed n starts a b e h = h
framed f place.Inside n starts a b e h = h
framed f place.Between n starts a b e h = h
framed f place.Started n starts a b e h = h
framed f place.Turned n starts a b e h = h

-- at the first line and at that of the frames no domain has started
none_started : (f : Form) (p : Place) (n : ℕ) (starts : List Start) → may_stand f place.Framed ≡ false → may_stand f place.Inside ≡ false → may_stand f place.Between ≡ false → may_stand f place.Started ≡ false → may_stand f place.Turned ≡ false
    → may_stand f p ≡ true → FramesRead p n starts → starts ≡ []
unfolding FramesRead
none_started f place.Top n starts a b c d t e h = h
none_started f place.Headed n starts a b c d t e h = h
none_started f place.Framed n starts a b c d t e h = absurd cc
none_started f place.Inside n starts a b c d t e h = absurd cc
none_started f place.Between n starts a b c d t e h = absurd cc
none_started f place.Started n starts a b c d t e h = absurd cc
none_started f place.Turned n starts a b c d t e h = absurd cc

no_label : Label
no_label = record { name = []; at = 0 }

ahead_is : (labels : List Label) (line : ℕ) (target : List ℕ) (o : Option ℕ) (p : ℕ) → label_place labels target ≡ o → ahead labels line o ≡ Ok p → IsAhead labels line p
ahead_is labels line target None p is e = absurd cc
ahead_is labels line target (Some q) p is e =
    let h = let_in (nat_lt line (label_line labels q)) why.Label (Ok q) p e in
    let within = position-Some (λ (l : Label). equals target l.name) labels q no_label is in
    subst (IsAhead labels line) (same_ok q p h.1) (within.0, ltb-true line (label_line labels q) h.0)

-- a settled command fits, and jumps ahead
Settles : List Label → ℕ → Command → Type 0
Settles labels line c = FitsPage c × JumpsAhead labels line c

toward_settles : (labels : List Label) (line : ℕ) (target : List ℕ) (jump : ℕ → Command) (c : Command) → ((p : ℕ) → IsAhead labels line p → Settles labels line (jump p)) → toward labels line target jump ≡ Ok c → Settles labels line c
toward_settles labels line target jump c fits e =
    let one = bind_ok (ahead labels line (label_place labels target)) (λ p. Ok (jump p)) c e in
    subst (Settles labels line) (same_ok (jump one.value) c one.rest) (fits one.value (ahead_is labels line target (label_place labels target) one.value refl one.first))

whole_settles : (labels : List Label) (line : ℕ) (c : Command) → InRange (said.Whole c) → Settles labels line c
unfolding Settles
whole_settles labels line (command.W addr bytes) h = (within _ why.Hex h.right, tt)
whole_settles labels line (command.R addr len) h = ((h.fits.1.0.0, h.fits.1.0.1, within _ why.Number h.right), tt)
whole_settles labels line (command.Hr k offset len) h = ((h.fits.1.1.0.0, h.fits.1.1.0.1, within _ why.Number h.right), tt)
whole_settles labels line (command.Hw k offset bytes) h = (within _ why.Hex h.right, tt)
whole_settles labels line (command.Jump label) h = absurd cc
whole_settles labels line (command.JChild label) h = absurd cc
whole_settles labels line (command.JFail label) h = absurd cc
whole_settles labels line _ h = (tt, tt)

one_settles : (labels : List Label) (line : ℕ) (s : Said) (c : Command) → InRange s → settled_one labels line s ≡ Ok c → Settles labels line c
unfolding Settles
one_settles labels line (said.Whole x) c h e = subst (Settles labels line) (same_ok x c e) (whole_settles labels line x h)
one_settles labels line (said.Jump target) c h e = toward_settles labels line target command.Jump c (λ p a. (tt, a)) e
one_settles labels line (said.JChild target) c h e = toward_settles labels line target command.JChild c (λ p a. (tt, a)) e
one_settles labels line (said.JFail target) c h e = toward_settles labels line target command.JFail c (λ p a. (tt, a)) e

all_fit : (labels : List Label) (line : ℕ) (ss : List Said) (cs : List Command) → All InRange ss → settled labels line ss ≡ Ok cs → All FitsPage cs
unfolding Settles
all_fit labels line [] cs h e = subst (All FitsPage) (same_ok [] cs e) (All-nil FitsPage)
all_fit labels line (s ∷ ss) cs h e =
    let one = bind_ok (settled_one labels line s) _ cs e in
    let two = bind_ok (settled labels (line + 1) ss) _ cs one.rest in
    subst (All FitsPage) (same_ok (one.value ∷ two.value) cs two.rest)
    (All-cons FitsPage one.value two.value (one_settles labels line s one.value (All-head InRange s ss h) one.first).0 (all_fit labels (line + 1) ss two.value (All-tail InRange s ss h) two.first))

-- each command from a line on jumps ahead
AllAhead : List Label → ℕ → List Command → Type 0
AllAhead labels line cs = (k : ℕ) → JumpsAhead labels (line + k) (command_in cs k)

ahead_cons : (labels : List Label) (line : ℕ) (c : Command) (cs : List Command) → JumpsAhead labels line c → AllAhead labels (line + 1) cs → AllAhead labels line (c ∷ cs)
unfolding AllAhead
ahead_cons labels line c cs here more zero = let same : line ≡ line + 0 = omega arith in subst (λ (n : ℕ). JumpsAhead labels n c) same here
ahead_cons labels line c cs here more (suc k) = let same : line + 1 + k ≡ line + suc k = omega arith in subst (λ (n : ℕ). JumpsAhead labels n (command_in cs k)) same (more k)

all_ahead : (labels : List Label) (line : ℕ) (ss : List Said) (cs : List Command) → All InRange ss → settled labels line ss ≡ Ok cs → AllAhead labels line cs
unfolding AllAhead Settles
all_ahead labels line [] cs h e = subst (AllAhead labels line) (same_ok [] cs e) (λ k. tt)
all_ahead labels line (s ∷ ss) cs h e =
    let one = bind_ok (settled_one labels line s) _ cs e in
    let two = bind_ok (settled labels (line + 1) ss) _ cs one.rest in
    subst (AllAhead labels line) (same_ok (one.value ∷ two.value) cs two.rest)
    (ahead_cons labels line one.value two.value (one_settles labels line s one.value (All-head InRange s ss h) one.first).1 (all_ahead labels (line + 1) ss two.value (All-tail InRange s ss h) two.first))

as_many : (labels : List Label) (line : ℕ) (said : List Said) (cs : List Command) → settled labels line said ≡ Ok cs → length cs ≡ length said
as_many labels line [] cs e = ap length (sym (same_ok [] cs e))
as_many labels line (s ∷ ss) cs e =
    let one = bind_ok (settled_one labels line s) _ cs e in
    let two = bind_ok (settled labels (line + 1) ss) _ cs one.rest in
    ap length (sym (same_ok (one.value ∷ two.value) cs two.rest)) ∙ ap suc (as_many labels (line + 1) ss two.value two.first)

ended_formed : (r : Read) (cs : List Command) → Formed r → settled r.draft.labels 0 r.draft.said ≡ Ok cs → IsWellFormedProgram (record { name = r.draft.name; commands = cs; labels = r.draft.labels })
unfolding AllAhead
ended_formed r cs l e =
    let count : length cs ≡ length r.draft.said = as_many r.draft.labels 0 r.draft.said cs e in
    record {
      fit = all_fit r.draft.labels 0 r.draft.said cs l.said e;
      few = omega (arith, count, l.said_few);
      labels = λ k d lt. omega (arith, count, l.labels k d lt);
      ahead = λ line. let same : 0 + line ≡ line = omega arith in subst (λ (n : ℕ). JumpsAhead r.draft.labels n (command_in cs line)) same (all_ahead r.draft.labels 0 r.draft.said cs l.said e line);
    }

more_programs : (n : ℕ) (starts : List Start) → All (IsWellFormedStart n) starts → All (IsWellFormedStart (n + 1)) starts
more_programs n starts h = λ k d lt. let t = h k d lt in record { pages_low = t.pages_low; pages_high = t.pages_high; limit = t.limit; program = omega (arith, t.program) }

no_said : (n : ℕ) → All (λ (l : Label). l.at ≤ n) []
no_said n = All-nil (λ (l : Label). l.at ≤ n)

longer : (r : Read) (c : Said) → length (r.draft.said ++ c ∷ []) ≡ length r.draft.said + 1
longer r c = length-append r.draft.said (c ∷ [])

none_needed : (starts : List Start) (n : ℕ) → starts ≡ [] → frames_of_starts starts ≤ n
none_needed starts n none = omega (arith, ap frames_of_starts none)

keeps : (r : Read) (ws : List (List ℕ)) (i : Item) → Formed r → Stands r ws i → Formed (taken r i)
unfolding FramesRead
keeps r ws item.Heading l s = record { frames = none_started form.Heading r.place r.frames r.starts refl refl refl refl refl s.place l.frames; programs = l.programs; said = l.said; said_few = l.said_few; labels = l.labels; starts = l.starts; few = l.few }
keeps r ws (item.Frames n) l s = record { frames = (s.said.0, s.said.1, none_needed r.starts n (none_started form.Frames r.place r.frames r.starts refl refl refl refl refl s.place l.frames)); programs = l.programs; said = l.said; said_few = l.said_few; labels = l.labels; starts = l.starts; few = l.few }
keeps r ws (item.Program name) l s =
    record { frames = framed form.Program r.place r.frames r.starts refl refl s.place l.frames; programs = l.programs; said = All-nil InRange; said_few = omega arith; labels = no_said 0; starts = l.starts; few = l.few }
keeps r ws (item.Command c) l s =
    record {
      frames = l.frames;
      programs = l.programs;
      said = All-push InRange r.draft.said c l.said s.said;
      said_few = omega (arith, longer r c, leb-false 512 (length r.draft.said) s.few);
      labels = λ k d lt. omega (arith, longer r c, l.labels k d lt);
      starts = l.starts;
      few = l.few;
    }
keeps r ws (item.Label name) l s =
    record {
      frames = l.frames;
      programs = l.programs;
      said = l.said;
      said_few = l.said_few;
      labels = All-push (λ (x : Label). x.at ≤ length r.draft.said) r.draft.labels (record { name = name; at = length r.draft.said }) l.labels (omega arith);
      starts = l.starts;
      few = l.few;
    }
keeps r ws (item.End cs) l s =
    let p : Program = record { name = r.draft.name; commands = cs; labels = r.draft.labels } in
    let more : length (r.programs ++ p ∷ []) ≡ length r.programs + 1 = length-append r.programs (p ∷ []) in
    record {
      frames = framed form.End r.place r.frames r.starts refl refl s.place l.frames;
      programs = All-push IsWellFormedProgram r.programs p l.programs (ended_formed r cs l s.said);
      said = All-nil InRange;
      said_few = omega arith;
      labels = no_said 0;
      starts = subst (λ (n : ℕ). All (IsWellFormedStart n) r.starts) (sym more) (more_programs (length r.programs) r.starts l.starts);
      few = l.few;
    }
keeps r ws (item.Start t) l s =
    let frames = framed form.Domain r.place r.frames r.starts refl refl s.place l.frames in
    record {
      frames = (frames.0, frames.1, s.said.frames);
      programs = l.programs;
      said = l.said;
      said_few = l.said_few;
      labels = l.labels;
      starts = All-push (IsWellFormedStart (length r.programs)) r.starts t l.starts (record { pages_low = s.said.pages_low; pages_high = s.said.pages_high; limit = s.said.limit; program = s.said.program });
      few = omega (arith, length-append r.starts (t ∷ []), leb-false 16 (length r.starts) s.few);
    }
keeps r ws (item.Turns more) l s =
    record { frames = framed form.Turns r.place r.frames r.starts refl refl s.place l.frames; programs = l.programs; said = l.said; said_few = l.said_few; labels = l.labels; starts = l.starts; few = l.few }

at_end : (p : Place) (n : ℕ) (starts : List Start) → may_end p ≡ true → FramesRead p n starts → (16 ≤ n) × (n ≤ 16384) × (frames_of_starts starts ≤ n)
unfolding FramesRead
at_end place.Top n starts e h = absurd cc
at_end place.Headed n starts e h = absurd cc
at_end place.Framed n starts e h = h
at_end place.Inside n starts e h = h
at_end place.Between n starts e h = h
at_end place.Started n starts e h = h
at_end place.Turned n starts e h = h

pub formed_read : (bytes : List ℕ) (s : Script) → read_script bytes ≡ Ok s → IsWellFormed s
unfolding read_script
formed_read bytes s e =
    let end = folded Formed keeps 1 nothing_read (lines bytes) s at_start e in
    let frames = at_end end.last.place end.last.frames end.last.starts end.may end.holds.frames in
    let here : IsWellFormed (script_read end.last) = record { frames_low = frames.0; frames_high = frames.1; programs = end.holds.programs; starts = end.holds.starts; few = end.holds.few; room = frames.2 } in
    subst IsWellFormed end.is here
