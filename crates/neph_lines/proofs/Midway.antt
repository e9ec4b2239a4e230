-- A domain that has tried its line by itself: what the turn does then.
use Rattle.std.proofs.Common.{◌≡◌, ◌≢◌, ℕ, false, None, refl, sym, ap, subst, ◌∙◌, arith}
use Rattle.std.specs.Prelude.{is_some}
use Rattle.std.specs.declared.option.Option.{Option}
use Rattle.std.proofs.lemmas.List.{get_or-set_same}
use Rattle.neph_base.specs.declared.command.Command.{Command}
use Rattle.neph_base.specs.declared.command.Command.TheVariants as command
use Rattle.neph_base.specs.declared.reply.Actor.TheVariants as actor
use Rattle.neph_base.specs.declared.reply.Entry.TheVariants.{Line}
use Rattle.neph_base.specs.declared.reply.Reply.{Reply}
use Rattle.neph_model.specs.declared.own.Own.{Own}
use Rattle.neph_model.specs.declared.told.Told.TheVariants.{Enough}
use Rattle.neph_model.specs.Machine.{program_of, program_run}
use Rattle.neph_model.specs.Programs.{command_at}
use Rattle.neph_model.specs.Own.{local_step}
use Rattle.neph_model.specs.Step.{is_paused}
use Rattle.neph_model.specs.Books.{State, free}
use Rattle.neph_model.specs.Turns.{ready_move, move_turn, turn}
use Rattle.neph_runs.specs.Orderly.{seat as part_at}
use Rattle.neph_pool.specs.World.{World}
use Rattle.neph_guest.specs.declared.live.Live.{Live}
use Rattle.neph_guest.specs.declared.live.Stage.TheVariants.{Ready}
use Rattle.neph_guest.specs.declared.row.LocalTurn.{LocalTurn}
use Rattle.neph_guest.specs.declared.row.LocalTurn.TheVariants as local
use Rattle.neph_guest.specs.OwnHalf.{IsOwnHalf}
use Rattle.neph_guest.specs.Turns.{LacksLeaf, spare_after}
use Rattle.neph_rows.specs.Records.{shared_of}
use Rattle.neph_machine.specs.declared.place.Place.TheVariants.{Empty, Domain}
use Rattle.neph_machine.specs.declared.machine.Machine.{Machine}
use Rattle.neph_machine.specs.declared.turn.Turn.{Turn}
use Rattle.neph_machine.specs.declared.turn.Turn.TheVariants.{Moved, Noted as Entered}
use Rattle.neph_machine.specs.Surveyed.{IsSurveyed}
use Rattle.neph_machine.specs.Places.{place_at}
use Rattle.neph_machine.specs.Stages.{IsReadyAt}
use Rattle.neph_machine.specs.StandsFor.{command_of, StandsFor}
use Rattle.neph_machine.specs.Turned.{Took}
use Rattle.neph_machine.proofs.Reached.{IsReached}
use Rattle.neph_lines.proofs.Tries.{HasTried}
use Rattle.neph_lines.proofs.Lines.{NeedsFrame, bare_move}
use Rattle.neph_machine.proofs.Carrying.{same_live}
use Rattle.neph_lines.proofs.Sparing.{was, within}
use Rattle.neph_lines.proofs.CopyTurns.{took_from}
use Rattle.neph_lines.proofs.ReadyLines.{Tried, at_line, its, no_hand, program_found, turn_is, stands_same, took_copies}
use Rattle.neph_lines.proofs.Doing.{took_did}
use Rattle.neph_lines.proofs.Mapping.{lacks_map, map_needs, map_bare}

-- the turn has done nothing yet: it lacks a frame, or has to ask
abbrev pub IsMidway : LocalTurn → Type 0
IsMidway (local.Did r) = ⊥
IsMidway local.Copies = ⊥
IsMidway local.LacksFrame = Unit {0}
IsMidway local.Asks = Unit {0}

-- A domain of a machine that stands for the state st was ready for its line, and has tried it. It came to t.
pub record Trial {Pool Seat : Type 0} (W : World Pool Seat) (old mid : Machine Pool Seat) (st : State) (id line : ℕ) (c : Command) (t : LocalTurn) : Type 0 where
  pub reached : IsReached old.script st
  pub stands : StandsFor W old st
  pub ready : IsReadyAt old id c
  pub did : HasTried W old mid id line c t

module _ {Pool Seat : Type 0} {W : World Pool Seat} {old mid : Machine Pool Seat} {st : State} {id line : ℕ} {c : Command} {t : LocalTurn} (x : Trial W old mid st id line c t) where
  -- by the definitions
  tried : Tried W old.pool x.did.live mid.pool x.did.left (part_at st id).own c (local_step old.script (program_of (part_at st id).life) (part_at st id).own Enough c) t
  tried = record {
    turn = x.did.done old.script _ _ (program_found W old st x.reached x.stands id x.did.live x.did.turned.here c x.ready _ refl x.did.program x.did.runs) (was W old st x.reached x.stands id x.did.live x.did.turned.here).own;
    hand = x.did.hand;
    look = x.did.look;
    spare = x.did.spare;
    held = x.did.held;
    lacks = x.did.lacks;
    stage = x.did.stage;
  }

-- what a turn midway has left as it was
record Left {Pool Seat : Type 0} (W : World Pool Seat) (q : Pool) (l k : Live Pool Seat) (o : Own) : Type 0 where
  half : IsOwnHalf W q k o
  spare : k.local.own.spare ≡ l.local.own.spare
  stage : k.guest.stage ≡ l.guest.stage
  hand : k.local.hand ≡ l.local.hand

left_by : {Pool Seat : Type 0} (W : World Pool Seat) (p q : Pool) (l k : Live Pool Seat) (o : Own) (c : Command) (step : Option (Own × Reply)) (t : LocalTurn) → IsMidway t → Tried W p l q k o c step t → Left W q l k o
left_by W p q l k o c step (local.Did r) m d = absurd m
left_by W p q l k o c step local.Copies m d = absurd m
left_by W p q l k o c step local.LacksFrame m d = record { half = d.turn.1; spare = d.spare ∙ same c; stage = d.stage; hand = d.hand } where
  same : (c : Command) → spare_after W p l.local c local.LacksFrame ≡ l.local.own.spare
  same (command.Map vpn pfn mode) = refl
  same _ = refl
left_by W p q l k o c step local.Asks m d = record { half = d.turn.1; spare = d.spare ∙ same c; stage = d.stage; hand = d.hand } where
  same : (c : Command) → spare_after W p l.local c local.Asks ≡ l.local.own.spare
  same (command.Map vpn pfn mode) = refl
  same _ = refl

module _ {Pool Seat : Type 0} {W : World Pool Seat} {old mid : Machine Pool Seat} {st : State} {id line : ℕ} {c : Command} {t : LocalTurn} (x : Trial W old mid st id line c t) (midway : IsMidway t) where
  at_ready : x.did.live.guest.stage ≡ Ready
  at_ready = at_line W old st x.reached x.stands id x.did.live x.did.turned.here c x.ready

  left : Left W mid.pool x.did.live x.did.left (part_at st id).own
  left = left_by W old.pool mid.pool x.did.live x.did.left (part_at st id).own c _ t midway (tried x)

  pub mid_stands : StandsFor W mid st
  mid_stands = let d = x.did in stands_same W old st x.reached x.stands id d.live d.turned.here c x.ready mid d.turned.script d.turned.hv d.left d.turned.places d.turned.moves d.dom d.id_is d.turned.stands left.half d.pages left.spare (left.stage ∙ at_ready) (left.hand ∙ no_hand W old st x.reached x.stands id d.live d.turned.here c x.ready)

  -- the domain is there still
  pub there : place_at id mid.places.items ≡ Domain x.did.left
  there = ap (place_at id) x.did.turned.places ∙ get_or-set_same old.places.items id (Domain x.did.left) Empty (let n = x.stands.places in let lt = within W old st x.reached x.stands id x.did.live x.did.turned.here in omega arith)

  -- it is at its line still
  pub line_same : x.did.left.guest.line ≡ x.did.live.guest.line
  line_same = let is = was W old st x.reached x.stands id x.did.live x.did.turned.here in sym left.half.line ∙ is.own.line

  pub mid_ready : IsReadyAt mid id c
  mid_ready =
      let d = x.did in
      let is = was W old st x.reached x.stands id d.live d.turned.here in
      let same : d.left.guest.line ≡ x.ready.domain.guest.line = sym left.half.line ∙ is.own.line ∙ ap (λ (v : Live Pool Seat). v.guest.line) (same_live d.live x.ready.domain (sym d.turned.here ∙ x.ready.here)) in record {
        domain = d.left;
        here = there;
        ready = left.stage ∙ at_ready;
        runs = λ pages. ap (λ h. is_paused id (shared_of h.registry pages)) d.turned.hv ∙ x.ready.runs pages;
        command = ap (λ s. command_at s (program_run id mid.hv.registry.lives) d.left.guest.line) d.turned.script ∙ ap (λ h. command_at old.script (program_run id h.registry.lives) d.left.guest.line) d.turned.hv ∙ ap (command_at old.script (program_run id old.hv.registry.lives)) same ∙ x.ready.command;
      }

-- it did the line
pub did_took : {Pool Seat : Type 0} {W : World Pool Seat} {old mid : Machine Pool Seat} {st : State} {id line : ℕ} {c : Command} {r : Reply} → Trial W old mid st id line c (local.Did r) → IsSurveyed W → c ≢ command.Exit → c ≢ command.Clone → Took W old mid (turn old.script st (actor.Dom id)) (Entered (record { entry = Line id line; reply = r }))
did_took {Pool} {Seat} {W} {old} {mid} {st} {id} {line} {c} {r} x survey no_exit no_clone = let d = x.did in
    subst (λ (n : ℕ). Took W old mid (turn old.script st (actor.Dom id)) (Entered (record { entry = Line id n; reply = r }))) (sym d.at)
    (took_did W old st x.reached x.stands id d.live d.turned.here c x.ready survey mid d.turned.script d.turned.hv d.left d.turned.places d.turned.moves d.dom d.id_is d.turned.stands no_exit no_clone r d.turned.shares d.pages (tried x))

-- it has a write in hand
pub copies_took : {Pool Seat : Type 0} {W : World Pool Seat} {old mid : Machine Pool Seat} {st : State} {id line : ℕ} {c : Command} → Trial W old mid st id line c local.Copies → IsSurveyed W → Took W old mid (turn old.script st (actor.Dom id)) Moved
copies_took {Pool} {Seat} {W} {old} {mid} {st} {id} {line} {c} x survey = let d = x.did in
    took_copies W old st x.reached x.stands id d.live d.turned.here c x.ready mid d.turned.script d.turned.hv d.left d.turned.places d.turned.moves d.dom d.id_is d.turned.stands survey d.turned.shares (tried x)

-- it has to be asked of the hypervisor
module _ {Pool Seat : Type 0} {W : World Pool Seat} {old mid : Machine Pool Seat} {st : State} {id line : ℕ} {c : Command} (x : Trial W old mid st id line c local.Asks) where
  pub alone : local_step old.script (program_of (part_at st id).life) (part_at st id).own Enough c ≡ None
  alone = (tried x).turn.0

-- it is a `map` that needs a leaf table, for which no spare is held
module _ {Pool Seat : Type 0} {W : World Pool Seat} {old mid : Machine Pool Seat} {st : State} {id line : ℕ} {c : Command} (x : Trial W old mid st id line c local.LacksFrame) where
  lacks : LacksLeaf (part_at st id).own c
  lacks = (tried x).turn.0

  is_its : command_of old.script (part_at st id) ≡ c
  is_its = its W old st x.reached x.stands id x.did.live x.did.turned.here c x.ready

  pub mid_needs : NeedsFrame old.script st id
  mid_needs = let m = lacks_map (part_at st id).own c lacks in map_needs W old st x.reached x.stands id x.did.live x.did.turned.here m.0 m.1 m.2 (is_its ∙ m.3) m.4 m.5

  pub spare_took : (new : Machine Pool Seat) (t : Turn) → Took W mid new (move_turn old.script st id (bare_move (free old.script st))) t → Took W old new (turn old.script st (actor.Dom id)) t
  spare_took new t took =
      let is = was W old st x.reached x.stands id x.did.live x.did.turned.here in
      let m = lacks_map (part_at st id).own c lacks in
      let no : (part_at st id).book.spare ≡ false = is.spare ∙ ap is_some x.did.lacks in
      let move = ap (ready_move (free old.script st) st.books (part_at st id).own (part_at st id).book) m.3 ∙ map_bare W old st x.reached x.stands id x.did.live x.did.turned.here m.0 m.1 m.2 (is_its ∙ m.3) m.4 m.5 no in
      subst (λ d. Took W old new d t) (sym (turn_is W old st x.reached x.stands id x.did.live x.did.turned.here c x.ready ∙ ap (move_turn old.script st id) move))
      (took_from W old mid new (move_turn old.script st id (bare_move (free old.script st))) t x.did.turned.script x.did.turned.shares took)
