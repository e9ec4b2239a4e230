-- A turn of a domain whose write is in hand.
use Rattle.std.proofs.Common.{◌≡◌, ◌⊎◌, inl, inr, ℕ, zero, suc, ◌+◌, ◌-◌, ◌^◌, ◌<◌, ◌≤◌, Bool, true, false, List, [], ◌∷◌, map, set, get_or, slice_index, min, IfSome, Some, None, sym, ap, subst, ◌∙◌, arith, if◌then◌else◌}
use Rattle.std.specs.Prelude.{is_some, ◌==◌}
use Rattle.std.specs.declared.option.Option.{Option}
use Rattle.std.proofs.lemmas.Bool.{eqb-true, ne_eqb}
use Rattle.neph_base.specs.declared.command.Command.{Command}
use Rattle.neph_base.specs.declared.command.Command.TheVariants as command
use Rattle.neph_base.specs.declared.command.Mode.TheVariants.{Rw}
use Rattle.neph_base.specs.declared.reply.Actor.TheVariants as actor
use Rattle.neph_base.specs.declared.reply.Entry.TheVariants as entry
use Rattle.neph_base.specs.declared.reply.Reply.{Reply}
use Rattle.neph_base.specs.declared.reply.Reply.TheVariants as reply
use Rattle.neph_model.specs.declared.own.Own.{Own}
use Rattle.neph_model.specs.declared.told.Told.TheVariants.{Enough}
use Rattle.neph_model.specs.Programs.{command_at}
use Rattle.neph_model.specs.Machine.{program_of, program_run}
use Rattle.neph_model.specs.Own.{mapping_at, local_step}
use Rattle.neph_model.specs.Books.{State, free}
use Rattle.neph_model.specs.Turns.{Done, move_turn, next_move, turn}
use Rattle.neph_runs.specs.Orderly.{Seat as Part, seat as part_at}
use Rattle.neph_pool.specs.declared.entry.Hold.TheVariants.{Sole}
use Rattle.neph_pool.specs.Entries.{IsSoleAt}
use Rattle.neph_pool.specs.Names.{only_name}
use Rattle.neph_pool.specs.World.{World, Moves}
use Rattle.neph_memory.specs.declared.dom_local.DomLocal.{DomLocal}
use Rattle.neph_memory.specs.Pages.{frame_at}
use Rattle.neph_memory.specs.Domains.{IsStanding, IsSharedPage, KeepsPlaces, TookSpare}
use Rattle.neph_guest.specs.declared.live.Live.{Live}
use Rattle.neph_guest.specs.declared.live.Stage.TheVariants as guest
use Rattle.neph_guest.specs.OwnHalf.{IsOwnHalf}
use Rattle.neph_guest.specs.Turns.{IsWriteInHand, HasWritten, WaitsForFrame}
use Rattle.neph_accounts.specs.Places.{Place as Held, seat_of}
use Rattle.neph_accounts.specs.Accounts.{places}
use Rattle.neph_accounts.proofs.Ids.{domain_place}
use Rattle.neph_machine.specs.declared.place.Place.TheVariants.{Domain}
use Rattle.neph_machine.specs.declared.machine.Machine.{Machine}
use Rattle.neph_machine.specs.declared.turn.Turn.{Turn}
use Rattle.neph_machine.specs.declared.turn.Turn.TheVariants.{Noted as Entered}
use Rattle.neph_machine.specs.Places.{place_at}
use Rattle.neph_machine.specs.Surveyed.{IsSurveyed}
use Rattle.neph_machine.specs.StandsFor.{command_of, StandsFor}
use Rattle.neph_machine.specs.Turned.{Took}
use Rattle.neph_machine.specs.Stages.{IsRunnable}
use Rattle.neph_lines.proofs.Lines.{NeedsFrame, bare_move}
use Rattle.neph_machine.proofs.Reached.{IsReached, line_short}
use Rattle.neph_machine.proofs.Accounts.{seated, heap_place, accounts, accounts_long, account_is, domain_in}
use Rattle.neph_machine.proofs.Seated.{are_surveyed}
use Rattle.neph_lines.proofs.LineTurns.{turn_live}
use Rattle.neph_lines.proofs.Sparing.{was, within, none_begun}
use Rattle.neph_lines.proofs.Alone.{at_some, held_small, was_alone}
use Rattle.neph_lines.proofs.InHand.{some_of, told_both, in_hand, copying_stage, done_is, needs_frame, shared_false, shared_true, move_alone, move_copies, move_bare}
use Rattle.neph_lines.proofs.Copied.{took_alone, took_copy, stands_still}

mapped_at : {Seat : Type 0} (xs : List (Option (Held Seat))) (i : ℕ) (x : Held Seat) → get_or xs i None ≡ Some x → get_or (map seat_of xs) i None ≡ Some x.seat
mapped_at [] i x e = absurd (cc)
mapped_at (y ∷ xs) zero x e = ap seat_of e
mapped_at (y ∷ xs) (suc i) x e = mapped_at xs i x e

two_not : (n m : ℕ) → 2 ≤ n → m ≡ n → (m == 1) ≡ false
two_not n m le e = ne_eqb m 1 (λ z. let k : m ≡ 1 = z in omega (arith, le, e, k))

-- a turn behind which the machine does as another does
pub took_from : {Pool Seat : Type 0} (W : World Pool Seat) (old mid new : Machine Pool Seat) (d : Done) (t : Turn) → mid.script ≡ old.script → W.shares mid.pool ≡ W.shares old.pool → Took W mid new d t → Took W old new d t
took_from W old mid new d t script shares k = record {
  stands = k.stands;
  script = k.script ∙ script;
  moved = k.moved;
  entry = k.entry;
  shares = k.shares ∙ ap (λ (n : ℕ). min (n + d.steps) (2 ^ 64 - 1)) shares;
}

module _ {Pool Seat : Type 0} (W : World Pool Seat) (old : Machine Pool Seat) (st : State) (reached : IsReached old.script st) (stands : StandsFor W old st) (id : ℕ) (l : Live Pool Seat) (here : place_at id old.places.items ≡ Domain l) (survey : IsSurveyed W) where
  abbrev part : Part
  part = part_at st id

  seat_place : (i : ℕ) × (get_or (map seat_of (places (heap_place W old) (accounts W old st))) i None ≡ Some l.local.seat)
  seat_place =
      let lt = within W old st reached stands id l here in
      let long = accounts_long W old st in
      let i = domain_place (accounts W old st) id (omega (arith, lt, long)) in
      let there = i.2 ∙ ap (λ a. a.domain) (account_is W old st id lt) ∙ ap (domain_in W old) here in
      (suc i.0, mapped_at (places (heap_place W old) (accounts W old st)) (suc i.0) _ there)

  small_names : (d : ℕ) → W.names l.local.seat d ≡ true → d < 64
  small_names d x =
      let is = was W old st reached stands id l here in
      let lt = within W old st reached stands id l here in
      let same : d ≡ id = eqb-true d id (sym (ap (λ (f : ℕ → Bool). f d) (is.stands.names ∙ ap only_name is.id_is)) ∙ x) in
      omega (arith, same, lt)

  -- a page's frame that the seat has to itself behind a call on that seat alone had one reference
  pub alone_before : (q : _) (t : Seat) → Moves W old.pool l.local.seat q t → (pfn f : ℕ) → frame_at l.local.own.map.pages pfn ≡ Some f → IsSoleAt (W.entries q t) f
      → IfSome (W.told old.pool) (λ counts. IfSome (frame_at l.local.own.map.pages pfn) (λ g. slice_index counts g ≡ 1))
  alone_before q t moves pfn f at sole =
      let is = was W old st reached stands id l here in
      let all = are_surveyed W old st reached (seated W old st stands) survey in
      let i = seat_place in
      let shape = survey.shaped q t moves.fits in
      let few : f < W.frames q = held_small (W.entries q t) f (W.frames q) Sole shape.places sole in
      let frames = moves.others.frames in
      let one = was_alone W old.pool q l.local.seat t moves (map seat_of (places (heap_place W old) (accounts W old st))) all.held.all i.0 i.1 small_names all.counted (survey.counted q) f (omega (arith, few, frames)) (is.stands.memory.made.held pfn f at) sole in
      told_of (W.told old.pool) one where
        told_of : (o : Option (List ℕ)) → IfSome o (λ counts. slice_index counts f ≡ 1) → IfSome o (λ counts. IfSome (frame_at l.local.own.map.pages pfn) (λ g. slice_index counts g ≡ 1))
        told_of None h = tt
        told_of (Some counts) h = subst (λ (o : Option ℕ). IfSome o (λ g. slice_index counts g ≡ 1)) (sym at) h

  module _ (at : l.guest.stage ≡ guest.Copying) (runs : IsRunnable old id) where
    abbrev its : Command
    its = command_of old.script (part_at st id)

    pub quiet : part.guest.begun ≡ []
    quiet = none_begun W old st reached stands id l here guest.Copying at (λ e. cc)

    pub hand : (addr : ℕ) × (bytes : List ℕ) × (its ≡ command.W addr bytes) × IsWriteInHand W old.pool l.local addr bytes
    hand = in_hand W old.pool l.local its (copying_stage W old st reached stands id l here at).1

    abbrev pfn : ℕ
    pfn = hand.3.pfn

    maps : mapping_at part.own hand.0 ≡ Some (record { pfn = hand.3.pfn; mode = Rw })
    maps = let is = was W old st reached stands id l here in is.own.own.memory.mapping _ hand.3.range ∙ hand.3.mapped

    turn_is : turn old.script st (actor.Dom id) ≡ move_turn old.script st id (next_move old.script st id)
    turn_is = let is = was W old st reached stands id l here in turn_live old.script st id is.live

    module _ (new : Machine Pool Seat) (script : new.script ≡ old.script) (hv : new.hv ≡ old.hv) (k : Live Pool Seat) (spots : new.places.items ≡ set old.places.items id (Domain k)) (moves : Moves W old.pool l.local.seat new.pool k.local.seat)
        (dom : k.guest.dom ≡ l.guest.dom) (same : k.local.id ≡ l.local.id) (standing : IsStanding W new.pool k.local) where
      did_by : (n : Own) → (stage : k.guest.stage ≡ guest.Ready) (gone : k.local.hand ≡ None) (shares : W.shares new.pool ≡ W.shares old.pool) → IsOwnHalf W new.pool k n → local_step old.script (program_of part.life) part.own Enough its ≡ Some (n, reply.Done)
          → HasWritten W old.pool l.local new.pool k.local pfn → KeepsPlaces l.local k.local ⊎ (IsSharedPage W old.pool l.local pfn × TookSpare W old.pool l.local new.pool k.local pfn)
          → Took W old new (turn old.script st (actor.Dom id)) (Entered (record { entry = entry.Line id l.guest.line; reply = reply.Done }))
      did_by n stage gone shares half step wrote (inl keeps) =
          let f = some_of (frame_at l.local.own.map.pages pfn) hand.3.own in
          let now : frame_at k.local.own.map.pages pfn ≡ Some f.0 = ap (λ m. frame_at m.pages pfn) keeps.map ∙ f.1 in
          let sole = (standing.memory.made.sole pfn f.0 now).0 wrote.alone.mark in
          let one = alone_before new.pool k.local.seat moves pfn f.0 f.1 sole in
          let not_shared = shared_false W old st reached stands id l here hand.0 pfn hand.1 maps hand.3.own hand.2 survey quiet one in
          let move = move_alone W old st reached stands id l here hand.0 pfn hand.1 maps hand.3.own hand.2 (copying_stage W old st reached stands id l here at).0 runs not_shared in
          subst (λ t. Took W old new t (Entered (record { entry = entry.Line id l.guest.line; reply = reply.Done }))) (sym (turn_is ∙ ap (move_turn old.script st id) move))
          (took_alone W old st reached stands id l here new script hv k spots moves dom same standing keeps.map keeps.spare stage gone quiet shares n half step)
      did_by n stage gone shares half step wrote (inr moved) =
          let is = was W old st reached stands id l here in
          let g = some_of (frame_at k.local.own.map.pages pfn) wrote.alone.local in
          let held : l.local.own.spare ≡ Some g.0 = sym moved.1.page ∙ g.1 in
          let shared = shared_true W old st reached stands id l here hand.0 pfn hand.1 maps hand.3.own hand.2 survey quiet moved.0 in
          let move = move_copies W old st reached stands id l here hand.0 pfn hand.1 maps hand.3.own hand.2 (copying_stage W old st reached stands id l here at).0 runs shared (is.spare ∙ ap is_some held) in
          let f = some_of (frame_at l.local.own.map.pages pfn) hand.3.own in
          let bare : k.local.own.spare ≡ None = moved.1.spare ∙ ap (λ (b : Bool). if b then frame_at l.local.own.map.pages pfn else None)
          (told_both (W.told old.pool) _ _ _ (survey.told old.pool) moved.0.count moved.1.met (λ counts a b. two_not (slice_index counts f.0) (W.met k.local.seat) (subst (λ o. IfSome o (λ n. 2 ≤ slice_index counts n)) f.1 a) (subst (λ o. IfSome o (λ n. W.met k.local.seat ≡ slice_index counts n)) f.1 b))) in
          subst (λ t. Took W old new t (Entered (record { entry = entry.Line id l.guest.line; reply = reply.Done }))) (sym (turn_is ∙ ap (move_turn old.script st id) move))
          (took_copy W old st reached stands id l here new script hv k spots moves pfn g.0 wrote.alone hand.3.own held g.1 survey dom same standing bare stage gone quiet shares n half step)

      -- the write is done
      pub copying_did : (r : Reply) → k.guest.stage ≡ guest.Ready → k.local.hand ≡ None → W.shares new.pool ≡ W.shares old.pool → IfSome l.local.hand (λ h. HasWritten W old.pool l.local new.pool k.local h.pfn)
          → (n : Own) × (local_step old.script (program_of part.life) part.own Enough its ≡ Some (n, r)) × IsOwnHalf W new.pool k n
          → Took W old new (turn old.script st (actor.Dom id)) (Entered (record { entry = entry.Line id l.guest.line; reply = r }))
      copying_did r stage gone shares place did =
          let wrote = at_some l.local.hand (λ h. HasWritten W old.pool l.local new.pool k.local h.pfn) _ hand.3.hand place in
          let done = done_is W old st reached stands id l here hand.0 pfn hand.1 maps hand.3.own hand.2 did.0 r did.1 in
          subst (λ v. Took W old new (turn old.script st (actor.Dom id)) (Entered (record { entry = entry.Line id l.guest.line; reply = v }))) done
          (did_by did.0 stage gone shares did.2 (subst (λ v. local_step old.script (program_of part.life) part.own Enough its ≡ Some (did.0, v)) (sym done) did.1) wrote wrote.place)

    -- the write waits for a frame: what its turn does then
    pub waiting_turn : l.local.own.spare ≡ None → IsSharedPage W old.pool l.local pfn → turn old.script st (actor.Dom id) ≡ move_turn old.script st id (bare_move (free old.script st))
    waiting_turn none page =
        let is = was W old st reached stands id l here in
        let shared = shared_true W old st reached stands id l here hand.0 pfn hand.1 maps hand.3.own hand.2 survey quiet page in
        turn_is ∙ ap (move_turn old.script st id) (move_bare W old st reached stands id l here hand.0 pfn hand.1 maps hand.3.own hand.2 (copying_stage W old st reached stands id l here at).0 runs shared (is.spare ∙ ap is_some none))

    pub waits_at : (q : _) (e : DomLocal Pool Seat) → IfSome l.local.hand (λ h. WaitsForFrame W old.pool l.local q e h.pfn) → WaitsForFrame W old.pool l.local q e pfn
    waits_at q e place = at_some l.local.hand (λ h. WaitsForFrame W old.pool l.local q e h.pfn) _ hand.3.hand place

    pub waiting_needs : NeedsFrame old.script st id
    waiting_needs = needs_frame W old st reached stands id l here hand.0 pfn hand.1 maps hand.3.own hand.2

    pub waits_stands : (mid : Machine Pool Seat) → mid.script ≡ old.script → mid.hv ≡ old.hv → (k : Live Pool Seat) → mid.places.items ≡ set old.places.items id (Domain k) → Moves W old.pool l.local.seat mid.pool k.local.seat → IsStanding W mid.pool k.local → k.guest ≡ l.guest → IfSome l.local.hand (λ h. WaitsForFrame W old.pool l.local mid.pool k.local h.pfn) → StandsFor W mid st
    waits_stands mid script hv k spots moves standing same place = let wait = waits_at mid.pool k.local place in stands_still W old st reached stands id l here mid script hv k spots moves standing wait.same same quiet

    pub waits_bare : (q : _) (k : Live Pool Seat) → IfSome l.local.hand (λ h. WaitsForFrame W old.pool l.local q k.local h.pfn) → k.local.own.spare ≡ None
    waits_bare q k place = let wait = waits_at q k.local place in ap (λ o. o.spare) wait.same.own ∙ wait.spare

    pub waits_took : (mid new : Machine Pool Seat) (k : Live Pool Seat) (t : Turn) → mid.script ≡ old.script → W.shares mid.pool ≡ W.shares old.pool → IfSome l.local.hand (λ h. WaitsForFrame W old.pool l.local mid.pool k.local h.pfn)
        → Took W mid new (move_turn old.script st id (bare_move (free old.script st))) t → Took W old new (turn old.script st (actor.Dom id)) t
    waits_took mid new k t script shares place took = let wait = waits_at mid.pool k.local place in
        subst (λ d. Took W old new d t) (sym (waiting_turn wait.spare wait.page)) (took_from W old mid new (move_turn old.script st id (bare_move (free old.script st))) t script shares took)

    pub short_line : l.guest.line < 65535
    short_line =
        let is = was W old st reached stands id l here in
        let line = is.own.line in
        let short = line_short old.script st reached id (λ e. let z = sym hand.2 ∙ e in cc) in
        omega (arith, line, short)

  -- the command at its line
  pub command_is : (c : Command) (p : ℕ) → c ≡ command_at old.script p l.guest.line → p ≡ program_run id old.hv.registry.lives → c ≡ command_of old.script (part_at st id)
  command_is c p e ep = let is = was W old st reached stands id l here in
      e ∙ ap (λ (n : ℕ). command_at old.script n l.guest.line) (ep ∙ ap (λ sh. program_run id sh.lives) (sym stands.shared)) ∙ ap (command_at old.script (program_of part.life)) (sym is.own.line)
