-- The turn of a domain that is ready for its line, up to what its memory has done.
use Rattle.std.proofs.Common.{◌≡◌, ◌≢◌, ℕ, ◌/◌, ◌<◌, cond, [], ◌∷◌, set, IsSome, Some, None, refl, sym, ap, subst, ◌∙◌, arith}
use Rattle.std.specs.Prelude.{is_some, slice_get}
use Rattle.std.specs.declared.option.Option.{Option}
use Rattle.neph_base.specs.declared.command.Command.{Command}
use Rattle.neph_base.specs.declared.command.Command.TheVariants as command
use Rattle.neph_base.specs.declared.command.Mode.TheVariants.{Rw}
use Rattle.neph_base.specs.declared.reply.Actor.TheVariants as actor
use Rattle.neph_base.specs.declared.reply.Entry.TheVariants as entry
use Rattle.neph_base.specs.declared.reply.Reply.{Reply}
use Rattle.neph_base.specs.declared.reply.Reply.TheVariants as reply
use Rattle.neph_base.specs.declared.sizes.TheConstants.{PAGE_BYTES}
use Rattle.neph_model.specs.declared.own.Own.{Own}
use Rattle.neph_model.specs.declared.script.Program.{Program}
use Rattle.neph_model.specs.declared.memory.Mapping.{Mapping}
use Rattle.neph_model.specs.declared.book.Book.{Book}
use Rattle.neph_model.specs.declared.book.Stage.{Stage}
use Rattle.neph_model.specs.declared.book.Stage.TheVariants as book
use Rattle.neph_model.specs.declared.book.Move.TheVariants.{Copies, Does}
use Rattle.neph_model.specs.declared.book.Spends.{Spends}
use Rattle.neph_model.specs.declared.book.Spends.TheVariants.{Nothing}
use Rattle.neph_model.specs.declared.told.Told.TheVariants.{Enough}
use Rattle.neph_model.specs.WellFormed.{FitsPage}
use Rattle.neph_model.specs.Programs.{program_at}
use Rattle.neph_model.specs.Machine.{program_of, program_run}
use Rattle.neph_model.specs.Own.{mapping_at, local_step}
use Rattle.neph_model.specs.Books.{State, free, put_book, book_spent}
use Rattle.neph_model.specs.Turns.{ready_move, book_after, move_turn, turn}
use Rattle.neph_runs.specs.Orderly.{Seat as Part, seat as part_at}
use Rattle.neph_runs.proofs.Seats.{book_turns}
use Rattle.neph_pool.specs.World.{World, Moves}
use Rattle.neph_memory.specs.Pages.{frame_at}
use Rattle.neph_memory.specs.Domains.{IsStanding, IsSharedPage, domain_mapping}
use Rattle.neph_guest.specs.declared.live.Live.{Live}
use Rattle.neph_guest.specs.declared.live.Stage.TheVariants as guest
use Rattle.neph_guest.specs.OwnHalf.{IsOwnHalf}
use Rattle.neph_guest.specs.declared.row.LocalTurn.{LocalTurn}
use Rattle.neph_guest.specs.declared.row.LocalTurn.TheVariants as local
use Rattle.neph_guest.specs.Turns.{IsLineInHand, TurnDone, HandDone, LookDone, HeldSpare, IsWithoutSpare, spare_after, stage_after}
use Rattle.neph_heap.specs.Lists.{exposed_of}
use Rattle.neph_accounts.specs.Colours.{IsStood, CopiesNothing}
use Rattle.neph_machine.specs.declared.place.Place.TheVariants.{Domain}
use Rattle.neph_machine.specs.declared.machine.Machine.{Machine}
use Rattle.neph_machine.specs.declared.turn.Turn.TheVariants.{Moved, Noted as Entered}
use Rattle.neph_machine.specs.Places.{place_at}
use Rattle.neph_machine.specs.Stages.{IsReadyAt}
use Rattle.neph_machine.specs.Surveyed.{IsSurveyed}
use Rattle.neph_machine.specs.StandsFor.{command_of, IsAtStage, IsDomain, StandsFor}
use Rattle.neph_machine.specs.Turned.{Took}
use Rattle.neph_machine.proofs.Reached.{IsReached, fits_page, line_short}
use Rattle.neph_machine.proofs.OnePlace.{stands_one, one_rows_same}
use Rattle.neph_lines.proofs.LineTurns.{turn_live, ready_is, did_alone}
use Rattle.neph_machine.proofs.Carrying.{exposes_kept, same_live}
use Rattle.neph_lines.proofs.Sparing.{was, within, orderly, domain_now, stood_quiet, stands_line_alone}
use Rattle.neph_lines.proofs.NoFrame.{same_shares}
use Rattle.neph_lines.proofs.Alone.{at_some}
use Rattle.neph_lines.proofs.InHand.{in_hand, copies, shared_true}
use Rattle.neph_lines.proofs.Copied.{moved_one, moved_shared}
use Rattle.neph_lines.proofs.Exits.{ready_book, ready_runs, ready_command, ready_quiet}

-- From the domain l to the domain k its own half, which was o, has tried the command c, by which it does `step`. It came to this.
pub record Tried {Pool Seat : Type 0} (W : World Pool Seat) (p : Pool) (l : Live Pool Seat) (q : Pool) (k : Live Pool Seat) (o : Own) (c : Command) (step : Option (Own × Reply)) (t : LocalTurn) : Type 0 where
  pub turn : TurnDone (IsOwnHalf W q k) o c step t
  pub hand : HandDone W q k.local c l.local.hand t
  pub look : LookDone W p l.local k.local.own c t
  pub spare : k.local.own.spare ≡ spare_after W p l.local c t
  pub held : HeldSpare W p l.local c t
  pub lacks : IsWithoutSpare t l.local.own.spare
  pub stage : k.guest.stage ≡ stage_after l.guest.stage t

module _ {Pool Seat : Type 0} (W : World Pool Seat) (old : Machine Pool Seat) (st : State) (reached : IsReached old.script st) (stands : StandsFor W old st) (id : ℕ) (l : Live Pool Seat) (here : place_at id old.places.items ≡ Domain l) (c : Command) (ready : IsReadyAt old id c) where
  abbrev part : Part
  part = part_at st id

  is_same : ready.domain ≡ l
  is_same = same_live ready.domain l (sym ready.here ∙ here)

  pub at_line : l.guest.stage ≡ guest.Ready
  at_line = ap (λ (v : Live Pool Seat). v.guest.stage) (sym is_same) ∙ ready.ready

  pub its : command_of old.script (part_at st id) ≡ c
  its = ready_command W old id c ready st stands

  pub quiet : (part_at st id).guest.begun ≡ []
  quiet = ready_quiet W old id c ready st stands reached

  book_ready : part.book.stage ≡ book.Ready
  book_ready = ready_book W old id c ready st stands

  pub no_hand : l.local.hand ≡ None
  no_hand = let is = was W old st reached stands id l here in let h : IsAtStage W old id l part book.Ready = subst (λ (v : Stage). IsAtStage W old id l part v) book_ready is.stage in h.1

  pub fits : FitsPage c
  fits = subst FitsPage its (fits_page old.script st reached id)

  pub room : c ≢ command.Exit → l.guest.line < 65535
  room far =
      let is = was W old st reached stands id l here in
      let line = is.own.line in
      let short = line_short old.script st reached id (λ e. far (sym its ∙ e)) in
      omega (arith, line, short)

  -- its program is the one of the number that the hypervisor keeps
  pub program_found : (n : ℕ) → n ≡ program_run id old.hv.registry.lives → (q : Program) → slice_get old.script.programs n ≡ Some q → program_at old.script (program_of (part_at st id).life) ≡ Some q
  program_found n e q found = ap (slice_get old.script.programs) (sym (e ∙ ap (λ sh. program_run id sh.lives) (sym stands.shared))) ∙ found

  -- its turn is its move
  pub turn_is : turn old.script st (actor.Dom id) ≡ move_turn old.script st id (ready_move (free old.script st) st.books (part_at st id).own (part_at st id).book c)
  turn_is =
      let is = was W old st reached stands id l here in
      turn_live old.script st id is.live ∙ ap (move_turn old.script st id) (ready_is old.script st id book_ready (ready_runs W old id c ready st stands) ∙ ap (ready_move (free old.script st) st.books part.own part.book) its)

  module _ (new : Machine Pool Seat) (script : new.script ≡ old.script) (hv : new.hv ≡ old.hv) (k : Live Pool Seat) (spots : new.places.items ≡ set old.places.items id (Domain k)) (moves : Moves W old.pool l.local.seat new.pool k.local.seat)
      (dom : k.guest.dom ≡ l.guest.dom) (same : k.local.id ≡ l.local.id) (standing : IsStanding W new.pool k.local) where
    -- a write that is found to need a copy of its page
    pub took_copies : IsSurveyed W → W.shares new.pool ≡ W.shares old.pool → Tried W old.pool l new.pool k part.own c (local_step old.script (program_of part.life) part.own Enough c) local.Copies
        → Took W old new (turn old.script st (actor.Dom id)) Moved
    took_copies survey shares tried =
        let is = was W old st reached stands id l here in
        let half = tried.turn in
        let line = tried.hand.0 in
        let hand = in_hand W new.pool k.local c line in
        let w = hand.3 in
        let look : LookDone W old.pool l.local k.local.own (command.W hand.0 hand.1) local.Copies = subst (λ (v : Command). LookDone W old.pool l.local k.local.own v local.Copies) hand.2 tried.look in
        let own = look.0 in
        let c_is : command_of old.script part ≡ command.W hand.0 hand.1 = its ∙ hand.2 in
        let maps : mapping_at part.own hand.0 ≡ Some (record { pfn = w.pfn; mode = Rw }) = half.own.memory.mapping _ w.range ∙ w.mapped in
        let here_is : IsSome (frame_at l.local.own.map.pages w.pfn) = subst (λ o. IsSome (frame_at o.map.pages w.pfn)) own w.own in
        let met : domain_mapping W old.pool l.local (hand.0 / PAGE_BYTES) ≡ Some (record { pfn = w.pfn; mode = Rw }) = sym (is.own.own.memory.mapping _ w.range) ∙ maps in
        let page = at_some _ (λ (to : Mapping). IsSharedPage W old.pool l.local to.pfn) _ met look.1 in
        let shared = shared_true W old st reached stands id l here hand.0 w.pfn hand.1 maps here_is c_is survey quiet page in
        let copied = copies W old st reached stands id l here hand.0 w.pfn hand.1 maps here_is c_is ∙ ap (λ b. cond b (Some w.pfn) None) shared in
        let move = turn_is ∙ ap (move_turn old.script st id) (ap (ready_move (free old.script st) st.books part.own part.book) hand.2 ∙ ap (λ o. cond (is_some o) Copies (Does Enough Nothing)) copied) in
        let b : Book = record part.book { stage = book.Copying } in
        let turns = book_turns st id (orderly W old st reached stands id l here) (within W old st reached stands id l here) b st.books.fresh in
        let one = moved_one W old st reached stands id l here new script hv k spots moves in
        subst (λ d. Took W old new d Moved) (sym move) (record {
          stands = stands_one W old new id l k one st stands (record st { books = put_book id b st.books }) quiet turns.others (stands.shared ∙ sym (moved_shared W old st reached stands id l here new script hv k spots moves))
              (subst (IsDomain W new id k) (sym turns.here) (domain_now W old st reached stands id l here new k one part.own b dom same standing half (is.spare ∙ ap (λ o. is_some o.spare) (sym own))
              (exposes_kept old.hv.heap.stock new.hv.heap.stock id l k (ap (λ h. exposed_of id h.heap.stock) hv) (ap (λ o. o.map.pages) own) is.exposes)
              (tried.stage, subst (λ s. IsLineInHand W new.pool k.local (command_of s part)) (sym script) (subst (IsLineInHand W new.pool k.local) (sym its) line))))
              (stood_quiet W old st reached stands id l here new k one b (ap (λ o. o.map.pages) own) refl);
          script = script;
          moved = refl;
          entry = refl;
          shares = same_shares (W.shares old.pool) (W.shares new.pool) shares;
        })

    -- a line that its domain does by itself, behind which it goes on
    pub took_line : W.shares new.pool ≡ W.shares old.pool → (spends : Spends) → ready_move (free old.script st) st.books part.own part.book c ≡ Does Enough spends → CopiesNothing spends → k.local.own.map.pages ≡ l.local.own.map.pages → k.guest.stage ≡ guest.Ready → k.local.hand ≡ None
        → (n : Own) (r : Reply) → IsOwnHalf W new.pool k n → local_step old.script (program_of part.life) part.own Enough c ≡ Some (n, r)
        → (book_after part.own r (book_spent spends st.books.fresh part.book)).spare ≡ is_some k.local.own.spare → (book_after part.own r (book_spent spends st.books.fresh part.book)).stage ≡ book.Ready → r ≢ reply.Ended
        → Took W old new (turn old.script st (actor.Dom id)) (Entered (record { entry = entry.Line id l.guest.line; reply = r }))
    took_line shares spends move none map stage hand n r half step spare at on =
        let is = was W old st reached stands id l here in
        let does = ap (local_step old.script (program_of part.life) part.own Enough) its ∙ step in
        subst (λ t. Took W old new t (Entered (record { entry = entry.Line id l.guest.line; reply = r }))) (sym (turn_is ∙ ap (move_turn old.script st id) move ∙ did_alone old.script st id Enough spends n r does)) (record {
          stands = stands_line_alone W old st reached stands id l here new k (moved_one W old st reached stands id l here new script hv k spots moves) dom same standing map stage hand quiet (moved_shared W old st reached stands id l here new script hv k spots moves) n spends r half spare at none on;
          script = script;
          moved = refl;
          entry = ap (λ (v : ℕ). record { entry = entry.Line id v; reply = r } ∷ []) (sym is.own.line);
          shares = same_shares (W.shares old.pool) (W.shares new.pool) shares;
        })

    -- a turn that left the own half as it was: the machine still stands for the state
    pub stands_same : IsOwnHalf W new.pool k part.own → k.local.own.map.pages ≡ l.local.own.map.pages → k.local.own.spare ≡ l.local.own.spare → k.guest.stage ≡ guest.Ready → k.local.hand ≡ None → StandsFor W new st
    stands_same half pages spare stage hand =
        let is = was W old st reached stands id l here in
        let one = moved_one W old st reached stands id l here new script hv k spots moves in
        stands_one W old new id l k one st stands st quiet (λ j far. refl) (stands.shared ∙ sym (moved_shared W old st reached stands id l here new script hv k spots moves))
        (domain_now W old st reached stands id l here new k one part.own part.book dom same standing half (is.spare ∙ ap is_some (sym spare)) (exposes_kept old.hv.heap.stock new.hv.heap.stock id l k (ap (λ h. exposed_of id h.heap.stock) hv) pages is.exposes)
        (subst (λ (v : Stage). IsAtStage W new id k part v) (sym book_ready) (stage, hand)))
        (subst (λ rows. IsStood rows st.books) (sym (one_rows_same W old new id l k one st stands pages)) stands.colours)
