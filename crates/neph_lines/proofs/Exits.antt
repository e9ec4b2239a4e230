-- The end of a domain: what its turn is by the definitions, and that the machine stands for the state behind it.
use Rattle.std.proofs.Common.{◌≡◌, ℕ, ◌+◌, ◌-◌, ◌<◌, Bool, true, false, ◌||◌, cond, List, [], ◌∷◌, length, set, get_or, None, refl, sym, ap, subst, ◌∙◌, arith}
use Rattle.std.specs.Prelude.{◌^◌, min, is_some}
use Rattle.std.specs.FinMap as fm
use Rattle.std.proofs.lemmas.Bool.{eq-eqb, eqb-true, ne_eqb}
use Rattle.std.proofs.lemmas.List.{get_or-set_same, get_or-set_other}
use Rattle.neph_base.specs.declared.command.Command.{Command}
use Rattle.neph_base.specs.declared.command.Command.TheVariants.{Exit}
use Rattle.neph_base.specs.declared.reply.Actor.TheVariants as actor
use Rattle.neph_base.specs.declared.reply.Entry.TheVariants.{Line}
use Rattle.neph_base.specs.declared.reply.Reply.{Reply}
use Rattle.neph_base.specs.declared.reply.Reply.TheVariants.{Ended}
use Rattle.neph_model.specs.declared.script.Script.{Script}
use Rattle.neph_model.specs.declared.book.Stage.{Stage}
use Rattle.neph_model.specs.declared.book.Stage.TheVariants.{Ready, Copying, Forking}
use Rattle.neph_model.specs.declared.book.Move.{Move}
use Rattle.neph_model.specs.declared.book.Move.TheVariants.{Rests, Does}
use Rattle.neph_model.specs.declared.book.Spends.TheVariants.{Nothing}
use Rattle.neph_model.specs.declared.told.Told.TheVariants.{Enough}
use Rattle.neph_model.specs.Programs.{command_at}
use Rattle.neph_model.specs.Machine.{Shared, no_own, no_guest, own_at, is_live, program_run}
use Rattle.neph_model.specs.Births.{end_domain}
use Rattle.neph_model.specs.Trap.{is_blocked}
use Rattle.neph_model.specs.Step.{is_paused}
use Rattle.neph_model.specs.Books.{State, free, no_book, book_at}
use Rattle.neph_model.specs.Turns.{Done, nothing, noting, ready_move, stage_move, next_command, next_move, move_turn, turn, books_after}
use Rattle.neph_runs.specs.Orderly.{Seat as Part, outline, seat as part_at, HasPlaces}
use Rattle.neph_runs.proofs.Lines.{does}
use Rattle.neph_runs.proofs.Falls.{AtLine, none_begun}
use Rattle.neph_runs.proofs.Seats.{OneChanged, ends_turns}
use Rattle.neph_pool.specs.Names.{IsApart, only_name, both_names}
use Rattle.neph_pool.specs.World.{World, Spares}
use Rattle.neph_guest.specs.declared.live.Live.{Live}
use Rattle.neph_guest.specs.declared.live.Stage.TheVariants as guest
use Rattle.neph_rows.specs.Records.{shared_of}
use Rattle.neph_heap.specs.declared.exposed_frame.ExposedFrame.{ExposedFrame}
use Rattle.neph_heap.specs.Lists.{Lists, exposed_of, aside_of}
use Rattle.neph_heap.specs.Heap.{IsHeap}
use Rattle.neph_heap.specs.Pages.{pages_in}
use Rattle.neph_hv.specs.Hv.{lists_ended}
use Rattle.neph_accounts.specs.Colours.{RowPut}
use Rattle.neph_accounts.proofs.Plainly.{end_follows}
use Rattle.neph_machine.specs.declared.place.Place.{Place}
use Rattle.neph_machine.specs.declared.place.Place.TheVariants.{Empty, Domain}
use Rattle.neph_machine.specs.declared.machine.Machine.{Machine}
use Rattle.neph_machine.specs.Places.{place_at, is_empty}
use Rattle.neph_machine.specs.Rows.{row_of, rows_of}
use Rattle.neph_machine.specs.StandsFor.{HasNone, IsAtStage, IsDomain, IsPlace, StandsFor}
use Rattle.neph_machine.specs.Stages.{IsReadyAt}
use Rattle.neph_machine.specs.Turned.{Took}
use Rattle.neph_machine.specs.declared.turn.Turn.TheVariants.{Noted as Entered}
use Rattle.neph_machine.proofs.Reached.{IsReached, live_ids, live_orderly}
use Rattle.neph_machine.proofs.Carrying.{same_live}
use Rattle.neph_machine.proofs.OnePlace.{no_name, rows_long, OneMoved, moved_here, stands_moved, moved_row}
use Rattle.neph_lines.proofs.Sparing.{spares_swap}

-- the state behind the end of the domain of an id
abbrev pub state_exited : State → ℕ → State
state_exited st id = record {
  machine = record { own = set st.machine.own id no_own; shared = end_domain st.machine.shared id };
  books = books_after id (own_at id st.machine.own) Nothing Ended st.books;
}

-- the turn in which it ends
abbrev pub exited : State → ℕ → Done
exited st id = record {
  state = state_exited st id;
  moved = true;
  noted = record { entry = Line id (own_at id st.machine.own).line; reply = Ended } ∷ [];
  steps = 0;
}

module _ (s : Script) (st : State) (id : ℕ) where
  -- what a domain does that is ready for its line and isn't paused
  pub ready_is : (book_at id st.books).stage ≡ Ready → is_paused id st.machine.shared ≡ false → next_move s st id ≡ ready_move (free s st) st.books (own_at id st.machine.own) (book_at id st.books) (next_command s st.machine id)
  ready_is ready runs =
      let m = st.machine in
      let n = free s st in
      let o = own_at id m.own in
      let b = book_at id st.books in
      let c = next_command s m id in
      let p = is_paused id m.shared in
      let by_stage : next_move s st id ≡ stage_move n st.books p (is_blocked m.shared id c) o b c Ready = ap (λ (x : Stage). stage_move n st.books p (is_blocked m.shared id c) o b c x) ready in
      let by_pause : cond (p || false) Rests (ready_move n st.books o b c) ≡ ready_move n st.books o b c = ap (λ (x : Bool). cond (x || false) Rests (ready_move n st.books o b c)) runs in
      by_stage ∙ by_pause

  -- the turn of a live domain is its move
  pub move_is : is_live id st.machine.shared.lives ≡ true → (mv : Move) → next_move s st id ≡ mv → turn s st (actor.Dom id) ≡ move_turn s st id mv
  move_is live mv is = ap (λ (x : Bool). cond x (move_turn s st id (next_move s st id)) (nothing st)) live ∙ ap (λ (x : Move). move_turn s st id x) is

  abbrev exits_by : Command → Done
  exits_by c =
      let did = does st.machine id Enough s c in
      noting (Line id (own_at id st.machine.own).line) did (books_after id (own_at id st.machine.own) Nothing did.reply st.books)

  line_exits : next_command s st.machine id ≡ Exit → move_turn s st id (Does Enough Nothing) ≡ exited st id
  line_exits e = ap exits_by e

  -- the turn of a domain at its exit
  pub exit_is : is_live id st.machine.shared.lives ≡ true → (book_at id st.books).stage ≡ Ready → is_paused id st.machine.shared ≡ false → next_command s st.machine id ≡ Exit → turn s st (actor.Dom id) ≡ exited st id
  exit_is live ready runs e =
      let n = free s st in
      let o = own_at id st.machine.own in
      let b = book_at id st.books in
      let does : next_move s st id ≡ Does Enough Nothing = ready_is ready runs ∙ ap (ready_move n st.books o b) e in
      move_is live (Does Enough Nothing) does ∙ line_exits e

  -- it leaves the parts of all other ids
  abbrev pub gone : Part
  gone = record { own = no_own; life = None; guest = no_guest; exposed = outline fm.empty; book = no_book }

  pub exit_parts : HasPlaces st → id < 64 → OneChanged st (state_exited st id) id gone
  exit_parts places within = ends_turns st id places within no_book st.books.fresh

name_left : (a b : Bool) → b ≡ false → a || b ≡ a
name_left true b e = refl
name_left false b e = e

name_right : (a b : Bool) → b ≡ true → a || b ≡ true
name_right true b e = refl
name_right false b e = e

module _ {Pool Seat : Type 0} (W : World Pool Seat) (old new : Machine Pool Seat) where
  -- The domain of an id has ended: its place is empty, and its names and frames are the hypervisor's.
  pub record HasEnded (id : ℕ) (l : Live Pool Seat) : Type 0 where
    pub moved : OneMoved W old new id l Empty
    pub exposed : exposed_of id new.hv.heap.stock ≡ []
    pub aside : aside_of id new.hv.heap.stock ≡ aside_of id old.hv.heap.stock
    pub shares : W.shares new.pool ≡ W.shares old.pool
    pub row : end_domain (shared_of old.hv.registry (pages_in (W.entries old.pool old.hv.heap.seat) old.hv.heap.stock.exposed)) id
        ≡ shared_of new.hv.registry (pages_in (W.entries new.pool new.hv.heap.seat) new.hv.heap.stock.exposed)

  module _ (id : ℕ) (l : Live Pool Seat) (gone_is : HasEnded id l) (st : State) (stands : StandsFor W old st) (quiet : (part_at st id).guest.begun ≡ []) (parts : OneChanged st (state_exited st id) id (gone old.script st id)) where
    domain : IsDomain W old id l (part_at st id)
    domain = subst (λ (place : Place Pool Seat). IsPlace W old id place (part_at st)) gone_is.moved.here (stands.each id)

    here_none : HasNone new.hv.heap.stock id (part_at (state_exited st id) id)
    here_none = record {
      live = ap (λ (x : Part). is_some x.life) parts.here;
      begun = ap (λ (x : Part). x.guest.begun) parts.here;
      spare = ap (λ (x : Part). x.book.spare) parts.here;
      exposed = gone_is.exposed;
    }

    row_gone : RowPut id [] (rows_of old) (rows_of new)
    row_gone =
        let put = moved_row W old new id l Empty gone_is.moved in
        record { ids = put.ids; here = put.here ∙ ap (row_of new.hv.heap.stock id) (moved_here W old new id l Empty gone_is.moved st stands); others = put.others }

    booked : id < length st.books.list
    booked = let n = stands.colours.1.ids in let m = rows_long old in let lt = gone_is.moved.within in omega arith

    -- the machine stands for the state behind the end
    pub exited_stands : StandsFor W new (state_exited st id)
    exited_stands =
        stands_moved W old new id l Empty gone_is.moved st stands (state_exited st id) quiet parts.others (ap (λ (sh : Shared). end_domain sh id) stands.shared ∙ gone_is.row) (here_none, gone_is.aside ∙ domain.aside)
        (stands.colours.0, end_follows stands.colours.0 (rows_of old) (rows_of new) st.books id (own_at id st.machine.own) Nothing stands.colours.1 booked row_gone)

-- the stage of a domain whose guest is ready
ready_stage : {Pool Seat : Type 0} (W : World Pool Seat) (m : Machine Pool Seat) (id : ℕ) (l : Live Pool Seat) (x : Part) (stage : Stage) → IsAtStage W m id l x stage → l.guest.stage ≡ guest.Ready → stage ≡ Ready
ready_stage W m id l x Ready h e = refl
ready_stage W m id l x Copying h e = absurd (clash (sym e ∙ h.0)) where
  clash : guest.Ready ≡ guest.Copying → ⊥
  clash k = cc
ready_stage W m id l x (Forking left) h e = absurd (clash (sym e ∙ h.0)) where
  clash : guest.Ready ≡ guest.Forking → ⊥
  clash k = cc

-- what is known of a domain that is ready for its line, in a state that the machine stands for
module _ {Pool Seat : Type 0} (W : World Pool Seat) (m : Machine Pool Seat) (id : ℕ) (c : Command) (here : IsReadyAt m id c) (st : State) (stands : StandsFor W m st) where
  pub ready_domain : IsDomain W m id here.domain (part_at st id)
  ready_domain = subst (λ (place : Place Pool Seat). IsPlace W m id place (part_at st)) here.here (stands.each id)

  pub ready_book : (book_at id st.books).stage ≡ Ready
  ready_book = ready_stage W m id here.domain (part_at st id) (book_at id st.books).stage ready_domain.stage here.ready

  pub ready_runs : is_paused id st.machine.shared ≡ false
  ready_runs = ap (is_paused id) stands.shared ∙ here.runs (pages_in (W.entries m.pool m.hv.heap.seat) m.hv.heap.stock.exposed)

  pub ready_command : next_command m.script st.machine id ≡ c
  ready_command = ap (λ (sh : Shared). command_at m.script (program_run id sh.lives) (own_at id st.machine.own).line) stands.shared ∙ ap (λ (line : ℕ). command_at m.script (program_run id m.hv.registry.lives) line) ready_domain.own.line ∙ here.command

  -- its seat has no name of the hypervisor's
  pub ready_apart : id < 64 → IsApart (W.names m.hv.heap.seat) (W.names here.domain.local.seat)
  ready_apart lt d x y = no_name (W.names m.hv.heap.seat d) x (ap (W.names m.hv.heap.seat) same ∙ stands.names id lt ∙ ap is_empty here.here) where
    same : d ≡ id
    same = eqb-true d here.domain.local.id (sym (ap (λ (ns : ℕ → Bool). ns d) ready_domain.stands.names) ∙ y) ∙ ready_domain.id_is

  module _ (reached : IsReached m.script st) where
    pub ready_small : id < 64
    ready_small = (live_ids m.script st reached id ready_domain.live).1

    pub ready_quiet : (part_at st id).guest.begun ≡ []
    ready_quiet = none_begun id st.machine.shared.tables.next (part_at st id).guest.begun (part_at st id).book.stage (subst AtLine (sym ready_book) tt) (live_orderly m.script st reached id ready_domain.live).forks

-- the turn of a domain at its exit
module _ {Pool Seat : Type 0} (W : World Pool Seat) (old new : Machine Pool Seat) (id : ℕ) (here : IsReadyAt old id Exit) (gone_is : HasEnded W old new id here.domain) (st : State) (reached : IsReached old.script st) (stands : StandsFor W old st) where
  pub exit_took : Took W old new (turn old.script st (actor.Dom id)) (Entered (record { entry = Line id here.domain.guest.line; reply = Ended }))
  exit_took =
      let domain = ready_domain W old id Exit here st stands in
      let book = ready_book W old id Exit here st stands in
      let is = exit_is old.script st id domain.live book (ready_runs W old id Exit here st stands) (ready_command W old id Exit here st stands) in
      let quiet = ready_quiet W old id Exit here st stands reached in
      let parts = exit_parts old.script st id reached.sound.orderly.places gone_is.moved.within in
      subst (λ (d : Done). Took W old new d (Entered (record { entry = Line id here.domain.guest.line; reply = Ended }))) (sym is)
      (record {
        stands = exited_stands W old new id here.domain gone_is st stands quiet parts;
        script = gone_is.moved.script;
        moved = refl;
        entry = ap (λ (line : ℕ). record { entry = Line id line; reply = Ended } ∷ []) (sym domain.own.line);
        shares = let e : W.shares new.pool ≡ W.shares old.pool + 0 = omega (arith, gone_is.shares) in ap (λ (n : ℕ). min n (2 ^ 64 - 1)) e;
      })

-- what the hypervisor did when it ended the domain that stood in the place
module _ {Pool Seat : Type 0} (W : World Pool Seat) (old new : Machine Pool Seat) (id : ℕ) (here : IsReadyAt old id Exit) (live : Live Pool Seat) (at : Domain live ≡ place_at id old.places.items)
    (places : new.places.items ≡ set old.places.items id Empty) (script : new.script ≡ old.script) (heap : IsHeap W new.pool new.hv.heap.seat new.hv.heap.stock [])
    (row : end_domain (shared_of old.hv.registry (pages_in (W.entries old.pool old.hv.heap.seat) old.hv.heap.stock.exposed)) live.local.id ≡ shared_of new.hv.registry (pages_in (W.entries new.pool new.hv.heap.seat) new.hv.heap.stock.exposed))
    (stock : (frames : List ℕ) × (new.hv.heap.stock ≡ lists_ended old.hv.heap.stock live.local.id frames)) (names : W.names new.hv.heap.seat ≡ both_names (W.names old.hv.heap.seat) (W.names live.local.seat))
    (others : Spares W (both_names (W.names old.hv.heap.seat) (W.names live.local.seat)) old.pool new.pool) (shares : W.shares new.pool ≡ W.shares old.pool) where
  same : live ≡ here.domain
  same = same_live live here.domain (at ∙ here.here)

  module _ (st : State) (reached : IsReached old.script st) (stands : StandsFor W old st) where
    id_same : live.local.id ≡ id
    id_same = ap (λ (l : Live Pool Seat). l.local.id) same ∙ (ready_domain W old id Exit here st stands).id_is

    name_is : W.names live.local.seat ≡ only_name id
    name_is = let d = ready_domain W old id Exit here st stands in ap (λ (l : Live Pool Seat). W.names l.local.seat) same ∙ d.stands.names ∙ ap only_name d.id_is

    pub has_ended : HasEnded W old new id here.domain
    has_ended =
        let lt = ready_small W old id Exit here st stands reached in
        let exposed = ap (λ (l : Lists). l.exposed) stock.1 ∙ ap (λ (i : ℕ). set old.hv.heap.stock.exposed i []) id_same in
        let aside = ap (λ (l : Lists). l.aside) stock.1 in
        let named = names ∙ ap (both_names (W.names old.hv.heap.seat)) name_is in
        record {
          moved = record {
            within = lt;
            here = here.here;
            places = places;
            script = script;
            exposed = λ j far. ap (λ (xs : List (List ExposedFrame)). get_or xs j []) exposed ∙ get_or-set_other old.hv.heap.stock.exposed id j [] [] far;
            aside = λ j far. ap (λ (xs : List (List ℕ)). get_or xs j []) aside;
            names = λ j far. ap (λ (ms : ℕ → Bool). ms j) named ∙ name_left (W.names old.hv.heap.seat j) (only_name id j) (ne_eqb j id far);
            name = ap (λ (ms : ℕ → Bool). ms id) named ∙ name_right (W.names old.hv.heap.seat id) (only_name id id) (eq-eqb id id refl);
            spares = spares_swap W (W.names old.hv.heap.seat) (W.names live.local.seat) (only_name id) old.pool new.pool name_is others;
            heap = heap;
          };
          exposed = ap (λ (xs : List (List ExposedFrame)). get_or xs id []) exposed ∙ get_or-set_same old.hv.heap.stock.exposed id [] [] (let n = stands.heap.domains in omega arith);
          aside = ap (λ (xs : List (List ℕ)). get_or xs id []) aside;
          shares = shares;
          row = sym (ap (λ (i : ℕ). end_domain (shared_of old.hv.registry (pages_in (W.entries old.pool old.hv.heap.seat) old.hv.heap.stock.exposed)) i) id_same) ∙ row;
        }

    -- by a state that the machine stands for, it stands for the next of each such state
    pub exit_done : (reply : Reply) → reply ≡ Ended → (now : State) → IsReached old.script now → StandsFor W old now → Took W old new (turn old.script now (actor.Dom id)) (Entered (record { entry = Line id live.guest.line; reply = reply }))
    exit_done reply is now again holds =
        subst (λ (r : Reply). Took W old new (turn old.script now (actor.Dom id)) (Entered (record { entry = Line id live.guest.line; reply = r }))) (sym is)
        (subst (λ (l : Live Pool Seat). Took W old new (turn old.script now (actor.Dom id)) (Entered (record { entry = Line id l.guest.line; reply = Ended }))) (sym same) (exit_took W old new id here has_ended now again holds))
