-- A clone that begins: the state behind it by the definitions, and that the machine stands for it.
use Rattle.std.proofs.Common.{◌≡◌, ◌≢◌, ℕ, ◌+◌, ◌<◌, Bool, false, List, [], ◌∷◌, ◌++◌, length, set, None, refl, sym, ap, subst, ◌∙◌, arith}
use Rattle.std.specs.Prelude.{is_some}
use Rattle.std.proofs.lemmas.List.{get_or-set_other}
use Rattle.neph_base.specs.declared.command.Command.TheVariants.{Clone}
use Rattle.neph_base.specs.declared.reply.Actor.TheVariants as actor
use Rattle.neph_base.specs.declared.reply.Entry.TheVariants.{Line}
use Rattle.neph_base.specs.declared.reply.Reply.TheVariants.{Begun}
use Rattle.neph_model.specs.declared.own.Own.{Own}
use Rattle.neph_model.specs.declared.life.Guest.{Guest}
use Rattle.neph_model.specs.declared.book.Book.{Book}
use Rattle.neph_model.specs.declared.book.Stage.TheVariants as book
use Rattle.neph_model.specs.declared.book.Spends.TheVariants.{Nothing}
use Rattle.neph_model.specs.declared.told.Told.TheVariants.{Free}
use Rattle.neph_model.specs.WellFormed.{IsWellFormed}
use Rattle.neph_model.specs.Machine.{Shared, Machine as Plain, guest_at, but_handles}
use Rattle.neph_model.specs.Lent.{own_behind}
use Rattle.neph_model.specs.Trap.{begin_clone}
use Rattle.neph_model.specs.Step.{locked}
use Rattle.neph_model.specs.Books.{State, free, shared_count}
use Rattle.neph_model.specs.Turns.{Done, turn}
use Rattle.neph_runs.specs.Orderly.{Seat as Part, seat as part_at}
use Rattle.neph_runs.proofs.Lines.{Begins}
use Rattle.neph_runs.proofs.Seats.{OneChanged, begins_turns}
use Rattle.neph_pool.specs.Names.{both_names, only_name}
use Rattle.neph_pool.specs.World.{World, Spares}
use Rattle.neph_memory.specs.declared.dom_local.DomLocal.{DomLocal}
use Rattle.neph_memory.specs.Domains.{IsStanding, IsUnchanged}
use Rattle.neph_local.specs.declared.forking.Fork.{Fork}
use Rattle.neph_local.specs.Forks.{IsForkInHand}
use Rattle.neph_local.proofs.Counting.{left_to_share, first_shared}
use Rattle.neph_guest.specs.declared.live.Live.{Live}
use Rattle.neph_guest.specs.declared.live.Stage.TheVariants as guest
use Rattle.neph_guest.specs.OwnHalf.{IsOwnHalf}
use Rattle.neph_heap.specs.declared.exposed_frame.ExposedFrame.{ExposedFrame}
use Rattle.neph_heap.specs.Lists.{exposed_of, aside_of}
use Rattle.neph_hv.specs.Hv.{IsHv, shared_in}
use Rattle.neph_hv.specs.Begins.{IsBegun}
use Rattle.neph_accounts.specs.Heaps.{row_frames}
use Rattle.neph_accounts.specs.Colours.{IsStood}
use Rattle.neph_accounts.proofs.Turns.{stands_line}
use Rattle.neph_machine.specs.declared.place.Place.{Place}
use Rattle.neph_machine.specs.declared.place.Place.TheVariants.{Empty, Flight as InFlight, Domain}
use Rattle.neph_machine.specs.declared.place.Flight.{Flight}
use Rattle.neph_machine.specs.declared.machine.Machine.{Machine}
use Rattle.neph_machine.specs.declared.turn.Turn.TheVariants.{Noted as Entered}
use Rattle.neph_machine.specs.Places.{place_at}
use Rattle.neph_machine.specs.Rows.{frames_in, away_in, rows_of}
use Rattle.neph_machine.specs.Stages.{IsReadyAt}
use Rattle.neph_machine.specs.StandsFor.{HasNone, IsDomain, IsForkIn, IsFlight, IsPlace, StandsFor}
use Rattle.neph_machine.specs.Surveyed.{IsSurveyed}
use Rattle.neph_machine.specs.Turned.{Took}
use Rattle.neph_machine.proofs.Reached.{IsReached, live_own}
use Rattle.neph_machine.proofs.Carrying.{none_same, exposes_kept}
use Rattle.neph_machine.proofs.OnePlace.{not_begun}
use Rattle.neph_machine.proofs.Pairs.{IsPut, put_two, PairMoved, pair_rows, pair_stands}
use Rattle.neph_lines.proofs.Sparing.{within, orderly, in_books}
use Rattle.neph_lines.proofs.NoFrame.{same_shares}
use Rattle.neph_lines.proofs.Exits.{ready_domain, ready_command, ready_quiet}
use Rattle.neph_turns.proofs.CloneLines.{IsRow, outcome, answered, clone_begins}
use Rattle.neph_turns.proofs.AtClone.{next_free, ready_hand, row_is, turn_is}
use Rattle.neph_turns.proofs.Begun.{name_gone, name_kept, spares_third}

same_child : (a b : ℕ) → Begun a ≡ Begun b → a ≡ b
same_child a b e = cc

-- What the hypervisor has left of the domain of an id, whose clone has begun.
pub record LeavesFork {Pool Seat : Type 0} (W : World Pool Seat) (old new : Machine Pool Seat) (l : Live Pool Seat) (d : DomLocal Pool Seat) (fork : Fork Pool Seat) : Type 0 where
  pub script : new.script ≡ old.script
  pub hv : IsHv W new.pool new.hv
  pub begun : IsBegun W old.pool old.hv l.local new.pool new.hv d fork
  pub stands : IsStanding W new.pool d
  pub same : IsUnchanged W old.pool l.local new.pool d
  pub others : Spares W (both_names (W.names old.hv.heap.seat) (W.names l.local.seat)) old.pool new.pool
  pub shares : W.shares new.pool ≡ W.shares old.pool

module _ {Pool Seat : Type 0} (W : World Pool Seat) (old : Machine Pool Seat) (st : State) (reached : IsReached old.script st) (stands : StandsFor W old st) (survey : IsSurveyed W) (well : IsWellFormed old.script) (id : ℕ) (ready : IsReadyAt old id Clone) (new : Machine Pool Seat) (d : DomLocal Pool Seat) (fork : Fork Pool Seat)
    (left : LeavesFork W old new ready.domain d fork) where
  abbrev l : Live Pool Seat
  l = ready.domain

  abbrev x : Part
  x = part_at st id

  abbrev flight : Flight Pool Seat
  flight = record { parent = id; fork = fork }

  is : IsDomain W old id l x
  is = ready_domain W old id Clone ready st stands

  quiet : x.guest.begun ≡ []
  quiet = ready_quiet W old id Clone ready st stands reached

  row : IsRow old.script st id (shared_in W new.pool new.hv) (Begun fork.child)
  row = row_is W old st reached stands survey id ready new.pool new.hv d (Begun fork.child) left.begun.row

  begins : Begins st.machine id (Free (free old.script st)) (outcome old.script st id (shared_in W new.pool new.hv) (Begun fork.child))
  begins = clone_begins old.script st id well (ready_command W old id Clone ready st stands) (shared_in W new.pool new.hv) fork.child row

  abbrev next : ℕ
  next = st.machine.shared.tables.next

  child_is : fork.child ≡ next
  child_is = same_child fork.child next begins.reply

  below : fork.child < 64
  below = let lt = begins.room in let e = child_is in omega arith

  -- the shared half behind the begin
  abbrev sh : Shared
  sh = record st.machine.shared { tables = begin_clone st.machine.shared.tables id (guest_at id st.machine.shared.tables) }

  shared_is : shared_in W new.pool new.hv ≡ sh
  shared_is = ap (λ (m : Plain). m.shared) begins.machine

  free_place : place_at fork.child old.places.items ≡ Empty
  free_place = ap (λ (i : ℕ). place_at i old.places.items) child_is ∙ next_free W old st reached stands

  far : fork.child ≢ id
  far e = empty_domain (sym free_place ∙ ap (λ (i : ℕ). place_at i old.places.items) e ∙ ready.here) where
    empty_domain : Empty ≡ Domain l → ⊥
    empty_domain h = cc

  module _ (k : Live Pool Seat) (places : new.places.items ≡ set (set old.places.items id (Domain k)) fork.child (InFlight flight)) (local : k.local ≡ d) where
    pages : k.local.own.map.pages ≡ l.local.own.map.pages
    pages = ap (λ (v : DomLocal Pool Seat). v.own.map.pages) local ∙ ap (λ o. o.map.pages) left.same.own

    small : id < 64
    small = within W old st reached stands id l ready.here

    put : IsPut old.places.items (set (set old.places.items id (Domain k)) fork.child (InFlight flight)) id fork.child (Domain k) (InFlight flight)
    put = let n = stands.places in let lt = small in let lc = below in put_two old.places.items id fork.child (Domain k) (InFlight flight) (omega arith) (omega arith) far

    pair : PairMoved W old new id fork.child l Empty (Domain k) (InFlight flight)
    pair = record {
      within = small;
      below = below;
      far = far;
      here = ready.here;
      there = free_place;
      child_place = tt;
      long = ap (λ (xs : List (Place Pool Seat)). length xs) places ∙ put.long ∙ stands.places;
      now_here = ap (place_at id) places ∙ put.here Empty;
      now_there = ap (place_at fork.child) places ∙ put.there Empty;
      other = λ j off away. ap (place_at j) places ∙ put.other j off away Empty;
      full = refl;
      script = left.script;
      exposed = λ j away. ap (exposed_of j) left.begun.stock;
      aside = λ j away. ap (aside_of j) left.begun.stock ∙ get_or-set_other old.hv.heap.stock.aside fork.child j _ [] away;
      names = λ j away. ap (λ (ms : ℕ → Bool). ms j) left.begun.names ∙ name_kept (W.names old.hv.heap.seat) fork.child j away;
      name = ap (λ (ms : ℕ → Bool). ms fork.child) left.begun.names ∙ name_gone (W.names old.hv.heap.seat) fork.child;
      spares = spares_third W (W.names old.hv.heap.seat) id fork.child old.pool new.pool
          (subst (λ (ms : ℕ → Bool). Spares W (both_names (W.names old.hv.heap.seat) ms) old.pool new.pool) (is.stands.names ∙ ap only_name is.id_is) left.others);
      heap = left.hv;
    }

    -- the half, what is kept of the clones, and the book of the domain behind the begin
    abbrev own : Own
    own = record x.own { refused = false }

    abbrev kept : Guest
    kept = let g = guest_at id st.machine.shared.tables in record g { begun = g.begun ++ next ∷ []; accepted = g.accepted + 1 }

    abbrev waiting : Book
    waiting = record x.book { stage = book.Forking (shared_count x.own) }

    abbrev after : State
    after = (answered old.script st id sh (Begun fork.child)).state

    turns : OneChanged st after id (record x { own = own; guest = but_handles kept; book = waiting })
    turns = begins_turns st id (orderly W old st reached stands id l ready.here) small kept own (next + 1) waiting st.books.fresh

    one_child : kept.begun ≡ fork.child ∷ []
    one_child = ap (λ (xs : List ℕ). xs ++ next ∷ []) quiet ∙ ap (λ (i : ℕ). i ∷ []) (sym child_is)

    some_pages : 0 < length x.own.pages
    some_pages = let low = (live_own old.script st reached id is.live).own.pages_low in omega arith

    exposed_same : exposed_of id new.hv.heap.stock ≡ exposed_of id old.hv.heap.stock
    exposed_same = ap (exposed_of id) left.begun.stock

    -- the domain waits for its child
    domain : k.guest.stage ≡ guest.Forking → k.guest.dom ≡ l.guest.dom → IsOwnHalf W new.pool k own → IsDomain W new id k (record x { own = own; guest = but_handles kept; book = waiting })
    domain stage dom half = record {
      live = is.live;
      dom = dom ∙ is.dom;
      id_is = ap (λ (v : DomLocal Pool Seat). v.id) local ∙ left.same.id ∙ is.id_is;
      stands = subst (λ (v : DomLocal Pool Seat). IsStanding W new.pool v) (sym local) left.stands;
      own = half;
      spare = is.spare ∙ sym (ap (λ (v : DomLocal Pool Seat). is_some v.own.spare) local ∙ ap (λ o. is_some o.spare) left.same.own);
      exposes = exposes_kept old.hv.heap.stock new.hv.heap.stock id l k exposed_same pages is.exposes;
      aside = pair.aside id (λ e. far (sym e)) ∙ is.aside;
      stage = (
        stage,
        ap (λ (v : DomLocal Pool Seat). v.hand) local ∙ left.same.hand ∙ ready_hand W old st reached stands survey id ready,
        record {
          child = fork.child;
          begun = one_child;
          flight = flight;
          there = pair.now_there;
          parent = refl;
          left_is = sym (first_shared x.own some_pages) ∙ ap (left_to_share x.own) (sym left.begun.first);
        },
      );
    }

    -- its child is in flight
    flies : IsFlight W new fork.child flight (part_at after id)
    flies = record {
      child = refl;
      fork = subst (λ (place : Place Pool Seat). IsForkIn W new place flight) (sym pair.now_here) (subst (λ (v : DomLocal Pool Seat). IsForkInHand W new.pool v fork) (sym local) left.begun.in_hand);
      begun = ap (λ (v : Part). v.guest.begun) turns.here ∙ one_child;
      aside = left.begun.aside ∙ ap (λ (i : ℕ). length (exposed_of i old.hv.heap.stock)) is.id_is ∙ sym (ap (λ (xs : List ExposedFrame). length xs) exposed_same);
    }

    -- the child has begun none
    none : HasNone new.hv.heap.stock fork.child (part_at after fork.child)
    none = none_same old.hv.heap.stock new.hv.heap.stock fork.child (part_at st fork.child) (part_at after fork.child) (ap (exposed_of fork.child) left.begun.stock) (turns.others fork.child far)
        (subst (λ (place : Place Pool Seat). IsPlace W old fork.child place (part_at st)) free_place (stands.each fork.child)).0

    stood : IsStood (rows_of new) after.books
    stood = subst (λ (rows : List (List ℕ)). IsStood rows after.books) (sym (pair_rows W old new id fork.child l Empty (Domain k) (InFlight flight) pair (ap (λ ps. row_frames (frames_in ps) (away_in old.hv.heap.stock id) 0) pages) refl))
        (stands.colours.0, stands_line stands.colours.0 (rows_of old) st.books id x.own Nothing (Begun fork.child) stands.colours.1 (in_books W old st reached stands id l ready.here) tt (λ e. cc))

    -- the turn
    pub clone_begun : k.guest.stage ≡ guest.Forking → k.guest.dom ≡ l.guest.dom → IsOwnHalf W new.pool k (own_behind x.own Clone (Begun fork.child) None)
        → Took W old new (turn old.script st (actor.Dom id)) (Entered (record { entry = Line id l.guest.line; reply = Begun fork.child }))
    clone_begun stage dom half =
        let plain : IsRow old.script st id sh (Begun fork.child) = row ∙ ap (λ (v : Shared). locked v (Begun fork.child)) shared_is in
        subst (λ (t : Done). Took W old new t (Entered (record { entry = Line id l.guest.line; reply = Begun fork.child }))) (sym (turn_is W old st reached stands survey id ready sh (Begun fork.child) plain)) (record {
          stands = pair_stands W old new id fork.child l Empty (Domain k) (InFlight flight) pair st after stands (λ j h. absurd (not_begun x.guest.begun j quiet h)) (λ j off away. turns.others j off) (sym shared_is) (subst (IsDomain W new id k) (sym turns.here) (domain stage dom half)) (none, flies) stood;
          script = left.script;
          moved = refl;
          entry = ap (λ (line : ℕ). record { entry = Line id line; reply = Begun fork.child } ∷ []) (sym is.own.line);
          shares = same_shares (W.shares old.pool) (W.shares new.pool) left.shares;
        })
