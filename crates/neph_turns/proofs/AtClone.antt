-- What is known of a domain that is ready for a clone, and of the next id.
use Rattle.std.proofs.Common.{None, ◌≡◌, ℕ, ◌<◌, true, [], ◌∷◌, length, refl, sym, ap, subst, ◌∙◌, arith}
use Rattle.neph_base.specs.declared.command.Command.TheVariants.{Clone}
use Rattle.neph_base.specs.declared.command.Command.{Command}
use Rattle.neph_base.specs.declared.reply.Actor.TheVariants as actor
use Rattle.neph_base.specs.declared.reply.Reply.{Reply}
use Rattle.neph_model.specs.declared.told.Told.TheVariants.{Free}
use Rattle.neph_model.specs.declared.book.Stage.{Stage}
use Rattle.neph_model.specs.Programs.{command_at}
use Rattle.neph_model.specs.Machine.{Shared, program_run}
use Rattle.neph_model.specs.Step.{Locked, shared_line}
use Rattle.neph_model.specs.Books.{State, free}
use Rattle.neph_model.specs.Turns.{turn}
use Rattle.neph_runs.specs.Orderly.{seat as part_at}
use Rattle.neph_pool.specs.World.{World}
use Rattle.neph_memory.specs.declared.dom_local.DomLocal.{DomLocal}
use Rattle.neph_memory.specs.Domains.{domain_leaf_count}
use Rattle.neph_local.proofs.Tallying.{leaves_counted}
use Rattle.neph_guest.specs.declared.live.Live.{Live}
use Rattle.neph_heap.specs.Lists.{aside_of}
use Rattle.neph_hv.specs.declared.hv.Hv.{Hv}
use Rattle.neph_hv.specs.Hv.{lent_leaves, shared_in}
use Rattle.neph_hv.specs.Begins.{IsCloneRow}
use Rattle.neph_machine.specs.declared.place.Place.{Place}
use Rattle.neph_machine.specs.declared.place.Place.TheVariants.{Empty, Flight as InFlight, Domain}
use Rattle.neph_machine.specs.declared.machine.Machine.{Machine}
use Rattle.neph_machine.specs.Places.{place_at, is_empty}
use Rattle.neph_machine.specs.Stages.{IsReadyAt}
use Rattle.neph_machine.specs.StandsFor.{IsAtStage, IsDomain, IsForkIn, IsPlace, StandsFor}
use Rattle.neph_machine.specs.Surveyed.{IsSurveyed}
use Rattle.neph_machine.proofs.Reached.{IsReached, first_child, live_orderly}
use Rattle.neph_machine.proofs.FrameLaws.{free_is}
use Rattle.neph_machine.proofs.Carrying.{same_live}
use Rattle.neph_lines.proofs.Exits.{ready_domain, ready_book, ready_runs, ready_command}
use Rattle.neph_turns.proofs.CloneLines.{IsRow, answered, clone_is}

-- the domain that is ready is the one that stands there
abbrev pub ready_as : {Pool Seat : Type 0} (m : Machine Pool Seat) (id : ℕ) (c : Command) (l : Live Pool Seat) → place_at id m.places.items ≡ Domain l → IsReadyAt m id c → IsReadyAt m id c
ready_as m id c l here ready = let e : l ≡ ready.domain = same_live l ready.domain (sym here ∙ ready.here) in
    record {
      domain = l;
      here = here;
      ready = ap (λ (v : Live _ _). v.guest.stage) e ∙ ready.ready;
      runs = ready.runs;
      command = ap (λ (v : Live _ _). command_at m.script (program_run id m.hv.registry.lives) v.guest.line) e ∙ ready.command;
    }

module _ {Pool Seat : Type 0} (W : World Pool Seat) (m : Machine Pool Seat) (st : State) (reached : IsReached m.script st) (stands : StandsFor W m st) where
  -- nobody has an id that was not given
  pub next_free : place_at st.machine.shared.tables.next m.places.items ≡ Empty
  next_free = by (place_at next m.places.items) refl (stands.each next) where
    next : ℕ
    next = st.machine.shared.tables.next

    flown : (parent : ℕ) (place : Place Pool Seat) → IsPlace W m parent place (part_at st) → (part_at st parent).guest.begun ≡ next ∷ [] → (f : _) → IsForkIn W m place f → ⊥
    flown parent Empty h begun f k = k
    flown parent (InFlight g) h begun f k = k
    flown parent (Domain d) h begun f k =
        let given = first_child parent next (part_at st parent).guest.begun (part_at st parent).book.stage (live_orderly m.script st reached parent h.live).forks next [] begun in
        omega (arith, given.1)

    by : (place : Place Pool Seat) → place_at next m.places.items ≡ place → IsPlace W m next place (part_at st) → place_at next m.places.items ≡ Empty
    by Empty at h = at
    by (InFlight f) at h = absurd (flown f.parent (place_at f.parent m.places.items) (stands.each f.parent) h.1.begun f h.1.fork)
    by (Domain d) at h = let o = live_orderly m.script st reached next h.live in absurd (let lt = o.high in omega arith)

  next_is : st.machine.shared.tables.next ≡ m.hv.registry.tables.next
  next_is = ap (λ (sh : Shared). sh.tables.next) stands.shared

  pub next_named : m.hv.registry.tables.next < 64 → W.names m.hv.heap.seat m.hv.registry.tables.next ≡ true
  next_named lt = stands.names m.hv.registry.tables.next lt ∙ ap (λ (i : ℕ). is_empty (place_at i m.places.items)) (sym next_is) ∙ ap is_empty next_free

  pub next_none : aside_of m.hv.registry.tables.next m.hv.heap.stock ≡ []
  next_none = ap (λ (i : ℕ). aside_of i m.hv.heap.stock) (sym next_is) ∙ (subst (λ (place : Place Pool Seat). IsPlace W m st.machine.shared.tables.next place (part_at st)) next_free (stands.each st.machine.shared.tables.next)).1

  module _ (survey : IsSurveyed W) (id : ℕ) (ready : IsReadyAt m id Clone) where
    was : IsDomain W m id ready.domain (part_at st id)
    was = ready_domain W m id Clone ready st stands

    -- it has no write in hand
    pub ready_hand : ready.domain.local.hand ≡ None
    ready_hand = (subst (λ (v : Stage). IsAtStage W m id ready.domain (part_at st id) v) (ready_book W m id Clone ready st stands) was.stage).1

    abbrev row_at : Shared → ℕ → ℕ → ℕ → Locked
    row_at sh i n f = shared_line sh i (lent_leaves n) (Free f) Clone

    -- the hypervisor's row is that of the definitions
    pub row_is : (q : Pool) (k : Hv Pool Seat) (e : DomLocal Pool Seat) (r : Reply) → IsCloneRow W m.pool m.hv ready.domain.local q k e r → IsRow m.script st id (shared_in W q k) r
    row_is q k e r row =
        let d = ready.domain.local in
        let x = part_at st id in
        let n : ℕ = domain_leaf_count W m.pool d in
        let f : ℕ = length m.hv.heap.stock.free in
        let lent : length x.own.leaves ≡ n = leaves_counted W m.pool d _ _ _ was.own.own.memory in
        let frees : f ≡ free m.script st = free_is W m st survey reached stands in
        ap (λ (sh : Shared). row_at sh id (length x.own.leaves) (free m.script st)) stands.shared ∙ ap (λ (i : ℕ). row_at (shared_in W m.pool m.hv) i (length x.own.leaves) (free m.script st)) (sym was.id_is)
        ∙ ap (λ (j : ℕ). row_at (shared_in W m.pool m.hv) d.id j (free m.script st)) lent ∙ ap (λ (j : ℕ). row_at (shared_in W m.pool m.hv) d.id n j) (sym frees) ∙ row

    -- its turn, where the row is this
    pub turn_is : (sh : Shared) (r : Reply) → IsRow m.script st id sh r → turn m.script st (actor.Dom id) ≡ answered m.script st id sh r
    turn_is sh r row = clone_is m.script st id was.live (ready_book W m id Clone ready st stands) (ready_runs W m id Clone ready st stands) (ready_command W m id Clone ready st stands) sh r row
