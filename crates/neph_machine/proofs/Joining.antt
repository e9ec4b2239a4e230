-- The second stage of a clone: the machine stands for the state behind it.
use Rattle.std.proofs.Common.{◌≡◌, ℕ, ◌+◌, ◌-◌, ◌==◌, true, false, List, [], ◌∷◌, refl, sym, ap, subst, ◌∙◌, arith}
use Rattle.std.specs.Prelude.{◌^◌, min}
use Rattle.neph_base.specs.declared.reply.Actor.TheVariants as actor
use Rattle.neph_base.specs.declared.reply.Entry.TheVariants.{Daemon}
use Rattle.neph_base.specs.declared.reply.Reply.{Reply}
use Rattle.neph_base.specs.declared.reply.Reply.TheVariants.{Child}
use Rattle.neph_model.specs.declared.script.Script.{Script}
use Rattle.neph_model.specs.declared.life.Cloned.{Cloned}
use Rattle.neph_model.specs.declared.book.Stage.{Stage}
use Rattle.neph_model.specs.declared.book.Stage.TheVariants as book
use Rattle.neph_model.specs.Machine.{Exposed, Shared, live_count, is_over}
use Rattle.neph_model.specs.Step.{Locked, locked, shared_join, is_some_left}
use Rattle.neph_model.specs.Births.{join}
use Rattle.neph_model.specs.Books.{State}
use Rattle.neph_model.specs.Turns.{Done, nothing, turn}
use Rattle.neph_runs.specs.Orderly.{Seat as Part, seat as part_at}
use Rattle.neph_runs.proofs.Turning.{joins, joins_seats}
use Rattle.neph_pool.specs.World.{World}
use Rattle.neph_rows.specs.Records.{Records, shared_of}
use Rattle.neph_heap.specs.Pages.{pages_in}
use Rattle.neph_heap.specs.declared.heap.Heap.{Heap}
use Rattle.neph_hv.specs.declared.hv.Hv.{Hv}
use Rattle.neph_machine.specs.Turned.{Took}
use Rattle.neph_machine.specs.declared.turn.Turn.TheVariants.{Rested, Noted as Entered}
use Rattle.neph_machine.specs.declared.place.Place.{Place}
use Rattle.neph_machine.specs.declared.place.Place.TheVariants.{Empty, Flight as InFlight, Domain}
use Rattle.neph_machine.specs.declared.machine.Machine.{Machine}
use Rattle.neph_machine.specs.Places.{place_at}
use Rattle.neph_machine.specs.StandsFor.{HasNone, IsAtStage, IsDomain, IsForkIn, IsFlight, IsPlace, StandsFor}

-- the daemon's turn is its entry, where clones wait, and does nothing where none does
pub joins_is : (s : Script) (st : State) (waiting : List Cloned) → st.machine.shared.tables.waiting ≡ waiting → turn s st actor.Daemon ≡ joins st waiting
joins_is s st waiting e = ap (joins st) e

pub none_waits : (s : Script) (st : State) → is_some_left st.machine.shared.tables.waiting ≡ false → turn s st actor.Daemon ≡ nothing st
none_waits s st none = by st.machine.shared.tables.waiting refl none where
  by : (waiting : List Cloned) → st.machine.shared.tables.waiting ≡ waiting → is_some_left waiting ≡ false → turn s st actor.Daemon ≡ nothing st
  by [] e none = joins_is s st [] e
  by (w ∷ rest) e none = absurd cc

-- the machine with other tables of its hypervisor
abbrev pub with_registry : {Pool Seat : Type 0} → Machine Pool Seat → Records → Machine Pool Seat
with_registry m r = record m { hv = record m.hv { registry = r } }

module _ {Pool Seat : Type 0} (W : World Pool Seat) (m : Machine Pool Seat) (r : Records) where
  -- what stands in the places is as before, where the state has the same parts
  parts_same : (id : ℕ) (place : Place Pool Seat) (x y : ℕ → Part) → ((j : ℕ) → y j ≡ x j) → IsPlace W m id place x → IsPlace W (with_registry m r) id place y
  parts_same id Empty x y same h = (subst (HasNone m.hv.heap.stock id) (sym (same id)) h.0, h.1)
  parts_same id (InFlight f) x y same h = (subst (HasNone m.hv.heap.stock id) (sym (same id)) h.0, subst (λ (p : Part). IsFlight W (with_registry m r) id f p) (sym (same f.parent)) (record { child = h.1.child; fork = forks (place_at f.parent m.places.items) h.1.fork; begun = h.1.begun; aside = h.1.aside })) where
    forks : (place : Place Pool Seat) → IsForkIn W m place f → IsForkIn W (with_registry m r) place f
    forks Empty k = absurd k
    forks (InFlight g) k = absurd k
    forks (Domain l) k = k
  parts_same id (Domain l) x y same h = subst (λ (p : Part). IsDomain W (with_registry m r) id l p) (sym (same id)) (record {
    live = h.live;
    dom = h.dom;
    id_is = h.id_is;
    stands = h.stands;
    own = h.own;
    spare = h.spare;
    exposes = h.exposes;
    aside = h.aside;
    stage = stages (x id).book.stage h.stage;
  }) where
    stages : (stage : Stage) → IsAtStage W m id l (x id) stage → IsAtStage W (with_registry m r) id l (x id) stage
    stages book.Ready k = k
    stages book.Copying k = k
    stages (book.Forking left) k = (k.0, k.1, record { child = k.2.child; begun = k.2.begun; flight = k.2.flight; there = k.2.there; parent = k.2.parent; left_is = k.2.left_is })

  -- the row of the second stage
  abbrev pub Joins : Reply → Type 0
  Joins reply = (pages : List Exposed) → shared_join (shared_of m.hv.registry pages) m.hv.registry.tables.waiting ≡ locked (shared_of r pages) reply

  module _ (st : State) (stands : StandsFor W m st) (w : Cloned) (rest : List Cloned) (waits : m.hv.registry.tables.waiting ≡ w ∷ rest) (reply : Reply) (row : Joins reply) where
    pages : List Exposed
    pages = pages_in (W.entries m.pool m.hv.heap.seat) m.hv.heap.stock.exposed

    did : locked (join (shared_of m.hv.registry (pages_in (W.entries m.pool m.hv.heap.seat) m.hv.heap.stock.exposed)) rest) (Child w.child) ≡ locked (shared_of r (pages_in (W.entries m.pool m.hv.heap.seat) m.hv.heap.stock.exposed)) reply
    did = sym (ap (shared_join (shared_of m.hv.registry (pages_in (W.entries m.pool m.hv.heap.seat) m.hv.heap.stock.exposed))) waits) ∙ row (pages_in (W.entries m.pool m.hv.heap.seat) m.hv.heap.stock.exposed)

    pub reply_is : reply ≡ Child w.child
    reply_is = sym (ap (λ (x : Locked). x.reply) did)

    pub waiting_is : st.machine.shared.tables.waiting ≡ w ∷ rest
    waiting_is = ap (λ (sh : Shared). sh.tables.waiting) stands.shared ∙ waits

    pub joined_stands : StandsFor W (with_registry m r) (joins st (w ∷ rest)).state
    joined_stands = record {
      frames = stands.frames;
      cap = stands.cap;
      heap = stands.heap;
      shared = ap (λ (sh : Shared). join sh rest) stands.shared ∙ ap (λ (x : Locked). x.shared) did;
      places = stands.places;
      names = stands.names;
      each = λ id. parts_same id (place_at id m.places.items) (part_at st) (part_at (joins st (w ∷ rest)).state) (joins_seats st w rest) (stands.each id);
      colours = stands.colours;
    }

-- the machine with another hypervisor over the same frames
module _ {Pool Seat : Type 0} (W : World Pool Seat) (m : Machine Pool Seat) (hv : Hv Pool Seat) (same : hv.heap ≡ m.hv.heap) where
  hv_is : record { registry = hv.registry; heap = m.hv.heap } ≡ hv
  hv_is = ap (λ (h : Heap Pool Seat). let x : Hv Pool Seat = record { registry = hv.registry; heap = h } in x) (sym same)

  -- the daemon's turn, where a clone waits
  pub joined_took : (st : State) → StandsFor W m st → is_some_left m.hv.registry.tables.waiting ≡ true → (reply : Reply) → Joins W m hv.registry reply → Took W m (record m { hv = hv }) (turn m.script st actor.Daemon) (Entered (record { entry = Daemon; reply = reply }))
  joined_took st stands some reply row = by m.hv.registry.tables.waiting refl some where
    by : (waiting : List Cloned) → m.hv.registry.tables.waiting ≡ waiting → is_some_left waiting ≡ true → Took W m (record m { hv = hv }) (turn m.script st actor.Daemon) (Entered (record { entry = Daemon; reply = reply }))
    by [] e t = absurd cc
    by (w ∷ rest) e t =
        let is = joins_is m.script st (w ∷ rest) (waiting_is W m hv.registry st stands w rest e reply row) in
        subst (λ (d : Done). Took W m (record m { hv = hv }) d (Entered (record { entry = Daemon; reply = reply }))) (sym is)
        (record {
          stands = subst (λ (h : Hv Pool Seat). StandsFor W (record m { hv = h }) (joins st (w ∷ rest)).state) hv_is (joined_stands W m hv.registry st stands w rest e reply row);
          script = refl;
          moved = refl;
          entry = ap (λ (r : Reply). record { entry = Daemon; reply = r } ∷ []) (reply_is W m hv.registry st stands w rest e reply row);
          shares = let z : W.shares m.pool ≡ W.shares m.pool + 0 = omega arith in ap (λ (n : ℕ). min n (2 ^ 64 - 1)) z;
        })

-- a turn that does nothing
pub rested_took : {Pool Seat : Type 0} (W : World Pool Seat) (m : Machine Pool Seat) (st : State) (d : Done) → StandsFor W m st → d ≡ nothing st → Took W m m d Rested
rested_took W m st d stands is = subst (λ (x : Done). Took W m m x Rested) (sym is) (record {
  stands = stands;
  script = refl;
  moved = refl;
  entry = refl;
  shares = let z : W.shares m.pool ≡ W.shares m.pool + 0 = omega arith in ap (λ (n : ℕ). min n (2 ^ 64 - 1)) z;
})

-- where no clone waits the daemon does nothing
pub idle_took : {Pool Seat : Type 0} (W : World Pool Seat) (m : Machine Pool Seat) (st : State) → StandsFor W m st → is_some_left m.hv.registry.tables.waiting ≡ false → Took W m m (turn m.script st actor.Daemon) Rested
idle_took W m st stands none = rested_took W m st (turn m.script st actor.Daemon) stands (none_waits m.script st (ap (λ (sh : Shared). is_some_left sh.tables.waiting) stands.shared ∙ none))

-- a run is over where the hypervisor has no live domain
pub over_is : {Pool Seat : Type 0} (W : World Pool Seat) (m : Machine Pool Seat) (st : State) → StandsFor W m st → is_over st.machine ≡ (live_count m.hv.registry.lives == 0)
over_is W m st stands = ap (λ (sh : Shared). live_count sh.lives == 0) stands.shared
