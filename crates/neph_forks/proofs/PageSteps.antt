-- A page step of a clone in flight, by the definitions.
use Rattle.std.proofs.Common.{◌≡◌, ℕ, suc, ◌+◌, ◌-◌, ◌^◌, Bool, true, cond, [], ◌∷◌, length, min, refl, sym, ap, subst, ◌∙◌, arith}
use Rattle.std.specs.Prelude.{is_some}
use Rattle.std.proofs.Math.Nat.{min-eq_left, min-le_right}
use Rattle.neph_base.specs.declared.reply.Actor.TheVariants.{Dom}
use Rattle.neph_model.specs.declared.script.Script.{Script}
use Rattle.neph_model.specs.declared.book.Book.{Book}
use Rattle.neph_model.specs.declared.book.Stage.{Stage}
use Rattle.neph_model.specs.declared.book.Stage.TheVariants as book
use Rattle.neph_model.specs.Books.{State, put_book, free}
use Rattle.neph_model.specs.Step.{is_paused}
use Rattle.neph_model.specs.Trap.{is_blocked}
use Rattle.neph_model.specs.Turns.{Done, quietly, nothing, next_command, stage_move, move_turn, stage_stepped, turn}
use Rattle.neph_runs.specs.Orderly.{Seat as Part, seat as part_at}
use Rattle.neph_runs.proofs.Seats.{OneChanged, book_turns}
use Rattle.neph_pool.specs.World.{World}
use Rattle.neph_gmap.specs.GuestPages.{GuestPages}
use Rattle.neph_memory.specs.declared.dom_local.DomLocal.{DomLocal}
use Rattle.neph_memory.specs.Domains.{IsStanding, domain_page, domain_mapping, domain_leaf, KeepsPages, KeepsMap, KeepsLeaves}
use Rattle.neph_memory.proofs.HalfParts.{same}
use Rattle.neph_local.specs.declared.forking.Fork.{Fork}
use Rattle.neph_local.specs.Forks.{IsForkInHand, IsNextPage}
use Rattle.neph_local.proofs.Counting.{next_shared}
use Rattle.neph_guest.specs.declared.live.Live.{Live}
use Rattle.neph_guest.specs.declared.live.Guest.{Guest}
use Rattle.neph_guest.specs.OwnHalf.{IsOwnHalf}
use Rattle.neph_heap.specs.Lists.{Lists, exposed_of, aside_of}
use Rattle.neph_accounts.specs.Colours.{IsStood}
use Rattle.neph_accounts.proofs.Turns.{stands_quiet}
use Rattle.neph_machine.specs.declared.place.Place.TheVariants.{Flight as InFlight, Domain}
use Rattle.neph_machine.specs.declared.place.Flight.{Flight}
use Rattle.neph_machine.specs.declared.machine.Machine.{Machine}
use Rattle.neph_machine.specs.declared.turn.Turn.TheVariants.{Moved}
use Rattle.neph_machine.specs.Places.{place_at}
use Rattle.neph_machine.specs.Rows.{rows_of}
use Rattle.neph_machine.specs.StandsFor.{left_from, IsDomain, IsForkIn, IsFlight, StandsFor}
use Rattle.neph_machine.specs.Turned.{Took}
use Rattle.neph_machine.proofs.Reached.{IsReached}
use Rattle.neph_machine.proofs.Carrying.{exposes_kept}
use Rattle.neph_machine.proofs.Paired.{IsPair, domain, flight, begun, fork, forks}
use Rattle.neph_machine.proofs.Pairs.{PairMoved}
use Rattle.neph_forks.proofs.TwoPlaces.{ForkMoved, stock_same, pair, fork_stands}

-- what is at most the bound is as it is with the bound
min_again : (a b n : ℕ) → n ≡ min a b → min n b ≡ min a b
min_again a b n e = ap (λ (k : ℕ). min k b) e ∙ min-eq_left (min-le_right a b)

-- the turn of a live domain that is so far with its line
abbrev turn_at : Script → State → ℕ → Bool → Stage → Done
turn_at s st id live stage =
    let m = st.machine in
    let c = next_command s m id in
    let x = part_at st id in
    cond live (move_turn s st id (stage_move (free s st) st.books (is_paused id m.shared) (is_blocked m.shared id c) x.own x.book c stage)) (nothing st)

-- the book of a domain with so many page steps left
abbrev stepped : State → ℕ → ℕ → Book
stepped st id n = record (part_at st id).book { stage = book.Forking n }

-- where page steps are left, one is made
step_turn : (s : Script) (st : State) (id n : ℕ) → is_some (part_at st id).life ≡ true → (part_at st id).book.stage ≡ book.Forking (suc n)
    → turn s st (Dom id) ≡ quietly st (put_book id (record (part_at st id).book { stage = book.Forking n }) st.books) 1
step_turn s st id n live e =
    ap (λ (b : Bool). turn_at s st id b (part_at st id).book.stage) live ∙ ap (turn_at s st id true) e
    ∙ ap (λ (stage : Stage). quietly st (put_book id (record (part_at st id).book { stage = stage_stepped stage }) st.books) 1) e

-- what a page step did to the parent's memory and to the fork
pub record SharedPage {Pool Seat : Type 0} (W : World Pool Seat) (p : Pool) (d : DomLocal Pool Seat) (f : Fork Pool Seat) (q : Pool) (e : DomLocal Pool Seat) (g : Fork Pool Seat) : Type 0 where
  pub stands : IsStanding W q e
  pub fork : IsForkInHand W q e g
  pub next : IsNextPage d.own.map.pages f.next (g.next - 1)
  pub child : g.child ≡ f.child
  pub map : e.own.map ≡ d.own.map
  pub spare : e.own.spare ≡ d.own.spare
  pub bytes : KeepsPages W p d q e
  pub mappings : KeepsMap W p d q e
  pub leaves : KeepsLeaves W p d q e
  pub id : e.id ≡ d.id
  pub hand : e.hand ≡ d.hand

module _ {Pool Seat : Type 0} (W : World Pool Seat) (old new : Machine Pool Seat) (id child : ℕ) (l k : Live Pool Seat) (f g : Flight Pool Seat)
    (moved : ForkMoved W old new id child l k f g) (page : SharedPage W old.pool l.local f.fork new.pool k.local g.fork) (guest_same : k.guest ≡ l.guest) (parent_same : g.parent ≡ f.parent)
    (st : State) (reached : IsReached old.script st) (stands : StandsFor W old st) (both : IsPair old id child l f) where
  abbrev moves : PairMoved W old new id child l (InFlight f) (Domain k) (InFlight g)
  moves = pair W old new id child l k f g moved st reached stands both

  was : IsDomain W old id l (part_at st id)
  was = domain W old st reached stands id child l f both

  flight_was : IsFlight W old child f (part_at st f.parent)
  flight_was = flight W old st reached stands id child l f both

  born : (part_at st id).guest.begun ≡ child ∷ []
  born = begun W old st reached stands id child l f both

  abbrev left : ℕ
  left = left_from (part_at st id).own g.fork.next

  stage_is : (part_at st id).book.stage ≡ book.Forking (suc left)
  stage_is =
      let at = forks W old st reached stands id child l f both in
      at.1 ∙ ap book.Forking (at.2 ∙ next_shared W old.pool l.local (part_at st id).own was.own.own.memory f.fork.next g.fork.next (fork W old st reached stands id child l f both).began page.fork.began page.next)

  abbrev later : State
  later = record st { books = put_book id (stepped st id left) st.books }

  changed : OneChanged st later id (record (part_at st id) { book = stepped st id left })
  changed = book_turns st id reached.sound.orderly.places moves.within (stepped st id left) st.books.fresh

  half : IsOwnHalf W new.pool k (part_at st id).own
  half = record {
    line = was.own.line ∙ sym (ap (λ (x : Guest). x.line) guest_same);
    came = was.own.came ∙ sym (ap (λ (x : Guest). x.came) guest_same);
    refused = was.own.refused ∙ sym (ap (λ (x : Guest). x.failed) guest_same);
    own = record {
      memory = same (length l.local.own.map.pages) (domain_page W old.pool l.local) (domain_mapping W old.pool l.local) (domain_leaf W old.pool l.local) (part_at st id).own.pages (part_at st id).own.vmap (part_at st id).own.leaves was.own.own.memory
          (length k.local.own.map.pages) (domain_page W new.pool k.local) (domain_mapping W new.pool k.local) (domain_leaf W new.pool k.local) (ap (λ (m : GuestPages). length m.pages) page.map) page.bytes page.mappings page.leaves;
      marks = was.own.own.marks;
    };
  }

  stock : new.hv.heap.stock ≡ old.hv.heap.stock
  stock = stock_same W old new id child l k f g moved

  domain_now : IsDomain W new id k (record (part_at st id) { book = stepped st id left })
  domain_now = record {
    live = was.live;
    dom = ap (λ (x : Guest). x.dom) guest_same ∙ was.dom;
    id_is = page.id ∙ was.id_is;
    stands = page.stands;
    own = half;
    spare = was.spare ∙ ap is_some (sym page.spare);
    exposes = exposes_kept old.hv.heap.stock new.hv.heap.stock id l k (ap (exposed_of id) stock) moved.pages was.exposes;
    aside = ap (aside_of id) stock ∙ was.aside;
    stage = (
      ap (λ (x : Guest). x.stage) guest_same ∙ both.forking,
      page.hand ∙ (forks W old st reached stands id child l f both).3,
      record {
        child = child;
        begun = born;
        flight = g;
        there = moves.now_there;
        parent = parent_same ∙ both.parent;
        left_is = refl;
      },
    );
  }

  flight_now : IsFlight W new child g (part_at later g.parent)
  flight_now = record {
    child = page.child ∙ flight_was.child;
    fork = subst (λ place. IsForkIn W new place g) (sym (ap (λ (i : ℕ). place_at i new.places.items) (parent_same ∙ both.parent) ∙ moves.now_here)) page.fork;
    begun = ap (λ (i : ℕ). (part_at later i).guest.begun) (parent_same ∙ both.parent) ∙ ap (λ (x : Part). x.guest.begun) changed.here ∙ born;
    aside = ap (λ (s : Lists). length (aside_of child s)) stock ∙ flight_was.aside
        ∙ sym (ap (λ (s : Lists). length (exposed_of f.parent s)) stock) ∙ sym (ap (λ (i : ℕ). length (exposed_of i new.hv.heap.stock)) parent_same);
  }

  stood : IsStood (rows_of old) later.books
  stood = (stands.colours.0, stands_quiet stands.colours.0 (rows_of old) st.books id (stepped st id left) stands.colours.1 (let n = reached.sound.orderly.places.books in let lt = moves.within in omega (arith, n, lt)) refl)

  -- the machine stands for the state behind the step
  step_stands : StandsFor W new later
  step_stands = fork_stands W old new id child l k f g moved st reached stands both later changed.others refl (subst (λ (x : Part). IsDomain W new id k x) (sym changed.here) domain_now) flight_now stood

  -- a page step is the turn of the domain
  pub step_took : W.shares new.pool ≡ min (W.shares old.pool + 1) (2 ^ 64 - 1) → Took W old new (turn old.script st (Dom id)) Moved
  step_took shares = subst (λ (d : Done). Took W old new d Moved) (sym (step_turn old.script st id left was.live stage_is)) (record {
    stands = step_stands;
    script = moved.script;
    moved = refl;
    entry = refl;
    shares = min_again (W.shares old.pool + 1) (2 ^ 64 - 1) (W.shares new.pool) shares;
  })
