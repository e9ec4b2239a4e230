-- A domain whose line needs a frame takes a spare, or is told that no frame is left.
use Rattle.std.proofs.Common.{◌≡◌, ◌≢◌, ℕ, ◌<◌, Bool, true, false, List, [], length, get_or, None, refl, sym, ap, subst, ◌∙◌, arith}
use Rattle.std.specs.Prelude.{is_some, IsSome, ◌||◌}
use Rattle.neph_base.specs.declared.command.Command.{Command}
use Rattle.neph_base.specs.declared.command.Command.TheVariants as command
use Rattle.neph_base.specs.declared.reply.Reply.{Reply}
use Rattle.neph_base.specs.declared.reply.Reply.TheVariants as reply
use Rattle.neph_model.specs.declared.own.Own.{Own}
use Rattle.neph_model.specs.declared.book.Book.{Book}
use Rattle.neph_model.specs.declared.book.Stage.{Stage}
use Rattle.neph_model.specs.declared.book.Stage.TheVariants as book
use Rattle.std.proofs.lemmas.Bool.{eqb-true}
use Rattle.neph_model.specs.declared.book.Spends.{Spends}
use Rattle.neph_model.specs.Machine.{put_own}
use Rattle.neph_model.specs.Books.{State, put_book, book_spent, fresh_spent}
use Rattle.neph_model.specs.Turns.{book_after, books_after}
use Rattle.neph_runs.specs.Orderly.{Seat as Part, seat as part_at, HasPlaces, ForksWell}
use Rattle.neph_runs.proofs.Seats.{book_turns}
use Rattle.neph_pool.specs.Names.{IsApart, only_name, both_names}
use Rattle.neph_pool.specs.World.{World, Spares, Stays}
use Rattle.neph_memory.specs.declared.dom_local.DomLocal.{DomLocal}
use Rattle.neph_memory.specs.Pages.{frame_at}
use Rattle.neph_memory.specs.Domains.{IsStanding, KeepsPages, KeepsMap, KeepsLeaves}
use Rattle.neph_memory.proofs.HalfParts.{same}
use Rattle.neph_guest.specs.declared.live.Live.{Live}
use Rattle.neph_guest.specs.declared.live.Guest.{Guest}
use Rattle.neph_guest.specs.declared.live.Stage.TheVariants as guest
use Rattle.neph_guest.specs.OwnHalf.{IsOwnHalf}
use Rattle.neph_guest.specs.Turns.{IsLineInHand}
use Rattle.neph_hv.specs.declared.hv.Hv.{Hv}
use Rattle.neph_hv.specs.Hv.{IsHv, shared_in}
use Rattle.neph_accounts.specs.Colours.{Stands, IsStood, CopiesNothing}
use Rattle.neph_accounts.proofs.Turns.{stands_quiet, stands_line}
use Rattle.neph_machine.specs.declared.place.Place.{Place}
use Rattle.neph_machine.specs.declared.place.Place.TheVariants.{Domain}
use Rattle.neph_machine.specs.declared.machine.Machine.{Machine}
use Rattle.neph_machine.specs.Places.{place_at, is_empty}
use Rattle.neph_machine.specs.Rows.{rows_of}
use Rattle.neph_machine.specs.StandsFor.{Exposes, command_of, IsAtStage, IsDomain, IsPlace, StandsFor}
use Rattle.neph_machine.proofs.Reached.{IsReached, live_ids, live_orderly}
use Rattle.neph_lines.proofs.LineTurns.{put_turns}
use Rattle.neph_machine.proofs.Carrying.{exposes_kept}
use Rattle.neph_machine.proofs.OnePlace.{not_begun, no_name, OneDomain, stands_one, one_rows_same}

-- from the memory d to the memory e: what is read of the pages, the map and the leaf tables is as before, and so is where each page lies
pub record IsKept {Pool Seat : Type 0} (W : World Pool Seat) (p : Pool) (d : DomLocal Pool Seat) (q : Pool) (e : DomLocal Pool Seat) : Type 0 where
  pub stands : IsStanding W q e
  pub map : e.own.map ≡ d.own.map
  pub pages : KeepsPages W p d q e
  pub mappings : KeepsMap W p d q e
  pub leaves : KeepsLeaves W p d q e
  pub id : e.id ≡ d.id

module _ {Pool Seat : Type 0} (W : World Pool Seat) (p q : Pool) (l k : Live Pool Seat) (kept : IsKept W p l.local q k.local) where
  -- the own half is as before, but for line and marks
  pub half_kept : (o n : Own) → n.pages ≡ o.pages → n.vmap ≡ o.vmap → n.leaves ≡ o.leaves → n.alone ≡ o.alone → n.line ≡ k.guest.line → n.came ≡ k.guest.came → n.refused ≡ k.guest.failed → IsOwnHalf W p l o → IsOwnHalf W q k n
  half_kept o n pages vmap leaves alone line came refused h = record {
    line = line;
    came = came;
    refused = refused;
    own = record {
      memory = rw (pages, vmap, leaves) (same _ _ _ _ o.pages o.vmap o.leaves h.own.memory _ _ _ _ (ap (λ m. length m.pages) kept.map) kept.pages kept.mappings kept.leaves);
      marks = rw (pages, alone) h.own.marks;
    };
  }

  -- so is a write in hand that is kept
  pub hand_kept : (c : Command) → k.local.hand ≡ l.local.hand → IsLineInHand W p l.local c → IsLineInHand W q k.local c
  hand_kept (command.W addr bytes) e h = record {
    pfn = h.pfn;
    range = h.range;
    mapped = kept.mappings _ h.range ∙ h.mapped;
    own = subst (λ (m : _). IsSome (frame_at m.pages h.pfn)) (sym kept.map) h.own;
    hand = e ∙ h.hand;
  }
  hand_kept _ e h = absurd h

-- what spares all but two seats spares all but these, in either order
pub spares_swap : {Pool Seat : Type 0} (W : World Pool Seat) (ms ns ks : ℕ → Bool) (p q : Pool) → ns ≡ ks → Spares W (both_names ms ns) p q → Spares W (both_names ks ms) p q
spares_swap W ms ns ks p q e s = record {
  frames = s.frames;
  cap = s.cap;
  fits = λ t f a. s.fits t f (swap (W.names t) a);
  entries = λ t f a. s.entries t f (swap (W.names t) a);
} where
  or_swap : (a b c : Bool) → b ≡ c → (a || b) ≡ true → (c || a) ≡ true
  or_swap true b true e h = refl
  or_swap true b false e h = refl
  or_swap false b true e h = refl
  or_swap false b false e h = absurd (cc)

  swap : (names : ℕ → Bool) → IsApart (both_names ks ms) names → IsApart (both_names ms ns) names
  swap names a d x y = a d (or_swap (ms d) (ns d) (ks d) (ap (λ (f : ℕ → Bool). f d) e) x) y

-- What the call for a spare has left: the memory with another spare, and the hypervisor with fewer free frames.
pub record IsOffered {Pool Seat : Type 0} (W : World Pool Seat) (p : Pool) (h : Hv Pool Seat) (l : Live Pool Seat) (q : Pool) (g : Hv Pool Seat) (d : DomLocal Pool Seat) : Type 0 where
  pub hv : IsHv W q g
  pub stock : g.heap.stock ≡ record h.heap.stock { free = g.heap.stock.free }
  pub registry : g.registry ≡ h.registry
  pub shared : shared_in W q g ≡ shared_in W p h
  pub kept : IsKept W p l.local q d
  pub hand : d.hand ≡ l.local.hand
  pub seat : Stays W q h.heap.seat g.heap.seat
  pub others : Spares W (both_names (W.names h.heap.seat) (W.names l.local.seat)) p q
  pub shares : W.shares q ≡ W.shares p

module _ {Pool Seat : Type 0} (W : World Pool Seat) (old : Machine Pool Seat) (st : State) (reached : IsReached old.script st) (stands : StandsFor W old st) (id : ℕ) (l : Live Pool Seat) (here : place_at id old.places.items ≡ Domain l) where
  abbrev pub part : Part
  part = part_at st id

  pub was : IsDomain W old id l (part_at st id)
  was = subst (λ (place : Place Pool Seat). IsPlace W old id place (part_at st)) here (stands.each id)

  pub within : id < 64
  within = (live_ids old.script st reached id was.live).1

  pub orderly : HasPlaces st
  orderly = reached.sound.orderly.places

  pub in_books : id < length st.books.list
  in_books = let n = orderly.books in let lt = within in omega arith

  -- a domain that isn't at the page steps of a clone has begun none
  pub none_begun : (stage : _) → l.guest.stage ≡ stage → stage ≢ guest.Forking → part.guest.begun ≡ []
  none_begun stage e far = by part.book.stage refl was.stage (live_orderly old.script st reached id was.live).forks where
    by : (at : Stage) → part.book.stage ≡ at → IsAtStage W old id l part at → ForksWell id st.machine.shared.tables.next part.guest.begun at → part.guest.begun ≡ []
    by book.Ready _ h f = f
    by book.Copying _ h f = f
    by (book.Forking left) _ h f = absurd (far (sym e ∙ h.0))

  -- the hypervisor's seat and the domain's have no name in common
  pub apart_heap : IsApart (W.names old.hv.heap.seat) (W.names l.local.seat)
  apart_heap d x y = no_name (W.names old.hv.heap.seat id) (ap (W.names old.hv.heap.seat) (sym same) ∙ x) (stands.names id within ∙ ap is_empty here) where
    same : d ≡ id
    same = eqb-true d id (sym (ap (λ (f : ℕ → Bool). f d) (was.stands.names ∙ ap only_name was.id_is)) ∙ y)

  module _ (new : Machine Pool Seat) (k : Live Pool Seat) (one : OneDomain W old new id l k) where
    -- the domain in the new machine, with this own half and book
    pub domain_now : (n : Own) (b : Book) → k.guest.dom ≡ l.guest.dom → k.local.id ≡ l.local.id → IsStanding W new.pool k.local → IsOwnHalf W new.pool k n → b.spare ≡ is_some k.local.own.spare → Exposes new.hv.heap.stock id k
        → IsAtStage W new id k (record part { own = n; book = b }) b.stage → IsDomain W new id k (record part { own = n; book = b })
    domain_now n b dom same standing own spare exposes stage = record {
      live = was.live;
      dom = dom ∙ was.dom;
      id_is = same ∙ was.id_is;
      stands = standing;
      own = own;
      spare = spare;
      exposes = exposes;
      aside = ap (λ (xs : List (List ℕ)). get_or xs id []) one.aside ∙ was.aside;
      stage = stage;
    }

    -- the stage is as before, where the memory is read as before
    pub stage_kept : IsKept W old.pool l.local new.pool k.local → k.guest ≡ l.guest → k.local.hand ≡ l.local.hand → part.guest.begun ≡ [] → (b : Book) (at : Stage) → IsAtStage W old id l part at → IsAtStage W new id k (record part { book = b }) at
    stage_kept kept same hand quiet b book.Ready h = (ap (λ (g : Guest). g.stage) same ∙ h.0, hand ∙ h.1)
    stage_kept kept same hand quiet b book.Copying h = (ap (λ (g : Guest). g.stage) same ∙ h.0, subst (λ s. IsLineInHand W new.pool k.local (command_of s part)) (sym one.script) (hand_kept W old.pool new.pool l k kept _ hand h.1))
    stage_kept kept same hand quiet b (book.Forking left) h = absurd (not_begun _ _ quiet h.2.begun)

    -- no colour changes, nor a row
    pub stood_quiet : (b : Book) → k.local.own.map.pages ≡ l.local.own.map.pages → b.colours ≡ part.book.colours → IsStood (rows_of new) (put_book id b st.books)
    stood_quiet b pages colours = (stands.colours.0, subst (λ rows. Stands stands.colours.0 rows (put_book id b st.books)) (sym (one_rows_same W old new id l k one st stands pages)) (stands_quiet stands.colours.0 (rows_of old) st.books id b stands.colours.1 in_books colours))

    pub stood_line : (o : Own) (spends : Spends) (answer : Reply) → k.local.own.map.pages ≡ l.local.own.map.pages → CopiesNothing spends → answer ≢ reply.Ended → IsStood (rows_of new) (books_after id o spends answer st.books)
    stood_line o spends answer pages none n = (stands.colours.0, subst (λ rows. Stands stands.colours.0 rows (books_after id o spends answer st.books)) (sym (one_rows_same W old new id l k one st stands pages)) (stands_line stands.colours.0 (rows_of old) st.books id o spends answer stands.colours.1 in_books none n))

    -- nothing but the book changes
    pub stands_quietly : IsKept W old.pool l.local new.pool k.local → k.guest ≡ l.guest → k.local.hand ≡ l.local.hand → part.guest.begun ≡ [] → shared_in W new.pool new.hv ≡ shared_in W old.pool old.hv → (b : Book) → b.spare ≡ is_some k.local.own.spare → b.colours ≡ part.book.colours
        → IsAtStage W new id k (record part { book = b }) b.stage → StandsFor W new (record st { books = put_book id b st.books })
    stands_quietly kept same hand quiet shared b spare colours stage =
        let turns = book_turns st id orderly within b st.books.fresh in
        stands_one W old new id l k one st stands (record st { books = put_book id b st.books }) quiet turns.others (stands.shared ∙ sym shared)
        (subst (IsDomain W new id k) (sym turns.here) (domain_now part.own b (ap (λ (g : Guest). g.dom) same) kept.id kept.stands
        (half_kept W old.pool new.pool l k kept part.own part.own refl refl refl refl (was.own.line ∙ ap (λ (g : Guest). g.line) (sym same)) (was.own.came ∙ ap (λ (g : Guest). g.came) (sym same)) (was.own.refused ∙ ap (λ (g : Guest). g.failed) (sym same)) was.own)
        spare (exposes_kept old.hv.heap.stock new.hv.heap.stock id l k (ap (λ xs. get_or xs id []) one.exposed) (ap (λ m. m.pages) kept.map) was.exposes) stage))
        (stood_quiet b (ap (λ m. m.pages) kept.map) colours)

    -- a line that its domain does by itself, and that leaves each page where it lies
    pub stands_line_alone : k.guest.dom ≡ l.guest.dom → k.local.id ≡ l.local.id → IsStanding W new.pool k.local → k.local.own.map.pages ≡ l.local.own.map.pages → k.guest.stage ≡ guest.Ready → k.local.hand ≡ None → part.guest.begun ≡ [] → shared_in W new.pool new.hv ≡ shared_in W old.pool old.hv
        → (n : Own) (spends : Spends) (r : Reply) → IsOwnHalf W new.pool k n → (book_after part.own r (book_spent spends st.books.fresh part.book)).spare ≡ is_some k.local.own.spare → (book_after part.own r (book_spent spends st.books.fresh part.book)).stage ≡ book.Ready → CopiesNothing spends → r ≢ reply.Ended
        → StandsFor W new (record { machine = put_own id n st.machine; books = books_after id part.own spends r st.books })
    stands_line_alone dom same standing map stage hand quiet shared n spends r own spare at none more =
        let b = book_after part.own r (book_spent spends st.books.fresh part.book) in
        let st' : State = record { machine = put_own id n st.machine; books = books_after id part.own spends r st.books } in
        let turns = put_turns st id orderly within n b (fresh_spent spends st.books.fresh) in
        stands_one W old new id l k one st stands st' quiet turns.others (stands.shared ∙ sym shared)
        (subst (IsDomain W new id k) (sym turns.here) (domain_now n b dom same standing own spare (exposes_kept old.hv.heap.stock new.hv.heap.stock id l k (ap (λ xs. get_or xs id []) one.exposed) map was.exposes)
        (subst (λ v. IsAtStage W new id k (record part { own = n; book = b }) v) (sym at) (stage, hand))))
        (stood_line part.own spends r map none more)
