-- A line that its domain does by itself, by its command.
use Rattle.std.proofs.Common.{◌≡◌, ◌≢◌, ℕ, ◌/◌, ◌^◌, ◌<◌, Bool, true, false, cond, List, [], set, IsSome, Some, None, refl, sym, ap, subst, ◌∙◌}
use Rattle.std.specs.Prelude.{is_some, nat_lt, ◌&&◌, slice_index_or}
use Rattle.std.specs.declared.option.Option.{Option}
use Rattle.std.specs.FinMap as fm
use Rattle.std.proofs.lemmas.Bool.{ltb-true, ltb-false}
use Rattle.neph_base.specs.declared.command.Command.{Command}
use Rattle.neph_base.specs.declared.command.Command.TheVariants as command
use Rattle.neph_base.specs.declared.command.Mode.{Mode}
use Rattle.neph_base.specs.declared.command.Mode.TheVariants.{Ro, Rw}
use Rattle.neph_base.specs.declared.reply.Actor.TheVariants as actor
use Rattle.neph_base.specs.declared.reply.Entry.TheVariants as entry
use Rattle.neph_base.specs.declared.reply.Reply.{Reply}
use Rattle.neph_base.specs.declared.reply.Reply.TheVariants as reply
use Rattle.neph_base.specs.declared.sizes.TheConstants.{PAGE_BYTES}
use Rattle.neph_model.specs.declared.own.Own.{Own}
use Rattle.neph_model.specs.declared.memory.Mapping.{Mapping}
use Rattle.neph_model.specs.declared.book.Book.{Book}
use Rattle.neph_model.specs.declared.book.Stage.TheVariants as book
use Rattle.neph_model.specs.declared.book.Move.TheVariants.{Copies, Does}
use Rattle.neph_model.specs.declared.book.Spends.TheVariants.{Nothing}
use Rattle.neph_model.specs.declared.told.Told.TheVariants.{Enough}
use Rattle.neph_model.specs.Machine.{program_of}
use Rattle.neph_model.specs.Own.{page_of, mapping_at, local_step}
use Rattle.neph_model.specs.Books.{Books, State, is_shared, book_spent}
use Rattle.neph_model.specs.Turns.{page_to_copy, book_after, turn}
use Rattle.neph_runs.specs.Orderly.{Seat as Part, seat as part_at}
use Rattle.neph_runs.proofs.Lines.{GoesOn, out_by, locks, goes_on}
use Rattle.neph_pool.specs.declared.entry.Entry.{Entry}
use Rattle.neph_pool.specs.World.{World, Moves}
use Rattle.neph_gmap.specs.declared.page.Page.{Page}
use Rattle.neph_memory.specs.Pages.{frame_at}
use Rattle.neph_memory.specs.Memory.{bytes_for, is_marked}
use Rattle.neph_memory.specs.Domains.{IsStanding, domain_mapping}
use Rattle.neph_guest.specs.declared.live.Live.{Live}
use Rattle.neph_guest.specs.declared.row.LocalTurn.TheVariants as local
use Rattle.neph_guest.specs.Turns.{LookDone, HeldSpare, spare_after}
use Rattle.neph_machine.specs.declared.place.Place.TheVariants.{Domain}
use Rattle.neph_machine.specs.declared.machine.Machine.{Machine}
use Rattle.neph_machine.specs.declared.turn.Turn.TheVariants.{Noted as Entered}
use Rattle.neph_machine.specs.Places.{place_at}
use Rattle.neph_machine.specs.Stages.{IsReadyAt}
use Rattle.neph_machine.specs.Surveyed.{IsSurveyed}
use Rattle.neph_machine.specs.StandsFor.{command_of, StandsFor}
use Rattle.neph_machine.specs.Turned.{Took}
use Rattle.neph_machine.proofs.Reached.{IsReached}
use Rattle.neph_lines.proofs.Sparing.{was}
use Rattle.neph_lines.proofs.Alone.{at_some}
use Rattle.neph_lines.proofs.InHand.{some_of, done_is, shared_false}
use Rattle.neph_lines.proofs.CopyTurns.{alone_before}
use Rattle.neph_lines.proofs.ReadyLines.{Tried, at_line, its, quiet, no_hand, took_line}
use Rattle.neph_lines.proofs.Mapping.{IsSpent, nothing_spent, map_spent}

-- the book of a domain that goes on is ready for the next line
pub goes_book : (o : Own) (r : Reply) (b : Book) → GoesOn r → book_after o r b ≡ record b { stage = book.Ready }
goes_book o reply.Ended b h = absurd h
goes_book o (reply.Begun child) b h = absurd h
goes_book o _ b h = refl

pub goes_more : (r : Reply) → GoesOn r → r ≢ reply.Ended
goes_more r on e = subst GoesOn e on

unshared : (x y : Bool) (pfn : ℕ) → (x ≡ true → y ≡ false) → cond (x && y) (Some pfn) None ≡ None
unshared false y pfn h = refl
unshared true y pfn h = ap (λ (v : Bool). cond v (Some pfn) None) (h refl)

not_copied_to : (bs : Books) (o : Own) (b : Book) (pfn : ℕ) (m : Mode) → (m ≡ Rw → is_some (page_of o pfn) ≡ true → is_shared (slice_index_or b.colours pfn 0) bs ≡ false) → page_to_copy bs o b (Some (record { pfn = pfn; mode = m })) ≡ None
not_copied_to bs o b pfn Ro h = refl
not_copied_to bs o b pfn Rw h = unshared (is_some (page_of o pfn)) (is_shared (slice_index_or b.colours pfn 0) bs) pfn (h refl)

-- no page has to be copied, where the page that is written is in no other domain
pub not_copied : (bs : Books) (o : Own) (b : Book) (to : Option Mapping) → ((pfn : ℕ) → to ≡ Some (record { pfn = pfn; mode = Rw }) → is_some (page_of o pfn) ≡ true → is_shared (slice_index_or b.colours pfn 0) bs ≡ false) → page_to_copy bs o b to ≡ None
not_copied bs o b None h = refl
not_copied bs o b (Some to) h = not_copied_to bs o b to.pfn to.mode (λ e some. h to.pfn (ap (λ (m : Mode). Some (record { pfn = to.pfn; mode = m })) e) some)

framed : (es : List (Option Entry)) (o : Option ℕ) → is_some (bytes_for es o) ≡ true → IsSome o
framed es None e = absurd (cc)
framed es (Some f) e = refl

module _ {Pool Seat : Type 0} (W : World Pool Seat) (old : Machine Pool Seat) (st : State) (reached : IsReached old.script st) (stands : StandsFor W old st) (id : ℕ) (l : Live Pool Seat) (here : place_at id old.places.items ≡ Domain l) where
  abbrev part : Part
  part = part_at st id

  -- a line that its domain does by itself is no end, and begins no clone
  pub local_goes : (c : Command) → c ≢ command.Exit → c ≢ command.Clone → (n : Own) (r : Reply) → local_step old.script (program_of part.life) part.own Enough c ≡ Some (n, r) → GoesOn r
  local_goes c far off n r step = subst (λ (d : Option (Own × Reply)). GoesOn (out_by st.machine id Enough (locks st.machine id Enough c) d).reply) step (goes_on st.machine id Enough old.script c far off)

  -- an address that maps to something lies in a virtual page that there is
  small : (v : ℕ) (to : Mapping) → fm.get part.own.vmap v ≡ Some to → v < 2 ^ 18
  small v to at = by (nat_lt v (2 ^ 18)) refl where
    by : (b : Bool) → nat_lt v (2 ^ 18) ≡ b → v < 2 ^ 18
    by true e = ltb-true v (2 ^ 18) e
    by false e = let is = was W old st reached stands id l here in let z = sym (is.own.own.memory.past v (ltb-false v (2 ^ 18) e)) ∙ at in absurd (cc)

  module _ (survey : IsSurveyed W) (calm : (part_at st id).guest.begun ≡ []) (new : Machine Pool Seat) (k : Live Pool Seat) (moves : Moves W old.pool l.local.seat new.pool k.local.seat) (standing : IsStanding W new.pool k.local) (pages : k.local.own.map.pages ≡ l.local.own.map.pages) where
    -- a write that was done found its page in no other domain
    wrote_alone : (addr : ℕ) (bytes : List ℕ) → command_of old.script (part_at st id) ≡ command.W addr bytes → (n : Own) (r : Reply) → local_step old.script (program_of part.life) part.own Enough (command.W addr bytes) ≡ Some (n, r)
        → LookDone W old.pool l.local k.local.own (command.W addr bytes) (local.Did r) → (pfn : ℕ) → mapping_at part.own addr ≡ Some (record { pfn = pfn; mode = Rw }) → is_some (page_of part.own pfn) ≡ true
        → is_shared (slice_index_or part.book.colours pfn 0) st.books ≡ false
    wrote_alone addr bytes c_is n r step look pfn maps some =
        let is = was W old st reached stands id l here in
        let own : IsSome (frame_at l.local.own.map.pages pfn) = framed (W.entries old.pool l.local.seat) (frame_at l.local.own.map.pages pfn) (sym (ap is_some (is.own.own.memory.page pfn)) ∙ some) in
        let does = ap (local_step old.script (program_of part.life) part.own Enough) c_is ∙ step in
        let done = done_is W old st reached stands id l here addr pfn bytes maps own c_is n r does in
        let looked : LookDone W old.pool l.local k.local.own (command.W addr bytes) (local.Did reply.Done) = subst (λ (v : Reply). LookDone W old.pool l.local k.local.own (command.W addr bytes) (local.Did v)) (sym done) look in
        let met : domain_mapping W old.pool l.local (addr / PAGE_BYTES) ≡ Some (record { pfn = pfn; mode = Rw }) = sym (is.own.own.memory.mapping (addr / PAGE_BYTES) (small (addr / PAGE_BYTES) _ maps)) ∙ maps in
        let mark = at_some _ (λ (to : Mapping). is_marked k.local.own to.pfn ≡ true) _ met looked in
        let f = some_of (frame_at l.local.own.map.pages pfn) own in
        let now : frame_at k.local.own.map.pages pfn ≡ Some f.0 = ap (λ (ps : List Page). frame_at ps pfn) pages ∙ f.1 in
        let sole = (standing.memory.made.sole pfn f.0 now).0 mark in
        let one = alone_before W old st reached stands id l here survey new.pool k.local.seat moves pfn f.0 f.1 sole in
        shared_false W old st reached stands id l here addr pfn bytes maps own c_is survey calm one

    -- what becomes of its spare
    did_spent : (c : Command) → command_of old.script (part_at st id) ≡ c → (n : Own) (r : Reply) → local_step old.script (program_of part.life) part.own Enough c ≡ Some (n, r)
        → LookDone W old.pool l.local k.local.own c (local.Did r) → k.local.own.spare ≡ spare_after W old.pool l.local c (local.Did r) → HeldSpare W old.pool l.local c (local.Did r)
        → IsSpent W old st reached stands id l here k.local.own.spare c
    did_spent (command.W addr bytes) c_is n r step look after held =
        nothing_spent W old st reached stands id l here k.local.own.spare (command.W addr bytes) (ap (λ (o : Option ℕ). cond (is_some o) Copies (Does Enough Nothing)) (not_copied st.books part.own part.book (mapping_at part.own addr) (wrote_alone addr bytes c_is n r step look))) after
    did_spent (command.R addr len) c_is n r step look after held = nothing_spent W old st reached stands id l here k.local.own.spare (command.R addr len) refl after
    did_spent (command.Map vpn pfn mode) c_is n r step look after held = map_spent W old st reached stands id l here vpn pfn mode n r k.local.own.spare step after held
    did_spent (command.Unmap vpn) c_is n r step look after held = nothing_spent W old st reached stands id l here k.local.own.spare (command.Unmap vpn) refl after
    did_spent (command.Jump label) c_is n r step look after held = nothing_spent W old st reached stands id l here k.local.own.spare (command.Jump label) refl after
    did_spent (command.JChild label) c_is n r step look after held = nothing_spent W old st reached stands id l here k.local.own.spare (command.JChild label) refl after
    did_spent (command.JFail label) c_is n r step look after held = nothing_spent W old st reached stands id l here k.local.own.spare (command.JFail label) refl after
    did_spent command.Exit c_is n r step look after held = absurd (cc)
    did_spent command.Free c_is n r step look after held = absurd (cc)
    did_spent command.Clone c_is n r step look after held = absurd (cc)
    did_spent (command.Ungrant ref) c_is n r step look after held = absurd (cc)
    did_spent (command.Gmap granter ref) c_is n r step look after held = absurd (cc)
    did_spent (command.Gunmap h) c_is n r step look after held = absurd (cc)
    did_spent (command.Hr h at len) c_is n r step look after held = absurd (cc)
    did_spent (command.Hw h at bytes) c_is n r step look after held = absurd (cc)

  module _ (c : Command) (ready : IsReadyAt old id c) (survey : IsSurveyed W) (new : Machine Pool Seat) (script : new.script ≡ old.script) (hv : new.hv ≡ old.hv) (k : Live Pool Seat) (spots : new.places.items ≡ set old.places.items id (Domain k))
      (moves : Moves W old.pool l.local.seat new.pool k.local.seat) (dom : k.guest.dom ≡ l.guest.dom) (same : k.local.id ≡ l.local.id) (standing : IsStanding W new.pool k.local) where
    -- the turn of a domain that did its line by itself
    pub took_did : c ≢ command.Exit → c ≢ command.Clone → (r : Reply) → W.shares new.pool ≡ W.shares old.pool → k.local.own.map.pages ≡ l.local.own.map.pages → Tried W old.pool l new.pool k part.own c (local_step old.script (program_of part.life) part.own Enough c) (local.Did r)
        → Took W old new (turn old.script st (actor.Dom id)) (Entered (record { entry = entry.Line id l.guest.line; reply = r }))
    took_did far off r shares pages tried =
        let n = tried.turn.0 in
        let step = tried.turn.1 in
        let on = local_goes c far off n r step in
        let spent = did_spent survey (quiet W old st reached stands id l here c ready) new k moves standing pages c (its W old st reached stands id l here c ready) n r step tried.look tried.spare tried.held in
        let b = goes_book part.own r (book_spent spent.0 st.books.fresh part.book) on in
        took_line W old st reached stands id l here c ready new script hv k spots moves dom same standing shares spent.0 spent.1 spent.2 pages (tried.stage ∙ at_line W old st reached stands id l here c ready) (tried.hand ∙ no_hand W old st reached stands id l here c ready) n r tried.turn.2 step
        (ap (λ (v : Book). v.spare) b ∙ spent.3) (ap (λ (v : Book). v.stage) b) (goes_more r on)
