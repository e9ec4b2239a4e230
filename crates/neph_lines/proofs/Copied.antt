-- A write in hand is done, or waits.
use Rattle.std.proofs.Common.{◌≡◌, ◌≢◌, ◌⊎◌, inl, inr, ℕ, ◌+◌, ◌<◌, Bool, false, List, [], ◌∷◌, length, map, set, get_or, IsSome, Some, None, refl, sym, ap, subst, ◌∙◌, arith}
use Rattle.std.specs.Prelude.{is_some, not}
use Rattle.std.specs.declared.option.Option.{Option}
use Rattle.std.proofs.lemmas.List.{length-set, length-map, get_or-set_same, get_or-set_other, ext_get_or}
use Rattle.neph_base.specs.declared.reply.Entry.TheVariants as entry
use Rattle.neph_base.specs.declared.reply.Reply.TheVariants as reply
use Rattle.neph_model.specs.declared.own.Own.{Own}
use Rattle.neph_model.specs.declared.book.Book.{Book}
use Rattle.neph_model.specs.declared.book.Stage.TheVariants as book
use Rattle.neph_model.specs.declared.book.Spends.TheVariants.{Nothing, Copy}
use Rattle.neph_model.specs.declared.told.Told.TheVariants.{Enough}
use Rattle.neph_model.specs.Machine.{put_own, program_of}
use Rattle.neph_model.specs.Own.{local_step}
use Rattle.neph_model.specs.Books.{State}
use Rattle.neph_model.specs.Turns.{line_turn, books_after}
use Rattle.neph_runs.specs.Orderly.{Seat as Part, seat as part_at}
use Rattle.neph_pool.specs.declared.entry.Entry.{Entry}
use Rattle.neph_pool.specs.Names.{IsApart, only_name}
use Rattle.neph_pool.specs.World.{World, Spares, Moves}
use Rattle.neph_pool.proofs.Rows.{same_or_not}
use Rattle.neph_gmap.specs.declared.page.Page.{Page}
use Rattle.neph_memory.specs.declared.dom_local.DomLocal.{DomLocal}
use Rattle.neph_memory.specs.Pages.{frame_of, frame_at}
use Rattle.neph_memory.specs.Domains.{IsStanding, IsUnchanged, MakesAlone}
use Rattle.neph_memory.proofs.Places.{frame_small}
use Rattle.neph_memory.proofs.Standing.{moved_page, moved_shown}
use Rattle.neph_ptab.specs.Tables.{leaf_at}
use Rattle.neph_local.proofs.Stepping.{spares_left}
use Rattle.neph_guest.specs.declared.live.Live.{Live}
use Rattle.neph_guest.specs.declared.live.Guest.{Guest}
use Rattle.neph_guest.specs.declared.live.Stage.TheVariants as guest
use Rattle.neph_guest.specs.OwnHalf.{IsOwnHalf}
use Rattle.neph_rows.specs.Records.{shared_of}
use Rattle.neph_heap.specs.Lists.{Lists, exposed_of, frame_in}
use Rattle.neph_heap.specs.Heap.{IsHeap, own_frames}
use Rattle.neph_heap.specs.Holds.{Has}
use Rattle.neph_heap.specs.Pages.{pages_in}
use Rattle.neph_hv.specs.Hv.{shared_in}
use Rattle.neph_accounts.specs.Heaps.{row_frames}
use Rattle.neph_accounts.specs.Colours.{IsStood, RowPut}
use Rattle.neph_accounts.proofs.Recolouring.{with_colour}
use Rattle.neph_accounts.proofs.Turns.{stands_copy}
use Rattle.neph_machine.specs.declared.place.Place.TheVariants.{Empty, Domain}
use Rattle.neph_machine.specs.declared.machine.Machine.{Machine}
use Rattle.neph_machine.specs.declared.turn.Turn.TheVariants.{Noted as Entered}
use Rattle.neph_machine.specs.Places.{place_at}
use Rattle.neph_machine.specs.Rows.{frames_in, away_in, row_of, rows_of}
use Rattle.neph_machine.specs.Surveyed.{IsSurveyed}
use Rattle.neph_machine.specs.StandsFor.{Exposes, command_of, IsDomain, StandsFor}
use Rattle.neph_machine.specs.Turned.{Took}
use Rattle.neph_machine.proofs.Reached.{IsReached, live_orderly}
use Rattle.neph_machine.proofs.Listed.{frame_is}
use Rattle.neph_machine.proofs.FrameLaws.{own_unpaged}
use Rattle.neph_lines.proofs.LineTurns.{put_turns, did_alone}
use Rattle.neph_machine.proofs.OnePlace.{OneDomain, stands_one, one_row, row_is, row_same, one_rows_same}
use Rattle.neph_machine.proofs.Carrying.{exposes_kept}
use Rattle.neph_lines.proofs.Sparing.{IsKept, half_kept, was, within, orderly, in_books, apart_heap, domain_now, stage_kept, stands_line_alone}
use Rattle.neph_lines.proofs.NoFrame.{same_shares}
use Rattle.neph_lines.proofs.InHand.{row_set, some_of}

-- the hypervisor's seat beside a call on another
pub heap_spared : {Pool Seat : Type 0} (W : World Pool Seat) (ns : ℕ → Bool) (p q : Pool) (s : Seat) (l : Lists) (loose : List ℕ) → IsHeap W p s l loose → Spares W ns p q → IsApart ns (W.names s) → IsHeap W q s l loose
heap_spared W ns p q s l loose h k a = record {
  fits = k.fits s h.fits a;
  first = h.first;
  few = let e = k.frames in let le = h.few in omega arith;
  domains = h.domains;
  children = h.children;
  pages = h.pages;
  has = subst (λ (es : List (Option Entry)). Has es [] (own_frames l loose) l.free) (sym (k.entries s h.fits a)) h.has;
}

pub flip_apart : (ms ns : ℕ → Bool) → IsApart ms ns → IsApart ns ms
flip_apart ms ns a d x y = a d y x

-- a memory that is unchanged is read as before
pub kept_unchanged : {Pool Seat : Type 0} (W : World Pool Seat) (p : Pool) (d : DomLocal Pool Seat) (q : Pool) (e : DomLocal Pool Seat) → IsStanding W q e → IsUnchanged W p d q e → IsKept W p d q e
kept_unchanged W p d q e stands u = record {
  stands = stands;
  map = ap (λ o. o.map) u.own;
  pages = λ x. moved_page (W.entries p d.seat) (W.entries q e.seat) d.own e.own x u.entries u.own;
  mappings = λ v lt. moved_shown (W.entries p d.seat) (W.entries q e.seat) d.tables.root e.tables.root d.own e.own v u.entries u.root u.own;
  leaves = λ i lt. ap (λ (es : List (Option Entry)). leaf_at es e.tables.root i) u.entries ∙ ap (λ (r : ℕ). leaf_at (W.entries p d.seat) r i) u.root;
  id = u.id;
}

module _ {Pool Seat : Type 0} (W : World Pool Seat) (old : Machine Pool Seat) (st : State) (reached : IsReached old.script st) (stands : StandsFor W old st) (id : ℕ) (l : Live Pool Seat) (here : place_at id old.places.items ≡ Domain l) where
  abbrev part : Part
  part = part_at st id

  module _ (new : Machine Pool Seat) (script : new.script ≡ old.script) (hv : new.hv ≡ old.hv) (k : Live Pool Seat) (places : new.places.items ≡ set old.places.items id (Domain k)) (moves : Moves W old.pool l.local.seat new.pool k.local.seat) where
    abbrev heap_seat : Seat
    heap_seat = old.hv.heap.seat

    apart : IsApart (W.names l.local.seat) (W.names old.hv.heap.seat)
    apart = flip_apart (W.names old.hv.heap.seat) (W.names l.local.seat) (apart_heap W old st reached stands id l here)

    -- a turn of the domain alone
    pub moved_one : OneDomain W old new id l k
    moved_one =
        let is = was W old st reached stands id l here in record {
          within = within W old st reached stands id l here;
          here = here;
          places = places;
          script = script;
          exposed = ap (λ h. h.heap.stock.exposed) hv;
          aside = ap (λ h. h.heap.stock.aside) hv;
          names = ap (λ h. W.names h.heap.seat) hv;
          spares = spares_left W (only_name id) (W.names old.hv.heap.seat) old.pool new.pool (subst (λ (ns : ℕ → Bool). Spares W ns old.pool new.pool) (is.stands.names ∙ ap only_name is.id_is) moves.others);
          heap = subst (λ h. IsHeap W new.pool h.heap.seat h.heap.stock []) (sym hv) (heap_spared W (W.names l.local.seat) old.pool new.pool old.hv.heap.seat old.hv.heap.stock [] stands.heap moves.others apart);
        }

    pub moved_shared : shared_in W new.pool new.hv ≡ shared_in W old.pool old.hv
    moved_shared = ap (λ h. shared_in W new.pool h) hv ∙ ap (λ (es : List (Option Entry)). shared_of old.hv.registry (pages_in es old.hv.heap.stock.exposed)) (moves.others.entries old.hv.heap.seat stands.heap.fits apart)

    -- the memory is unchanged: the machine still stands for the state
    pub stands_still : IsStanding W new.pool k.local → IsUnchanged W old.pool l.local new.pool k.local → k.guest ≡ l.guest → part.guest.begun ≡ [] → StandsFor W new st
    stands_still standing u same quiet =
        let is = was W old st reached stands id l here in
        let kept = kept_unchanged W old.pool l.local new.pool k.local standing u in
        stands_one W old new id l k moved_one st stands st quiet (λ j far. refl) (stands.shared ∙ sym moved_shared)
        (domain_now W old st reached stands id l here new k moved_one part.own part.book (ap (λ (g : Guest). g.dom) same) u.id standing
        (half_kept W old.pool new.pool l k kept part.own part.own refl refl refl refl (is.own.line ∙ ap (λ (g : Guest). g.line) (sym same)) (is.own.came ∙ ap (λ (g : Guest). g.came) (sym same)) (is.own.refused ∙ ap (λ (g : Guest). g.failed) (sym same)) is.own)
        (is.spare ∙ ap (λ o. is_some o.spare) (sym u.own)) (exposes_kept old.hv.heap.stock new.hv.heap.stock id l k (ap (λ h. exposed_of id h.heap.stock) hv) (ap (λ m. m.pages) kept.map) is.exposes)
        (stage_kept W old st reached stands id l here new k moved_one kept same u.hand quiet part.book part.book.stage is.stage))
        (subst (λ rows. IsStood rows st.books) (sym (one_rows_same W old new id l k moved_one st stands (ap (λ o. o.map.pages) u.own))) stands.colours)

    -- the line is done in place
    pub took_alone : k.guest.dom ≡ l.guest.dom → k.local.id ≡ l.local.id → IsStanding W new.pool k.local → k.local.own.map ≡ l.local.own.map → k.local.own.spare ≡ l.local.own.spare → k.guest.stage ≡ guest.Ready → k.local.hand ≡ None → part.guest.begun ≡ [] → W.shares new.pool ≡ W.shares old.pool
        → (n : Own) → IsOwnHalf W new.pool k n → local_step old.script (program_of part.life) part.own Enough (command_of old.script part) ≡ Some (n, reply.Done)
        → Took W old new (line_turn old.script st id Enough Nothing) (Entered (record { entry = entry.Line id l.guest.line; reply = reply.Done }))
    took_alone dom same standing map spare stage hand quiet shares n own step =
        let is = was W old st reached stands id l here in
        subst (λ t. Took W old new t (Entered (record { entry = entry.Line id l.guest.line; reply = reply.Done }))) (sym (did_alone old.script st id Enough Nothing n reply.Done step)) (record {
          stands = stands_line_alone W old st reached stands id l here new k moved_one dom same standing (ap (λ m. m.pages) map) stage hand quiet moved_shared n Nothing reply.Done own (is.spare ∙ ap is_some (sym spare)) refl tt (λ e. cc);
          script = script;
          moved = refl;
          entry = ap (λ (v : ℕ). record { entry = entry.Line id v; reply = reply.Done } ∷ []) (sym is.own.line);
          shares = same_shares (W.shares old.pool) (W.shares new.pool) shares;
        })

    -- the page has moved into the spare
    module _ (pfn f : ℕ) (alone : MakesAlone l.local k.local pfn) (own : IsSome (frame_at l.local.own.map.pages pfn)) (spare_is : l.local.own.spare ≡ Some f) (page : frame_at k.local.own.map.pages pfn ≡ Some f) where
      small : pfn < length l.local.own.map.pages
      small = let g = some_of (frame_at l.local.own.map.pages pfn) own in frame_small l.local.own.map.pages pfn g.0 g.1

      frames_set : frames_in k.local.own.map.pages ≡ set (frames_in l.local.own.map.pages) pfn (Some f)
      frames_set = ext_get_or None (frames_in k.local.own.map.pages) (set (frames_in l.local.own.map.pages) pfn (Some f)) (length-map k.local.own.map.pages _ ∙ alone.count ∙ sym (length-map l.local.own.map.pages _) ∙ sym (length-set (frames_in l.local.own.map.pages) pfn (Some f))) (λ j lt. sym (frame_is k.local.own.map.pages j) ∙ by j (same_or_not j pfn)) where
        by : (j : ℕ) → (j ≡ pfn) ⊎ (j ≢ pfn) → frame_at k.local.own.map.pages j ≡ get_or (set (frames_in l.local.own.map.pages) pfn (Some f)) j None
        by j (inl e) = ap (frame_at k.local.own.map.pages) e ∙ page ∙ sym (get_or-set_same (frames_in l.local.own.map.pages) pfn (Some f) None (let n = length-map l.local.own.map.pages (λ (p : Page). frame_of (Some p)) in let lt = small in omega arith)) ∙ ap (λ (i : ℕ). get_or (set (frames_in l.local.own.map.pages) pfn (Some f)) i None) (sym e)
        by j (inr far) = alone.others j far ∙ frame_is l.local.own.map.pages j ∙ sym (get_or-set_other (frames_in l.local.own.map.pages) pfn j (Some f) None far)

      row_moved : row_of new.hv.heap.stock id (place_at id new.places.items) ≡ set (get_or (rows_of old) id []) pfn f
      row_moved =
          row_same old.hv.heap.stock new.hv.heap.stock id (place_at id new.places.items) (ap (λ h. exposed_of id h.heap.stock) hv)
          ∙ ap (row_of old.hv.heap.stock id) (ap (place_at id) places ∙ get_or-set_same old.places.items id (Domain k) Empty (let n = stands.places in let lt = within W old st reached stands id l here in omega arith))
          ∙ ap (λ xs. row_frames xs (away_in old.hv.heap.stock id) 0) frames_set
          ∙ row_set (frames_in l.local.own.map.pages) pfn f (away_in old.hv.heap.stock id) 0
          ∙ ap (λ row. set row pfn f) (sym (row_is old id (within W old st reached stands id l here) ∙ ap (row_of old.hv.heap.stock id) here))

      put : RowPut id (set (get_or (rows_of old) id []) pfn f) (rows_of old) (rows_of new)
      put = subst (λ row. RowPut id row (rows_of old) (rows_of new)) row_moved (one_row W old new id l k moved_one st stands)

      -- its colour is new, as its frame is
      stood_copied : IsSurveyed W → IsStood (rows_of new) (books_after id part.own (Copy pfn) reply.Done st.books)
      stood_copied survey = (
        with_colour st.books.fresh f stands.colours.0,
        stands_copy stands.colours.0 (rows_of old) (rows_of new) st.books id pfn f part.own reply.Done stands.colours.1 (in_books W old st reached stands id l here) (λ e. cc) fit put
            (own_unpaged W old st survey reached stands id l (within W old st reached stands id l here) here f (inr spare_is)),
      ) where
        fit : pfn < length part.book.colours
        fit = let is = was W old st reached stands id l here in let o = live_orderly old.script st reached id is.live in let a = o.colours in let b = is.own.own.memory.count in let lt = small in omega arith

      exposes_moved : Exposes new.hv.heap.stock id k
      exposes_moved = let is = was W old st reached stands id l here in record {
        split = λ j lt. e j ∙ is.exposes.split j (let n = alone.count in omega (arith, n, lt)) ∙ ap not (sym (local j (same_or_not j pfn)));
        within = λ j there. let lt = is.exposes.within j (sym (e j) ∙ there) in let n = alone.count in omega (arith, n, lt);
      } where
        e : (j : ℕ) → is_some (frame_in j (exposed_of id new.hv.heap.stock)) ≡ is_some (frame_in j (exposed_of id old.hv.heap.stock))
        e j = ap (λ h. is_some (frame_in j (exposed_of id h.heap.stock))) hv

        local : (j : ℕ) → (j ≡ pfn) ⊎ (j ≢ pfn) → is_some (frame_at k.local.own.map.pages j) ≡ is_some (frame_at l.local.own.map.pages j)
        local j (inl s) = let g = some_of (frame_at l.local.own.map.pages pfn) own in ap (λ (i : ℕ). is_some (frame_at k.local.own.map.pages i)) s ∙ ap is_some page ∙ sym (ap (λ (i : ℕ). is_some (frame_at l.local.own.map.pages i)) s ∙ ap is_some g.1)
        local j (inr far) = ap is_some (alone.others j far)

      pub took_copy : IsSurveyed W → k.guest.dom ≡ l.guest.dom → k.local.id ≡ l.local.id → IsStanding W new.pool k.local → k.local.own.spare ≡ None → k.guest.stage ≡ guest.Ready → k.local.hand ≡ None → part.guest.begun ≡ [] → W.shares new.pool ≡ W.shares old.pool
          → (n : Own) → IsOwnHalf W new.pool k n → local_step old.script (program_of part.life) part.own Enough (command_of old.script part) ≡ Some (n, reply.Done)
          → Took W old new (line_turn old.script st id Enough (Copy pfn)) (Entered (record { entry = entry.Line id l.guest.line; reply = reply.Done }))
      took_copy survey dom same standing bare stage hand quiet shares n half step =
          let is = was W old st reached stands id l here in
          let b : Book = record { stage = book.Ready; spare = false; colours = set part.book.colours pfn st.books.fresh } in
          let st' : State = record { machine = put_own id n st.machine; books = books_after id part.own (Copy pfn) reply.Done st.books } in
          let turns = put_turns st id (orderly W old st reached stands id l here) (within W old st reached stands id l here) n b (st.books.fresh + 1) in
          subst (λ t. Took W old new t (Entered (record { entry = entry.Line id l.guest.line; reply = reply.Done }))) (sym (did_alone old.script st id Enough (Copy pfn) n reply.Done step)) (record {
            stands = stands_one W old new id l k moved_one st stands st' quiet turns.others (stands.shared ∙ sym moved_shared)
                (subst (IsDomain W new id k) (sym turns.here) (domain_now W old st reached stands id l here new k moved_one n b dom same standing half (ap is_some (sym bare)) exposes_moved (stage, hand)))
                (stood_copied survey);
            script = script;
            moved = refl;
            entry = ap (λ (v : ℕ). record { entry = entry.Line id v; reply = reply.Done } ∷ []) (sym is.own.line);
            shares = same_shares (W.shares old.pool) (W.shares new.pool) shares;
          })
