-- The turn of a domain to which a page comes home.
use Rattle.std.proofs.Common.{◌≡◌, ◌≢◌, ◌⊎◌, inl, inr, ℕ, zero, suc, ◌+◌, ◌<◌, Bool, true, false, cond, List, [], ◌∷◌, length, map, get_or, set, Option, Some, None, refl, sym, ap, subst, ◌∙◌, arith, eq-eqb}
use Rattle.std.specs.Prelude.{is_some, not, ◌==◌, unwrap_or}
use Rattle.std.specs.Cmp.{unsigned_tied}
use Rattle.std.specs.Ordering.{nat_cmp, eq_by_cmp}
use Rattle.std.proofs.lemmas.Bool.{ne_eqb}
use Rattle.std.proofs.lemmas.List.{length-set, get_or-set_same, get_or-set_other, map-set, get_or-map, set-set, set-get_or, ext_get_or}
use Rattle.neph_base.specs.declared.command.Command.{Command}
use Rattle.neph_base.specs.declared.command.Command.TheVariants as command
use Rattle.neph_base.specs.declared.reply.Entry.TheVariants as entry
use Rattle.neph_base.specs.declared.reply.Reply.{Reply}
use Rattle.neph_model.specs.declared.own.Own.{Own}
use Rattle.neph_model.specs.declared.book.Book.{Book}
use Rattle.neph_model.specs.declared.book.Stage.{Stage}
use Rattle.neph_model.specs.declared.book.Stage.TheVariants as book
use Rattle.neph_model.specs.declared.book.Spends.TheVariants.{Nothing}
use Rattle.neph_model.specs.declared.told.Told.TheVariants.{Enough}
use Rattle.neph_model.specs.Machine.{Shared, no_own, program_of}
use Rattle.neph_model.specs.Lent.{PageBack, lent, nothing_lent, own_behind}
use Rattle.neph_model.specs.Own.{local_step}
use Rattle.neph_model.specs.Step.{Outcome, shared_line, step}
use Rattle.neph_model.specs.Books.{State}
use Rattle.neph_model.specs.Turns.{noting, book_after, books_after, line_turn}
use Rattle.neph_runs.specs.Orderly.{Seat as Part, seat as part_at}
use Rattle.neph_runs.proofs.Lines.{GoesOn, Goes, goes_on, line_kind}
use Rattle.neph_runs.proofs.Seats.{goes_turns}
use Rattle.neph_pool.specs.Names.{only_name, both_names}
use Rattle.neph_pool.specs.World.{World}
use Rattle.neph_pool.proofs.Rows.{same_or_not}
use Rattle.neph_gmap.specs.declared.page.Page.{Page}
use Rattle.neph_gmap.specs.declared.page.Page.TheVariants.{Local}
use Rattle.neph_memory.specs.declared.dom_local.DomLocal.{DomLocal}
use Rattle.neph_memory.specs.Domains.{IsStanding}
use Rattle.neph_memory.specs.Pages.{frame_at, frame_of}
use Rattle.neph_memory.proofs.Places.{frame_set, frame_else}
use Rattle.neph_guest.specs.declared.live.Live.{Live}
use Rattle.neph_guest.specs.OwnHalf.{IsOwnHalf}
use Rattle.neph_guest.specs.Turns.{stage_behind}
use Rattle.neph_heap.specs.declared.exposed_frame.ExposedFrame.{ExposedFrame}
use Rattle.neph_heap.specs.Lists.{Lists, exposed_of, aside_of, frame_in, pages_but}
use Rattle.neph_heap.proofs.Listing.{but_frame}
use Rattle.neph_hv.specs.Hv.{IsCall, shared_in}
use Rattle.neph_hv.specs.Grants.{Regains}
use Rattle.neph_accounts.specs.Colours.{Stands, IsStood}
use Rattle.neph_accounts.specs.Heaps.{row_frames}
use Rattle.neph_accounts.proofs.Sides.{row_out}
use Rattle.neph_accounts.proofs.Turns.{stands_line}
use Rattle.neph_machine.specs.declared.place.Place.TheVariants.{Domain}
use Rattle.neph_machine.specs.declared.machine.Machine.{Machine}
use Rattle.neph_machine.specs.declared.turn.Turn.TheVariants.{Noted as Entered}
use Rattle.neph_machine.specs.Places.{place_at, is_empty}
use Rattle.neph_machine.specs.Rows.{frames_in, row_of, rows_of}
use Rattle.neph_machine.specs.Stages.{IsReadyAt}
use Rattle.neph_machine.specs.StandsFor.{Exposes, command_of, IsAtStage, IsDomain, StandsFor}
use Rattle.neph_machine.specs.Turned.{Took}
use Rattle.neph_machine.proofs.Reached.{IsReached}
use Rattle.neph_machine.proofs.OnePlace.{OneMoved, stands_moved, moved_row, moved_here, row_is, rows_long}
use Rattle.neph_lines.proofs.Called.{called_step, goes_line, stays_ready}
use Rattle.neph_lines.proofs.Sparing.{spares_swap, was, within, orderly, in_books}
use Rattle.neph_lines.proofs.NoFrame.{same_shares}
use Rattle.neph_lines.proofs.ReadyLines.{at_line, its, quiet, no_hand}
use Rattle.neph_lines.proofs.Doing.{goes_book, goes_more}

-- the frame of each page but one stays when that one is taken off the list
but_here : (p : ℕ) (xs : List ExposedFrame) → frame_in p (pages_but p xs) ≡ None
but_here p xs = but_frame p p xs ∙ ap (λ b. cond b None (frame_in p xs)) (unsigned_tied p p ∙ eq-eqb p p refl)

but_else : (p q : ℕ) (xs : List ExposedFrame) → q ≢ p → frame_in q (pages_but p xs) ≡ frame_in q xs
but_else p q xs n = but_frame p q xs ∙ ap (λ b. cond b None (frame_in q xs)) (unsigned_tied q p ∙ ne_eqb q p n)

-- a list with a page in its place, and without it
set_back : (xs : List (Option ℕ)) (pfn f : ℕ) → get_or xs pfn None ≡ None → set (set xs pfn (Some f)) pfn None ≡ xs
set_back xs pfn f none = set-set xs pfn (Some f) None ∙ ap (set xs pfn) (sym none) ∙ set-get_or xs pfn None

-- the frame of a page, as the list of frames has it
frame_listed : (pages : List Page) (pfn : ℕ) → get_or (frames_in pages) pfn None ≡ frame_at pages pfn
unfolding frame_at
frame_listed [] pfn = refl
frame_listed (x ∷ xs) zero = refl
frame_listed (x ∷ xs) (suc pfn) = frame_listed xs pfn

module _ {Pool Seat : Type 0} (W : World Pool Seat) (old : Machine Pool Seat) (st : State) (reached : IsReached old.script st) (stands : StandsFor W old st) (id : ℕ) (l : Live Pool Seat) (here : place_at id old.places.items ≡ Domain l) (r : ℕ) (ready : IsReadyAt old id (command.Ungrant r)) (new : Machine Pool Seat) (script : new.script ≡ old.script)
    (d : DomLocal Pool Seat) (standing : IsStanding W new.pool d) (call : IsCall W old.pool old.hv new.pool new.hv (W.names l.local.seat)) (pfn : ℕ) (g : Regains W old.pool old.hv l.local new.pool new.hv d pfn) (k : Live Pool Seat) (spots : new.places.items ≡ set old.places.items id (Domain k)) (memory : k.local ≡ d) where
  abbrev part : Part
  part = part_at st id

  abbrev is : IsDomain W old id l part
  is = was W old st reached stands id l here

  abbrev listed : List ExposedFrame
  listed = exposed_of id old.hv.heap.stock

  small : id < 64
  small = within W old st reached stands id l here

  exposed_else : (j : ℕ) → j ≢ id → exposed_of j new.hv.heap.stock ≡ exposed_of j old.hv.heap.stock
  exposed_else j far = ap (exposed_of j) g.stock ∙ get_or-set_other old.hv.heap.stock.exposed l.local.id j (pages_but pfn (exposed_of l.local.id old.hv.heap.stock)) [] (λ e. far (e ∙ is.id_is))

  exposed_here : exposed_of id new.hv.heap.stock ≡ pages_but pfn listed
  exposed_here =
      let long = stands.heap.domains in
      ap (exposed_of id) g.stock ∙ ap (λ (i : ℕ). get_or (set old.hv.heap.stock.exposed i (pages_but pfn (exposed_of i old.hv.heap.stock))) id []) is.id_is
      ∙ get_or-set_same old.hv.heap.stock.exposed id (pages_but pfn listed) [] (omega (arith, long, small))

  aside_is : (j : ℕ) → aside_of j new.hv.heap.stock ≡ aside_of j old.hv.heap.stock
  aside_is j = ap (aside_of j) g.stock

  -- the page's frame, as it was listed
  frame_was : frame_in pfn listed ≡ Some g.frame
  frame_was = ap (λ (i : ℕ). frame_in pfn (exposed_of i old.hv.heap.stock)) (sym is.id_is) ∙ g.was

  pages_are : k.local.own.map.pages ≡ set l.local.own.map.pages pfn (Local g.frame)
  pages_are = ap (λ (v : DomLocal Pool Seat). v.own.map.pages) memory ∙ ap (λ m. m.pages) g.page.map

  frame_here : frame_at k.local.own.map.pages pfn ≡ Some g.frame
  frame_here = ap (λ (ps : List Page). frame_at ps pfn) pages_are ∙ frame_set l.local.own.map.pages pfn (Local g.frame) g.inside

  frame_there : (q : ℕ) → q ≢ pfn → frame_at k.local.own.map.pages q ≡ frame_at l.local.own.map.pages q
  frame_there q n = ap (λ (ps : List Page). frame_at ps q) pages_are ∙ frame_else l.local.own.map.pages pfn q (Local g.frame) n

  long_is : length k.local.own.map.pages ≡ length l.local.own.map.pages
  long_is = ap (λ (ps : List Page). length ps) pages_are ∙ length-set l.local.own.map.pages pfn (Local g.frame)

  -- before, it was none of the domain's own
  none_was : (o : Option ℕ) → frame_at l.local.own.map.pages pfn ≡ o → o ≡ None
  none_was None e = refl
  none_was (Some f) e = absurd (let z : true ≡ false = ap is_some (sym frame_was) ∙ is.exposes.split pfn g.inside ∙ ap (λ o. not (is_some o)) e in cc)

  bare : frame_at l.local.own.map.pages pfn ≡ None
  bare = none_was (frame_at l.local.own.map.pages pfn) refl

  exposes : Exposes new.hv.heap.stock id k
  exposes = record { split = λ q lt. split q lt (same_or_not q pfn); within = λ q e. inside q e (same_or_not q pfn) } where
    split : (q : ℕ) → q < length k.local.own.map.pages → (q ≡ pfn) ⊎ (q ≢ pfn) → is_some (frame_in q (exposed_of id new.hv.heap.stock)) ≡ not (is_some (frame_at k.local.own.map.pages q))
    split q lt (inl e) = ap (λ (xs : List ExposedFrame). is_some (frame_in q xs)) exposed_here ∙ ap (λ (i : ℕ). is_some (frame_in i (pages_but pfn listed))) e ∙ ap is_some (but_here pfn listed) ∙ sym (ap (λ (i : ℕ). not (is_some (frame_at k.local.own.map.pages i))) e ∙ ap (λ o. not (is_some o)) frame_here)
    split q lt (inr n) = ap (λ (xs : List ExposedFrame). is_some (frame_in q xs)) exposed_here ∙ ap is_some (but_else pfn q listed n) ∙ is.exposes.split q (omega (arith, lt, long_is)) ∙ sym (ap (λ o. not (is_some o)) (frame_there q n))

    inside : (q : ℕ) → is_some (frame_in q (exposed_of id new.hv.heap.stock)) ≡ true → (q ≡ pfn) ⊎ (q ≢ pfn) → q < length k.local.own.map.pages
    inside q e (inl same) = omega (arith, same, g.inside, long_is)
    inside q e (inr n) = let lt = is.exposes.within q (ap is_some (sym (but_else pfn q listed n)) ∙ ap (λ (xs : List ExposedFrame). is_some (frame_in q xs)) (sym exposed_here) ∙ e) in omega (arith, lt, long_is)

  one : OneMoved W old new id l (Domain k)
  one = record {
    within = small;
    here = here;
    places = spots;
    script = script;
    exposed = exposed_else;
    aside = λ j far. aside_is j;
    names = λ j far. ap (λ (ns : ℕ → Bool). ns j) g.names;
    name = ap (λ (ns : ℕ → Bool). ns id) g.names ∙ stands.names id small ∙ ap is_empty here;
    spares = spares_swap W _ _ (only_name id) old.pool new.pool (is.stands.names ∙ ap only_name is.id_is) call.others;
    heap = call.hv;
  }

  -- each page lies in the frame that it lay in
  row_kept : row_of new.hv.heap.stock id (Domain k) ≡ row_of old.hv.heap.stock id (Domain l)
  row_kept =
      let now : List (Option ℕ) = frames_in k.local.own.map.pages in
      let before : List (Option ℕ) = frames_in l.local.own.map.pages in
      let away = λ (xs : List ExposedFrame) (q : ℕ). unwrap_or (frame_in q xs) 0 in
      let start : 0 + pfn ≡ pfn = omega arith in
      let now_is : now ≡ set before pfn (Some g.frame) = ap frames_in pages_are ∙ map-set (λ (page : Page). frame_of (Some page)) l.local.own.map.pages pfn (Local g.frame) in
      let back : set now pfn None ≡ before = ap (λ (xs : List (Option ℕ)). set xs pfn None) now_is ∙ set_back before pfn g.frame (frame_listed l.local.own.map.pages pfn ∙ bare) in
      ap (λ (xs : List ExposedFrame). row_frames now (away xs) 0) exposed_here
      ∙ sym (row_out now (away (pages_but pfn listed)) (away listed) 0 pfn g.frame (frame_listed k.local.own.map.pages pfn ∙ frame_here) (ap (away listed) start ∙ ap (λ (o : Option ℕ). unwrap_or o 0) frame_was) (λ q n. ap (λ (o : Option ℕ). unwrap_or o 0) (sym (but_else pfn q listed (λ e. n (e ∙ sym start))))))
      ∙ ap (λ (xs : List (Option ℕ)). row_frames xs (away listed) 0) back

  rows_kept : rows_of new ≡ rows_of old
  rows_kept = ext_get_or [] (rows_of new) (rows_of old) (rows_long new ∙ sym (rows_long old)) (λ j lt. by j (same_or_not j id)) where
    by : (j : ℕ) → (j ≡ id) ⊎ (j ≢ id) → get_or (rows_of new) j [] ≡ get_or (rows_of old) j []
    by j (inl e) = ap (λ (i : ℕ). get_or (rows_of new) i []) e ∙ row_is new id small ∙ ap (row_of new.hv.heap.stock id) (moved_here W old new id l (Domain k) one st stands) ∙ row_kept ∙ ap (row_of old.hv.heap.stock id) (sym here) ∙ sym (row_is old id small) ∙ ap (λ (i : ℕ). get_or (rows_of old) i []) (sym e)
    by j (inr far) = (moved_row W old new id l (Domain k) one).others j far

  -- the domain in the new machine, for the part x of a state
  domain_of : (x : Part) (n : Own) (b : Book) → x.life ≡ part.life → x.own ≡ n → x.book ≡ b → b.stage ≡ book.Ready → b.spare ≡ part.book.spare → k.guest.dom ≡ l.guest.dom → k.guest.stage ≡ l.guest.stage → IsOwnHalf W new.pool k n → IsDomain W new id k x
  domain_of x n b life own its_book at spare dom stage half = record {
    live = ap is_some life ∙ is.live;
    dom = dom ∙ is.dom;
    id_is = ap (λ (v : DomLocal Pool Seat). v.id) memory ∙ g.id ∙ is.id_is;
    stands = subst (IsStanding W new.pool) (sym memory) standing;
    own = subst (IsOwnHalf W new.pool k) (sym own) half;
    spare = ap (λ (v : Book). v.spare) its_book ∙ spare ∙ is.spare ∙ ap is_some (sym g.spare) ∙ ap (λ (v : DomLocal Pool Seat). is_some v.own.spare) (sym memory);
    exposes = exposes;
    aside = aside_is id ∙ is.aside;
    stage = subst (λ (v : Stage). IsAtStage W new id k x v) (sym (ap (λ (v : Book). v.stage) its_book ∙ at))
        (stage ∙ at_line W old st reached stands id l here (command.Ungrant r) ready, ap (λ (v : DomLocal Pool Seat). v.hand) memory ∙ g.hand ∙ no_hand W old st reached stands id l here (command.Ungrant r) ready);
  }

  -- the turn
  pub took_regained : (y : Reply) (b : PageBack) → shared_line (shared_in W old.pool old.hv) id nothing_lent Enough (command.Ungrant r) ≡ record { shared = shared_in W new.pool new.hv; reply = y; back = Some b }
      → IsOwnHalf W new.pool k (own_behind part.own (command.Ungrant r) y (Some b)) → k.guest.stage ≡ stage_behind l.guest.stage y → k.guest.dom ≡ l.guest.dom
      → Took W old new (line_turn old.script st id Enough Nothing) (Entered (record { entry = entry.Line id l.guest.line; reply = y }))
  took_regained y b row half stage dom =
      let c = command.Ungrant r in
      let o = part.own in
      let x = command_of old.script part in
      let sh = shared_in W new.pool new.hv in
      let c_is = its W old st reached stands id l here c ready in
      let plain : shared_line st.machine.shared id (lent o c) Enough c ≡ record { shared = sh; reply = y; back = Some b } = subst (λ (v : Shared). shared_line v id (lent o c) Enough c ≡ record { shared = sh; reply = y; back = Some b }) (sym stands.shared) row in
      let did = called_step old.script st id Enough sh y (Some b) (subst (λ (v : Command). local_step old.script (program_of part.life) o Enough v ≡ None) (sym c_is) refl) (subst (λ (v : Command). shared_line st.machine.shared id (lent o v) Enough v ≡ record { shared = sh; reply = y; back = Some b }) (sym c_is) plain) in
      let no_exit : x ≢ command.Exit = λ e. let z : c ≡ command.Exit = sym c_is ∙ e in absurd (no_exits z) in
      let no_clone : x ≢ command.Clone = λ e. let z : c ≡ command.Clone = sym c_is ∙ e in absurd (no_clones z) in
      let n = own_behind o x y (Some b) in
      let out : Outcome = record { machine = record { own = set st.machine.own id n; shared = sh }; reply = y } in
      let went = goes_on st.machine id Enough old.script x no_exit no_clone in
      let on : GoesOn y = subst (λ (v : Outcome). GoesOn v.reply) did went in
      let goes : Goes st.machine id out = subst (Goes st.machine id) did (goes_line st.machine id Enough _ went (line_kind old.script reached.machine.formed st.machine id Enough)) in
      let bk = book_after o y part.book in
      let gb = goes_book o y part.book on in
      let places = orderly W old st reached stands id l here in
      let turns = goes_turns st id places small out goes bk st.books.fresh in
      let st' : State = record { machine = out.machine; books = books_after id o Nothing y st.books } in
      let own_now : IsOwnHalf W new.pool k n = subst (λ (v : Command). IsOwnHalf W new.pool k (own_behind o v y (Some b))) (sym c_is) half in
      let domain = domain_of (part_at st' id) n bk (ap (λ (v : Part). v.life) turns.here) (get_or-set_same st.machine.own id n no_own (omega (arith, places.own, small))) (ap (λ (v : Part). v.book) turns.here) (ap (λ (v : Book). v.stage) gb) (ap (λ (v : Book). v.spare) gb) dom (stage ∙ stays_ready l.guest.stage y on) own_now in
      let stood : IsStood (rows_of new) (books_after id o Nothing y st.books) = (stands.colours.0, subst (λ rows. Stands stands.colours.0 rows (books_after id o Nothing y st.books)) (sym rows_kept) (stands_line stands.colours.0 (rows_of old) st.books id o Nothing y stands.colours.1 (in_books W old st reached stands id l here) tt (goes_more y on))) in
      subst (λ t. Took W old new t (Entered (record { entry = entry.Line id l.guest.line; reply = y }))) (sym (ap (λ (v : Outcome). noting (entry.Line id o.line) v (books_after id o Nothing v.reply st.books)) did)) (record {
        stands = stands_moved W old new id l (Domain k) one st stands st' (quiet W old st reached stands id l here c ready) turns.others refl domain stood;
        script = script;
        moved = refl;
        entry = ap (λ (v : ℕ). record { entry = entry.Line id v; reply = y } ∷ []) (sym is.own.line);
        shares = same_shares (W.shares old.pool) (W.shares new.pool) call.shares;
      })
    where
      no_exits : command.Ungrant r ≡ command.Exit → ⊥
      no_exits e = cc

      no_clones : command.Ungrant r ≡ command.Clone → ⊥
      no_clones e = cc
