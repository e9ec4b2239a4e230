-- The turn of a domain whose line needs a frame and that holds no spare.
use Rattle.std.proofs.Common.{◌≡◌, ◌≢◌, ℕ, ◌+◌, ◌-◌, ◌^◌, Bool, true, false, cond, List, [], ◌∷◌, ◌++◌, length, set, min, Option, Some, None, refl, sym, ap, subst, ◌∙◌, arith, eq-eqb, ne_eqb, length-append}
use Rattle.std.specs.Prelude.{is_some, option_to_list}
use Rattle.neph_base.specs.declared.command.Command.{Command}
use Rattle.neph_base.specs.declared.command.Command.TheVariants as command
use Rattle.neph_base.specs.declared.reply.Entry.TheVariants as entry
use Rattle.neph_base.specs.declared.reply.Refusal.{Refusal}
use Rattle.neph_base.specs.declared.reply.Reply.{Reply}
use Rattle.neph_base.specs.declared.reply.Reply.TheVariants as reply
use Rattle.neph_base.specs.declared.reply.Refusal.TheVariants.{NoFrame}
use Rattle.neph_model.specs.declared.own.Own.{Own}
use Rattle.neph_model.specs.declared.script.Script.{Script}
use Rattle.neph_model.specs.declared.book.Book.{Book}
use Rattle.neph_model.specs.declared.book.Move.TheVariants.{Does, TakesSpare}
use Rattle.neph_model.specs.declared.book.Spends.TheVariants.{Nothing}
use Rattle.neph_model.specs.declared.told.Told.TheVariants.{Short}
use Rattle.neph_model.specs.Machine.{put_own, program_of}
use Rattle.neph_model.specs.Lent.{own_behind}
use Rattle.neph_model.specs.Step.{Outcome, Locked, step_by, child_made, bear, own_after}
use Rattle.neph_model.specs.Books.{State, free}
use Rattle.neph_model.specs.Turns.{Done, noting, books_after, line_turn, move_turn}
use Rattle.neph_runs.specs.Orderly.{seat as part_at}
use Rattle.neph_pool.specs.Names.{only_name}
use Rattle.neph_pool.specs.World.{World}
use Rattle.neph_memory.specs.declared.dom_local.DomLocal.{DomLocal}
use Rattle.neph_memory.specs.Domains.{IsStanding}
use Rattle.neph_guest.specs.declared.live.Live.{Live}
use Rattle.neph_guest.specs.declared.live.Stage.TheVariants as guest
use Rattle.neph_guest.specs.OwnHalf.{IsOwnHalf}
use Rattle.neph_machine.specs.declared.place.Place.TheVariants.{Domain}
use Rattle.neph_machine.specs.declared.machine.Machine.{Machine}
use Rattle.neph_machine.specs.declared.turn.Turn.TheVariants.{Moved, Noted as Entered}
use Rattle.neph_machine.specs.Places.{place_at}
use Rattle.neph_machine.specs.StandsFor.{command_of, StandsFor}
use Rattle.neph_machine.specs.Turned.{Took}
use Rattle.neph_lines.proofs.Lines.{NeedsFrame, bare_move}
use Rattle.neph_machine.proofs.Reached.{IsReached}
use Rattle.neph_machine.proofs.OnePlace.{OneDomain}
use Rattle.neph_lines.proofs.Sparing.{IsOffered, spares_swap, half_kept, was, within, stage_kept, stands_quietly, stands_line_alone}

own_refused : (o : Own) (c : Command) (why : Refusal) → c ≢ command.Exit → own_behind o c (reply.Refused why) None ≡ record o { line = o.line + 1; refused = true }
own_refused o (command.W addr bytes) why n = refl
own_refused o command.Exit why n = absurd (n refl)
own_refused o _ why n = refl

-- a line that is told that no frame is left, and is refused
pub refused_line : (s : Script) (st : State) (id : ℕ) → NeedsFrame s st id
    → line_turn s st id Short Nothing ≡ noting (entry.Line id (part_at st id).own.line) (record { machine = put_own id (record (part_at st id).own { line = (part_at st id).own.line + 1; refused = true }) st.machine; reply = reply.Refused NoFrame }) (books_after id (part_at st id).own Nothing (reply.Refused NoFrame) st.books)
refused_line s st id h =
    let x = part_at st id in
    let e = entry.Line id x.own.line in
    let after : Outcome → Done = λ (o : Outcome). noting e o (books_after id x.own Nothing o.reply st.books) in
    let behind : Locked → Outcome = λ (d : Locked). record { machine = record { own = set (bear st.machine.own id x.own (child_made e d.reply)) id (own_after s (program_of x.life) x.own e d.reply d.back); shared = d.shared }; reply = d.reply } in
    ap (λ (d : Option (Own × Reply)). after (step_by s st.machine e Short d)) h.short
    ∙ ap (λ (d : Locked). after (behind d)) h.refused
    ∙ ap (λ (o : Own). after (record { machine = put_own id o st.machine; reply = reply.Refused NoFrame })) (own_refused x.own (command_of s x) NoFrame h.later)

bare_taken : (n : ℕ) → n ≢ 0 → bare_move n ≡ TakesSpare
bare_taken n far = ap (λ (b : Bool). cond b (Does Short Nothing) TakesSpare) (ne_eqb n 0 far)

bare_short : (n : ℕ) → n ≡ 0 → bare_move n ≡ Does Short Nothing
bare_short n e = ap (λ (b : Bool). cond b (Does Short Nothing) TakesSpare) (eq-eqb n 0 e)

-- how many times frames were shared has not changed
pub same_shares : (a b : ℕ) → b ≡ a → min b (2 ^ 64 - 1) ≡ min (a + 0) (2 ^ 64 - 1)
same_shares a b e = let z : b ≡ a + 0 = omega (arith, e) in ap (λ (n : ℕ). min n (2 ^ 64 - 1)) z

some_more : (xs ys : List ℕ) (o : Option ℕ) → xs ≡ ys ++ option_to_list o → is_some o ≡ true → length xs ≢ 0
some_more xs ys None e h z = absurd (cc)
some_more xs ys (Some f) e h z = let n = ap (λ (l : List ℕ). length l) e in omega (arith, n, z, length-append ys (f ∷ []))

module _ {Pool Seat : Type 0} (W : World Pool Seat) (old : Machine Pool Seat) (st : State) (reached : IsReached old.script st) (stands : StandsFor W old st) (id : ℕ) (l : Live Pool Seat) (here : place_at id old.places.items ≡ Domain l)
    (frees : length old.hv.heap.stock.free ≡ free old.script st) (quiet : (part_at st id).guest.begun ≡ []) (new : Machine Pool Seat) (script : new.script ≡ old.script) where
  module _ (d : DomLocal Pool Seat) (offered : IsOffered W old.pool old.hv l new.pool new.hv d) where
    pub offered_one : (k : Live Pool Seat) → new.places.items ≡ set old.places.items id (Domain k) → OneDomain W old new id l k
    offered_one k places = let is = was W old st reached stands id l here in record {
      within = within W old st reached stands id l here;
      here = here;
      places = places;
      script = script;
      exposed = ap (λ m. m.exposed) offered.stock;
      aside = ap (λ m. m.aside) offered.stock;
      names = offered.seat.names;
      spares = spares_swap W _ _ (only_name id) old.pool new.pool (is.stands.names ∙ ap only_name is.id_is) offered.others;
      heap = offered.hv;
    }

    -- it takes a spare
    pub spare_taken : new.places.items ≡ set old.places.items id (Domain (record l { local = d })) → is_some d.own.spare ≡ true → old.hv.heap.stock.free ≡ new.hv.heap.stock.free ++ option_to_list d.own.spare → Took W old new (move_turn old.script st id (bare_move (free old.script st))) Moved
    spare_taken places some fewer =
        let x = part_at st id in
        let k : Live Pool Seat = record l { local = d } in
        let one = offered_one k places in
        let is = was W old st reached stands id l here in
        let b : Book = record x.book { spare = true } in
        let move = bare_taken (free old.script st) (λ z. some_more _ _ d.own.spare fewer some (frees ∙ z)) in
        subst (λ mv. Took W old new (move_turn old.script st id mv) Moved) (sym move) (record {
          stands = stands_quietly W old st reached stands id l here new k one offered.kept refl offered.hand quiet offered.shared b (sym some) refl (stage_kept W old st reached stands id l here new k one offered.kept refl offered.hand quiet b x.book.stage is.stage);
          script = script;
          moved = refl;
          entry = refl;
          shares = same_shares (W.shares old.pool) (W.shares new.pool) offered.shares;
        })

    -- no frame is left, and the line is refused
    pub line_refused : (k : Live Pool Seat) (r : Reply) → NeedsFrame old.script st id → new.places.items ≡ set old.places.items id (Domain k) → d.own.spare ≡ None → old.hv.heap.stock.free ≡ []
        → ((o : Own) → IsOwnHalf W new.pool (record l { local = d }) o → IsOwnHalf W new.pool k (record o { line = o.line + 1; refused = true }) × (reply.Refused NoFrame ≡ r))
        → k.local ≡ record d { hand = None } → k.guest.stage ≡ guest.Ready → k.guest.dom ≡ l.guest.dom
        → (part_at st id).book.spare ≡ false
        → Took W old new (move_turn old.script st id (bare_move (free old.script st))) (Entered (record { entry = entry.Line id l.guest.line; reply = r }))
    line_refused k r needs places bare none half local stage dom no_spare =
        let x = part_at st id in
        let one = offered_one k places in
        let is = was W old st reached stands id l here in
        let settled = half x.own (half_kept W old.pool new.pool l (record l { local = d }) offered.kept x.own x.own refl refl refl refl is.own.line is.own.came is.own.refused is.own) in
        let move = bare_short (free old.script st) (sym frees ∙ ap (λ (xs : List ℕ). length xs) none) in
        let did = ap (move_turn old.script st id) move ∙ refused_line old.script st id needs in
        let n : Own = record x.own { line = x.own.line + 1; refused = true } in
        subst (λ t. Took W old new t (Entered (record { entry = entry.Line id l.guest.line; reply = r }))) (sym did) (record {
          stands = stands_line_alone W old st reached stands id l here new k one dom (ap (λ (v : DomLocal Pool Seat). v.id) local ∙ offered.kept.id) (subst (λ (v : DomLocal Pool Seat). IsStanding W new.pool v) (sym local) offered.kept.stands) (ap (λ (v : DomLocal Pool Seat). v.own.map.pages) local ∙ ap (λ m. m.pages) offered.kept.map) stage (ap (λ (v : DomLocal Pool Seat). v.hand) local) quiet offered.shared
              n Nothing (reply.Refused NoFrame) settled.0 (no_spare ∙ sym (ap (λ (v : DomLocal Pool Seat). is_some v.own.spare) local ∙ ap is_some bare)) refl tt (λ e. cc);
          script = script;
          moved = refl;
          entry = ap (λ (v : ℕ × Reply). record { entry = entry.Line id v.0; reply = v.1 } ∷ []) (λ i. (sym is.own.line i, sym settled.1 i));
          shares = same_shares (W.shares old.pool) (W.shares new.pool) offered.shares;
        })
