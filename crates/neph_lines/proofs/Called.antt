-- The turn of a domain whose line the hypervisor does.
use Rattle.std.proofs.Common.{◌≡◌, ◌≢◌, ◌⊎◌, inl, inr, ℕ, [], ◌∷◌, set, Option, None, refl, sym, ap, subst, ◌∙◌, arith}
use Rattle.std.specs.Prelude.{is_some}
use Rattle.std.proofs.lemmas.List.{get_or-set_same}
use Rattle.neph_base.specs.declared.command.Command.{Command}
use Rattle.neph_base.specs.declared.command.Command.TheVariants as command
use Rattle.neph_base.specs.declared.reply.Entry.TheVariants as entry
use Rattle.neph_base.specs.declared.reply.Reply.{Reply}
use Rattle.neph_base.specs.declared.reply.Reply.TheVariants as reply
use Rattle.neph_model.specs.declared.own.Own.{Own}
use Rattle.neph_model.specs.declared.script.Script.{Script}
use Rattle.neph_model.specs.declared.book.Book.{Book}
use Rattle.neph_model.specs.declared.book.Stage.{Stage}
use Rattle.neph_model.specs.declared.book.Stage.TheVariants as book
use Rattle.neph_model.specs.declared.book.Spends.TheVariants.{Nothing}
use Rattle.neph_model.specs.declared.told.Told.{Told}
use Rattle.neph_model.specs.Machine.{Shared, Machine as Plain, no_own, program_of}
use Rattle.neph_model.specs.Own.{local_step}
use Rattle.neph_model.specs.Lent.{PageBack, lent, own_behind}
use Rattle.neph_model.specs.Step.{Outcome, Locked, locked, shared_line, step, step_by, child_made, bear, own_after}
use Rattle.neph_model.specs.Books.{State}
use Rattle.neph_model.specs.Turns.{noting, book_after, books_after, line_turn}
use Rattle.neph_runs.specs.Orderly.{Seat as Part, seat as part_at}
use Rattle.neph_runs.proofs.Lines.{GoesOn, Goes, Ends, Kind, goes_on, line_kind}
use Rattle.neph_runs.proofs.Seats.{goes_turns}
use Rattle.neph_pool.specs.Names.{only_name, both_names}
use Rattle.neph_pool.specs.World.{World, Spares}
use Rattle.neph_memory.specs.declared.dom_local.DomLocal.{DomLocal}
use Rattle.neph_memory.specs.Domains.{IsStanding, IsUnchanged}
use Rattle.neph_guest.specs.declared.live.Live.{Live}
use Rattle.neph_guest.specs.declared.live.Stage.{Stage as At}
use Rattle.neph_guest.specs.OwnHalf.{IsOwnHalf}
use Rattle.neph_guest.specs.Turns.{stage_behind}
use Rattle.neph_heap.specs.Lists.{exposed_of, aside_of}
use Rattle.neph_hv.specs.Hv.{IsHv, shared_in}
use Rattle.neph_machine.specs.declared.place.Place.TheVariants.{Domain}
use Rattle.neph_machine.specs.declared.machine.Machine.{Machine}
use Rattle.neph_machine.specs.declared.turn.Turn.TheVariants.{Noted as Entered}
use Rattle.neph_machine.specs.Places.{place_at}
use Rattle.neph_machine.specs.Stages.{IsReadyAt}
use Rattle.neph_machine.specs.StandsFor.{command_of, IsAtStage, IsDomain, StandsFor}
use Rattle.neph_machine.specs.Turned.{Took}
use Rattle.neph_machine.proofs.Reached.{IsReached}
use Rattle.neph_machine.proofs.OnePlace.{OneDomain, stands_one}
use Rattle.neph_machine.proofs.Carrying.{exposes_kept}
use Rattle.neph_lines.proofs.Sparing.{IsKept, half_kept, spares_swap, was, within, orderly, stood_line}
use Rattle.neph_lines.proofs.NoFrame.{same_shares}
use Rattle.neph_lines.proofs.Copied.{kept_unchanged}
use Rattle.neph_lines.proofs.ReadyLines.{at_line, its, quiet, no_hand}
use Rattle.neph_lines.proofs.Doing.{goes_book, goes_more}

-- a line under the lock that is no exit and no commit gives its domain this own half
pub called_step : (s : Script) (st : State) (id : ℕ) (told : Told) (sh : Shared) (r : Reply) (back : Option PageBack) → local_step s (program_of (part_at st id).life) (part_at st id).own told (command_of s (part_at st id)) ≡ None
    → shared_line st.machine.shared id (lent (part_at st id).own (command_of s (part_at st id))) told (command_of s (part_at st id)) ≡ record { shared = sh; reply = r; back = back }
    → step s st.machine (entry.Line id (part_at st id).own.line) told ≡ record { machine = record { own = set st.machine.own id (own_behind (part_at st id).own (command_of s (part_at st id)) r back); shared = sh }; reply = r }
called_step s st id told sh r back alone row =
    let x = part_at st id in
    let e = entry.Line id x.own.line in
    let behind : Locked → Outcome = λ (d : Locked). record { machine = record { own = set (bear st.machine.own id x.own (child_made e d.reply)) id (own_after s (program_of x.life) x.own e d.reply d.back); shared = d.shared }; reply = d.reply } in
    ap (step_by s st.machine e told) alone ∙ ap behind row

goes_kind : (m : Plain) (id : ℕ) (told : Told) (out : Outcome) → GoesOn out.reply → Kind m id told out → Goes m id out
goes_kind m id told out on (inl g) = g
goes_kind m id told out on (inr (inl e)) = absurd (subst GoesOn e.reply on)
goes_kind m id told out on (inr (inr b)) = absurd (subst GoesOn b.reply on)

pub goes_line : {A : Type 0} (m : Plain) (id : ℕ) (told : Told) (out : Outcome) → GoesOn out.reply → Ends m id out ⊎ (A × Kind m id told out) → Goes m id out
goes_line m id told out on (inl e) = absurd (subst GoesOn e.reply on)
goes_line m id told out on (inr h) = goes_kind m id told out on h.1

pub stays_ready : (stage : At) (r : Reply) → GoesOn r → stage_behind stage r ≡ stage
stays_ready stage (reply.Begun child) on = absurd on
stays_ready stage _ on = refl

-- What a call of the hypervisor has left: it and the domain's memory are read as before, but for its shared half.
pub record CallLeft {Pool Seat : Type 0} (W : World Pool Seat) (old new : Machine Pool Seat) (l : Live Pool Seat) (d : DomLocal Pool Seat) : Type 0 where
  pub script : new.script ≡ old.script
  pub hv : IsHv W new.pool new.hv
  pub stock : new.hv.heap.stock ≡ old.hv.heap.stock
  pub names : W.names new.hv.heap.seat ≡ W.names old.hv.heap.seat
  pub stands : IsStanding W new.pool d
  pub same : IsUnchanged W old.pool l.local new.pool d
  pub others : Spares W (both_names (W.names old.hv.heap.seat) (W.names l.local.seat)) old.pool new.pool
  pub shares : W.shares new.pool ≡ W.shares old.pool

module _ {Pool Seat : Type 0} (W : World Pool Seat) (old : Machine Pool Seat) (st : State) (reached : IsReached old.script st) (stands : StandsFor W old st) (id : ℕ) (l : Live Pool Seat) (here : place_at id old.places.items ≡ Domain l) (c : Command) (ready : IsReadyAt old id c) where
  abbrev part : Part
  part = part_at st id

  module _ (new : Machine Pool Seat) (d : DomLocal Pool Seat) (left : CallLeft W old new l d) where
    -- the domain's memory behind the call
    kept : IsKept W old.pool l.local new.pool d
    kept = kept_unchanged W old.pool l.local new.pool d left.stands left.same

    module _ (k : Live Pool Seat) (spots : new.places.items ≡ set old.places.items id (Domain k)) (memory : k.local ≡ d) where
      one : OneDomain W old new id l k
      one =
          let is = was W old st reached stands id l here in record {
            within = within W old st reached stands id l here;
            here = here;
            places = spots;
            script = left.script;
            exposed = ap (λ m. m.exposed) left.stock;
            aside = ap (λ m. m.aside) left.stock;
            names = left.names;
            spares = spares_swap W _ _ (only_name id) old.pool new.pool (is.stands.names ∙ ap only_name is.id_is) left.others;
            heap = left.hv;
          }

      -- the domain in the new machine, for the part x of a state
      domain_of : (x : Part) (n : Own) (b : Book) → x.life ≡ part.life → x.own ≡ n → x.book ≡ b → b.stage ≡ book.Ready → b.spare ≡ part.book.spare → k.guest.dom ≡ l.guest.dom → k.guest.stage ≡ l.guest.stage → IsOwnHalf W new.pool k n → IsDomain W new id k x
      domain_of x n b life own its_book at spare dom stage half =
          let is = was W old st reached stands id l here in record {
            live = ap is_some life ∙ is.live;
            dom = dom ∙ is.dom;
            id_is = ap (λ (v : DomLocal Pool Seat). v.id) memory ∙ kept.id ∙ is.id_is;
            stands = subst (IsStanding W new.pool) (sym memory) kept.stands;
            own = subst (IsOwnHalf W new.pool k) (sym own) half;
            spare = ap (λ (v : Book). v.spare) its_book ∙ spare ∙ is.spare ∙ ap (λ o. is_some o.spare) (sym left.same.own) ∙ ap (λ (v : DomLocal Pool Seat). is_some v.own.spare) (sym memory);
            exposes = exposes_kept old.hv.heap.stock new.hv.heap.stock id l k (ap (exposed_of id) left.stock) (ap (λ (v : DomLocal Pool Seat). v.own.map.pages) memory ∙ ap (λ m. m.pages) kept.map) is.exposes;
            aside = ap (aside_of id) left.stock ∙ is.aside;
            stage = subst (λ (v : Stage). IsAtStage W new id k x v) (sym (ap (λ (v : Book). v.stage) its_book ∙ at)) (stage ∙ at_line W old st reached stands id l here c ready, ap (λ (v : DomLocal Pool Seat). v.hand) memory ∙ left.same.hand ∙ no_hand W old st reached stands id l here c ready);
          }

      -- the turn
      pub took_called : c ≢ command.Exit → c ≢ command.Clone → (told : Told) (r : Reply) → local_step old.script (program_of part.life) part.own told c ≡ None
          → shared_line (shared_in W old.pool old.hv) id (lent part.own c) told c ≡ locked (shared_in W new.pool new.hv) r
          → ((o : Own) (x : Command) → x ≢ command.Exit → IsOwnHalf W new.pool (record l { local = d }) o → IsOwnHalf W new.pool k (own_behind o x r None)) → k.guest.stage ≡ stage_behind l.guest.stage r → k.guest.dom ≡ l.guest.dom
          → Took W old new (line_turn old.script st id told Nothing) (Entered (record { entry = entry.Line id l.guest.line; reply = r }))
      took_called far off told r alone row half stage dom =
          let is = was W old st reached stands id l here in
          let o = part.own in
          let x = command_of old.script part in
          let sh = shared_in W new.pool new.hv in
          let c_is = its W old st reached stands id l here c ready in
          let plain : shared_line st.machine.shared id (lent o c) told c ≡ locked sh r = subst (λ (v : Shared). shared_line v id (lent o c) told c ≡ locked sh r) (sym stands.shared) row in
          let did = called_step old.script st id told sh r None (subst (λ (v : Command). local_step old.script (program_of part.life) o told v ≡ None) (sym c_is) alone) (subst (λ (v : Command). shared_line st.machine.shared id (lent o v) told v ≡ locked sh r) (sym c_is) plain) in
          let no_exit : x ≢ command.Exit = λ e. far (sym c_is ∙ e) in
          let no_clone : x ≢ command.Clone = λ e. off (sym c_is ∙ e) in
          let n = own_behind o x r None in
          let out : Outcome = record { machine = record { own = set st.machine.own id n; shared = sh }; reply = r } in
          let went = goes_on st.machine id told old.script x no_exit no_clone in
          let on : GoesOn r = subst (λ (v : Outcome). GoesOn v.reply) did went in
          let goes : Goes st.machine id out = subst (Goes st.machine id) did (goes_line st.machine id told _ went (line_kind old.script reached.machine.formed st.machine id told)) in
          let b = book_after o r part.book in
          let g = goes_book o r part.book on in
          let places = orderly W old st reached stands id l here in
          let lt = within W old st reached stands id l here in
          let turns = goes_turns st id places lt out goes b st.books.fresh in
          let st' : State = record { machine = out.machine; books = books_after id o Nothing r st.books } in
          let own_now : IsOwnHalf W new.pool k n = half o x no_exit (half_kept W old.pool new.pool l (record l { local = d }) kept o o refl refl refl refl is.own.line is.own.came is.own.refused is.own) in
          let domain = domain_of (part_at st' id) n b (ap (λ (v : Part). v.life) turns.here) (get_or-set_same st.machine.own id n no_own (omega (arith, places.own, lt))) (ap (λ (v : Part). v.book) turns.here) (ap (λ (v : Book). v.stage) g) (ap (λ (v : Book). v.spare) g) dom (stage ∙ stays_ready l.guest.stage r on) own_now in
          subst (λ t. Took W old new t (Entered (record { entry = entry.Line id l.guest.line; reply = r }))) (sym (ap (λ (v : Outcome). noting (entry.Line id o.line) v (books_after id o Nothing v.reply st.books)) did)) (record {
            stands = stands_one W old new id l k one st stands st' (quiet W old st reached stands id l here c ready) turns.others refl domain
                (stood_line W old st reached stands id l here new k one o Nothing r (ap (λ (v : DomLocal Pool Seat). v.own.map.pages) memory ∙ ap (λ m. m.pages) kept.map) tt (goes_more r on));
            script = left.script;
            moved = refl;
            entry = ap (λ (v : ℕ). record { entry = entry.Line id v; reply = r } ∷ []) (sym is.own.line);
            shares = same_shares (W.shares old.pool) (W.shares new.pool) left.shares;
          })
