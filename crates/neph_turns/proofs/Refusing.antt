-- A clone that is refused, and one for which memory lacks.
use Rattle.std.proofs.Common.{◌≡◌, ℕ, List, [], ◌∷◌, get_or, set, None, refl, sym, ap, subst, ◌∙◌}
use Rattle.std.specs.Prelude.{is_some}
use Rattle.neph_base.specs.declared.command.Command.TheVariants.{Clone}
use Rattle.neph_base.specs.declared.reply.Actor.TheVariants as actor
use Rattle.neph_base.specs.declared.reply.Entry.TheVariants.{Line}
use Rattle.neph_base.specs.declared.reply.Refusal.{Refusal}
use Rattle.neph_base.specs.declared.reply.Reply.TheVariants.{Refused}
use Rattle.neph_model.specs.declared.book.Spends.TheVariants.{Nothing}
use Rattle.neph_model.specs.Machine.{Shared}
use Rattle.neph_model.specs.Lent.{own_behind}
use Rattle.neph_model.specs.Step.{locked}
use Rattle.neph_model.specs.Books.{State}
use Rattle.neph_model.specs.Turns.{Done, turn}
use Rattle.neph_runs.specs.Orderly.{Seat as Part, seat as part_at}
use Rattle.neph_pool.specs.Names.{both_names, only_name}
use Rattle.neph_pool.specs.World.{World, Spares}
use Rattle.neph_memory.specs.declared.dom_local.DomLocal.{DomLocal}
use Rattle.neph_memory.specs.Domains.{IsStanding, IsUnchanged}
use Rattle.neph_guest.specs.declared.live.Live.{Live}
use Rattle.neph_guest.specs.declared.live.Stage.TheVariants as guest
use Rattle.neph_guest.specs.OwnHalf.{IsOwnHalf}
use Rattle.neph_hv.specs.Hv.{IsHv, shared_in}
use Rattle.neph_hv.specs.Begins.{IsCloneRow}
use Rattle.neph_accounts.specs.Colours.{IsStood}
use Rattle.neph_machine.specs.declared.place.Place.TheVariants.{Domain}
use Rattle.neph_machine.specs.declared.machine.Machine.{Machine}
use Rattle.neph_machine.specs.declared.turn.Turn.TheVariants.{Noted as Entered}
use Rattle.neph_machine.specs.Stages.{IsReadyAt}
use Rattle.neph_machine.specs.StandsFor.{StandsFor}
use Rattle.neph_machine.specs.Surveyed.{IsSurveyed}
use Rattle.neph_machine.specs.Turned.{Took, Lacked}
use Rattle.neph_machine.proofs.Reached.{IsReached}
use Rattle.neph_machine.proofs.OnePlace.{OneDomain, stands_one, one_rows_same}
use Rattle.neph_machine.proofs.Carrying.{exposes_kept}
use Rattle.neph_lines.proofs.Sparing.{IsKept, half_kept, spares_swap, within, domain_now, stage_kept, stands_line_alone}
use Rattle.neph_lines.proofs.Copied.{kept_unchanged}
use Rattle.neph_lines.proofs.NoFrame.{same_shares}
use Rattle.neph_lines.proofs.Exits.{ready_domain, ready_quiet}
use Rattle.neph_turns.proofs.CloneLines.{IsRow}
use Rattle.neph_turns.proofs.AtClone.{ready_hand, row_is, turn_is}

-- a call on a domain left the hypervisor as it was, and the domain's memory
pub record LeavesAlone {Pool Seat : Type 0} (W : World Pool Seat) (old new : Machine Pool Seat) (l : Live Pool Seat) (d : DomLocal Pool Seat) : Type 0 where
  pub script : new.script ≡ old.script
  pub hv : IsHv W new.pool new.hv
  pub stock : new.hv.heap.stock ≡ old.hv.heap.stock
  pub names : W.names new.hv.heap.seat ≡ W.names old.hv.heap.seat
  pub shared : shared_in W new.pool new.hv ≡ shared_in W old.pool old.hv
  pub stands : IsStanding W new.pool d
  pub same : IsUnchanged W old.pool l.local new.pool d
  pub others : Spares W (both_names (W.names old.hv.heap.seat) (W.names l.local.seat)) old.pool new.pool
  pub shares : W.shares new.pool ≡ W.shares old.pool

module _ {Pool Seat : Type 0} (W : World Pool Seat) (old : Machine Pool Seat) (st : State) (reached : IsReached old.script st) (stands : StandsFor W old st) (survey : IsSurveyed W) (id : ℕ) (ready : IsReadyAt old id Clone) (new : Machine Pool Seat) (d : DomLocal Pool Seat) (left : LeavesAlone W old new ready.domain d) where
  abbrev l : Live Pool Seat
  l = ready.domain

  abbrev part : Part
  part = part_at st id

  quiet : part.guest.begun ≡ []
  quiet = ready_quiet W old id Clone ready st stands reached

  kept : IsKept W old.pool l.local new.pool d
  kept = kept_unchanged W old.pool l.local new.pool d left.stands left.same

  one : (k : Live Pool Seat) → new.places.items ≡ set old.places.items id (Domain k) → OneDomain W old new id l k
  one k places =
      let is = ready_domain W old id Clone ready st stands in record {
        within = within W old st reached stands id l ready.here;
        here = ready.here;
        places = places;
        script = left.script;
        exposed = ap (λ s. s.exposed) left.stock;
        aside = ap (λ s. s.aside) left.stock;
        names = left.names;
        spares = spares_swap W _ _ (only_name id) old.pool new.pool (is.stands.names ∙ ap only_name is.id_is) left.others;
        heap = left.hv;
      }

  -- the line is refused
  pub clone_refused : (k : Live Pool Seat) (why : Refusal) → IsCloneRow W old.pool old.hv l.local new.pool new.hv d (Refused why) → new.places.items ≡ set old.places.items id (Domain k) → k.local ≡ d → k.guest.stage ≡ guest.Ready → k.guest.dom ≡ l.guest.dom → IsOwnHalf W new.pool k (own_behind part.own Clone (Refused why) None)
      → Took W old new (turn old.script st (actor.Dom id)) (Entered (record { entry = Line id l.guest.line; reply = Refused why }))
  clone_refused k why row places local stage dom half =
      let is = ready_domain W old id Clone ready st stands in
      let its = row_is W old st reached stands survey id ready new.pool new.hv d (Refused why) row in
      let same : shared_in W new.pool new.hv ≡ st.machine.shared = left.shared ∙ sym stands.shared in
      let plain : IsRow old.script st id st.machine.shared (Refused why) = its ∙ ap (λ (sh : Shared). locked sh (Refused why)) same in
      let spare : is_some l.local.own.spare ≡ is_some k.local.own.spare = sym (ap (λ (v : DomLocal Pool Seat). is_some v.own.spare) local ∙ ap (λ o. is_some o.spare) left.same.own) in
      let pages : k.local.own.map.pages ≡ l.local.own.map.pages = ap (λ (v : DomLocal Pool Seat). v.own.map.pages) local ∙ ap (λ m. m.pages) kept.map in
      subst (λ (t : Done). Took W old new t (Entered (record { entry = Line id l.guest.line; reply = Refused why }))) (sym (turn_is W old st reached stands survey id ready st.machine.shared (Refused why) plain)) (record {
        stands = stands_line_alone W old st reached stands id l ready.here new k (one k places) dom (ap (λ (v : DomLocal Pool Seat). v.id) local ∙ kept.id) (subst (λ (v : DomLocal Pool Seat). IsStanding W new.pool v) (sym local) kept.stands) pages stage
            (ap (λ (v : DomLocal Pool Seat). v.hand) local ∙ left.same.hand ∙ ready_hand W old st reached stands survey id ready) quiet left.shared (own_behind part.own Clone (Refused why) None) Nothing (Refused why) half (is.spare ∙ spare) refl tt (λ e. cc);
        script = left.script;
        moved = refl;
        entry = ap (λ (line : ℕ). record { entry = Line id line; reply = Refused why } ∷ []) (sym is.own.line);
        shares = same_shares (W.shares old.pool) (W.shares new.pool) left.shares;
      })

  -- memory lacks, and nothing has changed
  pub clone_lacked : new.places.items ≡ set old.places.items id (Domain (record l { local = d })) → Lacked W old new st
  clone_lacked places =
      let is = ready_domain W old id Clone ready st stands in
      let k : Live Pool Seat = record l { local = d } in
      let o = one k places in
      let half : IsOwnHalf W new.pool k part.own = half_kept W old.pool new.pool l k kept part.own part.own refl refl refl refl is.own.line is.own.came is.own.refused is.own in
      let spare : is_some l.local.own.spare ≡ is_some d.own.spare = sym (ap (λ o. is_some o.spare) left.same.own) in
      let pages : d.own.map.pages ≡ l.local.own.map.pages = ap (λ m. m.pages) kept.map in
      let exposes = exposes_kept old.hv.heap.stock new.hv.heap.stock id l k (ap (λ xs. get_or xs id []) o.exposed) pages is.exposes in
      let stage = stage_kept W old st reached stands id l ready.here new k o kept refl left.same.hand quiet part.book part.book.stage is.stage in
      record {
        stands = stands_one W old new id l k o st stands st quiet (λ j far. refl) (stands.shared ∙ sym left.shared) (domain_now W old st reached stands id l ready.here new k o part.own part.book refl kept.id kept.stands half (is.spare ∙ spare) exposes stage)
            (subst (λ (rows : List (List ℕ)). IsStood rows st.books) (sym (one_rows_same W old new id l k o st stands pages)) stands.colours);
        script = left.script;
        shares = left.shares;
      }
