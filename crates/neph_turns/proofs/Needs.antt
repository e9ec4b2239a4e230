-- What the turn of a guest needs, where its machine stands for a state.
use Rattle.std.proofs.Common.{◌≡◌, ◌≢◌, ℕ, zero, suc, ◌<◌, Bool, true, false, List, [], ◌∷◌, length, get_or, Option, Some, None, refl, sym, ap, subst, ◌∙◌, arith}
use Rattle.std.specs.Prelude.{is_some, nat_lt, not, slice_get}
use Rattle.std.specs.FinMap as fm
use Rattle.std.proofs.lemmas.Bool.{ltb-false}
use Rattle.std.proofs.lemmas.Option.{slice_get_read, slice_get_past}
use Rattle.neph_base.specs.declared.command.Command.{Command}
use Rattle.neph_base.specs.declared.command.Command.TheVariants.{Exit}
use Rattle.neph_model.specs.declared.script.Program.{Program}
use Rattle.neph_model.specs.Machine.{Shared, guest_at, is_live, program_of, program_run}
use Rattle.neph_model.specs.Programs.{command_in, commands_of, program_at}
use Rattle.neph_model.specs.Trap.{is_exposed}
use Rattle.neph_model.specs.WellFormed.{FitsPage}
use Rattle.neph_model.specs.Books.{State}
use Rattle.neph_model.specs.Step.{is_paused}
use Rattle.neph_runs.specs.Orderly.{seat as part_at}
use Rattle.neph_pool.specs.World.{World}
use Rattle.neph_guest.specs.declared.live.Live.{Live}
use Rattle.neph_guest.specs.declared.live.Stage.{Stage}
use Rattle.neph_guest.specs.declared.live.Stage.TheVariants.{Ready, Copying, Forking}
use Rattle.neph_guest.specs.Turns.{IsLineInHand}
use Rattle.neph_rows.specs.Records.{shared_of}
use Rattle.neph_gmap.specs.declared.page.Page.{Page}
use Rattle.neph_gmap.specs.declared.page.Page.TheVariants.{Exposed, Local}
use Rattle.neph_memory.specs.Pages.{frame_at}
use Rattle.neph_heap.specs.Lists.{exposed_of, frame_in}
use Rattle.neph_heap.proofs.Maps.{shown_is}
use Rattle.neph_hv.specs.Serving.{IsServed, HasAway, HasGranted}
use Rattle.neph_hv.specs.Calls.{IsPausing}
use Rattle.neph_machine.specs.declared.place.Place.TheVariants.{Domain}
use Rattle.neph_machine.specs.declared.machine.Machine.{Machine}
use Rattle.neph_machine.specs.Places.{place_at}
use Rattle.neph_machine.specs.Stages.{IsReadyAt, IsRunnable}
use Rattle.neph_machine.specs.StandsFor.{command_of, StandsFor}
use Rattle.neph_machine.proofs.Reached.{IsReached, fits_page, line_short}
use Rattle.neph_lines.proofs.Sparing.{was, apart_heap}
use Rattle.neph_lines.proofs.InHand.{copying_stage}
use Rattle.neph_turns.proofs.AtClone.{next_named, next_none}

-- the program that was read is there
pub read_program : (xs ys : List Program) (n m : ℕ) (q : Program) → xs ≡ ys → n ≡ m → n < length xs → q ≡ get_or xs n q → slice_get ys m ≡ Some q
read_program xs ys n m q e same lt is = ap (slice_get ys) (sym same) ∙ ap (λ (v : List Program). slice_get v n) (sym e) ∙ slice_get_read xs (length xs) n q refl lt is

-- nor is one whose number is too high
pub absent_program : (xs ys : List Program) (n m : ℕ) → xs ≡ ys → n ≡ m → false ≡ nat_lt n (length xs) → slice_get ys m ≡ None
absent_program xs ys n m same e past = ap (slice_get ys) (sym e) ∙ ap (λ (v : List Program). slice_get v n) (sym same) ∙ slice_get_past xs n (ltb-false n (length xs) (sym past))

module _ {Pool Seat : Type 0} (W : World Pool Seat) (old : Machine Pool Seat) (st : State) (reached : IsReached old.script st) (stands : StandsFor W old st) (id : ℕ) (l : Live Pool Seat) (here : place_at id old.places.items ≡ Domain l) where
  -- a page that isn't the domain's own is away
  is_away : (pages : List Page) (pfn : ℕ) → pfn < length pages → is_some (frame_at pages pfn) ≡ false → slice_get pages pfn ≡ Some Exposed
  unfolding frame_at
  is_away [] pfn lt e = absurd (omega arith)
  is_away (Exposed ∷ xs) zero lt e = refl
  is_away (Local f ∷ xs) zero lt e = absurd cc
  is_away (x ∷ xs) (suc pfn) lt e = is_away xs pfn (omega (arith, lt)) e

  -- so is each page that it has granted
  granted : HasGranted old.hv.heap.stock (guest_at id old.hv.registry.tables).grants id l.local.own.map.pages
  granted r e at =
      let is = was W old st reached stands id l here in
      let halves = (reached.sound.seats id is.live).halves in
      let there : fm.get (part_at st id).guest.grants r ≡ Some e = ap (λ (sh : Shared). fm.get (guest_at id sh.tables).grants r) stands.shared ∙ at in
      let shown : is_exposed st.machine.shared.pages id e.pfn ≡ true = halves.named r e there in
      let listed : is_some (frame_in e.pfn (exposed_of id old.hv.heap.stock)) ≡ true =
      sym (shown_is (W.entries old.pool old.hv.heap.seat) old.hv.heap.stock.exposed id e.pfn) ∙ sym (ap (λ (sh : Shared). is_exposed sh.pages id e.pfn) stands.shared) ∙ shown in
      let inside : e.pfn < length l.local.own.map.pages = is.exposes.within e.pfn listed in
      record { exposed = listed; away = is_away l.local.own.map.pages e.pfn inside (flip (is_some (frame_at l.local.own.map.pages e.pfn)) (sym listed ∙ is.exposes.split e.pfn inside)) }
    where
      flip : (b : Bool) → true ≡ not b → b ≡ false
      flip true e = absurd cc
      flip false e = refl

  -- the hypervisor serves it
  pub serves : IsServed W old.pool old.hv l.local
  serves =
      let is = was W old st reached stands id l here in record {
        hv = stands.heap;
        apart = apart_heap W old st reached stands id l here;
        away = subst (λ (i : ℕ). HasAway old.hv.heap.stock i l.local.own.map.pages) (sym is.id_is) (λ pfn lt none. is.exposes.split pfn lt ∙ ap (λ (o : Option ℕ). not (is_some o)) none);
        granted = subst (λ (i : ℕ). HasGranted old.hv.heap.stock (guest_at i old.hv.registry.tables).grants i l.local.own.map.pages) (sym is.id_is) granted;
        cap = stands.cap;
        name = next_named W old st reached stands;
        none = next_none W old st reached stands;
        live = subst (λ (i : ℕ). is_live i old.hv.registry.lives ≡ true) (sym is.id_is) (sym (ap (λ (sh : Shared). is_live id sh.lives) stands.shared) ∙ is.live);
      }

  -- the hypervisor doesn't pause it
  pub runs : IsPausing old.hv l.local.id false → IsRunnable old id
  runs told pages = let is = was W old st reached stands id l here in ap (λ (i : ℕ). is_paused i (shared_of old.hv.registry pages)) (sym is.id_is) ∙ sym (told pages)

  -- its program is the one of the number that the hypervisor keeps
  module _ (program : Program) (found : slice_get old.script.programs (program_run id old.hv.registry.lives) ≡ Some program) where
    abbrev pub line_command : Command
    line_command = command_in program.commands l.guest.line

    pub program_is : program_at old.script (program_of (part_at st id).life) ≡ Some program
    program_is = ap (slice_get old.script.programs) (ap (λ (sh : Shared). program_run id sh.lives) stands.shared) ∙ found

    pub its_command : command_of old.script (part_at st id) ≡ line_command
    its_command =
        let is = was W old st reached stands id l here in
        ap (λ (o : Option Program). command_in (commands_of o) (part_at st id).own.line) program_is ∙ ap (command_in program.commands) is.own.line

    pub fits : FitsPage line_command
    fits = subst FitsPage its_command (fits_page old.script st reached id)

    pub room : line_command ≢ Exit → l.guest.line < 65535
    room far =
        let is = was W old st reached stands id l here in
        let line = is.own.line in
        let short = line_short old.script st reached id (λ e. far (sym its_command ∙ e)) in
        omega (arith, line, short)

    pub in_hand : l.guest.stage ≡ Copying → IsLineInHand W old.pool l.local line_command
    in_hand at = subst (IsLineInHand W old.pool l.local) its_command (copying_stage W old st reached stands id l here at).1

    pub ready_at : l.guest.stage ≡ Ready → IsRunnable old id → IsReadyAt old id line_command
    ready_at at runs = record {
      domain = l;
      here = here;
      ready = at;
      runs = runs;
      command = ap (λ (o : Option Program). command_in (commands_of o) l.guest.line) found;
    }

  -- where its program isn't there it is at its exit
  module _ (absent : slice_get old.script.programs (program_run id old.hv.registry.lives) ≡ None) where
    pub exit_at : l.guest.stage ≢ Forking → IsRunnable old id → IsReadyAt old id Exit
    exit_at far runs = record {
      domain = l;
      here = here;
      ready = by l.guest.stage refl;
      runs = runs;
      command = ap (λ (o : Option Program). command_in (commands_of o) l.guest.line) absent;
    } where
      its_exit : command_of old.script (part_at st id) ≡ Exit
      its_exit = ap (λ (o : Option Program). command_in (commands_of o) (part_at st id).own.line) (ap (slice_get old.script.programs) (ap (λ (sh : Shared). program_run id sh.lives) stands.shared) ∙ absent)

      no_write : IsLineInHand W old.pool l.local (command_of old.script (part_at st id)) → ⊥
      no_write h = subst (IsLineInHand W old.pool l.local) its_exit h

      by : (s : Stage) → l.guest.stage ≡ s → l.guest.stage ≡ Ready
      by Ready e = e
      by Copying e = absurd (no_write (copying_stage W old st reached stands id l here e).1)
      by Forking e = absurd (far e)
