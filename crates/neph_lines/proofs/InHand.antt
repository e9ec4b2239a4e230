-- The turn of a domain whose write waits for a frame.
use Rattle.std.proofs.Common.{◌≡◌, ℕ, zero, suc, ◌%◌, ◌≤◌, Bool, true, false, cond, List, [], ◌∷◌, set, slice_index, IfSome, IsSome, Some, None, Ok, Err, refl, sym, ap, subst, ◌∙◌, arith}
use Rattle.std.specs.Prelude.{is_some, not, nat_lt, ◌==◌, slice_index_or, unwrap_or}
use Rattle.std.specs.declared.option.Option.{Option}
use Rattle.std.specs.Option.{option_map}
use Rattle.std.proofs.lemmas.Bool.{lt-ltb}
use Rattle.neph_base.specs.declared.command.Command.{Command}
use Rattle.neph_base.specs.declared.command.Command.TheVariants as command
use Rattle.neph_base.specs.declared.command.Mode.{Mode}
use Rattle.neph_base.specs.declared.command.Mode.TheVariants.{Ro, Rw}
use Rattle.neph_base.specs.declared.reply.Reply.{Reply}
use Rattle.neph_base.specs.declared.reply.Reply.TheVariants as reply
use Rattle.neph_base.specs.declared.reply.Refusal.TheVariants.{ReadOnly}
use Rattle.neph_model.specs.declared.own.Own.{Own}
use Rattle.neph_model.specs.declared.memory.Mapping.{Mapping}
use Rattle.neph_model.specs.declared.book.Stage.{Stage}
use Rattle.neph_model.specs.declared.book.Stage.TheVariants as book
use Rattle.neph_model.specs.declared.book.Move.TheVariants.{Does, TakesSpare}
use Rattle.neph_model.specs.declared.book.Spends.TheVariants.{Nothing, Copy}
use Rattle.neph_model.specs.declared.told.Told.{Told}
use Rattle.neph_model.specs.declared.told.Told.TheVariants.{Enough, Short, Free}
use Rattle.neph_model.specs.Machine.{program_of}
use Rattle.neph_model.specs.Own.{LocalResult, page_of, mapping_at, with_bytes, w_step, settle, local_step}
use Rattle.neph_model.specs.Trap.{is_exposed}
use Rattle.neph_model.specs.Step.{is_paused}
use Rattle.neph_model.specs.Books.{State, free, is_shared}
use Rattle.neph_model.specs.Turns.{page_to_copy, copy_move, copying_move, next_move}
use Rattle.neph_runs.specs.Orderly.{Seat as Part, seat as part_at}
use Rattle.neph_pool.specs.World.{World}
use Rattle.neph_memory.specs.declared.dom_local.DomLocal.{DomLocal}
use Rattle.neph_memory.specs.Pages.{frame_at}
use Rattle.neph_memory.specs.Memory.{bytes_for}
use Rattle.neph_memory.specs.Domains.{IsSharedPage}
use Rattle.neph_memory.proofs.Places.{frame_small}
use Rattle.neph_guest.specs.declared.live.Live.{Live}
use Rattle.neph_guest.specs.declared.live.Stage.TheVariants as guest
use Rattle.neph_guest.specs.Turns.{IsLineInHand, IsWriteInHand}
use Rattle.neph_heap.specs.Pages.{pages_in}
use Rattle.neph_accounts.specs.Heaps.{row_frames}
use Rattle.neph_machine.specs.declared.place.Place.TheVariants.{Domain}
use Rattle.neph_machine.specs.declared.machine.Machine.{Machine}
use Rattle.neph_machine.specs.Places.{place_at}
use Rattle.neph_machine.specs.Surveyed.{IsSurveyed}
use Rattle.neph_machine.specs.StandsFor.{command_of, IsAtStage, StandsFor}
use Rattle.neph_machine.specs.Stages.{IsRunnable}
use Rattle.neph_lines.proofs.Lines.{NeedsFrame, bare_move}
use Rattle.neph_machine.proofs.Reached.{IsReached, live_sound}
use Rattle.neph_machine.proofs.FrameLaws.{shared_is}
use Rattle.neph_lines.proofs.LineTurns.{to_copy, w_short, copying_is}
use Rattle.neph_lines.proofs.Sparing.{was, within}

-- the row with another frame under one page
pub row_set : (xs : List (Option ℕ)) (p f : ℕ) (away : ℕ → ℕ) (from : ℕ) → row_frames (set xs p (Some f)) away from ≡ set (row_frames xs away from) p f
row_set [] p f away from = refl
row_set (None ∷ xs) zero f away from = refl
row_set (Some g ∷ xs) zero f away from = refl
row_set (None ∷ xs) (suc p) f away from = ap (λ (row : List ℕ). away from ∷ row) (row_set xs p f away (suc from))
row_set (Some g ∷ xs) (suc p) f away from = ap (λ (row : List ℕ). g ∷ row) (row_set xs p f away (suc from))

pub some_of : {A : Type 0} (o : Option A) → IsSome o → (x : A) × (o ≡ Some x)
some_of None h = absurd (cc)
some_of (Some x) h = (x, refl)

-- what is told is so
pub told_both : {A : Type 0} (o : Option A) (P Q : A → Type 0) (R : Type 0) → IsSome o → IfSome o P → IfSome o Q → ((a : A) → P a → Q a → R) → R
told_both None P Q R h p q k = absurd (cc)
told_both (Some a) P Q R h p q k = k a p q

-- a write with a frame to write to
pub w_enough : (o : Own) (at : ℕ) (bytes : List ℕ) (to : Option Mapping) (pfn : ℕ) (page : List ℕ) → to ≡ Some (record { pfn = pfn; mode = Rw }) → page_of o pfn ≡ Some page → w_step o Enough at bytes to ≡ Some (Ok (with_bytes o pfn page at bytes, reply.Done))
w_enough o at bytes to pfn page e some = subst (λ (m : Option Mapping). w_step o Enough at bytes m ≡ Some (Ok (with_bytes o pfn page at bytes, reply.Done))) (sym e) (ap (λ (x : Option (List ℕ)). by x Rw Enough) some) where
  by : Option (List ℕ) → Mode → Told → LocalResult
  by None mode t = None
  by (Some page) Ro t = Some (Err ReadOnly)
  by (Some page) Rw Short = None
  by (Some page) Rw Enough = Some (Ok (with_bytes o pfn page at bytes, reply.Done))
  by (Some page) Rw (Free f) = Some (Ok (with_bytes o pfn page at bytes, reply.Done))

pub same_reply : {A B : Type 0} (x y : A × B) → Some x ≡ Some y → x.1 ≡ y.1
same_reply {A} {B} x y e = ap (λ (o : Option (A × B)). (unwrap_or o y).1) e

not_true : (b : Bool) → not b ≡ true → b ≡ false
not_true true e = absurd (cc)
not_true false e = refl

-- a write in hand is that of the line
pub in_hand : {Pool Seat : Type 0} (W : World Pool Seat) (p : Pool) (d : DomLocal Pool Seat) (c : Command) → IsLineInHand W p d c → (addr : ℕ) × (bytes : List ℕ) × (c ≡ command.W addr bytes) × IsWriteInHand W p d addr bytes
in_hand W p d (command.W addr bytes) h = (addr, bytes, refl, h)
in_hand W p d _ h = absurd h

module _ {Pool Seat : Type 0} (W : World Pool Seat) (old : Machine Pool Seat) (st : State) (reached : IsReached old.script st) (stands : StandsFor W old st) (id : ℕ) (l : Live Pool Seat) (here : place_at id old.places.items ≡ Domain l) where
  abbrev part : Part
  part = part_at st id

  abbrev its : Command
  its = command_of old.script (part_at st id)

  -- a domain that is copying is so by the definitions
  pub copying_stage : l.guest.stage ≡ guest.Copying → (part.book.stage ≡ book.Copying) × IsLineInHand W old.pool l.local its
  copying_stage e = let is = was W old st reached stands id l here in by part.book.stage refl is.stage where
    by : (at : Stage) → part.book.stage ≡ at → IsAtStage W old id l part at → (part.book.stage ≡ book.Copying) × IsLineInHand W old.pool l.local its
    by book.Ready s h = absurd (let z = sym e ∙ h.0 in cc)
    by book.Copying s h = (s, h.1)
    by (book.Forking left) s h = absurd (let z = sym e ∙ h.0 in cc)

  pub not_paused : IsRunnable old id → is_paused id st.machine.shared ≡ false
  not_paused runs = ap (is_paused id) stands.shared ∙ runs (pages_in (W.entries old.pool old.hv.heap.seat) old.hv.heap.stock.exposed)

  -- an address that maps writable to a page of the domain's own
  module _ (addr pfn : ℕ) (bytes : List ℕ) (mapped : mapping_at part.own addr ≡ Some (record { pfn = pfn; mode = Rw })) (own : IsSome (frame_at l.local.own.map.pages pfn)) (c_is : its ≡ command.W addr bytes) where
    page_is : (page : List ℕ) × (page_of part.own pfn ≡ Some page)
    page_is = let f = some_of (frame_at l.local.own.map.pages pfn) own in let is = was W old st reached stands id l here in (_, is.own.own.memory.page pfn ∙ ap (bytes_for (W.entries old.pool l.local.seat)) f.1)

    page_some : is_some (page_of part.own pfn) ≡ true
    page_some = ap is_some page_is.1

    pub copies : page_to_copy st.books part.own part.book (mapping_at part.own addr) ≡ cond (is_shared (slice_index_or part.book.colours pfn 0) st.books) (Some pfn) None
    copies = to_copy st.books part.own part.book (mapping_at part.own addr) pfn mapped page_some

    -- a write that is done is answered so
    pub done_is : (new : Own) (r : Reply) → local_step old.script (program_of part.life) part.own Enough its ≡ Some (new, r) → reply.Done ≡ r
    done_is new r e =
        let step = ap (local_step old.script (program_of part.life) part.own Enough) c_is ∙ ap (option_map (settle part.own)) (w_enough part.own (addr % 4096) bytes (mapping_at part.own addr) pfn page_is.0 mapped page_is.1) in
        (let did : Own × Reply = (new, r) in same_reply _ did (sym step ∙ e))

    -- short of a frame it is refused
    pub needs_frame : NeedsFrame old.script st id
    needs_frame = record {
      short = ap (local_step old.script (program_of part.life) part.own Short) c_is ∙ ap (option_map (settle part.own)) (w_short part.own (addr % 4096) bytes (mapping_at part.own addr) pfn mapped);
      refused = rw c_is (rw mapped (rw hidden refl));
      later = λ e. let z = sym c_is ∙ e in cc;
    } where
      hidden : is_exposed st.machine.shared.pages id pfn ≡ false
      hidden =
          let is = was W old st reached stands id l here in
          let h = (live_sound old.script st reached id is.live).halves in
          let f = some_of (frame_at l.local.own.map.pages pfn) own in
          let few = frame_small l.local.own.map.pages pfn f.0 f.1 in
          let long = is.own.own.memory.count in
          not_true _ (sym (h.apart pfn (omega (arith, few, long))) ∙ page_some)

    module _ (survey : IsSurveyed W) (quiet : part.guest.begun ≡ []) where
      pub shared_false : IfSome (W.told old.pool) (λ counts. IfSome (frame_at l.local.own.map.pages pfn) (λ f. slice_index counts f ≡ 1)) → is_shared (slice_index_or part.book.colours pfn 0) st.books ≡ false
      shared_false one = let f = some_of (frame_at l.local.own.map.pages pfn) own in told_both (W.told old.pool) _ _ _ (survey.told old.pool) one (shared_is W old st survey reached stands id l (within W old st reached stands id l here) here quiet pfn f.0 f.1)
          (λ counts a b. sym b ∙ ap (nat_lt 1) (subst (λ o. IfSome o (λ f. slice_index counts f ≡ 1)) f.1 a))

      pub shared_true : IsSharedPage W old.pool l.local pfn → is_shared (slice_index_or part.book.colours pfn 0) st.books ≡ true
      shared_true two = let f = some_of (frame_at l.local.own.map.pages pfn) own in told_both (W.told old.pool) _ _ _ (survey.told old.pool) two.count (shared_is W old st survey reached stands id l (within W old st reached stands id l here) here quiet pfn f.0 f.1)
          (λ counts a b. let least : 2 ≤ slice_index counts f.0 = subst (λ o. IfSome o (λ f. 2 ≤ slice_index counts f)) f.1 a in sym b ∙ lt-ltb 1 (slice_index counts f.0) (omega (arith, least)))

    -- the move of the write in hand
    module _ (at : part.book.stage ≡ book.Copying) (runs : IsRunnable old id) where
      move_by : (b : Bool) → is_shared (slice_index_or part.book.colours pfn 0) st.books ≡ b → next_move old.script st id ≡ copy_move (free old.script st) part.book (cond b (Some pfn) None)
      move_by b e = copying_is old.script st id at (not_paused runs) ∙ ap (copying_move (free old.script st) st.books part.own part.book) c_is ∙ ap (copy_move (free old.script st) part.book) (copies ∙ ap (λ v. cond v (Some pfn) None) e)

      pub move_alone : is_shared (slice_index_or part.book.colours pfn 0) st.books ≡ false → next_move old.script st id ≡ Does Enough Nothing
      move_alone e = move_by false e

      pub move_copies : is_shared (slice_index_or part.book.colours pfn 0) st.books ≡ true → part.book.spare ≡ true → next_move old.script st id ≡ Does Enough (Copy pfn)
      move_copies e full = move_by true e ∙ ap (λ v. cond v (Does Enough (Copy pfn)) (cond (free old.script st == 0) (Does Short Nothing) TakesSpare)) full

      pub move_bare : is_shared (slice_index_or part.book.colours pfn 0) st.books ≡ true → part.book.spare ≡ false → next_move old.script st id ≡ bare_move (free old.script st)
      move_bare e bare = move_by true e ∙ ap (λ v. cond v (Does Enough (Copy pfn)) (cond (free old.script st == 0) (Does Short Nothing) TakesSpare)) bare
