-- What the definitions do in the turn of a domain that isn't paused.
use Rattle.std.proofs.Common.{◌≡◌, ℕ, ◌<◌, Bool, true, false, cond, List, Option, Some, None, Ok, Err, refl, sym, ap, subst, ◌∙◌, arith}
use Rattle.std.specs.Prelude.{is_some, ◌||◌, ◌&&◌, slice_index_or}
use Rattle.std.proofs.lemmas.List.{length-set, get_or-set_same, get_or-set_other}
use Rattle.neph_base.specs.declared.command.Mode.{Mode}
use Rattle.neph_base.specs.declared.command.Mode.TheVariants.{Ro, Rw}
use Rattle.neph_base.specs.declared.reply.Actor.TheVariants as actor
use Rattle.neph_base.specs.declared.reply.Entry.TheVariants as entry
use Rattle.neph_base.specs.declared.reply.Reply.{Reply}
use Rattle.neph_base.specs.declared.reply.Reply.TheVariants as reply
use Rattle.neph_base.specs.declared.reply.Refusal.TheVariants.{ReadOnly}
use Rattle.neph_model.specs.declared.own.Own.{Own}
use Rattle.neph_model.specs.declared.script.Script.{Script}
use Rattle.neph_model.specs.declared.memory.Mapping.{Mapping}
use Rattle.neph_model.specs.declared.book.Book.{Book}
use Rattle.neph_model.specs.declared.book.Stage.TheVariants as book
use Rattle.neph_model.specs.declared.book.Move.TheVariants.{Rests}
use Rattle.neph_model.specs.declared.book.Spends.{Spends}
use Rattle.neph_model.specs.declared.told.Told.{Told}
use Rattle.neph_model.specs.declared.told.Told.TheVariants.{Enough, Short, Free}
use Rattle.neph_model.specs.Machine.{no_own, put_own, program_of}
use Rattle.neph_model.specs.Own.{LocalResult, page_of, with_bytes, w_step, local_step}
use Rattle.neph_model.specs.Trap.{is_blocked}
use Rattle.neph_model.specs.Step.{is_paused, step_by}
use Rattle.neph_model.specs.Books.{Books, State, free, is_shared, no_book, put_book}
use Rattle.neph_model.specs.Turns.{nothing, noting, page_to_copy, copying_move, ready_move, stage_move, next_move, books_after, line_turn, move_turn, turn}
use Rattle.neph_runs.specs.Orderly.{Seat as Part, seat as part_at, HasPlaces}
use Rattle.neph_runs.proofs.Seats.{OneChanged, same_seat}
use Rattle.neph_machine.specs.StandsFor.{command_of}

-- another own half and book of one id
pub put_turns : (st : State) (id : ℕ) → HasPlaces st → id < 64 → (o : Own) (b : Book) (fresh : ℕ) → OneChanged st (record { machine = put_own id o st.machine; books = record (put_book id b st.books) { fresh = fresh } }) id (record (part_at st id) { own = o; book = b })
put_turns st id places within o b fresh = record {
  places = record {
    own = length-set st.machine.own id o ∙ places.own;
    lives = places.lives;
    guests = places.guests;
    exposed = places.exposed;
    books = length-set st.books.list id b ∙ places.books;
  };
  others = λ j far. same_seat _ _ (get_or-set_other st.machine.own id j o no_own far) refl refl refl (get_or-set_other st.books.list id j b no_book far);
  here = same_seat _ _ (get_or-set_same st.machine.own id o no_own (omega (arith, places.own))) refl refl refl (get_or-set_same st.books.list id b no_book (omega (arith, places.books)));
}

-- the page that a write to this mapping must copy is the one that it maps to, where that is shared
pub to_copy : (bs : Books) (o : Own) (b : Book) (to : Option Mapping) (pfn : ℕ) → to ≡ Some (record { pfn = pfn; mode = Rw }) → is_some (page_of o pfn) ≡ true → page_to_copy bs o b to ≡ cond (is_shared (slice_index_or b.colours pfn 0) bs) (Some pfn) None
to_copy bs o b to pfn e some = ap (page_to_copy bs o b) e ∙ ap (λ (v : Bool). cond (v && is_shared (slice_index_or b.colours pfn 0) bs) (Some pfn) None) some

-- a write that is short of a frame is no step of its own
pub w_short : (o : Own) (at : ℕ) (bytes : List ℕ) (to : Option Mapping) (pfn : ℕ) → to ≡ Some (record { pfn = pfn; mode = Rw }) → w_step o Short at bytes to ≡ None
w_short o at bytes to pfn e = subst (λ (m : Option Mapping). w_step o Short at bytes m ≡ None) (sym e) (go (page_of o pfn)) where
  by : Option (List ℕ) → Mode → Told → LocalResult
  by None mode t = None
  by (Some page) Ro t = Some (Err ReadOnly)
  by (Some page) Rw Short = None
  by (Some page) Rw Enough = Some (Ok (with_bytes o pfn page at bytes, reply.Done))
  by (Some page) Rw (Free f) = Some (Ok (with_bytes o pfn page at bytes, reply.Done))

  go : (page : Option (List ℕ)) → by page Rw Short ≡ None
  go None = refl
  go (Some page) = refl

module _ (s : Script) (st : State) (id : ℕ) where
  abbrev part : Part
  part = part_at st id

  -- the turn of a live domain is its move
  pub turn_live : is_some part.life ≡ true → turn s st (actor.Dom id) ≡ move_turn s st id (next_move s st id)
  turn_live live = ap (λ (b : Bool). cond b (move_turn s st id (next_move s st id)) (nothing st)) live

  pub copying_is : part.book.stage ≡ book.Copying → is_paused id st.machine.shared ≡ false → next_move s st id ≡ copying_move (free s st) st.books part.own part.book (command_of s part)
  copying_is at runs =
      let m = copying_move (free s st) st.books part.own part.book (command_of s part) in
      ap (stage_move (free s st) st.books (is_paused id st.machine.shared) (is_blocked st.machine.shared id (command_of s part)) part.own part.book (command_of s part)) at ∙ ap (λ (b : Bool). cond b Rests m) runs

  pub ready_is : part.book.stage ≡ book.Ready → is_paused id st.machine.shared ≡ false → next_move s st id ≡ ready_move (free s st) st.books part.own part.book (command_of s part)
  ready_is at runs =
      let m = ready_move (free s st) st.books part.own part.book (command_of s part) in
      ap (stage_move (free s st) st.books (is_paused id st.machine.shared) (is_blocked st.machine.shared id (command_of s part)) part.own part.book (command_of s part)) at ∙ ap (λ (b : Bool). cond (b || false) Rests m) runs

  -- a line that its domain does by itself
  pub did_alone : (told : Told) (spends : Spends) (new : Own) (r : Reply) → local_step s (program_of part.life) part.own told (command_of s part) ≡ Some (new, r)
      → line_turn s st id told spends ≡ noting (entry.Line id part.own.line) (record { machine = put_own id new st.machine; reply = r }) (books_after id part.own spends r st.books)
  did_alone told spends new r e =
      let f = entry.Line id part.own.line in
      ap (λ (d : Option (Own × Reply)). noting f (step_by s st.machine f told d) (books_after id part.own spends (step_by s st.machine f told d).reply st.books)) e
