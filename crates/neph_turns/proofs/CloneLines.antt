-- The turn of a domain at a clone, by the definitions.
use Rattle.std.proofs.Common.{◌≡◌, ℕ, ◌<◌, ◌⊎◌, inl, inr, true, false, length, set, Option, Some, None, sym, ap, subst, ◌∙◌}
use Rattle.neph_base.specs.declared.command.Command.TheVariants.{Clone}
use Rattle.neph_base.specs.declared.reply.Actor.TheVariants as actor
use Rattle.neph_base.specs.declared.reply.Entry.TheVariants.{Line}
use Rattle.neph_base.specs.declared.reply.Reply.{Reply}
use Rattle.neph_base.specs.declared.reply.Reply.TheVariants.{Begun, Refused, Ended}
use Rattle.neph_base.specs.declared.reply.Refusal.{Refusal}
use Rattle.neph_model.specs.declared.script.Script.{Script}
use Rattle.neph_model.specs.declared.book.Stage.TheVariants.{Ready}
use Rattle.neph_model.specs.declared.book.Move.TheVariants.{Does}
use Rattle.neph_model.specs.declared.book.Spends.TheVariants.{Nothing}
use Rattle.neph_model.specs.declared.told.Told.{Told}
use Rattle.neph_model.specs.declared.told.Told.TheVariants.{Free}
use Rattle.neph_model.specs.WellFormed.{IsWellFormed}
use Rattle.neph_model.specs.Machine.{Shared, own_at, life_at, guest_at, exposed_at, is_live}
use Rattle.neph_model.specs.Lent.{Lent, nothing_lent, own_behind}
use Rattle.neph_model.specs.Trap.{need, clone_call, clone_refusal}
use Rattle.neph_model.specs.Step.{Outcome, Locked, locked, call_effect, shared_line, step, is_paused}
use Rattle.neph_model.specs.Books.{State, free, book_at}
use Rattle.neph_model.specs.Turns.{Done, noting, ready_move, next_command, next_move, turn, books_after}
use Rattle.neph_runs.proofs.Lines.{Ends, Begins, Kind, does, size_run, line_kind}
use Rattle.neph_lines.proofs.Exits.{ready_is, move_is}

-- a clone that is refused leaves the shared half as it was
pub refused_same : (sh left : Shared) (id : ℕ) (l : Lent) (told : Told) (why : Refusal)
    → shared_line sh id l told Clone ≡ locked left (Refused why) → left ≡ sh
refused_same sh left id l told why e = by (clone_refusal sh.tables (guest_at id sh.tables) (life_at id sh.lives) (need (exposed_at id sh.pages) l.leaves) told) e where
  by : (o : Option Refusal) → call_effect sh (clone_call sh id (guest_at id sh.tables) o) ≡ locked left (Refused why) → left ≡ sh
  by (Some w) h = sym (ap (λ (d : Locked). d.shared) h)
  by None h = absurd (begun_refused (ap (λ (d : Locked). d.reply) h)) where
    begun_refused : Begun sh.tables.next ≡ Refused why → ⊥
    begun_refused k = cc

module _ (s : Script) (st : State) (id : ℕ) where
  -- what the clone comes to where it is answered so, and leaves this shared half
  abbrev pub outcome : Shared → Reply → Outcome
  outcome sh r = record {
    machine = record { own = set st.machine.own id (own_behind (own_at id st.machine.own) Clone r None); shared = sh };
    reply = r;
  }

  abbrev pub answered : Shared → Reply → Done
  answered sh r = noting (Line id (own_at id st.machine.own).line) (outcome sh r) (books_after id (own_at id st.machine.own) Nothing r st.books)

  abbrev done_by : Outcome → Done
  done_by did = noting (Line id (own_at id st.machine.own).line) did (books_after id (own_at id st.machine.own) Nothing did.reply st.books)

  abbrev locked_by : Locked → Outcome
  locked_by d = record {
    machine = record { own = set st.machine.own id (own_behind (own_at id st.machine.own) Clone d.reply d.back); shared = d.shared };
    reply = d.reply;
  }

  -- the row of the clone in this state, told how many frames are free
  abbrev pub IsRow : Shared → Reply → Type 0
  IsRow sh r = shared_line st.machine.shared id (record nothing_lent { leaves = length (own_at id st.machine.own).leaves }) (Free (free s st)) Clone ≡ locked sh r

  outcome_is : (sh : Shared) (r : Reply) → next_command s st.machine id ≡ Clone → IsRow sh r → step s st.machine (Line id (own_at id st.machine.own).line) (Free (free s st)) ≡ outcome sh r
  outcome_is sh r e row = ap (does st.machine id (Free (free s st)) s) e ∙ ap locked_by row

  -- the turn of a domain at a clone
  pub clone_is : is_live id st.machine.shared.lives ≡ true → (book_at id st.books).stage ≡ Ready → is_paused id st.machine.shared ≡ false → next_command s st.machine id ≡ Clone → (sh : Shared) (r : Reply) → IsRow sh r → turn s st (actor.Dom id) ≡ answered sh r
  clone_is live ready runs e sh r row =
      let n = free s st in
      let asks : next_move s st id ≡ Does (Free n) Nothing = ready_is s st id ready runs ∙ ap (ready_move n st.books (own_at id st.machine.own) (book_at id st.books)) e in
      move_is s st id live (Does (Free n) Nothing) asks ∙ ap done_by (outcome_is sh r e row)

  begins_by : (sh : Shared) (child : ℕ) → Kind st.machine id (Free (free s st)) (outcome sh (Begun child)) → Begins st.machine id (Free (free s st)) (outcome sh (Begun child))
  begins_by sh child (inl g) = absurd g.on
  begins_by sh child (inr (inl h)) = absurd (begun_ended h.reply) where
    begun_ended : Begun child ≡ Ended → ⊥
    begun_ended k = cc
  begins_by sh child (inr (inr b)) = b

  line_begins : (sh : Shared) (child : ℕ) (n : ℕ) → Ends st.machine id (outcome sh (Begun child)) ⊎ ((own_at id st.machine.own).line < n × Kind st.machine id (Free (free s st)) (outcome sh (Begun child))) → Begins st.machine id (Free (free s st)) (outcome sh (Begun child))
  line_begins sh child n (inl h) = begins_by sh child (inr (inl h))
  line_begins sh child n (inr k) = begins_by sh child k.1

  -- a clone that is answered as begun has begun
  pub clone_begins : IsWellFormed s → next_command s st.machine id ≡ Clone → (sh : Shared) (child : ℕ) → IsRow sh (Begun child) → Begins st.machine id (Free (free s st)) (outcome sh (Begun child))
  clone_begins well e sh child row =
      line_begins sh child (size_run s id st.machine.shared.lives) (subst (λ (out : Outcome). Ends st.machine id out ⊎ (((own_at id st.machine.own).line < size_run s id st.machine.shared.lives) × Kind st.machine id (Free (free s st)) out)) (outcome_is sh (Begun child) e row) (line_kind s well st.machine id (Free (free s st))))
