-- The turn of a domain that commits its clone, by the definitions.
use Rattle.std.proofs.Common.{◌≡◌, ℕ, Bool, true, cond, List, [], ◌∷◌, set, ap, ◌∙◌}
use Rattle.std.specs.Prelude.{is_some}
use Rattle.neph_base.specs.declared.reply.Actor.TheVariants.{Dom}
use Rattle.neph_base.specs.declared.reply.Entry.TheVariants.{Commit}
use Rattle.neph_base.specs.declared.reply.Reply.TheVariants.{Child}
use Rattle.neph_model.specs.declared.script.Script.{Script}
use Rattle.neph_model.specs.declared.book.Stage.{Stage}
use Rattle.neph_model.specs.declared.book.Stage.TheVariants as book
use Rattle.neph_model.specs.Births.{parent_own}
use Rattle.neph_model.specs.Step.{Outcome, shared_commit, child_made, bear, is_paused}
use Rattle.neph_model.specs.Trap.{is_blocked}
use Rattle.neph_model.specs.Books.{State, free}
use Rattle.neph_model.specs.Turns.{Done, noting, nothing, books_committed, next_command, stage_move, move_turn, commit_turn, turn}
use Rattle.neph_runs.specs.Orderly.{Seat as Part, seat as part_at}
use Rattle.neph_runs.proofs.Births.{born}

module _ (s : Script) (st : State) (id : ℕ) where
  abbrev part : Part
  part = part_at st id

  -- its turn, where it is live or not and so far with its line
  abbrev turn_at : Bool → Stage → Done
  turn_at live stage =
      let m = st.machine in
      let c = next_command s m id in
      cond live (move_turn s st id
      (stage_move (free s st) st.books (is_paused id m.shared) (is_blocked m.shared id c)
      part.own part.book c stage)) (nothing st)

  -- where no page step is left the clone is committed
  turn_commits : is_some part.life ≡ true → part.book.stage ≡ book.Forking 0 → turn s st (Dom id)
      ≡ commit_turn s st id
  turn_commits live e = ap (λ (b : Bool). turn_at b part.book.stage) live ∙ ap (turn_at true) e

  -- the commit of the first of these children
  abbrev commits : List ℕ → Done
  commits begun =
      let m = st.machine in
      let did = shared_commit m.shared id begun in
      let out : Outcome = record {
        machine = record {
          own = set (bear m.own id part.own (child_made (Commit id part.own.line) did.reply)) id
              (parent_own part.own);
          shared = did.shared;
        };
        reply = did.reply;
      } in
      noting (Commit id part.own.line) out (books_committed id part.own did.reply st.books)

  -- what the commit of this child did
  abbrev pub committed : ℕ → Done
  committed child = record {
    state = born s st id child;
    moved = true;
    noted = record { entry = Commit id part.own.line; reply = Child child } ∷ [];
    steps = 0;
  }

  pub turn_committed : (child : ℕ) → is_some part.life ≡ true → part.book.stage ≡ book.Forking 0
      → part.guest.begun ≡ child ∷ [] → turn s st (Dom id) ≡ committed child
  turn_committed child live e begun = turn_commits live e ∙ ap commits begun
