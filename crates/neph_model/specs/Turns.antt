-- The turns of the actors.
use Rattle.std.specs.Prelude.{ℕ, zero, suc, Bool, true, false, if◌then◌else◌, ◌||◌, ◌&&◌, ◌==◌, ◌+◌, List, [], ◌∷◌, ◌++◌, map, Option, None, Some, is_some, slice_index_or}
use Rattle.std.specs.List.{range_with_len}
use Rattle.neph_base.specs.declared.command.Command.{Command}
use Rattle.neph_base.specs.declared.command.Command.TheVariants as command
use Rattle.neph_base.specs.declared.command.Mode.{Mode}
use Rattle.neph_base.specs.declared.command.Mode.TheVariants.{Ro, Rw}
use Rattle.neph_base.specs.declared.reply.Actor.{Actor}
use Rattle.neph_base.specs.declared.reply.Actor.TheVariants as actor
use Rattle.neph_base.specs.declared.reply.Entry.{Entry}
use Rattle.neph_base.specs.declared.reply.Entry.TheVariants as entry
use Rattle.neph_base.specs.declared.reply.Noted.{Noted}
use Rattle.neph_base.specs.declared.reply.Reply.{Reply}
use Rattle.neph_base.specs.declared.reply.Reply.TheVariants as reply
use Rattle.neph_model.specs.declared.script.Script.{Script}
use Rattle.neph_model.specs.declared.memory.Mapping.{Mapping}
use Rattle.neph_model.specs.declared.book.Book.{Book}
use Rattle.neph_model.specs.declared.book.Stage.{Stage}
use Rattle.neph_model.specs.declared.book.Stage.TheVariants.{Ready, Copying, Forking}
use Rattle.neph_model.specs.declared.book.Move.{Move}
use Rattle.neph_model.specs.declared.book.Move.TheVariants.{Rests, StepsPage, Commits, Copies, TakesSpare, Does}
use Rattle.neph_model.specs.declared.book.Spends.{Spends}
use Rattle.neph_model.specs.declared.book.Spends.TheVariants.{Nothing, Leaf, Copy}
use Rattle.neph_model.specs.declared.told.Told.{Told}
use Rattle.neph_model.specs.declared.told.Told.TheVariants.{Enough, Short}
use Rattle.neph_model.specs.Programs.{command_at}
use Rattle.neph_model.specs.Machine.{Own, Machine, own_at, is_live, is_over, program_run}
use Rattle.neph_model.specs.Own.{page_of, mapping_at, is_bad_pfn, has_leaf}
use Rattle.neph_model.specs.Trap.{is_blocked}
use Rattle.neph_model.specs.Step.{Outcome, step, is_paused, is_due}
use Rattle.neph_model.specs.Books.{Books, State, free, is_shared, no_book, book_at, put_book, book_spent, fresh_spent, shared_count, books_born}

-- what some turns did: the state after them, whether one did anything, the entries that they made,
-- and how many page steps
pub record Done : Type 0 where
  pub state : State
  pub moved : Bool
  pub noted : List Noted
  pub steps : ℕ

abbrev pub nothing : State → Done
nothing st = record { state = st; moved = false; noted = []; steps = 0 }

-- a turn that makes no entry, leaves these books and makes so many page steps
abbrev pub quietly : State → Books → ℕ → Done
quietly st books steps = record {
  state = record st { books = books };
  moved = true;
  noted = [];
  steps = steps;
}

-- a turn that makes an entry with this outcome and leaves these books
abbrev pub noting : Entry → Outcome → Books → Done
noting e did books =
    record {
      state = record { machine = did.machine; books = books };
      moved = true;
      noted = record { entry = e; reply = did.reply } ∷ [];
      steps = 0;
    }

-- The page that a write to what its address maps to must copy: one of the domain's own that may be
-- written there, of a colour that another page has too.
abbrev pub page_to_copy : Books → Own → Book → Option Mapping → Option ℕ
page_to_copy bs o b None = None
page_to_copy bs o b (Some to) = by to.mode where
  by : Mode → Option ℕ
  by Ro = None
  by Rw = if is_some (page_of o to.pfn) && is_shared (slice_index_or b.colours to.pfn 0) bs
      then Some to.pfn else None

-- A line that needs a frame: it is done with the spare. Without one a spare is taken, or the line
-- is told that no frame is left.
abbrev pub with_frame : ℕ → Book → Spends → Move
with_frame free b spends = if b.spare then Does Enough spends
    else (if free == 0 then Does Short Nothing else TakesSpare)

-- a write that was found to need a copy of this page, if it still needs it
abbrev pub copy_move : ℕ → Book → Option ℕ → Move
copy_move free b None = Does Enough Nothing
copy_move free b (Some pfn) = with_frame free b (Copy pfn)

-- a domain that is copying
abbrev pub copying_move : ℕ → Books → Own → Book → Command → Move
copying_move free bs o b (command.W addr bytes) =
    copy_move free b (page_to_copy bs o b (mapping_at o addr))
copying_move free bs o b _ = Does Enough Nothing

-- a domain that is ready for this command
abbrev pub ready_move : ℕ → Books → Own → Book → Command → Move
ready_move free bs o b (command.W addr bytes) = if is_some (page_to_copy bs o b (mapping_at o addr))
    then Copies else Does Enough Nothing
ready_move free bs o b (command.Map vpn pfn mode) = if is_bad_pfn o pfn mode || has_leaf o vpn
    then Does Enough Nothing else with_frame free b Leaf
ready_move free bs o b command.Free = Does (Told.Free free) Nothing
ready_move free bs o b command.Clone = Does (Told.Free free) Nothing
ready_move free bs o b _ = Does Enough Nothing

-- What a domain with this command at its line does in its turn, the first of these: a page step
-- that is left, the commit behind the last one, nothing while it is paused, a copy, nothing while
-- its command is blocked, and its command.
abbrev pub stage_move : ℕ → Books → Bool → Bool → Own → Book → Command → Stage → Move
stage_move free bs paused blocked o b c (Forking (suc left)) = StepsPage
stage_move free bs paused blocked o b c (Forking zero) = Commits
stage_move free bs paused blocked o b c Copying =
    if paused then Rests else copying_move free bs o b c
stage_move free bs paused blocked o b c Ready =
    if paused || blocked then Rests else ready_move free bs o b c

-- the command at the line of the domain of an id
abbrev pub next_command : Script → Machine → ℕ → Command
next_command s m id = command_at s (program_run id m.shared.lives) (own_at id m.own).line

-- what the live domain of an id does in its turn
abbrev pub next_move : Script → State → ℕ → Move
next_move s st id =
    let m = st.machine in
    let c = next_command s m id in
    let b = book_at id st.books in
    stage_move (free s st) st.books (is_paused id m.shared) (is_blocked m.shared id c)
    (own_at id m.own) b c b.stage

-- the stage behind a page step
abbrev pub stage_stepped : Stage → Stage
stage_stepped (Forking (suc left)) = Forking left
stage_stepped stage = stage

-- the stage of a domain behind a line with this reply: the page steps of a clone that it begins are
-- left
abbrev pub stage_after : Own → Reply → Stage
stage_after o (reply.Begun child) = Forking (shared_count o)
stage_after o _ = Ready

-- the book of a domain with this own half behind a line with this reply
abbrev pub book_after : Own → Reply → Book → Book
book_after o reply.Ended b = no_book
book_after o answer b = record b { stage = stage_after o answer }

-- the books behind a line with this reply, after the domain's spare became this
abbrev pub books_after : ℕ → Own → Spends → Reply → Books → Books
books_after id o spends answer bs =
    record (put_book id (book_after o answer (book_spent spends bs.fresh (book_at id bs))) bs)
    { fresh = fresh_spent spends bs.fresh }

-- the line of the domain of an id, told this of the free frames, and what becomes of its spare
abbrev pub line_turn : Script → State → ℕ → Told → Spends → Done
line_turn s st id told spends =
    let o = own_at id st.machine.own in
    let e = entry.Line id o.line in
    let did = step s st.machine e told in
    noting e did (books_after id o spends did.reply st.books)

-- the books behind a commit that was answered so
abbrev pub books_committed : ℕ → Own → Reply → Books → Books
books_committed id o (reply.Child child) bs =
    let b = book_at id bs in put_book id (record b { stage = Ready }) (books_born child o b bs)
books_committed id o _ bs = bs

-- the commit of a domain
abbrev pub commit_turn : Script → State → ℕ → Done
commit_turn s st id =
    let o = own_at id st.machine.own in
    let e = entry.Commit id o.line in
    let did = step s st.machine e Enough in
    noting e did (books_committed id o did.reply st.books)

-- a move of the domain of an id
abbrev pub move_turn : Script → State → ℕ → Move → Done
move_turn s st id Rests = nothing st
move_turn s st id StepsPage = let b = book_at id st.books in
    quietly st (put_book id (record b { stage = stage_stepped b.stage }) st.books) 1
move_turn s st id Commits = commit_turn s st id
move_turn s st id Copies = quietly st
    (put_book id (record (book_at id st.books) { stage = Copying }) st.books) 0
move_turn s st id TakesSpare =
    quietly st (put_book id (record (book_at id st.books) { spare = true }) st.books) 0
move_turn s st id (Does told spends) = line_turn s st id told spends

-- a turn of a domain, which does nothing where it isn't live
abbrev pub domain_turn : Script → State → ℕ → Done
domain_turn s st id = if is_live id st.machine.shared.lives
    then move_turn s st id (next_move s st id) else nothing st

-- a turn of the daemon or of a backend: its entry, where there is work for it
abbrev pub entry_turn : Script → State → Entry → Done
entry_turn s st e = if is_due s st.machine e then noting e (step s st.machine e Enough) st.books
    else nothing st

-- A turn of an actor. The backends have no work yet.
abbrev pub turn : Script → State → Actor → Done
turn s st (actor.Dom id) = domain_turn s st id
turn s st actor.Daemon = entry_turn s st entry.Daemon
turn s st actor.Console = nothing st
turn s st actor.Net = nothing st
turn s st actor.P9 = nothing st

-- some turns, and then others
abbrev pub before : Done → Done → Done
before a b = record {
  state = b.state;
  moved = a.moved || b.moved;
  noted = a.noted ++ b.noted;
  steps = a.steps + b.steps;
}

-- the turns of these actors in order, until no domain is live
abbrev pub turns : Script → State → List Actor → Done
turns s st [] = nothing st
turns s st (a ∷ rest) = if is_over st.machine then nothing st
    else (let one = turn s st a in before one (turns s one.state rest))

-- the actors of a round: the ids 1 to 63 by rising number, then the daemon and the backends
unfoldable pub round : List Actor
round = map actor.Dom (range_with_len 1 63)
    ++ (actor.Daemon ∷ actor.Console ∷ actor.Net ∷ actor.P9 ∷ [])
