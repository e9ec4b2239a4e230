-- What a move says of the frames that are free, by the command at its line.
use Rattle.std.proofs.Common.{◌≡◌, ◌≢◌, ℕ, zero, suc, Bool, true, false, cond, ◌||◌, Option, Some, None, refl}
use Rattle.std.specs.Prelude.{⊤, ◌==◌}
use Rattle.std.specs.Option.{is_some}
use Rattle.std.proofs.lemmas.Bool.{eqb-true, eqb-false}
use Rattle.neph_base.specs.declared.command.Command.{Command}
use Rattle.neph_base.specs.declared.command.Command.TheVariants as command
use Rattle.neph_model.specs.declared.own.Own.{Own}
use Rattle.neph_model.specs.declared.book.Book.{Book}
use Rattle.neph_model.specs.declared.book.Stage.{Stage}
use Rattle.neph_model.specs.declared.book.Stage.TheVariants.{Ready, Copying, Forking}
use Rattle.neph_model.specs.declared.book.Move.{Move}
use Rattle.neph_model.specs.declared.book.Move.TheVariants.{Copies, TakesSpare, Does}
use Rattle.neph_model.specs.declared.book.Spends.{Spends}
use Rattle.neph_model.specs.declared.book.Spends.TheVariants.{Nothing, Leaf, Copy}
use Rattle.neph_model.specs.declared.told.Told.{Told}
use Rattle.neph_model.specs.declared.told.Told.TheVariants.{Enough, Short, Free}
use Rattle.neph_model.specs.Own.{mapping_at, is_bad_pfn, has_leaf}
use Rattle.neph_model.specs.Books.{Books}
use Rattle.neph_model.specs.Turns.{page_to_copy, with_frame, copy_move, copying_move, ready_move, stage_move}

abbrev pub is_write : Command → Bool
is_write (command.W addr bytes) = true
is_write _ = false

-- What a line is told where n frames are free, and what becomes of the spare. A write copies its page with the spare, or is told that none is left; a `map` that needs a leaf table likewise.
abbrev pub Says : ℕ → Books → Own → Book → Command → Told → Spends → Type 0
Says n bs o b (command.W addr bytes) Enough Nothing = page_to_copy bs o b (mapping_at o addr) ≡ None
Says n bs o b (command.W addr bytes) Enough (Copy pfn) = (page_to_copy bs o b (mapping_at o addr) ≡ Some pfn) × (b.spare ≡ true)
Says n bs o b (command.W addr bytes) Short Nothing = (n ≡ 0) × ((pfn : ℕ) × (page_to_copy bs o b (mapping_at o addr) ≡ Some pfn))
Says n bs o b (command.Map vpn pfn mode) Enough Nothing = is_bad_pfn o pfn mode || has_leaf o vpn ≡ true
Says n bs o b (command.Map vpn pfn mode) Enough Leaf = (is_bad_pfn o pfn mode || has_leaf o vpn ≡ false) × (b.spare ≡ true)
Says n bs o b (command.Map vpn pfn mode) Short Nothing = (n ≡ 0) × (is_bad_pfn o pfn mode || has_leaf o vpn ≡ false)
Says n bs o b command.Free (Free f) Nothing = f ≡ n
Says n bs o b command.Clone (Free f) Nothing = f ≡ n
Says n bs o b (command.R addr len) Enough Nothing = ⊤
Says n bs o b (command.Unmap vpn) Enough Nothing = ⊤
Says n bs o b (command.Jump label) Enough Nothing = ⊤
Says n bs o b (command.JChild label) Enough Nothing = ⊤
Says n bs o b (command.JFail label) Enough Nothing = ⊤
Says n bs o b command.Exit Enough Nothing = ⊤
Says n bs o b (command.Ungrant r) Enough Nothing = ⊤
Says n bs o b (command.Gmap granter r) Enough Nothing = ⊤
Says n bs o b (command.Gunmap h) Enough Nothing = ⊤
Says n bs o b (command.Hr h at len) Enough Nothing = ⊤
Says n bs o b (command.Hw h at bytes) Enough Nothing = ⊤
Says n bs o b _ _ _ = ⊥

-- what a move has its reason in
abbrev pub Reasons : ℕ → Books → Own → Book → Command → Bool → Bool → Move → Type 0
Reasons n bs o b c paused blocked (Does told spends) = (paused ≡ false) × (Says n bs o b c told spends)
Reasons n bs o b c paused blocked TakesSpare = (n ≢ 0) × (b.spare ≡ false)
Reasons n bs o b c paused blocked Copies = is_write c ≡ true
Reasons n bs o b c paused blocked _ = ⊤

module _ (n : ℕ) (bs : Books) (o : Own) (b : Book) (paused blocked : Bool) (runs : paused ≡ false) where
  write_frame : (addr pfn : ℕ) (bytes : _) → page_to_copy bs o b (mapping_at o addr) ≡ Some pfn → Reasons n bs o b (command.W addr bytes) paused blocked (with_frame n b (Copy pfn))
  write_frame addr pfn bytes e = spares b.spare refl where
    lacks : (v : Bool) → b.spare ≡ false → (n == 0) ≡ v → Reasons n bs o b (command.W addr bytes) paused blocked (cond v (Does Short Nothing) TakesSpare)
    lacks true bare z = (runs, (eqb-true n 0 z, (pfn, e)))
    lacks false bare z = (eqb-false n 0 z, bare)

    spares : (v : Bool) → b.spare ≡ v → Reasons n bs o b (command.W addr bytes) paused blocked (cond v (Does Enough (Copy pfn)) (cond (n == 0) (Does Short Nothing) TakesSpare))
    spares true full = (runs, (e, full))
    spares false bare = lacks (n == 0) bare refl

  map_frame : (vpn pfn : ℕ) (mode : _) → is_bad_pfn o pfn mode || has_leaf o vpn ≡ false → Reasons n bs o b (command.Map vpn pfn mode) paused blocked (with_frame n b Leaf)
  map_frame vpn pfn mode e = spares b.spare refl where
    lacks : (v : Bool) → b.spare ≡ false → (n == 0) ≡ v → Reasons n bs o b (command.Map vpn pfn mode) paused blocked (cond v (Does Short Nothing) TakesSpare)
    lacks true bare z = (runs, (eqb-true n 0 z, e))
    lacks false bare z = (eqb-false n 0 z, bare)

    spares : (v : Bool) → b.spare ≡ v → Reasons n bs o b (command.Map vpn pfn mode) paused blocked (cond v (Does Enough Leaf) (cond (n == 0) (Does Short Nothing) TakesSpare))
    spares true full = (runs, (e, full))
    spares false bare = lacks (n == 0) bare refl

  copying_reasons : (c : Command) → is_write c ≡ true → Reasons n bs o b c paused blocked (copying_move n bs o b c)
  copying_reasons (command.W addr bytes) w = by (page_to_copy bs o b (mapping_at o addr)) refl where
    by : (page : Option ℕ) → page_to_copy bs o b (mapping_at o addr) ≡ page → Reasons n bs o b (command.W addr bytes) paused blocked (copy_move n b page)
    by None e = (runs, e)
    by (Some pfn) e = write_frame addr pfn bytes e
  copying_reasons (command.R addr len) w = absurd cc
  copying_reasons (command.Map vpn pfn mode) w = absurd cc
  copying_reasons (command.Unmap vpn) w = absurd cc
  copying_reasons (command.Jump label) w = absurd cc
  copying_reasons (command.JChild label) w = absurd cc
  copying_reasons (command.JFail label) w = absurd cc
  copying_reasons command.Exit w = absurd cc
  copying_reasons command.Free w = absurd cc
  copying_reasons command.Clone w = absurd cc
  copying_reasons (command.Ungrant r) w = absurd cc
  copying_reasons (command.Gmap granter r) w = absurd cc
  copying_reasons (command.Gunmap h) w = absurd cc
  copying_reasons (command.Hr h at len) w = absurd cc
  copying_reasons (command.Hw h at bytes) w = absurd cc

  ready_reasons : (c : Command) → Reasons n bs o b c paused blocked (ready_move n bs o b c)
  ready_reasons (command.W addr bytes) = by (page_to_copy bs o b (mapping_at o addr)) refl where
    by : (page : Option ℕ) → page_to_copy bs o b (mapping_at o addr) ≡ page → Reasons n bs o b (command.W addr bytes) paused blocked (cond (is_some page) Copies (Does Enough Nothing))
    by None e = (runs, e)
    by (Some pfn) e = refl
  ready_reasons (command.Map vpn pfn mode) = by (is_bad_pfn o pfn mode || has_leaf o vpn) refl where
    by : (v : Bool) → is_bad_pfn o pfn mode || has_leaf o vpn ≡ v → Reasons n bs o b (command.Map vpn pfn mode) paused blocked (cond v (Does Enough Nothing) (with_frame n b Leaf))
    by true e = (runs, e)
    by false e = map_frame vpn pfn mode e
  ready_reasons (command.R addr len) = (runs, tt)
  ready_reasons (command.Unmap vpn) = (runs, tt)
  ready_reasons (command.Jump label) = (runs, tt)
  ready_reasons (command.JChild label) = (runs, tt)
  ready_reasons (command.JFail label) = (runs, tt)
  ready_reasons command.Exit = (runs, tt)
  ready_reasons command.Free = (runs, refl)
  ready_reasons command.Clone = (runs, refl)
  ready_reasons (command.Ungrant r) = (runs, tt)
  ready_reasons (command.Gmap granter r) = (runs, tt)
  ready_reasons (command.Gunmap h) = (runs, tt)
  ready_reasons (command.Hr h at len) = (runs, tt)
  ready_reasons (command.Hw h at bytes) = (runs, tt)

-- A copying domain is at a write.
abbrev pub WritesWhere : Stage → Command → Type 0
WritesWhere Copying c = is_write c ≡ true
WritesWhere Ready c = ⊤
WritesWhere (Forking left) c = ⊤

pub move_reasons : (n : ℕ) (bs : Books) (paused blocked : Bool) (o : Own) (b : Book) (c : Command) (stage : Stage) → WritesWhere stage c → Reasons n bs o b c paused blocked (stage_move n bs paused blocked o b c stage)
move_reasons n bs paused blocked o b c (Forking (suc left)) w = tt
move_reasons n bs paused blocked o b c (Forking zero) w = tt
move_reasons n bs true blocked o b c Copying w = tt
move_reasons n bs false blocked o b c Copying w = copying_reasons n bs o b false blocked refl c w
move_reasons n bs true blocked o b c Ready w = tt
move_reasons n bs false true o b c Ready w = tt
move_reasons n bs false false o b c Ready w = ready_reasons n bs o b false false refl c
