-- Laws of the plain machine, its histories and its runs.
use Rattle.std.specs.Prelude.{ℕ, ◌≡◌, ◌≢◌, ◌≤◌, ◌<◌, ◌+◌, ◌%◌, ◌⊎◌, true, false, not, is_some, length, take, drop, All, List, [], ◌∷◌, ◌++◌, Option, Some, IfSome, slice_index_or, ⊤}
use Rattle.std.specs.FinMap as fm
use Rattle.neph_base.specs.declared.command.Command.{Command}
use Rattle.neph_base.specs.declared.command.Command.TheVariants as command
use Rattle.neph_base.specs.declared.command.Mode.TheVariants.{Rw}
use Rattle.neph_base.specs.declared.reply.Entry.{Entry}
use Rattle.neph_base.specs.declared.reply.Entry.TheVariants.{Line, Commit}
use Rattle.neph_base.specs.declared.reply.Noted.{Noted}
use Rattle.neph_base.specs.declared.reply.Reply.{Reply}
use Rattle.neph_base.specs.declared.reply.Reply.TheVariants.{Done, Begun, Child, Bytes, Refused}
use Rattle.neph_base.specs.declared.reply.Refusal.{Refusal}
use Rattle.neph_grant.specs.declared.entry.GrantEntry.{GrantEntry}
use Rattle.neph_grant.specs.declared.table.TheConstants.{GRANT_REFS}
use Rattle.neph_grant.specs.Table.{Grants}
use Rattle.neph_model.specs.declared.script.Script.{Script}
use Rattle.neph_model.specs.declared.told.Told.{Told}
use Rattle.neph_model.specs.declared.told.Told.TheVariants.{Enough}
use Rattle.neph_model.specs.Memory.{page_with_bytes, page_with_identity, child_network_page, zero_page}
use Rattle.neph_model.specs.Programs.{command_at}
use Rattle.neph_model.specs.Machine.{Own, Life, Shared, Machine, Exposed, own_at, is_live, life_at, guest_at, exposed_at, program_run, put_own}
use Rattle.neph_model.specs.Own.{page_of, mapping_at}
use Rattle.neph_model.specs.Lent.{PageBack, own_behind}
use Rattle.neph_model.specs.Trap.{is_exposed}
use Rattle.neph_model.specs.Births.{parent_own}
use Rattle.neph_model.specs.Flat.{Domain, domain_at, flat_page}
use Rattle.neph_model.specs.Step.{Outcome, actor, own_step, child_made, step}
use Rattle.neph_model.specs.Legal.{Act, Legal, Replays, journal, told_of}
use Rattle.neph_model.specs.Weave.{LogItem, count_at, log_at, weave, Tracks, cut}

-- A local entry reads its domain's own half alone, beside the program that it runs, and changes
-- that half alone.
abbrev pub LocalAlone : Type 0
LocalAlone =
    (s : Script) (m : Machine) (e : Entry) (told : Told) (did : Own × _)
    → own_step s (program_run (actor e) m.shared.lives) (own_at (actor e) m.own) e told ≡ Some did
    → step s m e told ≡ record { machine = put_own (actor e) did.0 m; reply = did.1 }

-- two entries may change places here: replies and last machine stay
pub record MaySwap (s : Script) (m : Machine) (e : Entry) (told : Told) (f : Entry)
    (other : Told) : Type 0 where
  pub machine : (step s (step s m f other).machine e told).machine
      ≡ (step s (step s m e told).machine f other).machine
  pub first : (step s (step s m f other).machine e told).reply ≡ (step s m e told).reply
  pub second : (step s (step s m e told).machine f other).reply ≡ (step s m f other).reply

-- A local entry may change places with any neighbouring entry of another actor but the commit that
-- makes its domain.
abbrev pub LocalMoves : Type 0
LocalMoves =
    (s : Script) (m : Machine) (e f : Entry) (told other : Told) (did : Own × _)
    → own_step s (program_run (actor e) m.shared.lives) (own_at (actor e) m.own) e told ≡ Some did
    → actor f ≢ actor e → IfSome (child_made f (step s m f other).reply) (λ child. child ≢ actor e)
    → MaySwap s m e told f other

-- The shared half of a legal history is the replay of its journal.
abbrev pub SharedReplays : Type 0
SharedReplays = (s : Script) (m last : Machine) (h : List Noted) → Legal s m h last
    → Replays s m.shared (journal s m h) last.shared

-- the live domains run these programs
abbrev pub RunPrograms : (ℕ → ℕ) → Shared → Type 0
RunPrograms p sh = (id : ℕ) → is_live id sh.lives ≡ true → program_run id sh.lives ≡ p id

-- there is a place for each id from 0 to 63
pub record HasPlaces (own : List Own) (lives : List (Option Life)) (counts : List ℕ)
    (logs : List (List LogItem)) : Type 0 where
  pub owns : length own ≡ 64
  pub domains : length lives ≡ 64
  pub entries : length counts ≡ 64
  pub items : length logs ≡ 64

-- a commit makes a child that has a place, and runs its parent's program
abbrev pub MakesChild : (ℕ → ℕ) → Act → Type 0
MakesChild p a = IfSome (child_made a.noted.entry a.noted.reply) (λ child. (child < 64)
    × (p child ≡ p (actor a.noted.entry)))

-- The weave of a replayed journal with the logs of the domains is a legal history, which ends with
-- the replay's shared half and the domains' own halves.
abbrev pub WeavesLegally : Type 0
WeavesLegally =
    (s : Script) (m : Machine) (end : Shared) (counts : List ℕ) (logs : List (List LogItem))
    (acts : List Act) (p : ℕ → ℕ) (own : ℕ → Own)
    → HasPlaces m.own m.shared.lives counts logs → RunPrograms p m.shared → All (MakesChild p) acts
    → Replays s m.shared acts end
    → ((id : ℕ) → Tracks s end id (p id) (own_at id m.own) (count_at id counts)
    (log_at id logs) acts (own id))
    → (last : Machine) × (Legal s m (weave counts logs acts) last × (last.shared ≡ end)
    × ((id : ℕ) → own_at id last.own ≡ own id))

-- What a worker knows by the journal cut to its domain, it knows by the whole journal.
abbrev pub TracksByCut : Type 0
TracksByCut =
    (s : Script) (end : Shared) (id p : ℕ) (o : Own) (n : ℕ) (log : List LogItem) (acts : List Act)
    (last : Own)
    → Tracks s end id p o n log (cut id acts) last → Tracks s end id p o n log acts last

-- A call on the shared half moves its domain's line by one, or leaves it where a clone begins, and
-- keeps its number of pages, whatever the command.
abbrev pub MovesOn : Type 0
MovesOn =
    (o : Own) (c : Command) (r : Reply) (back : Option PageBack) → c ≢ command.Exit
    → (length (own_behind o c r back).pages ≡ length o.pages)
    × (((own_behind o c r back).line ≡ o.line + 1) ⊎ ((child : ℕ) × (r ≡ Begun child)))

-- A refused line, a clone among them, moves its domain on and marks it, and changes nothing else of
-- the machine.
abbrev pub RefusesPlainly : Type 0
RefusesPlainly =
    (s : Script) (m : Machine) (id line : ℕ) (told : Told) (why : Refusal)
    → (step s m (Line id line) told).reply ≡ Refused why
    → (step s m (Line id line) told).machine
    ≡ put_own id (record (own_at id m.own) { line = (own_at id m.own).line + 1; refused = true }) m

-- a page is in one half alone: it is the domain's own, or exposed
abbrev pub IsInOneHalf : Machine → ℕ → ℕ → Type 0
IsInOneHalf m id pfn = is_some (page_of (own_at id m.own) pfn)
    ≡ not (is_exposed m.shared.pages id pfn)

-- each page of each domain is so
abbrev pub IsApart : Machine → Type 0
IsApart m = (id pfn : ℕ) → pfn < length (own_at id m.own).pages → IsInOneHalf m id pfn

-- An entry leaves each page of each domain in one half alone, where it was so.
abbrev pub StaysApart : Type 0
StaysApart =
    (s : Script) (m : Machine) (e : Entry) (told : Told) → length m.own ≡ length m.shared.pages
    → actor e < length m.own
    → IfSome (child_made e (step s m e told).reply) (λ child. (child < length m.own)
    × (child ≢ actor e)) → IsApart m → IsApart (step s m e told).machine

-- an entry with this reference names a page of a domain of n pages, of which these are exposed
pub record NamesExposed (n : ℕ) (pages : Exposed) (r pfn : ℕ) : Type 0 where
  pub low : r < GRANT_REFS
  pub exposed : is_some (fm.get pages pfn) ≡ true
  pub inside : pfn < n

-- each entry of a grant table does
abbrev pub AreGranted : Grants → ℕ → Exposed → Type 0
AreGranted t n pages =
    (r : ℕ) (e : GrantEntry) → fm.get t r ≡ Some e → NamesExposed n pages r e.pfn

-- each entry of each domain names an exposed page of that domain
abbrev pub IsGranted : Machine → Type 0
IsGranted m = (id : ℕ) → AreGranted (guest_at id m.shared.tables).grants
    (length (own_at id m.own).pages) (exposed_at id m.shared.pages)

-- An entry of the machine leaves each grant so, where it was.
abbrev pub StaysGranted : Type 0
StaysGranted =
    (s : Script) (m : Machine) (e : Entry) (told : Told) → length m.own ≡ length m.shared.pages
    → length m.own ≡ length m.shared.tables.guests → actor e < length m.own
    → IfSome (child_made e (step s m e told).reply) (λ child. (child < length m.own)
    × (child ≢ actor e)) → IsGranted m → IsGranted (step s m e told).machine

-- Whether a page is exposed shows in no `w`: where its address maps to a page for writing and no
-- frame lacks, the reply is ok and the domain's page has the bytes.
abbrev pub WritesFlatly : Type 0
WritesFlatly =
    (s : Script) (m : Machine) (id line addr pfn : ℕ) (bytes : List ℕ)
    → command_at s (program_run id m.shared.lives) line ≡ command.W addr bytes
    → mapping_at (own_at id m.own) addr ≡ Some (record { pfn = pfn; mode = Rw })
    → id < length m.own → id < length m.shared.pages → pfn < length (own_at id m.own).pages
    → IsInOneHalf m id pfn
    → let did = step s m (Line id line) Enough in
    (did.reply ≡ Done) × (flat_page did.machine id pfn
    ≡ page_with_bytes (flat_page m id pfn) (addr % 4096) bytes)

-- Nor in any `r`: where its address maps to a page, the reply is the page's bytes, and the domain's
-- pages stay.
abbrev pub ReadsFlatly : Type 0
ReadsFlatly =
    (s : Script) (m : Machine) (id line addr n : ℕ) (to : _)
    → command_at s (program_run id m.shared.lives) line ≡ command.R addr n
    → mapping_at (own_at id m.own) addr ≡ Some to → IsInOneHalf m id to.pfn
    → let did = step s m (Line id line) Enough in
    (did.reply ≡ Bytes (take n (drop (addr % 4096) (flat_page m id to.pfn))))
    × ((pfn : ℕ) → flat_page did.machine id pfn ≡ flat_page m id pfn)

-- A line of one domain leaves the own half of every other as it was.
abbrev pub WritesAlone : Type 0
WritesAlone = (s : Script) (m : Machine) (id line other : ℕ) (told : Told) → other ≢ id
    → own_at other (step s m (Line id line) told).machine.own ≡ own_at other m.own

-- The child of a domain at its commit: the domain itself in all but the parts that are listed.
pub record IsChild (id parent : ℕ) (p c : Domain) : Type 0 where
  pub names : (c.id ≡ id) × (c.parent ≡ parent)
  pub family : c.family ≡ p.family
  pub program : c.program ≡ p.program
  pub line : c.line ≡ p.line + 1
  pub marks : (c.came ≡ true) × (c.refused ≡ false)
  pub limit : c.limit ≡ p.limit
  pub clones : c.accepted ≡ 0
  pub vmap : c.vmap ≡ p.vmap
  pub leaves : c.leaves ≡ p.leaves
  pub grants : c.grants ≡ p.grants
  pub handles : c.handles ≡ fm.empty
  pub count : length c.pages ≡ length p.pages
  pub identity : 0 < length p.pages
      → slice_index_or c.pages 0 [] ≡ page_with_identity (slice_index_or p.pages 0 []) id parent
      (length p.pages)
  pub console : 1 < length p.pages → slice_index_or c.pages 1 [] ≡ zero_page
  pub network : 2 < length p.pages
      → slice_index_or c.pages 2 [] ≡ child_network_page (slice_index_or p.pages 2 [])
  pub files : 3 < length p.pages → slice_index_or c.pages 3 [] ≡ zero_page
  pub others : (pfn : ℕ) → 4 ≤ pfn → slice_index_or c.pages pfn [] ≡ slice_index_or p.pages pfn []

-- Each page of a domain is in one half alone, pages 1 to 3 are exposed and the identity page isn't,
-- and its life tells how many there are.
pub record HasDevicePages (m : Machine) (id : ℕ) (l : Life) : Type 0 where
  pub apart : (pfn : ℕ) → pfn < l.size → IsInOneHalf m id pfn
  pub devices : (pfn : ℕ) → 0 < pfn → pfn < 4 → is_exposed m.shared.pages id pfn ≡ true
  pub identity : is_exposed m.shared.pages id 0 ≡ false
  pub size : length (own_at id m.own).pages ≡ l.size

-- What the commit of this child by a domain leaves: the child, its parent behind the clone with its
-- pages and their map, and every other domain as it was.
pub record LeavesChild (m : Machine) (id child : ℕ) (p : Domain) (o : Outcome) : Type 0 where
  pub born : (c : Domain) × (domain_at child o.machine ≡ Some c) × IsChild child id p c
  pub parent : own_at id o.machine.own ≡ parent_own (own_at id m.own)
  pub others : (other : ℕ) → other ≢ id → other ≢ child
      → domain_at other o.machine ≡ domain_at other m
  pub waits : o.machine.shared.tables.waiting ≡ m.shared.tables.waiting
      ++ record { parent = id; child = child } ∷ []
  pub answer : o.reply ≡ Child child

-- An entry that makes this child of a domain leaves it as the listed copy of that domain as it
-- stands here.
abbrev pub LeavesCopy : Machine → ℕ → ℕ → Outcome → Type 0
LeavesCopy m id child o = (p : Domain) × (domain_at id m ≡ Some p) × LeavesChild m id child p o

-- Each entry of a history from this machine on that makes a child leaves it so.
abbrev pub BearsCopies : Script → Machine → List Noted → Type 0
BearsCopies s m [] = ⊤
BearsCopies s m (x ∷ xs) =
    let did = step s m x.entry (told_of x.reply) in
    IfSome (child_made x.entry x.reply) (λ child. LeavesCopy m (actor x.entry) child did)
    × BearsCopies s did.machine xs

-- The child that a commit makes is its parent in all but the listed parts, and the parent keeps its
-- pages and their map.
abbrev pub CopiesItsParent : Type 0
CopiesItsParent =
    (s : Script) (m : Machine) (id line child : ℕ) (left : List ℕ) (told : Told) (p : Domain)
    (l : Life)
    → domain_at id m ≡ Some p → life_at id m.shared.lives ≡ Some l → HasDevicePages m id l
    → (guest_at id m.shared.tables).begun ≡ child ∷ left → child ≢ id
    → id < length m.own → child < length m.own → child < length m.shared.lives
    → child < length m.shared.pages → child < length m.shared.tables.guests
    → LeavesChild m id child p (step s m (Commit id line) told)
