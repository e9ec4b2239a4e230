-- Page tables in frames: a root and leaf tables, of 512 entries each. A virtual page's number has 9
-- bits for the root and 9 for the leaf.
use Rattle.std.specs.Prelude.{◌≡◌, ◌≢◌, ◌/◌, ◌%◌, ◌<◌, ◌⊎◌, ℕ, List, replicate, Some, None}
use Rattle.std.specs.declared.option.Option.{Option}
use Rattle.neph_base.specs.declared.sizes.TheConstants.{MAX_FRAMES, TABLE_ENTRIES}
use Rattle.neph_pool.specs.declared.entry.Entry.{Entry}
use Rattle.neph_pool.specs.Entries.{hold_at, words_at, word_at, IsSoleAt}
use Rattle.neph_ptab.specs.declared.walk.Walk.{Walk}
use Rattle.neph_ptab.specs.declared.walk.Walk.TheVariants.{None as Unmapped}
use Rattle.neph_ptab.specs.Bits.{leaf_in, root_word, walk_in, walk_word, InRange, NotBoth}

-- the frame of the i-th leaf table
abbrev pub leaf_at : List (Option Entry) → ℕ → ℕ → Option ℕ
leaf_at es root i = leaf_in (word_at es root i)

-- the walk through a leaf table, if there is one
abbrev pub walk_by : List (Option Entry) → Option ℕ → ℕ → Walk
walk_by es None w = Unmapped
walk_by es (Some leaf) w = walk_in (word_at es leaf w)

-- the walk of a virtual page
abbrev pub walk_at : List (Option Entry) → ℕ → ℕ → Walk
walk_at es root v = walk_by es (leaf_at es root (v / TABLE_ENTRIES)) (v % TABLE_ENTRIES)

-- the i-th leaf table is the frame f
abbrev pub IsLeaf : List (Option Entry) → ℕ → ℕ → ℕ → Type 0
IsLeaf es root i f = leaf_at es root i ≡ Some f

-- the frame is the root or a leaf table
abbrev pub IsTable : List (Option Entry) → ℕ → ℕ → Type 0
IsTable es root f = (f ≡ root) ⊎ ((i : ℕ) × (i < TABLE_ENTRIES) × IsLeaf es root i f)

-- Page tables stand in these entries: each table is a frame of its own, and each word is the bits
-- of what it says.
pub record IsTables (es : List (Option Entry)) (root : ℕ) : Type 0 where
  pub top : IsSoleAt es root
  pub entries : (i : ℕ) → i < TABLE_ENTRIES → word_at es root i ≡ root_word (leaf_at es root i)
  pub leaves : (i f : ℕ) → i < TABLE_ENTRIES → IsLeaf es root i f → IsSoleAt es f
  pub numbers : (i f : ℕ) → i < TABLE_ENTRIES → IsLeaf es root i f → f < MAX_FRAMES
  pub below : (i f : ℕ) → i < TABLE_ENTRIES → IsLeaf es root i f → f ≢ root
  pub apart : (i j f : ℕ) → i < TABLE_ENTRIES → j < TABLE_ENTRIES
      → IsLeaf es root i f → IsLeaf es root j f → i ≡ j
  pub words : (i f w : ℕ) → i < TABLE_ENTRIES → w < TABLE_ENTRIES → IsLeaf es root i f
      → word_at es f w ≡ walk_word (walk_in (word_at es f w))
  pub ranges : (i f w : ℕ) → i < TABLE_ENTRIES → w < TABLE_ENTRIES → IsLeaf es root i f
      → InRange (walk_in (word_at es f w))
  pub either : (i f w : ℕ) → i < TABLE_ENTRIES → w < TABLE_ENTRIES → IsLeaf es root i f
      → NotBoth (walk_in (word_at es f w))

-- the tables have the leaves that they had, and only words of tables have changed
pub record IsRetabled (es fs : List (Option Entry)) (root : ℕ) : Type 0 where
  pub holds : (f : ℕ) → hold_at fs f ≡ hold_at es f
  pub words : (f : ℕ) → (IsTable es root f → ⊥) → words_at fs f ≡ words_at es f
  pub leaves : (i : ℕ) → i < TABLE_ENTRIES → leaf_at fs root i ≡ leaf_at es root i
  pub tables : IsTables fs root

-- the words of an empty table
unfoldable pub zero_words : List ℕ
zero_words = replicate TABLE_ENTRIES 0
