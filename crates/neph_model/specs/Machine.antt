-- The plain machine in two halves: what each domain has to itself, and what the hypervisor keeps.
use Rattle.std.specs.Prelude.{ℕ, Bool, false, ◌==◌, if◌then◌else◌, List, [], Option, None, is_some, count_by, sum_by, slice_index_or, slice_set}
use Rattle.std.specs.List.{range_with_len}
use Rattle.std.specs.Option.{option_map_or}
use Rattle.std.specs.Ordering.{nat_cmp}
use Rattle.std.specs.FinMap as map
pub use Rattle.neph_model.specs.declared.own.Own.{Own}
pub use Rattle.neph_model.specs.declared.life.Life.{Life}
pub use Rattle.neph_model.specs.declared.life.Guest.{Guest}
pub use Rattle.neph_model.specs.declared.life.Cloned.{Cloned}

-- the hypervisor's tables: what it keeps of each id, the id of the next child (64 after 63 was
-- given), and the committed clones that wait for their second stage, oldest first
pub record Tables : Type 0 where
  pub guests : List Guest
  pub next : ℕ
  pub waiting : List Cloned

-- the exposed pages of a domain, by pfn
abbrev pub Exposed : Type 0
Exposed = map.FinMap nat_cmp (List ℕ)

-- the shared half: who is live, the hypervisor's tables, and the bytes of the exposed pages of each
-- id
pub record Shared : Type 0 where
  pub lives : List (Option Life)
  pub tables : Tables
  pub pages : List Exposed

-- the plain machine: the own half of each id from 0 to 63, and the shared half
pub record Machine : Type 0 where
  pub own : List Own
  pub shared : Shared

-- the own half of an id that has no domain
abbrev pub no_own : Own
no_own = record {
  line = 0;
  came = false;
  refused = false;
  pages = [];
  vmap = map.empty;
  leaves = [];
  alone = [];
}

-- what is kept of an id that has no domain
abbrev pub no_guest : Guest
no_guest = record { accepted = 0; begun = []; grants = map.empty; handles = map.empty }

-- what is kept of a domain, but for its handles
abbrev pub but_handles : Guest → Guest
but_handles g = record g { handles = map.empty }

-- nor for its grants
abbrev pub but_shares : Guest → Guest
but_shares g = record g { grants = map.empty; handles = map.empty }

-- the own half of an id
abbrev pub own_at : ℕ → List Own → Own
own_at id own = slice_index_or own id no_own

-- what the domain of this id was born as, where it is live
abbrev pub life_at : ℕ → List (Option Life) → Option Life
life_at id lives = slice_index_or lives id None

-- a domain of this id is live
abbrev pub is_live : ℕ → List (Option Life) → Bool
is_live id lives = is_some (life_at id lives)

-- the sum of a number of each live domain, by its id
unfoldable pub sum_live : (ℕ → ℕ) → List (Option Life) → ℕ
sum_live f lives = sum_by (λ id. if is_live id lives then f id else 0) (range_with_len 0 64)

-- how many domains are live
abbrev pub live_count : List (Option Life) → ℕ
live_count lives = count_by is_some lives

-- no domain is live
abbrev pub is_over : Machine → Bool
is_over m = live_count m.shared.lives == 0

-- what the hypervisor keeps of an id
abbrev pub guest_at : ℕ → Tables → Guest
guest_at id t = slice_index_or t.guests id no_guest

-- the tables with this as what is kept of an id
abbrev pub put_guest : ℕ → Guest → Tables → Tables
put_guest id g t = record t { guests = slice_set t.guests id g }

-- the exposed pages of an id
abbrev pub exposed_at : ℕ → List Exposed → Exposed
exposed_at id pages = slice_index_or pages id map.empty

-- the machine with this as the own half of an id
abbrev pub put_own : ℕ → Own → Machine → Machine
put_own id o m = record m { own = slice_set m.own id o }

-- the program of a domain that was born so
abbrev pub program_of : Option Life → ℕ
program_of life = option_map_or (λ (l : Life). l.program) life 0

-- the number of the program that the domain of an id runs
abbrev pub program_run : ℕ → List (Option Life) → ℕ
program_run id lives = program_of (life_at id lives)

-- the parent of a domain that was born so
abbrev pub parent_of : Option Life → ℕ
parent_of life = option_map_or (λ (l : Life). l.parent) life 0

-- the number of pages of a domain that was born so
abbrev pub size_of : Option Life → ℕ
size_of life = option_map_or (λ (l : Life). l.size) life 0
