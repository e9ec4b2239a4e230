-- The machine at the start of a script.
use Rattle.std.specs.Prelude.{ℕ, true, false, ◌+◌, ◌-◌, ◌/◌, nat_lt, if◌then◌else◌, zero, suc, List, [], ◌∷◌, ◌++◌, replicate, length, Option, None, Some}
use Rattle.std.specs.List.{range_with_len}
use Rattle.std.specs.Ordering.{nat_cmp}
use Rattle.std.specs.FinMap as fm
use Rattle.neph_base.specs.declared.command.Mode.{Mode}
use Rattle.neph_base.specs.declared.command.Mode.TheVariants.{Ro, Rw}
use Rattle.neph_grant.specs.Table.{device_grants}
use Rattle.neph_model.specs.declared.script.Script.{Script}
use Rattle.neph_model.specs.declared.script.Start.{Start}
use Rattle.neph_model.specs.declared.memory.Mapping.{Mapping}
use Rattle.neph_model.specs.Memory.{zero_page, page_with_identity}
use Rattle.neph_model.specs.Machine.{Own, Life, Guest, Exposed, Machine, no_own, no_guest}

-- the groups of 512 pages that some first pages begin
abbrev pub started_512s : ℕ → ℕ
started_512s pages = (pages + 511) / 512

-- pages 0 to 3, the identity page and the device pages, are mapped read-only at the start
abbrev pub start_mode : ℕ → Mode
start_mode pfn = if nat_lt pfn 4 then Ro else Rw

-- virtual page i maps to page i, for each i below n
abbrev pub start_vmap : ℕ → fm.FinMap nat_cmp Mapping
start_vmap zero = fm.empty
start_vmap (suc n) = fm.insert (start_vmap n) n (record { pfn = n; mode = start_mode n })

-- the identity page of a domain at its start: its numbers, and zeros
unfoldable pub identity_page : ℕ → ℕ → ℕ → List ℕ
identity_page id parent pages = page_with_identity zero_page id parent pages

-- The pages of a starting domain's own half: the identity page, and zeros. The three device pages,
-- 1 to 3, are exposed.
abbrev pub start_pages : ℕ → ℕ → List (Option (List ℕ))
start_pages id pages = Some (identity_page id 0 pages) ∷ None ∷ None ∷ None ∷ replicate (pages - 4)
    (Some zero_page)

-- its exposed pages: the console page, the network page and the 9P page, all zero
abbrev pub start_exposed : Exposed
start_exposed = fm.insert (fm.insert (fm.insert fm.empty 1 zero_page) 2 zero_page) 3 zero_page

-- the own half of the starting domain of the line with this number, counted from 1
abbrev pub start_own : ℕ → Start → Own
start_own n t =
    record {
      line = 0;
      came = false;
      refused = false;
      pages = start_pages n t.pages;
      vmap = start_vmap t.pages;
      leaves = range_with_len 0 (started_512s t.pages);
      alone = replicate t.pages true;
    }

-- what it is born as
abbrev pub start_life : ℕ → Start → Life
start_life n t = record {
  parent = 0;
  family = n;
  program = t.program;
  limit = t.limit;
  size = t.pages;
}

-- what is kept of it: its device pages are granted to domain 0
abbrev pub start_guest : Guest
start_guest = record no_guest { grants = device_grants }

-- something of each of some domain lines, the first of which has this number
abbrev pub of_starts : {X : Type 0} → (ℕ → Start → X) → ℕ → List Start → List X
of_starts f n [] = []
of_starts f n (t ∷ ts) = f n t ∷ of_starts f (n + 1) ts

-- something of each id from 0 to 63: none of id 0, then that of the domain lines, then none
abbrev pub places : {X : Type 0} → X → (ℕ → Start → X) → List Start → List X
places none f starts = none ∷ (of_starts f 1 starts ++ replicate (63 - length starts) none)

-- The machine at the start of a script: no domain 0, the starting domains from 1 on, and no other.
abbrev pub start_machine : Script → Machine
start_machine s =
    record {
      own = places no_own start_own s.starts;
      shared =
          record {
            lives = places None (λ n t. Some (start_life n t)) s.starts;
            tables = record {
              guests = places no_guest (λ n t. start_guest) s.starts;
              next = 1 + length s.starts;
              waiting = [];
            };
            pages = places fm.empty (λ n t. start_exposed) s.starts;
          };
    }
