-- The heap's lists, and a domain's pages, in the parts that a machine keeps apart.
use Rattle.std.specs.Prelude.{ℕ, suc, List, [], ◌∷◌, map, Some, None}
use Rattle.std.specs.List.{concat}
use Rattle.std.specs.declared.option.Option.{Option}
use Rattle.neph_accounts.specs.Holdings.{Holding}
use Rattle.neph_accounts.specs.Accounts.{Account}

-- what the heap has: the frames of all exposed pages, all that are put aside, and these, free
abbrev pub heap_holding : {Seat : Type 0} → List (Account Seat) → List ℕ → Holding
heap_holding accounts free = record {
  pages = concat (map (λ a. a.exposed) accounts);
  flying = [];
  own = concat (map (λ a. a.aside) accounts);
  kept = free;
}

-- the frames of a domain's own pages, where None stands for an exposed one
abbrev pub local_frames : List (Option ℕ) → List ℕ
local_frames [] = []
local_frames (None ∷ pages) = local_frames pages
local_frames (Some f ∷ pages) = f ∷ local_frames pages

-- those of its exposed pages from this page on, by where the heap has them
abbrev pub exposed_frames : List (Option ℕ) → (ℕ → ℕ) → ℕ → List ℕ
exposed_frames [] away pfn = []
exposed_frames (None ∷ pages) away pfn = away pfn ∷ exposed_frames pages away (suc pfn)
exposed_frames (Some f ∷ pages) away pfn = exposed_frames pages away (suc pfn)

-- those of all its pages from this page on
abbrev pub row_frames : List (Option ℕ) → (ℕ → ℕ) → ℕ → List ℕ
row_frames [] away pfn = []
row_frames (None ∷ pages) away pfn = away pfn ∷ row_frames pages away (suc pfn)
row_frames (Some f ∷ pages) away pfn = f ∷ row_frames pages away (suc pfn)
