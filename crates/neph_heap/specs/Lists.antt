-- The lists of the frames that the hypervisor holds.
use Rattle.std.specs.Prelude.{ℕ, List, length, sum_by, [], map, replicate, slice_index_or, option_map, find, filter, not, ◌==◌}
use Rattle.std.specs.declared.option.Option.{Option}
use Rattle.std.specs.List.{flat_map}
use Rattle.neph_heap.specs.declared.exposed_frame.ExposedFrame.{ExposedFrame}

-- The free frames; by the id of a domain its exposed pages with their frames; and by the id of a
-- child the frames that are put aside for its exposed pages.
pub record Lists : Type 0 where
  pub free : List ℕ
  pub exposed : List (List ExposedFrame)
  pub aside : List (List ℕ)

-- no frame
abbrev pub no_lists : Lists
no_lists = record { free = []; exposed = replicate 64 []; aside = replicate 64 [] }

-- the exposed pages of a domain
abbrev pub exposed_of : ℕ → Lists → List ExposedFrame
exposed_of id l = slice_index_or l.exposed id []

-- the frames put aside for a child
abbrev pub aside_of : ℕ → Lists → List ℕ
aside_of child l = slice_index_or l.aside child []

-- the numbers of some exposed pages, and their frames
abbrev pub pfns_of : List ExposedFrame → List ℕ
pfns_of xs = map (λ (x : ExposedFrame). x.pfn) xs

abbrev pub frames_of : List ExposedFrame → List ℕ
frames_of xs = map (λ (x : ExposedFrame). x.frame) xs

-- the frame of the page with this number
abbrev pub frame_in : ℕ → List ExposedFrame → Option ℕ
frame_in pfn xs = option_map (λ (x : ExposedFrame). x.frame)
    (find (λ (x : ExposedFrame). x.pfn == pfn) xs)

-- the pages but the one with this number
abbrev pub pages_but : ℕ → List ExposedFrame → List ExposedFrame
pages_but pfn xs = filter (λ (x : ExposedFrame). not (x.pfn == pfn)) xs

-- the frames of all exposed pages
unfoldable pub exposed_frames : List (List ExposedFrame) → List ℕ
exposed_frames xss = flat_map frames_of xss

-- all frames that are put aside
unfoldable pub aside_frames : List (List ℕ) → List ℕ
aside_frames xss = flat_map (λ xs. xs) xss

-- how many pages are exposed, and how many frames are put aside
abbrev pub exposed_count : Lists → ℕ
exposed_count l = sum_by (λ (xs : List ExposedFrame). length xs) l.exposed

abbrev pub aside_count : Lists → ℕ
aside_count l = sum_by (λ (xs : List ℕ). length xs) l.aside
