-- The pages of the plain pool.
use Rattle.std.specs.Prelude.{◌==◌, ℕ, List, [], map, replicate, slice_index_or, count_by}
use Rattle.neph_pool.specs.declared.page.Page.{Page}

-- the words of a page of zeros
abbrev pub blank_page : List ℕ
blank_page = replicate 512 0

-- the words of each page
abbrev pub page_words : List Page → List (List ℕ)
page_words xs = map (λ (x : Page). x.words) xs

-- how many frames have no page of their own
abbrev pub unmade : List ℕ → ℕ
unmade ps = count_by (λ p. p == 0) ps

-- the words of the frames that have these places
unfoldable pub words_in : List (List ℕ) → List ℕ → List (List ℕ)
words_in ws ps = map (λ p. slice_index_or ws p []) ps
