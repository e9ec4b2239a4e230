-- The words of the plain pool's frames.
use Rattle.std.specs.Prelude.{ℕ, List, length}
use Rattle.neph_pool.specs.declared.pages.Pages.{Pages}
use Rattle.neph_pool.specs.Page.{page_words, words_in}

-- the words of each frame
abbrev pub words_of : Pages → List (List ℕ)
words_of p = words_in (page_words p.made.items) p.places.items

abbrev pub frame_count : Pages → ℕ
frame_count p = length p.places.items
