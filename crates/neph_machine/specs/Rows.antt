-- The frames under the pages of each domain.
use Rattle.std.specs.Prelude.{ℕ, List, [], map, unwrap_or, Some}
use Rattle.std.specs.declared.option.Option.{Option}
use Rattle.std.specs.List.{range_with_len}
use Rattle.neph_gmap.specs.declared.page.Page.{Page}
use Rattle.neph_memory.specs.Pages.{frame_of}
use Rattle.neph_heap.specs.Lists.{Lists, exposed_of, frame_in}
use Rattle.neph_accounts.specs.Heaps.{row_frames}
use Rattle.neph_machine.specs.declared.place.Place.{Place}
use Rattle.neph_machine.specs.declared.place.Place.TheVariants.{Empty, Flight, Domain}
use Rattle.neph_machine.specs.declared.machine.Machine.{Machine}
use Rattle.neph_machine.specs.Places.{place_at}

-- the frame of each of these pages, None where it is exposed
abbrev pub frames_in : List Page → List (Option ℕ)
frames_in pages = map (λ page. frame_of (Some page)) pages

-- the frame in which the hypervisor has an exposed page of a domain
abbrev pub away_in : Lists → ℕ → ℕ → ℕ
away_in stock id pfn = unwrap_or (frame_in pfn (exposed_of id stock)) 0

-- the frames under the pages of what stands in the place of an id, by page
abbrev pub row_of : {Pool Seat : Type 0} → Lists → ℕ → Place Pool Seat → List ℕ
row_of stock id Empty = []
row_of stock id (Flight f) = []
row_of stock id (Domain l) = row_frames (frames_in l.local.own.map.pages) (away_in stock id) 0

-- those of each id from 0 to 63
abbrev pub rows_of : {Pool Seat : Type 0} → Machine Pool Seat → List (List ℕ)
rows_of m = map (λ id. row_of m.hv.heap.stock id (place_at id m.places.items)) (range_with_len 0 64)
