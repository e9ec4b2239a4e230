-- The exposed pages as they lie in frames.
use Rattle.std.specs.Prelude.{List, ℕ, map, ◌==◌, if◌then◌else◌}
use Rattle.std.specs.FinMap as fm
use Rattle.std.specs.declared.option.Option.{Option}
use Rattle.neph_model.specs.Memory.{zero_page, child_network_page}
use Rattle.neph_model.specs.Machine.{Exposed}
use Rattle.neph_pool.specs.declared.entry.Entry.{Entry}
use Rattle.neph_pool.specs.Bytes.{bytes_at}
use Rattle.neph_heap.specs.declared.exposed_frame.ExposedFrame.{ExposedFrame}

-- a page with the bytes of its frame
abbrev pub page_in : List (Option Entry) → ExposedFrame → ℕ × List ℕ
page_in es x = (x.pfn, bytes_at es x.frame)

-- some exposed pages of a domain, each with the bytes of its frame
unfoldable pub page_map : List (Option Entry) → List ExposedFrame → Exposed
page_map es xs = fm.from_entries (map (page_in es) xs)

-- those of all domains
unfoldable pub pages_in : List (Option Entry) → List (List ExposedFrame) → List Exposed
pages_in es xss = map (page_map es) xss

-- What a child gets of an exposed page with this number: the console page (1) and the 9P page (3)
-- are zero, the network page (2) sends nothing, and any other is the same.
unfoldable pub child_page : ℕ → List ℕ → List ℕ
child_page pfn page =
    if pfn == 1 then zero_page
    else (if pfn == 2 then child_network_page page
    else (if pfn == 3 then zero_page else page))

-- a page of a child
abbrev pub child_page_in : List (Option Entry) → ExposedFrame → ℕ × List ℕ
child_page_in es x = (x.pfn, child_page x.pfn (bytes_at es x.frame))

-- a page of zeros with this number
abbrev pub zero_page_at : ℕ → ℕ × List ℕ
zero_page_at pfn = (pfn, zero_page)
