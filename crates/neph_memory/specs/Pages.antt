-- Where a guest's pages lie.
use Rattle.std.specs.Prelude.{ℕ, List, slice_get, Some, None}
use Rattle.std.specs.declared.option.Option.{Option}
use Rattle.neph_gmap.specs.declared.page.Page.{Page}
use Rattle.neph_gmap.specs.declared.page.Page.TheVariants.{Local, Exposed}

-- the frame of a page that is the domain's own
abbrev pub frame_of : Option Page → Option ℕ
frame_of None = None
frame_of (Some (Local f)) = Some f
frame_of (Some Exposed) = None

-- the frame of the page p, where it is the domain's own
unfoldable pub frame_at : List Page → ℕ → Option ℕ
frame_at ps p = frame_of (slice_get ps p)
