-- The frames of the plain pool, as contracts see them.
use Rattle.std.specs.Prelude.{◌≡◌, ℕ, List, [], ◌∷◌, slice_index_or, slice_set}
use Rattle.neph_pool.specs.declared.owners.Owners.{Owners}
use Rattle.neph_pool.specs.declared.owners.Owners.TheVariants.{Spare}
use Rattle.neph_pool.specs.Page.{blank_page}

-- a frame: who holds it, and its words
pub record PlainFrame : Type 0 where
  pub owners : Owners
  pub words : List ℕ

-- a frame of zeros, which row 0 keeps
abbrev pub blank_frame : PlainFrame
blank_frame = record { owners = Spare 0; words = blank_page }

-- the frame f
abbrev pub frame_at : List PlainFrame → ℕ → PlainFrame
frame_at xs f = slice_index_or xs f blank_frame

-- the frames with these owners and words
unfoldable pub frames_in : List Owners → List (List ℕ) → List PlainFrame
frames_in [] ws = []
frames_in (o ∷ os) [] = record { owners = o; words = [] } ∷ frames_in os []
frames_in (o ∷ os) (w ∷ ws) = record { owners = o; words = w } ∷ frames_in os ws

-- the frames with the owners of f changed
abbrev pub with_owners : List PlainFrame → ℕ → Owners → List PlainFrame
with_owners xs f o = slice_set xs f (record (frame_at xs f) { owners = o })

-- the owners of the frame f alone changed, and so
abbrev pub FrameStep : (Owners → Owners → Type 0) → List PlainFrame → ℕ → List PlainFrame → Type 0
FrameStep IsStep xs f ys = (o : Owners) × (ys ≡ with_owners xs f o)
    × IsStep (frame_at xs f).owners o
