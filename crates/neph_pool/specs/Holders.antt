-- Who holds each frame of the plain pool.
use Rattle.std.specs.Prelude.{◌≡◌, ℕ, List, [], ◌∷◌, map, length, slice_index_or, slice_set}
use Rattle.neph_pool.specs.declared.weights.Weights.{Weights}
use Rattle.neph_pool.specs.declared.owners.Owners.{Owners}
use Rattle.neph_pool.specs.declared.owners.Owners.TheVariants.{Spare, Alone, Many}
use Rattle.neph_pool.specs.declared.kind.Kind.{Kind}
use Rattle.neph_pool.specs.declared.kind.Kind.TheVariants.{Kept, Own, Shared}
use Rattle.neph_pool.specs.declared.holders.Holders.{Holders}

-- the owners by the kind, where the counts are those
abbrev pub owners_by : Kind → Owners → Owners
owners_by (Kept q) o = Spare q
owners_by (Own q) o = Alone q
owners_by Shared o = o

abbrev pub owner_at : List Owners → ℕ → Owners
owner_at os f = slice_index_or os f (Spare 0)

-- the owners of frames of these kinds, whose counts lie at these places
unfoldable pub owners_in : List Owners → List Kind → List ℕ → List Owners
owners_in ws [] ps = []
owners_in ws (k ∷ ks) [] = owners_by k (Spare 0) ∷ owners_in ws ks []
owners_in ws (k ∷ ks) (p ∷ ps) = owners_by k (owner_at ws p) ∷ owners_in ws ks ps

abbrev pub shared_of : List Weights → List Owners
shared_of xs = map (λ (w : Weights). Many w) xs

abbrev pub owners_of : Holders → List Owners
owners_of h = owners_in (shared_of h.counts.items) h.kinds.items h.places.items

abbrev pub holder_count : Holders → ℕ
holder_count h = length h.kinds.items

-- the owners of the frame f alone changed, and so
abbrev pub OwnersStep : (Owners → Owners → Type 0) → List Owners → ℕ → List Owners → Type 0
OwnersStep IsStep os f ns = (o : Owners) × (ns ≡ slice_set os f o) × IsStep (owner_at os f) o
