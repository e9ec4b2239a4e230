-- The room for grants and handles of each live domain, kept by the rows.
use Rattle.std.proofs.Common.{◌≡◌, ◌≢◌, ℕ, zero, suc, ◌<◌, Bool, true, false, List, [], ◌∷◌, ◌++◌, length, get_or, set, map, Option, None, refl, sym, ap, ◌∙◌, inl, inr}
use Rattle.std.specs.Prelude.{is_some}
use Rattle.std.proofs.lemmas.Bool.{cases_eq}
use Rattle.std.proofs.lemmas.List.{get_or-set_same, get_or-set_other}
use Rattle.neph_model.specs.declared.life.Life.{Life}
use Rattle.neph_model.specs.Machine.{is_live}
use Rattle.neph_rows.specs.Slots.{HaveRooms}

dead : false ≡ true → ⊥
dead e = cc

-- at first
pub first_rooms : (lives : List (Option Life)) → HaveRooms lives (map (λ (x : Option Life). is_some x) lives)
first_rooms [] id live = absurd (dead live)
first_rooms (x ∷ xs) zero live = live
first_rooms (x ∷ xs) (suc id) live = first_rooms xs id live

-- a domain that comes with room
pub room_born : (lives : List (Option Life)) (rooms : List Bool) (child : ℕ) (o : Option Life) → child < length rooms → HaveRooms lives rooms → HaveRooms (set lives child o) (set rooms child true)
room_born lives rooms child o lt h id live = elim (cases_eq id child) [
  | inl same ↦ ap (λ k. get_or (set rooms child true) k false) same ∙ get_or-set_same rooms child true false lt
  | inr far ↦ get_or-set_other rooms child id true false far ∙ h id (sym (ap (λ (x : Option Life). is_some x) (get_or-set_other lives child id o None far)) ∙ live)
]

-- a domain that ends
pub room_left : (lives : List (Option Life)) (rooms : List Bool) (dom : ℕ) → dom < length lives → HaveRooms lives rooms → HaveRooms (set lives dom None) (set rooms dom false)
room_left lives rooms dom lt h id live = elim (cases_eq id dom) [
  | inl same ↦ absurd (dead (sym (ap (λ k. is_live k (set lives dom None)) same ∙ ap (λ (x : Option Life). is_some x) (get_or-set_same lives dom None None lt)) ∙ live))
  | inr far ↦ get_or-set_other rooms dom id false false far ∙ h id (sym (ap (λ (x : Option Life). is_some x) (get_or-set_other lives dom id None None far)) ∙ live)
]
