-- What a line says breaks no count.
use Rattle.std.proofs.Common.{◌≡◌, ℕ, List, length, refl, Bool, true, false, Ok}
use Rattle.std.specs.Prelude.{◌||◌, nat_le}
use Rattle.neph_script.specs.declared.form.Form.TheVariants as form
use Rattle.neph_script.specs.declared.state.Place.{Place}
use Rattle.neph_script.specs.declared.state.Place.TheVariants as place
use Rattle.std.proofs.lemmas.Bool.{leb-false}
use Rattle.neph_script.specs.State.{Read}
use Rattle.neph_script.specs.Seen.{Fits}
use Rattle.neph_script.specs.Lines.{judged, may_stand}
use Rattle.neph_script.specs.Spelling.{Stands}
use Rattle.neph_script.specs.declared.state.Item.{Item}
use Rattle.neph_script.specs.declared.state.Item.TheVariants as item
use Rattle.neph_script.proofs.LineLaws.{judged_stands}

inside : (p : Place) → may_stand form.End p ≡ true → p ≡ place.Inside
inside place.Inside e = refl
inside place.Top e = absurd cc
inside place.Headed e = absurd cc
inside place.Framed e = absurd cc
inside place.Between e = absurd cc
inside place.Started e = absurd cc
inside place.Turned e = absurd cc

pub first : (a b : Bool) → (a || b) ≡ false → a ≡ false
first true b e = absurd cc
first false b e = refl

pub fits : (r : Read) (ws : List (List ℕ)) (i : Item) → Stands r ws i → Fits r i
fits r ws item.Heading s = tt
fits r ws (item.Frames n) s = s.said.1
fits r ws (item.Program name) s = leb-false 16 (length r.programs) s.few
fits r ws (item.Command c) s = leb-false 512 (length r.draft.said) s.few
fits r ws (item.Label name) s = leb-false 512 (length r.draft.labels) s.few
fits r ws (item.End cs) s = inside r.place s.place
fits r ws (item.Start t) s = (leb-false 16 (length r.starts) s.few, s.said.pages_high)
fits r ws (item.Turns more) s = leb-false 64 r.turn_lines (first (nat_le 64 r.turn_lines) _ s.few)

pub judged_fits : (r : Read) (ws : List (List ℕ)) (i : Item) → judged r ws ≡ Ok i → Fits r i
judged_fits r ws i e = fits r ws i (judged_stands r ws i e)
