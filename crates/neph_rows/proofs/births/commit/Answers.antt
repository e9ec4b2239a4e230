use Rattle.std.proofs.Common.{◌≡◌, ℕ, List, [], ◌∷◌, ◌++◌, Option, set, sym, ap, subst, ◌∙◌, true, arith, ◌<◌, length}
use Rattle.std.specs.Prelude.{option_map}
use Rattle.neph_model.specs.declared.life.Life.{Life}
use Rattle.neph_model.specs.declared.life.Cloned.{Cloned}
use Rattle.neph_model.specs.Machine.{life_at, guest_at, is_live, no_guest}
use Rattle.std.specs.FinMap as fm
use Rattle.std.proofs.lemmas.List.{length-map}
use Rattle.neph_model.specs.Births.{commit, child_guest}
use Rattle.neph_rows.specs.Kept.{records_of}
use Rattle.neph_rows.specs.Slots.{guest_of, guests_of, rooms_of, HaveRooms}
use Rattle.neph_rows.specs.declared.slots.Slot.{Slot}
use Rattle.neph_rows.specs.Shares.{Shares}
use Rattle.neph_rows.proofs.Homes.{room_born}
use Rattle.neph_rows.specs.Records.{Records, records_in, shared_of}
use Rattle.neph_base.specs.declared.reply.Reply.TheVariants.{Child}
use Rattle.neph_model.specs.Step.{shared_commit, locked}
use Rattle.neph_rows.specs.Sound.{IsSoundRecords}
use Rattle.neph_rows.proofs.Sound.{sound_commit}
use Rattle.neph_rows.proofs.RecordRows.{made, commit_made, life_read, first_split, commit_row}
use Rattle.neph_rows.proofs.births.commit.Goals as goal

-- the children that a commit leaves, and the tables behind it
split : (g : _) (c : goal.After-set_life g) → (left : List ℕ) × ((guest_at c.args.dom (records_of c.r.inside).tables).begun ≡ c.in-Some.child ∷ left)
split g c =
    let two = first_split (guest_at c.args.dom c.args.r.now.tables).begun c.in-Some.child (sym c.in-Some.ensures.value) in
    (two.0, ap (λ (x : Records). (guest_at c.args.dom x.tables).begun) c.r.view_is ∙ two.1)

-- the child shares what the row says
shares : (g : _) (c : goal.After-set_life g) → c.in_ok-sharing.sharing ≡ record { grants = (guest_at c.args.dom (records_of c.r.inside).tables).grants; handles = fm.empty; room = true }
shares g c =
    let from = λ (x : Records). let s : Shares = record { grants = (guest_at c.args.dom x.tables).grants; handles = fm.empty; room = true } in s in
    c.in_ok-sharing.ensures ∙ ap from (sym c.r.view_is)

-- the tables behind the commit are those of its row
tables : (g : _) (c : goal.After-set_life g)
    → made c.set_life.new.lives.items (guests_of c.commit_slots.new.slots.items) c.r.inside.next c.push_back_reserved.new.self.items ≡ records_in (commit (shared_of (records_of c.r.inside) []) c.args.dom c.in-Some.child (split g c).0)
tables g c =
    let r = records_of c.r.inside in
    let low : c.args.dom < length c.r.inside.lives.items = omega (arith, c.get.ensures.value, c.get.ensures.range, c.r.invariant.sound.places) in
    let birth = λ (o : Option Life). option_map (λ (l : Life). record l { parent = c.args.dom }) o in
    let life : c.index.result.now ≡ life_at c.args.dom c.r.inside.lives.items = life_read c.r.inside.lives.items c.get.result c.args.dom c.index.result.now low c.get.ensures.value c.index.ensures in
    let lives : c.set_life.new.lives.items ≡ set c.r.inside.lives.items c.in-Some.child (birth (life_at c.args.dom c.r.inside.lives.items)) =
    c.set_life.ensures.lives ∙ ap (λ (i : ℕ). set c.r.inside.lives.items i c.born-life.result) c.get-2.ensures.value
    ∙ ap (set c.r.inside.lives.items c.in-Some.child) (c.born-life.ensures ∙ ap birth life) in
    let put = λ (x : Shares). set (set (guests_of c.r.inside.slots.items) c.args.dom (record (guest_at c.args.dom r.tables) { begun = (split g c).0 })) c.in-Some.child (record no_guest { grants = x.grants; handles = x.handles }) in
    let guests : guests_of c.commit_slots.new.slots.items ≡ set (set (guests_of c.r.inside.slots.items) c.args.dom (record (guest_at c.args.dom r.tables) { begun = (split g c).0 })) c.in-Some.child (child_guest (guest_at c.args.dom r.tables)) =
    c.commit_slots.ensures.guests (split g c).0 c.in-Some.child (split g c).1 ∙ ap put (shares g c) in
    let pair : Cloned = record { parent = c.args.dom; child = c.in-Some.child } in
    let waiting : c.push_back_reserved.new.self.items ≡ c.r.inside.waiting.items ++ pair ∷ [] = c.push_back_reserved.ensures.items ∙ ap (λ (ws : List Cloned). ws ++ pair ∷ []) c.reserve.ensures.items in
    commit_made r c.args.dom c.in-Some.child (split g c).0 c.set_life.new.lives.items (guests_of c.commit_slots.new.slots.items) c.push_back_reserved.new.self.items lives guests waiting

pub invariant_of-r-2 : goal.invariant_of-r-2
invariant_of-r-2 g c =
    let live = subst (λ (x : Records). is_live c.args.dom x.lives ≡ true) (sym c.r.view_is) c.requires.live in
    let sound = sound_commit (records_of c.r.inside) [] c.args.dom c.in-Some.child (split g c).0 c.r.invariant.sound live (split g c).1 in
    let low : c.in-Some.child < length (rooms_of c.r.inside.slots.items) = omega (arith, c.get-2.ensures.value, c.get-2.ensures.range, c.r.invariant.sound.guests, length-map c.r.inside.slots.items (λ (x : Slot). x.sharing.room), length-map c.r.inside.slots.items guest_of) in
    let rooms : rooms_of c.commit_slots.new.slots.items ≡ set (rooms_of c.r.inside.slots.items) c.in-Some.child true = c.commit_slots.ensures.rooms ∙ ap (λ (x : Shares). set (rooms_of c.r.inside.slots.items) c.in-Some.child x.room) (shares g c) in
    let lives = c.set_life.ensures.lives ∙ ap (λ (i : ℕ). set c.r.inside.lives.items i c.born-life.result) c.get-2.ensures.value in
    let homes : HaveRooms c.set_life.new.lives.items (rooms_of c.commit_slots.new.slots.items) =
    subst (HaveRooms c.set_life.new.lives.items) (sym rooms) (subst (λ (ls : List (Option Life)). HaveRooms ls (set (rooms_of c.r.inside.slots.items) c.in-Some.child true)) (sym lives)
    (room_born c.r.inside.lives.items (rooms_of c.r.inside.slots.items) c.in-Some.child c.born-life.result low c.r.invariant.homes)) in
    record { sound = subst IsSoundRecords (sym (tables g c)) sound; room = c.commit_slots.ensures.room; homes = homes; live = c.set_life.ensures.count; ids = c.set_life.ensures.ids }

pub returns-clause-row : goal.returns-clause-row
returns-clause-row g c =
    let r = records_of c.r.inside in
    let pages = g.E.ExposedPages.pages c.args.pages.now in
    let new = made c.set_life.new.lives.items (guests_of c.commit_slots.new.slots.items) c.r.inside.next c.push_back_reserved.new.self.items in
    subst (λ (x : Records). shared_commit (shared_of x pages) c.args.dom (guest_at c.args.dom x.tables).begun ≡ locked (shared_of new (g.E.ExposedPages.pages c.bear.new.self)) (Child c.in-Some.child)) c.r.view_is
    (commit_row r new pages (g.E.ExposedPages.pages c.bear.new.self) c.args.dom c.in-Some.child (split g c).0 (guest_at c.args.dom r.tables).begun (split g c).1 (tables g c) c.in_ok-bear.ensures.ok)
