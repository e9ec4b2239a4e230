use Rattle.std.proofs.Common.{◌≡◌, ℕ, ◌+◌, List, [], ◌∷◌, ◌++◌, get_or, set, arith, sym, ap, subst, ◌∙◌, refl}
use Rattle.neph_model.specs.declared.life.Guest.{Guest}
use Rattle.neph_model.specs.Machine.{no_guest, guest_at}
use Rattle.neph_model.specs.Trap.{begin_clone}
use Rattle.neph_rows.specs.Kept.{records_of}
use Rattle.neph_rows.specs.Slots.{guests_of, HaveRooms}
use Rattle.neph_rows.specs.Sound.{MayBegin, IsSoundRecords}
use Rattle.neph_rows.specs.Records.{Records}
use Rattle.neph_rows.proofs.Sound.{sound_begin}
use Rattle.neph_rows.proofs.RecordRows.{made, same_records}
use Rattle.neph_rows.proofs.CloneRows.{clone_begun}
use Rattle.neph_rows.proofs.clone.begin.Goals as goal

child : (c : goal.After-r-1) → c.unwrap-child.result ≡ c.r.inside.next
child c = grind arith

-- the tables behind the begin
tables : (c : goal.After-r-1) → made c.r.inside.lives.items (guests_of c.count_clone.new.slots.items) (c.r.inside.next + 1) c.r.inside.waiting.items ≡ record (records_of c.r.inside) { tables = begin_clone (records_of c.r.inside).tables c.args.dom (guest_at c.args.dom (records_of c.r.inside).tables) }
tables c =
    let more = λ (gs : List Guest) (id new : ℕ). let g = get_or gs id no_guest in let h : Guest = record g { begun = g.begun ++ new ∷ []; accepted = g.accepted + 1 } in set gs id h in
    let guests : guests_of c.count_clone.new.slots.items ≡ more (guests_of c.r.inside.slots.items) c.args.dom c.r.inside.next =
    c.count_clone.ensures.guests ∙ ap (λ id. more (guests_of c.r.inside.slots.items) id c.unwrap-child.result) c.get.ensures.value
    ∙ ap (more (guests_of c.r.inside.slots.items) c.args.dom) (child c) in
    same_records c.r.inside.lives.items _ (guests_of c.count_clone.new.slots.items) _ (c.r.inside.next + 1) c.r.inside.waiting.items c.r.inside.waiting.items refl guests refl

pub invariant_of-r : goal.invariant_of-r
invariant_of-r c =
    let r = records_of c.r.inside in
    let may = subst (λ (x : Records). MayBegin x c.args.dom) (sym c.r.view_is) c.requires in
    record { sound = subst IsSoundRecords (sym (tables c)) (sound_begin r c.args.dom c.r.invariant.sound may); room = c.count_clone.ensures.room; homes = subst (HaveRooms c.r.inside.lives.items) (sym c.count_clone.ensures.rooms) c.r.invariant.homes; live = c.r.invariant.live; ids = c.r.invariant.ids }

pub returns-clause-row : goal.returns-clause-row
returns-clause-row c = λ pages l told none.
    clone_begun c.args.r.now _ pages c.args.dom c.unwrap-child.result l told none (ap (λ (x : Records). x.lives) c.r.view_is)
    (ap (λ (x : Records). x.tables) (tables c) ∙ ap (λ (x : Records). begin_clone x.tables c.args.dom (guest_at c.args.dom x.tables)) c.r.view_is)
    (child c ∙ ap (λ (x : Records). x.tables.next) c.r.view_is)
