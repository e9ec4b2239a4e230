use Rattle.std.proofs.Common.{[], None, set, subst, sym, ap, ◌∙◌, refl, arith}
use Rattle.std.specs.Prelude.{List, Bool}
use Rattle.neph_model.specs.Machine.{no_guest}
use Rattle.neph_model.specs.declared.life.Life.{Life}
use Rattle.neph_rows.specs.Kept.{records_of}
use Rattle.neph_rows.specs.Shares.{Shares}
use Rattle.neph_rows.specs.Slots.{guests_of, rooms_of, HaveRooms}
use Rattle.neph_rows.specs.Sound.{IsSoundRecords}
use Rattle.neph_rows.proofs.Homes.{room_left}
use Rattle.neph_rows.proofs.Sound.{sound_end}
use Rattle.neph_rows.proofs.RecordRows.{same_records}
use Rattle.neph_rows.proofs.births.end.Goals as goal

pub invariant_of-r : goal.invariant_of-r
invariant_of-r g c =
    let r = records_of c.r.inside in
    let lives = c.set_life.ensures.lives ∙ ap (λ id. set c.r.inside.lives.items id None) c.get-at.ensures.value in
    let guests = c.clear.ensures.guests ∙ ap (λ (x : Shares). set (guests_of c.r.inside.slots.items) c.get-at.result (record no_guest { grants = x.grants; handles = x.handles })) c.none.ensures
    ∙ ap (λ id. set (guests_of c.r.inside.slots.items) id no_guest) c.get-at.ensures.value in
    let same = same_records c.set_life.new.lives.items _ (guests_of c.clear.new.slots.items) _ c.r.inside.next c.r.inside.waiting.items c.r.inside.waiting.items lives guests refl in
    let rooms = c.clear.ensures.rooms ∙ ap (λ (x : Shares). set (rooms_of c.r.inside.slots.items) c.get-at.result x.room) c.none.ensures in
    record {
      sound = subst IsSoundRecords (sym same) (sound_end r [] c.args.dom c.r.invariant.sound);
      room = c.clear.ensures.room;
      homes = subst (HaveRooms c.set_life.new.lives.items) (sym rooms)
          (subst (λ (ls : List _). HaveRooms ls (set (rooms_of c.r.inside.slots.items) c.get-at.result _)) (sym c.set_life.ensures.lives)
          (room_left c.r.inside.lives.items (rooms_of c.r.inside.slots.items) c.get-at.result (omega (arith, c.get-at.ensures.value, c.get-at.ensures.range, c.r.invariant.sound.places)) c.r.invariant.homes));
      live = c.set_life.ensures.count;
      ids = c.set_life.ensures.ids;
    }
