use Rattle.std.proofs.Common.{◌≡◌, All, map, take}
use Rattle.std.specs.Prelude.{is_some, Option}
use Rattle.neph_model.specs.declared.life.Life.{Life}
use Rattle.neph_rows.specs.Slots.{guests_of, rooms_of, first_guest, HasRoom}
use Rattle.neph_rows.proofs.registry.Registry.new.Given as goal

abbrev pub invariant-loop-life : goal.invariant-loop-life
invariant-loop-life l =
    record { guests : guests_of l.slots.items ≡ map first_guest (take l.life-index l.life-items); rooms : rooms_of l.slots.items ≡ map (λ (x : Option Life). is_some x) (take l.life-index l.life-items); room : All HasRoom l.slots.items }
