use Rattle.std.proofs.Common.{ℕ, false, true, Vec, refl, ap, ◌∙◌}
use Rattle.neph_guest.specs.Forked.{guest_behind}
use Rattle.neph_machine.specs.declared.place.Place.TheVariants.{Empty, Flight as InFlight, Domain}
use Rattle.neph_machine.specs.declared.machine.Machine.{Machine}
use Rattle.neph_machine.specs.Reached.{state_after}
use Rattle.neph_machine.proofs.Reached.{reached}
use Rattle.neph_machine.proofs.Paired.{domain, flight}
use Rattle.neph_commit.proofs.Taken.{filled, with_guest, apart, still_live, pair_taken}
use Rattle.neph_commit.proofs.Forked.{line_small}
use Rattle.neph_commit.proofs.Born.{live_then}
use Rattle.neph_commit.proofs.Commits.{commit_took}
use Rattle.neph_commit.proofs.Lacking.{flight_of, commit_lacked}
use Rattle.neph_commit.proofs.commit.commit_turn.Goals as goal

pub live_mut-live-requires-clause-live : goal.live_mut-live-requires-clause-live
live_mut-live-requires-clause-live g c =
    still_live c.args.machine.now c.args.id c.args.child c.requires.forked
    c.take_flight-flight.new.places.items (ap (λ (v : Vec _ _). v.items) c.take_flight-flight.ensures.left)

pub commit_turn-requires-clause-room : goal.commit_turn-requires-clause-room
commit_turn-requires-clause-room g c =
    let old = c.args.machine.now in
    let n = c.requires.running in
    let l = c.live_mut-live.result.now in
    let f = c.take_flight-flight.result in
    let both = pair_taken old c.args.id c.args.child c.requires.forked c.requires.at l f
    c.take_flight-flight.new.places.items c.take_flight-flight.ensures.here
    (ap (λ (v : Vec _ _). v.items) c.take_flight-flight.ensures.left) c.live_mut-live.ensures.here in
    line_small g.P.FramePool.world old (state_after old.script n.0)
    (reached old.script c.requires.formed n.0) n.1 c.args.id c.args.child l f both.0

pub returns-in-Ok : goal.returns-in-Ok
returns-in-Ok g c before stands =
    let W = g.P.FramePool.world in
    let old = c.args.machine.now in
    let id = c.args.id in
    let child = c.args.child in
    let st = state_after old.script before in
    let r = reached old.script c.requires.formed before in
    let l = c.live_mut-live.result.now in
    let f = c.take_flight-flight.result in
    let m = c.commit_turn.new.live in
    let k = c.in-Ok.born in
    let e = c.in-Ok.ensures in
    let call = e.committed.call in
    let born = e.born.born in
    let its = e.committed.born in
    let both = pair_taken old id child c.requires.forked c.requires.at l f
    c.take_flight-flight.new.places.items c.take_flight-flight.ensures.here
    (ap (λ (v : Vec _ _). v.items) c.take_flight-flight.ensures.left) c.live_mut-live.ensures.here in
    let new : Machine _ _ =
    record {
      script = old.script;
      pool = c.commit_turn.new.pool;
      hv = c.commit_turn.new.hv;
      places = c.put_live.new.places;
    } in
    commit_took W old st r stands id child l f both.0 new m.local k.local c.in-Ok.reply
    (record {
      places = filled id child Empty (Domain m) (Domain (live_then id l.guest.line false m.local))
          (Domain k) (Domain (live_then child l.guest.line true k.local))
          old.places.items c.take_flight-flight.new.places.items c.put_live.new.places.items
          (apart old id child c.requires.forked) (ap (λ (v : Vec _ _). v.items) c.take_flight-flight.ensures.left) c.put_live.ensures
          (with_guest m.guest (guest_behind id l.guest.line false) m.local
          (e.born.parent ∙ ap (λ (i : ℕ). guest_behind i l.guest.line false) (domain W old st r stands id child l f both.0).dom))
          (with_guest k.guest (guest_behind child l.guest.line true) k.local
          (e.born.child ∙ ap (λ (i : ℕ). guest_behind i l.guest.line true) (flight W old st r stands id child l f both.0).child));
      script = refl;
      hv = call.hv;
      stands = e.stands;
      same = e.same;
      row = its.row;
      grown = born.stands;
      born = born.born;
      id_is = born.id;
      still = its.still;
      pages = its.pages;
      names = e.committed.names;
      others = call.others;
      shares = call.shares;
    }) c.requires.surveyed both.1

pub returns-in-Err : goal.returns-in-Err
returns-in-Err g c before stands =
    let old = c.args.machine.now in
    let id = c.args.id in
    let child = c.args.child in
    let l = c.live_mut-live.result.now in
    let f = c.take_flight-flight.result in
    let fork = c.in-Err.fork in
    let e = c.in-Err.ensures in
    let call = e.committed.call in
    let its = e.committed.born in
    let both = pair_taken old id child c.requires.forked c.requires.at l f
    c.take_flight-flight.new.places.items c.take_flight-flight.ensures.here
    (ap (λ (v : Vec _ _). v.items) c.take_flight-flight.ensures.left) c.live_mut-live.ensures.here in
    let new : Machine _ _ =
    record {
      script = old.script;
      pool = c.commit_turn.new.pool;
      hv = c.commit_turn.new.hv;
      places = c.put_place.new.places;
    } in
    let k = c.commit_turn.new.live in
    commit_lacked g.P.FramePool.world old (state_after old.script before)
    (reached old.script c.requires.formed before) stands id child l f both.0 new k fork
    (record {
      places = filled id child Empty (Domain k) (Domain k) (InFlight (flight_of id fork))
          (InFlight (flight_of id fork))
          old.places.items c.take_flight-flight.new.places.items c.put_place.new.places.items
          (apart old id child c.requires.forked) (ap (λ (v : Vec _ _). v.items) c.take_flight-flight.ensures.left)
          c.put_place.ensures.items refl refl;
      script = refl;
      guest_same = e.back.guest;
      hv = call.hv;
      stands = e.stands;
      same = e.same;
      back = e.back.hand;
      unborn = e.back.same;
      stock = its.stock;
      shared = its.shared;
      names = e.committed.names;
      others = call.others;
      shares = call.shares;
    })
