use Rattle.std.proofs.Common.{◌≡◌, ◌+◌, ◌-◌, ◌^◌, cond, min, ap, ◌∙◌}
use Rattle.std.specs.Vec.{with_item}
use Rattle.neph_local.specs.declared.forking.Fork.{Fork}
use Rattle.neph_guest.specs.declared.live.Guest.{Guest}
use Rattle.neph_guest.specs.declared.live.Live.{Live}
use Rattle.neph_machine.specs.declared.place.Place.TheVariants.{Domain, Flight as InFlight}
use Rattle.neph_machine.specs.Reached.{state_after}
use Rattle.neph_machine.proofs.Reached.{reached}
use Rattle.neph_forks.proofs.Stepping.{child_flies, still_live, standing, in_hand, took, unmoved, forked}
use Rattle.neph_forks.proofs.page.step_page.Goals as goal

pub take_flight-flight-requires-clause-flies : goal.take_flight-flight-requires-clause-flies
take_flight-flight-requires-clause-flies g c =
    let old = c.args.machine.now in
    let n = c.requires.running in
    child_flies g.P.FramePool.world old (state_after old.script n.0) (reached old.script c.requires.formed n.0) n.1 c.args.id c.args.child c.requires.forking c.requires.begun

pub live_mut-live-requires-clause-live : goal.live_mut-live-requires-clause-live
live_mut-live-requires-clause-live g c =
    let old = c.args.machine.now in
    let n = c.requires.running in
    still_live g.P.FramePool.world old (state_after old.script n.0) (reached old.script c.requires.formed n.0) n.1 c.args.id c.args.child c.requires.forking c.requires.begun c.take_flight-flight.new.places c.take_flight-flight.ensures.left

pub page_turn-stepped-requires : goal.page_turn-stepped-requires
page_turn-stepped-requires g c =
    let W = g.P.FramePool.world in
    let old = c.args.machine.now in
    let n = c.requires.running in
    let st = state_after old.script n.0 in
    let r = reached old.script c.requires.formed n.0 in
    let one = c.take_flight-flight.new.places in
    let emptied = c.take_flight-flight.ensures.left in
    let l = c.live_mut-live.result.now in
    let f = c.take_flight-flight.result in
    record {
      stands = standing W old st r n.1 c.args.id c.args.child c.requires.forking c.requires.begun one emptied l c.live_mut-live.ensures.here f c.take_flight-flight.ensures.here;
      fork = in_hand W old st r n.1 c.args.id c.args.child c.requires.forking c.requires.begun one emptied l c.live_mut-live.ensures.here f c.take_flight-flight.ensures.here;
    }

-- where the guest and its fork are as they were, so is the memory
unmoved_parts : {Pool Seat : Type 0} (l m : Live Pool Seat) (f k : Fork Pool Seat) (p q : Pool) → (k ≡ f) × (m ≡ l) × (q ≡ p) → (k ≡ f) × (m.local ≡ l.local) × (q ≡ p)
unmoved_parts l m f k p q same = (same.0, ap (λ (v : Live _ _). v.local) same.1, same.2)

pub returns : goal.returns
returns g c =
    let W = g.P.FramePool.world in
    let old = c.args.machine.now in
    let n = c.requires.running in
    let did = c.page_turn-stepped.ensures in
    let one = c.take_flight-flight.new.places in
    let emptied = c.take_flight-flight.ensures.left in
    let l = c.live_mut-live.result.now in
    let met = c.live_mut-live.ensures.here in
    let f = c.take_flight-flight.result in
    let flies = c.take_flight-flight.ensures.here in
    let q = c.page_turn-stepped.new.pool in
    let m = c.page_turn-stepped.new.live in
    let d = m.local in
    let k = c.page_turn-stepped.new.fork in
    let places = c.put_place.new.places in
    let put = c.put_place.ensures.put ∙ ap (λ (v : Guest). with_item (with_item one c.args.id (Domain (record { guest = v; local = d }))) c.args.child (InFlight (record f { fork = k }))) did.guest in
    record {
      stepped = λ e before stands.
          took W old (state_after old.script before) (reached old.script c.requires.formed before) stands c.args.id c.args.child c.requires.forking c.requires.begun one emptied l met f flies q d k places put did.others
          (record { stands = did.stands; fork = did.fork; next = did.shared e; child = did.child; map = did.map; spare = did.spare; bytes = did.bytes; mappings = did.mappings; leaves = did.leaves; id = did.id; hand = did.hand })
          (did.shares ∙ ap (λ b. cond b (min (W.shares old.pool + 1) (2 ^ 64 - 1)) (W.shares old.pool)) e);
      same = λ e.
          unmoved W old (state_after old.script n.0) (reached old.script c.requires.formed n.0) n.1 c.args.id c.args.child c.requires.forking c.requires.begun one emptied l met f flies q d k places put (unmoved_parts l m f.fork k old.pool q (did.same e));
      done = λ e.
          forked W old (state_after old.script n.0) (reached old.script c.requires.formed n.0) n.1 c.args.id c.args.child c.requires.forking c.requires.begun one emptied l met f flies q d k places put (unmoved_parts l m f.fork k old.pool q (did.same e)) (did.done e);
    }
