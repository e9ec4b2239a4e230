use Rattle.std.proofs.Common.{ℕ, List, length, refl, ap, ◌∙◌, arith}
use Rattle.std.proofs.lemmas.List.{length-append}
use Rattle.neph_hv.proofs.Frames.{filled_once, filled_sole, filled_only}
use Rattle.neph_boot.proofs.HeapLeft.{devices_left, lists_left, behind}
use Rattle.neph_boot.proofs.domain.open_domain.Goals as goal

pub fresh_seat-requires-clause-free : goal.fresh_seat-requires-clause-free
fresh_seat-requires-clause-free g c =
    let W = g.P.FramePool.world in
    let m = c.args.m.now in
    let did = c.in_ok-expose_devices.ensures in
    let left = devices_left (W.entries m.pool m.hv.heap.seat) (W.entries c.expose_devices.new.pool c.expose_devices.new.self.seat) m.hv.heap.stock c.expose_devices.new.self.stock c.args.id did.pages c.requires.heap.domains did.heap.domains (did.heap.pages c.args.id) did.free in
    omega (arith, left, c.requires.free, c.requires.many)

pub start-requires-clause-once : goal.start-requires-clause-once
start-requires-clause-once g c = filled_once _ _ c.in_ok-made.ensures.made.has

pub start-requires-clause-sole : goal.start-requires-clause-sole
start-requires-clause-sole g c = filled_sole _ _ c.in_ok-made.ensures.made.has

pub start-requires-clause-only : goal.start-requires-clause-only
start-requires-clause-only g c = filled_only _ _ c.in_ok-made.ensures.made.has

pub returns : goal.returns
returns g c =
    let W = g.P.FramePool.world in
    let m = c.args.m.now in
    let mid = c.expose_devices.new.self in
    let new = c.fresh_seat.new.self in
    let shown = c.in_ok-expose_devices.ensures in
    let made = c.in_ok-made.ensures in
    let did = c.in_ok-local.ensures in
    let p = c.expose_devices.new.pool in
    let id = c.args.id in
    let rest = behind W m.pool p c.fresh_seat.new.pool c.start.new.pool m.hv.heap.seat mid.seat new.seat c.in_ok-made.made.0 new.stock id shown.moves made.others made.names made.made.names did.moves.others c.requires.name made.heap in
    let lists = lists_left m.hv.heap.stock mid.stock new.stock id shown.rest made.rest in
    let left = devices_left (W.entries m.pool m.hv.heap.seat) (W.entries p mid.seat) m.hv.heap.stock mid.stock id shown.pages c.requires.heap.domains shown.heap.domains (shown.heap.pages id) shown.free in
    let taken = ap (λ (xs : List ℕ). length xs) made.free ∙ length-append new.stock.free c.in_ok-made.made.1.items in
    record {
      domain = record { guest = c.start_guest-guest.result; local = c.in_ok-local.local };
      places = c.put_live.ensures;
      script = refl;
      registry = refl;
      guest = c.start_guest-guest.ensures;
      id_is = did.id;
      stands = did.stands;
      started = did.started;
      leaves = did.leaves;
      none = did.none;
      left = omega (arith, left, taken, made.count, c.requires.many);
      exposed = lists.0;
      aside = lists.1;
      shown = rest.shown ∙ made.pages ∙ shown.pages;
      names = rest.names;
      spares = rest.spares;
      heap = rest.heap;
      shares = did.counts.shares ∙ made.shares ∙ shown.shares;
    }
