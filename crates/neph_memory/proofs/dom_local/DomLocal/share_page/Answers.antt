use Rattle.std.proofs.Common.{ℕ, List, length, refl, false, set, sym, ap, subst, ◌∙◌, arith}
use Rattle.neph_ptab.specs.Moves.{walk_moved}
use Rattle.std.specs.Vec.{with_item}
use Rattle.neph_ptab.specs.Tables.{leaf_at, walk_at}
use Rattle.neph_memory.specs.declared.own.Own.{Own}
use Rattle.neph_memory.proofs.Rooming.{room_after}
use Rattle.neph_memory.proofs.Leading.{named}
use Rattle.neph_memory.proofs.Lending.{both_spare, lent_holds, mark_gone, mark_clear}
use Rattle.neph_memory.proofs.Writing.{memory_held, leaves_held, shown_held}
use Rattle.neph_memory.proofs.Places.{frame_small}
use Rattle.neph_memory.proofs.Sharing.{lent_tables, lent_local, lent_shown, lent_bytes, lent_memory}
use Rattle.neph_gmap.specs.GuestPages.{has_number, vpns_at}
use Rattle.neph_memory.specs.Memory.{IsMemory, vpn_mapping}
use Rattle.neph_memory.proofs.Moves.{moved_shared}
use Rattle.neph_memory.proofs.Standing.{leaf_words}
use Rattle.neph_memory.proofs.dom_local.DomLocal.share_page.Goals as goal

pub lend-requires-clause-seat : goal.lend-requires-clause-seat
lend-requires-clause-seat g c = (c.requires.stands.fits, named _ _ c.requires.stands.names)

pub move_page-requires-clause-seat : goal.move_page-requires-clause-seat
move_page-requires-clause-seat g c = (c.lend.ensures.seat.fits, named _ _ (c.lend.ensures.seat.names ∙ c.requires.stands.names))

pub move_page-requires-clause-stands : goal.move_page-requires-clause-stands
move_page-requires-clause-stands g c =
    lent_tables _ _ c.args.self.now.tables.root c.args.self.now.own c.requires.stands.memory c.args.p c.unwrap-frame.result
    (sym c.frame_for.ensures ∙ c.unwrap-frame.ensures) c.lend.ensures.kept c.lend.ensures.holds c.lend.ensures.words

pub move_page-requires-clause-local : goal.move_page-requires-clause-local
move_page-requires-clause-local g c = λ u lt h.
    lent_local _ _ c.args.self.now.tables.root c.args.self.now.own c.requires.stands.memory c.args.p c.unwrap-frame.result
    (sym c.frame_for.ensures ∙ c.unwrap-frame.ensures) c.lend.ensures.kept c.lend.ensures.holds c.lend.ensures.words u lt (ap (has_number u) (sym c.vpns.ensures.vpns) ∙ h)

pub index-marked-requires : goal.index-marked-requires
index-marked-requires g c =
    let small = frame_small _ c.args.p c.unwrap-frame.result (sym c.frame_for.ensures ∙ c.unwrap-frame.ensures) in
    omega (arith, small, c.get-place.ensures.value, c.requires.stands.memory.made.marks, c.args.self.now.own.marks.ok.0)

pub index_mut-requires : goal.index_mut-requires
index_mut-requires g c =
    let small = frame_small _ c.args.p c.unwrap-frame.result (sym c.frame_for.ensures ∙ c.unwrap-frame.ensures) in
    omega (arith, small, c.get-place.ensures.value, c.requires.stands.memory.made.marks, c.args.self.now.own.marks.ok.0)

pub returns-then-not-marked-clause-stands : goal.returns-then-not-marked-clause-stands
returns-then-not-marked-clause-stands g c =
    let es = g.P.FramePool.world.entries c.args.pool.now c.args.self.now.seat in
    let fs = g.P.FramePool.world.entries c.lend.new.pool c.lend.new.seat in
    let root = c.args.self.now.tables.root in
    let o = c.args.self.now.own in
    let holds = lent_holds (g.P.FramePool.world.entries c.args.pool.now c.args.self.now.seat) (g.P.FramePool.world.entries c.lend.new.pool c.lend.new.seat) c.args.self.now.tables.root c.args.self.now.own c.requires.stands.memory c.args.p c.unwrap-frame.result
    (sym c.frame_for.ensures ∙ c.unwrap-frame.ensures)
    (mark_clear c.args.self.now.own.marks.items c.args.p c.get-place.result c.index-marked.result.now c.get-place.ensures.value c.index-marked.ensures c.if-not-marked.true
    (let small = frame_small _ c.args.p c.unwrap-frame.result (sym c.frame_for.ensures ∙ c.unwrap-frame.ensures) in omega (arith, small, c.requires.stands.memory.made.marks)))
    c.lend.ensures.kept c.lend.ensures.holds in record {
      fits = c.lend.ensures.seat.fits;
      names = c.lend.ensures.seat.names ∙ c.requires.stands.names;
      room = room_after es fs root root (length o.map.pages) (length o.map.pages) _ _ c.requires.stands.room refl
          (λ i l. leaves_held es fs root o c.requires.stands.memory holds (λ x t. c.lend.ensures.words x) i) c.lend.ensures.others.cap;
      identity = c.requires.stands.identity;
      memory = memory_held es fs root o c.requires.stands.memory holds (λ x t. c.lend.ensures.words x);
    }

pub returns-then-not-marked-clause-mappings : goal.returns-then-not-marked-clause-mappings
returns-then-not-marked-clause-mappings g c = λ u lt.
    shown_held (g.P.FramePool.world.entries c.args.pool.now c.args.self.now.seat) (g.P.FramePool.world.entries c.lend.new.pool c.lend.new.seat) c.args.self.now.tables.root c.args.self.now.own c.requires.stands.memory (lent_holds (g.P.FramePool.world.entries c.args.pool.now c.args.self.now.seat) (g.P.FramePool.world.entries c.lend.new.pool c.lend.new.seat) c.args.self.now.tables.root c.args.self.now.own c.requires.stands.memory c.args.p c.unwrap-frame.result
    (sym c.frame_for.ensures ∙ c.unwrap-frame.ensures)
    (mark_clear c.args.self.now.own.marks.items c.args.p c.get-place.result c.index-marked.result.now c.get-place.ensures.value c.index-marked.ensures c.if-not-marked.true
    (let small = frame_small _ c.args.p c.unwrap-frame.result (sym c.frame_for.ensures ∙ c.unwrap-frame.ensures) in omega (arith, small, c.requires.stands.memory.made.marks)))
    c.lend.ensures.kept c.lend.ensures.holds) (λ x t. c.lend.ensures.words x) u lt

pub returns-then-not-marked-clause-leaves : goal.returns-then-not-marked-clause-leaves
returns-then-not-marked-clause-leaves g c = λ i lt.
    leaves_held (g.P.FramePool.world.entries c.args.pool.now c.args.self.now.seat) (g.P.FramePool.world.entries c.lend.new.pool c.lend.new.seat) c.args.self.now.tables.root c.args.self.now.own c.requires.stands.memory (lent_holds (g.P.FramePool.world.entries c.args.pool.now c.args.self.now.seat) (g.P.FramePool.world.entries c.lend.new.pool c.lend.new.seat) c.args.self.now.tables.root c.args.self.now.own c.requires.stands.memory c.args.p c.unwrap-frame.result
    (sym c.frame_for.ensures ∙ c.unwrap-frame.ensures)
    (mark_clear c.args.self.now.own.marks.items c.args.p c.get-place.result c.index-marked.result.now c.get-place.ensures.value c.index-marked.ensures c.if-not-marked.true
    (let small = frame_small _ c.args.p c.unwrap-frame.result (sym c.frame_for.ensures ∙ c.unwrap-frame.ensures) in omega (arith, small, c.requires.stands.memory.made.marks)))
    c.lend.ensures.kept c.lend.ensures.holds) (λ x t. c.lend.ensures.words x) i

pub returns-clause-mark : goal.returns-clause-mark
returns-clause-mark g c =
    let small = frame_small _ c.args.p c.unwrap-frame.result (sym c.frame_for.ensures ∙ c.unwrap-frame.ensures) in
    mark_gone c.args.self.now.own.marks.items c.args.p c.get-place.result c.get-place.ensures.value (omega (arith, small, c.requires.stands.memory.made.marks))

pub returns-clause-stands : goal.returns-clause-stands
returns-clause-stands g c =
    let fs = g.P.FramePool.world.entries c.move_page.new.pool c.move_page.new.seat in
    let after : Own = record { map = c.args.self.now.own.map; marks = with_item c.args.self.now.own.marks c.get-place.result false; spare = c.args.self.now.own.spare } in record {
      fits = c.move_page.ensures.moves.fits;
      names = c.move_page.ensures.moves.names ∙ c.lend.ensures.seat.names ∙ c.requires.stands.names;
      room = room_after _ fs c.args.self.now.tables.root c.move_page.new.self.root (length c.args.self.now.own.map.pages) (length c.args.self.now.own.map.pages) _ _ c.requires.stands.room refl
          (λ i l. ap (λ (r : ℕ). leaf_at fs r i) c.move_page.ensures.root ∙ c.move_page.ensures.tables.leaves i l ∙ leaf_words _ _ c.args.self.now.tables.root i (c.lend.ensures.words c.args.self.now.tables.root))
          (c.move_page.ensures.moves.others.cap ∙ c.lend.ensures.others.cap);
      identity = c.requires.stands.identity;
      memory = subst (λ (r : ℕ). IsMemory fs r after) (sym c.move_page.ensures.root)
          (lent_memory _ _ c.args.self.now.tables.root c.args.self.now.own c.requires.stands.memory c.args.p c.unwrap-frame.result
          (sym c.frame_for.ensures ∙ c.unwrap-frame.ensures) c.lend.ensures.kept c.lend.ensures.holds c.lend.ensures.words
          (g.P.FramePool.world.entries c.move_page.new.pool c.move_page.new.seat) c.move_page.ensures.tables
          (λ u lt. c.move_page.ensures.walks u lt ∙ ap (λ (xs : List ℕ). walk_moved c.unwrap-frame.result false xs u (walk_at (g.P.FramePool.world.entries c.lend.new.pool c.lend.new.seat) c.args.self.now.tables.root u)) c.vpns.ensures.vpns
          ∙ moved_shared c.unwrap-frame.result (vpns_at c.args.self.now.own.map c.args.p) u (walk_at (g.P.FramePool.world.entries c.lend.new.pool c.lend.new.seat) c.args.self.now.tables.root u))
          (with_item c.args.self.now.own.marks c.get-place.result false) (ap (λ (k : ℕ). set c.args.self.now.own.marks.items k false) c.get-place.ensures.value));
    }

pub returns-clause-bytes : goal.returns-clause-bytes
returns-clause-bytes g c = λ q.
    lent_bytes _ _ c.args.self.now.tables.root c.args.self.now.own c.requires.stands.memory c.args.p c.unwrap-frame.result
    (sym c.frame_for.ensures ∙ c.unwrap-frame.ensures) c.lend.ensures.kept c.lend.ensures.holds c.lend.ensures.words
    (g.P.FramePool.world.entries c.move_page.new.pool c.move_page.new.seat) c.move_page.ensures.tables
    (λ u lt. c.move_page.ensures.walks u lt ∙ ap (λ (xs : List ℕ). walk_moved c.unwrap-frame.result false xs u (walk_at (g.P.FramePool.world.entries c.lend.new.pool c.lend.new.seat) c.args.self.now.tables.root u)) c.vpns.ensures.vpns
    ∙ moved_shared c.unwrap-frame.result (vpns_at c.args.self.now.own.map c.args.p) u (walk_at (g.P.FramePool.world.entries c.lend.new.pool c.lend.new.seat) c.args.self.now.tables.root u))
    (with_item c.args.self.now.own.marks c.get-place.result false) (ap (λ (k : ℕ). set c.args.self.now.own.marks.items k false) c.get-place.ensures.value) q

pub returns-clause-mappings : goal.returns-clause-mappings
returns-clause-mappings g c = λ u le.
    ap (λ (r : ℕ). vpn_mapping (g.P.FramePool.world.entries c.move_page.new.pool c.move_page.new.seat) r c.args.self.now.own.map.pages u) c.move_page.ensures.root
    ∙ lent_shown _ _ c.args.self.now.tables.root c.args.self.now.own c.requires.stands.memory c.args.p c.unwrap-frame.result
    (sym c.frame_for.ensures ∙ c.unwrap-frame.ensures) c.lend.ensures.kept c.lend.ensures.holds c.lend.ensures.words
    (g.P.FramePool.world.entries c.move_page.new.pool c.move_page.new.seat) c.move_page.ensures.tables
    (λ u lt. c.move_page.ensures.walks u lt ∙ ap (λ (xs : List ℕ). walk_moved c.unwrap-frame.result false xs u (walk_at (g.P.FramePool.world.entries c.lend.new.pool c.lend.new.seat) c.args.self.now.tables.root u)) c.vpns.ensures.vpns
    ∙ moved_shared c.unwrap-frame.result (vpns_at c.args.self.now.own.map c.args.p) u (walk_at (g.P.FramePool.world.entries c.lend.new.pool c.lend.new.seat) c.args.self.now.tables.root u))
    (with_item c.args.self.now.own.marks c.get-place.result false) (ap (λ (k : ℕ). set c.args.self.now.own.marks.items k false) c.get-place.ensures.value) u le

pub returns-clause-leaves : goal.returns-clause-leaves
returns-clause-leaves g c = λ i l.
    let fs = g.P.FramePool.world.entries c.move_page.new.pool c.move_page.new.seat in
    ap (λ (r : ℕ). leaf_at fs r i) c.move_page.ensures.root ∙ c.move_page.ensures.tables.leaves i l ∙ leaf_words _ _ c.args.self.now.tables.root i (c.lend.ensures.words c.args.self.now.tables.root)

pub returns-clause-seat : goal.returns-clause-seat
returns-clause-seat g c = record {
  fits = c.move_page.ensures.moves.fits;
  names = c.move_page.ensures.moves.names ∙ c.lend.ensures.seat.names;
}

pub returns-clause-others : goal.returns-clause-others
returns-clause-others g c =
    both_spare g.P.FramePool.world _ _ _ _ _ _ c.lend.ensures.others c.lend.ensures.seat.names c.move_page.ensures.moves.others
