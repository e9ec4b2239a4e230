use Rattle.std.proofs.Common.{◌≡◌, ◌↔◌, ℕ, length, IsTrue, true, false, set, refl, sym, ap, ◌∙◌, arith}
use Rattle.std.specs.Vec.{with_item}
use Rattle.neph_memory.proofs.Rooming.{room_after}
use Rattle.neph_memory.proofs.Leading.{named}
use Rattle.neph_memory.proofs.Places.{some_small, mark_at}
use Rattle.neph_memory.proofs.Standing.{leaf_words, not_marked}
use Rattle.neph_memory.proofs.Looking.{look_mark, look_words, look_shown, look_bytes, look_memory}
use Rattle.neph_memory.proofs.Telling.{told_page, shared_page}
use Rattle.neph_memory.proofs.dom_local.DomLocal.look_page.Goals as goal

pub index-requires : goal.index-requires
index-requires g c =
    let small = some_small _ c.args.p c.requires.local in
    omega (arith, small, c.get.ensures.value, c.requires.stands.memory.made.marks, c.args.self.now.own.marks.ok.0)

pub returns-then-index-clause-mark : goal.returns-then-index-clause-mark
returns-then-index-clause-mark g c =
    let small = some_small _ c.args.p c.requires.local in
    sym (mark_at c.args.self.now.own.marks.items c.get.result c.args.p _ _ c.get.ensures.value (omega (arith, small, c.get.ensures.value, c.requires.stands.memory.made.marks)) c.index.ensures c.if-index.true)

pub returns-then-index-clause-met : goal.returns-then-index-clause-met
returns-then-index-clause-met g c = λ h.
    let small = some_small _ c.args.p c.requires.local in
    absurd (not_marked _ (mark_at c.args.self.now.own.marks.items c.get.result c.args.p _ _ c.get.ensures.value (omega (arith, small, c.get.ensures.value, c.requires.stands.memory.made.marks)) c.index.ensures c.if-index.true) h)

pub look-requires-clause-seat : goal.look-requires-clause-seat
look-requires-clause-seat g c = (c.requires.stands.fits, named _ _ c.requires.stands.names)

pub index_mut-requires : goal.index_mut-requires
index_mut-requires g c =
    let small = some_small _ c.args.p c.requires.local in
    omega (arith, small, c.get-2.ensures.value, c.requires.stands.memory.made.marks, c.args.self.now.own.marks.ok.0)

pub returns-clause-stands : goal.returns-clause-stands
returns-clause-stands g c = record {
  fits = c.look.ensures.moves.fits;
  names = c.look.ensures.moves.names ∙ c.requires.stands.names;
  identity = c.requires.stands.identity;
  room = room_after _ _ c.args.self.now.tables.root c.args.self.now.tables.root (length c.args.self.now.own.map.pages) (length c.args.self.now.own.map.pages) _ _ c.requires.stands.room refl
      (λ i l. leaf_words _ _ c.args.self.now.tables.root i (look_words _ _ c.args.self.now.tables.root c.args.self.now.own c.requires.stands.memory c.args.p c.unwrap-frame.result (sym c.frame_for.ensures ∙ c.unwrap-frame.ensures) c.if-not-look.ensures.entries c.args.self.now.tables.root))
      c.look.ensures.moves.others.cap;
  memory = look_memory _ _ c.args.self.now.tables.root c.args.self.now.own c.requires.stands.memory c.args.p c.unwrap-frame.result (sym c.frame_for.ensures ∙ c.unwrap-frame.ensures) c.if-not-look.ensures.entries
      (with_item c.args.self.now.own.marks c.get-2.result true) (ap (λ (k : ℕ). set c.args.self.now.own.marks.items k true) c.get-2.ensures.value);
}

pub returns-clause-mark : goal.returns-clause-mark
returns-clause-mark g c =
    sym (look_mark _ _ c.args.self.now.tables.root c.args.self.now.own c.requires.stands.memory c.args.p c.unwrap-frame.result (sym c.frame_for.ensures ∙ c.unwrap-frame.ensures) c.if-not-look.ensures.entries
    (with_item c.args.self.now.own.marks c.get-2.result true) (ap (λ (k : ℕ). set c.args.self.now.own.marks.items k true) c.get-2.ensures.value))

pub returns-clause-bytes : goal.returns-clause-bytes
returns-clause-bytes g c = look_bytes _ _ c.args.self.now.tables.root c.args.self.now.own c.requires.stands.memory c.args.p c.unwrap-frame.result (sym c.frame_for.ensures ∙ c.unwrap-frame.ensures) c.if-not-look.ensures.entries

pub returns-clause-mappings : goal.returns-clause-mappings
returns-clause-mappings g c = look_shown _ _ c.args.self.now.tables.root c.args.self.now.own c.requires.stands.memory c.args.p c.unwrap-frame.result (sym c.frame_for.ensures ∙ c.unwrap-frame.ensures) c.if-not-look.ensures.entries

pub returns-clause-leaves : goal.returns-clause-leaves
returns-clause-leaves g c = λ i l.
    leaf_words _ _ c.args.self.now.tables.root i (look_words _ _ c.args.self.now.tables.root c.args.self.now.own c.requires.stands.memory c.args.p c.unwrap-frame.result (sym c.frame_for.ensures ∙ c.unwrap-frame.ensures) c.if-not-look.ensures.entries c.args.self.now.tables.root)

pub returns-then-index-clause-told : goal.returns-then-index-clause-told
returns-then-index-clause-told g c = λ h.
    let small = some_small _ c.args.p c.requires.local in
    absurd (not_marked _ (mark_at c.args.self.now.own.marks.items c.get.result c.args.p _ _ c.get.ensures.value (omega (arith, small, c.get.ensures.value, c.requires.stands.memory.made.marks)) c.index.ensures c.if-index.true) h)

pub returns-then-not-look-clause-told : goal.returns-then-not-look-clause-told
returns-then-not-look-clause-told g c = λ h.
    let W = g.P.FramePool.world in
    told_page (W.told c.args.pool.now) _ c.unwrap-frame.result (W.met c.look.new.s) (λ n. IsTrue false ↔ (n ≡ 1)) (sym c.frame_for.ensures ∙ c.unwrap-frame.ensures) c.if-not-look.ensures.met c.look.ensures.told

pub returns-then-not-look-clause-shared : goal.returns-then-not-look-clause-shared
returns-then-not-look-clause-shared g c = λ t.
    let W = g.P.FramePool.world in
    let small = some_small _ c.args.p c.requires.local in
    shared_page W c.args.pool.now c.args.self.now c.args.p c.unwrap-frame.result (sym c.frame_for.ensures ∙ c.unwrap-frame.ensures) false (W.met c.look.new.s) refl c.if-not-look.ensures.met c.look.ensures.some c.look.ensures.told
    (mark_at c.args.self.now.own.marks.items c.get.result c.args.p _ _ c.get.ensures.value (omega (arith, small, c.get.ensures.value, c.requires.stands.memory.made.marks)) c.index.ensures c.if-index.false)

pub returns-then-not-look-clause-same : goal.returns-then-not-look-clause-same
returns-then-not-look-clause-same g c = λ t. record {
  entries = c.if-not-look.ensures.entries;
  own = refl;
  root = refl;
  id = refl;
  hand = refl;
  cap = c.look.ensures.moves.others.cap;
  fits = c.look.ensures.moves.fits;
  names = c.look.ensures.moves.names;
}

pub returns-clause-told : goal.returns-clause-told
returns-clause-told g c = λ h.
    let W = g.P.FramePool.world in
    told_page (W.told c.args.pool.now) _ c.unwrap-frame.result (W.met c.look.new.s) (λ n. IsTrue true ↔ (n ≡ 1)) (sym c.frame_for.ensures ∙ c.unwrap-frame.ensures) c.if-not-look.ensures.met c.look.ensures.told
