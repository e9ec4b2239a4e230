use Rattle.std.proofs.Common.{◌≡◌, ℕ, List, length, refl, true, Some, set, sym, ap, ◌∙◌, arith}
use Rattle.neph_memory.specs.declared.write.Write.{Write}
use Rattle.std.specs.Vec.{with_item}
use Rattle.std.specs.declared.option.Option.{Option}
use Rattle.neph_pool.proofs.Calls.{moves_trans}
use Rattle.neph_memory.proofs.Rooming.{room_after}
use Rattle.neph_memory.proofs.Leading.{named, found}
use Rattle.neph_memory.proofs.Places.{frame_small, some_same}
use Rattle.neph_memory.proofs.Standing.{found_some, found_at, look_true, leaf_words}
use Rattle.neph_memory.proofs.Looking.{look_here, look_mark, look_words, look_shown, look_bytes, look_memory}
use Rattle.neph_memory.proofs.Telling.{shared_page, unmarked}
use Rattle.neph_memory.specs.Memory.{is_marked}
use Rattle.neph_memory.specs.declared.own.Own.{Own}
use Rattle.neph_memory.specs.Steps.{with_write}
use Rattle.neph_memory.proofs.dom_local.DomLocal.write_shared.Goals as goal

pub unwrap-pfn-requires : goal.unwrap-pfn-requires
unwrap-pfn-requires g c =
    let at = c.requires.page in
    found_some c.page_in.result at.0 (found (g.P.FramePool.world.entries c.args.pool.now c.args.self.now.seat) c.args.self.now.tables.root c.args.self.now.own c.requires.stands.memory at.0 c.args.frame c.page_in.result c.page_in.ensures.first at.1)

pub look-requires-clause-seat : goal.look-requires-clause-seat
look-requires-clause-seat g c = (c.requires.stands.fits, named _ _ c.requires.stands.names)

pub index_mut-requires : goal.index_mut-requires
index_mut-requires g c =
    let at = found_at c.args.self.now.own.map.pages c.args.frame c.requires.page.0 c.unwrap-pfn.result c.page_in.result (found (g.P.FramePool.world.entries c.args.pool.now c.args.self.now.seat) c.args.self.now.tables.root c.args.self.now.own c.requires.stands.memory c.requires.page.0 c.args.frame c.page_in.result c.page_in.ensures.first c.requires.page.1) c.unwrap-pfn.ensures c.requires.page.1 in
    let small = frame_small c.args.self.now.own.map.pages c.unwrap-pfn.result c.args.frame at in
    omega (arith, small, c.get.ensures.value, c.requires.stands.memory.made.marks, c.args.self.now.own.marks.ok.0)

pub write_frame-requires-clause-stands : goal.write_frame-requires-clause-stands
write_frame-requires-clause-stands g c =
    let at = found_at c.args.self.now.own.map.pages c.args.frame c.requires.page.0 c.unwrap-pfn.result c.page_in.result (found (g.P.FramePool.world.entries c.args.pool.now c.args.self.now.seat) c.args.self.now.tables.root c.args.self.now.own c.requires.stands.memory c.requires.page.0 c.args.frame c.page_in.result c.page_in.ensures.first c.requires.page.1) c.unwrap-pfn.ensures c.requires.page.1 in record {
      fits = c.look.ensures.moves.fits;
      names = c.look.ensures.moves.names ∙ c.requires.stands.names;
      room = room_after _ _ c.args.self.now.tables.root c.args.self.now.tables.root (length c.args.self.now.own.map.pages) (length c.args.self.now.own.map.pages) _ _ c.requires.stands.room refl
          (λ i l. leaf_words _ _ c.args.self.now.tables.root i (look_words _ _ c.args.self.now.tables.root c.args.self.now.own c.requires.stands.memory c.unwrap-pfn.result c.args.frame at (look_true _ _ c.args.frame c.look.result c.look.ensures.entries c.if-look.true) c.args.self.now.tables.root))
          c.look.ensures.moves.others.cap;
      identity = c.requires.stands.identity;
      memory = look_memory _ _ c.args.self.now.tables.root c.args.self.now.own c.requires.stands.memory c.unwrap-pfn.result c.args.frame at (look_true _ _ c.args.frame c.look.result c.look.ensures.entries c.if-look.true)
          (with_item c.args.self.now.own.marks c.get.result true) (ap (λ (k : ℕ). set c.args.self.now.own.marks.items k true) c.get.ensures.value);
    }

pub write_frame-requires-clause-sole : goal.write_frame-requires-clause-sole
write_frame-requires-clause-sole g c =
    let at = c.requires.page in
    look_here _ _ c.args.self.now.tables.root c.args.self.now.own c.requires.stands.memory at.0 c.args.frame at.1 (look_true _ _ c.args.frame c.look.result c.look.ensures.entries c.if-look.true)

pub returns-then-look-clause-bytes : goal.returns-then-look-clause-bytes
returns-then-look-clause-bytes g c = λ p at q.
    c.write_frame.ensures.bytes p at q
    ∙ ap (λ (pages : ℕ → Option (List ℕ)). with_write pages p c.args.at c.args.bytes.now q)
    (λ i k. look_bytes _ _ c.args.self.now.tables.root c.args.self.now.own c.requires.stands.memory p c.args.frame at (look_true _ _ c.args.frame c.look.result c.look.ensures.entries c.if-look.true) k i)

pub returns-then-look-clause-mappings : goal.returns-then-look-clause-mappings
returns-then-look-clause-mappings g c = λ u lt.
    let at = c.requires.page in
    c.write_frame.ensures.mappings u lt
    ∙ look_shown _ _ c.args.self.now.tables.root c.args.self.now.own c.requires.stands.memory at.0 c.args.frame at.1 (look_true _ _ c.args.frame c.look.result c.look.ensures.entries c.if-look.true) u lt

pub returns-then-look-clause-moves : goal.returns-then-look-clause-moves
returns-then-look-clause-moves g c = moves_trans _ _ _ _ _ _ _ c.look.ensures.moves c.write_frame.ensures.moves

abbrev held_write : ℕ → ℕ → List ℕ → Option Write
held_write p at bytes = Some (record { pfn = p; at = at; bytes = bytes })

pub returns-else-look-clause-hand : goal.returns-else-look-clause-hand
returns-else-look-clause-hand g c = λ p at.
    let here = found (g.P.FramePool.world.entries c.args.pool.now c.args.self.now.seat) c.args.self.now.tables.root c.args.self.now.own c.requires.stands.memory p c.args.frame c.page_in.result c.page_in.ensures.first at in
    let same : c.unwrap-pfn.result ≡ p = some_same _ _ (sym c.unwrap-pfn.ensures ∙ here) in
    ap (λ (k : ℕ). held_write k c.args.at c.args.bytes.now) same

pub returns-then-look-clause-leaves : goal.returns-then-look-clause-leaves
returns-then-look-clause-leaves g c = λ i l.
    let at = c.requires.page in
    c.write_frame.ensures.leaves i l
    ∙ leaf_words _ _ c.args.self.now.tables.root i (look_words _ _ c.args.self.now.tables.root c.args.self.now.own c.requires.stands.memory at.0 c.args.frame at.1 (look_true _ _ c.args.frame c.look.result c.look.ensures.entries c.if-look.true) c.args.self.now.tables.root)

pub returns-then-look-clause-alone : goal.returns-then-look-clause-alone
returns-then-look-clause-alone g c = λ t p at.
    let es = g.P.FramePool.world.entries c.args.pool.now c.args.self.now.seat in
    let here = found es c.args.self.now.tables.root c.args.self.now.own c.requires.stands.memory p c.args.frame c.page_in.result c.page_in.ensures.first at in
    let same : c.unwrap-pfn.result ≡ p = some_same _ _ (sym c.unwrap-pfn.ensures ∙ here) in
    let marks = with_item c.args.self.now.own.marks c.get.result true in
    ap (λ (o : Own). is_marked o p) c.write_frame.ensures.own
    ∙ look_mark _ _ c.args.self.now.tables.root c.args.self.now.own c.requires.stands.memory p c.args.frame at (look_true _ _ c.args.frame c.look.result c.look.ensures.entries c.if-look.true)
    marks (ap (λ (k : ℕ). set c.args.self.now.own.marks.items k true) (c.get.ensures.value ∙ same))

pub returns-else-look-clause-shared : goal.returns-else-look-clause-shared
returns-else-look-clause-shared g c = λ t p at.
    let W = g.P.FramePool.world in
    let sole = (c.requires.stands.memory.made.sole p c.args.frame at).0 in
    shared_page W c.args.pool.now c.args.self.now p c.args.frame at c.look.result (W.met c.look.new.s) c.if-look.false c.look.ensures.met c.look.ensures.some c.look.ensures.told
    (unmarked _ c.look.result (λ m. c.look.ensures.sole (sole m)) c.if-look.false)
