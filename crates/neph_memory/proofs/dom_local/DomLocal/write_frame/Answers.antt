use Rattle.std.proofs.Common.{ℕ, List, length, ap, refl, inl, ◌∙◌}
use Rattle.neph_memory.proofs.Rooming.{room_after}
use Rattle.neph_memory.proofs.Leading.{named}
use Rattle.neph_memory.proofs.Writing.{memory_held, shown_held, write_holds, write_words, write_bytes}
use Rattle.neph_model.specs.Memory.{page_with_bytes}
use Rattle.neph_pool.specs.Bytes.{bytes_at}
use Rattle.neph_memory.proofs.Standing.{leaf_words}
use Rattle.neph_memory.proofs.Keeping.{shared_wiped}
use Rattle.neph_memory.proofs.dom_local.DomLocal.write_frame.Goals as goal

pub write_bytes-requires-clause-seat : goal.write_bytes-requires-clause-seat
write_bytes-requires-clause-seat g c = (c.requires.stands.fits, named _ _ c.requires.stands.names)

pub returns-clause-stands : goal.returns-clause-stands
returns-clause-stands g c =
    let m = c.requires.stands.memory in
    let root = c.args.self.now.tables.root in
    let o = c.args.self.now.own in
    let f = c.args.frame in
    let at = c.requires.page in record {
      fits = c.write_bytes.ensures.moves.fits;
      names = c.write_bytes.ensures.moves.names ∙ c.requires.stands.names;
      room = room_after _ _ root root (length o.map.pages) (length o.map.pages) _ _ c.requires.stands.room refl (λ i l. leaf_words _ _ root i (write_words _ _ root o m at.0 f at.1 c.write_bytes.ensures.entries root (inl refl))) c.write_bytes.ensures.moves.others.cap;
      identity = c.requires.stands.identity;
      memory = memory_held _ _ root o m (write_holds _ _ root o m at.0 f at.1 c.write_bytes.ensures.entries) (write_words _ _ root o m at.0 f at.1 c.write_bytes.ensures.entries);
    }

pub returns-clause-bytes : goal.returns-clause-bytes
returns-clause-bytes g c = λ p at q.
    write_bytes _ _ c.args.self.now.tables.root c.args.self.now.own c.requires.stands.memory p c.args.frame at c.write_bytes.ensures.entries c.args.at c.args.bytes.now
    (c.write_bytes.ensures.bytes ∙ ap (λ (xs : List ℕ). page_with_bytes (bytes_at (g.P.FramePool.world.entries c.args.pool.now c.args.self.now.seat) c.args.frame) c.args.at xs) c.bytes.ensures.value) q

pub returns-clause-mappings : goal.returns-clause-mappings
returns-clause-mappings g c = λ u lt.
    let m = c.requires.stands.memory in
    let root = c.args.self.now.tables.root in
    let o = c.args.self.now.own in
    let f = c.args.frame in
    let at = c.requires.page in
    shown_held _ _ root o m (write_holds _ _ root o m at.0 f at.1 c.write_bytes.ensures.entries) (write_words _ _ root o m at.0 f at.1 c.write_bytes.ensures.entries) u lt

pub returns-clause-leaves : goal.returns-clause-leaves
returns-clause-leaves g c = λ i l.
    let m = c.requires.stands.memory in
    let root : ℕ = c.args.self.now.tables.root in
    let at = c.requires.page in
    leaf_words _ _ root i (write_words _ _ root c.args.self.now.own m at.0 c.args.frame at.1 c.write_bytes.ensures.entries root (inl refl))

pub returns-clause-shared : goal.returns-clause-shared
returns-clause-shared g c = shared_wiped _ _ c.args.frame _ c.requires.sole c.write_bytes.ensures.entries
