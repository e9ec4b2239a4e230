use Rattle.std.proofs.Common.{◌/◌, ◌%◌, ◌<◌, ◌^◌, ℕ, List, take, drop, Ok, sym, ap, ◌∙◌, arith}
use Rattle.std.specs.declared.option.Option.{Option}
use Rattle.neph_pool.specs.declared.entry.Entry.{Entry}
use Rattle.neph_pool.specs.Entries.{hold_at, is_held}
use Rattle.neph_ptab.specs.Tables.{walk_at}
use Rattle.neph_pool.proofs.Calls.{moves_trans}
use Rattle.neph_memory.proofs.Leading.{named, local_held, read_local, read_away}
use Rattle.neph_pool.specs.Bytes.{bytes_at}
use Rattle.neph_memory.proofs.dom_local.DomLocal.read.Goals as goal

pub walk-requires-clause-seat : goal.walk-requires-clause-seat
walk-requires-clause-seat g c = (c.requires.stands.fits, named _ _ c.requires.stands.names)

pub read_bytes-bytes-requires-clause-seat : goal.read_bytes-bytes-requires-clause-seat
read_bytes-bytes-requires-clause-seat g c = (c.in-Local.ensures.moves.fits, named _ _ (c.in-Local.ensures.moves.names ∙ c.requires.stands.names))

pub read_bytes-bytes-requires-clause-frame : goal.read_bytes-bytes-requires-clause-frame
read_bytes-bytes-requires-clause-frame g c =
    let W = g.P.FramePool.world in
    let es = W.entries c.args.pool.now c.args.self.now.seat in
    let small : c.vpn-vpn.result < 2 ^ 18 = omega (arith, c.get-number.ensures.value, c.get-number.ensures.range) in
    ap (λ (xs : List (Option Entry)). is_held (hold_at xs c.in-Local.frame)) c.walk.ensures.entries
    ∙ local_held es c.args.self.now.tables.root c.args.self.now.own c.requires.stands.memory c.vpn-vpn.result c.in-Local.frame c.in-Local.rw c.in-Local.shared small (sym c.in-Local.ensures.walk)

pub returns-in-Local-clause-bytes : goal.returns-in-Local-clause-bytes
returns-in-Local-clause-bytes g c =
    let W = g.P.FramePool.world in
    let es = W.entries c.args.pool.now c.args.self.now.seat in
    let small : c.args.v / 4096 < 2 ^ 18 = omega (arith, c.vpn-vpn.ensures, c.get-number.ensures.value, c.get-number.ensures.range) in
    let walk = sym (c.in-Local.ensures.walk ∙ ap (walk_at es c.args.self.now.tables.root) c.vpn-vpn.ensures) in
    ap Ok (c.read_bytes-bytes.ensures.bytes ∙ ap (λ (xs : List (Option Entry)). take c.args.len (drop c.offset.result (bytes_at xs c.in-Local.frame))) c.walk.ensures.entries
    ∙ ap (λ (k : ℕ). take c.args.len (drop k (bytes_at es c.in-Local.frame))) c.offset.ensures.value)
    ∙ sym (read_local es c.args.self.now.tables.root c.args.self.now.own c.requires.stands.memory (c.args.v / 4096) (c.args.v % 4096) c.args.len c.in-Local.frame c.in-Local.rw c.in-Local.shared small walk)

pub returns-in-Exposed-clause-bytes : goal.returns-in-Exposed-clause-bytes
returns-in-Exposed-clause-bytes g c =
    let W = g.P.FramePool.world in
    let es = W.entries c.args.pool.now c.args.self.now.seat in
    let small : c.args.v / 4096 < 2 ^ 18 = omega (arith, c.vpn-vpn.ensures, c.get-number.ensures.value, c.get-number.ensures.range) in
    let walk = sym (c.in-Exposed.ensures.walk ∙ ap (walk_at es c.args.self.now.tables.root) c.vpn-vpn.ensures) in
    sym (read_away es c.args.self.now.tables.root c.args.self.now.own c.requires.stands.memory (c.args.v / 4096) (c.args.v % 4096) c.args.len c.in-Exposed.pfn c.in-Exposed.rw small walk)

pub returns-in-Local-clause-moves : goal.returns-in-Local-clause-moves
returns-in-Local-clause-moves g c = moves_trans _ _ _ _ _ _ _ c.in-Local.ensures.moves c.read_bytes-bytes.ensures.moves
