use Rattle.std.proofs.Common.{ap, sym, ◌∙◌}
use Rattle.neph_pool.specs.Entries.{words_at, is_here}
use Rattle.neph_pool.specs.Bytes.{bytes_at}
use Rattle.neph_ptab.specs.Tables.{zero_words}
use Rattle.neph_pool.proofs.Spans.{settled}
use Rattle.neph_heap.proofs.Spans.{wiped_bytes, copied_bytes, console_page, network_page, p9_page, other_page}
use Rattle.neph_heap.proofs.words.fill_page.Goals as goal

pub returns-then-number-eq1-clause-entries : goal.returns-then-number-eq1-clause-entries
returns-then-number-eq1-clause-entries g c =
    let W = g.P.FramePool.world in
    settled (W.entries c.args.pool.now c.args.seat.now) (W.entries c.wipe.new.pool c.wipe.new.seat) c.args.to zero_words c.wipe.ensures.entries (ap is_here c.requires.to)

pub returns-then-number-eq1-clause-bytes : goal.returns-then-number-eq1-clause-bytes
returns-then-number-eq1-clause-bytes g c =
    let W = g.P.FramePool.world in
    let es = W.entries c.args.pool.now c.args.seat.now in
    wiped_bytes es (W.entries c.wipe.new.pool c.wipe.new.seat) c.args.to c.wipe.ensures.entries (ap is_here c.requires.to) ∙ sym (console_page c.args.pfn (bytes_at es c.args.from) (sym c.get-number.ensures.value ∙ c.if-number-eq1.true))

pub returns-then-number-eq3-clause-entries : goal.returns-then-number-eq3-clause-entries
returns-then-number-eq3-clause-entries g c =
    let W = g.P.FramePool.world in
    settled (W.entries c.args.pool.now c.args.seat.now) (W.entries c.wipe-then-number-eq3.new.pool c.wipe-then-number-eq3.new.seat) c.args.to zero_words c.wipe-then-number-eq3.ensures.entries (ap is_here c.requires.to)

pub returns-then-number-eq3-clause-bytes : goal.returns-then-number-eq3-clause-bytes
returns-then-number-eq3-clause-bytes g c =
    let W = g.P.FramePool.world in
    let es = W.entries c.args.pool.now c.args.seat.now in
    wiped_bytes es (W.entries c.wipe-then-number-eq3.new.pool c.wipe-then-number-eq3.new.seat) c.args.to c.wipe-then-number-eq3.ensures.entries (ap is_here c.requires.to) ∙ sym (p9_page c.args.pfn (bytes_at es c.args.from) (sym c.get-number.ensures.value ∙ c.if-number-eq3.true))

pub returns-then-number-eq2-clause-bytes : goal.returns-then-number-eq2-clause-bytes
returns-then-number-eq2-clause-bytes g c =
    let W = g.P.FramePool.world in
    c.copy_silent.ensures.bytes ∙ sym (network_page c.args.pfn (bytes_at (W.entries c.args.pool.now c.args.seat.now) c.args.from) (sym c.get-number.ensures.value ∙ c.if-number-eq2.true))

pub returns-else-number-eq3-clause-entries : goal.returns-else-number-eq3-clause-entries
returns-else-number-eq3-clause-entries g c =
    let W = g.P.FramePool.world in
    let es = W.entries c.args.pool.now c.args.seat.now in
    settled es (W.entries c.copy.new.self c.copy.new.s) c.args.to (words_at es c.args.from) c.copy.ensures.entries (ap is_here c.requires.to)

pub returns-else-number-eq3-clause-bytes : goal.returns-else-number-eq3-clause-bytes
returns-else-number-eq3-clause-bytes g c =
    let W = g.P.FramePool.world in
    let es = W.entries c.args.pool.now c.args.seat.now in
    let v = c.get-number.ensures.value in
    copied_bytes es (W.entries c.copy.new.self c.copy.new.s) c.args.from c.args.to c.copy.ensures.entries (ap is_here c.requires.to)
    ∙ sym (other_page c.args.pfn (bytes_at es c.args.from) (λ e. c.if-number-eq1.false (v ∙ e)) (λ e. c.if-number-eq2.false (v ∙ e)) (λ e. c.if-number-eq3.false (v ∙ e)))
