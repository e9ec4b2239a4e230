use Rattle.std.proofs.Common.{◌∙◌, ap}
use Rattle.std.proofs.lemmas.List.{take_rest}
use Rattle.neph_ring.specs.Bytes.{bytes_of_words, with_bytes}
use Rattle.neph_ring.proofs.Spans.{length_page}
use Rattle.neph_ring.proofs.Rings.{ring_write}
use Rattle.neph_ring.proofs.console.write_ring.Goals as goal

pub returns-clause-bytes : goal.returns-clause-bytes
returns-clause-bytes g c =
    ring_write _ _ _ _ _ c.min-first.result (length_page _ (g.met.W.Words.full c.args.page.now)) c.requires c.min-first.ensures c.write_bytes.ensures.bytes
    (c.write_bytes-2.ensures.bytes ∙ ap (with_bytes (bytes_of_words (g.W.Words.words c.write_bytes.new.page)) 1024) (take_rest c.args.from.now c.min-first.result))
