use Rattle.std.proofs.Common.{◌<◌, ℕ, List, length, get_or, sym, ap, ◌∙◌, arith}
use Rattle.neph_pool.specs.Pages.{words_of}
use Rattle.neph_pool.specs.Holders.{owners_of, shared_of}
use Rattle.neph_pool.proofs.Sharers.{holders_length}
use Rattle.neph_pool.proofs.Shown.{shown_length, shown_words}
use Rattle.neph_pool.proofs.frames.Frames.word.Goals as goal

pub read-requires-clause-frame : goal.read-requires-clause-frame
read-requires-clause-frame c =
    omega (arith, shown_length (owners_of c.self.inside.holders) (words_of c.self.inside.pages), holders_length (shared_of c.self.inside.holders.counts.items) c.self.inside.holders.kinds.items c.self.inside.holders.places.items, ap length c.self.view_is, c.requires.frame, c.self.invariant)

pub returns : goal.returns
returns c =
    let os = (owners_of c.self.inside.holders) in
    let ws = words_of c.self.inside.pages in
    let fit : c.args.f < length os = omega (arith, shown_length os ws, ap length c.self.view_is, c.requires.frame) in
    rw (← c.self.view_is) (c.read.ensures ∙ ap (λ (xs : List ℕ). get_or xs c.args.w 0) (sym (shown_words os ws c.args.f fit)))
