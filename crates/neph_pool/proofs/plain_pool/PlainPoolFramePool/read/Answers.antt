use Rattle.std.proofs.Common.{refl, sym, ap, ◌∙◌, get_or, List, ℕ}
use Rattle.neph_pool.specs.Frames.{frame_at}
use Rattle.neph_pool.proofs.Entries.{here_held}
use Rattle.neph_pool.proofs.Rows.{in_frames, find, row_words}
use Rattle.neph_pool.proofs.plain_pool.PlainPoolFramePool.read.Goals as goal

pub word-requires-clause-frame : goal.word-requires-clause-frame
word-requires-clause-frame c = in_frames _ c.args.self.now.frames c.args.f _ (here_held _ c.requires.frame) c.get.ensures.value

pub returns-clause-word : goal.returns-clause-word
returns-clause-word c =
    let xs = c.args.self.now.frames in
    let t = find c.args.s.now.row xs c.args.f c.args.f (frame_at xs c.args.f).owners (here_held _ c.requires.frame) refl refl in
    c.word.ensures ∙ ap (λ (i : ℕ). get_or (frame_at xs i).words c.args.w 0) c.get.ensures.value ∙ ap (λ (ws : List ℕ). get_or ws c.args.w 0) (sym (row_words c.args.s.now.row xs c.args.f (frame_at xs c.args.f) t.at (here_held _ c.requires.frame)))
