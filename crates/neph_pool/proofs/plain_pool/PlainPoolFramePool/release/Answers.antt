use Rattle.std.proofs.Common.{◌≡◌, ℕ, Some, refl, sym, ap, ◌∙◌, arith, ◌-◌, set, Bool, true, false, None, MatchBool}
use Rattle.std.specs.declared.option.Option.{Option}
use Rattle.neph_pool.specs.declared.entry.Hold.{Hold}
use Rattle.neph_pool.specs.declared.entry.Hold.TheVariants.{Zero}
use Rattle.neph_pool.specs.Entries.{is_here}
use Rattle.neph_pool.specs.Frames.{frame_at}
use Rattle.neph_pool.proofs.Rows.{in_frames, find, seen, plain_changes, row_recounted, told_at, told_set, release_entries, here_weight, some_held, few_held}
use Rattle.neph_pool.proofs.Holding.{sole_total, some_total}
use Rattle.neph_pool.proofs.plain_pool.PlainPoolFramePool.release.Goals as goal

pub total-s-requires : goal.total-s-requires
total-s-requires c = in_frames _ c.args.self.now.frames c.args.f _ (here_weight _ c.requires.frame) c.get-place.ensures.value

pub release-last-requires-clause-frame : goal.release-last-requires-clause-frame
release-last-requires-clause-frame c = in_frames _ c.args.self.now.frames c.args.f _ (here_weight _ c.requires.frame) c.get-place.ensures.value

pub release-last-requires-clause-once : goal.release-last-requires-clause-once
release-last-requires-clause-once c = let t = find c.args.s.now.row c.args.self.now.frames c.args.f c.get-place.result (frame_at c.args.self.now.frames c.get-place.result).owners (here_weight _ c.requires.frame) c.get-place.ensures.value refl in rw t.held at c.requires.frame

pub recount-requires-clause-before : goal.recount-requires-clause-before
recount-requires-clause-before c = λ _. some_held c.args.self.now.held c.args.self.now.frames c.args.s.now.row c.args.f c.requires.seat.0.kept.held c.requires.seat.0.row (here_weight _ c.requires.frame)

pub recount-requires-clause-small : goal.recount-requires-clause-small
recount-requires-clause-small c = few_held c.args.self.now.held c.args.self.now.frames c.args.s.now.row c.requires.seat.0.kept.held c.requires.seat.0.kept.few c.requires.seat.0.row

pub returns-clause-exact : goal.returns-clause-exact
returns-clause-exact c = let t = find c.args.s.now.row c.args.self.now.frames c.args.f c.get-place.result (frame_at c.args.self.now.frames c.get-place.result).owners (here_weight _ c.requires.frame) c.get-place.ensures.value refl in c.total-s.ensures ∙ sym (told_at _ _ _ t.fit t.at)

pub returns-clause-entries : goal.returns-clause-entries
returns-clause-entries c =
    let p = c.args.self.now in
    let xs = p.frames in
    let f = c.args.f in
    let x = seen xs f (frame_at c.args.self.now.frames c.get-place.result).owners in
    let y = seen xs f c.release-last.ensures.0 in
    let t = find c.args.s.now.row c.args.self.now.frames c.args.f c.get-place.result (frame_at c.args.self.now.frames c.get-place.result).owners (here_weight _ c.requires.frame) c.get-place.ensures.value refl in
    rw (c.release-last.ensures.1, c.get-place.ensures.value) (release_entries c.args.s.now.row xs f x y c.release-last.result t (rw t.held at c.requires.frame) c.release-last.ensures.2.own refl)

-- the seat has an entry where the reference was the last
after_last : (k : Option Hold) (b : Bool) → MatchBool b (k ≡ Some Zero) (k ≡ None) → is_here k ≡ b
after_last k true e = ap is_here e
after_last k false e = ap is_here e

pub returns-clause-moves : goal.returns-clause-moves
returns-clause-moves c =
    let p = c.args.self.now in
    let xs = p.frames in
    let f = c.args.f in
    let x = seen xs f (frame_at c.args.self.now.frames c.get-place.result).owners in
    let y = seen xs f c.release-last.ensures.0 in
    let t = find c.args.s.now.row c.args.self.now.frames c.args.f c.get-place.result (frame_at c.args.self.now.frames c.get-place.result).owners (here_weight _ c.requires.frame) c.get-place.ensures.value refl in
    let row = c.args.s.now.row in
    let here = sym (ap is_here t.held) ∙ (here_weight _ c.requires.frame) in
    plain_changes p c.args.s.now _ f _ x y _ _ c.requires.seat.0 refl refl t.fit t.at here c.release-last.ensures.2.others refl (c.release-last.ensures.1 ∙ ap (λ (i : ℕ). set xs i (seen xs i c.release-last.ensures.0)) c.get-place.ensures.value)
    (row_recounted p.held _ row x y c.release-last.result here (after_last _ c.release-last.result c.release-last.ensures.2.own) c.release-last.ensures.2.others
    (some_held p.held xs row f c.requires.seat.0.kept.held c.requires.seat.0.row (here_weight _ c.requires.frame)) c.recount.ensures.own c.recount.ensures.others)

pub returns-clause-told : goal.returns-clause-told
returns-clause-told c =
    let p = c.args.self.now in
    let xs = p.frames in
    let f = c.args.f in
    let x = seen xs f (frame_at c.args.self.now.frames c.get-place.result).owners in
    let y = seen xs f c.release-last.ensures.0 in
    let t = find c.args.s.now.row c.args.self.now.frames c.args.f c.get-place.result (frame_at c.args.self.now.frames c.get-place.result).owners (here_weight _ c.requires.frame) c.get-place.ensures.value refl in
    rw (c.release-last.ensures.1, c.get-place.ensures.value) (ap Some (told_set xs f _ y (c.release-last.ensures.2.total ∙ ap (λ k. k - 1) (sym (told_at _ _ _ t.fit t.at)))))

pub returns-clause-some : goal.returns-clause-some
returns-clause-some c =
    let t = find c.args.s.now.row c.args.self.now.frames c.args.f c.get-place.result (frame_at c.args.self.now.frames c.get-place.result).owners (here_weight _ c.requires.frame) c.get-place.ensures.value refl in
    omega (arith, c.total-s.ensures, some_total c.args.s.now.row (frame_at c.args.self.now.frames c.get-place.result).owners (rw t.held at c.requires.frame))

pub returns-clause-sole : goal.returns-clause-sole
returns-clause-sole c = λ sole.
    let t = find c.args.s.now.row c.args.self.now.frames c.args.f c.get-place.result (frame_at c.args.self.now.frames c.get-place.result).owners (here_weight _ c.requires.frame) c.get-place.ensures.value refl in
    c.release-last.ensures.2.last.1 (sole_total c.args.s.now.row (frame_at c.args.self.now.frames c.get-place.result).owners (sym t.held ∙ sole))
