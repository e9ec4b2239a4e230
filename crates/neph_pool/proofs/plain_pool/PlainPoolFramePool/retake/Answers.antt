use Rattle.std.proofs.Common.{ℕ, Some, refl, sym, ap, ◌∙◌, set}
use Rattle.neph_pool.specs.Entries.{is_here}
use Rattle.neph_pool.proofs.Rows.{in_frames, find, seen, plain_changes, same_counts, told_set, rows_with_hold}
use Rattle.neph_pool.proofs.plain_pool.PlainPoolFramePool.retake.Goals as goal

pub owners-owners-requires : goal.owners-owners-requires
owners-owners-requires c = in_frames _ c.args.self.now.frames c.args.f _ (ap is_here c.requires.frame) c.get-place.ensures.value

pub put_owners-requires : goal.put_owners-requires
put_owners-requires c = in_frames _ c.args.self.now.frames c.args.f _ (ap is_here c.requires.frame) c.get-place.ensures.value

pub retake-requires : goal.retake-requires
retake-requires c = let t = find c.args.s.now.row c.args.self.now.frames c.args.f c.get-place.result c.owners-owners.result (ap is_here c.requires.frame) c.get-place.ensures.value c.owners-owners.ensures in record { zero = sym t.held ∙ c.requires.frame }

pub returns-clause-entries : goal.returns-clause-entries
returns-clause-entries c =
    let p = c.args.self.now in
    let xs = p.frames in
    let f = c.args.f in
    let x = seen xs f c.owners-owners.result in
    let y = seen xs f c.retake.new.self in
    let t = find c.args.s.now.row c.args.self.now.frames c.args.f c.get-place.result c.owners-owners.result (ap is_here c.requires.frame) c.get-place.ensures.value c.owners-owners.ensures in
    rw (c.put_owners.ensures, c.get-place.ensures.value) (rows_with_hold c.args.s.now.row xs f x y _ t.at (ap is_here (sym t.held ∙ c.requires.frame)) c.retake.ensures.own refl)

pub returns-clause-moves : goal.returns-clause-moves
returns-clause-moves c =
    let p = c.args.self.now in
    let xs = p.frames in
    let f = c.args.f in
    let x = seen xs f c.owners-owners.result in
    let y = seen xs f c.retake.new.self in
    let t = find c.args.s.now.row c.args.self.now.frames c.args.f c.get-place.result c.owners-owners.result (ap is_here c.requires.frame) c.get-place.ensures.value c.owners-owners.ensures in
    let here = sym (ap is_here t.held) ∙ (ap is_here c.requires.frame) in
    plain_changes p c.args.s.now _ f _ x y _ p.held c.requires.seat.0 refl refl t.fit t.at here c.retake.ensures.others refl (c.put_owners.ensures ∙ ap (λ (i : ℕ). set xs i (seen xs i c.retake.new.self)) c.get-place.ensures.value)
    (same_counts p.held c.args.s.now.row x y here (ap is_here c.retake.ensures.own) c.retake.ensures.others)

pub returns-clause-told : goal.returns-clause-told
returns-clause-told c =
    let p = c.args.self.now in
    let xs = p.frames in
    let f = c.args.f in
    let x = seen xs f c.owners-owners.result in
    let y = seen xs f c.retake.new.self in
    let t = find c.args.s.now.row c.args.self.now.frames c.args.f c.get-place.result c.owners-owners.result (ap is_here c.requires.frame) c.get-place.ensures.value c.owners-owners.ensures in
    rw (c.put_owners.ensures, c.get-place.ensures.value) (ap Some (told_set xs f 1 y c.retake.ensures.total))
