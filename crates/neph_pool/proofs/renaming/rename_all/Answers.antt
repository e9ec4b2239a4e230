use Rattle.std.proofs.Common.{◌≡◌, ◌<◌, length, length-set, refl, sym, ap, ◌∙◌, get_or, arith, Bool, true, false, if◌then◌else◌}
use mir.Val.{bool_byte}
use Rattle.std.proofs.Math.Seq.{map-set_same}
use Rattle.std.proofs.lemmas.List.{get_or_default}
use Rattle.neph_pool.specs.Frames.{blank_frame, frame_at}
use Rattle.neph_pool.specs.Rows.{words_in_frame}
use Rattle.neph_pool.proofs.Transfers.{same_at, rest_step, gone_step, joined_step, gone_all, joined_all, some_left, count_next, add-nil}
use Rattle.neph_pool.proofs.Rows.{rows_same, same_entry, told_same}
use Rattle.neph_pool.proofs.renaming.rename_all.Goals as goal

bit_of : (b : Bool) → bool_byte b ≡ (if b then 1 else 0)
bit_of true = refl
bit_of false = refl

pub loop-left-init : goal.loop-left-init
loop-left-init c = record { bound = omega arith; size = refl; left = c.requires.count; rest = refl; gone = refl; joined = sym (add-nil _); others = λ r n m. refl; told = refl; words = refl }

pub rename_at-requires-clause-frame : goal.rename_at-requires-clause-frame
rename_at-requires-clause-frame c =
    omega (arith, some_left c.args.from c.args.frames.now c.loop-left.f c.loop-left.left c.loop-left.invariant.left c.loop-left-test.true, c.loop-left.invariant.size)

pub rename_at-requires-clause-room : goal.rename_at-requires-clause-room
rename_at-requires-clause-room c =
    let lt = some_left c.args.from c.args.frames.now c.loop-left.f c.loop-left.left c.loop-left.invariant.left c.loop-left-test.true in
    rw (same_at c.loop-left.frames c.args.frames.now c.loop-left.f blank_frame c.loop-left.invariant.rest) (c.requires.room c.loop-left.f blank_frame lt)

pub overflow_add-f : goal.overflow_add-f
overflow_add-f c =
    omega (arith, some_left c.args.from c.args.frames.now c.loop-left.f c.loop-left.left c.loop-left.invariant.left c.loop-left-test.true, c.requires.few)

pub loop-left-preserved : goal.loop-left-preserved
loop-left-preserved c =
    let i = c.loop-left.invariant in
    let xs = c.loop-left.frames in
    let ys = c.args.frames.now in
    let k = c.loop-left.f in
    let x = frame_at xs k in
    let y = frame_at c.rename_at.new.frames k in
    let r = c.rename_at.ensures in
    let fit' : k < length ys = some_left c.args.from ys k c.loop-left.left i.left c.loop-left-test.true in
    let fit : k < length xs = omega (arith, fit', i.size) in
    let at : x ≡ get_or xs k x = get_or_default xs k blank_frame x fit in
    let was : x ≡ get_or ys k x = at ∙ same_at xs ys k x i.rest in
    rw r.one record {
      bound = omega (arith, fit');
      size = length-set xs k y ∙ i.size;
      left = count_next c.args.from ys k x c.rename_at.result c.from-left.result c.loop-left.left fit' was r.here (c.from-left.ensures ∙ bit_of c.rename_at.result) i.left;
      rest = rest_step xs ys k y i.rest;
      gone = gone_step c.args.from xs ys k y fit' r.gone i.gone;
      joined = joined_step c.args.from c.args.to xs ys k x y fit' was r.words r.joined i.joined;
      others = λ q n m. rows_same q xs k x y at (same_entry q x y (r.others q n m) r.words) ∙ i.others q n m;
      told = told_same xs k x y at r.total ∙ i.told;
      words = map-set_same words_in_frame xs k y x (r.words ∙ ap words_in_frame at) ∙ i.words;
    }

pub returns-clause-gone : goal.returns-clause-gone
returns-clause-gone c =
    gone_all c.args.from c.loop-left.frames c.args.frames.now c.loop-left.f c.loop-left.invariant.bound (omega (arith, c.loop-left.invariant.left, c.loop-left-test.false)) c.loop-left.invariant.gone

pub returns-clause-joined : goal.returns-clause-joined
returns-clause-joined c =
    joined_all c.args.from c.args.to c.loop-left.frames c.args.frames.now c.loop-left.f (omega (arith, c.loop-left.invariant.left, c.loop-left-test.false)) c.loop-left.invariant.joined
