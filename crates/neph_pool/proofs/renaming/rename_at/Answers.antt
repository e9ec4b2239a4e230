use Rattle.std.proofs.Common.{◌≡◌, ◌<◌, ℕ, Bool, false, List, None, Some, length, set, refl, sym, ap, ◌∙◌}
use Rattle.std.proofs.lemmas.List.{set-get_or, get_or-set_same}
use Rattle.std.specs.declared.option.Option.{Option}
use Rattle.neph_pool.specs.declared.entry.Hold.{Hold}
use Rattle.neph_pool.specs.declared.owners.Owners.{Owners}
use Rattle.neph_pool.specs.Entries.{is_here}
use Rattle.neph_pool.specs.Frames.{PlainFrame, blank_frame, frame_at}
use Rattle.neph_pool.specs.Owners.{held_by, either_hold, total_of}
use Rattle.neph_pool.specs.Rows.{total_at}
use Rattle.neph_pool.proofs.renaming.rename_at.Goals as goal

gone_hold : (h : Option Hold) → is_here h ≡ false → h ≡ None
gone_hold None e = refl
gone_hold (Some h) e = absurd (cc)

either_gone : (h k : Option Hold) → k ≡ None → h ≡ either_hold h k
either_gone None k e = sym e
either_gone (Some h) k e = refl

-- the row had nothing of the frame
had_none : (from : ℕ) (x : PlainFrame) (b : Bool) → b ≡ is_here (held_by from x.owners) → b ≡ false → held_by from x.owners ≡ None
had_none from x b e n = gone_hold _ (sym e ∙ n)

pub returns-clause-here : goal.returns-clause-here
returns-clause-here c = sym c.if-holds.false ∙ c.holds.ensures

pub returns-clause-one : goal.returns-clause-one
returns-clause-one c = sym (set-get_or c.args.frames.now c.args.f blank_frame)

pub returns-clause-gone : goal.returns-clause-gone
returns-clause-gone c = had_none c.args.from (frame_at c.args.frames.now c.args.f) c.holds.result c.holds.ensures c.if-holds.false

pub returns-clause-joined : goal.returns-clause-joined
returns-clause-joined c =
    either_gone _ _ (had_none c.args.from (frame_at c.args.frames.now c.args.f) c.holds.result c.holds.ensures c.if-holds.false)

pub rename-requires-clause-room : goal.rename-requires-clause-room
rename-requires-clause-room c = λ h.
    let is = c.owners-owners.ensures in
    ap (λ (k : Owners). held_by c.args.to k) is ∙ c.requires.room (ap (λ (k : Owners). is_here (held_by c.args.from k)) (sym is) ∙ h)

-- the frame then
now_at : (xs zs : List PlainFrame) (f : ℕ) (o : Owners) → f < length xs → zs ≡ set xs f (record (frame_at xs f) { owners = o }) → frame_at zs f ≡ record (frame_at xs f) { owners = o }
now_at xs zs f o fit e = ap (λ (ws : List PlainFrame). frame_at ws f) e ∙ get_or-set_same xs f (record (frame_at xs f) { owners = o }) blank_frame fit

pub returns-then-holds-clause-here : goal.returns-then-holds-clause-here
returns-then-holds-clause-here c = sym c.if-holds.true ∙ c.holds.ensures

pub returns-then-holds-clause-one : goal.returns-then-holds-clause-one
returns-then-holds-clause-one c =
    let at = now_at c.args.frames.now c.put_owners.new.self c.args.f c.rename.new.self c.requires.frame c.put_owners.ensures in
    c.put_owners.ensures ∙ ap (λ (y : PlainFrame). set c.args.frames.now c.args.f y) (sym at)

pub returns-then-holds-clause-words : goal.returns-then-holds-clause-words
returns-then-holds-clause-words c =
    ap (λ (y : PlainFrame). y.words) (now_at c.args.frames.now c.put_owners.new.self c.args.f c.rename.new.self c.requires.frame c.put_owners.ensures)

pub returns-then-holds-clause-gone : goal.returns-then-holds-clause-gone
returns-then-holds-clause-gone c =
    ap (λ (y : PlainFrame). held_by c.args.from y.owners) (now_at c.args.frames.now c.put_owners.new.self c.args.f c.rename.new.self c.requires.frame c.put_owners.ensures) ∙ c.rename.ensures.gone

pub returns-then-holds-clause-joined : goal.returns-then-holds-clause-joined
returns-then-holds-clause-joined c =
    ap (λ (y : PlainFrame). held_by c.args.to y.owners) (now_at c.args.frames.now c.put_owners.new.self c.args.f c.rename.new.self c.requires.frame c.put_owners.ensures) ∙ c.rename.ensures.joined
    ∙ ap (λ (k : Owners). either_hold (held_by c.args.to k) (held_by c.args.from k)) c.owners-owners.ensures

pub returns-then-holds-clause-others : goal.returns-then-holds-clause-others
returns-then-holds-clause-others c = λ r n m.
    ap (λ (y : PlainFrame). held_by r y.owners) (now_at c.args.frames.now c.put_owners.new.self c.args.f c.rename.new.self c.requires.frame c.put_owners.ensures) ∙ c.rename.ensures.others r n m
    ∙ ap (λ (k : Owners). held_by r k) c.owners-owners.ensures

pub returns-then-holds-clause-total : goal.returns-then-holds-clause-total
returns-then-holds-clause-total c =
    ap total_at (now_at c.args.frames.now c.put_owners.new.self c.args.f c.rename.new.self c.requires.frame c.put_owners.ensures) ∙ c.rename.ensures.total ∙ ap total_of c.owners-owners.ensures
