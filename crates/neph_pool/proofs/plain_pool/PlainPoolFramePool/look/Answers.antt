use Rattle.std.proofs.Common.{◌≡◌, ℕ, Some, refl, sym, ap, ◌∙◌, arith, eq-eqb, ◌==◌, set, Bool, true, false, if◌then◌else◌}
use Rattle.std.specs.declared.option.Option.{Option}
use Rattle.neph_pool.specs.declared.entry.Hold.{Hold}
use Rattle.neph_pool.specs.declared.entry.Hold.TheVariants.{Sole}
use Rattle.neph_pool.specs.Owners.{held_by}
use Rattle.neph_pool.specs.Entries.{is_here}
use Rattle.neph_pool.proofs.Rows.{in_frames, find, seen, plain_changes, same_counts, told_at, told_same, look_entries, here_weight}
use Rattle.neph_pool.proofs.Holding.{sole_total, some_total}
use Rattle.neph_pool.proofs.plain_pool.PlainPoolFramePool.look.Goals as goal

pub owners-owners-requires : goal.owners-owners-requires
owners-owners-requires c = in_frames _ c.args.self.now.frames c.args.f _ (here_weight _ c.requires.frame) c.get-place.ensures.value

pub put_owners-requires : goal.put_owners-requires
put_owners-requires c = in_frames _ c.args.self.now.frames c.args.f _ (here_weight _ c.requires.frame) c.get-place.ensures.value

pub look-s-requires-clause-once : goal.look-s-requires-clause-once
look-s-requires-clause-once c = let t = find c.args.s.now.row c.args.self.now.frames c.args.f c.get-place.result c.owners-owners.result (here_weight _ c.requires.frame) c.get-place.ensures.value c.owners-owners.ensures in rw t.held at c.requires.frame

pub returns-clause-told : goal.returns-clause-told
returns-clause-told c = let t = find c.args.s.now.row c.args.self.now.frames c.args.f c.get-place.result c.owners-owners.result (here_weight _ c.requires.frame) c.get-place.ensures.value c.owners-owners.ensures in c.look-s.ensures.count ∙ sym (told_at _ _ _ t.fit t.at)

pub returns-clause-entries : goal.returns-clause-entries
returns-clause-entries c =
    let p = c.args.self.now in
    let xs = p.frames in
    let f = c.args.f in
    let x = seen xs f c.owners-owners.result in
    let y = seen xs f c.look-s.new.self in
    let t = find c.args.s.now.row c.args.self.now.frames c.args.f c.get-place.result c.owners-owners.result (here_weight _ c.requires.frame) c.get-place.ensures.value c.owners-owners.ensures in
    rw (c.put_owners.ensures, c.get-place.ensures.value) (look_entries c.args.s.now.row xs f x y (c.look-s.result == 1) t (rw t.held at c.requires.frame) c.look-s.ensures.own refl)

-- the seat still has an entry
still : (h k : Option Hold) (b : Bool) → is_here h ≡ true → k ≡ (if b then Some Sole else h) → is_here k ≡ true
still h k true a e = ap is_here e
still h k false a e = ap is_here e ∙ a

pub returns-clause-moves : goal.returns-clause-moves
returns-clause-moves c =
    let p = c.args.self.now in
    let xs = p.frames in
    let f = c.args.f in
    let x = seen xs f c.owners-owners.result in
    let y = seen xs f c.look-s.new.self in
    let t = find c.args.s.now.row c.args.self.now.frames c.args.f c.get-place.result c.owners-owners.result (here_weight _ c.requires.frame) c.get-place.ensures.value c.owners-owners.ensures in
    let here : is_here (held_by c.args.s.now.row x.owners) ≡ true = sym (ap is_here t.held) ∙ (here_weight _ c.requires.frame) in
    plain_changes p c.args.s.now _ f _ x y _ p.held c.requires.seat.0 refl refl t.fit t.at here c.look-s.ensures.others refl (c.put_owners.ensures ∙ ap (λ (i : ℕ). set xs i (seen xs i c.look-s.new.self)) c.get-place.ensures.value)
    (same_counts p.held c.args.s.now.row x y here (still _ _ (c.look-s.result == 1) here c.look-s.ensures.own) c.look-s.ensures.others)

pub returns-clause-counts : goal.returns-clause-counts
returns-clause-counts c =
    let p = c.args.self.now in
    let xs = p.frames in
    let f = c.args.f in
    let x = seen xs f c.owners-owners.result in
    let y = seen xs f c.look-s.new.self in
    let t = find c.args.s.now.row c.args.self.now.frames c.args.f c.get-place.result c.owners-owners.result (here_weight _ c.requires.frame) c.get-place.ensures.value c.owners-owners.ensures in
    record { shares = refl; told = rw (c.put_owners.ensures, c.get-place.ensures.value) (ap Some (told_same xs f x y t.at c.look-s.ensures.total)) }

pub returns-clause-some : goal.returns-clause-some
returns-clause-some c =
    let t = find c.args.s.now.row c.args.self.now.frames c.args.f c.get-place.result c.owners-owners.result (here_weight _ c.requires.frame) c.get-place.ensures.value c.owners-owners.ensures in
    omega (arith, c.look-s.ensures.count, some_total c.args.s.now.row c.owners-owners.result (rw t.held at c.requires.frame))

pub returns-clause-sole : goal.returns-clause-sole
returns-clause-sole c = λ sole.
    let t = find c.args.s.now.row c.args.self.now.frames c.args.f c.get-place.result c.owners-owners.result (here_weight _ c.requires.frame) c.get-place.ensures.value c.owners-owners.ensures in
    eq-eqb c.look-s.result 1 (c.look-s.ensures.count ∙ sole_total c.args.s.now.row c.owners-owners.result (sym t.held ∙ sole))
