use Rattle.std.proofs.Common.{◌≡◌, ℕ, ◌+◌, ◌≤◌, List, arith, length, take, ap, sym, subst, ◌∙◌}
use Rattle.std.specs.List.{flat_map}
use Rattle.std.proofs.lemmas.List.{length-append}
use Rattle.std.proofs.lemmas.List.Folds.{length-flat_map-take}
use Rattle.neph_p9msg.specs.Grammar.{string}
use Rattle.neph_p9msg.proofs.encoding.put_names.Goals as goal

pub put_string-requires-clause-room : goal.put_string-requires-clause-room
put_string-requires-clause-room c =
    let before = take c.loop-name.name-index c.args.names.now in
    let so_far : length c.loop-name.draft ≡ length c.args.draft.now + length (flat_map string before) = ap length c.loop-name.invariant ∙ length-append c.args.draft.now (flat_map string before) in
    let one : length (flat_map string before) + length (string c.name-item.result) ≤ length (flat_map string c.args.names.now) =
    subst (λ (t : List ℕ). length (flat_map string before) + length (string t) ≤ length (flat_map string c.args.names.now)) (sym c.name-item.is)
    (length-flat_map-take string c.args.names.now c.loop-name.name-index c.name-item.result c.loop-name-test.true) in
    omega (arith, so_far, one, ap length c.items.ensures, c.requires.room)
