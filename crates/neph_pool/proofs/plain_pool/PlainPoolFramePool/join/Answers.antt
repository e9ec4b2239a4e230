use Rattle.std.proofs.Common.{◌≡◌, ◌≢◌, ℕ, List, length, inl, inr, refl, sym, ap, ◌∙◌}
use Rattle.std.proofs.lemmas.List.{length-map}
use Rattle.neph_pool.specs.declared.plain_pool.PlainPool.{PlainPool}
use Rattle.neph_pool.specs.declared.plain_pool.PlainSeat.{PlainSeat}
use Rattle.neph_pool.specs.Rows.{words_in_frame}
use Rattle.neph_pool.proofs.Joining.{room_between, IsJoined, joined_as, joined_fits, joined_names, joined_spares}
use Rattle.neph_pool.proofs.Rows.{row_apart, few_held}
use Rattle.neph_pool.proofs.Exclusive.{whole_exclusive}
use Rattle.neph_pool.proofs.plain_pool.PlainPoolFramePool.join.Goals as goal

pub rename_all-requires-clause-room : goal.rename_all-requires-clause-room
rename_all-requires-clause-room c =
    let s = c.args.s.now in
    let o = c.args.other in
    let ne : s.row ≢ o.row = (λ (e : s.row ≡ o.row). row_apart c.args.self.now s o c.requires.seat.0 c.requires.other.0 c.requires.apart (sym e)) in
    λ k d lt h. room_between s.row o.row c.renaming_of-from.result.0 c.renaming_of-from.result.1 c.args.self.now.frames k d ne c.renaming_of-from.ensures c.requires.whole lt h

pub rename_all-requires-clause-count : goal.rename_all-requires-clause-count
rename_all-requires-clause-count c = c.requires.seat.0.kept.held c.renaming_of-from.result.0 (elim c.renaming_of-from.ensures [ inl e ↦ rw e.0 c.requires.other.0.row | inr e ↦ rw e.0 c.requires.seat.0.row ])

pub recount_all-requires-clause-small : goal.recount_all-requires-clause-small
recount_all-requires-clause-small c =
    let p = c.args.self.now in
    let k = c.requires.seat.0.kept in (
      few_held p.held p.frames c.renaming_of-from.result.0 k.held k.few (elim c.renaming_of-from.ensures [ inl e ↦ rw e.0 c.requires.other.0.row | inr e ↦ rw e.0 c.requires.seat.0.row ]),
      few_held p.held p.frames c.renaming_of-from.result.1 k.held k.few (elim c.renaming_of-from.ensures [ inl e ↦ rw e.1 c.requires.seat.0.row | inr e ↦ rw e.1 c.requires.other.0.row ]),
    )

abbrev after : goal.After-s-1 → PlainPool
after c = record { frames = c.rename_all.new.frames; rows = c.point_names.new.rows; held = c.recount_all.new.held; cap = c.args.self.now.cap; shares = c.args.self.now.shares }

abbrev both : goal.After-s-1 → PlainSeat
both c = record { row = c.renaming_of-from.result.1; met = c.args.s.now.met; names = c.add_names.new.names }

-- the loops gave what a join is to give
joins : (c : goal.After-s-1) → IsJoined c.args.self.now (after c) c.args.s.now c.args.other (both c) c.renaming_of-from.result.0
joins c =
    let p = c.args.self.now in
    let s = c.args.s.now in
    let o = c.args.other in
    let from = c.renaming_of-from.result.0 in
    let to = c.renaming_of-from.result.1 in
    let xs = p.frames in
    let ne : s.row ≢ o.row = (λ (e : s.row ≡ o.row). row_apart p s o c.requires.seat.0 c.requires.other.0 c.requires.apart (sym e)) in record {
      choice = c.renaming_of-from.ensures;
      cap = refl;
      size = sym (length-map c.rename_all.new.frames words_in_frame) ∙ ap (λ (ws : List (List ℕ)). length ws) c.rename_all.ensures.words ∙ length-map xs words_in_frame;
      words = c.rename_all.ensures.words;
      moved = c.recount_all.ensures.to;
      left = c.recount_all.ensures.from;
      stayed = c.recount_all.ensures.others;
      whole = c.requires.whole;
      named = c.add_names.ensures;
      rows = c.point_names.ensures;
      gone = c.rename_all.ensures.gone;
      joined = joined_as s.row o.row from to xs _ ne c.renaming_of-from.ensures c.requires.whole c.rename_all.ensures.joined;
      others = c.rename_all.ensures.others;
    }

pub returns-clause-names : goal.returns-clause-names
returns-clause-names c = joined_names c.args.self.now (after c) c.args.s.now c.args.other (both c) c.renaming_of-from.result.0 c.requires.seat.0 c.requires.other.0 c.requires.apart (joins c)

pub returns-clause-entries : goal.returns-clause-entries
returns-clause-entries c = (joins c).joined

pub returns-clause-seat : goal.returns-clause-seat
returns-clause-seat c = joined_fits c.args.self.now (after c) c.args.s.now c.args.other (both c) c.renaming_of-from.result.0 c.requires.seat.0 c.requires.other.0 c.requires.apart (joins c)

pub returns-clause-others : goal.returns-clause-others
returns-clause-others c = joined_spares c.args.self.now (after c) c.args.s.now c.args.other (both c) c.renaming_of-from.result.0 c.requires.seat.0 c.requires.other.0 c.requires.apart (joins c)

pub returns-clause-absent : goal.returns-clause-absent
returns-clause-absent c = λ f here.
    let s = c.args.s.now in
    let o = c.args.other in
    whole_exclusive o.row s.row c.args.self.now.frames f (row_apart c.args.self.now s o c.requires.seat.0 c.requires.other.0 c.requires.apart) c.requires.whole here
