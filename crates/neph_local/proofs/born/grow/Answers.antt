use Rattle.std.proofs.Common.{◌≡◌, ℕ, Bool, List, Vec, Global, true, false, is_some, IsSome, length, slice_get, slice_index_or, sym, ap, subst, ◌∙◌}
use Rattle.std.specs.declared.option.Option.{Option}
use Rattle.neph_pool.specs.declared.entry.Entry.{Entry}
use Rattle.neph_pool.specs.Names.{only_name}
use Rattle.neph_pool.proofs.Calls.{same_counts_trans}
use Rattle.neph_gmap.specs.declared.page.Page.{Page}
use Rattle.neph_memory.specs.Pages.{frame_at}
use Rattle.neph_memory.specs.Memory.{is_marked, leaf_count}
use Rattle.neph_memory.proofs.Keeping.{shared_trans}
use Rattle.neph_memory.proofs.Rooming.{room_alike}
use Rattle.neph_memory.proofs.Making.{builds_stands}
use Rattle.neph_local.proofs.Starting.{number_is}
use Rattle.neph_local.proofs.Stepping.{unchanged_stands, unchanged_mapping, unchanged_page, unchanged_leaf}
use Rattle.neph_local.proofs.Growing.{frame_from, sprouted_same, placed_same, grown_same, grown_others, zero_or_not, some_more, one_fewer, zero_small}
use Rattle.neph_local.proofs.Tabling.{some_given}
use Rattle.neph_local.proofs.born.grow.Goals as goal

pub returns-in-Err-clause-stands : goal.returns-in-Err-clause-stands
returns-in-Err-clause-stands g c = unchanged_stands g.P.FramePool.world c.args.pool.now c.args.d.now c.copy_tables.new.pool c.copy_tables.new.d c.requires.stands (grown_same g.P.FramePool.world c.args.pool.now c.args.d.now c.args.k.seat c.args.k.child c.requires.stands c.requires.fork.forks.names c.requires.fork.apart c.sprout-c.new.pool c.sprout-c.ensures.others c.sprout-c.result.memory (c.sprout-c.ensures.builds.names ∙ ap only_name c.sprout-c.ensures.id ∙ sym c.requires.fork.forks.names) c.place.new.pool c.place.new.d c.place.ensures.moves c.copy_tables.new.pool c.copy_tables.new.d c.copy_tables.new.c.memory c.copy_tables.ensures.step)

pub returns-in-Err-clause-same : goal.returns-in-Err-clause-same
returns-in-Err-clause-same g c = grown_same g.P.FramePool.world c.args.pool.now c.args.d.now c.args.k.seat c.args.k.child c.requires.stands c.requires.fork.forks.names c.requires.fork.apart c.sprout-c.new.pool c.sprout-c.ensures.others c.sprout-c.result.memory (c.sprout-c.ensures.builds.names ∙ ap only_name c.sprout-c.ensures.id ∙ sym c.requires.fork.forks.names) c.place.new.pool c.place.new.d c.place.ensures.moves c.copy_tables.new.pool c.copy_tables.new.d c.copy_tables.new.c.memory c.copy_tables.ensures.step

pub returns-in-Err-clause-others : goal.returns-in-Err-clause-others
returns-in-Err-clause-others g c = grown_others g.P.FramePool.world c.args.pool.now c.args.d.now c.args.k.seat c.args.k.child c.requires.stands c.requires.fork.forks.names c.requires.fork.apart c.sprout-c.new.pool c.sprout-c.ensures.others c.sprout-c.result.memory (c.sprout-c.ensures.builds.names ∙ ap only_name c.sprout-c.ensures.id ∙ sym c.requires.fork.forks.names) c.place.new.pool c.place.new.d c.place.ensures.moves c.copy_tables.new.pool c.copy_tables.new.d c.copy_tables.new.c.memory c.copy_tables.ensures.step

pub returns-in-Err-clause-counts : goal.returns-in-Err-clause-counts
returns-in-Err-clause-counts g c = same_counts_trans _ _ _ _ (same_counts_trans _ _ _ _ c.sprout-c.ensures.counts c.place.ensures.counts) c.copy_tables.ensures.step.counts

pub returns-in-Ok-clause-stands : goal.returns-in-Ok-clause-stands
returns-in-Ok-clause-stands g c = unchanged_stands g.P.FramePool.world c.args.pool.now c.args.d.now c.copy_tables.new.pool c.copy_tables.new.d c.requires.stands (grown_same g.P.FramePool.world c.args.pool.now c.args.d.now c.args.k.seat c.args.k.child c.requires.stands c.requires.fork.forks.names c.requires.fork.apart c.sprout-c.new.pool c.sprout-c.ensures.others c.sprout-c.result.memory (c.sprout-c.ensures.builds.names ∙ ap only_name c.sprout-c.ensures.id ∙ sym c.requires.fork.forks.names) c.place.new.pool c.place.new.d c.place.ensures.moves c.copy_tables.new.pool c.copy_tables.new.d c.copy_tables.new.c.memory c.copy_tables.ensures.step)

pub returns-in-Ok-clause-same : goal.returns-in-Ok-clause-same
returns-in-Ok-clause-same g c = grown_same g.P.FramePool.world c.args.pool.now c.args.d.now c.args.k.seat c.args.k.child c.requires.stands c.requires.fork.forks.names c.requires.fork.apart c.sprout-c.new.pool c.sprout-c.ensures.others c.sprout-c.result.memory (c.sprout-c.ensures.builds.names ∙ ap only_name c.sprout-c.ensures.id ∙ sym c.requires.fork.forks.names) c.place.new.pool c.place.new.d c.place.ensures.moves c.copy_tables.new.pool c.copy_tables.new.d c.copy_tables.new.c.memory c.copy_tables.ensures.step

pub returns-in-Ok-clause-others : goal.returns-in-Ok-clause-others
returns-in-Ok-clause-others g c = grown_others g.P.FramePool.world c.args.pool.now c.args.d.now c.args.k.seat c.args.k.child c.requires.stands c.requires.fork.forks.names c.requires.fork.apart c.sprout-c.new.pool c.sprout-c.ensures.others c.sprout-c.result.memory (c.sprout-c.ensures.builds.names ∙ ap only_name c.sprout-c.ensures.id ∙ sym c.requires.fork.forks.names) c.place.new.pool c.place.new.d c.place.ensures.moves c.copy_tables.new.pool c.copy_tables.new.d c.copy_tables.new.c.memory c.copy_tables.ensures.step

pub returns-in-Ok-clause-counts : goal.returns-in-Ok-clause-counts
returns-in-Ok-clause-counts g c = same_counts_trans _ _ _ _ (same_counts_trans _ _ _ _ c.sprout-c.ensures.counts c.place.ensures.counts) c.copy_tables.ensures.step.counts

pub place-requires-clause-some : goal.place-requires-clause-some
place-requires-clause-some g c = some_more _ 0 _ c.sprout-c.ensures.left

pub place-requires-clause-away : goal.place-requires-clause-away
place-requires-clause-away g c =
    let n : c.unwrap-first.result ≡ 0 = number_is _ _ _ _ c.new.ensures c.unwrap-first.ensures in
    ap (slice_get c.sprout-c.result.memory.own.map.pages) n ∙ c.sprout-c.ensures.identity

pub place-requires-clause-unlisted : goal.place-requires-clause-unlisted
place-requires-clause-unlisted g c = c.sprout-c.ensures.sprout.unlisted _

pub copy_tables-requires-clause-stands : goal.copy_tables-requires-clause-stands
copy_tables-requires-clause-stands g c = unchanged_stands g.P.FramePool.world c.args.pool.now c.args.d.now c.place.new.pool c.args.d.now c.requires.stands (placed_same g.P.FramePool.world c.args.pool.now c.args.d.now c.args.k.seat c.args.k.child c.requires.stands c.requires.fork.forks.names c.requires.fork.apart c.sprout-c.new.pool c.sprout-c.ensures.others c.sprout-c.result.memory (c.sprout-c.ensures.builds.names ∙ ap only_name c.sprout-c.ensures.id ∙ sym c.requires.fork.forks.names) c.place.new.pool c.place.new.d c.place.ensures.moves)

pub copy_tables-requires-clause-apart : goal.copy_tables-requires-clause-apart
copy_tables-requires-clause-apart g c = λ e. c.requires.fork.apart (e ∙ c.place.ensures.id ∙ c.sprout-c.ensures.id)

pub copy_tables-requires-clause-count : goal.copy_tables-requires-clause-count
copy_tables-requires-clause-count g c = c.place.ensures.count ∙ c.sprout-c.ensures.sprout.count

pub copy_tables-requires-clause-frames : goal.copy_tables-requires-clause-frames
copy_tables-requires-clause-frames g c = λ x le.
    let n : c.unwrap-first.result ≡ 0 = number_is _ _ _ _ c.new.ensures c.unwrap-first.ensures in
    frame_from c.sprout-c.result.memory.own.map.pages c.place.new.d.own.map.pages x (c.place.ensures.others x (zero_or_not x _ le n)) ∙ c.sprout-c.ensures.sprout.frames x le

pub copy_tables-requires-clause-first : goal.copy_tables-requires-clause-first
copy_tables-requires-clause-first g c =
    let n : c.unwrap-first.result ≡ 0 = number_is _ _ _ _ c.new.ensures c.unwrap-first.ensures in
    subst (λ (x : ℕ). IsSome (frame_at c.place.new.d.own.map.pages x)) n c.place.ensures.page

pub copy_tables-requires-clause-alone : goal.copy_tables-requires-clause-alone
copy_tables-requires-clause-alone g c =
    let n : c.unwrap-first.result ≡ 0 = number_is _ _ _ _ c.new.ensures c.unwrap-first.ensures in
    subst (λ (x : ℕ). is_marked c.place.new.d.own x ≡ true) n c.place.ensures.mark

pub copy_tables-requires-clause-none : goal.copy_tables-requires-clause-none
copy_tables-requires-clause-none g c = λ i lt. c.place.ensures.leaves i ∙ c.sprout-c.ensures.sprout.leaves i lt

pub copy_tables-requires-clause-enough : goal.copy_tables-requires-clause-enough
copy_tables-requires-clause-enough g c =
    let s = placed_same g.P.FramePool.world c.args.pool.now c.args.d.now c.args.k.seat c.args.k.child c.requires.stands c.requires.fork.forks.names c.requires.fork.apart c.sprout-c.new.pool c.sprout-c.ensures.others c.sprout-c.result.memory (c.sprout-c.ensures.builds.names ∙ ap only_name c.sprout-c.ensures.id ∙ sym c.requires.fork.forks.names) c.place.new.pool c.place.new.d c.place.ensures.moves in
    one_fewer _ _ _ _ c.place.ensures.left c.sprout-c.ensures.left (ap (λ (es : List (Option Entry)). leaf_count es c.args.d.now.tables.root) s.entries)

pub returns-in-Ok-clause-child : goal.returns-in-Ok-clause-child
returns-in-Ok-clause-child g c =
    let W = g.P.FramePool.world in
    let k = c.copy_tables.new.c.memory in
    let mid = placed_same g.P.FramePool.world c.args.pool.now c.args.d.now c.args.k.seat c.args.k.child c.requires.stands c.requires.fork.forks.names c.requires.fork.apart c.sprout-c.new.pool c.sprout-c.ensures.others c.sprout-c.result.memory (c.sprout-c.ensures.builds.names ∙ ap only_name c.sprout-c.ensures.id ∙ sym c.requires.fork.forks.names) c.place.new.pool c.place.new.d c.place.ensures.moves in
    let n : c.unwrap-first.result ≡ 0 = number_is _ _ _ _ c.new.ensures c.unwrap-first.ensures in
    builds_stands g.P.FramePool.world c.copy_tables.new.pool k.seat k.id k.tables.root k.own c.copy_tables.new.c.frames.items c.in-Ok.ensures.builds c.in-Ok.ensures.left
    (c.copy_tables.ensures.spare ∙ c.place.ensures.spare ∙ c.sprout-c.ensures.spare)
    (subst (λ (ps : List Page). IsSome (frame_at ps 0)) (sym c.copy_tables.ensures.pages) (subst (λ (x : ℕ). IsSome (frame_at c.place.new.d.own.map.pages x)) n c.place.ensures.page))
    (room_alike _ _ c.args.d.now.tables.root k.tables.root (length c.args.d.now.own.map.pages) (length k.own.map.pages) _ _ c.requires.stands.room (ap (λ (ps : List Page). length ps) c.copy_tables.ensures.pages ∙ c.place.ensures.count ∙ c.sprout-c.ensures.sprout.count)
    (λ i lt. c.in-Ok.ensures.leaves i lt ∙ ap is_some (unchanged_leaf W c.args.pool.now c.args.d.now c.place.new.pool c.args.d.now mid i))
    (c.copy_tables.ensures.step.others.cap ∙ c.place.ensures.moves.others.cap ∙ c.sprout-c.ensures.others.cap))

pub returns-in-Ok-clause-id : goal.returns-in-Ok-clause-id
returns-in-Ok-clause-id g c = c.copy_tables.ensures.step.id ∙ c.place.ensures.id ∙ c.sprout-c.ensures.id

pub returns-in-Ok-clause-seat : goal.returns-in-Ok-clause-seat
returns-in-Ok-clause-seat g c = record {
  fits = c.copy_tables.ensures.step.fits;
  names = c.copy_tables.ensures.step.names ∙ c.place.ensures.moves.names ∙ (c.sprout-c.ensures.builds.names ∙ ap only_name c.sprout-c.ensures.id ∙ sym c.requires.fork.forks.names);
  shared = shared_trans _ _ _ (shared_trans _ _ _ c.sprout-c.ensures.shared c.place.ensures.shared) c.copy_tables.ensures.step.shared;
}

pub returns-in-Err-clause-back : goal.returns-in-Err-clause-back
returns-in-Err-clause-back g c = record {
  fits = c.copy_tables.ensures.step.fits;
  names = c.copy_tables.ensures.step.names ∙ c.place.ensures.moves.names ∙ (c.sprout-c.ensures.builds.names ∙ ap only_name c.sprout-c.ensures.id ∙ sym c.requires.fork.forks.names);
  shared = shared_trans _ _ _ (shared_trans _ _ _ c.sprout-c.ensures.shared c.place.ensures.shared) c.copy_tables.ensures.step.shared;
}

pub returns-in-Ok-clause-grown : goal.returns-in-Ok-clause-grown
returns-in-Ok-clause-grown g c =
    let W = g.P.FramePool.world in
    let first = sprouted_same g.P.FramePool.world c.args.pool.now c.args.d.now c.args.k.seat c.args.k.child c.requires.stands c.requires.fork.forks.names c.requires.fork.apart c.sprout-c.new.pool c.sprout-c.ensures.others in
    let mid = placed_same g.P.FramePool.world c.args.pool.now c.args.d.now c.args.k.seat c.args.k.child c.requires.stands c.requires.fork.forks.names c.requires.fork.apart c.sprout-c.new.pool c.sprout-c.ensures.others c.sprout-c.result.memory (c.sprout-c.ensures.builds.names ∙ ap only_name c.sprout-c.ensures.id ∙ sym c.requires.fork.forks.names) c.place.new.pool c.place.new.d c.place.ensures.moves in
    let sp = c.sprout-c.ensures.sprout in
    let n : c.unwrap-first.result ≡ 0 = number_is _ _ _ _ c.new.ensures c.unwrap-first.ensures in
    let k = c.copy_tables.new.c.memory in record {
      count = ap (λ (ps : List Page). length ps) c.copy_tables.ensures.pages ∙ c.place.ensures.count ∙ sp.count;
      frames = λ x le. ap (λ (ps : List Page). frame_at ps x) c.copy_tables.ensures.pages
          ∙ frame_from c.sprout-c.result.memory.own.map.pages c.place.new.d.own.map.pages x (c.place.ensures.others x (zero_or_not x _ le n)) ∙ sp.frames x le;
      bytes = λ x le. c.in-Ok.ensures.bytes x ∙ c.place.ensures.bytes x (zero_or_not x _ le n) ∙ sp.bytes x le ∙ unchanged_page W c.args.pool.now c.args.d.now c.sprout-c.new.pool c.args.d.now first x;
      maps = λ u lt. c.in-Ok.ensures.maps u lt ∙ unchanged_mapping W c.args.pool.now c.args.d.now c.place.new.pool c.args.d.now mid u;
      leaves = λ i lt. c.in-Ok.ensures.leaves i lt ∙ ap is_some (unchanged_leaf W c.args.pool.now c.args.d.now c.place.new.pool c.args.d.now mid i);
      alone = ap (λ (ms : Vec Bool Global). slice_index_or ms.items 0 false) c.copy_tables.ensures.marks ∙ subst (λ (x : ℕ). is_marked c.place.new.d.own x ≡ true) n c.place.ensures.mark;
      spare = c.copy_tables.ensures.spare ∙ c.place.ensures.spare ∙ c.sprout-c.ensures.spare;
      hand = c.copy_tables.ensures.step.hand ∙ c.place.ensures.hand ∙ c.sprout-c.ensures.hand;
    }

pub unwrap-first-requires : goal.unwrap-first-requires
unwrap-first-requires g c = some_given _ _ _ c.new.ensures zero_small
