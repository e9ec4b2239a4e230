use Rattle.std.proofs.Common.{◌≡◌, ◌<◌, ◌≤◌, ℕ, IsSome, length, refl, sym, ap, subst, ◌∙◌, arith, ◌+◌, ◌/◌}
use Rattle.neph_pool.proofs.Calls.{moves_trans, same_counts_trans}
use Rattle.neph_memory.specs.declared.own.Own.{Own}
use Rattle.neph_memory.specs.Memory.{is_marked}
use Rattle.neph_local.proofs.Starting.{number_is, started_bytes}
use Rattle.neph_local.proofs.Growing.{some_pages}
use Rattle.neph_local.proofs.started.start.Goals as goal

pub write_identity-requires-clause-marked : goal.write_identity-requires-clause-marked
write_identity-requires-clause-marked g c = c.in_ok-d.ensures.starts.alone 0 (some_pages _ c.requires.many) refl

pub returns-clause-moves : goal.returns-clause-moves
returns-clause-moves g c = moves_trans _ _ _ _ _ _ _ c.in_ok-d.ensures.moves c.write_identity.ensures.moves

pub returns-clause-counts : goal.returns-clause-counts
returns-clause-counts g c = same_counts_trans _ _ _ _ c.start_blank.ensures.counts c.write_identity.ensures.counts

pub returns-clause-leaves : goal.returns-clause-leaves
returns-clause-leaves g c = λ i lt. subst IsSome (sym (c.write_identity.ensures.leaves i (few_leaves i _ c.requires.few lt))) (c.in_ok-d.ensures.leaves i lt) where
  few_leaves : (i n : ℕ) → n ≤ 1024 → i < (n + 511) / 512 → i < 512
  few_leaves i n le lt = omega (arith, le, lt)

pub returns-clause-none : goal.returns-clause-none
returns-clause-none g c = λ i le lt. c.write_identity.ensures.leaves i lt ∙ c.in_ok-d.ensures.none i le lt

pub returns-clause-id : goal.returns-clause-id
returns-clause-id g c = c.write_identity.ensures.id ∙ c.in_ok-d.ensures.id

pub returns-clause-started : goal.returns-clause-started
returns-clause-started g c =
    let W = g.P.FramePool.world in
    let n : c.unwrap-nobody.result ≡ 0 = number_is _ _ _ _ c.new.ensures c.unwrap-nobody.ensures in
    let s = c.in_ok-d.ensures.starts in record {
      count = ap (λ (o : Own). length o.map.pages) c.write_identity.ensures.own ∙ c.in_ok-d.ensures.count;
      bytes = started_bytes _ _ c.args.id c.in_ok-d.d.id c.unwrap-nobody.result c.args.pages c.requires.many c.in_ok-d.ensures.id n s.bytes c.write_identity.ensures.identity c.write_identity.ensures.bytes;
      maps = λ u lt. c.write_identity.ensures.mappings u lt ∙ s.shows u lt;
      alone = λ q lt h. ap (λ (o : Own). is_marked o q) c.write_identity.ensures.own ∙ s.alone q lt h;
      spare = ap (λ (o : Own). o.spare) c.write_identity.ensures.own ∙ c.in_ok-d.ensures.spare;
      hand = c.write_identity.ensures.hand ∙ c.in_ok-d.ensures.hand;
    }
