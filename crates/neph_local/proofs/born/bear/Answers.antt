use Rattle.std.proofs.Common.{◌≡◌, ℕ, Bool, List, is_some, IsSome, option_map, length, sym, ap, subst, ◌∙◌}
use Rattle.std.specs.declared.option.Option.{Option}
use Rattle.neph_model.specs.Memory.{page_with_identity}
use Rattle.neph_pool.specs.Names.{only_name, both_names}
use Rattle.neph_pool.specs.World.{Spares}
use Rattle.neph_pool.proofs.Calls.{same_counts_trans}
use Rattle.neph_memory.specs.declared.own.Own.{Own}
use Rattle.neph_memory.specs.Pages.{frame_at}
use Rattle.neph_memory.specs.Memory.{is_marked}
use Rattle.neph_memory.specs.Domains.{IsUnchanged, domain_page}
use Rattle.neph_memory.proofs.Keeping.{shared_trans}
use Rattle.neph_local.proofs.Crowd.{ids_apart}
use Rattle.neph_local.proofs.Starting.{number_is}
use Rattle.neph_local.proofs.Tabling.{some_given}
use Rattle.neph_local.proofs.Stepping.{spares_trans, spares_right, unchanged_trans, unchanged_spared, unchanged_stands, unchanged_page}
use Rattle.neph_local.proofs.Growing.{zero_small, not_zero, zero_or_not}
use Rattle.neph_local.proofs.born.bear.Given as given
use Rattle.neph_local.proofs.born.bear.Goals as goal

pub unwrap-first-requires : goal.unwrap-first-requires
unwrap-first-requires g c = some_given _ _ _ c.new.ensures zero_small

pub copy_bytes-requires-clause-apart : goal.copy_bytes-requires-clause-apart
copy_bytes-requires-clause-apart g c = λ e. c.requires.fork.apart (sym c.grow.ensures.same.id ∙ e ∙ c.in-Ok.ensures.id)

pub copy_bytes-requires-clause-source : goal.copy_bytes-requires-clause-source
copy_bytes-requires-clause-source g c =
    let n : c.unwrap-first.result ≡ 0 = number_is _ _ _ _ c.new.ensures c.unwrap-first.ensures in
    subst (λ (x : ℕ). IsSome (frame_at c.grow.new.d.own.map.pages x)) (sym n) c.grow.ensures.stands.identity

pub copy_bytes-requires-clause-target : goal.copy_bytes-requires-clause-target
copy_bytes-requires-clause-target g c =
    let n : c.unwrap-first.result ≡ 0 = number_is _ _ _ _ c.new.ensures c.unwrap-first.ensures in
    subst (λ (x : ℕ). IsSome (frame_at c.in-Ok.c.own.map.pages x)) (sym n) c.in-Ok.ensures.child.identity

pub copy_bytes-requires-clause-marked : goal.copy_bytes-requires-clause-marked
copy_bytes-requires-clause-marked g c =
    let n : c.unwrap-first.result ≡ 0 = number_is _ _ _ _ c.new.ensures c.unwrap-first.ensures in
    ap (is_marked c.in-Ok.c.own) n ∙ c.in-Ok.ensures.grown.alone

pub write_identity-requires-clause-marked : goal.write_identity-requires-clause-marked
write_identity-requires-clause-marked g c = ap (λ (o : Own). is_marked o 0) c.copy_bytes.ensures.own ∙ c.in-Ok.ensures.grown.alone

same : (g : given.Over) (c : goal.After-write_identity g) → IsUnchanged g.P.FramePool.world c.args.pool.now c.args.d.now c.write_identity.new.pool c.copy_bytes.new.d
same g c =
    let W = g.P.FramePool.world in
    unchanged_trans W c.args.pool.now c.args.d.now c.copy_bytes.new.pool c.copy_bytes.new.d c.write_identity.new.pool c.copy_bytes.new.d
    (unchanged_trans W c.args.pool.now c.args.d.now c.grow.new.pool c.grow.new.d c.copy_bytes.new.pool c.copy_bytes.new.d c.grow.ensures.same c.copy_bytes.ensures.step.parent)
    (unchanged_spared W (W.names c.copy_bytes.new.c.seat) c.copy_bytes.new.pool c.write_identity.new.pool c.copy_bytes.new.d c.copy_bytes.ensures.stands.fits c.write_identity.ensures.moves.others (ids_apart (W.names c.copy_bytes.new.c.seat) (W.names c.copy_bytes.new.d.seat) c.in-Ok.c.id c.grow.new.d.id (c.copy_bytes.ensures.child.names ∙ ap only_name c.copy_bytes.ensures.step.id) (c.copy_bytes.ensures.stands.names ∙ ap only_name c.copy_bytes.ensures.step.parent.id) (λ e. c.requires.fork.apart (sym c.grow.ensures.same.id ∙ sym e ∙ c.in-Ok.ensures.id))))

pub returns-clause-same : goal.returns-clause-same
returns-clause-same g c = same g c

pub returns-clause-stands : goal.returns-clause-stands
returns-clause-stands g c = unchanged_stands g.P.FramePool.world c.args.pool.now c.args.d.now c.write_identity.new.pool c.copy_bytes.new.d c.requires.stands (same g c)

pub returns-clause-id : goal.returns-clause-id
returns-clause-id g c = c.write_identity.ensures.id ∙ c.copy_bytes.ensures.step.id ∙ c.in-Ok.ensures.id

pub returns-clause-counts : goal.returns-clause-counts
returns-clause-counts g c = same_counts_trans _ _ _ _ (same_counts_trans _ _ _ _ c.grow.ensures.counts c.copy_bytes.ensures.step.counts) c.write_identity.ensures.counts

pub returns-clause-others : goal.returns-clause-others
returns-clause-others g c =
    let W = g.P.FramePool.world in
    let a : ℕ → Bool = W.names c.args.d.now.seat in
    let b : ℕ → Bool = W.names c.args.k.seat in
    let mid : Spares W (both_names a b) c.grow.new.pool c.copy_bytes.new.pool =
    subst (λ (ns : ℕ → Bool). Spares W (both_names a ns) c.grow.new.pool c.copy_bytes.new.pool) c.in-Ok.ensures.seat.names
    (subst (λ (ns : ℕ → Bool). Spares W (both_names ns (W.names c.in-Ok.c.seat)) c.grow.new.pool c.copy_bytes.new.pool) c.grow.ensures.same.names c.copy_bytes.ensures.step.others) in
    let last : Spares W b c.copy_bytes.new.pool c.write_identity.new.pool =
    subst (λ (ns : ℕ → Bool). Spares W ns c.copy_bytes.new.pool c.write_identity.new.pool) (c.copy_bytes.ensures.step.names ∙ c.in-Ok.ensures.seat.names) c.write_identity.ensures.moves.others in
    spares_trans W (both_names a b) c.args.pool.now c.grow.new.pool c.write_identity.new.pool c.grow.ensures.others
    (spares_trans W (both_names a b) c.grow.new.pool c.copy_bytes.new.pool c.write_identity.new.pool mid (spares_right W a b c.copy_bytes.new.pool c.write_identity.new.pool last))

abbrev numbered : Option (List ℕ) → ℕ → ℕ → ℕ → Option (List ℕ)
numbered x id parent pages = option_map (λ page. page_with_identity page id parent pages) x

pub returns-clause-born : goal.returns-clause-born
returns-clause-born g c =
    let W = g.P.FramePool.world in
    let k = c.in-Ok.ensures.grown in
    let n : c.unwrap-first.result ≡ 0 = number_is _ _ _ _ c.new.ensures c.unwrap-first.ensures in
    let own = c.write_identity.ensures.own ∙ c.copy_bytes.ensures.own in
    let parent : c.copy_bytes.new.d.id ≡ c.args.d.now.id = c.copy_bytes.ensures.step.parent.id ∙ c.grow.ensures.same.id in
    let many : c.len-pages.result ≡ length c.args.d.now.own.map.pages = c.len-pages.ensures.count ∙ ap (λ (o : Own). length o.map.pages) (c.copy_bytes.ensures.step.parent.own ∙ c.grow.ensures.same.own) in
    let page : domain_page W c.copy_bytes.new.pool c.copy_bytes.new.c 0 ≡ domain_page W c.args.pool.now c.args.d.now 0 =
    ap (domain_page W c.copy_bytes.new.pool c.copy_bytes.new.c) (sym n) ∙ c.copy_bytes.ensures.page ∙ ap (domain_page W c.grow.new.pool c.grow.new.d) n ∙ unchanged_page W c.args.pool.now c.args.d.now c.grow.new.pool c.grow.new.d c.grow.ensures.same 0 in
    record {
      count = ap (λ (o : Own). length o.map.pages) own ∙ k.count;
      frames = λ x le. ap (λ (o : Own). frame_at o.map.pages x) own ∙ k.frames x le;
      bytes = λ x le. c.write_identity.ensures.bytes x (not_zero x le) ∙ c.copy_bytes.ensures.bytes x (zero_or_not x _ le n) ∙ k.bytes x le;
      identity = c.write_identity.ensures.identity
          ∙ ap (λ (x : Option (List ℕ)). numbered x c.copy_bytes.new.c.id c.copy_bytes.new.d.id c.len-pages.result) page
          ∙ ap (λ (i : ℕ). numbered (domain_page W c.args.pool.now c.args.d.now 0) i c.copy_bytes.new.d.id c.len-pages.result) (sym c.write_identity.ensures.id)
          ∙ ap (λ (i : ℕ). numbered (domain_page W c.args.pool.now c.args.d.now 0) c.write_identity.new.d.id i c.len-pages.result) parent
          ∙ ap (numbered (domain_page W c.args.pool.now c.args.d.now 0) c.write_identity.new.d.id c.args.d.now.id) many;
      maps = λ u lt. c.write_identity.ensures.mappings u lt ∙ c.copy_bytes.ensures.mappings u lt ∙ k.maps u lt;
      leaves = λ i lt. ap is_some (c.write_identity.ensures.leaves i lt ∙ c.copy_bytes.ensures.leaves i lt) ∙ k.leaves i lt;
      spare = ap (λ (o : Own). o.spare) own ∙ k.spare;
      hand = c.write_identity.ensures.hand ∙ c.copy_bytes.ensures.step.hand ∙ k.hand;
    }

pub returns-clause-seat : goal.returns-clause-seat
returns-clause-seat g c = record {
  fits = c.write_identity.ensures.moves.fits;
  names = c.write_identity.ensures.moves.names ∙ c.copy_bytes.ensures.step.names ∙ c.in-Ok.ensures.seat.names;
  shared = shared_trans _ _ _ (shared_trans _ _ _ c.in-Ok.ensures.seat.shared c.copy_bytes.ensures.step.shared) c.write_identity.ensures.shared;
}
