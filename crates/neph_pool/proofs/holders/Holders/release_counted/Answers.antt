use Rattle.std.proofs.Common.{◌≡◌, refl, sym, ap, ◌∙◌, true, false}
use Rattle.std.proofs.lemmas.List.{get_or_default}
use Rattle.neph_pool.specs.declared.kind.Kind.TheVariants.{Kept, Shared}
use Rattle.neph_pool.specs.declared.owners.Owners.{Owners}
use Rattle.neph_pool.specs.declared.owners.Owners.TheVariants.{Many}
use Rattle.neph_pool.specs.Entries.{weight_of}
use Rattle.neph_pool.specs.Owners.{held_by, total_of, IsReleased}
use Rattle.neph_pool.proofs.Holding.{last_released, more_released}
use Rattle.neph_pool.proofs.Sharers.{many_here, kept_step, many_step}
use Rattle.neph_pool.proofs.holders.Holders.release_counted.Goals as goal

pub returns-then-total-eq1-clause-owners : goal.returns-then-total-eq1-clause-owners
returns-then-total-eq1-clause-owners c =
    let p = c.args.self.now in
    let w = c.index-2.result.now in
    let at = sym c.requires.shared ∙ get_or_default p.kinds.items c.args.f (Kept 0) Shared c.requires.frame in
    let is = many_here p c.args.f Shared c.requires.frame at c.index.result.now w refl c.index.ensures c.index-2.ensures in
    kept_step p c.args.f Shared c.requires.frame at (IsReleased true c.args.row) (Many w) c.args.row is
    (last_released (Many w) c.args.row (sym c.total.ensures ∙ c.if-total-eq1.true) (ap (λ (o : Owners). weight_of (held_by c.args.row o)) (sym is) ∙ c.requires.once))

pub release-requires-clause-once : goal.release-requires-clause-once
release-requires-clause-once c =
    let p = c.args.self.now in
    let at = sym c.requires.shared ∙ get_or_default p.kinds.items c.args.f (Kept 0) Shared c.requires.frame in
    let is = many_here p c.args.f Shared c.requires.frame at c.index.result.now c.index_mut-2.result.now refl c.index.ensures c.index_mut-2.ensures.value in
    ap (λ (o : Owners). weight_of (held_by c.args.row o)) (sym is) ∙ c.requires.once

pub returns-clause-owners : goal.returns-clause-owners
returns-clause-owners c =
    let p = c.args.self.now in
    let w = c.index_mut-2.result.now in
    let at = sym c.requires.shared ∙ get_or_default p.kinds.items c.args.f (Kept 0) Shared c.requires.frame in
    let same = many_here p c.args.f Shared c.requires.frame at c.index.result.now w refl c.index.ensures c.index_mut-2.ensures.value in
    let was = many_here p c.args.f Shared c.requires.frame at c.index.result.now c.index-2.result.now refl c.index.ensures c.index-2.ensures in
    let total : c.index-2.result.now.count ≡ w.count = ap total_of (sym was ∙ same) in
    many_step p c.args.f Shared c.requires.frame at c.index.result.now w refl c.index.ensures c.index_mut-2.ensures.value (IsReleased false c.args.row) c.release.new.self
    (more_released c.args.row w c.release.new.self (λ e. c.if-total-eq1.false (c.total.ensures ∙ total ∙ e)) c.release.ensures.own c.release.ensures.others c.release.ensures.total)
