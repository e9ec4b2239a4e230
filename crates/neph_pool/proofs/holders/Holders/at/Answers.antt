use Rattle.std.proofs.Common.{◌<◌, sym, ap, ◌∙◌, arith, length, get_or}
use Rattle.std.proofs.lemmas.List.{get_or_default, get_or-map}
use Rattle.neph_pool.specs.declared.weights.Weights.{Weights}
use Rattle.neph_pool.specs.declared.owners.Owners.TheVariants.{Spare, Many}
use Rattle.neph_pool.specs.declared.kind.Kind.{Kind}
use Rattle.neph_pool.specs.Holders.{owners_by, owner_at, shared_of}
use Rattle.neph_pool.proofs.Sharers.{holder_here}
use Rattle.neph_pool.proofs.holders.Holders.at.Goals as goal

pub returns-in-Kept : goal.returns-in-Kept
returns-in-Kept c =
    let p = c.args.self.now in
    sym (holder_here (shared_of p.counts.items) p.kinds.items p.places.items c.args.f c.index.result.now c.requires p.even c.index.ensures ∙ ap (λ (k : Kind). owners_by k (owner_at (shared_of p.counts.items) (get_or p.places.items c.args.f 0))) c.in-Kept.is)

pub returns-in-Own : goal.returns-in-Own
returns-in-Own c =
    let p = c.args.self.now in
    sym (holder_here (shared_of p.counts.items) p.kinds.items p.places.items c.args.f c.index.result.now c.requires p.even c.index.ensures ∙ ap (λ (k : Kind). owners_by k (owner_at (shared_of p.counts.items) (get_or p.places.items c.args.f 0))) c.in-Own.is)

pub returns-in-Shared : goal.returns-in-Shared
returns-in-Shared c =
    let p = c.args.self.now in
    let xs = p.counts.items in
    let fit : c.args.f < length p.places.items = omega (arith, c.requires, p.even) in
    let is = c.index-in-Shared.ensures ∙ get_or_default p.places.items c.args.f c.index-in-Shared.result.now 0 fit in
    let lt : c.index-in-Shared.result.now < length xs = rw is (let w = p.within c.args.f in omega (arith, p.counts.ok.0)) in
    sym (holder_here (shared_of xs) p.kinds.items p.places.items c.args.f c.index.result.now c.requires p.even c.index.ensures ∙ ap (λ (k : Kind). owners_by k (owner_at (shared_of p.counts.items) (get_or p.places.items c.args.f 0))) c.in-Shared.is
    ∙ rw (← is) (get_or-map (λ (w : Weights). Many w) xs c.index-in-Shared.result.now c.index-in-Shared-2.result.now (Spare 0) lt ∙ ap (λ (w : Weights). Many w) (sym c.index-in-Shared-2.ensures)))
