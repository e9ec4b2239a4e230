use Rattle.std.proofs.Common.{◌≡◌, ◌==◌, ℕ, Bool, true, false, List, refl, sym, ap, subst, ◌∙◌, eq-eqb, if◌then◌else◌}
use Rattle.std.specs.declared.option.Option.{Option}
use Rattle.neph_pool.specs.declared.entry.Entry.{Entry}
use Rattle.neph_pool.proofs.Calls.{moves_trans}
use Rattle.neph_ptab.specs.declared.walk.Walk.{Walk}
use Rattle.neph_ptab.specs.declared.walk.Walk.TheVariants.{Local}
use Rattle.neph_ptab.specs.Moves.{IsLocal}
use Rattle.neph_ptab.specs.Tables.{walk_at}
use Rattle.neph_ptab.proofs.tests.map_once.Goals as goal

-- a virtual page that was made to lead to a local page
local : (v page : ℕ) (w x : Walk) → w ≡ (if v == v then Local page true false else x) → IsLocal w
local v page w x e = subst IsLocal (sym (e ∙ ap (λ (b : Bool). if b then Local page true false else x) (eq-eqb v v refl))) tt

pub share_page-requires-clause-local : goal.share_page-requires-clause-local
share_page-requires-clause-local g c =
    let W = g.P.FramePool.world in
    let v = c.args.v in
    let set = local v c.args.page _ _ (c.set.ensures.walks v c.set.ensures.range) in
    subst (λ (r : ℕ). IsLocal (walk_at (W.entries c.walk-mapped.new.pool c.walk-mapped.new.seat) r v)) (sym c.set.ensures.root)
    (subst (λ (xs : List (Option Entry)). IsLocal (walk_at xs c.add_leaf.new.self.root v)) (sym c.walk-mapped.ensures.entries) set)

pub returns : goal.returns
returns g c = record {
  moves =
      let step = moves_trans g.P.FramePool.world in
      step _ _ _ _ _ _ (step _ _ _ _ _ _ (step _ _ _ _ _ _ (step _ _ _ _ _ _ (step _ _ _ _ _ _ (step _ _ _ _ _ _ (step _ _ _ _ _ _ (step _ _ _ _ _ _ c.new-tables.ensures.moves c.needs_leaf-missing.ensures.moves) c.add_leaf.ensures.moves) c.set.ensures.moves) c.walk-mapped.ensures.moves) c.share_page.ensures.moves) c.walk-shared.ensures.moves) c.clear.ensures.moves) c.walk-cleared.ensures.moves;
}
