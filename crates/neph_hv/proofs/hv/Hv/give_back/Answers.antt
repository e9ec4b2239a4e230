use Rattle.std.proofs.Common.{[], ◌∷◌, ℕ, Bool, List, Some, refl, sym, ap, subst, ◌∙◌}
use Rattle.std.proofs.lemmas.Option.{slice_get_within}
use Rattle.neph_model.specs.Machine.{Exposed}
use Rattle.neph_gmap.specs.declared.page.Page.TheVariants.{Exposed as Away}
use Rattle.neph_pool.specs.Names.{IsApart, both_names}
use Rattle.neph_pool.specs.World.{Spares}
use Rattle.neph_heap.proofs.Loose.{goes}
use Rattle.neph_hv.proofs.hv.Hv.give_back.Goals as goal

pub returns-clause-hv : goal.returns-clause-hv
returns-clause-hv g c =
    let u = c.unexpose-frame in
    let t = c.take_back in
    (goes g.P.FramePool.world c.args.pool.now t.new.pool u.new.self.seat t.new.from u.new.self.stock u.result u.ensures.heap (record { left = t.ensures.left; stays = t.ensures.from; frames = t.ensures.others.frames })).0

pub returns-clause-shown : goal.returns-clause-shown
returns-clause-shown g c =
    let u = c.unexpose-frame in
    let t = c.take_back in
    (goes g.P.FramePool.world c.args.pool.now t.new.pool u.new.self.seat t.new.from u.new.self.stock u.result u.ensures.heap (record { left = t.ensures.left; stays = t.ensures.from; frames = t.ensures.others.frames })).1 ∙ u.ensures.pages

pub returns-clause-page : goal.returns-clause-page
returns-clause-page g c =
    let W = g.P.FramePool.world in
    let u = c.unexpose-frame.ensures in
    let t = c.take_back.ensures in
    record {
      inside = slice_get_within c.args.d.now.own.map.pages c.args.pfn Away c.requires.away;
      frame = c.unexpose-frame.result;
      was = u.frame;
      stock = u.lists;
      page = t.page;
      bytes = t.bytes ∙ ap Some u.bytes;
      spare = t.spare;
      hand = t.hand;
      id = t.id;
      seat = t.seat;
      names = t.from.names ∙ ap W.names u.seat;
    }

pub returns-clause-others : goal.returns-clause-others
returns-clause-others g c =
    let W = g.P.FramePool.world in
    let p = c.args.pool.now in
    let q = c.take_back.new.pool in
    subst (λ s. Spares W (both_names (W.names s) (W.names c.args.d.now.seat)) p q) c.unexpose-frame.ensures.seat c.take_back.ensures.others
