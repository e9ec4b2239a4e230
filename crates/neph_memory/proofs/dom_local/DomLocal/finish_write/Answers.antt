use Rattle.std.proofs.Common.{◌∙◌, ◌≡◌, ℕ, length, None, IfSome, IsSome, sym, ap, subst, true, false}
use Rattle.neph_pool.proofs.Calls.{moves_trans}
use Rattle.std.specs.declared.option.Option.{Option}
use Rattle.neph_memory.specs.declared.own.Own.{Own}
use Rattle.neph_memory.specs.declared.write.Write.{Write}
use Rattle.neph_memory.specs.Pages.{frame_at}
use Rattle.neph_memory.specs.Memory.{is_marked}
use Rattle.neph_memory.specs.Domains.{TookSpare, MakesAlone}
use Rattle.neph_memory.proofs.Telling.{took_after}
use Rattle.neph_memory.proofs.dom_local.DomLocal.finish_write.Goals as goal

pub returns-clause-mappings : goal.returns-clause-mappings
returns-clause-mappings g c = λ u lt. c.write_frame.ensures.mappings u lt ∙ c.unshare.ensures.mappings u lt

pub returns-clause-moves : goal.returns-clause-moves
returns-clause-moves g c = moves_trans _ _ _ _ _ _ _ c.unshare.ensures.moves c.write_frame.ensures.moves

pub returns-clause-leaves : goal.returns-clause-leaves
returns-clause-leaves g c = λ i l. c.write_frame.ensures.leaves i l ∙ c.unshare.ensures.leaves i l

pub returns-clause-moved : goal.returns-clause-moved
returns-clause-moved g c =
    let W = g.P.FramePool.world in
    subst (λ (x : Option Write). IfSome x (λ h. is_marked c.args.self.now.own h.pfn ≡ false → TookSpare W c.args.pool.now c.args.self.now c.write_frame.new.pool (record c.write_frame.new.self { hand = None }) h.pfn)) (sym c.unwrap-hand.ensures)
    (λ u. took_after W c.args.pool.now c.args.self.now c.unshare.new.pool c.unshare.new.self c.write_frame.new.pool (record c.write_frame.new.self { hand = None }) c.unwrap-hand.result.pfn
    c.write_frame.ensures.own c.write_frame.ensures.met (c.in_ok-unshare.ensures.moved u))

pub returns-clause-stays : goal.returns-clause-stays
returns-clause-stays g c =
    subst (λ (x : Option Write). IfSome x (λ h. is_marked c.args.self.now.own h.pfn ≡ true → c.write_frame.new.self.own ≡ c.args.self.now.own)) (sym c.unwrap-hand.ensures)
    (λ t. c.write_frame.ensures.own ∙ c.unshare.ensures.same t)

pub returns-clause-alone : goal.returns-clause-alone
returns-clause-alone g c =
    let pfn : ℕ = c.unwrap-hand.result.pfn in
    let own = c.write_frame.ensures.own in
    subst (λ (x : Option Write). IfSome x (λ h. MakesAlone c.args.self.now (record c.write_frame.new.self { hand = None }) h.pfn)) (sym c.unwrap-hand.ensures) (record {
      mark = ap (λ (o : Own). is_marked o pfn) own ∙ c.in_ok-unshare.ensures.ok;
      local = subst (λ (o : Own). IsSome (frame_at o.map.pages pfn)) (sym own) c.unshare.ensures.page;
      others = λ x n. ap (λ (o : Own). frame_at o.map.pages x) own ∙ c.unshare.ensures.others x n;
      count = ap (λ (o : Own). length o.map.pages) own ∙ c.unshare.ensures.count;
    })
