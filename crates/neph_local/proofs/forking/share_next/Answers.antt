use Rattle.std.proofs.Common.{◌≡◌, ◌+◌, ℕ, Bool, List, false, Some, IfSome, refl, sym, ap, subst, ◌∙◌, eq-eqb}
use Rattle.std.specs.declared.option.Option.{Option}
use Rattle.neph_pool.specs.Entries.{hold_at, is_counted, is_here}
use Rattle.neph_gmap.specs.declared.page.Page.{Page}
use Rattle.neph_gmap.specs.GuestPages.{GuestPages}
use Rattle.neph_local.proofs.Crowd.{ids_apart}
use Rattle.neph_local.proofs.Carrying.{free, forking_step, bytes_same}
use Rattle.neph_memory.specs.Pages.{frame_at}
use Rattle.neph_local.specs.Forks.{IsForking}
use Rattle.neph_local.proofs.forking.share_next.Goals as goal

pub share_page-requires-clause-to : goal.share_page-requires-clause-to
share_page-requires-clause-to g c = (c.requires.forks.fits, ap (λ (ns : ℕ → Bool). ns c.args.k.now.child) c.requires.forks.names ∙ eq-eqb c.args.k.now.child c.args.k.now.child refl)

pub share_page-requires-clause-apart : goal.share_page-requires-clause-apart
share_page-requires-clause-apart g c = ids_apart _ _ _ _ c.requires.stands.names c.requires.forks.names c.requires.apart

pub share_page-requires-clause-free : goal.share_page-requires-clause-free
share_page-requires-clause-free g c =
    let W = g.P.FramePool.world in
    let es = W.entries c.args.pool.now c.args.d.now.seat in
    let ef = W.entries c.args.pool.now c.args.k.now.seat in
    let at = sym c.frame_for.ensures ∙ c.unwrap-frame.ensures in
    let here : frame_at c.args.d.now.own.map.pages c.args.k.now.next ≡ Some c.unwrap-frame.result = ap (frame_at c.args.d.now.own.map.pages) (sym c.requires.page) ∙ at in
    subst (λ (x : Option ℕ). IfSome x (λ f. is_counted (hold_at ef f) ≡ false)) (sym at)
    (free es es ef ef c.args.d.now.tables.root c.args.d.now.own c.requires.stands.memory c.args.k.now.next c.unwrap-frame.result c.args.k.now.frames.items c.requires.forks.forking here)

pub returns-clause-forks : goal.returns-clause-forks
returns-clause-forks g c =
    let W = g.P.FramePool.world in
    let es = W.entries c.args.pool.now c.args.d.now.seat in
    let ef = W.entries c.args.pool.now c.args.k.now.seat in
    let gs = W.entries c.share_page.new.pool c.share_page.new.self.seat in
    let gf = W.entries c.share_page.new.pool c.share_page.new.to in
    let at = sym c.frame_for.ensures ∙ c.unwrap-frame.ensures in
    let ps : List Page = c.args.d.now.own.map.pages in
    let here : frame_at ps c.args.k.now.next ≡ Some c.unwrap-frame.result = ap (frame_at ps) (sym c.requires.page) ∙ at in
    let lent = c.share_page.ensures.lent c.unwrap-frame.result at in
    let other = c.share_page.ensures.others_held c.unwrap-frame.result at in
    record {
      fits = c.share_page.ensures.to.fits;
      names = c.share_page.ensures.to.names ∙ c.requires.forks.names;
      forking = subst (λ (xs : List Page). IsForking gs gf xs (c.args.k.now.next + 1) c.args.k.now.frames.items) (sym (ap (λ (m : GuestPages). m.pages) c.share_page.ensures.map))
          (forking_step es gs ef gf c.args.d.now.tables.root c.args.d.now.own c.requires.stands.memory c.args.k.now.next c.unwrap-frame.result c.args.k.now.frames.items c.requires.forks.forking here
          c.requires.began (ap is_here (c.share_page.ensures.absent c.unwrap-frame.result at)) lent.0 lent.1 (λ x n. (other x n).0) (λ x n. (other x n).1) (bytes_same gs es c.share_page.new.self.own.map.pages ps (ap (λ (m : GuestPages). m.pages) c.share_page.ensures.map) c.share_page.ensures.bytes));
    }
