use Rattle.std.proofs.Common.{◌≡◌, ◌≤◌, ℕ, List, length, slice_index, refl, sym, ap, subst, ◌∙◌, arith, inl}
use Rattle.std.specs.declared.option.Option.{Option}
use Rattle.neph_pool.specs.declared.entry.Entry.{Entry}
use Rattle.neph_pool.specs.Entries.{words_at}
use Rattle.neph_pool.proofs.Calls.{moves_refl, moves_trans}
use Rattle.neph_ptab.specs.Bits.{leaf_in}
use Rattle.neph_ptab.specs.Tables.{leaf_at}
use Rattle.neph_memory.specs.declared.own.Own.{Own}
use Rattle.neph_memory.specs.declared.room.TheConstants.{MAX_HELD}
use Rattle.neph_memory.specs.Pages.{frame_at}
use Rattle.neph_memory.proofs.Leading.{named}
use Rattle.neph_local.proofs.Starting.{number_is}
use Rattle.neph_local.proofs.Emptying.{Ends, IsLeft, ends_start, page_once, leaf_once, ended_page, ended_leaf, ended_spare, ended_root}
use Rattle.neph_local.proofs.ending.end.Given as given
use Rattle.neph_local.proofs.ending.end.Goals as goal

abbrev old : (g : given.Over) → goal.After-len-pages g → List (Option Entry)
old g c = g.P.FramePool.world.entries c.args.pool.now c.args.d.seat

pub loop-n-init : goal.loop-n-init
loop-n-init g c = record {
  ends = subst (λ (xs : List ℕ). Ends (old g c) (old g c) (IsLeft (old g c) c.args.d.tables.root c.args.d.own 0 0) xs) (sym c.into_list-freed.ensures.items) (ends_start (old g c) c.args.d.tables.root c.args.d.own c.requires.stands.memory);
  words = refl;
  count = let k : length c.into_list-freed.result.items ≡ 0 = ap (λ (xs : List ℕ). length xs) c.into_list-freed.ensures.items in omega (arith, k);
  room = c.into_list-freed.ensures.room;
  moves = moves_refl _ _ _ c.requires.stands.fits;
  shares = refl;
}

pub release_some-requires-clause-seat : goal.release_some-requires-clause-seat
release_some-requires-clause-seat g c = (c.loop-n.invariant.moves.fits, named _ _ (c.loop-n.invariant.moves.names ∙ c.requires.stands.names))

pub release_some-requires-clause-frame : goal.release_some-requires-clause-frame
release_some-requires-clause-frame g c = λ f h.
    let W = g.P.FramePool.world in
    page_once (W.entries c.args.pool.now c.args.d.seat) c.args.d.tables.root c.args.d.own c.requires.stands.memory (W.entries c.loop-n.pool c.loop-n.seat) c.loop-n.freed.items c.loop-n.n f c.loop-n.invariant.ends (sym (c.frame_for-frame.ensures ∙ ap (frame_at c.args.d.own.map.pages) (number_is _ _ _ _ c.new.ensures c.unwrap-p.ensures ∙ c.from.ensures)) ∙ h)

pub loop-n-preserved : goal.loop-n-preserved
loop-n-preserved g c =
    let W = g.P.FramePool.world in
    let es = W.entries c.args.pool.now c.args.d.seat in
    let root : ℕ = c.args.d.tables.root in
    let o : Own = c.args.d.own in
    let m = c.requires.stands.memory in
    let v = c.loop-n.invariant in
    let at : c.frame_for-frame.result ≡ frame_at o.map.pages c.loop-n.n = c.frame_for-frame.ensures ∙ ap (frame_at c.args.d.own.map.pages) (number_is _ _ _ _ c.new.ensures c.unwrap-p.ensures ∙ c.from.ensures) in
    record {
      ends = ended_page es root o m (W.entries c.loop-n.pool c.loop-n.seat) c.loop-n.freed.items (W.entries c.release_some.new.pool c.release_some.new.seat) c.release_some.new.freed.items c.release_some.ensures.freed c.loop-n.n v.ends
          (λ f h. c.release_some.ensures.gone f (at ∙ h)) (λ x k. c.release_some.ensures.holds x (λ h. k (sym at ∙ h)));
      words = c.release_some.ensures.words root (λ h. m.made.plain c.loop-n.n root (sym at ∙ h) (inl refl)) ∙ v.words;
      count = omega (arith, c.release_some.ensures.count, v.count);
      room = subst (λ (k : ℕ). MAX_HELD ≤ k) (sym c.release_some.ensures.room) v.room;
      moves = moves_trans W _ _ _ _ _ _ v.moves c.release_some.ensures.moves;
      shares = c.release_some.ensures.shares ∙ v.shares;
    }

pub loop-i-init : goal.loop-i-init
loop-i-init g c =
    let W = g.P.FramePool.world in
    let es = W.entries c.args.pool.now c.args.d.seat in
    let v = c.loop-n.invariant in
    let k : c.loop-n.n ≡ length c.args.d.own.map.pages = omega (arith, c.loop-n-test.false, c.loop-n.auto.n-end, c.len-pages.ensures.count, c.len-pages.ensures.range) in
    record {
      ends = subst (λ (n : ℕ). Ends es (W.entries c.loop-n.pool c.loop-n.seat) (IsLeft es c.args.d.tables.root c.args.d.own n 0) c.loop-n.freed.items) k v.ends;
      words = v.words;
      count = omega (arith, v.count, k, c.requires.stands.memory.made.few);
      room = v.room;
      moves = v.moves;
      shares = v.shares;
    }

pub nth_leaf-leaf-requires-clause-seat : goal.nth_leaf-leaf-requires-clause-seat
nth_leaf-leaf-requires-clause-seat g c = (c.loop-i.invariant.moves.fits, named _ _ (c.loop-i.invariant.moves.names ∙ c.requires.stands.names))

pub release_some-requires-in-loop-i-clause-seat : goal.release_some-requires-in-loop-i-clause-seat
release_some-requires-in-loop-i-clause-seat g c = (c.nth_leaf-leaf.ensures.moves.fits, named _ _ (c.nth_leaf-leaf.ensures.moves.names ∙ c.loop-i.invariant.moves.names ∙ c.requires.stands.names))

pub release_some-requires-in-loop-i-clause-frame : goal.release_some-requires-in-loop-i-clause-frame
release_some-requires-in-loop-i-clause-frame g c = λ f h.
    let W = g.P.FramePool.world in
    leaf_once (W.entries c.args.pool.now c.args.d.seat) c.args.d.tables.root c.args.d.own c.requires.stands.memory (W.entries c.nth_leaf-leaf.new.pool c.nth_leaf-leaf.new.seat) c.loop-i.freed.items (length c.args.d.own.map.pages) c.loop-i.i f c.loop-i-test.true (subst (λ (xs : List (Option Entry)). Ends (W.entries c.args.pool.now c.args.d.seat) xs (IsLeft (W.entries c.args.pool.now c.args.d.seat) c.args.d.tables.root c.args.d.own (length c.args.d.own.map.pages) c.loop-i.i) c.loop-i.freed.items) (sym c.nth_leaf-leaf.ensures.entries) c.loop-i.invariant.ends) (sym (c.nth_leaf-leaf.ensures.leaf ∙ ap (λ (ws : List ℕ). leaf_in (slice_index ws c.loop-i.i)) c.loop-i.invariant.words) ∙ h)

pub loop-i-preserved : goal.loop-i-preserved
loop-i-preserved g c =
    let W = g.P.FramePool.world in
    let es = W.entries c.args.pool.now c.args.d.seat in
    let root : ℕ = c.args.d.tables.root in
    let o : Own = c.args.d.own in
    let m = c.requires.stands.memory in
    let v = c.loop-i.invariant in
    let at : c.nth_leaf-leaf.result ≡ leaf_at es root c.loop-i.i = c.nth_leaf-leaf.ensures.leaf ∙ ap (λ (ws : List ℕ). leaf_in (slice_index ws c.loop-i.i)) c.loop-i.invariant.words in
    let r = c.release_some-in-loop-i.ensures in
    record {
      ends = ended_leaf es root o m (W.entries c.nth_leaf-leaf.new.pool c.nth_leaf-leaf.new.seat) c.loop-i.freed.items (W.entries c.release_some-in-loop-i.new.pool c.release_some-in-loop-i.new.seat) c.release_some-in-loop-i.new.freed.items r.freed
          (length o.map.pages) c.loop-i.i c.loop-i-test.true (subst (λ (xs : List (Option Entry)). Ends (W.entries c.args.pool.now c.args.d.seat) xs (IsLeft (W.entries c.args.pool.now c.args.d.seat) c.args.d.tables.root c.args.d.own (length c.args.d.own.map.pages) c.loop-i.i) c.loop-i.freed.items) (sym c.nth_leaf-leaf.ensures.entries) c.loop-i.invariant.ends) (λ f h. r.gone f (at ∙ h)) (λ x k. r.holds x (λ h. k (sym at ∙ h)));
      words = r.words root (λ h. m.made.tables.below c.loop-i.i root c.loop-i-test.true (sym at ∙ h) refl) ∙ ap (λ (xs : List (Option Entry)). words_at xs root) c.nth_leaf-leaf.ensures.entries ∙ v.words;
      count = omega (arith, r.count, v.count);
      room = subst (λ (k : ℕ). MAX_HELD ≤ k) (sym r.room) v.room;
      moves = moves_trans W _ _ _ _ _ _ (moves_trans W _ _ _ _ _ _ v.moves c.nth_leaf-leaf.ensures.moves) r.moves;
      shares = r.shares ∙ c.nth_leaf-leaf.ensures.counts.shares ∙ v.shares;
    }

pub release_some-requires-2-clause-seat : goal.release_some-requires-2-clause-seat
release_some-requires-2-clause-seat g c = (c.loop-i.invariant.moves.fits, named _ _ (c.loop-i.invariant.moves.names ∙ c.requires.stands.names))

pub release_some-requires-3-clause-seat : goal.release_some-requires-3-clause-seat
release_some-requires-3-clause-seat g c = (c.release_some-2.ensures.moves.fits, named _ _ (c.release_some-2.ensures.moves.names ∙ c.loop-i.invariant.moves.names ∙ c.requires.stands.names))

pub returns-clause-zero : goal.returns-clause-zero
returns-clause-zero g c =
    let W = g.P.FramePool.world in
    let es = W.entries c.args.pool.now c.args.d.seat in
    let root : ℕ = c.args.d.tables.root in
    let o : Own = c.args.d.own in
    let m = c.requires.stands.memory in
    let all : c.loop-i.i ≡ 512 = omega (arith, c.loop-i-test.false, c.loop-i.auto.i-end) in
    let fs = W.entries c.loop-i.pool c.loop-i.seat in
    let gs = W.entries c.release_some-2.new.pool c.release_some-2.new.seat in
    let hs = W.entries c.release_some-3.new.pool c.release_some-3.new.seat in
    let e : Ends es fs (IsLeft es root o (length o.map.pages) 512) c.loop-i.freed.items = subst (λ (i : ℕ). Ends es fs (IsLeft es root o (length o.map.pages) i) c.loop-i.freed.items) all c.loop-i.invariant.ends in
    let r = ended_spare es root o m fs c.loop-i.freed.items gs c.release_some-2.new.freed.items c.release_some-2.ensures.freed (length o.map.pages) (omega arith) e c.release_some-2.ensures.gone c.release_some-2.ensures.holds in
    ended_root es root o m gs c.release_some-2.new.freed.items hs c.release_some-3.new.freed.items c.release_some-3.ensures.freed r c.release_some-3.ensures.gone c.release_some-3.ensures.holds

pub returns-clause-moves : goal.returns-clause-moves
returns-clause-moves g c = moves_trans _ _ _ _ _ _ _ (moves_trans _ _ _ _ _ _ _ c.loop-i.invariant.moves c.release_some-2.ensures.moves) c.release_some-3.ensures.moves
