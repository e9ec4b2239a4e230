use Rattle.std.proofs.Common.{◌≡◌, ◌<◌, ◌^◌, [], ℕ, List, length, false, set, Some, IsSome, refl, sym, ap, subst, ◌∙◌, arith, length-set}
use Rattle.std.specs.Vec.{with_item}
use Rattle.std.specs.declared.option.Option.{Option}
use Rattle.neph_pool.specs.declared.entry.Entry.{Entry}
use Rattle.neph_pool.specs.Bytes.{bytes_of}
use Rattle.neph_pool.specs.Entries.{hold_at, words_at, IsSoleAt, IsShaped}
use Rattle.neph_pool.proofs.Calls.{same_counts_trans}
use Rattle.neph_pool.proofs.Walks.{among_here, moved_one}
use Rattle.neph_ptab.specs.Tables.{leaf_at, walk_at}
use Rattle.neph_gmap.specs.declared.page.Page.TheVariants.{Exposed as Away}
use Rattle.neph_gmap.specs.GuestPages.{GuestPages, vpns_at, has_number}
use Rattle.neph_memory.specs.declared.own.Own.{Own}
use Rattle.neph_memory.specs.Pages.{frame_at}
use Rattle.neph_memory.specs.Memory.{bytes_for, vpn_mapping, IsMemory}
use Rattle.neph_memory.specs.Exposed.{walk_turned}
use Rattle.neph_memory.proofs.Leading.{named}
use Rattle.neph_memory.proofs.Rooming.{room_after}
use Rattle.neph_memory.proofs.Handover.{may_go, given_gone, given_holds, given_words, got_here, got_same, apart_same}
use Rattle.neph_memory.proofs.Lending.{both_spare}
use Rattle.neph_memory.proofs.Places.{frame_small}
use Rattle.neph_memory.proofs.Standing.{not_marked}
use Rattle.neph_memory.proofs.Outgoing.{out_tables, out_leaves, out_mapped, out_else, out_none, out_walk, out_shown, out_bytes, out_memory}
use Rattle.neph_memory.proofs.dom_local.DomLocal.expose.Goals as goal

pub hand-requires-clause-from : goal.hand-requires-clause-from
hand-requires-clause-from g c = (c.requires.stands.fits, named _ _ c.requires.stands.names)

pub hand-requires-clause-to : goal.hand-requires-clause-to
hand-requires-clause-to g c = (c.requires.to.0, (0, c.requires.to.1))

pub hand-requires-clause-part : goal.hand-requires-clause-part
hand-requires-clause-part g c =
    let at : frame_at c.args.self.now.own.map.pages c.args.p ≡ Some c.unwrap-frame.result = sym c.frame_for.ensures ∙ c.unwrap-frame.ensures in
    may_go _ _ c.unwrap-frame.result ((c.requires.stands.memory.made.sole c.args.p c.unwrap-frame.result at).0 c.requires.marked)

pub hand-requires-clause-room : goal.hand-requires-clause-room
hand-requires-clause-room g c = λ no'. absurd (not_marked _ c.requires.to.1 no')

pub turn_all-requires-clause-seat : goal.turn_all-requires-clause-seat
turn_all-requires-clause-seat g c = (c.hand.ensures.from.fits, named _ _ (c.hand.ensures.from.names ∙ c.requires.stands.names))

pub set-requires : goal.set-requires
set-requires g c = frame_small _ c.args.p c.unwrap-frame.result (sym c.frame_for.ensures ∙ c.unwrap-frame.ensures)

pub index_mut-requires : goal.index_mut-requires
index_mut-requires g c =
    let small = frame_small _ c.args.p c.unwrap-frame.result (sym c.frame_for.ensures ∙ c.unwrap-frame.ensures) in
    omega (arith, small, c.get.ensures.value, c.requires.stands.memory.made.marks, c.args.self.now.own.marks.ok.0)

pub turn_all-requires-clause-stands : goal.turn_all-requires-clause-stands
turn_all-requires-clause-stands g c =
    let W = g.P.FramePool.world in
    let es = W.entries c.args.pool.now c.args.self.now.seat in
    let es' = W.entries c.hand.new.self c.hand.new.from in
    let root : ℕ = c.args.self.now.tables.root in
    let o : Own = c.args.self.now.own in
    let m = c.requires.stands.memory in
    let f : ℕ = c.unwrap-frame.result in
    let at : frame_at o.map.pages c.args.p ≡ Some f = sym c.frame_for.ensures ∙ c.unwrap-frame.ensures in
    let sole : IsSoleAt es f = (m.made.sole c.args.p f at).0 c.requires.marked in
    let gone = given_gone es es' f c.hand.ensures.left sole in
    let holds = given_holds es es' f c.hand.ensures.left in
    let words = given_words es es' f c.hand.ensures.left in
    out_tables es es' root o m c.args.p f at gone holds words

pub turn_all-requires-clause-mapped : goal.turn_all-requires-clause-mapped
turn_all-requires-clause-mapped g c =
    let W = g.P.FramePool.world in
    let es = W.entries c.args.pool.now c.args.self.now.seat in
    let es' = W.entries c.hand.new.self c.hand.new.from in
    let root : ℕ = c.args.self.now.tables.root in
    let o : Own = c.args.self.now.own in
    let m = c.requires.stands.memory in
    let f : ℕ = c.unwrap-frame.result in
    let at : frame_at o.map.pages c.args.p ≡ Some f = sym c.frame_for.ensures ∙ c.unwrap-frame.ensures in
    let sole : IsSoleAt es f = (m.made.sole c.args.p f at).0 c.requires.marked in
    let gone = given_gone es es' f c.hand.ensures.left sole in
    let holds = given_holds es es' f c.hand.ensures.left in
    let words = given_words es es' f c.hand.ensures.left in
    λ u lt h. out_mapped es es' root o m c.args.p f at gone holds words u lt (ap (has_number u) (sym c.vpns-vpns.ensures.vpns) ∙ h)

pub returns-clause-stands : goal.returns-clause-stands
returns-clause-stands g c =
    let W = g.P.FramePool.world in
    let es = W.entries c.args.pool.now c.args.self.now.seat in
    let es' = W.entries c.hand.new.self c.hand.new.from in
    let root : ℕ = c.args.self.now.tables.root in
    let o : Own = c.args.self.now.own in
    let m = c.requires.stands.memory in
    let f : ℕ = c.unwrap-frame.result in
    let at : frame_at o.map.pages c.args.p ≡ Some f = sym c.frame_for.ensures ∙ c.unwrap-frame.ensures in
    let sole : IsSoleAt es f = (m.made.sole c.args.p f at).0 c.requires.marked in
    let gone = given_gone es es' f c.hand.ensures.left sole in
    let holds = given_holds es es' f c.hand.ensures.left in
    let words = given_words es es' f c.hand.ensures.left in
    let fs = W.entries c.turn_all.new.pool c.turn_all.new.seat in
    let after : Own = record { map = c.set.new.self; marks = with_item o.marks c.get.result false; spare = o.spare } in
    let pages = ap (λ (x : GuestPages). x.pages) c.set.ensures in
    let vpns = ap (λ (x : GuestPages). x.vpns) c.set.ensures in
    let marks = ap (λ (k : ℕ). set o.marks.items k false) c.get.ensures.value in
    let moved : (u : ℕ) → u < 2 ^ 18 → walk_at fs root u ≡ walk_turned Away c.args.p (vpns_at o.map c.args.p) u (walk_at es' root u)
    = λ u lt. c.turn_all.ensures.walks u lt ∙ ap (λ (xs : List ℕ). walk_turned Away c.args.p xs u (walk_at es' root u)) c.vpns-vpns.ensures.vpns in
    record {
      fits = c.turn_all.ensures.moves.fits;
      names = c.turn_all.ensures.moves.names ∙ c.hand.ensures.from.names ∙ c.requires.stands.names;
      room = room_after es fs root c.turn_all.new.tables.root (length o.map.pages) (length c.set.new.self.pages) _ _ c.requires.stands.room (ap (λ (x : GuestPages). length x.pages) c.set.ensures ∙ length-set o.map.pages c.args.p _)
          (λ i l. ap (λ (r : ℕ). leaf_at fs r i) c.turn_all.ensures.root ∙ c.turn_all.ensures.tables.leaves i l ∙ out_leaves es es' root o m c.args.p f at gone holds words i)
          (c.turn_all.ensures.moves.others.cap ∙ c.hand.ensures.others.cap);
      identity = subst IsSome (sym (out_else es es' root o m c.args.p f at gone holds words fs after c.turn_all.ensures.tables moved pages vpns marks refl 0 (λ e. c.requires.other (sym e)))) c.requires.stands.identity;
      memory = subst (λ (r : ℕ). IsMemory fs r after) (sym c.turn_all.ensures.root) (out_memory es es' root o m c.args.p f at gone holds words fs after c.turn_all.ensures.tables moved pages vpns marks refl);
    }

pub returns-clause-page : goal.returns-clause-page
returns-clause-page g c =
    let W = g.P.FramePool.world in
    let es = W.entries c.args.pool.now c.args.self.now.seat in
    let es' = W.entries c.hand.new.self c.hand.new.from in
    let root : ℕ = c.args.self.now.tables.root in
    let o : Own = c.args.self.now.own in
    let m = c.requires.stands.memory in
    let f : ℕ = c.unwrap-frame.result in
    let at : frame_at o.map.pages c.args.p ≡ Some f = sym c.frame_for.ensures ∙ c.unwrap-frame.ensures in
    let sole : IsSoleAt es f = (m.made.sole c.args.p f at).0 c.requires.marked in
    let gone = given_gone es es' f c.hand.ensures.left sole in
    let holds = given_holds es es' f c.hand.ensures.left in
    let words = given_words es es' f c.hand.ensures.left in
    let fs = W.entries c.turn_all.new.pool c.turn_all.new.seat in
    let after : Own = record { map = c.set.new.self; marks = with_item o.marks c.get.result false; spare = o.spare } in
    let pages = ap (λ (x : GuestPages). x.pages) c.set.ensures in
    let vpns = ap (λ (x : GuestPages). x.vpns) c.set.ensures in
    let marks = ap (λ (k : ℕ). set o.marks.items k false) c.get.ensures.value in
    let moved : (u : ℕ) → u < 2 ^ 18 → walk_at fs root u ≡ walk_turned Away c.args.p (vpns_at o.map c.args.p) u (walk_at es' root u)
    = λ u lt. c.turn_all.ensures.walks u lt ∙ ap (λ (xs : List ℕ). walk_turned Away c.args.p xs u (walk_at es' root u)) c.vpns-vpns.ensures.vpns in
    record {
      map = c.set.ensures;
      marks = marks;
      walks = λ u lt. ap (λ (r : ℕ). walk_at fs r u) c.turn_all.ensures.root ∙ out_walk es es' root o m c.args.p f at gone holds words fs after c.turn_all.ensures.tables moved pages vpns marks refl u lt;
      mappings = λ u lt. ap (λ (r : ℕ). vpn_mapping fs r c.set.new.self.pages u) c.turn_all.ensures.root ∙ out_shown es es' root o m c.args.p f at gone holds words fs after c.turn_all.ensures.tables moved pages vpns marks refl u lt;
      leaves = λ i l. ap (λ (r : ℕ). leaf_at fs r i) c.turn_all.ensures.root ∙ c.turn_all.ensures.tables.leaves i l ∙ out_leaves es es' root o m c.args.p f at gone holds words i;
      others = λ q n. out_bytes es es' root o m c.args.p f at gone holds words fs after c.turn_all.ensures.tables moved pages vpns marks refl q n;
    }

pub returns-clause-away : goal.returns-clause-away
returns-clause-away g c =
    let W = g.P.FramePool.world in
    let es = W.entries c.args.pool.now c.args.self.now.seat in
    let es' = W.entries c.hand.new.self c.hand.new.from in
    let root : ℕ = c.args.self.now.tables.root in
    let o : Own = c.args.self.now.own in
    let m = c.requires.stands.memory in
    let f : ℕ = c.unwrap-frame.result in
    let at : frame_at o.map.pages c.args.p ≡ Some f = sym c.frame_for.ensures ∙ c.unwrap-frame.ensures in
    let sole : IsSoleAt es f = (m.made.sole c.args.p f at).0 c.requires.marked in
    let gone = given_gone es es' f c.hand.ensures.left sole in
    let holds = given_holds es es' f c.hand.ensures.left in
    let words = given_words es es' f c.hand.ensures.left in
    let fs = W.entries c.turn_all.new.pool c.turn_all.new.seat in
    let after : Own = record { map = c.set.new.self; marks = with_item o.marks c.get.result false; spare = o.spare } in
    let pages = ap (λ (x : GuestPages). x.pages) c.set.ensures in
    let vpns = ap (λ (x : GuestPages). x.vpns) c.set.ensures in
    let marks = ap (λ (k : ℕ). set o.marks.items k false) c.get.ensures.value in
    let moved : (u : ℕ) → u < 2 ^ 18 → walk_at fs root u ≡ walk_turned Away c.args.p (vpns_at o.map c.args.p) u (walk_at es' root u)
    = λ u lt. c.turn_all.ensures.walks u lt ∙ ap (λ (xs : List ℕ). walk_turned Away c.args.p xs u (walk_at es' root u)) c.vpns-vpns.ensures.vpns in
    out_none es es' root o m c.args.p f at gone holds words fs after c.turn_all.ensures.tables moved pages vpns marks refl

pub returns-clause-given : goal.returns-clause-given
returns-clause-given g c =
    let W = g.P.FramePool.world in
    let es = W.entries c.args.pool.now c.args.self.now.seat in
    let es' = W.entries c.hand.new.self c.hand.new.from in
    let root : ℕ = c.args.self.now.tables.root in
    let o : Own = c.args.self.now.own in
    let m = c.requires.stands.memory in
    let f : ℕ = c.unwrap-frame.result in
    let at : frame_at o.map.pages c.args.p ≡ Some f = sym c.frame_for.ensures ∙ c.unwrap-frame.ensures in
    let sole : IsSoleAt es f = (m.made.sole c.args.p f at).0 c.requires.marked in
    let gone = given_gone es es' f c.hand.ensures.left sole in
    let holds = given_holds es es' f c.hand.ensures.left in
    let words = given_words es es' f c.hand.ensures.left in
    let to = W.entries c.args.pool.now c.args.to.now in
    let to' = W.entries c.hand.new.self c.hand.new.to in
    let apart = apart_same _ _ _ _ c.hand.ensures.from.names c.hand.ensures.to.names c.requires.apart in
    let same : W.entries c.turn_all.new.pool c.hand.new.to ≡ to' = c.turn_all.ensures.moves.others.entries c.hand.new.to c.hand.ensures.to.fits apart in
    let s : IsShaped (W.frames c.args.pool.now) es = g.met.P.FramePool.shaped _ _ c.requires.stands.fits in
    let t : IsShaped (W.frames c.args.pool.now) to = g.met.P.FramePool.shaped _ _ c.requires.to.0 in
    let long : length to ≡ length es = t.places ∙ sym s.places in record {
      frame = at;
      absent = c.hand.ensures.absent f (among_here f []);
      sole = ap (λ (xs : List (Option Entry)). hold_at xs f) same ∙ got_here es to to' f c.hand.ensures.moved long sole;
      bytes = ap (bytes_for es) at ∙ ap (λ (ws : List ℕ). Some (bytes_of ws)) (sym (ap (λ (xs : List (Option Entry)). words_at xs f) same ∙ got_same es to to' f c.hand.ensures.moved long sole));
      taken = same ∙ c.hand.ensures.moved ∙ moved_one es to f;
    }

pub returns-clause-to : goal.returns-clause-to
returns-clause-to g c = record {
  fits = c.turn_all.ensures.moves.others.fits c.hand.new.to c.hand.ensures.to.fits (apart_same _ _ _ _ c.hand.ensures.from.names c.hand.ensures.to.names c.requires.apart);
  names = c.hand.ensures.to.names;
}

pub returns-clause-seat : goal.returns-clause-seat
returns-clause-seat g c = record {
  fits = c.turn_all.ensures.moves.fits;
  names = c.turn_all.ensures.moves.names ∙ c.hand.ensures.from.names;
}

pub returns-clause-others : goal.returns-clause-others
returns-clause-others g c = both_spare g.P.FramePool.world _ _ _ _ _ _ c.hand.ensures.others c.hand.ensures.from.names c.turn_all.ensures.moves.others

pub returns-clause-counts : goal.returns-clause-counts
returns-clause-counts g c = same_counts_trans _ _ _ _ c.hand.ensures.counts c.turn_all.ensures.counts

pub returns-clause-met : goal.returns-clause-met
returns-clause-met g c = (c.turn_all.ensures.met ∙ c.hand.ensures.met.0, c.hand.ensures.met.1)
