use Rattle.std.proofs.Common.{◌≡◌, ◌<◌, ◌≤◌, ◌+◌, ◌^◌, ◌∷◌, [], ℕ, Bool, List, length, true, set, Some, refl, sym, ap, subst, ◌∙◌, arith, length-set, eq-eqb}
use Rattle.std.specs.Vec.{with_item}
use Rattle.neph_pool.specs.Bytes.{bytes_of}
use Rattle.neph_pool.specs.Entries.{entry_count, IsShaped}
use Rattle.neph_pool.specs.Handing.{moved_into}
use Rattle.neph_pool.specs.Names.{name_count}
use Rattle.neph_pool.proofs.Calls.{same_counts_trans}
use Rattle.neph_pool.proofs.Walks.{among_here}
use Rattle.neph_pool.proofs.Parts.{count_moved, name_count-some}
use Rattle.neph_ptab.specs.Tables.{leaf_at, walk_at}
use Rattle.neph_gmap.specs.declared.page.Page.TheVariants.{Local as At}
use Rattle.neph_gmap.specs.GuestPages.{GuestPages, vpns_at, has_number}
use Rattle.neph_memory.specs.declared.own.Own.{Own}
use Rattle.neph_memory.specs.Memory.{vpn_mapping, IsMemory}
use Rattle.neph_memory.specs.Exposed.{walk_turned}
use Rattle.neph_memory.proofs.Leading.{named}
use Rattle.neph_memory.proofs.Rooming.{room_after, entries_away}
use Rattle.neph_memory.proofs.Handover.{may_go, given_without, got_here, got_holds, got_words, got_same, apart_flip}
use Rattle.neph_memory.proofs.Sparing.{least}
use Rattle.neph_memory.proofs.Placing.{away_small}
use Rattle.neph_memory.proofs.Turning.{both_spare_second}
use Rattle.neph_memory.proofs.Incoming.{in_tables, in_leaves, in_mapped, in_local, in_new, in_walk, in_shown, in_bytes, in_memory}
use Rattle.neph_memory.proofs.dom_local.DomLocal.take_back.Goals as goal

pub hand-requires-clause-to : goal.hand-requires-clause-to
hand-requires-clause-to g c = (c.requires.stands.fits, named _ _ c.requires.stands.names)

pub hand-requires-clause-part : goal.hand-requires-clause-part
hand-requires-clause-part g c = may_go _ _ c.args.f c.requires.frame

pub hand-requires-clause-room : goal.hand-requires-clause-room
hand-requires-clause-room g c = λ no'.
    let W = g.P.FramePool.world in
    let gs = W.entries c.args.pool.now c.args.from.now in
    let es = W.entries c.args.pool.now c.args.self.now.seat in
    let most : entry_count (moved_into gs es (c.args.f ∷ [])) ≤ entry_count es + 1 = count_moved gs es (c.args.f ∷ []) (refl, tt) in
    let id : c.args.self.now.id < 64 = omega (arith, c.get-number.ensures.value, c.get-number.ensures.range) in
    let has : W.names c.args.self.now.seat c.args.self.now.id ≡ true = ap (λ (ns : ℕ → Bool). ns c.args.self.now.id) c.requires.stands.names ∙ eq-eqb c.args.self.now.id c.args.self.now.id refl in
    let names = name_count-some (W.names c.args.self.now.seat) c.args.self.now.id id has in
    let cap = least (W.cap c.args.pool.now) (name_count (W.names c.args.self.now.seat)) names in
    let few = entries_away es c.args.self.now.tables.root c.args.self.now.own c.requires.stands.memory c.args.p c.requires.away in
    omega (arith, most, cap, few, c.requires.stands.room)

pub turn_all-requires-clause-seat : goal.turn_all-requires-clause-seat
turn_all-requires-clause-seat g c = (c.hand.ensures.to.fits, named _ _ (c.hand.ensures.to.names ∙ c.requires.stands.names))

pub set-requires : goal.set-requires
set-requires g c = away_small _ c.args.p c.requires.away

pub index_mut-requires : goal.index_mut-requires
index_mut-requires g c =
    let small = away_small _ c.args.p c.requires.away in
    omega (arith, small, c.get.ensures.value, c.requires.stands.memory.made.marks, c.args.self.now.own.marks.ok.0)

pub turn_all-requires-clause-stands : goal.turn_all-requires-clause-stands
turn_all-requires-clause-stands g c =
    let W = g.P.FramePool.world in
    let gs = W.entries c.args.pool.now c.args.from.now in
    let es = W.entries c.args.pool.now c.args.self.now.seat in
    let es' = W.entries c.hand.new.self c.hand.new.to in
    let root : ℕ = c.args.self.now.tables.root in
    let o : Own = c.args.self.now.own in
    let m = c.requires.stands.memory in
    let f : ℕ = c.args.f in
    let s : IsShaped (W.frames c.args.pool.now) gs = g.met.P.FramePool.shaped _ _ c.requires.from.0 in
    let t : IsShaped (W.frames c.args.pool.now) es = g.met.P.FramePool.shaped _ _ c.requires.stands.fits in
    let long : length es ≡ length gs = t.places ∙ sym s.places in
    let absent = c.hand.ensures.absent f (among_here f []) in
    let here = got_here gs es es' f c.hand.ensures.moved long c.requires.frame in
    let holds = got_holds gs es es' f c.hand.ensures.moved in
    let words = got_words gs es es' f c.hand.ensures.moved in
    in_tables es es' root o m c.args.p f c.requires.away absent here holds words

pub turn_all-requires-clause-mapped : goal.turn_all-requires-clause-mapped
turn_all-requires-clause-mapped g c =
    let W = g.P.FramePool.world in
    let gs = W.entries c.args.pool.now c.args.from.now in
    let es = W.entries c.args.pool.now c.args.self.now.seat in
    let es' = W.entries c.hand.new.self c.hand.new.to in
    let root : ℕ = c.args.self.now.tables.root in
    let o : Own = c.args.self.now.own in
    let m = c.requires.stands.memory in
    let f : ℕ = c.args.f in
    let s : IsShaped (W.frames c.args.pool.now) gs = g.met.P.FramePool.shaped _ _ c.requires.from.0 in
    let t : IsShaped (W.frames c.args.pool.now) es = g.met.P.FramePool.shaped _ _ c.requires.stands.fits in
    let long : length es ≡ length gs = t.places ∙ sym s.places in
    let absent = c.hand.ensures.absent f (among_here f []) in
    let here = got_here gs es es' f c.hand.ensures.moved long c.requires.frame in
    let holds = got_holds gs es es' f c.hand.ensures.moved in
    let words = got_words gs es es' f c.hand.ensures.moved in
    λ u lt h. in_mapped es es' root o m c.args.p f c.requires.away absent here holds words u lt (ap (has_number u) (sym c.vpns-vpns.ensures.vpns) ∙ h)

pub returns-clause-stands : goal.returns-clause-stands
returns-clause-stands g c =
    let W = g.P.FramePool.world in
    let gs = W.entries c.args.pool.now c.args.from.now in
    let es = W.entries c.args.pool.now c.args.self.now.seat in
    let es' = W.entries c.hand.new.self c.hand.new.to in
    let root : ℕ = c.args.self.now.tables.root in
    let o : Own = c.args.self.now.own in
    let m = c.requires.stands.memory in
    let f : ℕ = c.args.f in
    let s : IsShaped (W.frames c.args.pool.now) gs = g.met.P.FramePool.shaped _ _ c.requires.from.0 in
    let t : IsShaped (W.frames c.args.pool.now) es = g.met.P.FramePool.shaped _ _ c.requires.stands.fits in
    let long : length es ≡ length gs = t.places ∙ sym s.places in
    let absent = c.hand.ensures.absent f (among_here f []) in
    let here = got_here gs es es' f c.hand.ensures.moved long c.requires.frame in
    let holds = got_holds gs es es' f c.hand.ensures.moved in
    let words = got_words gs es es' f c.hand.ensures.moved in
    let fs = W.entries c.turn_all.new.pool c.turn_all.new.seat in
    let after : Own = record { map = c.set.new.self; marks = with_item o.marks c.get.result true; spare = o.spare } in
    let pages = ap (λ (x : GuestPages). x.pages) c.set.ensures in
    let vpns = ap (λ (x : GuestPages). x.vpns) c.set.ensures in
    let marks = ap (λ (k : ℕ). set o.marks.items k true) c.get.ensures.value in
    let moved : (u : ℕ) → u < 2 ^ 18 → walk_at fs root u ≡ walk_turned (At f) c.args.p (vpns_at o.map c.args.p) u (walk_at es' root u)
    = λ u lt. c.turn_all.ensures.walks u lt ∙ ap (λ (xs : List ℕ). walk_turned (At f) c.args.p xs u (walk_at es' root u)) c.vpns-vpns.ensures.vpns in
    record {
      fits = c.turn_all.ensures.moves.fits;
      names = c.turn_all.ensures.moves.names ∙ c.hand.ensures.to.names ∙ c.requires.stands.names;
      room = room_after es fs root c.turn_all.new.tables.root (length o.map.pages) (length c.set.new.self.pages) _ _ c.requires.stands.room (ap (λ (x : GuestPages). length x.pages) c.set.ensures ∙ length-set o.map.pages c.args.p _)
          (λ i l. ap (λ (r : ℕ). leaf_at fs r i) c.turn_all.ensures.root ∙ c.turn_all.ensures.tables.leaves i l ∙ in_leaves es es' root o m c.args.p f c.requires.away absent here holds words i)
          (c.turn_all.ensures.moves.others.cap ∙ c.hand.ensures.others.cap);
      identity = in_local es es' root o m c.args.p f c.requires.away absent here holds words fs after c.turn_all.ensures.tables moved pages vpns marks refl 0 c.requires.stands.identity;
      memory = subst (λ (r : ℕ). IsMemory fs r after) (sym c.turn_all.ensures.root) (in_memory es es' root o m c.args.p f c.requires.away absent here holds words fs after c.turn_all.ensures.tables moved pages vpns marks refl);
    }

pub returns-clause-page : goal.returns-clause-page
returns-clause-page g c =
    let W = g.P.FramePool.world in
    let gs = W.entries c.args.pool.now c.args.from.now in
    let es = W.entries c.args.pool.now c.args.self.now.seat in
    let es' = W.entries c.hand.new.self c.hand.new.to in
    let root : ℕ = c.args.self.now.tables.root in
    let o : Own = c.args.self.now.own in
    let m = c.requires.stands.memory in
    let f : ℕ = c.args.f in
    let s : IsShaped (W.frames c.args.pool.now) gs = g.met.P.FramePool.shaped _ _ c.requires.from.0 in
    let t : IsShaped (W.frames c.args.pool.now) es = g.met.P.FramePool.shaped _ _ c.requires.stands.fits in
    let long : length es ≡ length gs = t.places ∙ sym s.places in
    let absent = c.hand.ensures.absent f (among_here f []) in
    let here = got_here gs es es' f c.hand.ensures.moved long c.requires.frame in
    let holds = got_holds gs es es' f c.hand.ensures.moved in
    let words = got_words gs es es' f c.hand.ensures.moved in
    let fs = W.entries c.turn_all.new.pool c.turn_all.new.seat in
    let after : Own = record { map = c.set.new.self; marks = with_item o.marks c.get.result true; spare = o.spare } in
    let pages = ap (λ (x : GuestPages). x.pages) c.set.ensures in
    let vpns = ap (λ (x : GuestPages). x.vpns) c.set.ensures in
    let marks = ap (λ (k : ℕ). set o.marks.items k true) c.get.ensures.value in
    let moved : (u : ℕ) → u < 2 ^ 18 → walk_at fs root u ≡ walk_turned (At f) c.args.p (vpns_at o.map c.args.p) u (walk_at es' root u)
    = λ u lt. c.turn_all.ensures.walks u lt ∙ ap (λ (xs : List ℕ). walk_turned (At f) c.args.p xs u (walk_at es' root u)) c.vpns-vpns.ensures.vpns in
    record {
      map = c.set.ensures;
      marks = marks;
      walks = λ u lt. ap (λ (r : ℕ). walk_at fs r u) c.turn_all.ensures.root ∙ in_walk es es' root o m c.args.p f c.requires.away absent here holds words fs after c.turn_all.ensures.tables moved pages vpns marks refl u lt;
      mappings = λ u lt. ap (λ (r : ℕ). vpn_mapping fs r c.set.new.self.pages u) c.turn_all.ensures.root ∙ in_shown es es' root o m c.args.p f c.requires.away absent here holds words fs after c.turn_all.ensures.tables moved pages vpns marks refl u lt;
      leaves = λ i l. ap (λ (r : ℕ). leaf_at fs r i) c.turn_all.ensures.root ∙ c.turn_all.ensures.tables.leaves i l ∙ in_leaves es es' root o m c.args.p f c.requires.away absent here holds words i;
      others = λ q n. in_bytes es es' root o m c.args.p f c.requires.away absent here holds words fs after c.turn_all.ensures.tables moved pages vpns marks refl q n;
    }

pub returns-clause-bytes : goal.returns-clause-bytes
returns-clause-bytes g c =
    let W = g.P.FramePool.world in
    let gs = W.entries c.args.pool.now c.args.from.now in
    let es = W.entries c.args.pool.now c.args.self.now.seat in
    let es' = W.entries c.hand.new.self c.hand.new.to in
    let root : ℕ = c.args.self.now.tables.root in
    let o : Own = c.args.self.now.own in
    let m = c.requires.stands.memory in
    let f : ℕ = c.args.f in
    let s : IsShaped (W.frames c.args.pool.now) gs = g.met.P.FramePool.shaped _ _ c.requires.from.0 in
    let t : IsShaped (W.frames c.args.pool.now) es = g.met.P.FramePool.shaped _ _ c.requires.stands.fits in
    let long : length es ≡ length gs = t.places ∙ sym s.places in
    let absent = c.hand.ensures.absent f (among_here f []) in
    let here = got_here gs es es' f c.hand.ensures.moved long c.requires.frame in
    let holds = got_holds gs es es' f c.hand.ensures.moved in
    let words = got_words gs es es' f c.hand.ensures.moved in
    let fs = W.entries c.turn_all.new.pool c.turn_all.new.seat in
    let after : Own = record { map = c.set.new.self; marks = with_item o.marks c.get.result true; spare = o.spare } in
    let pages = ap (λ (x : GuestPages). x.pages) c.set.ensures in
    let vpns = ap (λ (x : GuestPages). x.vpns) c.set.ensures in
    let marks = ap (λ (k : ℕ). set o.marks.items k true) c.get.ensures.value in
    let moved : (u : ℕ) → u < 2 ^ 18 → walk_at fs root u ≡ walk_turned (At f) c.args.p (vpns_at o.map c.args.p) u (walk_at es' root u)
    = λ u lt. c.turn_all.ensures.walks u lt ∙ ap (λ (xs : List ℕ). walk_turned (At f) c.args.p xs u (walk_at es' root u)) c.vpns-vpns.ensures.vpns in
    in_new es es' root o m c.args.p f c.requires.away absent here holds words fs after c.turn_all.ensures.tables moved pages vpns marks refl ∙ ap (λ (ws : List ℕ). Some (bytes_of ws)) (got_same gs es es' f c.hand.ensures.moved long c.requires.frame)

pub returns-clause-left : goal.returns-clause-left
returns-clause-left g c =
    let W = g.P.FramePool.world in
    let apart = apart_flip _ _ _ _ c.hand.ensures.from.names c.hand.ensures.to.names c.requires.apart in
    c.turn_all.ensures.moves.others.entries c.hand.new.from c.hand.ensures.from.fits apart
    ∙ given_without (W.entries c.args.pool.now c.args.from.now) (W.entries c.hand.new.self c.hand.new.from) c.args.f c.hand.ensures.left c.requires.frame

pub returns-clause-from : goal.returns-clause-from
returns-clause-from g c = record {
  fits = c.turn_all.ensures.moves.others.fits c.hand.new.from c.hand.ensures.from.fits (apart_flip _ _ _ _ c.hand.ensures.from.names c.hand.ensures.to.names c.requires.apart);
  names = c.hand.ensures.from.names;
}

pub returns-clause-seat : goal.returns-clause-seat
returns-clause-seat g c = record {
  fits = c.turn_all.ensures.moves.fits;
  names = c.turn_all.ensures.moves.names ∙ c.hand.ensures.to.names;
}

pub returns-clause-others : goal.returns-clause-others
returns-clause-others g c = both_spare_second g.P.FramePool.world _ _ _ _ _ _ c.hand.ensures.others c.hand.ensures.to.names c.turn_all.ensures.moves.others

pub returns-clause-counts : goal.returns-clause-counts
returns-clause-counts g c = same_counts_trans _ _ _ _ c.hand.ensures.counts c.turn_all.ensures.counts

pub returns-clause-met : goal.returns-clause-met
returns-clause-met g c = (c.turn_all.ensures.met ∙ c.hand.ensures.met.1, c.hand.ensures.met.0)
