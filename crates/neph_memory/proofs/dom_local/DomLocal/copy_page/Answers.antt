use Rattle.std.proofs.Common.{◌≡◌, ◌<◌, ◌^◌, ℕ, List, true, IsSome, set, if◌then◌else◌, refl, sym, ap, subst, ◌∙◌, arith, inl, length, length-set, IfSome, IsTrue, ◌↔◌, ◌==◌, slice_index, eq-eqb, ne_eqb, Bool, Some, None, false}
use Rattle.neph_ptab.specs.Moves.{walk_moved}
use Rattle.std.specs.Vec.{with_item}
use Rattle.std.specs.declared.option.Option.{Option}
use Rattle.neph_pool.specs.declared.entry.Entry.{Entry}
use Rattle.neph_pool.specs.Entries.{hold_at, is_here, weight_of}
use Rattle.neph_pool.proofs.Entries.{hold_at-with_words}
use Rattle.neph_pool.proofs.Calls.{moves_trans}
use Rattle.neph_ptab.specs.Tables.{leaf_at, walk_at}
use Rattle.neph_gmap.specs.GuestPages.{GuestPages, vpns_at, has_number}
use Rattle.neph_memory.specs.declared.own.Own.{Own}
use Rattle.neph_memory.proofs.Rooming.{room_after}
use Rattle.neph_memory.proofs.Leading.{named}
use Rattle.neph_memory.proofs.Places.{frame_small}
use Rattle.neph_memory.proofs.Moving.{IsCopied, is_copied, spare_apart, copied_tables, listed_local, old_page, new_page, shown_after, bytes_after, marked, local_after, memory_after}
use Rattle.neph_memory.specs.Memory.{IsMemory, vpn_mapping}
use Rattle.neph_memory.proofs.Moves.{moved_to, moved_alone}
use Rattle.neph_memory.proofs.Standing.{leaf_words}
use Rattle.neph_memory.proofs.dom_local.DomLocal.copy_page.Given as given
use Rattle.neph_memory.proofs.dom_local.DomLocal.copy_page.Goals as goal

pub copy-requires-clause-seat : goal.copy-requires-clause-seat
copy-requires-clause-seat g c = (c.requires.stands.fits, named _ _ c.requires.stands.names)

pub give_up-last-requires-clause-seat : goal.give_up-last-requires-clause-seat
give_up-last-requires-clause-seat g c = (c.copy.ensures.moves.fits, named _ _ (c.copy.ensures.moves.names ∙ c.requires.stands.names))

pub give_up-last-requires-clause-frame : goal.give_up-last-requires-clause-frame
give_up-last-requires-clause-frame g c =
    let W = g.P.FramePool.world in
    let es = W.entries c.args.pool.now c.args.self.now.seat in
    ap (λ (xs : List (Option Entry)). weight_of (hold_at xs c.unwrap-frame.result)) c.copy.ensures.entries
    ∙ ap weight_of (hold_at-with_words es c.args.spare _ c.unwrap-frame.result)
    ∙ c.requires.stands.memory.made.held c.args.p c.unwrap-frame.result (sym c.frame_for.ensures ∙ c.unwrap-frame.ensures)

pub move_page-requires-clause-seat : goal.move_page-requires-clause-seat
move_page-requires-clause-seat g c = (c.give_up-last.ensures.moves.fits, named _ _ (c.give_up-last.ensures.moves.names ∙ c.copy.ensures.moves.names ∙ c.requires.stands.names))

-- the entries before the tables change
copied : (g : given.Over) (c : goal.After-vpns g)
    → IsCopied (g.P.FramePool.world.entries c.args.pool.now c.args.self.now.seat) (g.P.FramePool.world.entries c.give_up-last.new.pool c.give_up-last.new.seat) c.unwrap-frame.result c.args.spare c.give_up-last.result
copied g c =
    let W = g.P.FramePool.world in
    let es = W.entries c.args.pool.now c.args.self.now.seat in
    let m = c.requires.stands.memory in
    let at = sym c.frame_for.ensures ∙ c.unwrap-frame.ensures in
    let n = spare_apart es c.args.self.now.tables.root c.args.self.now.own m c.args.p c.unwrap-frame.result c.args.spare at c.requires.spare in
    is_copied es (W.entries c.copy.new.self c.copy.new.s) _ c.unwrap-frame.result c.args.spare c.give_up-last.result n (ap is_here (m.spare c.args.spare c.requires.spare))
    c.copy.ensures.entries c.give_up-last.ensures.hold c.give_up-last.ensures.holds c.give_up-last.ensures.words

pub move_page-requires-clause-stands : goal.move_page-requires-clause-stands
move_page-requires-clause-stands g c =
    copied_tables _ _ c.args.self.now.tables.root c.args.self.now.own c.requires.stands.memory c.args.p c.unwrap-frame.result c.args.spare c.give_up-last.result
    (sym c.frame_for.ensures ∙ c.unwrap-frame.ensures) c.requires.spare (copied g c)

pub move_page-requires-clause-local : goal.move_page-requires-clause-local
move_page-requires-clause-local g c = λ u lt h.
    listed_local _ _ c.args.self.now.tables.root c.args.self.now.own c.requires.stands.memory c.args.p c.unwrap-frame.result c.args.spare c.give_up-last.result
    (sym c.frame_for.ensures ∙ c.unwrap-frame.ensures) c.requires.spare (copied g c) u lt (ap (has_number u) (sym c.vpns.ensures.vpns) ∙ h)

pub set-requires : goal.set-requires
set-requires g c = frame_small _ c.args.p c.unwrap-frame.result (sym c.frame_for.ensures ∙ c.unwrap-frame.ensures)

pub index_mut-requires : goal.index_mut-requires
index_mut-requires g c =
    let small = frame_small _ c.args.p c.unwrap-frame.result (sym c.frame_for.ensures ∙ c.unwrap-frame.ensures) in
    omega (arith, small, c.get.ensures.value, c.requires.stands.memory.made.marks, c.args.self.now.own.marks.ok.0)

-- the domain's pages afterwards
abbrev after : (g : given.Over) → goal.After-self-2-1 g → Own
after g c = record { map = c.set.new.self; marks = with_item c.args.self.now.own.marks c.get.result true; spare = c.kept-self.result }

copied_after : (g : given.Over) (c : goal.After-self-2-1 g)
    → IsCopied (g.P.FramePool.world.entries c.args.pool.now c.args.self.now.seat) (g.P.FramePool.world.entries c.give_up-last.new.pool c.give_up-last.new.seat) c.unwrap-frame.result c.args.spare c.give_up-last.result
copied_after g c =
    let W = g.P.FramePool.world in
    let es = W.entries c.args.pool.now c.args.self.now.seat in
    let m = c.requires.stands.memory in
    let at = sym c.frame_for.ensures ∙ c.unwrap-frame.ensures in
    let n = spare_apart es c.args.self.now.tables.root c.args.self.now.own m c.args.p c.unwrap-frame.result c.args.spare at c.requires.spare in
    is_copied es (W.entries c.copy.new.self c.copy.new.s) _ c.unwrap-frame.result c.args.spare c.give_up-last.result n (ap is_here (m.spare c.args.spare c.requires.spare))
    c.copy.ensures.entries c.give_up-last.ensures.hold c.give_up-last.ensures.holds c.give_up-last.ensures.words

moved : (g : given.Over) (c : goal.After-self-2-1 g) → (u : ℕ) → u < 2 ^ 18
    → walk_at (g.P.FramePool.world.entries c.move_page.new.pool c.move_page.new.seat) c.args.self.now.tables.root u
    ≡ (if has_number u (vpns_at c.args.self.now.own.map c.args.p) then moved_to c.args.spare (walk_at (g.P.FramePool.world.entries c.give_up-last.new.pool c.give_up-last.new.seat) c.args.self.now.tables.root u)
    else walk_at (g.P.FramePool.world.entries c.give_up-last.new.pool c.give_up-last.new.seat) c.args.self.now.tables.root u)
moved g c = λ u lt.
    let es' = g.P.FramePool.world.entries c.give_up-last.new.pool c.give_up-last.new.seat in
    let root = c.args.self.now.tables.root in
    c.move_page.ensures.walks u lt ∙ ap (λ (xs : List ℕ). walk_moved c.args.spare true xs u (walk_at es' root u)) c.vpns.ensures.vpns
    ∙ moved_alone c.args.spare (vpns_at c.args.self.now.own.map c.args.p) u (walk_at es' root u)

-- the leaf tables before the tables change
same_leaf : (g : given.Over) (c : goal.After-self-2-1 g) (i : ℕ)
    → leaf_at (g.P.FramePool.world.entries c.give_up-last.new.pool c.give_up-last.new.seat) c.args.self.now.tables.root i ≡ leaf_at (g.P.FramePool.world.entries c.args.pool.now c.args.self.now.seat) c.args.self.now.tables.root i
same_leaf g c i =
    let m = c.requires.stands.memory in
    let root : ℕ = c.args.self.now.tables.root in
    let at = sym c.frame_for.ensures ∙ c.unwrap-frame.ensures in
    leaf_words _ _ root i ((copied_after g c).words root (λ e. m.made.plain c.args.p c.unwrap-frame.result at (inl (sym e))) (λ e. m.made.unused c.args.spare c.requires.spare (inl (sym e))))

pub returns-clause-stands : goal.returns-clause-stands
returns-clause-stands g c =
    let W = g.P.FramePool.world in
    let fs = W.entries c.move_page.new.pool c.move_page.new.seat in record {
      fits = c.move_page.ensures.moves.fits;
      names = c.move_page.ensures.moves.names ∙ c.give_up-last.ensures.moves.names ∙ c.copy.ensures.moves.names ∙ c.requires.stands.names;
      room = room_after _ fs c.args.self.now.tables.root c.move_page.new.self.root (length c.args.self.now.own.map.pages) (length c.set.new.self.pages) _ _ c.requires.stands.room (ap (λ (m : GuestPages). length m.pages) c.set.ensures ∙ length-set c.args.self.now.own.map.pages c.args.p _)
          (λ i l. ap (λ (r : ℕ). leaf_at fs r i) c.move_page.ensures.root ∙ c.move_page.ensures.tables.leaves i l ∙ same_leaf g c i)
          (c.move_page.ensures.moves.others.cap ∙ c.give_up-last.ensures.moves.others.cap ∙ c.copy.ensures.moves.others.cap);
      identity = local_after _ _ c.args.self.now.tables.root c.args.self.now.own c.requires.stands.memory c.args.p c.unwrap-frame.result c.args.spare c.give_up-last.result
          (sym c.frame_for.ensures ∙ c.unwrap-frame.ensures) c.requires.spare (copied_after g c) (g.P.FramePool.world.entries c.move_page.new.pool c.move_page.new.seat) (after g c) c.move_page.ensures.tables (moved g c)
          (ap (λ (m : GuestPages). m.pages) c.set.ensures) (ap (λ (m : GuestPages). m.vpns) c.set.ensures) (ap (λ (k : ℕ). set c.args.self.now.own.marks.items k true) c.get.ensures.value) c.kept-self.ensures 0 c.requires.stands.identity;
      memory = subst (λ (r : ℕ). IsMemory fs r (after g c)) (sym c.move_page.ensures.root)
          (memory_after _ _ c.args.self.now.tables.root c.args.self.now.own c.requires.stands.memory c.args.p c.unwrap-frame.result c.args.spare c.give_up-last.result
          (sym c.frame_for.ensures ∙ c.unwrap-frame.ensures) c.requires.spare (copied_after g c) fs (after g c) c.move_page.ensures.tables (moved g c)
          (ap (λ (m : GuestPages). m.pages) c.set.ensures) (ap (λ (m : GuestPages). m.vpns) c.set.ensures) (ap (λ (k : ℕ). set c.args.self.now.own.marks.items k true) c.get.ensures.value) c.kept-self.ensures);
    }

pub returns-clause-others : goal.returns-clause-others
returns-clause-others g c = λ q n.
    old_page _ _ c.args.self.now.tables.root c.args.self.now.own c.requires.stands.memory c.args.p c.unwrap-frame.result c.args.spare c.give_up-last.result
    (sym c.frame_for.ensures ∙ c.unwrap-frame.ensures) c.requires.spare (copied_after g c) (g.P.FramePool.world.entries c.move_page.new.pool c.move_page.new.seat) (after g c) c.move_page.ensures.tables (moved g c)
    (ap (λ (m : GuestPages). m.pages) c.set.ensures) (ap (λ (m : GuestPages). m.vpns) c.set.ensures) (ap (λ (k : ℕ). set c.args.self.now.own.marks.items k true) c.get.ensures.value) c.kept-self.ensures q n

pub returns-clause-page : goal.returns-clause-page
returns-clause-page g c =
    subst IsSome (sym (new_page _ _ c.args.self.now.tables.root c.args.self.now.own c.requires.stands.memory c.args.p c.unwrap-frame.result c.args.spare c.give_up-last.result
    (sym c.frame_for.ensures ∙ c.unwrap-frame.ensures) c.requires.spare (copied_after g c) (g.P.FramePool.world.entries c.move_page.new.pool c.move_page.new.seat) (after g c) c.move_page.ensures.tables (moved g c)
    (ap (λ (m : GuestPages). m.pages) c.set.ensures) (ap (λ (m : GuestPages). m.vpns) c.set.ensures) (ap (λ (k : ℕ). set c.args.self.now.own.marks.items k true) c.get.ensures.value) c.kept-self.ensures)) refl

pub returns-clause-mark : goal.returns-clause-mark
returns-clause-mark g c =
    marked _ _ c.args.self.now.tables.root c.args.self.now.own c.requires.stands.memory c.args.p c.unwrap-frame.result c.args.spare c.give_up-last.result
    (sym c.frame_for.ensures ∙ c.unwrap-frame.ensures) c.requires.spare (copied_after g c) (g.P.FramePool.world.entries c.move_page.new.pool c.move_page.new.seat) (after g c) c.move_page.ensures.tables (moved g c)
    (ap (λ (m : GuestPages). m.pages) c.set.ensures) (ap (λ (m : GuestPages). m.vpns) c.set.ensures) (ap (λ (k : ℕ). set c.args.self.now.own.marks.items k true) c.get.ensures.value) c.kept-self.ensures

pub returns-clause-bytes : goal.returns-clause-bytes
returns-clause-bytes g c = λ q.
    bytes_after _ _ c.args.self.now.tables.root c.args.self.now.own c.requires.stands.memory c.args.p c.unwrap-frame.result c.args.spare c.give_up-last.result
    (sym c.frame_for.ensures ∙ c.unwrap-frame.ensures) c.requires.spare (copied_after g c) (g.P.FramePool.world.entries c.move_page.new.pool c.move_page.new.seat) (after g c) c.move_page.ensures.tables (moved g c)
    (ap (λ (m : GuestPages). m.pages) c.set.ensures) (ap (λ (m : GuestPages). m.vpns) c.set.ensures) (ap (λ (k : ℕ). set c.args.self.now.own.marks.items k true) c.get.ensures.value) c.kept-self.ensures q

pub returns-clause-mappings : goal.returns-clause-mappings
returns-clause-mappings g c = λ u lt.
    ap (λ (r : ℕ). vpn_mapping (g.P.FramePool.world.entries c.move_page.new.pool c.move_page.new.seat) r c.set.new.self.pages u) c.move_page.ensures.root
    ∙ shown_after _ _ c.args.self.now.tables.root c.args.self.now.own c.requires.stands.memory c.args.p c.unwrap-frame.result c.args.spare c.give_up-last.result
    (sym c.frame_for.ensures ∙ c.unwrap-frame.ensures) c.requires.spare (copied_after g c) (g.P.FramePool.world.entries c.move_page.new.pool c.move_page.new.seat) (after g c) c.move_page.ensures.tables (moved g c)
    (ap (λ (m : GuestPages). m.pages) c.set.ensures) (ap (λ (m : GuestPages). m.vpns) c.set.ensures) (ap (λ (k : ℕ). set c.args.self.now.own.marks.items k true) c.get.ensures.value) c.kept-self.ensures u lt

pub returns-clause-moves : goal.returns-clause-moves
returns-clause-moves g c = moves_trans _ _ _ _ _ _ _ (moves_trans _ _ _ _ _ _ _ c.copy.ensures.moves c.give_up-last.ensures.moves) c.move_page.ensures.moves

pub returns-clause-leaves : goal.returns-clause-leaves
returns-clause-leaves g c = λ i l.
    let fs = g.P.FramePool.world.entries c.move_page.new.pool c.move_page.new.seat in
    ap (λ (r : ℕ). leaf_at fs r i) c.move_page.ensures.root ∙ c.move_page.ensures.tables.leaves i l ∙ same_leaf g c i

last_is : (b : Bool) (n : ℕ) → IsTrue b ↔ (n ≡ 1) → b ≡ (n == 1)
last_is true n h = sym (eq-eqb n 1 (h.0 refl))
last_is false n h = sym (ne_eqb n 1 (λ e. let z : true ≡ false = sym (h.1 e) in cc))

abbrev chosen : Option ℕ → Bool → Option ℕ
chosen x b = if b then x else None

told_of : (t t' : Option (List ℕ)) (x : Option ℕ) (f m n : ℕ) → t' ≡ t → x ≡ Some f → n ≡ m → IfSome t' (λ counts. m ≡ slice_index counts f) → IfSome t (λ counts. IfSome x (λ k. n ≡ slice_index counts k))
told_of None t' x f m n e at same h = tt
told_of (Some counts) t' x f m n e at same h =
    let k : IfSome (Some counts) (λ cs. m ≡ slice_index cs f) = subst (λ (t : Option (List ℕ)). IfSome t (λ cs. m ≡ slice_index cs f)) e h in
    subst (λ (y : Option ℕ). IfSome y (λ j. n ≡ slice_index counts j)) (sym at) (same ∙ k)

pub returns-clause-took : goal.returns-clause-took
returns-clause-took g c =
    let W = g.P.FramePool.world in
    let at = sym c.frame_for.ensures ∙ c.unwrap-frame.ensures in record {
      page = new_page _ _ c.args.self.now.tables.root c.args.self.now.own c.requires.stands.memory c.args.p c.unwrap-frame.result c.args.spare c.give_up-last.result
          (sym c.frame_for.ensures ∙ c.unwrap-frame.ensures) c.requires.spare (copied_after g c) (g.P.FramePool.world.entries c.move_page.new.pool c.move_page.new.seat) (after g c) c.move_page.ensures.tables (moved g c)
          (ap (λ (m : GuestPages). m.pages) c.set.ensures) (ap (λ (m : GuestPages). m.vpns) c.set.ensures) (ap (λ (k : ℕ). set c.args.self.now.own.marks.items k true) c.get.ensures.value) c.kept-self.ensures ∙ sym c.requires.spare;
      spare = c.kept-self.ensures ∙ ap (chosen (Some c.unwrap-frame.result)) (last_is c.give_up-last.result _ c.give_up-last.ensures.met)
          ∙ ap (λ (n : ℕ). chosen (Some c.unwrap-frame.result) (n == 1)) (sym c.move_page.ensures.met)
          ∙ ap (λ (x : Option ℕ). chosen x (W.met c.move_page.new.seat == 1)) (sym at);
      met = told_of (W.told c.args.pool.now) (W.told c.copy.new.self) _ c.unwrap-frame.result (W.met c.give_up-last.new.seat) (W.met c.move_page.new.seat) c.copy.ensures.counts.told at c.move_page.ensures.met c.give_up-last.ensures.exact;
    }

pub returns-clause-count : goal.returns-clause-count
returns-clause-count g c = ap (λ (m : GuestPages). length m.pages) c.set.ensures ∙ length-set c.args.self.now.own.map.pages c.args.p _
