use Rattle.std.proofs.Common.{◌≡◌, ◌≢◌, ◌<◌, ◌≤◌, ◌+◌, ◌∷◌, [], ℕ, Bool, List, length, true, false, Some, None, refl, sym, ap, ◌∙◌, arith, eq-eqb}
use Rattle.std.specs.declared.option.Option.{Option}
use Rattle.neph_pool.specs.declared.entry.Entry.{Entry}
use Rattle.neph_pool.specs.declared.entry.Hold.{Hold}
use Rattle.neph_pool.specs.declared.entry.Hold.TheVariants.{Zero, Sole, Counted}
use Rattle.neph_pool.specs.Entries.{hold_at, words_at, is_here, is_whole, entry_count, IsShaped}
use Rattle.neph_pool.specs.Handing.{taking, moved_hold, moved_into}
use Rattle.neph_pool.specs.Names.{name_count}
use Rattle.neph_pool.proofs.Walks.{among_here, left_one, moved_one, may_one}
use Rattle.neph_pool.proofs.Parts.{hold_at-taking, hold_at-taking_other, count_moved, place_of, name_count-some}
use Rattle.neph_memory.proofs.Leading.{named}
use Rattle.neph_memory.proofs.Rooming.{entries_few, room_after}
use Rattle.neph_memory.proofs.Sparing.{words_else, least, spare_memory, spare_shown, spare_bytes, spare_no_root}
use Rattle.neph_memory.proofs.Standing.{leaf_words}
use Rattle.neph_memory.proofs.dom_local.DomLocal.put_spare.Given as given
use Rattle.neph_memory.proofs.dom_local.DomLocal.put_spare.Goals as goal

whole_not : (h : Option Hold) → h ≡ Some Sole → is_whole h ≡ false → ⊥
whole_not None e w = cc
whole_not (Some Zero) e w = cc
whole_not (Some Sole) e w = cc
whole_not (Some (Counted n)) e w = cc

abbrev old : (g : given.Over) → goal.After-self-1 g → List (Option Entry)
old g c = g.P.FramePool.world.entries c.args.pool.now c.args.self.now.seat

abbrev giver : (g : given.Over) → goal.After-self-1 g → List (Option Entry)
giver g c = g.P.FramePool.world.entries c.args.pool.now c.args.from.now

abbrev new : (g : given.Over) → goal.After-self-1 g → List (Option Entry)
new g c = g.P.FramePool.world.entries c.hand.new.self c.hand.new.to

pub hand-requires-clause-to : goal.hand-requires-clause-to
hand-requires-clause-to g c = (c.requires.stands.fits, named _ _ c.requires.stands.names)

pub hand-requires-clause-part : goal.hand-requires-clause-part
hand-requires-clause-part g c = may_one _ _ c.args.f (ap is_here c.requires.frame, λ w. absurd (whole_not _ c.requires.frame w))

pub hand-requires-clause-room : goal.hand-requires-clause-room
hand-requires-clause-room g c = λ no'.
    let W = g.P.FramePool.world in
    let es = W.entries c.args.pool.now c.args.from.now in
    let to = W.entries c.args.pool.now c.args.self.now.seat in
    let most : entry_count (moved_into es to (c.args.f ∷ [])) ≤ entry_count to + 1 = count_moved es to (c.args.f ∷ []) (refl, tt) in
    let id : c.args.self.now.id < 64 = omega (arith, c.get-number.ensures.value, c.get-number.ensures.range) in
    let has : W.names c.args.self.now.seat c.args.self.now.id ≡ true = ap (λ (ns : ℕ → Bool). ns c.args.self.now.id) c.requires.stands.names ∙ eq-eqb c.args.self.now.id c.args.self.now.id refl in
    let names = name_count-some (W.names c.args.self.now.seat) c.args.self.now.id id has in
    let cap = least (W.cap c.args.pool.now) (name_count (W.names c.args.self.now.seat)) names in
    let few = entries_few to c.args.self.now.tables.root c.args.self.now.own c.requires.stands.memory c.requires.none in
    omega (arith, most, cap, few, c.requires.stands.room)

-- what the domain's seat has then
taken : (g : given.Over) (c : goal.After-self-1 g) → new g c ≡ taking (giver g c) (old g c) c.args.f
taken g c = c.hand.ensures.moved ∙ moved_one (giver g c) (old g c) c.args.f

here : (g : given.Over) (c : goal.After-self-1 g) → hold_at (new g c) c.args.f ≡ Some Sole
here g c =
    let W = g.P.FramePool.world in
    let s : IsShaped (W.frames c.args.pool.now) (giver g c) = g.met.P.FramePool.shaped _ _ c.requires.from.0 in
    let t : IsShaped (W.frames c.args.pool.now) (old g c) = g.met.P.FramePool.shaped _ _ c.requires.stands.fits in
    let fit = place_of (giver g c) (old g c) c.args.f (t.places ∙ sym s.places) (ap is_here c.requires.frame) in
    ap (λ (xs : List (Option Entry)). hold_at xs c.args.f) (taken g c) ∙ hold_at-taking (giver g c) (old g c) c.args.f fit ∙ ap moved_hold c.requires.frame

holds : (g : given.Over) (c : goal.After-self-1 g) (x : ℕ) → x ≢ c.args.f → hold_at (new g c) x ≡ hold_at (old g c) x
holds g c x n = ap (λ (xs : List (Option Entry)). hold_at xs x) (taken g c) ∙ hold_at-taking_other (giver g c) (old g c) c.args.f x n

words : (g : given.Over) (c : goal.After-self-1 g) (x : ℕ) → x ≢ c.args.f → words_at (new g c) x ≡ words_at (old g c) x
words g c x n = ap (λ (xs : List (Option Entry)). words_at xs x) (taken g c) ∙ words_else (old g c) c.args.f x _ n

pub returns-clause-stands : goal.returns-clause-stands
returns-clause-stands g c = record {
  fits = c.hand.ensures.to.fits;
  names = c.hand.ensures.to.names ∙ c.requires.stands.names;
  room = room_after (old g c) (new g c) c.args.self.now.tables.root c.args.self.now.tables.root (length c.args.self.now.own.map.pages) (length c.args.self.now.own.map.pages) _ _ c.requires.stands.room refl
      (λ i l. leaf_words _ _ c.args.self.now.tables.root i (words g c c.args.self.now.tables.root (spare_no_root (old g c) (new g c) c.args.self.now.tables.root c.args.self.now.own c.requires.stands.memory c.args.f (ap is_here (c.hand.ensures.absent c.args.f (among_here c.args.f []))) c.requires.none (here g c) (holds g c) (words g c))))
      c.hand.ensures.others.cap;
  identity = c.requires.stands.identity;
  memory = spare_memory (old g c) (new g c) c.args.self.now.tables.root c.args.self.now.own c.requires.stands.memory c.args.f (ap is_here (c.hand.ensures.absent c.args.f (among_here c.args.f []))) c.requires.none (here g c) (holds g c) (words g c);
}

pub returns-clause-bytes : goal.returns-clause-bytes
returns-clause-bytes g c = λ q. spare_bytes (old g c) (new g c) c.args.self.now.tables.root c.args.self.now.own c.requires.stands.memory c.args.f (ap is_here (c.hand.ensures.absent c.args.f (among_here c.args.f []))) c.requires.none (here g c) (holds g c) (words g c) q

pub returns-clause-mappings : goal.returns-clause-mappings
returns-clause-mappings g c = λ u lt. spare_shown (old g c) (new g c) c.args.self.now.tables.root c.args.self.now.own c.requires.stands.memory c.args.f (ap is_here (c.hand.ensures.absent c.args.f (among_here c.args.f []))) c.requires.none (here g c) (holds g c) (words g c) u lt

pub returns-clause-left : goal.returns-clause-left
returns-clause-left g c = c.hand.ensures.left ∙ left_one (g.P.FramePool.world.entries c.args.pool.now c.args.from.now) c.args.f

pub returns-clause-leaves : goal.returns-clause-leaves
returns-clause-leaves g c = λ i l.
    let absent = ap is_here (c.hand.ensures.absent c.args.f (among_here c.args.f [])) in
    leaf_words _ _ c.args.self.now.tables.root i (words g c c.args.self.now.tables.root (spare_no_root (old g c) (new g c) c.args.self.now.tables.root c.args.self.now.own c.requires.stands.memory c.args.f absent c.requires.none (here g c) (holds g c) (words g c)))
