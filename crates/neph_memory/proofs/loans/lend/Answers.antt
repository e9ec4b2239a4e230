use Rattle.std.proofs.Common.{◌≡◌, ◌<◌, ◌≤◌, ◌+◌, ◌∷◌, [], List, Some, length, refl, sym, ap, ◌∙◌, arith}
use Rattle.std.specs.declared.option.Option.{Option}
use Rattle.neph_pool.specs.declared.entry.Entry.{Entry}
use Rattle.neph_pool.specs.declared.entry.Hold.TheVariants.{Counted}
use Rattle.neph_pool.specs.Entries.{hold_at, words_at, is_here, is_counted, entry_count, IsShaped}
use Rattle.neph_pool.specs.Handing.{giving, taking, left_hold, moved_hold, moved_into}
use Rattle.neph_pool.specs.Names.{name_count}
use Rattle.neph_pool.proofs.Entries.{once_here, hold_at-with_hold, hold_at-with_hold_other, words_at-with_hold}
use Rattle.neph_pool.proofs.Walks.{among_here, left_one, moved_one, may_one}
use Rattle.neph_pool.proofs.Parts.{hold_at-giving, hold_at-giving_other, hold_at-taking, hold_at-taking_other, words_at-taking, count_moved, place_of, name_count-some}
use Rattle.neph_memory.proofs.Sparing.{words_else, least}
use Rattle.neph_memory.proofs.Lending.{words_giving, spares_both}
use Rattle.neph_memory.proofs.loans.lend.Given as given
use Rattle.neph_memory.proofs.loans.lend.Goals as goal

abbrev old : (g : given.Over) → goal.After-hand g → List (Option Entry)
old g c = g.P.FramePool.world.entries c.args.pool.now c.args.seat.now

abbrev mid : (g : given.Over) → goal.After-hand g → List (Option Entry)
mid g c = g.P.FramePool.world.entries c.share.new.self c.share.new.s

abbrev taker : (g : given.Over) → goal.After-hand g → List (Option Entry)
taker g c = g.P.FramePool.world.entries c.share.new.self c.args.to.now

two : (g : given.Over) (c : goal.After-hand g) → hold_at (mid g c) c.args.f ≡ Some (Counted 2)
two g c = ap (λ (xs : List (Option Entry)). hold_at xs c.args.f) c.share.ensures.entries ∙ hold_at-with_hold (old g c) c.args.f (Counted 2) (once_here (old g c) c.args.f c.requires.frame)

fit : (g : given.Over) (c : goal.After-hand g) → c.args.f < length (mid g c)
fit g c = place_of (mid g c) (mid g c) c.args.f refl (ap is_here (two g c))

fit_to : (g : given.Over) (c : goal.After-hand g) → c.args.f < length (taker g c)
fit_to g c =
    let W = g.P.FramePool.world in
    let s : IsShaped (W.frames c.share.new.self) (mid g c) = g.met.P.FramePool.shaped _ _ c.share.ensures.moves.fits in
    let t : IsShaped (W.frames c.share.new.self) (taker g c) = g.met.P.FramePool.shaped _ _ (c.share.ensures.moves.others.fits c.args.to.now c.requires.to.0 c.requires.apart) in
    place_of (mid g c) (taker g c) c.args.f (t.places ∙ sym s.places) (ap is_here (two g c))

pub hand-requires-clause-part : goal.hand-requires-clause-part
hand-requires-clause-part g c =
    let W = g.P.FramePool.world in
    let e2 = ap (λ (xs : List (Option Entry)). hold_at xs c.args.f) c.share.ensures.entries ∙ hold_at-with_hold _ c.args.f (Counted 2) (once_here _ c.args.f c.requires.frame) in
    may_one _ _ c.args.f (ap is_here e2, λ w. ap (λ (xs : List (Option Entry)). is_counted (hold_at xs c.args.f)) (c.share.ensures.moves.others.entries c.args.to.now c.requires.to.0 c.requires.apart) ∙ c.requires.free)

pub hand-requires-clause-room : goal.hand-requires-clause-room
hand-requires-clause-room g c = λ no'.
    let W = g.P.FramePool.world in
    let es = W.entries c.share.new.self c.share.new.s in
    let to = W.entries c.share.new.self c.args.to.now in
    let most : entry_count (moved_into es to (c.args.f ∷ [])) ≤ entry_count to + 1 = count_moved es to (c.args.f ∷ []) (refl, tt) in
    let count : entry_count to ≡ entry_count (W.entries c.args.pool.now c.args.to.now) = ap entry_count (c.share.ensures.moves.others.entries c.args.to.now c.requires.to.0 c.requires.apart) in
    let id : c.args.child < 64 = omega (arith, c.get-child.ensures.value, c.get-child.ensures.range) in
    let names = name_count-some (W.names c.args.to.now) c.args.child id c.requires.to.1 in
    let cap = least (W.cap c.share.new.self) (name_count (W.names c.args.to.now)) names in
    let same : W.cap c.share.new.self ≡ W.cap c.args.pool.now = c.share.ensures.moves.others.cap in
    omega (arith, most, count, cap, same, c.requires.room)

-- what the two seats have then
given_up : (g : given.Over) (c : goal.After-hand g) → g.P.FramePool.world.entries c.hand.new.self c.hand.new.from ≡ giving (mid g c) c.args.f
given_up g c = c.hand.ensures.left ∙ left_one (mid g c) c.args.f

taken : (g : given.Over) (c : goal.After-hand g) → g.P.FramePool.world.entries c.hand.new.self c.hand.new.to ≡ taking (mid g c) (taker g c) c.args.f
taken g c = c.hand.ensures.moved ∙ moved_one (mid g c) (taker g c) c.args.f

pub returns-clause-kept : goal.returns-clause-kept
returns-clause-kept g c = ap (λ (xs : List (Option Entry)). hold_at xs c.args.f) (given_up g c) ∙ hold_at-giving (mid g c) c.args.f (fit g c) ∙ ap left_hold (two g c)

pub returns-clause-holds : goal.returns-clause-holds
returns-clause-holds g c = λ x n.
    ap (λ (xs : List (Option Entry)). hold_at xs x) (given_up g c) ∙ hold_at-giving_other (mid g c) c.args.f x n
    ∙ ap (λ (xs : List (Option Entry)). hold_at xs x) c.share.ensures.entries ∙ hold_at-with_hold_other (old g c) c.args.f (Counted 2) x n

pub returns-clause-words : goal.returns-clause-words
returns-clause-words g c = λ x.
    ap (λ (xs : List (Option Entry)). words_at xs x) (given_up g c) ∙ words_giving (mid g c) c.args.f x (fit g c) (ap is_here (ap left_hold (two g c)))
    ∙ ap (λ (xs : List (Option Entry)). words_at xs x) c.share.ensures.entries ∙ words_at-with_hold (old g c) c.args.f (Counted 2) x

pub returns-clause-lent : goal.returns-clause-lent
returns-clause-lent g c = ap (λ (xs : List (Option Entry)). hold_at xs c.args.f) (taken g c) ∙ hold_at-taking (mid g c) (taker g c) c.args.f (fit_to g c) ∙ ap moved_hold (two g c)

pub returns-clause-same : goal.returns-clause-same
returns-clause-same g c =
    ap (λ (xs : List (Option Entry)). words_at xs c.args.f) (taken g c) ∙ words_at-taking (mid g c) (taker g c) c.args.f (fit_to g c) (ap is_here (ap moved_hold (two g c)))
    ∙ ap (λ (xs : List (Option Entry)). words_at xs c.args.f) c.share.ensures.entries ∙ words_at-with_hold (old g c) c.args.f (Counted 2) c.args.f

pub returns-clause-others_held : goal.returns-clause-others_held
returns-clause-others_held g c = λ x n.
    ap (λ (xs : List (Option Entry)). hold_at xs x) (taken g c) ∙ hold_at-taking_other (mid g c) (taker g c) c.args.f x n
    ∙ ap (λ (xs : List (Option Entry)). hold_at xs x) (c.share.ensures.moves.others.entries c.args.to.now c.requires.to.0 c.requires.apart)

pub returns-clause-others_words : goal.returns-clause-others_words
returns-clause-others_words g c = λ x n.
    ap (λ (xs : List (Option Entry)). words_at xs x) (taken g c) ∙ words_else (taker g c) c.args.f x _ n
    ∙ ap (λ (xs : List (Option Entry)). words_at xs x) (c.share.ensures.moves.others.entries c.args.to.now c.requires.to.0 c.requires.apart)

pub returns-clause-others : goal.returns-clause-others
returns-clause-others g c =
    let W = g.P.FramePool.world in
    spares_both W (W.names c.args.seat.now) (W.names c.share.new.s) (W.names c.args.to.now) c.args.pool.now c.share.new.self c.hand.new.self c.share.ensures.moves.others c.share.ensures.moves.names c.hand.ensures.others

pub returns-clause-absent : goal.returns-clause-absent
returns-clause-absent g c =
    ap (λ (xs : List (Option Entry)). hold_at xs c.args.f) (sym (c.share.ensures.moves.others.entries c.args.to.now c.requires.to.0 c.requires.apart)) ∙ c.hand.ensures.absent c.args.f (among_here c.args.f [])
