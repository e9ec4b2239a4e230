use Rattle.std.proofs.Common.{IfSome, slice_index, ◌≡◌, ◌≢◌, ℕ, Bool, true, false, List, Some, None, if◌then◌else◌, sym, ap, ◌∙◌}
use Rattle.std.specs.declared.option.Option.{Option}
use Rattle.neph_pool.specs.declared.entry.Entry.{Entry}
use Rattle.neph_pool.specs.declared.entry.Hold.TheVariants.{Zero, Sole}
use Rattle.neph_pool.specs.Entries.{hold_at, words_at, with_hold, without, is_here}
use Rattle.neph_pool.proofs.Entries.{once_here, hold_at-with_hold, hold_at-with_hold_other, words_at-with_hold, hold_at-without, hold_at-without_other, words_at-without_other}
use Rattle.neph_pool.proofs.Calls.{moves_trans}
use Rattle.neph_memory.proofs.dom_local.give_up.Goals as goal

-- the entries where the reference was the last
kept : (es fs : List (Option Entry)) (f : ℕ) (b : Bool) → fs ≡ (if b then with_hold es f Zero else without es f) → b ≡ true → fs ≡ with_hold es f Zero
kept es fs f true h e = h
kept es fs f false h e = absurd (cc)

gone : (es fs : List (Option Entry)) (f : ℕ) (b : Bool) → fs ≡ (if b then with_hold es f Zero else without es f) → b ≡ false → fs ≡ without es f
gone es fs f true h e = absurd (cc)
gone es fs f false h e = h

zero_at : (es fs : List (Option Entry)) (f : ℕ) → fs ≡ with_hold es f Zero → is_here (hold_at es f) ≡ true → hold_at fs f ≡ Some Zero
zero_at es fs f e here = ap (λ (xs : List (Option Entry)). hold_at xs f) e ∙ hold_at-with_hold es f Zero here

again : (es fs : List (Option Entry)) (f g : ℕ) → fs ≡ with_hold es f Sole → g ≢ f → hold_at fs g ≡ hold_at es g
again es fs f g e n = ap (λ (xs : List (Option Entry)). hold_at xs g) e ∙ hold_at-with_hold_other es f Sole g n

zeroed : (es fs : List (Option Entry)) (f g : ℕ) → fs ≡ with_hold es f Zero → g ≢ f → hold_at fs g ≡ hold_at es g
zeroed es fs f g e n = ap (λ (xs : List (Option Entry)). hold_at xs g) e ∙ hold_at-with_hold_other es f Zero g n

sole_at : (es fs : List (Option Entry)) (f : ℕ) → fs ≡ with_hold es f Sole → is_here (hold_at es f) ≡ true → hold_at fs f ≡ Some Sole
sole_at es fs f e here = ap (λ (xs : List (Option Entry)). hold_at xs f) e ∙ hold_at-with_hold es f Sole here

pub retake-requires-clause-frame : goal.retake-requires-clause-frame
retake-requires-clause-frame g c = zero_at _ _ c.args.f (kept _ _ c.args.f _ c.release-last.ensures.entries c.if-last.true) (once_here _ c.args.f c.requires.frame)

pub returns-then-last-clause-hold : goal.returns-then-last-clause-hold
returns-then-last-clause-hold g c =
    let here = zero_at _ _ c.args.f (kept _ _ c.args.f _ c.release-last.ensures.entries c.if-last.true) (once_here _ c.args.f c.requires.frame) in
    sole_at _ _ c.args.f c.retake.ensures.entries (ap is_here here) ∙ sym (ap (λ (b : Bool). if b then Some Sole else None) c.if-last.true)

pub returns-then-last-clause-holds : goal.returns-then-last-clause-holds
returns-then-last-clause-holds g c = λ x n. again _ _ c.args.f x c.retake.ensures.entries n ∙ zeroed _ _ c.args.f x (kept _ _ c.args.f _ c.release-last.ensures.entries c.if-last.true) n

pub returns-then-last-clause-words : goal.returns-then-last-clause-words
returns-then-last-clause-words g c = λ x n.
    ap (λ (xs : List (Option Entry)). words_at xs x) c.retake.ensures.entries ∙ words_at-with_hold _ c.args.f Sole x
    ∙ ap (λ (xs : List (Option Entry)). words_at xs x) (kept _ _ c.args.f _ c.release-last.ensures.entries c.if-last.true) ∙ words_at-with_hold _ c.args.f Zero x

pub returns-then-last-clause-moves : goal.returns-then-last-clause-moves
returns-then-last-clause-moves g c = moves_trans _ _ _ _ _ _ _ c.release-last.ensures.moves c.retake.ensures.moves

pub returns-else-last-clause-hold : goal.returns-else-last-clause-hold
returns-else-last-clause-hold g c =
    ap (λ (xs : List (Option Entry)). hold_at xs c.args.f) (gone _ _ c.args.f _ c.release-last.ensures.entries c.if-last.false) ∙ hold_at-without _ c.args.f ∙ sym (ap (λ (b : Bool). if b then Some Sole else None) c.if-last.false)

pub returns-else-last-clause-holds : goal.returns-else-last-clause-holds
returns-else-last-clause-holds g c = λ x n.
    ap (λ (xs : List (Option Entry)). hold_at xs x) (gone _ _ c.args.f _ c.release-last.ensures.entries c.if-last.false) ∙ hold_at-without_other _ c.args.f x n

pub returns-else-last-clause-words : goal.returns-else-last-clause-words
returns-else-last-clause-words g c = λ x n.
    ap (λ (xs : List (Option Entry)). words_at xs x) (gone _ _ c.args.f _ c.release-last.ensures.entries c.if-last.false) ∙ words_at-without_other _ c.args.f x n

pub returns-then-last-clause-met : goal.returns-then-last-clause-met
returns-then-last-clause-met g c = (λ h. c.retake.ensures.met ∙ c.release-last.ensures.met.0 h, λ e. c.release-last.ensures.met.1 (sym c.retake.ensures.met ∙ e))

told_too : (t : Option (List ℕ)) (m n f : ℕ) → n ≡ m → IfSome t (λ counts. m ≡ slice_index counts f) → IfSome t (λ counts. n ≡ slice_index counts f)
told_too None m n f e h = h
told_too (Some counts) m n f e h = e ∙ h

pub returns-then-last-clause-exact : goal.returns-then-last-clause-exact
returns-then-last-clause-exact g c = told_too _ _ _ c.args.f c.retake.ensures.met c.release-last.ensures.exact
