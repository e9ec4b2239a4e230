use Rattle.std.proofs.Common.{◌≡◌, ◌/◌, ◌%◌, ◌||◌, ℕ, List, Bool, true, false, Some, IfSome, refl, sym, ap, subst, ◌∙◌}
use Rattle.std.specs.declared.option.Option.{Option}
use Rattle.neph_model.specs.declared.memory.Mapping.{Mapping}
use Rattle.neph_pool.proofs.Calls.{moves_trans}
use Rattle.neph_memory.specs.declared.own.Own.{Own}
use Rattle.neph_memory.specs.declared.write.Write.{Write}
use Rattle.neph_memory.specs.declared.write.WriteStep.TheVariants as step
use Rattle.neph_memory.specs.Memory.{is_marked, mode_of, vpn_mapping, page_bytes, IsPageAt}
use Rattle.neph_memory.specs.Domains.{IsSharedPage}
use Rattle.neph_memory.proofs.Telling.{shared_before}
use Rattle.neph_memory.proofs.Leading.{local_page, local_sole, shown_local, step_ready, step_readonly, step_away}
use Rattle.neph_memory.proofs.Standing.{moved_write, moved_page, moved_shown}
use Rattle.neph_memory.specs.Pages.{frame_at}
use Rattle.neph_memory.specs.Steps.{page_after_step, hand_after_step}
use Rattle.neph_memory.proofs.dom_local.DomLocal.begin_write.Given as given
use Rattle.neph_memory.proofs.dom_local.DomLocal.begin_write.Goals.{In-Local}
use Rattle.neph_memory.proofs.dom_local.DomLocal.begin_write.Goals as goal

abbrev held_write : ℕ → ℕ → List ℕ → Option Write
held_write p at bytes = Some (record { pfn = p; at = at; bytes = bytes })

or_true : (b : Bool) → (b || true) ≡ true
or_true true = refl
or_true false = refl

both_false : (b c : Bool) → b ≡ false → c ≡ false → (b || c) ≡ false
both_false true c e h = absurd (cc)
both_false false c e h = h

shared_true : (b c : Bool) → c ≡ true → (b || c) ≡ true
shared_true b c e = ap (λ (k : Bool). b || k) e ∙ or_true b

-- the page of the frame that the walk led to
page : (g : given.Over) (c : In-Local g) → IsPageAt c.args.self.now.own c.in-Local.frame
page g c = local_page _ _ _ c.requires.stands.memory (c.args.v / 4096) c.in-Local.frame c.in-Local.rw c.in-Local.shared c.peek.ensures.range (sym c.in-Local.ensures.walk)

there : (g : given.Over) (c : In-Local g) → frame_at c.peek.new.self.own.map.pages (page g c).0 ≡ Some c.in-Local.frame
there g c = ap (λ (k : Own). frame_at k.map.pages (page g c).0) c.peek.ensures.own ∙ (page g c).1

maps : (g : given.Over) (c : In-Local g)
    → vpn_mapping (g.P.FramePool.world.entries c.args.pool.now c.args.self.now.seat) c.args.self.now.tables.root c.args.self.now.own.map.pages (c.args.v / 4096)
    ≡ Some (record { pfn = (page g c).0; mode = mode_of (c.in-Local.rw || c.in-Local.shared) })
maps g c = shown_local _ _ _ c.requires.stands.memory (c.args.v / 4096) c.in-Local.frame c.in-Local.rw c.in-Local.shared c.peek.ensures.range (sym c.in-Local.ensures.walk) (page g c).0 (page g c).1

pub write_frame-requires-clause-page : goal.write_frame-requires-clause-page
write_frame-requires-clause-page g c = let here = (goal.at.write_frame-requires-clause-page g c).In-Local in ((page g here).0, there g here)

pub write_shared-requires-clause-page : goal.write_shared-requires-clause-page
write_shared-requires-clause-page g c = let here = (goal.at.write_shared-requires-clause-page g c).In-Local in ((page g here).0, there g here)

pub returns-then-rw-clause-step : goal.returns-then-rw-clause-step
returns-then-rw-clause-step g c =
    step_ready _ _ _ c.requires.stands.memory (c.args.v / 4096) c.in-Local.frame c.in-Local.rw c.in-Local.shared step.Done c.peek.ensures.range (sym c.in-Local.ensures.walk) (ap (λ (b : Bool). b || c.in-Local.shared) c.if-rw.true) tt

pub returns-then-rw-clause-bytes : goal.returns-then-rw-clause-bytes
returns-then-rw-clause-bytes g c = λ q.
    let W = g.P.FramePool.world in
    let es = W.entries c.args.pool.now c.args.self.now.seat in
    let o = c.args.self.now.own in
    let here = (goal.at.returns-then-rw-clause-bytes g c).In-Local in
    c.write_frame.ensures.bytes (page g here).0 (there g here) q
    ∙ moved_write es (W.entries c.peek.new.pool c.peek.new.self.seat) o c.peek.new.self.own (page g here).0 c.offset.result (c.args.v % 4096) c.args.bytes.now q c.peek.ensures.entries c.peek.ensures.own c.offset.ensures.value
    ∙ sym (ap (λ (x : Option Mapping). page_after_step step.Done x (page_bytes es o.map.pages) (c.args.v % 4096) c.args.bytes.now q) (maps g here))

pub returns-then-rw-clause-mappings : goal.returns-then-rw-clause-mappings
returns-then-rw-clause-mappings g c = λ u le. c.write_frame.ensures.mappings u le ∙ moved_shown _ _ _ _ _ _ u c.peek.ensures.entries c.peek.ensures.root c.peek.ensures.own

pub returns-then-rw-clause-moves : goal.returns-then-rw-clause-moves
returns-then-rw-clause-moves g c = moves_trans _ _ _ _ _ _ _ c.peek.ensures.moves c.write_frame.ensures.moves

pub returns-then-not-shared-clause-step : goal.returns-then-not-shared-clause-step
returns-then-not-shared-clause-step g c =
    step_readonly _ _ _ c.requires.stands.memory (c.args.v / 4096) c.in-Local.frame c.in-Local.rw c.in-Local.shared c.peek.ensures.range (sym c.in-Local.ensures.walk) (both_false c.in-Local.rw c.in-Local.shared c.if-rw.false c.if-not-shared.true)

pub returns-in-Exposed-clause-step : goal.returns-in-Exposed-clause-step
returns-in-Exposed-clause-step g c =
    step_away _ _ _ c.requires.stands.memory (c.args.v / 4096) c.in-Exposed.pfn c.in-Exposed.rw c.peek.ensures.range (sym c.in-Exposed.ensures.walk)

pub returns-then-write_shared-clause-step : goal.returns-then-write_shared-clause-step
returns-then-write_shared-clause-step g c =
    step_ready _ _ _ c.requires.stands.memory (c.args.v / 4096) c.in-Local.frame c.in-Local.rw c.in-Local.shared step.Done c.peek.ensures.range (sym c.in-Local.ensures.walk) (shared_true c.in-Local.rw c.in-Local.shared c.if-not-shared.false) tt

pub returns-then-write_shared-clause-bytes : goal.returns-then-write_shared-clause-bytes
returns-then-write_shared-clause-bytes g c = λ q.
    let W = g.P.FramePool.world in
    let es = W.entries c.args.pool.now c.args.self.now.seat in
    let o = c.args.self.now.own in
    let here = (goal.at.returns-then-write_shared-clause-bytes g c).In-Local in
    c.if-write_shared.ensures.bytes (page g here).0 (there g here) q
    ∙ moved_write es (W.entries c.peek.new.pool c.peek.new.self.seat) o c.peek.new.self.own (page g here).0 c.offset-in-Local.result (c.args.v % 4096) c.args.bytes.now q c.peek.ensures.entries c.peek.ensures.own c.offset-in-Local.ensures.value
    ∙ sym (ap (λ (x : Option Mapping). page_after_step step.Done x (page_bytes es o.map.pages) (c.args.v % 4096) c.args.bytes.now q) (maps g here))

pub returns-then-write_shared-clause-hand : goal.returns-then-write_shared-clause-hand
returns-then-write_shared-clause-hand g c =
    let here = (goal.at.returns-then-write_shared-clause-hand g c).In-Local in
    c.if-write_shared.ensures.hand (page g here).0 (there g here) ∙ c.peek.ensures.hand

pub returns-then-write_shared-clause-mappings : goal.returns-then-write_shared-clause-mappings
returns-then-write_shared-clause-mappings g c = λ u le. c.if-write_shared.ensures.mappings u le ∙ moved_shown _ _ _ _ _ _ u c.peek.ensures.entries c.peek.ensures.root c.peek.ensures.own

pub returns-then-write_shared-clause-moves : goal.returns-then-write_shared-clause-moves
returns-then-write_shared-clause-moves g c = moves_trans _ _ _ _ _ _ _ c.peek.ensures.moves c.if-write_shared.ensures.moves

pub returns-else-write_shared-clause-step : goal.returns-else-write_shared-clause-step
returns-else-write_shared-clause-step g c =
    step_ready _ _ _ c.requires.stands.memory (c.args.v / 4096) c.in-Local.frame c.in-Local.rw c.in-Local.shared step.Copying c.peek.ensures.range (sym c.in-Local.ensures.walk) (shared_true c.in-Local.rw c.in-Local.shared c.if-not-shared.false) tt

pub returns-else-write_shared-clause-bytes : goal.returns-else-write_shared-clause-bytes
returns-else-write_shared-clause-bytes g c = λ q.
    let here = (goal.at.returns-else-write_shared-clause-bytes g c).In-Local in
    c.if-write_shared.ensures.bytes (page g here).0 (there g here) q ∙ moved_page _ _ _ _ q c.peek.ensures.entries c.peek.ensures.own

pub returns-else-write_shared-clause-hand : goal.returns-else-write_shared-clause-hand
returns-else-write_shared-clause-hand g c =
    let here = (goal.at.returns-else-write_shared-clause-hand g c).In-Local in
    c.if-write_shared.ensures.hand (page g here).0 (there g here)
    ∙ ap (λ (k : ℕ). held_write (page g here).0 k c.args.bytes.now) c.offset-in-Local.ensures.value
    ∙ sym (ap (λ (x : Option Mapping). hand_after_step step.Copying x (c.args.v % 4096) c.args.bytes.now c.args.self.now.hand) (maps g here))

pub returns-else-write_shared-clause-met : goal.returns-else-write_shared-clause-met
returns-else-write_shared-clause-met g c = λ e h. c.if-write_shared.ensures.met refl h

pub returns-else-write_shared-clause-mappings : goal.returns-else-write_shared-clause-mappings
returns-else-write_shared-clause-mappings g c = λ u le. c.if-write_shared.ensures.mappings u le ∙ moved_shown _ _ _ _ _ _ u c.peek.ensures.entries c.peek.ensures.root c.peek.ensures.own

pub returns-else-write_shared-clause-moves : goal.returns-else-write_shared-clause-moves
returns-else-write_shared-clause-moves g c = moves_trans _ _ _ _ _ _ _ c.peek.ensures.moves c.if-write_shared.ensures.moves

pub returns-then-rw-clause-leaves : goal.returns-then-rw-clause-leaves
returns-then-rw-clause-leaves g c = λ i l. c.write_frame.ensures.leaves i l ∙ c.peek.ensures.leaves i l

pub returns-then-write_shared-clause-leaves : goal.returns-then-write_shared-clause-leaves
returns-then-write_shared-clause-leaves g c = λ i l. c.write_shared.ensures.leaves i l ∙ c.peek.ensures.leaves i l

pub returns-else-write_shared-clause-leaves : goal.returns-else-write_shared-clause-leaves
returns-else-write_shared-clause-leaves g c = λ i l. c.write_shared.ensures.leaves i l ∙ c.peek.ensures.leaves i l

pub returns-then-rw-clause-alone : goal.returns-then-rw-clause-alone
returns-then-rw-clause-alone g c = λ t.
    let m = c.requires.stands.memory in
    let here = (goal.at.returns-then-rw-clause-alone g c).In-Local in
    let sole = local_sole _ _ _ m (c.args.v / 4096) c.in-Local.frame c.in-Local.rw c.in-Local.shared c.peek.ensures.range (sym c.in-Local.ensures.walk) c.if-rw.true in
    subst (λ (x : Option Mapping). IfSome x (λ to. is_marked c.write_frame.new.self.own to.pfn ≡ true)) (sym (maps g here))
    (ap (λ (k : Own). is_marked k (page g here).0) (c.write_frame.ensures.own ∙ c.peek.ensures.own) ∙ (m.made.sole (page g here).0 c.in-Local.frame (page g here).1).1 sole)

pub returns-then-write_shared-clause-alone : goal.returns-then-write_shared-clause-alone
returns-then-write_shared-clause-alone g c = λ t.
    let here = (goal.at.returns-then-write_shared-clause-alone g c).In-Local in
    subst (λ (x : Option Mapping). IfSome x (λ to. is_marked c.write_shared.new.self.own to.pfn ≡ true)) (sym (maps g here)) (c.if-write_shared.ensures.alone refl (page g here).0 (there g here))

pub returns-else-write_shared-clause-shared : goal.returns-else-write_shared-clause-shared
returns-else-write_shared-clause-shared g c = λ t.
    let W = g.P.FramePool.world in
    let here = (goal.at.returns-else-write_shared-clause-shared g c).In-Local in
    subst (λ (x : Option Mapping). IfSome x (λ to. IsSharedPage W c.args.pool.now c.args.self.now to.pfn)) (sym (maps g here))
    (shared_before W c.args.pool.now c.args.self.now c.peek.new.pool c.peek.new.self (page g here).0 c.peek.ensures.counts.told c.peek.ensures.own (c.if-write_shared.ensures.shared refl (page g here).0 (there g here)))

pub returns-else-write_shared-clause-own : goal.returns-else-write_shared-clause-own
returns-else-write_shared-clause-own g c = λ t. c.if-write_shared.ensures.own refl ∙ c.peek.ensures.own
