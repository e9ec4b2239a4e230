use Rattle.std.proofs.Common.{◌≡◌, ◌<◌, ◌&&◌, ◌==◌, not, ℕ, Bool, true, false, List, refl, sym, ap, ◌∙◌, arith, eq-eqb}
use Rattle.std.specs.declared.option.Option.{Option}
use Rattle.neph_pool.specs.declared.entry.Entry.{Entry}
use Rattle.neph_pool.specs.Entries.{hold_at, weight_of}
use Rattle.neph_pool.specs.Names.{IsApart, only_name, without_name}
use Rattle.neph_pool.specs.Rows.{blank_entry}
use Rattle.neph_pool.specs.Plain.{plain_names}
use Rattle.neph_pool.proofs.Parts.{hold_at-replicate}
use Rattle.neph_pool.proofs.tests.frames_are_lent.Goals as goal

gone_name : (a b : Bool) → b ≡ true → (a && not b) ≡ true → ⊥
gone_name true true e h = cc
gone_name false b e h = cc
gone_name true false e h = cc

-- the new seat's name is no longer the other's
fresh_apart : (ns ms ks : ℕ → Bool) (d : ℕ) → ms ≡ without_name ns d → ks ≡ only_name d → IsApart ms ks
fresh_apart ns ms ks d m k e a b = gone_name (ns e) (e == d) (ap (λ (f : ℕ → Bool). f e) (sym k) ∙ b) (ap (λ (f : ℕ → Bool). f e) (sym m) ∙ a)

pub share_out-requires-clause-frame : goal.share_out-requires-clause-frame
unfolding blank_entry
share_out-requires-clause-frame g c =
    let start = c.in_ok-pool.ensures in
    let small : c.in_ok-f.f < 16 = omega (arith, c.get.ensures.value) in
    ap (λ (es : List (Option Entry)). hold_at es c.in_ok-f.f) start.entries ∙ hold_at-replicate 16 c.in_ok-f.f blank_entry small

pub fresh-requires-clause-names : goal.fresh-requires-clause-names
fresh-requires-clause-names g c =
    let start = c.in_ok-pool.ensures in
    let names = c.share_out.ensures.moves.names in
    let small : c.in_ok-d.d < 64 = omega (arith, c.get-2.ensures.value, c.get-2.ensures.range) in
    (ap (λ (f : ℕ → Bool). f 0) names ∙ start.names 0 (omega arith), ap (λ (f : ℕ → Bool). f c.in_ok-d.d) names ∙ start.names c.in_ok-d.d small)

pub lend-requires-clause-t : goal.lend-requires-clause-t
lend-requires-clause-t g c = (c.in_ok-t.ensures.new.fits, ap (λ (f : ℕ → Bool). f c.in_ok-d.d) c.in_ok-t.ensures.new.names ∙ eq-eqb c.in_ok-d.d c.in_ok-d.d refl)

pub lend-requires-clause-apart : goal.lend-requires-clause-apart
lend-requires-clause-apart g c = fresh_apart (plain_names c.share_out.new.s) (plain_names c.fresh.new.s) (plain_names c.in_ok-t.t) c.in_ok-d.d c.in_ok-t.ensures.names c.in_ok-t.ensures.new.names

pub give_up-requires-2-clause-seat : goal.give_up-requires-2-clause-seat
give_up-requires-2-clause-seat g c = (c.give_up.ensures.moves.others.fits c.lend.new.s c.lend.ensures.s.0 c.lend.ensures.apart, c.lend.ensures.s.1)

pub give_up-requires-2-clause-frame : goal.give_up-requires-2-clause-frame
give_up-requires-2-clause-frame g c =
    ap (λ (es : List (Option Entry)). weight_of (hold_at es c.in_ok-f.f)) (c.give_up.ensures.moves.others.entries c.lend.new.s c.lend.ensures.s.0 c.lend.ensures.apart) ∙ c.lend.ensures.given
