use Rattle.std.proofs.Common.{◌≡◌, ◌<◌, ◌&&◌, ◌==◌, not, ℕ, Bool, true, false, Some, None, List, sym, ap, ◌∙◌, arith}
use Rattle.std.specs.declared.option.Option.{Option}
use Rattle.neph_pool.specs.declared.entry.Entry.{Entry}
use Rattle.neph_pool.specs.declared.entry.Hold.{Hold}
use Rattle.neph_pool.specs.Entries.{hold_at, is_here}
use Rattle.neph_pool.specs.Names.{IsApart, only_name, without_name}
use Rattle.neph_pool.specs.Plain.{plain_names}
use Rattle.neph_pool.proofs.Parts.{hold_at-nothing}
use Rattle.neph_pool.proofs.tests.seats_are_joined.Goals as goal

gone_name : (a b : Bool) → b ≡ true → (a && not b) ≡ true → ⊥
gone_name true true e h = cc
gone_name false b e h = cc
gone_name true false e h = cc

fresh_apart : (ns ms ks : ℕ → Bool) (d : ℕ) → ms ≡ without_name ns d → ks ≡ only_name d → IsApart ms ks
fresh_apart ns ms ks d m k e a b = gone_name (ns e) (e == d) (ap (λ (f : ℕ → Bool). f e) (sym k) ∙ b) (ap (λ (f : ℕ → Bool). f e) (sym m) ∙ a)

none_here : (h : Option Hold) → h ≡ None → is_here h ≡ true → ⊥
none_here None e y = cc
none_here (Some h) e y = cc

pub fresh-requires-clause-names : goal.fresh-requires-clause-names
fresh-requires-clause-names g c =
    let small : c.in_ok-d.d < 64 = omega (arith, c.get.ensures.value, c.get.ensures.range) in
    (c.in_ok-pool.ensures.names 0 (omega arith), c.in_ok-pool.ensures.names c.in_ok-d.d small)

pub join-requires-clause-apart : goal.join-requires-clause-apart
join-requires-clause-apart g c = fresh_apart (plain_names c.in_ok-pool.s) (plain_names c.fresh.new.s) (plain_names c.in_ok-t.t) c.in_ok-d.d c.in_ok-t.ensures.names c.in_ok-t.ensures.new.names

pub join-requires-clause-whole : goal.join-requires-clause-whole
join-requires-clause-whole g c = λ f here.
    absurd (none_here _ (ap (λ (es : List (Option Entry)). hold_at es f) c.in_ok-t.ensures.new.entries ∙ hold_at-nothing _ f) here)
