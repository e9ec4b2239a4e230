-- Where nothing is closed first.
use Rattle.std.proofs.Common.{◌≡◌, ◌≢◌, ◌==◌, ◌+◌, ◌*◌, ℕ, Bool, true, false, cond, inl, inr, Option, Some, None, option_map, refl, sym, ap, subst, ◌∙◌, arith}
use Rattle.std.proofs.lemmas.Bool.{eqb-true}
use Rattle.std.proofs.lemmas.Bool.Decides.{eqb_tells}
use Rattle.std.specs.FinMap as map
use Rattle.neph_evt.specs.declared.port.Channel.{Channel}
use Rattle.neph_evt.specs.declared.port.Channel.TheVariants.{Unbound, Inter, Wild}
use Rattle.neph_evt.specs.declared.port.EventPort.{EventPort}
use Rattle.neph_evt.specs.PortMap.{PortMap, bound_port}
use Rattle.neph_evt.specs.Pairing.{channel_of, IsOtherEnd, IsPaired}
use Rattle.neph_evt.specs.Opening.{AllClosed}
use Rattle.neph_evt.specs.Sending.{zero_port}
use Rattle.neph_evt.specs.Closing.{after_close, port_after_end, after_end}
use Rattle.neph_evt.specs.Cloning.{IsFresh, with_link, with_pair, with_links, with_device, after_start, with_child, after_clone}
use Rattle.neph_evt.proofs.Keys.{Apart, get_set_other, same_ports}
use Rattle.neph_evt.proofs.Changes.{get_end_own, get_end_other}
use Rattle.neph_evt.proofs.Pairs.{paired_pair}
use Rattle.neph_evt.proofs.Columns.{close_closed}

-- an end of a domain without ports
end_on : (dom a b : ℕ) (pending : Bool) (s : Bool) → (a == dom) ≡ s → ((n : ℕ) → Some (Inter a b) ≡ Some (Inter dom n) → ⊥)
    → ◌≡◌ {A = Option EventPort} (Some (cond s (record { channel = Unbound dom; pending = pending }) (record { channel = Inter a b; pending = pending }))) (Some (record { channel = Inter a b; pending = pending }))
end_on dom a b pending true es ne = absurd (ne b (ap (λ (x : ℕ). Some (Inter x b)) (eqb-true a dom es)))
end_on dom a b pending false es ne = refl

end_fixed : (dom : ℕ) (x : Option EventPort) → ((n : ℕ) → channel_of x ≡ Some (Inter dom n) → ⊥) → option_map (port_after_end dom) x ≡ x
end_fixed dom None ne = refl
end_fixed dom (Some port) ne = by port.channel port.pending ne
  where
    by : (c : Channel) (pending : Bool) → ((n : ℕ) → Some c ≡ Some (Inter dom n) → ⊥) → option_map (port_after_end dom) (Some (record { channel = c; pending = pending })) ≡ Some (record { channel = c; pending = pending })
    by (Unbound who) pending ne = refl
    by Wild pending ne = refl
    by (Inter a b) pending ne = end_on dom a b pending (a == dom) refl ne

pub end_of_none : (m : PortMap) (dom : ℕ) → IsPaired m → AllClosed m dom → after_end m dom ≡ m
end_of_none m dom paired none = same_ports _ _ (λ d n. elim (eqb_tells d dom) [
  | inl e ↦ ap (λ (x : ℕ). map.get (after_end m dom) (x, n)) e.1 ∙ get_end_own m dom n ∙ sym (none n) ∙ ap (λ (x : ℕ). map.get m (x, n)) (sym e.1)
  | inr ne ↦ get_end_other m dom d n ne.1 ∙ end_fixed dom (map.get m (d, n)) (λ k bound. subst (IsOtherEnd d n k) (ap channel_of (none k)) (paired d n dom k bound))
])

pub clone_of_none : (m : PortMap) (parent child : ℕ) → IsPaired m → AllClosed m child → after_clone m parent child ≡ with_child parent child m
clone_of_none m parent child paired none = ap (with_child parent child) (end_of_none m child paired none)

-- two closed ports
pub pair_of_none : (m : PortMap) (a p b q : ℕ) → IsPaired m → map.get m (a, p) ≡ None → map.get m (b, q) ≡ None → with_pair m a p b q ≡ with_link m a p b q
unfolding with_pair
pair_of_none m a p b q paired none none' =
    let one : after_close m a p ≡ m = sym (close_closed m a p paired none) in
    let both : after_close (after_close m a p) b q ≡ m = ap (λ (n : PortMap). after_close n b q) one ∙ sym (close_closed m b q paired none') in
    ap (λ (n : PortMap). with_link n a p b q) both

get_link : (m : PortMap) (a p b q d n : ℕ) → Apart (d, n) (a, p) → Apart (d, n) (b, q) → map.get (with_link m a p b q) (d, n) ≡ map.get m (d, n)
get_link m a p b q d n ne ne' = get_set_other (map.insert m (a, p) (bound_port b q)) b q (Some (bound_port a p)) (d, n) ne' ∙ get_set_other m a p (Some (bound_port b q)) (d, n) ne

-- Dom0's port and a guest's are two
guest_apart : (dom n k : ℕ) → dom ≢ 0 → Apart (dom, n) (0, k)
guest_apart dom n k guest e = guest (ap (λ (x : ℕ × ℕ). x.0) e)

number_apart : (dom n k : ℕ) → n ≢ k → Apart (dom, n) (dom, k)
number_apart dom n k ne e = ne (ap (λ (x : ℕ × ℕ). x.1) e)

link_keeps : (m : PortMap) (dom kind other : ℕ) → dom ≢ 0 → other ≢ kind → map.get m (dom, other) ≡ None → map.get m (0, zero_port dom other) ≡ None
    → (map.get (with_link m dom kind 0 (zero_port dom kind)) (dom, other) ≡ None) × (map.get (with_link m dom kind 0 (zero_port dom kind)) (0, zero_port dom other) ≡ None)
link_keeps m dom kind other guest ne none none' = (
  get_link m dom kind 0 (zero_port dom kind) dom other (number_apart dom other kind ne) (guest_apart dom other (zero_port dom kind) guest) ∙ none,
  get_link m dom kind 0 (zero_port dom kind) 0 (zero_port dom other) (λ e. guest_apart dom kind (zero_port dom other) guest (sym e)) (number_apart 0 (zero_port dom other) (zero_port dom kind) (λ (e : 4 * dom + other ≡ 4 * dom + kind). ne (omega arith))) ∙ none',
)

pub start_fresh : (m : PortMap) (dom : ℕ) → dom ≢ 0 → IsPaired m → IsFresh m dom → after_start m dom ≡ with_links dom m
start_fresh m dom guest paired fresh =
    let m1 = with_device dom 1 m in
    let m2 = with_device dom 2 m1 in
    let l1 = with_link m dom 1 0 (zero_port dom 1) in
    let l2 = with_link l1 dom 2 0 (zero_port dom 2) in
    let e1 : m1 ≡ l1 = pair_of_none m dom 1 0 (zero_port dom 1) paired (fresh.own 1) (fresh.zero 1 (omega arith) (omega arith)) in
    let p1 : IsPaired l1 = subst IsPaired e1 (paired_pair m dom 1 0 (zero_port dom 1) paired) in
    let k2 = link_keeps m dom 1 2 guest (λ (e : 2 ≡ 1). omega arith) (fresh.own 2) (fresh.zero 2 (omega arith) (omega arith)) in
    let k3 = link_keeps m dom 1 3 guest (λ (e : 3 ≡ 1). omega arith) (fresh.own 3) (fresh.zero 3 (omega arith) (omega arith)) in
    let e2 : m2 ≡ l2 = ap (with_device dom 2) e1 ∙ pair_of_none l1 dom 2 0 (zero_port dom 2) p1 k2.0 k2.1 in
    let p2 : IsPaired l2 = subst IsPaired (pair_of_none l1 dom 2 0 (zero_port dom 2) p1 k2.0 k2.1) (paired_pair l1 dom 2 0 (zero_port dom 2) p1) in
    let q3 = link_keeps l1 dom 2 3 guest (λ (e : 3 ≡ 2). omega arith) k3.0 k3.1 in
    ap (with_device dom 3) e2 ∙ pair_of_none l2 dom 3 0 (zero_port dom 3) p2 q3.0 q3.1
