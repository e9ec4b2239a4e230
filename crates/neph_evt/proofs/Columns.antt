-- Changes of a few ports that are changes of all.
use Rattle.std.proofs.Common.{◌≡◌, ◌≢◌, ◌==◌, ◌&&◌, ◌+◌, ◌<◌, ◌≤◌, ℕ, Bool, true, false, not, cond, ◌⊎◌, inl, inr, Option, Some, None, option_map, refl, sym, ap, subst, ◌∙◌, arith}
use Rattle.std.proofs.lemmas.Bool.{eqb-true}
use Rattle.std.proofs.lemmas.Bool.Decides.{eqb_tells}
use Rattle.std.specs.FinMap as map
use Rattle.neph_evt.specs.declared.port.Channel.{Channel}
use Rattle.neph_evt.specs.declared.port.Channel.TheVariants.{Unbound, Inter, Wild}
use Rattle.neph_evt.specs.declared.port.EventPort.{EventPort}
use Rattle.neph_evt.specs.PortMap.{PortMap, IsWithin, with_port, with_each_port}
use Rattle.neph_evt.specs.Pairing.{channel_of, channel_at, IsOtherEnd, IsPaired}
use Rattle.neph_evt.specs.Closing.{port_after_close, after_close}
use Rattle.neph_evt.specs.Sending.{port_after_send}
use Rattle.neph_evt.proofs.Keys.{Apart, key_or_not, get_set_same, get_set_other, same_ports}
use Rattle.neph_evt.proofs.Changes.{get_each, get_close_same, get_close_other}
use Rattle.neph_evt.proofs.PlaceMaps.{low_or_high}

-- a changed port, and the others
pub get_port_same : (m : PortMap) (d n : ℕ) (f : EventPort → EventPort) → map.get (with_port m d n f) (d, n) ≡ option_map f (map.get m (d, n))
get_port_same m d n f = get_set_same m d n _

pub get_port_other : (m : PortMap) (d n : ℕ) (f : EventPort → EventPort) (x k : ℕ) → Apart (x, k) (d, n) → map.get (with_port m d n f) (x, k) ≡ map.get m (x, k)
get_port_other m d n f x k ne = get_set_other m d n _ (x, k) ne

-- no port of the map changes
pub none_is_each : (f : ℕ → EventPort → EventPort) (m : PortMap) → ((d n : ℕ) → option_map (f d) (map.get m (d, n)) ≡ map.get m (d, n)) → m ≡ with_each_port f m
none_is_each f m h = same_ports _ _ (λ d n. sym (h d n) ∙ sym (get_each f m d n))

-- one port of the map changes
pub one_is_each : (f : ℕ → EventPort → EventPort) (m : PortMap) (e q : ℕ) → ((d n : ℕ) → Apart (d, n) (e, q) → option_map (f d) (map.get m (d, n)) ≡ map.get m (d, n)) → with_port m e q (f e) ≡ with_each_port f m
one_is_each f m e q h = same_ports _ _ (λ d n. elim (key_or_not (d, n) (e, q)) [
  | inl k ↦ ap (map.get (with_port m e q (f e))) k ∙ get_port_same m e q (f e) ∙ sym (get_each f m e q) ∙ ap (map.get (with_each_port f m)) (sym k)
  | inr ne ↦ get_port_other m e q (f e) d n ne ∙ sym (h d n ne) ∙ sym (get_each f m d n)
])

-- the ports of a number are changed in all domains below one
pub record ColumnBelow (f : ℕ → EventPort → EventPort) (number dom : ℕ) (old new : PortMap) : Type 0 where
  pub below : (d : ℕ) → d < dom → map.get new (d, number) ≡ option_map (f d) (map.get old (d, number))
  pub above : (d : ℕ) → dom ≤ d → map.get new (d, number) ≡ map.get old (d, number)
  pub beside : (d n : ℕ) → n ≢ number → map.get new (d, n) ≡ map.get old (d, n)

abbrev snd : ℕ × ℕ → ℕ
snd k = k.1

abbrev fst : ℕ × ℕ → ℕ
fst k = k.0

below_or_at : (k at : ℕ) → k < at + 1 → (k < at) ⊎ (k ≡ at)
below_or_at k at l = elim (low_or_high k at) [ inl lt ↦ inl lt | inr le ↦ inr (omega arith) ]

pub column_next : (f : ℕ → EventPort → EventPort) (number dom : ℕ) (old new : PortMap) → ColumnBelow f number dom old new → ColumnBelow f number (dom + 1) old (with_port new dom number (f dom))
column_next f number dom old new h = record {
  below = λ d l. elim (below_or_at d dom l) [
    | inl lt ↦ get_port_other new dom number (f dom) d number (λ k. let e : d ≡ dom = ap fst k in omega arith) ∙ h.below d lt
    | inr e ↦ ap (λ (x : ℕ). map.get (with_port new dom number (f dom)) (x, number)) e ∙ get_port_same new dom number (f dom)
        ∙ ap (option_map (f dom)) (h.above dom (omega arith)) ∙ ap (λ (x : ℕ). option_map (f x) (map.get old (x, number))) (sym e)
  ];
  above = λ d l. get_port_other new dom number (f dom) d number (λ k. let e : d ≡ dom = ap fst k in omega arith) ∙ h.above d (omega arith);
  beside = λ d n ne. get_port_other new dom number (f dom) d n (λ k. ne (ap snd k)) ∙ h.beside d n ne;
}

pub column_none : (f : ℕ → EventPort → EventPort) (number : ℕ) (m : PortMap) → ColumnBelow f number 0 m m
column_none f number m = record { below = λ d l. absurd (omega arith); above = λ d l. refl; beside = λ d n ne. refl }

-- Dom0's is left as it was
pub column_zero : (f : ℕ → EventPort → EventPort) (number : ℕ) (m : PortMap) → ((x : Option EventPort) → option_map (f 0) x ≡ x) → ColumnBelow f number 1 m m
column_zero f number m h = record {
  below = λ d l. let e : d ≡ 0 = omega arith in subst (λ (x : ℕ). map.get m (x, number) ≡ option_map (f x) (map.get m (x, number))) (sym e) (sym (h (map.get m (0, number))));
  above = λ d l. refl;
  beside = λ d n ne. refl;
}

pub column_is_each : (f : ℕ → EventPort → EventPort) (number : ℕ) (old new : PortMap) → ColumnBelow f number 64 old new → IsWithin old → ((d n : ℕ) → n ≢ number → option_map (f d) (map.get old (d, n)) ≡ map.get old (d, n)) → new ≡ with_each_port f old
column_is_each f number old new h within fixed = same_ports _ _ (λ d n. elim (eqb_tells n number) [
  | inl e ↦ ap (λ (k : ℕ). map.get new (d, k)) e.1 ∙ elim (low_or_high d 64) [
    | inl lt ↦ h.below d lt
    | inr le ↦ h.above d le ∙ within.domains d number le ∙ sym (ap (option_map (f d)) (within.domains d number le))
  ] ∙ sym (get_each f old d number) ∙ ap (λ (k : ℕ). map.get (with_each_port f old) (d, k)) (sym e.1)
  | inr ne ↦ h.beside d n ne.1 ∙ sym (fixed d n ne.1) ∙ sym (get_each f old d n)
])

-- a port that isn't bound to the closed one stays
left_on : (dom number a b : ℕ) (pending : Bool) (s t : Bool) → (a == dom) ≡ s → (b == number) ≡ t → (Some (Inter a b) ≡ Some (Inter dom number) → ⊥)
    → ◌≡◌ {A = Option EventPort} (Some (cond (s && t) (record { channel = Unbound dom; pending = pending }) (record { channel = Inter a b; pending = pending }))) (Some (record { channel = Inter a b; pending = pending }))
left_on dom number a b pending true true es et ne = absurd (ne (let x = eqb-true a dom es in let y = eqb-true b number et in λ i. Some (Inter (x i) (y i))))
left_on dom number a b pending true false es et ne = refl
left_on dom number a b pending false t es et ne = refl

pub left_fixed : (dom number : ℕ) (x : Option EventPort) → (channel_of x ≡ Some (Inter dom number) → ⊥) → option_map (port_after_close dom number) x ≡ x
left_fixed dom number None ne = refl
left_fixed dom number (Some port) ne = by port.channel port.pending ne
  where
    by : (c : Channel) (pending : Bool) → (Some c ≡ Some (Inter dom number) → ⊥) → option_map (port_after_close dom number) (Some (record { channel = c; pending = pending })) ≡ Some (record { channel = c; pending = pending })
    by (Unbound who) pending ne = refl
    by Wild pending ne = refl
    by (Inter a b) pending ne = left_on dom number a b pending (a == dom) (b == number) refl refl ne

event_on : (dom number at a b : ℕ) (pending : Bool) (r s t : Bool) → (a == dom) ≡ s → (b == number) ≡ t → (Some (Inter a b) ≡ Some (Inter dom number) → ⊥)
    → ◌≡◌ {A = Option EventPort} (Some (cond (r && (s && t)) (record { channel = Inter a b; pending = true }) (record { channel = Inter a b; pending = pending }))) (Some (record { channel = Inter a b; pending = pending }))
event_on dom number at a b pending false s t es et ne = refl
event_on dom number at a b pending true true true es et ne = absurd (ne (let x = eqb-true a dom es in let y = eqb-true b number et in λ i. Some (Inter (x i) (y i))))
event_on dom number at a b pending true true false es et ne = refl
event_on dom number at a b pending true false t es et ne = refl

unchanged : (r : Bool) (c : Channel) (pending : Bool) → ◌≡◌ {A = Option EventPort} (Some (cond (r && false) (record { channel = c; pending = true }) (record { channel = c; pending = pending }))) (Some (record { channel = c; pending = pending }))
unchanged true c pending = refl
unchanged false c pending = refl

-- a port that isn't bound to the wildcard stays
pub event_fixed : (dom number at : ℕ) (x : Option EventPort) → (channel_of x ≡ Some (Inter dom number) → ⊥) → option_map (port_after_send dom number at) x ≡ x
event_fixed dom number at None ne = refl
event_fixed dom number at (Some port) ne = by port.channel port.pending ne
  where
    by : (c : Channel) (pending : Bool) → (Some c ≡ Some (Inter dom number) → ⊥) → option_map (port_after_send dom number at) (Some (record { channel = c; pending = pending })) ≡ Some (record { channel = c; pending = pending })
    by (Unbound who) pending ne = unchanged (not (at == 0)) (Unbound who) pending
    by Wild pending ne = unchanged (not (at == 0)) Wild pending
    by (Inter a b) pending ne = event_on dom number at a b pending (not (at == 0)) (a == dom) (b == number) refl refl ne

pub event_zero : (dom number : ℕ) (x : Option EventPort) → option_map (port_after_send dom number 0) x ≡ x
event_zero dom number None = refl
event_zero dom number (Some port) = refl

-- whom a port of this kind can have at its other end
pub end_of_inter : (m : PortMap) (dom number e q d n : ℕ) → IsPaired m → channel_at m dom number ≡ Some (Inter e q) → channel_at m d n ≡ Some (Inter dom number) → (e ≡ d) × (q ≡ n)
end_of_inter m dom number e q d n paired is bound = subst (IsOtherEnd d n number) is (paired d n dom number bound)

pub end_of_unbound : (m : PortMap) (dom number who d n : ℕ) → IsPaired m → channel_at m dom number ≡ Some (Unbound who) → channel_at m d n ≡ Some (Inter dom number) → ⊥
end_of_unbound m dom number who d n paired is bound = subst (IsOtherEnd d n number) is (paired d n dom number bound)

pub end_of_closed : (m : PortMap) (dom number d n : ℕ) → IsPaired m → channel_at m dom number ≡ None → channel_at m d n ≡ Some (Inter dom number) → ⊥
end_of_closed m dom number d n paired is bound = subst (IsOtherEnd d n number) is (paired d n dom number bound)

pub end_of_wild : (m : PortMap) (dom number d n : ℕ) → IsPaired m → channel_at m dom number ≡ Some Wild → channel_at m d n ≡ Some (Inter dom number) → number ≡ n
end_of_wild m dom number d n paired is bound = subst (IsOtherEnd d n number) is (paired d n dom number bound)

-- closing: the other ends are left, and then the port is closed
pub close_is : (m : PortMap) (dom number : ℕ) → map.remove (with_each_port (λ at. port_after_close dom number) m) (dom, number) ≡ after_close m dom number
close_is m dom number = same_ports _ _ (λ d n. elim (key_or_not (d, n) (dom, number)) [
  | inl k ↦ ap (map.get (map.remove (with_each_port (λ at. port_after_close dom number) m) (dom, number))) k ∙ get_set_same (with_each_port (λ at. port_after_close dom number) m) dom number None
      ∙ sym (get_close_same m dom number) ∙ ap (map.get (after_close m dom number)) (sym k)
  | inr ne ↦ get_set_other (with_each_port (λ at. port_after_close dom number) m) dom number None (d, n) ne ∙ get_each (λ at. port_after_close dom number) m d n ∙ sym (get_close_other m dom number d n ne)
])

-- a closed port can be closed again
pub close_closed : (m : PortMap) (dom number : ℕ) → IsPaired m → map.get m (dom, number) ≡ None → m ≡ after_close m dom number
close_closed m dom number paired none = same_ports _ _ (λ d n. elim (key_or_not (d, n) (dom, number)) [
  | inl k ↦ ap (map.get m) k ∙ none ∙ sym (get_close_same m dom number) ∙ ap (map.get (after_close m dom number)) (sym k)
  | inr ne ↦ sym (left_fixed dom number (map.get m (d, n)) (end_of_closed m dom number d n paired (ap channel_of none))) ∙ sym (get_close_other m dom number d n ne)
])

pub same_insert : {m m' : PortMap} {d d' : ℕ} {x x' : EventPort} (n : ℕ) → m ≡ m' → d ≡ d' → x ≡ x' → map.insert m (d, n) x ≡ map.insert m' (d', n) x'
same_insert n e f g = λ i. map.insert (e i) (f i, n) (g i)
