-- Each bound port keeps its other end.
use Rattle.std.proofs.Common.{◌≡◌, ◌≢◌, ◌==◌, ◌&&◌, ℕ, Bool, true, false, cond, inl, inr, Option, Some, None, option_map, refl, sym, ap, subst, ◌∙◌, eq-eqb}
use Rattle.std.proofs.lemmas.Bool.{eqb-true}
use Rattle.std.proofs.lemmas.Bool.Decides.{eqb_tells}
use Rattle.std.specs.Option.{option_and_then}
use Rattle.std.specs.FinMap as map
use Rattle.std.specs.FinMap.{get-empty}
use Rattle.neph_evt.specs.declared.port.Channel.{Channel}
use Rattle.neph_evt.specs.declared.port.Channel.TheVariants.{Unbound, Inter, Wild}
use Rattle.neph_evt.specs.declared.port.EventPort.{EventPort}
use Rattle.neph_evt.specs.PortMap.{PortMap, port_cmp, bound_port}
use Rattle.neph_evt.specs.Pairing.{channel_of, channel_at, IsOtherEnd, IsPaired}
use Rattle.neph_evt.specs.Closing.{port_after_close, after_close, port_after_end, after_end}
use Rattle.neph_evt.specs.Cloning.{port_of_child, with_child, after_clone, with_pair}
use Rattle.neph_evt.proofs.Keys.{Apart, key_or_not, get_set_same, get_set_other}
use Rattle.neph_evt.proofs.Changes.{get_close_same, get_close_other, get_end_own, get_end_other, get_child_own, get_child_other, child_port}

abbrev pub IsInter : Option Channel → ℕ → ℕ → Type 0
IsInter x d n = x ≡ Some (Inter d n)

-- nothing can be bound to such a port
abbrev pub IsFree : Option Channel → Type 0
IsFree None = Unit {0}
IsFree (Some (Unbound who)) = Unit {0}
IsFree (Some (Inter d n)) = ⊥
IsFree (Some Wild) = ⊥

free_end : (d n k : ℕ) (x : Option Channel) → IsFree x → IsOtherEnd d n k x → ⊥
free_end d n k None f h = h
free_end d n k (Some (Unbound who)) f h = h
free_end d n k (Some (Inter e q)) f h = f
free_end d n k (Some Wild) f h = f

pub paired_empty : IsPaired map.empty
paired_empty d n e q h = absurd (none (ap channel_of (sym (get-empty port_cmp (d, n))) ∙ h))
  where
    none : None ≡ Some (Inter e q) → ⊥
    none = λ h. cc

-- only what ports are bound to counts
pub paired_same : (m m' : PortMap) → ((d n : ℕ) → channel_at m' d n ≡ channel_at m d n) → IsPaired m → IsPaired m'
paired_same m m' same h d n e q is = subst (IsOtherEnd d n q) (sym (same e q)) (h d n e q (sym (same d n) ∙ is))

-- a free port changes, to one that isn't bound
pub paired_free : (m m' : PortMap) (a p : ℕ) → IsFree (channel_at m a p) → ((d n : ℕ) → channel_at m' a p ≡ Some (Inter d n) → ⊥)
    → ((d n : ℕ) → Apart (d, n) (a, p) → channel_at m' d n ≡ channel_at m d n) → IsPaired m → IsPaired m'
paired_free m m' a p free new same h d n e q is = elim (key_or_not (d, n) (a, p)) [
  | inl k ↦ absurd (new e q (ap (λ (x : ℕ × ℕ). channel_at m' x.0 x.1) (sym k) ∙ is))
  | inr ne ↦
      let old = h d n e q (sym (same d n ne) ∙ is) in
      elim (key_or_not (e, q) (a, p)) [
        | inl k ↦ absurd (free_end d n q (channel_at m a p) free (subst (IsOtherEnd d n q) (ap (λ (x : ℕ × ℕ). channel_at m x.0 x.1) k) old))
        | inr apart ↦ subst (IsOtherEnd d n q) (sym (same e q apart)) old
      ]
]

inter_same : (a b c d : ℕ) → Some (Inter a b) ≡ Some (Inter c d) → (a ≡ c) × (b ≡ d)
inter_same a b c d h = (cc, cc)

-- two free ports are bound to each other
pub paired_linked : (m m' : PortMap) (a p b q : ℕ) → IsFree (channel_at m a p) → IsFree (channel_at m b q)
    → channel_at m' a p ≡ Some (Inter b q) → channel_at m' b q ≡ Some (Inter a p)
    → ((d n : ℕ) → Apart (d, n) (a, p) → Apart (d, n) (b, q) → channel_at m' d n ≡ channel_at m d n) → IsPaired m → IsPaired m'
paired_linked m m' a p b q free free' new new' same h d n e r is = elim (key_or_not (d, n) (a, p)) [
  | inl k ↦
      let ends = inter_same b q e r (sym new ∙ ap (λ (x : ℕ × ℕ). channel_at m' x.0 x.1) (sym k) ∙ is) in
      subst (IsOtherEnd d n r) (sym new' ∙ (λ i. channel_at m' (ends.0 i) (ends.1 i))) (ap (λ (x : ℕ × ℕ). x.0) (sym k), ap (λ (x : ℕ × ℕ). x.1) (sym k))
  | inr ne ↦ elim (key_or_not (d, n) (b, q)) [
    | inl k ↦
        let ends = inter_same a p e r (sym new' ∙ ap (λ (x : ℕ × ℕ). channel_at m' x.0 x.1) (sym k) ∙ is) in
        subst (IsOtherEnd d n r) (sym new ∙ (λ i. channel_at m' (ends.0 i) (ends.1 i))) (ap (λ (x : ℕ × ℕ). x.0) (sym k), ap (λ (x : ℕ × ℕ). x.1) (sym k))
    | inr ne' ↦
        let old = h d n e r (sym (same d n ne ne') ∙ is) in
        elim (key_or_not (e, r) (a, p)) [
          | inl k ↦ absurd (free_end d n r (channel_at m a p) free (subst (IsOtherEnd d n r) (ap (λ (x : ℕ × ℕ). channel_at m x.0 x.1) k) old))
          | inr apart ↦ elim (key_or_not (e, r) (b, q)) [
            | inl k ↦ absurd (free_end d n r (channel_at m b q) free' (subst (IsOtherEnd d n r) (ap (λ (x : ℕ × ℕ). channel_at m x.0 x.1) k) old))
            | inr apart' ↦ subst (IsOtherEnd d n r) (sym (same e r apart apart')) old
          ]
        ]
  ]
]

-- closing
-- a port that is bound after a close was so before, and not to the closed one
left_inter_on : (dom number a b e q : ℕ) (pending : Bool) (s t : Bool) → (a == dom) ≡ s → (b == number) ≡ t
    → channel_of (Some (cond (s && t) (record { channel = Unbound dom; pending = pending }) (record { channel = Inter a b; pending = pending }))) ≡ Some (Inter e q)
    → (Some (Inter a b) ≡ Some (Inter e q)) × Apart (e, q) (dom, number)
left_inter_on dom number a b e q pending true true es et h = absurd (differ h)
  where
    differ : Some (Unbound dom) ≡ Some (Inter e q) → ⊥
    differ = λ h. cc
left_inter_on dom number a b e q pending true false es et h = (h, λ k. untrue (sym et ∙ eq-eqb b number ((inter_same a b e q h).1 ∙ ap (λ (x : ℕ × ℕ). x.1) k)))
  where
    untrue : false ≡ true → ⊥
    untrue = λ h. cc
left_inter_on dom number a b e q pending false t es et h = (h, λ k. untrue (sym es ∙ eq-eqb a dom ((inter_same a b e q h).0 ∙ ap (λ (x : ℕ × ℕ). x.0) k)))
  where
    untrue : false ≡ true → ⊥
    untrue = λ h. cc

left_inter : (dom number e q : ℕ) (x : Option EventPort) → channel_of (option_map (port_after_close dom number) x) ≡ Some (Inter e q) → (channel_of x ≡ Some (Inter e q)) × Apart (e, q) (dom, number)
left_inter dom number e q None h = cc
left_inter dom number e q (Some port) h = by port.channel port.pending h
  where
    by : (c : Channel) (pending : Bool) → channel_of (option_map (port_after_close dom number) (Some (record { channel = c; pending = pending }))) ≡ Some (Inter e q) → (Some c ≡ Some (Inter e q)) × Apart (e, q) (dom, number)
    by (Unbound who) pending h = cc
    by Wild pending h = cc
    by (Inter a b) pending h = left_inter_on dom number a b e q pending (a == dom) (b == number) refl refl h

-- an other end stays one, where it isn't left
left_end_on : (dom number d n a b k : ℕ) (pending : Bool) (s t : Bool) → (a == dom) ≡ s → (b == number) ≡ t → Apart (d, n) (dom, number) → (a ≡ d) × (b ≡ n)
    → IsOtherEnd d n k (channel_of (Some (cond (s && t) (record { channel = Unbound dom; pending = pending }) (record { channel = Inter a b; pending = pending }))))
left_end_on dom number d n a b k pending true true es et ne ends =
    absurd (ne (let x : d ≡ dom = sym ends.0 ∙ eqb-true a dom es in let y : n ≡ number = sym ends.1 ∙ eqb-true b number et in λ i. (x i, y i)))
left_end_on dom number d n a b k pending true false es et ne ends = ends
left_end_on dom number d n a b k pending false t es et ne ends = ends

left_end : (dom number d n k : ℕ) (x : Option EventPort) → Apart (d, n) (dom, number) → IsOtherEnd d n k (channel_of x) → IsOtherEnd d n k (channel_of (option_map (port_after_close dom number) x))
left_end dom number d n k None ne h = h
left_end dom number d n k (Some port) ne h = by port.channel port.pending h
  where
    by : (c : Channel) (pending : Bool) → IsOtherEnd d n k (Some c) → IsOtherEnd d n k (channel_of (option_map (port_after_close dom number) (Some (record { channel = c; pending = pending }))))
    by (Unbound who) pending h = absurd h
    by Wild pending h = h
    by (Inter a b) pending h = left_end_on dom number d n a b k pending (a == dom) (b == number) refl refl ne h

pub paired_close : (m : PortMap) (dom number : ℕ) → IsPaired m → IsPaired (after_close m dom number)
paired_close m dom number h d n e q is = elim (key_or_not (d, n) (dom, number)) [
  | inl k ↦ absurd (closed (ap channel_of (sym (get_close_same m dom number)) ∙ ap (λ (x : ℕ × ℕ). channel_at (after_close m dom number) x.0 x.1) (sym k) ∙ is))
  | inr ne ↦
      let was = left_inter dom number e q (map.get m (d, n)) (ap channel_of (sym (get_close_other m dom number d n ne)) ∙ is) in
      subst (λ x. IsOtherEnd d n q (channel_of x)) (sym (get_close_other m dom number e q was.1)) (left_end dom number d n q (map.get m (e, q)) ne (h d n e q was.0))
]
  where
    closed : None ≡ Some (Inter e q) → ⊥
    closed = λ h. cc

-- an end
left_domain_on : (dom a b e q : ℕ) (pending : Bool) (s : Bool) → (a == dom) ≡ s
    → channel_of (Some (cond s (record { channel = Unbound dom; pending = pending }) (record { channel = Inter a b; pending = pending }))) ≡ Some (Inter e q)
    → (Some (Inter a b) ≡ Some (Inter e q)) × (e ≢ dom)
left_domain_on dom a b e q pending true es h = absurd (differ h)
  where
    differ : Some (Unbound dom) ≡ Some (Inter e q) → ⊥
    differ = λ h. cc
left_domain_on dom a b e q pending false es h = (h, λ k. untrue (sym es ∙ eq-eqb a dom ((inter_same a b e q h).0 ∙ k)))
  where
    untrue : false ≡ true → ⊥
    untrue = λ h. cc

left_domain_inter : (dom e q : ℕ) (x : Option EventPort) → channel_of (option_map (port_after_end dom) x) ≡ Some (Inter e q) → (channel_of x ≡ Some (Inter e q)) × (e ≢ dom)
left_domain_inter dom e q None h = cc
left_domain_inter dom e q (Some port) h = by port.channel port.pending h
  where
    by : (c : Channel) (pending : Bool) → channel_of (option_map (port_after_end dom) (Some (record { channel = c; pending = pending }))) ≡ Some (Inter e q) → (Some c ≡ Some (Inter e q)) × (e ≢ dom)
    by (Unbound who) pending h = cc
    by Wild pending h = cc
    by (Inter a b) pending h = left_domain_on dom a b e q pending (a == dom) refl h

left_domain_end_on : (dom d n a b k : ℕ) (pending : Bool) (s : Bool) → (a == dom) ≡ s → d ≢ dom → (a ≡ d) × (b ≡ n)
    → IsOtherEnd d n k (channel_of (Some (cond s (record { channel = Unbound dom; pending = pending }) (record { channel = Inter a b; pending = pending }))))
left_domain_end_on dom d n a b k pending true es ne ends = absurd (ne (sym ends.0 ∙ eqb-true a dom es))
left_domain_end_on dom d n a b k pending false es ne ends = ends

left_domain_end : (dom d n k : ℕ) (x : Option EventPort) → d ≢ dom → IsOtherEnd d n k (channel_of x) → IsOtherEnd d n k (channel_of (option_map (port_after_end dom) x))
left_domain_end dom d n k None ne h = h
left_domain_end dom d n k (Some port) ne h = by port.channel port.pending h
  where
    by : (c : Channel) (pending : Bool) → IsOtherEnd d n k (Some c) → IsOtherEnd d n k (channel_of (option_map (port_after_end dom) (Some (record { channel = c; pending = pending }))))
    by (Unbound who) pending h = absurd h
    by Wild pending h = h
    by (Inter a b) pending h = left_domain_end_on dom d n a b k pending (a == dom) refl ne h

none_inter : (e q : ℕ) → None ≡ Some (Inter e q) → ⊥
none_inter e q h = cc

pub paired_end : (m : PortMap) (dom : ℕ) → IsPaired m → IsPaired (after_end m dom)
paired_end m dom h d n e q is = elim (eqb_tells d dom) [
  | inl k ↦ absurd (none_inter e q (ap channel_of (sym (get_end_own m dom n)) ∙ ap (λ (x : ℕ). channel_at (after_end m dom) x n) (sym k.1) ∙ is))
  | inr ne ↦
      let was = left_domain_inter dom e q (map.get m (d, n)) (ap channel_of (sym (get_end_other m dom d n ne.1)) ∙ is) in
      subst (λ x. IsOtherEnd d n q (channel_of x)) (sym (get_end_other m dom e q was.1)) (left_domain_end dom d n q (map.get m (e, q)) ne.1 (h d n e q was.0))
]

-- copies
copied_inter : (parent n e q : ℕ) (x : Option EventPort) → channel_of (option_and_then (child_port parent n) x) ≡ Some (Inter e q) → (channel_of x ≡ Some Wild) × (parent ≡ e) × (n ≡ q)
copied_inter parent n e q None h = cc
copied_inter parent n e q (Some port) h = by port.channel port.pending h
  where
    by : (c : Channel) (pending : Bool) → channel_of (port_of_child parent n c) ≡ Some (Inter e q) → (Some c ≡ Some Wild) × (parent ≡ e) × (n ≡ q)
    by (Unbound who) pending h = cc
    by Wild pending h = let ends = inter_same parent n e q h in (refl, ends.0, ends.1)
    by (Inter a b) pending h = cc

pub paired_child_ports : (m : PortMap) (parent child : ℕ) → parent ≢ child → ((n : ℕ) → map.get m (child, n) ≡ None) → IsPaired m → IsPaired (with_child parent child m)
paired_child_ports m parent child differ none h d n e q is = elim (eqb_tells d child) [
  | inl k ↦
      let was = copied_inter parent n e q (map.get m (parent, n)) (ap channel_of (sym (get_child_own m parent child n (none n))) ∙ ap (λ (x : ℕ). channel_at (with_child parent child m) x n) (sym k.1) ∙ is) in
      let wild : channel_at (with_child parent child m) e q ≡ Some Wild =
      (λ i. channel_at (with_child parent child m) (sym was.1 i) (sym was.2 i)) ∙ ap channel_of (get_child_other m parent child parent n differ) ∙ was.0 in
      subst (IsOtherEnd d n q) (sym wild) (sym was.2)
  | inr ne ↦
      let old = h d n e q (ap channel_of (sym (get_child_other m parent child d n ne.1)) ∙ is) in
      elim (eqb_tells e child) [
        | inl k ↦ absurd (subst (IsOtherEnd d n q) (ap (λ (x : ℕ). channel_at m x q) k.1 ∙ ap channel_of (none q)) old)
        | inr ne' ↦ subst (λ x. IsOtherEnd d n q (channel_of x)) (sym (get_child_other m parent child e q ne'.1)) old
      ]
]

pub paired_clone : (m : PortMap) (parent child : ℕ) → parent ≢ child → IsPaired m → IsPaired (after_clone m parent child)
paired_clone m parent child differ h = paired_child_ports (after_end m child) parent child differ (get_end_own m child) (paired_end m child h)

-- a new pair
free_none : (x : Option EventPort) → x ≡ None → IsFree (channel_of x)
free_none x e = subst (λ y. IsFree (channel_of y)) (sym e) tt

pub paired_pair : (m : PortMap) (a p b q : ℕ) → IsPaired m → IsPaired (with_pair m a p b q)
unfolding with_pair
paired_pair m a p b q h =
    let m1 = after_close m a p in
    let m2 = after_close m1 b q in
    let m3 = map.insert m2 (a, p) (bound_port b q) in
    let own : map.get m2 (b, q) ≡ None = get_close_same m1 b q in
    let one : map.get m2 (a, p) ≡ None = elim (key_or_not (a, p) (b, q)) [
      | inl k ↦ ap (map.get m2) k ∙ own
      | inr ne ↦ get_close_other m1 b q a p ne ∙ ap (option_map (port_after_close b q)) (get_close_same m a p)
    ] in
    let first : channel_at (map.insert m3 (b, q) (bound_port a p)) a p ≡ Some (Inter b q) = elim (key_or_not (a, p) (b, q)) [
      | inl k ↦ ap (λ (x : ℕ × ℕ). channel_at (map.insert m3 (b, q) (bound_port a p)) x.0 x.1) k ∙ ap channel_of (get_set_same m3 b q (Some (bound_port a p))) ∙ ap (λ (x : ℕ × ℕ). Some (Inter x.0 x.1)) k
      | inr ne ↦ ap channel_of (get_set_other m3 b q (Some (bound_port a p)) (a, p) ne) ∙ ap channel_of (get_set_same m2 a p (Some (bound_port b q)))
    ] in
    paired_linked m2 (map.insert m3 (b, q) (bound_port a p)) a p b q (free_none _ one) (free_none _ own) first
    (ap channel_of (get_set_same m3 b q (Some (bound_port a p))))
    (λ d n ne ne'. ap channel_of (get_set_other m3 b q (Some (bound_port a p)) (d, n) ne') ∙ ap channel_of (get_set_other m2 a p (Some (bound_port b q)) (d, n) ne))
    (paired_close m1 b q (paired_close m a p h))
