-- Pairing after each call.
use Rattle.std.proofs.Common.{◌≡◌, ◌≢◌, ◌==◌, ◌&&◌, ◌+◌, ◌-◌, ◌<◌, ◌≤◌, ℕ, zero, suc, Bool, true, false, not, cond, ◌⊎◌, inl, inr, Option, Some, None, Ok, Err, option_map, find, is_none, is_some, refl, sym, ap, subst, ◌∙◌, arith, if◌then◌else◌}
use Rattle.std.specs.List.{range_with_len}
use Rattle.std.specs.FinMap as map
use Rattle.neph_base.specs.declared.command.Who.{Who}
use Rattle.neph_base.specs.declared.command.Who.TheVariants.{Dom, Child}
use Rattle.neph_evt.specs.declared.port.Channel.{Channel}
use Rattle.neph_evt.specs.declared.port.Channel.TheVariants.{Unbound, Inter, Wild}
use Rattle.neph_evt.specs.declared.port.EventPort.{EventPort}
use Rattle.neph_evt.specs.declared.port.BindRefused.TheVariants.{NoPort, NotYours}
use Rattle.neph_evt.specs.PortMap.{PortMap, IsWithin, with_slot, with_port, with_each_port, bound_port, is_bound_to}
use Rattle.neph_evt.specs.Pairing.{channel_of, channel_at, IsPaired}
use Rattle.neph_evt.specs.Asking.{without_event, after_take}
use Rattle.neph_evt.specs.Opening.{is_closed, least_closed, new_port, own_or_full, answer_at, bind_answer, port_bound_to, after_bind}
use Rattle.neph_evt.specs.Sending.{with_event, port_after_send, after_send_on, port_after_signal, after_signal, zero_port}
use Rattle.neph_evt.specs.Cloning.{after_start, device_of_child, with_device_of, with_child}
use Rattle.std.proofs.lemmas.Bool.Decides.{eqb_tells}
use Rattle.std.specs.Option.{option_and_then, SomeIff}
use Rattle.neph_evt.proofs.PlaceMaps.{low_or_high}
use Rattle.neph_evt.proofs.Keys.{Apart, key_or_not, get_set_same, get_set_other, same_ports}
use Rattle.neph_evt.proofs.Changes.{get_each, child_port, get_child_own, get_child_other}
use Rattle.neph_evt.proofs.Columns.{get_port_same, get_port_other}
use Rattle.neph_evt.proofs.Pairs.{IsFree, paired_same, paired_free, paired_linked, paired_pair}

kept_channel : (f : EventPort → EventPort) (x : Option EventPort) → ((port : EventPort) → (f port).channel ≡ port.channel) → channel_of (option_map f x) ≡ channel_of x
kept_channel f None keeps = refl
kept_channel f (Some port) keeps = ap Some (keeps port)

-- a change that keeps channels
pub paired_port : (m : PortMap) (a p : ℕ) (f : EventPort → EventPort) → ((port : EventPort) → (f port).channel ≡ port.channel) → IsPaired m → IsPaired (with_port m a p f)
paired_port m a p f keeps h = paired_same m (with_port m a p f) (λ d n. elim (key_or_not (d, n) (a, p)) [
  | inl k ↦ ap (λ (x : ℕ × ℕ). channel_at (with_port m a p f) x.0 x.1) k ∙ ap channel_of (get_port_same m a p f) ∙ kept_channel f (map.get m (a, p)) keeps ∙ ap (λ (x : ℕ × ℕ). channel_at m x.0 x.1) (sym k)
  | inr ne ↦ ap channel_of (get_port_other m a p f d n ne)
]) h

pub paired_each : (m : PortMap) (f : ℕ → EventPort → EventPort) → ((d : ℕ) (port : EventPort) → (f d port).channel ≡ port.channel) → IsPaired m → IsPaired (with_each_port f m)
paired_each m f keeps h = paired_same m (with_each_port f m) (λ d n. ap channel_of (get_each f m d n) ∙ kept_channel (f d) (map.get m (d, n)) (keeps d)) h

either : (b : Bool) (x y : EventPort) → x.channel ≡ y.channel → (cond b x y).channel ≡ y.channel
either true x y h = h
either false x y h = refl

pub paired_take : (m : PortMap) (a p : ℕ) → IsPaired m → IsPaired (after_take m a p)
paired_take m a p h = paired_port m a p without_event (λ port. refl) h

pub paired_event : (m : PortMap) (a p : ℕ) → IsPaired m → IsPaired (with_port m a p with_event)
paired_event m a p h = paired_port m a p with_event (λ port. refl) h

pub paired_signal : (m : PortMap) (dom kind : ℕ) → IsPaired m → IsPaired (after_signal m dom kind)
paired_signal m dom kind h = paired_port m dom kind (port_after_signal dom kind) (λ port. either (is_bound_to 0 (zero_port dom kind) port) (with_event port) port refl) h

paired_if : (b : Bool) (m n : PortMap) → IsPaired m → IsPaired n → IsPaired (if b then m else n)
paired_if true m n h k = h
paired_if false m n h k = k

paired_sent : (m : PortMap) (dom number : ℕ) (x : Option Channel) → IsPaired m → IsPaired (after_send_on m dom number x)
paired_sent m dom number (Some (Unbound who)) h = h
paired_sent m dom number (Some (Inter d n)) h = paired_if (d == 0) m _ h (paired_event m d n h)
paired_sent m dom number (Some Wild) h =
    paired_each m (port_after_send dom number) (λ d port. either (not (d == 0) && is_bound_to dom number port) (with_event port) port refl) h
paired_sent m dom number None h = h

pub paired_send : (m : PortMap) (dom number : ℕ) (c : Channel) → IsPaired m → IsPaired (after_send_on m dom number (Some c))
paired_send m dom number c h = paired_sent m dom number (Some c) h

channel_or_not : (x : Option Channel) → (x ≡ None) ⊎ ((c : Channel) × (x ≡ Some c))
channel_or_not None = inl refl
channel_or_not (Some c) = inr (c, refl)

-- a new port
new_channel : (who : Who) (d n : ℕ) → Some (new_port who).channel ≡ Some (Inter d n) → ⊥
new_channel (Dom who) d n h = cc
new_channel Child d n h = cc

pub paired_alloc : (m : PortMap) (d n : ℕ) (who : Who) → map.get m (d, n) ≡ None → IsPaired m → IsPaired (map.insert m (d, n) (new_port who))
paired_alloc m d n who none h = paired_free m (map.insert m (d, n) (new_port who)) d n (subst (λ x. IsFree (channel_of x)) (sym none) tt)
    (λ e q is. new_channel who e q (ap channel_of (sym (get_set_same m d n (Some (new_port who)))) ∙ is))
    (λ e q ne. ap channel_of (get_set_other m d n (Some (new_port who)) (e, q) ne)) h

-- the least closed port
none_by : (x : Option EventPort) → is_none x ≡ true → x ≡ None
none_by None h = refl
none_by (Some port) h = cc

some_number : (a b : ℕ) → Some a ≡ Some b → a ≡ b
some_number a b h = cc

closed_by : (m : PortMap) (d from n : ℕ) (b : Bool) (x : Option ℕ) → is_closed m d from ≡ b → cond b (Some from) x ≡ Some n → (x ≡ Some n → map.get m (d, n) ≡ None) → map.get m (d, n) ≡ None
closed_by m d from n true x e h rest = ap (λ (k : ℕ). map.get m (d, k)) (sym (some_number from n h)) ∙ none_by (map.get m (d, from)) e
closed_by m d from n false x e h rest = rest h

found_closed : (m : PortMap) (d from left n : ℕ) → find (is_closed m d) (range_with_len from left) ≡ Some n → map.get m (d, n) ≡ None
found_closed m d from zero n h = cc
found_closed m d from (suc left) n h = closed_by m d from n (is_closed m d from) _ refl h (found_closed m d (from + 1) left n)

pub least_is_closed : (m : PortMap) (d n : ℕ) → least_closed m d ≡ Some n → map.get m (d, n) ≡ None
unfolding least_closed
least_is_closed m d n h = found_closed m d 1 63 n h

-- a port that may be bound
own_is : (x : Option ℕ) (own : ℕ) → own_or_full x ≡ Ok own → x ≡ Some own
own_is None own h = cc
own_is (Some n) own h = cc

yours_by : (b : Bool) (x : Option ℕ) (own : ℕ) → (if b then own_or_full x else Err NotYours) ≡ Ok own → x ≡ Some own
yours_by true x own h = own_is x own h
yours_by false x own h = cc

answer_ok : (m : PortMap) (me own : ℕ) (x : Option Channel) → answer_at m me x ≡ Ok own → IsFree x × (least_closed m me ≡ Some own)
answer_ok m me own (Some (Unbound who)) h = (tt, yours_by (who == me) (least_closed m me) own h)
answer_ok m me own (Some (Inter d n)) h = cc
answer_ok m me own (Some Wild) h = cc
answer_ok m me own None h = cc

taken_apart : (m : PortMap) (me own dom number : ℕ) (c : Channel) → channel_at m dom number ≡ Some c → map.get m (me, own) ≡ None → Apart (dom, number) (me, own)
taken_apart m me own dom number c is none k = absurd (differ (ap channel_of (sym none) ∙ ap (λ (x : ℕ × ℕ). channel_at m x.0 x.1) (sym k) ∙ is))
  where
    differ : None ≡ Some c → ⊥
    differ = λ h. cc

there : (x : Option EventPort) (f : EventPort → EventPort) (c : Channel) → ((port : EventPort) → (f port).channel ≡ c) → (channel_of x ≡ None → ⊥) → channel_of (option_map f x) ≡ Some c
there None f c is not = absurd (not refl)
there (Some port) f c is not = ap Some (is port)

-- both ports are bound to each other
pub paired_bind : (m : PortMap) (me own dom number : ℕ) → bind_answer m me dom number ≡ Ok own → IsPaired m → IsPaired (after_bind m me own dom number)
paired_bind m me own dom number ok h = elim (channel_or_not (channel_at m dom number)) [
  | inl none ↦ let e : Err NoPort ≡ Ok own = rw none at ok in absurd (differ e)
  | inr some ↦
      let facts = answer_ok m me own (channel_at m dom number) ok in
      let closed = least_is_closed m me own facts.1 in
      let apart = taken_apart m me own dom number some.0 some.1 closed in
      let m1 = with_port m dom number (port_bound_to me own) in
      paired_linked m (after_bind m me own dom number) dom number me own facts.0 (subst (λ x. IsFree (channel_of x)) (sym closed) tt)
      (ap channel_of (get_set_other m1 me own (Some (bound_port dom number)) (dom, number) apart ∙ get_port_same m dom number (port_bound_to me own))
      ∙ there (map.get m (dom, number)) (port_bound_to me own) (Inter me own) (λ port. refl) (λ none. taken none some.1))
      (ap channel_of (get_set_same m1 me own (Some (bound_port dom number))))
      (λ d n ne ne'. ap channel_of (get_set_other m1 me own (Some (bound_port dom number)) (d, n) ne' ∙ get_port_other m dom number (port_bound_to me own) d n ne)) h
]
  where
    differ : Err NoPort ≡ Ok own → ⊥
    differ = λ h. cc

    taken : {x : Option Channel} {c : Channel} → x ≡ None → x ≡ Some c → ⊥
    taken = λ p q. cc

-- devices
pub paired_start : (m : PortMap) (dom : ℕ) → IsPaired m → IsPaired (after_start m dom)
paired_start m dom h = paired_pair _ dom 3 0 (zero_port dom 3) (paired_pair _ dom 2 0 (zero_port dom 2) (paired_pair m dom 1 0 (zero_port dom 1) h))

paired_device : (m : PortMap) (parent child kind : ℕ) (x : Option Channel) → IsPaired m → IsPaired (device_of_child parent child kind m x)
paired_device m parent child kind None h = h
paired_device m parent child kind (Some (Unbound who)) h = h
paired_device m parent child kind (Some Wild) h = h
paired_device m parent child kind (Some (Inter dom number)) h = paired_if (dom == parent) _ m (paired_pair m child number 0 (zero_port child kind) h) h

pub paired_device_of : (m : PortMap) (parent child kind : ℕ) → IsPaired m → IsPaired (with_device_of parent child kind m)
paired_device_of m parent child kind h = paired_device m parent child kind (channel_at m 0 (zero_port parent kind)) h

-- the search for the least closed port
room_left : (n : ℕ) → n < 64 → 64 - n ≡ suc (64 - (n + 1))
room_left n l = omega arith

pub find_here : (m : PortMap) (d n : ℕ) → n < 64 → is_closed m d n ≡ true → find (is_closed m d) (range_with_len n (64 - n)) ≡ Some n
find_here m d n l is = ap (λ (k : ℕ). find (is_closed m d) (range_with_len n k)) (room_left n l) ∙ ap (λ b. cond b (Some n) (find (is_closed m d) (range_with_len (n + 1) (64 - (n + 1))))) is

pub find_next : (m : PortMap) (d n : ℕ) → n < 64 → is_closed m d n ≡ false → find (is_closed m d) (range_with_len n (64 - n)) ≡ find (is_closed m d) (range_with_len (n + 1) (64 - (n + 1)))
find_next m d n l is = ap (λ (k : ℕ). find (is_closed m d) (range_with_len n k)) (room_left n l) ∙ ap (λ b. cond b (Some n) (find (is_closed m d) (range_with_len (n + 1) (64 - (n + 1))))) is

-- the copies of the ports below a number
pub record CopiedBelow (parent child number : ℕ) (old new : PortMap) : Type 0 where
  pub below : (n : ℕ) → n < number → map.get new (child, n) ≡ option_and_then (child_port parent n) (map.get old (parent, n))
  pub above : (n : ℕ) → number ≤ n → map.get new (child, n) ≡ None
  pub others : (d n : ℕ) → d ≢ child → map.get new (d, n) ≡ map.get old (d, n)

pub copied_none : (parent child : ℕ) (m : PortMap) → ((n : ℕ) → map.get m (child, n) ≡ None) → CopiedBelow parent child 0 m m
copied_none parent child m none = record { below = λ n l. absurd (omega arith); above = λ n l. none n; others = λ d n ne. refl }

below_or_at : (k at : ℕ) → k < at + 1 → (k < at) ⊎ (k ≡ at)
below_or_at k at l = elim (low_or_high k at) [ inl lt ↦ inl lt | inr le ↦ inr (omega arith) ]

pub copied_next : (parent child number : ℕ) (old new : PortMap) (x : Option EventPort) → CopiedBelow parent child number old new
    → x ≡ option_and_then (child_port parent number) (map.get old (parent, number)) → CopiedBelow parent child (number + 1) old (with_slot new child number x)
copied_next parent child number old new x h is = record {
  below = λ n l. elim (below_or_at n number l) [
    | inl lt ↦ get_set_other new child number x (child, n) (λ k. let e : n ≡ number = ap (λ (q : ℕ × ℕ). q.1) k in omega arith) ∙ h.below n lt
    | inr e ↦ ap (λ (k : ℕ). map.get (with_slot new child number x) (child, k)) e ∙ get_set_same new child number x ∙ is
        ∙ ap (λ (k : ℕ). option_and_then (child_port parent k) (map.get old (parent, k))) (sym e)
  ];
  above = λ n l. get_set_other new child number x (child, n) (λ k. let e : n ≡ number = ap (λ (q : ℕ × ℕ). q.1) k in omega arith) ∙ h.above n (omega arith);
  others = λ d n ne. get_set_other new child number x (d, n) (λ k. ne (ap (λ (q : ℕ × ℕ). q.0) k)) ∙ h.others d n ne;
}

pub copied_all : (parent child : ℕ) (old new : PortMap) → IsWithin old → ((n : ℕ) → map.get old (child, n) ≡ None) → CopiedBelow parent child 256 old new → new ≡ with_child parent child old
copied_all parent child old new within none h = same_ports _ _ (λ d n. elim (eqb_tells d child) [
  | inl e ↦ ap (λ (x : ℕ). map.get new (x, n)) e.1 ∙ elim (low_or_high n 256) [
    | inl lt ↦ h.below n lt
    | inr le ↦ h.above n le ∙ sym (ap (option_and_then (child_port parent n)) (within.numbers parent n le))
  ] ∙ sym (get_child_own old parent child n (none n)) ∙ ap (λ (x : ℕ). map.get (with_child parent child old) (x, n)) (sym e.1)
  | inr ne ↦ h.others d n ne.1 ∙ sym (get_child_other old parent child d n ne.1)
])

not_not : (b : Bool) → not (not b) ≡ b
not_not true = refl
not_not false = refl

pub closed_test : (x : Option EventPort) (b : Bool) → is_some x ≡ not b → is_none x ≡ b
closed_test x b h = ap not h ∙ not_not b

pub made : (r : Option ℕ) (P : Type 0) (v : ℕ) → SomeIff r P v → P → r ≡ Some v
made None P v h p = absurd (h p)
made (Some x) P v h p = ap Some h.1

pub none_of : (x : Option EventPort) → is_some x ≡ false → x ≡ None
none_of None h = refl
none_of (Some port) h = cc
