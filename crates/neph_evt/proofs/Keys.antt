-- The order of ports, and what a map answers at each of them.
use Rattle.std.proofs.Common.{◌≡◌, ◌≢◌, ℕ, Bool, true, false, cond, ◌⊎◌, inl, inr, List, Option, Some, None, refl, ap, ◌∙◌}
use Rattle.std.proofs.lemmas.Bool.Decides.{eqb_tells}
use Rattle.std.specs.Ordering.{nat_cmp, eq_by_cmp, ordering_then}
use Rattle.std.specs.Cmp.{IsTotalOrder, nat_cmp_total, on_total, then_total, eq_by_cmp_equiv, Equal-is}
use Rattle.std.specs.declared.cmp.Ordering.{Ordering}
use Rattle.std.specs.declared.cmp.Ordering.TheVariants.{Less, Equal, Greater}
use Rattle.std.specs.FinMap as map
use Rattle.std.specs.FinMap.{find, IsAntisymmetric, get-insert, get-remove, same_map, nat_cmp-IsAntisymmetric}
use Rattle.neph_evt.specs.declared.port.EventPort.{EventPort}
use Rattle.neph_evt.specs.PortMap.{PortMap, port_cmp, with_entry, with_slot}

abbrev fst : ℕ × ℕ → ℕ
fst k = k.0

abbrev snd : ℕ × ℕ → ℕ
snd k = k.1

-- two ports that are not the same
abbrev pub Apart : ℕ × ℕ → ℕ × ℕ → Type 0
Apart q k = q ≢ k

pub port_total : IsTotalOrder port_cmp
port_total = then_total (on_total fst nat_cmp_total) (on_total snd nat_cmp_total)

both_equal : (a b : Ordering) → ordering_then a b ≡ Equal → (a ≡ Equal) × (b ≡ Equal)
both_equal Less b e = cc
both_equal Equal b e = (refl, e)
both_equal Greater b e = cc

pub port_same : IsAntisymmetric port_cmp
port_same x y e =
    let h = both_equal (nat_cmp x.0 y.0) (nat_cmp x.1 y.1) e in
    let d : x.0 ≡ y.0 = nat_cmp-IsAntisymmetric x.0 y.0 h.0 in
    let n : x.1 ≡ y.1 = nat_cmp-IsAntisymmetric x.1 y.1 h.1 in
    λ i. (d i, n i)

pub key_tied : (k : ℕ × ℕ) → eq_by_cmp port_cmp k k ≡ true
key_tied k = (eq_by_cmp_equiv port_total).refl k

tied_by : (q k : ℕ × ℕ) (b : Bool) → eq_by_cmp port_cmp q k ≡ b → Apart q k → eq_by_cmp port_cmp q k ≡ false
tied_by q k true e ne = absurd (ne (port_same q k ((Equal-is (port_cmp q k)).0 e)))
tied_by q k false e ne = e

pub key_apart : (q k : ℕ × ℕ) → Apart q k → eq_by_cmp port_cmp q k ≡ false
key_apart q k ne = tied_by q k (eq_by_cmp port_cmp q k) refl ne

pub key_or_not : (q k : ℕ × ℕ) → (q ≡ k) ⊎ Apart q k
key_or_not q k = elim (eqb_tells q.0 k.0) [
  | inl d ↦ elim (eqb_tells q.1 k.1) [
    | inl n ↦ inl (λ i. (d.1 i, n.1 i))
    | inr n ↦ inr (λ e. n.1 (ap snd e))
  ]
  | inr d ↦ inr (λ e. d.1 (ap fst e))
]

-- what a changed map answers
pub get_set_same : (m : PortMap) (d n : ℕ) (x : Option EventPort) → map.get (with_slot m d n x) (d, n) ≡ x
get_set_same m d n None = get-remove port_total m (d, n) (d, n) ∙ ap (λ b. cond b None (map.get m (d, n))) (key_tied (d, n))
get_set_same m d n (Some v) = get-insert port_total m (d, n) v (d, n) ∙ ap (λ b. cond b (Some v) (map.get m (d, n))) (key_tied (d, n))

pub get_set_other : (m : PortMap) (d n : ℕ) (x : Option EventPort) (q : ℕ × ℕ) → Apart q (d, n) → map.get (with_slot m d n x) q ≡ map.get m q
get_set_other m d n None q ne = get-remove port_total m (d, n) q ∙ ap (λ b. cond b None (map.get m q)) (key_apart q (d, n) ne)
get_set_other m d n (Some v) q ne = get-insert port_total m (d, n) v q ∙ ap (λ b. cond b (Some v) (map.get m q)) (key_apart q (d, n) ne)

-- two maps that answer alike are equal
pub same_ports : (m n : PortMap) → ((d k : ℕ) → map.get m (d, k) ≡ map.get n (d, k)) → m ≡ n
same_ports m n h = same_map port_total port_same m n (λ q. h q.0 q.1)

-- what is found in entries with one more in front
pub find_entry_other : (q k : ℕ × ℕ) (x : Option EventPort) (es : List ((ℕ × ℕ) × EventPort)) → Apart q k → find port_cmp q (with_entry k x es) ≡ find port_cmp q es
find_entry_other q k None es ne = refl
find_entry_other q k (Some port) es ne = ap (λ b. cond b (Some port) (find port_cmp q es)) (key_apart q k ne)

pub find_entry_same : (k : ℕ × ℕ) (x : Option EventPort) (es : List ((ℕ × ℕ) × EventPort)) → find port_cmp k es ≡ None → find port_cmp k (with_entry k x es) ≡ x
find_entry_same k None es none = none
find_entry_same k (Some port) es none = ap (λ b. cond b (Some port) (find port_cmp k es)) (key_tied k)
