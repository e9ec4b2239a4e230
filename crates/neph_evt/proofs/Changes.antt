-- What a changed map answers.
use Rattle.std.proofs.Common.{◌≡◌, ◌≢◌, ◌==◌, ◌++◌, ℕ, Bool, true, false, not, cond, inl, inr, [], ◌∷◌, Option, Some, None, option_map, refl, sym, ap, subst, ◌∙◌, eq-eqb, ne_eqb, T, ◌&&◌, if◌then◌else◌}
use Rattle.std.proofs.lemmas.Bool.{eqb-true}
use Rattle.std.specs.Option.{option_and_then}
use Rattle.std.specs.Ordering.{eq_by_cmp, is_eq, is_lt}
use Rattle.std.specs.declared.cmp.Ordering.{Ordering}
use Rattle.std.specs.declared.cmp.Ordering.TheVariants.{Less, Equal, Greater}
use Rattle.std.specs.Cmp.{Equal-is}
use Rattle.std.specs.FinMap as map
use Rattle.std.specs.FinMap.{find, is_sorted, entries_sorted, get-from_entries, get-entries, get-retain_keys}
use Rattle.std.specs.FinMap.Entries.{below_all}
use Rattle.neph_evt.specs.declared.port.EventPort.{EventPort}
use Rattle.neph_evt.specs.PortMap.{PortMap, Entries, port_cmp, with_entry, entries_with_each, with_each_port}
use Rattle.neph_evt.specs.Closing.{port_after_close, after_close, port_after_end, after_end}
use Rattle.neph_evt.specs.Cloning.{port_of_child, child_entries, with_child}
use Rattle.neph_evt.proofs.Keys.{Apart, port_total, port_same, key_tied, key_apart, get_set_same, get_set_other, key_or_not, find_entry_other, find_entry_same}

abbrev pub first : ℕ × ℕ → ℕ
first k = k.0

tied_key : (q k : ℕ × ℕ) → eq_by_cmp port_cmp q k ≡ true → q ≡ k
tied_key q k e = port_same q k ((Equal-is (port_cmp q k)).0 e)

each_by : (f : ℕ → EventPort → EventPort) (q : ℕ × ℕ) (e : (ℕ × ℕ) × EventPort) (b : Bool) (x y : Option EventPort) → eq_by_cmp port_cmp q e.0 ≡ b → x ≡ option_map (f q.0) y
    → cond b (Some (f e.0.0 e.1)) x ≡ option_map (f q.0) (cond b (Some e.1) y)
each_by f q e true x y t h = ap (λ k. Some (f k e.1)) (ap first (sym (tied_key q e.0 t)))
each_by f q e false x y t h = h

find_each : (f : ℕ → EventPort → EventPort) (q : ℕ × ℕ) (es : Entries) → find port_cmp q (entries_with_each f es) ≡ option_map (f q.0) (find port_cmp q es)
find_each f q [] = refl
find_each f q (e ∷ es) = each_by f q e (eq_by_cmp port_cmp q e.0) _ _ refl (find_each f q es)

pub get_each : (f : ℕ → EventPort → EventPort) (m : PortMap) (d n : ℕ) → map.get (with_each_port f m) (d, n) ≡ option_map (f d) (map.get m (d, n))
unfolding with_each_port
get_each f m d n =
    get-from_entries port_total (entries_with_each f (map.entries m)) (d, n) ∙ find_each f (d, n) (map.entries m) ∙ ap (option_map (f d)) (sym (get-entries m (d, n)))

pub get_without : (m : PortMap) (dom d n : ℕ) → map.get (map.retain_keys m (λ key. not (key.0 == dom))) (d, n) ≡ cond (not (d == dom)) (map.get m (d, n)) None
get_without m dom d n = get-retain_keys m (λ key. not (key.0 == dom)) (d, n) (λ x t. ap (λ (k : ℕ × ℕ). not (k.0 == dom)) (sym (port_same (d, n) x t)))

-- a closed port, and the others
pub get_close_same : (m : PortMap) (d n : ℕ) → map.get (after_close m d n) (d, n) ≡ None
unfolding after_close
get_close_same m d n = get_each (λ at. port_after_close d n) (map.remove m (d, n)) d n ∙ ap (option_map (port_after_close d n)) (get_set_same m d n None)

pub get_close_other : (m : PortMap) (d n x k : ℕ) → Apart (x, k) (d, n) → map.get (after_close m d n) (x, k) ≡ option_map (port_after_close d n) (map.get m (x, k))
unfolding after_close
get_close_other m d n x k ne = get_each (λ at. port_after_close d n) (map.remove m (d, n)) x k ∙ ap (option_map (port_after_close d n)) (get_set_other m d n None (x, k) ne)

pub get_close : (m : PortMap) (d n x k : ℕ) → map.get (after_close m d n) (x, k) ≡ option_map (port_after_close d n) (map.get (map.remove m (d, n)) (x, k))
unfolding after_close
get_close m d n x k = get_each (λ at. port_after_close d n) (map.remove m (d, n)) x k

-- an ended domain's ports, and the others
pub get_end_own : (m : PortMap) (d n : ℕ) → map.get (after_end m d) (d, n) ≡ None
unfolding after_end
get_end_own m d n = get_each (λ at. port_after_end d) _ d n ∙ ap (option_map (port_after_end d)) (get_without m d d n ∙ ap (λ b. cond (not b) (map.get m (d, n)) None) (eq-eqb d d refl))

pub get_end_other : (m : PortMap) (d x k : ℕ) → x ≢ d → map.get (after_end m d) (x, k) ≡ option_map (port_after_end d) (map.get m (x, k))
unfolding after_end
get_end_other m d x k ne = get_each (λ at. port_after_end d) _ x k ∙ ap (option_map (port_after_end d)) (get_without m d x k ∙ ap (λ b. cond (not b) (map.get m (x, k)) None) (ne_eqb x d ne))

-- entries behind others
append_by : (b : Bool) (v : EventPort) (x y z : Option EventPort) → cond b (Some v) x ≡ None → (x ≡ None → y ≡ z) → cond b (Some v) y ≡ z
append_by true v x y z h rest = cc
append_by false v x y z h rest = rest h

find_append : (q : ℕ × ℕ) (es fs : Entries) → find port_cmp q es ≡ None → find port_cmp q (es ++ fs) ≡ find port_cmp q fs
find_append q [] fs h = refl
find_append q (e ∷ es) fs h = append_by (eq_by_cmp port_cmp q e.0) e.1 (find port_cmp q es) _ _ h (find_append q es fs)

-- where nothing is found behind, what is found in front
find_front : (q : ℕ × ℕ) (es fs : Entries) → find port_cmp q fs ≡ None → find port_cmp q (es ++ fs) ≡ find port_cmp q es
find_front q [] fs h = h
find_front q (e ∷ es) fs h = ap (cond (eq_by_cmp port_cmp q e.0) (Some e.1)) (find_front q es fs h)

abbrev pub child_port : ℕ → ℕ → EventPort → Option EventPort
child_port parent number port = port_of_child parent number port.channel

-- the copies of a parent's ports are the child's
find_cond : (b : Bool) (q : ℕ × ℕ) (x y : Entries) (z : Option EventPort) → (b ≡ true → find port_cmp q x ≡ z) → find port_cmp q y ≡ z → find port_cmp q (cond b x y) ≡ z
find_cond true q x y z h k = h refl
find_cond false q x y z h k = k

no_copy : (parent child d n : ℕ) (es : Entries) → d ≢ child → find port_cmp (d, n) (child_entries parent child es) ≡ None
no_copy parent child d n [] ne = refl
no_copy parent child d n (e ∷ es) ne =
    let rest = no_copy parent child d n es ne in
    find_cond (e.0.0 == parent) (d, n) _ _ None (λ _. find_entry_other (d, n) (child, e.0.1) (port_of_child parent e.0.1 e.1.channel) (child_entries parent child es) (λ q. ne (ap first q)) ∙ rest) rest

below_less : (r : Ordering) (b : Bool) → T (is_lt r && b) → (r ≡ Less) × T b
below_less Less b h = (refl, h)
below_less Equal b h = absurd h
below_less Greater b h = absurd h

not_below : (q : ℕ × ℕ) (es : Entries) → T (below_all port_cmp q es) → find port_cmp q es ≡ None
not_below q [] h = refl
not_below q (e ∷ es) h =
    let l = below_less (port_cmp q e.0) (below_all port_cmp q es) h in
    ap (λ r. cond (is_eq r) (Some e.1) (find port_cmp q es)) l.0 ∙ not_below q es l.1

both_parts : (a b : Bool) → T (a && b) → T a × T b
both_parts true b h = (tt, h)
both_parts false b h = absurd h

copy_at : (parent child n : ℕ) (k : ℕ × ℕ) (v : EventPort) (es : Entries) → k ≡ (parent, n) → find port_cmp (child, n) es ≡ None
    → find port_cmp (child, n) (if k.0 == parent then with_entry (child, k.1) (port_of_child parent k.1 v.channel) es else es) ≡ port_of_child parent n v.channel
copy_at parent child n k v es e h =
    subst (λ (q : ℕ × ℕ). find port_cmp (child, n) (if q.0 == parent then with_entry (child, q.1) (port_of_child parent q.1 v.channel) es else es) ≡ port_of_child parent n v.channel) (sym e)
    (ap (λ b. find port_cmp (child, n) (if b then with_entry (child, n) (port_of_child parent n v.channel) es else es)) (eq-eqb parent parent refl) ∙ find_entry_same (child, n) (port_of_child parent n v.channel) es h)

find_child_entries : (parent child n : ℕ) (es : Entries) → T (is_sorted port_cmp es) → find port_cmp (child, n) (child_entries parent child es) ≡ option_and_then (child_port parent n) (find port_cmp (parent, n) es)
find_child_entries parent child n [] h = refl
find_child_entries parent child n (e ∷ es) h =
    let parts = both_parts (below_all port_cmp e.0 es) (is_sorted port_cmp es) h in
    let rest = find_child_entries parent child n es parts.1 in
    elim (key_or_not e.0 (parent, n)) [
      | inl q ↦
          let none : find port_cmp (parent, n) es ≡ None = subst (λ (k : ℕ × ℕ). find port_cmp k es ≡ None) q (not_below e.0 es parts.0) in
          copy_at parent child n e.0 e.1 (child_entries parent child es) q (rest ∙ ap (option_and_then (child_port parent n)) none)
          ∙ sym (ap (λ b. option_and_then (child_port parent n) (cond b (Some e.1) (find port_cmp (parent, n) es))) (subst (λ (k : ℕ × ℕ). eq_by_cmp port_cmp (parent, n) k ≡ true) (sym q) (key_tied (parent, n))))
      | inr ne ↦
          find_cond (e.0.0 == parent) (child, n) _ _ _ (λ is. find_entry_other (child, n) (child, e.0.1) (port_of_child parent e.0.1 e.1.channel) (child_entries parent child es) (λ q. ne (let a : e.0.0 ≡ parent = eqb-true e.0.0 parent is in let b : e.0.1 ≡ n = ap (λ (k : ℕ × ℕ). k.1) (sym q) in λ i. (a i, b i))) ∙ rest) rest
          ∙ sym (ap (λ b. option_and_then (child_port parent n) (cond b (Some e.1) (find port_cmp (parent, n) es))) (key_apart (parent, n) e.0 (λ q. ne (sym q))))
    ]

-- a child's ports beside all others
pub get_child_other : (m : PortMap) (parent child d n : ℕ) → d ≢ child → map.get (with_child parent child m) (d, n) ≡ map.get m (d, n)
unfolding with_child
get_child_other m parent child d n ne =
    get-from_entries port_total _ (d, n) ∙ find_append (d, n) (child_entries parent child (map.entries m)) (map.entries m) (no_copy parent child d n (map.entries m) ne) ∙ sym (get-entries m (d, n))

pub get_child_own : (m : PortMap) (parent child n : ℕ) → map.get m (child, n) ≡ None → map.get (with_child parent child m) (child, n) ≡ option_and_then (child_port parent n) (map.get m (parent, n))
unfolding with_child
get_child_own m parent child n none =
    get-from_entries port_total _ (child, n)
    ∙ find_front (child, n) (child_entries parent child (map.entries m)) (map.entries m) (sym (get-entries m (child, n)) ∙ none)
    ∙ find_child_entries parent child n (map.entries m) (entries_sorted m) ∙ ap (option_and_then (child_port parent n)) (sym (get-entries m (parent, n)))
