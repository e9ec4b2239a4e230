-- Places, and the map that they stand for.
use Rattle.std.proofs.Common.{◌≡◌, ◌≢◌, ◌+◌, ◌*◌, ◌/◌, ◌%◌, ◌<◌, ◌≤◌, ℕ, zero, suc, ◌⊎◌, inl, inr, List, [], ◌∷◌, length, get_or, set, replicate, Option, Some, None, refl, sym, ap, subst, ◌∙◌, arith}
use Rattle.std.specs.FinMap as map
use Rattle.std.specs.FinMap.{find, get-from_entries}
use Rattle.std.proofs.lemmas.List.{get_or-set_same, get_or-set_other, get_or_past}
use Rattle.neph_evt.specs.declared.port.EventPort.{EventPort}
use Rattle.neph_evt.specs.declared.table.Place.{Place}
use Rattle.neph_evt.specs.PortMap.{port_cmp, with_slot, with_entry, IsWithin}
use Rattle.neph_evt.specs.Places.{port_in, place_for, port_of_place, entries_from, map_of}
use Rattle.neph_evt.proofs.Keys.{port_total, find_entry_other, find_entry_same, get_set_same, get_set_other, same_ports, key_or_not}

abbrev pub closed_place : Place
closed_place = place_for None

place_apart : (d n at : ℕ) → n < 256 → (256 * d + n ≢ at) → (d, n) ≢ port_of_place at
place_apart d n at h ne e = ne (let a : d ≡ at / 256 = ap (λ (k : ℕ × ℕ). k.0) e in let b : n ≡ at % 256 = ap (λ (k : ℕ × ℕ). k.1) e in omega arith)

place_is : (d n at : ℕ) → n < 256 → 256 * d + n ≡ at → (d, n) ≡ port_of_place at
place_is d n at h e = let a : d ≡ at / 256 = omega arith in let b : n ≡ at % 256 = omega arith in λ i. (a i, b i)

-- nothing stands before the first place
find_before : (d n at : ℕ) (places : List Place) → n < 256 → 256 * d + n < at → find port_cmp (d, n) (entries_from at places) ≡ None
find_before d n at [] h lt = refl
find_before d n at (place ∷ places) h lt =
    find_entry_other (d, n) (port_of_place at) (port_in place) (entries_from (suc at) places) (place_apart d n at h (λ (e : 256 * d + n ≡ at). omega arith))
    ∙ find_before d n (suc at) places h (omega arith)

find_at : (d n at j : ℕ) (places : List Place) → n < 256 → 256 * d + n ≡ at + j → find port_cmp (d, n) (entries_from at places) ≡ port_in (get_or places j closed_place)
find_at d n at j [] h e = refl
find_at d n at zero (place ∷ places) h e =
    let is = place_is d n at h (omega arith) in
    subst (λ (q : ℕ × ℕ). find port_cmp q (with_entry (port_of_place at) (port_in place) (entries_from (suc at) places)) ≡ port_in place) (sym is)
    (find_entry_same (port_of_place at) (port_in place) (entries_from (suc at) places) (subst (λ (q : ℕ × ℕ). find port_cmp q (entries_from (suc at) places) ≡ None) is (find_before d n (suc at) places h (omega arith))))
find_at d n at (suc j) (place ∷ places) h e =
    find_entry_other (d, n) (port_of_place at) (port_in place) (entries_from (suc at) places) (place_apart d n at h (λ (q : 256 * d + n ≡ at). omega arith))
    ∙ find_at d n (suc at) j places h (omega arith)

find_past : (d n at : ℕ) (places : List Place) → 256 ≤ n → find port_cmp (d, n) (entries_from at places) ≡ None
find_past d n at [] h = refl
find_past d n at (place ∷ places) h =
    find_entry_other (d, n) (port_of_place at) (port_in place) (entries_from (suc at) places) (λ e. let b : n ≡ at % 256 = ap (λ (k : ℕ × ℕ). k.1) e in omega arith)
    ∙ find_past d n (suc at) places h

-- the map answers what the place has
pub get_place : (places : List Place) (d n : ℕ) → n < 256 → map.get (map_of places) (d, n) ≡ port_in (get_or places (256 * d + n) closed_place)
get_place places d n h = get-from_entries port_total (entries_from 0 places) (d, n) ∙ find_at d n 0 (256 * d + n) places h (omega arith)

pub get_past : (places : List Place) (d n : ℕ) → 256 ≤ n → map.get (map_of places) (d, n) ≡ None
get_past places d n h = get-from_entries port_total (entries_from 0 places) (d, n) ∙ find_past d n 0 places h

pub low_or_high : (a b : ℕ) → (a < b) ⊎ (b ≤ a)
low_or_high a zero = inr (omega arith)
low_or_high zero (suc b) = inl (omega arith)
low_or_high (suc a) (suc b) = elim (low_or_high a b) [ inl l ↦ inl (omega arith) | inr l ↦ inr (omega arith) ]

-- 64 domains have places
pub places_within : (places : List Place) → length places ≡ 16384 → IsWithin (map_of places)
places_within places size = record {
  domains = λ d n h. elim (low_or_high n 256) [
    | inl l ↦ get_place places d n l ∙ ap port_in (get_or_past places (256 * d + n) closed_place (omega arith))
    | inr l ↦ get_past places d n l
  ];
  numbers = λ d n h. get_past places d n h;
}

place_back : (x : Option EventPort) → port_in (place_for x) ≡ x
place_back None = refl
place_back (Some port) = refl

-- one place changes
pub map_of-set : (places : List Place) (d n at : ℕ) (x : Option EventPort) → at ≡ 256 * d + n → n < 256 → at < length places
    → map_of (set places at (place_for x)) ≡ with_slot (map_of places) d n x
map_of-set places d n at x e h fit = same_ports _ _ (λ p k. elim (low_or_high k 256) [
  | inl l ↦ get_place (set places at (place_for x)) p k l ∙ elim (key_or_not (p, k) (d, n)) [
    | inl q ↦ ap (λ i. port_in (get_or (set places at (place_for x)) i closed_place)) (let a : p ≡ d = ap (λ (k : ℕ × ℕ). k.0) q in let b : k ≡ n = ap (λ (k : ℕ × ℕ). k.1) q in let same : 256 * p + k ≡ at = omega arith in same)
        ∙ ap port_in (get_or-set_same places at (place_for x) closed_place fit) ∙ place_back x
        ∙ sym (get_set_same (map_of places) d n x) ∙ ap (map.get (with_slot (map_of places) d n x)) (sym q)
    | inr ne ↦ ap port_in (get_or-set_other places at (256 * p + k) (place_for x) closed_place (λ (q : 256 * p + k ≡ at). ne (let a : p ≡ d = omega arith in let b : k ≡ n = omega arith in λ i. (a i, b i))))
        ∙ sym (get_place places p k l) ∙ sym (get_set_other (map_of places) d n x (p, k) ne)
  ]
  | inr l ↦ get_past (set places at (place_for x)) p k l ∙ sym (get_past places p k l) ∙ sym (get_set_other (map_of places) d n x (p, k) (λ q. let b : k ≡ n = ap (λ (k : ℕ × ℕ). k.1) q in omega arith))
])

no_entries : (n at : ℕ) → entries_from at (replicate n closed_place) ≡ []
no_entries zero at = refl
no_entries (suc n) at = no_entries n (suc at)

pub map_of-closed : (places : List Place) (n : ℕ) → places ≡ replicate n closed_place → map_of places ≡ map.empty
map_of-closed places n e = ap map.from_entries (ap (entries_from 0) e ∙ no_entries n 0)
