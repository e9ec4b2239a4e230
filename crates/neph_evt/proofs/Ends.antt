-- The places after a domain's end.
use Rattle.std.proofs.Common.{◌≡◌, ◌≢◌, ◌+◌, ◌*◌, ◌/◌, ◌<◌, ◌≤◌, ℕ, ◌⊎◌, inl, inr, List, length, get_or, set, length-set, Option, None, option_map, refl, sym, ap, ◌∙◌, arith}
use Rattle.std.proofs.lemmas.List.{get_or_past, get_or-set_same, get_or-set_other}
use Rattle.std.proofs.lemmas.Bool.Decides.{eqb_tells}
use Rattle.std.specs.FinMap as map
use Rattle.neph_evt.specs.declared.port.EventPort.{EventPort}
use Rattle.neph_evt.specs.declared.table.Place.{Place}
use Rattle.neph_evt.specs.Places.{port_in, map_of}
use Rattle.neph_evt.specs.Closing.{port_after_end, after_end}
use Rattle.neph_evt.proofs.Keys.{same_ports}
use Rattle.neph_evt.proofs.PlaceMaps.{closed_place, get_place, get_past, low_or_high}
use Rattle.neph_evt.proofs.Changes.{get_end_own, get_end_other}

abbrev pub at_place : List Place → ℕ → Option EventPort
at_place places k = port_in (get_or places k closed_place)

-- all places below this one are as after the domain's end
pub record EndedBelow (dom at : ℕ) (old new : List Place) : Type 0 where
  pub size : length new ≡ 16384
  pub own : (k : ℕ) → k < at → k / 256 ≡ dom → at_place new k ≡ None
  pub others : (k : ℕ) → k < at → k / 256 ≢ dom → at_place new k ≡ option_map (port_after_end dom) (at_place old k)
  pub rest : (k : ℕ) → at ≤ k → get_or new k closed_place ≡ get_or old k closed_place

pub ended_none : (dom : ℕ) (old : List Place) → length old ≡ 16384 → EndedBelow dom 0 old old
ended_none dom old size = record {
  size = size;
  own = λ k l. absurd (omega arith);
  others = λ k l. absurd (omega arith);
  rest = λ k l. refl;
}

below_or_at : (k at : ℕ) → k < at + 1 → (k < at) ⊎ (k ≡ at)
below_or_at k at l = elim (low_or_high k at) [ inl lt ↦ inl lt | inr le ↦ inr (omega arith) ]

at_set_same : (places : List Place) (at k : ℕ) (p : Place) → at < length places → k ≡ at → at_place (set places at p) k ≡ port_in p
at_set_same places at k p fit e = ap (at_place (set places at p)) e ∙ ap port_in (get_or-set_same places at p closed_place fit)

at_set_other : (places : List Place) (at k : ℕ) (p : Place) → k ≢ at → at_place (set places at p) k ≡ at_place places k
at_set_other places at k p ne = ap port_in (get_or-set_other places at k p closed_place ne)

pub ended_next : (dom at : ℕ) (old new : List Place) (p : Place) → EndedBelow dom at old new → at < 16384
    → (at / 256 ≡ dom → port_in p ≡ None) → (at / 256 ≢ dom → port_in p ≡ option_map (port_after_end dom) (at_place old at))
    → EndedBelow dom (at + 1) old (set new at p)
ended_next dom at old new p h fit own others =
    let room : at < length new = omega (arith, h.size) in record {
      size = length-set new at p ∙ h.size;
      own = λ k l e. elim (below_or_at k at l) [
        | inl lt ↦ at_set_other new at k p (λ (q : k ≡ at). omega arith) ∙ h.own k lt e
        | inr q ↦ at_set_same new at k p room q ∙ own (ap (λ (j : ℕ). j / 256) (sym q) ∙ e)
      ];
      others = λ k l ne. elim (below_or_at k at l) [
        | inl lt ↦ at_set_other new at k p (λ (q : k ≡ at). omega arith) ∙ h.others k lt ne
        | inr q ↦ at_set_same new at k p room q ∙ others (λ (e : at / 256 ≡ dom). ne (ap (λ (j : ℕ). j / 256) q ∙ e)) ∙ ap (λ (j : ℕ). option_map (port_after_end dom) (at_place old j)) (sym q)
      ];
      rest = λ k l. get_or-set_other new at k p closed_place (λ (q : k ≡ at). omega arith) ∙ h.rest k (omega arith);
    }

past_end : (places : List Place) (d n : ℕ) → length places ≡ 16384 → 64 ≤ d → at_place places (256 * d + n) ≡ None
past_end places d n size l = ap port_in (get_or_past places (256 * d + n) closed_place (omega arith))

pub ended_all : (dom : ℕ) (old new : List Place) → length old ≡ 16384 → EndedBelow dom 16384 old new → map_of new ≡ after_end (map_of old) dom
ended_all dom old new size h = same_ports _ _ (λ d n. elim (eqb_tells d dom) [
  | inl e ↦ elim (low_or_high n 256) [
    | inl l ↦ get_place new d n l ∙ elim (low_or_high d 64) [
      | inl lt ↦ h.own (256 * d + n) (omega arith) (let q : (256 * d + n) / 256 ≡ d = omega arith in q ∙ e.1)
      | inr le ↦ past_end new d n h.size le
    ]
    | inr l ↦ get_past new d n l
  ] ∙ sym (get_end_own (map_of old) dom n) ∙ ap (λ (k : ℕ). map.get (after_end (map_of old) dom) (k, n)) (sym e.1)
  | inr ne ↦ elim (low_or_high n 256) [
    | inl l ↦ get_place new d n l ∙ elim (low_or_high d 64) [
      | inl lt ↦ h.others (256 * d + n) (omega arith) (λ (q : (256 * d + n) / 256 ≡ dom). ne.1 (let r : (256 * d + n) / 256 ≡ d = omega arith in sym r ∙ q))
      | inr le ↦ past_end new d n h.size le ∙ sym (ap (option_map (port_after_end dom)) (past_end old d n size le))
    ] ∙ ap (option_map (port_after_end dom)) (sym (get_place old d n l))
    | inr l ↦ get_past new d n l ∙ ap (option_map (port_after_end dom)) (sym (get_past old d n l))
  ] ∙ sym (get_end_other (map_of old) dom d n ne.1)
])
