-- Two paths above one, and two homes.
use Rattle.std.proofs.Common.{◌≡◌, ◌⊎◌, inl, inr, ℕ, ◌+◌, ◌/◌, ◌%◌, ◌<◌, ◌≤◌, Bool, true, false, cond, List, [], ◌∷◌, ◌++◌, length, drop, get_or, set, append_assoc, length-append, get_or-set_same, get_or-set_other, refl, sym, ap, ◌∙◌, arith, ◌-◌, length-set}
use Rattle.std.specs.Prelude.{nat_lt, ◌==◌}
use Rattle.std.proofs.lemmas.Bool.{cases_eq, eqb-true}
use Rattle.std.proofs.lemmas.List.{append-nil}
use Rattle.neph_base.specs.Path.{slash}
use Rattle.neph_tree.specs.Places.{front_of_children, is_within, decimal, home}
use Rattle.neph_tree.proofs.Within.{within_same, within_below, within-cases, within_trans}

-- ---- two paths above one
head_same : (x y : ℕ) (xs ys : List ℕ) → x ∷ xs ≡ y ∷ ys → x ≡ y
head_same x y xs ys e = ap (λ l. get_or l 0 0) e

tail_same : (x y : ℕ) (xs ys : List ℕ) → x ∷ xs ≡ y ∷ ys → xs ≡ ys
tail_same x y xs ys e = ap (λ l. drop 1 l) e

fronts : (a b r s : List ℕ) → a ++ r ≡ b ++ s → ((t : List ℕ) × (a ++ t ≡ b)) ⊎ ((t : List ℕ) × (b ++ t ≡ a))
fronts [] b r s e = inl (b, refl)
fronts (x ∷ a) [] r s e = inr (x ∷ a, refl)
fronts (x ∷ a) (y ∷ b) r s e =
    elim (fronts a b r s (tail_same x y _ _ e)) [
      | inl f ↦ inl (f.0, ap (λ l. x ∷ l) f.1 ∙ ap (λ z. z ∷ b) (head_same x y _ _ e))
      | inr f ↦ inr (f.0, ap (λ l. y ∷ l) f.1 ∙ ap (λ z. z ∷ a) (sym (head_same x y _ _ e)))
    ]

none_left : (xs ys : List ℕ) → xs ++ ys ≡ [] → ys ≡ []
none_left [] ys e = e
none_left (x ∷ xs) ys e = absurd cc

front_last : (xs ys b : List ℕ) (z : ℕ) → xs ++ ys ≡ b ++ z ∷ [] → (ys ≡ []) ⊎ ((t : List ℕ) × (b ≡ xs ++ t))
front_last [] ys b z e = inr (b, refl)
front_last (x ∷ xs) ys [] z e = inl (none_left xs ys (tail_same x z _ _ e))
front_last (x ∷ xs) ys (y ∷ b) z e =
    elim (front_last xs ys b z (tail_same x y _ _ e)) [
      | inl f ↦ inl f
      | inr f ↦ inr (f.0, ap (λ w. w ∷ b) (sym (head_same x y _ _ e)) ∙ ap (λ l. x ∷ l) f.1)
    ]

snoc_same : (a b : List ℕ) (z : ℕ) → a ++ z ∷ [] ≡ b ++ z ∷ [] → a ≡ b
snoc_same [] [] z e = refl
snoc_same [] (y ∷ b) z e = absurd (let long = ap (λ l. length l) e in omega (arith, long, length-append b (z ∷ [])))
snoc_same (x ∷ a) [] z e = absurd (let long = ap (λ l. length l) e in omega (arith, long, length-append a (z ∷ [])))
snoc_same (x ∷ a) (y ∷ b) z e = ap (λ w. w ∷ a) (head_same x y _ _ e) ∙ ap (λ l. y ∷ l) (snoc_same a b z (tail_same x y _ _ e))

-- what begins with the front of one path's children lies within it
below_front : (a b t : List ℕ) → front_of_children a ++ t ≡ front_of_children b → (is_within a b ≡ true) ⊎ (is_within b a ≡ true)
below_front a b t e = by (length b == 1) refl where
  short : front_of_children b ≡ b → (is_within a b ≡ true) ⊎ (is_within b a ≡ true)
  short f = inl (ap (λ p. is_within a p) (sym (e ∙ f)) ∙ within_below a t)

  same : (c : Bool) → (length a == 1) ≡ c → front_of_children b ≡ b ++ slash ∷ [] → front_of_children a ≡ b ++ slash ∷ [] → (is_within a b ≡ true) ⊎ (is_within b a ≡ true)
  same true f g h =
      let is : a ≡ front_of_children b ++ [] = sym (ap (λ c. cond c a (a ++ slash ∷ [])) f) ∙ h ∙ sym g ∙ sym (append-nil _) in
      inr (ap (λ p. is_within b p) is ∙ within_below b [])
  same false f g h =
      let is : a ≡ b = snoc_same a b slash (sym (ap (λ c. cond c a (a ++ slash ∷ [])) f) ∙ h) in
      inl (within_same a b (sym is))

  by : (c : Bool) → (length b == 1) ≡ c → (is_within a b ≡ true) ⊎ (is_within b a ≡ true)
  by true f = short (ap (λ c. cond c b (b ++ slash ∷ [])) f)
  by false f =
      let long : front_of_children b ≡ b ++ slash ∷ [] = ap (λ c. cond c b (b ++ slash ∷ [])) f in
      elim (front_last (front_of_children a) t b slash (e ∙ long)) [
        | inl none ↦ same (length a == 1) refl long (sym (append-nil _) ∙ ap (λ l. front_of_children a ++ l) (sym none) ∙ e ∙ long)
        | inr more ↦ inl (ap (λ p. is_within a p) more.1 ∙ within_below a more.0)
      ]

-- one of two paths above the same lies within the other
pub within_either : (a b q : List ℕ) → is_within a q ≡ true → is_within b q ≡ true → (is_within a b ≡ true) ⊎ (is_within b a ≡ true)
within_either a b q wa wb =
    elim (within-cases a q wa) [
      | inl is ↦ inr (ap (λ p. is_within b p) (sym is) ∙ wb)
      | inr ra ↦ elim (within-cases b q wb) [
        | inl is ↦ inl (ap (λ p. is_within a p) (sym is) ∙ wa)
        | inr rb ↦ elim (fronts (front_of_children a) (front_of_children b) ra.0 rb.0 (sym ra.1 ∙ rb.1)) [
          | inl f ↦ below_front a b f.0 f.1
          | inr f ↦ elim (below_front b a f.0 f.1) [ inl w ↦ inr w | inr w ↦ inl w ]
        ]
      ]
    ]

-- ---- two homes
decimal_same : (d e : ℕ) → decimal d ≡ decimal e → d ≡ e
decimal_same d e is = by (nat_lt d 10) (nat_lt e 10) refl refl is where
  by : (x y : Bool) → nat_lt d 10 ≡ x → nat_lt e 10 ≡ y → cond x ((48 + d) ∷ []) ((48 + d / 10) ∷ (48 + d % 10) ∷ []) ≡ cond y ((48 + e) ∷ []) ((48 + e / 10) ∷ (48 + e % 10) ∷ []) → d ≡ e
  by true true f g h = let one = ap (λ l. get_or l 0 0) h in omega (arith, one)
  by true false f g h = absurd (let two = ap (λ l. length l) h in omega (arith, two))
  by false true f g h = absurd (let two = ap (λ l. length l) h in omega (arith, two))
  by false false f g h =
      let high = ap (λ l. get_or l 0 0) h in
      let low = ap (λ l. get_or l 1 0) h in
      omega (arith, high, low)

decimal_more : (d e : ℕ) (r : List ℕ) → decimal e ≡ decimal d ++ slash ∷ r → ⊥
decimal_more d e r is = by (nat_lt d 10) (nat_lt e 10) is where
  by : (x y : Bool) → cond y ((48 + e) ∷ []) ((48 + e / 10) ∷ (48 + e % 10) ∷ []) ≡ cond x ((48 + d) ∷ []) ((48 + d / 10) ∷ (48 + d % 10) ∷ []) ++ slash ∷ r → ⊥
  by true true h = let two = ap (λ l. length l) h in omega (arith, two)
  by true false h = let next = ap (λ l. get_or l 1 0) h in omega (arith, next)
  by false true h = let two = ap (λ l. length l) h in omega (arith, two)
  by false false h = let two = ap (λ l. length l) h in omega (arith, two)

front_home : (d : ℕ) → front_of_children (home d) ≡ home d ++ slash ∷ []
front_home d = by (length (home d) == 1) refl where
  by : (c : Bool) → (length (home d) == 1) ≡ c → cond c (home d) (home d ++ slash ∷ []) ≡ home d ++ slash ∷ []
  by true e = absurd (let one = eqb-true (length (home d)) 1 e in omega (arith, one))
  by false e = refl

home_within : (d e : ℕ) → is_within (home d) (home e) ≡ true → d ≡ e
home_within d e w =
    elim (within-cases (home d) (home e) w) [
      | inl is ↦ decimal_same d e (sym (ap (λ l. drop 14 l) is))
      | inr r ↦ absurd (decimal_more d e r.0 (ap (λ l. drop 14 l) (r.1 ∙ ap (λ f. f ++ r.0) (front_home d)) ∙ append_assoc (decimal d) (slash ∷ []) r.0))
    ]

-- no path is in two of them
pub homes_apart : (d e : ℕ) (q : List ℕ) → is_within (home d) q ≡ true → is_within (home e) q ≡ true → d ≡ e
homes_apart d e q wd we =
    elim (within_either (home d) (home e) q wd we) [ inl w ↦ home_within d e w | inr w ↦ sym (home_within e d w) ]

-- ---- counts, one for each home
not_true : (b : Bool) → (b ≡ true → ⊥) → b ≡ false
not_true true h = absurd (h refl)
not_true false h = refl

pub up_at : (counts : List ℕ) (d : ℕ) (path : List ℕ) → length counts ≡ 64 → d < 64 → is_within (home d) path ≡ true → (e : ℕ) → get_or (set counts d (get_or counts d 0 + 1)) e 0 ≡ get_or counts e 0 + cond (is_within (home e) path) 1 0
up_at counts d path long inside own e =
    elim (cases_eq e d) [
      | inl same ↦
          let lt : d < length counts = omega (arith, long, inside) in
          let now : is_within (home e) path ≡ true = ap (λ x. is_within (home x) path) same ∙ own in
          ap (λ x. get_or (set counts d (get_or counts d 0 + 1)) x 0) same ∙ get_or-set_same counts d (get_or counts d 0 + 1) 0 lt ∙ ap (λ x. get_or counts x 0 + 1) (sym same) ∙ ap (λ b. get_or counts e 0 + cond b 1 0) (sym now)
      | inr apart ↦
          let out : is_within (home e) path ≡ false = not_true _ (λ w. apart (homes_apart e d path w own)) in
          let zero : get_or counts e 0 ≡ get_or counts e 0 + 0 = omega arith in
          get_or-set_other counts d e (get_or counts d 0 + 1) 0 apart ∙ zero ∙ ap (λ b. get_or counts e 0 + cond b 1 0) (sym out)
    ]

pub down_at : (counts : List ℕ) (d gone : ℕ) (top : List ℕ) → length counts ≡ 64 → d < 64 → is_within (home d) top ≡ true → (e : ℕ)
    → get_or (set counts d (get_or counts d 0 - gone)) e 0 ≡ cond (is_within (home e) top) (get_or counts e 0 - gone) (cond (is_within top (home e)) 0 (get_or counts e 0))
down_at counts d gone top long inside own e =
    let v = get_or counts d 0 - gone in
    elim (cases_eq e d) [
      | inl same ↦
          let lt : d < length counts = omega (arith, long, inside) in
          let now : is_within (home e) top ≡ true = ap (λ x. is_within (home x) top) same ∙ own in
          ap (λ x. get_or (set counts d v) x 0) same ∙ get_or-set_same counts d v 0 lt ∙ ap (λ x. get_or counts x 0 - gone) (sym same)
          ∙ ap (λ b. cond b (get_or counts e 0 - gone) (cond (is_within top (home e)) 0 (get_or counts e 0))) (sym now)
      | inr apart ↦
          let out : is_within (home e) top ≡ false = not_true _ (λ w. apart (homes_apart e d top w own)) in
          let off : is_within top (home e) ≡ false = not_true _ (λ w. apart (sym (home_within d e (within_trans (home d) top (home e) own w)))) in
          get_or-set_other counts d e v 0 apart ∙ ap (λ b. cond b 0 (get_or counts e 0)) (sym off) ∙ ap (λ b. cond b (get_or counts e 0 - gone) (cond (is_within top (home e)) 0 (get_or counts e 0))) (sym out)
    ]

-- the homes below a place have been cleared
pub record AreCleared (old now : List ℕ) (top : List ℕ) (d : ℕ) : Type 0 where
  pub long : length now ≡ 64
  pub done : (e : ℕ) → e < d → get_or now e 0 ≡ cond (is_within top (home e)) 0 (get_or old e 0)
  pub left : (e : ℕ) → d ≤ e → get_or now e 0 ≡ get_or old e 0

pub clear_at : (old now next top : List ℕ) (d : ℕ) → d < 64 → AreCleared old now top d → is_within top (home d) ≡ true → next ≡ set now d 0 → AreCleared old next top (d + 1)
clear_at old now next top d inside h own is =
    let lt : d < length now = omega (arith, h.long, inside) in
    record {
      long = ap (λ l. length l) is ∙ length-set now d 0 ∙ h.long;
      done = λ e below. elim (cases_eq e d) [
        | inl same ↦ ap (λ l. get_or l e 0) is ∙ ap (λ x. get_or (set now d 0) x 0) same ∙ get_or-set_same now d 0 0 lt ∙ ap (λ b. cond b 0 (get_or old e 0)) (sym (ap (λ x. is_within top (home x)) same ∙ own))
        | inr apart ↦ ap (λ l. get_or l e 0) is ∙ get_or-set_other now d e 0 0 apart ∙ h.done e (omega (arith, below, apart))
      ];
      left = λ e above. let apart : e ≡ d → ⊥ = λ s. omega (arith, above, s) in ap (λ l. get_or l e 0) is ∙ get_or-set_other now d e 0 0 apart ∙ h.left e (omega (arith, above));
    }

pub skip_home : (old now next top : List ℕ) (d : ℕ) → AreCleared old now top d → is_within top (home d) ≡ false → next ≡ now → AreCleared old next top (d + 1)
skip_home old now next top d h out is = record {
  long = ap (λ l. length l) is ∙ h.long;
  done = λ e below. elim (cases_eq e d) [
    | inl same ↦ ap (λ l. get_or l e 0) is ∙ h.left e (omega (arith, same)) ∙ ap (λ b. cond b 0 (get_or old e 0)) (sym (ap (λ x. is_within top (home x)) same ∙ out))
    | inr apart ↦ ap (λ l. get_or l e 0) is ∙ h.done e (omega (arith, below, apart))
  ];
  left = λ e above. ap (λ l. get_or l e 0) is ∙ h.left e (omega (arith, above));
}
