-- Each row keeps the hypervisor's tables sound.
use Rattle.std.proofs.Common.{◌≡◌, ℕ, zero, suc, ◌+◌, ◌<◌, true, List, [], ◌∷◌, ◌++◌, length, get_or, set, Option, Some, None, All, refl, sym, ap, subst, ◌∙◌, arith}
use Rattle.std.specs.Prelude.{IfSome, is_some, option_map}
use Rattle.std.proofs.lemmas.List.{length-set, length-append, get_or-set_other}
use Rattle.std.proofs.lemmas.List.Elements.{All-nil, All-cons, All-head, All-tail, All-append, All-weaker}
use Rattle.neph_model.specs.declared.life.Life.{Life}
use Rattle.neph_model.specs.declared.life.Guest.{Guest}
use Rattle.neph_model.specs.declared.life.Cloned.{Cloned}
use Rattle.neph_model.specs.Machine.{Exposed, Tables, life_at, guest_at, no_guest, is_live}
use Rattle.neph_model.specs.Births.{commit, child_guest, end_domain}
use Rattle.neph_model.specs.Trap.{begin_clone}
use Rattle.neph_rows.specs.Records.{Records, shared_of, records_in}
use Rattle.neph_rows.specs.Sound.{IsChildOf, IsSoundGuest, IsSoundLife, IsPair, IsSoundRecords, MayBegin}

-- what holds of each item holds of each where one is changed to such a one
pub each_set : {A : Type 0} (P : ℕ → A → Type 0) (xs : List A) (i : ℕ) (x d : A) → ((j : ℕ) → P j (get_or xs j d)) → P i x → (j : ℕ) → P j (get_or (set xs i x) j d)
each_set P [] i x d h new j = h j
each_set P (y ∷ ys) zero x d h new zero = new
each_set P (y ∷ ys) zero x d h new (suc j) = h (suc j)
each_set P (y ∷ ys) (suc i) x d h new zero = h zero
each_set P (y ∷ ys) (suc i) x d h new (suc j) = each_set (λ k. P (suc k)) ys i x d (λ k. h (suc k)) new j

risen_child : (next id c : ℕ) → IsChildOf next id c → IsChildOf (next + 1) id c
risen_child next id c h = (h.0, omega (arith, h.1))

risen_guest : (next id : ℕ) (g : Guest) → IsSoundGuest next id g → IsSoundGuest (next + 1) id g
risen_guest next id g h = record { begun = All-weaker (IsChildOf next id) (IsChildOf (next + 1) id) (risen_child next id) g.begun h.begun; counted = h.counted; few = h.few }

risen_life : (next id : ℕ) (o : Option Life) → IfSome o (IsSoundLife next id) → IfSome o (IsSoundLife (next + 1) id)
risen_life next id None h = tt
risen_life next id (Some l) h = record { drawn = omega (arith, h.drawn); limit = h.limit }

risen_pair : (next : ℕ) (w : Cloned) → IsPair next w → IsPair (next + 1) w
risen_pair next w h = (omega (arith, h.0), omega (arith, h.1))

life_here : (r : Records) (id : ℕ) (l : Life) → IsSoundRecords r → life_at id r.lives ≡ Some l → IsSoundLife r.tables.next id l
life_here r id l h at = subst (λ o. IfSome o (IsSoundLife r.tables.next id)) at (h.lives id)

-- a clone that begins
pub sound_begin : (r : Records) (id : ℕ) → IsSoundRecords r → MayBegin r id → IsSoundRecords (record r { tables = begin_clone r.tables id (guest_at id r.tables) })
sound_begin r id h may =
    let t : Tables = r.tables in
    let next = t.next in
    let g : Guest = guest_at id t in
    let here = life_here r id may.life h may.live in
    let old = risen_guest next id g (h.each id) in
    let one : IsChildOf (next + 1) id next = (here.drawn, omega arith) in
    let new : IsSoundGuest (next + 1) id (record g { begun = g.begun ++ next ∷ []; accepted = g.accepted + 1 }) = record {
      begun = All-append (IsChildOf (next + 1) id) g.begun (next ∷ []) old.begun (All-cons (IsChildOf (next + 1) id) next [] one (All-nil (IsChildOf (next + 1) id)));
      counted = omega (arith, old.counted, length-append g.begun (next ∷ []));
      few = omega (arith, may.below, here.limit);
    } in
    record {
      places = h.places;
      guests = length-set t.guests id (record g { begun = g.begun ++ next ∷ []; accepted = g.accepted + 1 }) ∙ h.guests;
      next_low = omega arith;
      next_high = omega (arith, may.left);
      first = h.first;
      lives = λ j. risen_life next j (life_at j r.lives) (h.lives j);
      each = each_set (IsSoundGuest (next + 1)) t.guests id (record g { begun = g.begun ++ next ∷ []; accepted = g.accepted + 1 }) no_guest (λ j. risen_guest next j (guest_at j t) (h.each j)) new;
      waiting = All-weaker (IsPair next) (IsPair (next + 1)) (risen_pair next) t.waiting h.waiting;
    }

nothing_kept : (next id : ℕ) → IsSoundGuest next id no_guest
nothing_kept next id = record { begun = All-nil (IsChildOf next id); counted = omega arith; few = omega arith }

first_set : (lives : List (Option Life)) (i : ℕ) (o : Option Life) → 0 < i → life_at 0 (set lives i o) ≡ life_at 0 lives
first_set lives i o lt = get_or-set_other lives i 0 o None (λ e. absurd (omega (arith, e)))

-- the first of some clones is a child of its domain
pub first_child : (next id child : ℕ) (left : List ℕ) (g : Guest) → IsSoundGuest next id g → g.begun ≡ child ∷ left → IsChildOf next id child × All (IsChildOf next id) left
first_child next id child left g h e =
    let all : All (IsChildOf next id) (child ∷ left) = subst (All (IsChildOf next id)) e h.begun in
    (All-head (IsChildOf next id) child left all, All-tail (IsChildOf next id) child left all)

-- who is born as another was
born_life : (next id child : ℕ) (o : Option Life) → child < next → IfSome o (IsSoundLife next id) → IfSome (option_map (λ (l : Life). record l { parent = id }) o) (IsSoundLife next child)
born_life next id child None lt h = tt
born_life next id child (Some l) lt h = record { drawn = lt; limit = h.limit }

drawn_live : (next id : ℕ) (o : Option Life) → is_some o ≡ true → IfSome o (IsSoundLife next id) → id < next
drawn_live next id None e h = absurd (cc)
drawn_live next id (Some l) e h = h.drawn

-- a commit of a live domain
pub sound_commit : (r : Records) (pages : List Exposed) (id child : ℕ) (left : List ℕ) → IsSoundRecords r → is_live id r.lives ≡ true → (guest_at id r.tables).begun ≡ child ∷ left → IsSoundRecords (records_in (commit (shared_of r pages) id child left))
sound_commit r pages id child left h live e =
    let t : Tables = r.tables in
    let next = t.next in
    let g : Guest = guest_at id t in
    let parent : Guest = record g { begun = left } in
    let ones = first_child next id child left g (h.each id) e in
    let born : Option Life = option_map (λ (l : Life). record l { parent = id }) (life_at id r.lives) in
    let low : id < next = drawn_live next id (life_at id r.lives) live (h.lives id) in
    let old = h.each id in
    let kept : IsSoundGuest next id parent = record { begun = ones.1; counted = omega (arith, old.counted, ap length e); few = old.few } in
    let pair : Cloned = record { parent = id; child = child } in
    record {
      places = length-set r.lives child born ∙ h.places;
      guests = length-set (set t.guests id parent) child (child_guest g) ∙ length-set t.guests id parent ∙ h.guests;
      next_low = h.next_low;
      next_high = h.next_high;
      first = first_set r.lives child born (omega (arith, ones.0.0)) ∙ h.first;
      lives = each_set (λ j o. IfSome o (IsSoundLife next j)) r.lives child born None h.lives (born_life next id child (life_at id r.lives) ones.0.1 (h.lives id));
      each = each_set (IsSoundGuest next) (set t.guests id parent) child (child_guest g) no_guest (each_set (IsSoundGuest next) t.guests id parent no_guest h.each kept) (record { begun = All-nil (IsChildOf next child); counted = omega arith; few = omega arith });
      waiting = All-append (IsPair next) t.waiting (pair ∷ []) h.waiting (All-cons (IsPair next) pair [] (low, ones.0.1) (All-nil (IsPair next)));
    }

first_end : (lives : List (Option Life)) (i : ℕ) → life_at 0 lives ≡ None → life_at 0 (set lives i None) ≡ None
first_end lives i e = each_set (λ (j : ℕ) (o : Option Life). j ≡ 0 → o ≡ None) lives i None None (λ j z. subst (λ k. life_at k lives ≡ None) (sym z) e) (λ z. refl) 0 refl

-- the end of a domain
pub sound_end : (r : Records) (pages : List Exposed) (id : ℕ) → IsSoundRecords r → IsSoundRecords (records_in (end_domain (shared_of r pages) id))
sound_end r pages id h =
    let t : Tables = r.tables in
    record {
      places = length-set r.lives id None ∙ h.places;
      guests = length-set t.guests id no_guest ∙ h.guests;
      next_low = h.next_low;
      next_high = h.next_high;
      first = first_end r.lives id h.first;
      lives = each_set (λ j o. IfSome o (IsSoundLife t.next j)) r.lives id None None h.lives tt;
      each = each_set (IsSoundGuest t.next) t.guests id no_guest no_guest h.each (nothing_kept t.next id);
      waiting = h.waiting;
    }
