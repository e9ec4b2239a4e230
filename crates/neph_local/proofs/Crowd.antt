-- One of many domains changes.
use Rattle.std.proofs.Common.{◌≡◌, ◌≢◌, ◌<◌, ◌==◌, ◌⊎◌, inl, inr, ℕ, zero, suc, Bool, true, List, [], ◌∷◌, length, set, slice_get, get_or, Some, None, IfSome, refl, sym, ap, subst, ◌∙◌, arith, eqb-true}
use Rattle.std.specs.declared.option.Option.{Option}
use Rattle.neph_pool.specs.Names.{IsApart, only_name}
use Rattle.neph_pool.specs.World.{World, Moves}
use Rattle.neph_pool.proofs.Rows.{same_or_not}
use Rattle.neph_memory.specs.declared.dom_local.DomLocal.{DomLocal}
use Rattle.neph_memory.proofs.Standing.{stands_spared}
use Rattle.neph_memory.specs.Domains.{IsStanding}
use Rattle.neph_local.specs.Crowd.{AllStand, HaveOwnIds}

pub index_is : {X : Type 0} (xs : List X) (i : ℕ) (d : X) → i < length xs → slice_get xs i ≡ Some (get_or xs i d)
index_is [] i d lt = absurd (omega arith)
index_is (x ∷ xs) zero d lt = refl
index_is (x ∷ xs) (suc i) d lt = index_is xs i d (omega arith)

set_here : {X : Type 0} (xs : List X) (i : ℕ) (y : X) → i < length xs → slice_get (set xs i y) i ≡ Some y
set_here [] i y lt = absurd (omega arith)
set_here (x ∷ xs) zero y lt = refl
set_here (x ∷ xs) (suc i) y lt = set_here xs i y (omega arith)

set_else : {X : Type 0} (xs : List X) (i j : ℕ) (y : X) → j ≢ i → slice_get (set xs i y) j ≡ slice_get xs j
set_else [] i j y n = refl
set_else (x ∷ xs) zero zero y n = absurd (n refl)
set_else (x ∷ xs) zero (suc j) y n = refl
set_else (x ∷ xs) (suc i) zero y n = refl
set_else (x ∷ xs) (suc i) (suc j) y n = set_else xs i j y (λ e. n (ap suc e))

some_inj : {X : Type 0} (a b : X) → Some a ≡ Some b → a ≡ b
some_inj a b e = cc

pub if_some : {X : Type 0} (P : X → Type 0) (o : Option X) (x : X) → IfSome o P → o ≡ Some x → P x
if_some P None x h e = absurd (cc)
if_some P (Some y) x h e = subst P (some_inj y x e) h

same_id : (x a b : ℕ) → (x == a) ≡ true → (x == b) ≡ true → a ≡ b
same_id x a b h k = sym (eqb-true x a h) ∙ eqb-true x b k

pub ids_apart : (ms ns : ℕ → Bool) (a b : ℕ) → ms ≡ only_name a → ns ≡ only_name b → a ≢ b → IsApart ms ns
ids_apart ms ns a b e h n x p q = n (same_id x a b (sym (ap (λ (f : ℕ → Bool). f x) e) ∙ p) (sym (ap (λ (f : ℕ → Bool). f x) h) ∙ q))

module _ {Pool Seat : Type 0} (W : World Pool Seat) (p q : Pool) (ds : List (DomLocal Pool Seat)) (i : ℕ) (d d' : DomLocal Pool Seat) (at : slice_get ds i ≡ Some d) (lt : i < length ds) (own : HaveOwnIds ds) (same : d'.id ≡ d.id) where
  stand_by : (j : ℕ) (e : DomLocal Pool Seat) → AllStand W p ds → IsStanding W q d' → Moves W p d.seat q d'.seat → (j ≡ i) ⊎ (j ≢ i) → slice_get (set ds i d') j ≡ Some e → IsStanding W q e
  stand_by j e all new m (inl h) g = subst (IsStanding W q) (some_inj d' e (sym (set_here ds i d' lt) ∙ ap (slice_get (set ds i d')) (sym h) ∙ g)) new
  stand_by j e all new m (inr n) g =
      let old = sym (set_else ds i j d' n) ∙ g in
      let st = all j e old in
      let apart = ids_apart (W.names d.seat) (W.names e.seat) d.id e.id (all i d at).names st.names (λ h. n (sym (own i j d e at old h))) in
      stands_spared W (W.names d.seat) p q e.seat e.id e.tables.root e.own st m.others apart

  pub all_after : AllStand W p ds → IsStanding W q d' → Moves W p d.seat q d'.seat → AllStand W q (set ds i d')
  all_after all new m j e g = stand_by j e all new m (same_or_not j i) g

  -- what stands at a place, with the id that stood there
  before : (j : ℕ) (e : DomLocal Pool Seat) → (j ≡ i) ⊎ (j ≢ i) → slice_get (set ds i d') j ≡ Some e → (x : DomLocal Pool Seat) × (slice_get ds j ≡ Some x) × (x.id ≡ e.id)
  before j e (inl h) g = (d, ap (slice_get ds) h ∙ at, sym same ∙ ap (λ (x : DomLocal Pool Seat). x.id) (some_inj d' e (sym (set_here ds i d' lt) ∙ ap (slice_get (set ds i d')) (sym h) ∙ g)))
  before j e (inr n) g = (e, sym (set_else ds i j d' n) ∙ g, refl)

  pub ids_after : HaveOwnIds (set ds i d')
  ids_after j k e f g h s =
      let x = before j e (same_or_not j i) g in
      let y = before k f (same_or_not k i) h in
      own j k x.0 y.0 x.1 y.1 (x.2 ∙ s ∙ sym y.2)
