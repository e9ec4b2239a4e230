-- The frames of a domain, given up one by one.
use Rattle.std.proofs.Common.{◌≡◌, ◌≢◌, ◌<◌, ◌≤◌, ◌+◌, ◌⊎◌, inl, inr, ℕ, true, false, List, [], length, Some, None, refl, sym, ap, subst, ◌∙◌, arith}
use Rattle.std.specs.declared.option.Option.{Option}
use Rattle.neph_pool.specs.declared.entry.Entry.{Entry}
use Rattle.neph_pool.specs.declared.entry.Hold.{Hold}
use Rattle.neph_pool.specs.declared.entry.Hold.TheVariants.{Zero, Sole, Counted}
use Rattle.neph_pool.specs.Entries.{hold_at, is_here, is_held, weight_of, IsOnceAt, IsSoleAt, IsZeroAt}
use Rattle.neph_pool.proofs.Rows.{same_or_not}
use Rattle.neph_ptab.specs.Tables.{leaf_at, IsTable}
use Rattle.neph_memory.specs.declared.own.Own.{Own}
use Rattle.neph_memory.specs.Pages.{frame_at}
use Rattle.neph_memory.specs.Memory.{IsPageAt, IsSpareAt, IsMemory}
use Rattle.neph_memory.specs.Building.{IsAmong}
use Rattle.neph_memory.proofs.Places.{some_same, frame_small}
use Rattle.neph_local.specs.Freed.{AreZero, Freed}

-- what is left of a domain's frames: the root, the leaf tables from i on, the pages from n on and the spare
abbrev pub IsLeft : List (Option Entry) → ℕ → Own → ℕ → ℕ → ℕ → Type 0
IsLeft es root o n i g = (g ≡ root) ⊎ (((j : ℕ) × (i ≤ j) × (j < 512) × (leaf_at es root j ≡ Some g)) ⊎ (((p : ℕ) × (n ≤ p) × (frame_at o.map.pages p ≡ Some g)) ⊎ IsSpareAt o g))

-- from the entries es: what is left is held as it was, and all else is listed
pub record Ends (es fs : List (Option Entry)) (Left : ℕ → Type 0) (freed : List ℕ) : Type 0 where
  pub same : (g : ℕ) → Left g → hold_at fs g ≡ hold_at es g
  pub done : (g : ℕ) → is_here (hold_at fs g) ≡ true → Left g ⊎ IsZeroAt fs g
  pub lists : Freed fs freed

none_some : (g : ℕ) → None ≡ Some g → ⊥
none_some g e = cc

pub found_or_not : (x : Option ℕ) (g : ℕ) → (x ≡ Some g) ⊎ (x ≢ Some g)
found_or_not None g = inr (none_some g)
found_or_not (Some f) g = by_case (same_or_not f g) where
  by_case : (f ≡ g) ⊎ (f ≢ g) → (Some f ≡ Some g) ⊎ (Some f ≢ Some g)
  by_case (inl e) = inl (ap Some e)
  by_case (inr n) = inr (λ e. n (some_same f g e))

zero_here : (h : Option Hold) → is_held h ≡ false → is_here h ≡ true → h ≡ Some Zero
zero_here None a b = absurd (let z : false ≡ true = b in cc)
zero_here (Some Zero) a b = refl
zero_here (Some Sole) a b = absurd (let z : true ≡ false = a in cc)
zero_here (Some (Counted n)) a b = absurd (let z : true ≡ false = a in cc)

zero_once : (h : Option Hold) → weight_of h ≡ 1 → h ≡ Some Zero → ⊥
zero_once None a b = omega (arith, a)
zero_once (Some Zero) a b = omega (arith, a)
zero_once (Some Sole) a b = cc
zero_once (Some (Counted n)) a b = cc

zero_sole : (h : Option Hold) → h ≡ Some Sole → h ≡ Some Zero → ⊥
zero_sole h a b = cc

-- one more frame is given up, or none
module _ (es fs gs : List (Option Entry)) (L L' : ℕ → Type 0) (xs ys : List ℕ) (x : Option ℕ) (e : Ends es fs L xs)
    (fewer : (g : ℕ) → L' g → L g × (x ≢ Some g)) (rest : (g : ℕ) → L g → (x ≡ Some g) ⊎ L' g)
    (gone : (f : ℕ) → x ≡ Some f → is_held (hold_at gs f) ≡ false) (holds : (g : ℕ) → x ≢ Some g → hold_at gs g ≡ hold_at fs g) (freed : Freed gs ys) where
  done_rest : (g : ℕ) → x ≢ Some g → (x ≡ Some g) ⊎ L' g → L' g ⊎ IsZeroAt gs g
  done_rest g n (inl d) = absurd (n d)
  done_rest g n (inr l) = inl l

  done_by : (g : ℕ) → x ≢ Some g → L g ⊎ IsZeroAt fs g → L' g ⊎ IsZeroAt gs g
  done_by g n (inl l) = done_rest g n (rest g l)
  done_by g n (inr z) = inr (holds g n ∙ z)

  done : (g : ℕ) → is_here (hold_at gs g) ≡ true → (x ≡ Some g) ⊎ (x ≢ Some g) → L' g ⊎ IsZeroAt gs g
  done g h (inl d) = inr (zero_here (hold_at gs g) (gone g d) h)
  done g h (inr n) = done_by g n (e.done g (ap is_here (sym (holds g n)) ∙ h))

  pub ended_more : Ends es gs L' ys
  ended_more = record {
    same = λ g l. holds g (fewer g l).1 ∙ e.same g (fewer g l).0;
    done = λ g h. done g h (found_or_not x g);
    lists = freed;
  }

module _ (es : List (Option Entry)) (root : ℕ) (o : Own) (m : IsMemory es root o) where
  table_sole : (g : ℕ) → IsTable es root g → IsSoleAt es g
  table_sole g (inl e) = subst (IsSoleAt es) (sym e) m.made.tables.top
  table_sole g (inr t) = m.made.tables.leaves t.0 g t.1 t.2

  start_left : (g : ℕ) → IsTable es root g ⊎ (IsPageAt o g ⊎ IsSpareAt o g) → IsLeft es root o 0 0 g
  start_left g (inl (inl e)) = inl e
  start_left g (inl (inr t)) = inr (inl (t.0, omega arith, t.1, t.2))
  start_left g (inr (inl q)) = inr (inr (inl (q.0, omega arith, q.1)))
  start_left g (inr (inr s)) = inr (inr (inr s))

  not_zero : (g : ℕ) → IsTable es root g ⊎ (IsPageAt o g ⊎ IsSpareAt o g) → IsZeroAt es g → ⊥
  not_zero g (inl t) z = zero_sole (hold_at es g) (table_sole g t) z
  not_zero g (inr (inl q)) z = zero_once (hold_at es g) (m.made.held q.0 g q.1) z
  not_zero g (inr (inr s)) z = zero_sole (hold_at es g) (m.spare g s) z

  not_among : (g : ℕ) → IsAmong [] g → ⊥
  not_among g h = let z : false ≡ true = h in cc

  -- nothing is given up yet
  pub ends_start : Ends es es (IsLeft es root o 0 0) []
  ends_start = record {
    same = λ g l. refl;
    done = λ g h. inl (start_left g (m.made.only g h));
    lists = record { once = tt; zero = λ g. (λ h. absurd (not_among g h), λ z. absurd (not_zero g (m.made.only g (ap is_here z)) z)) };
  }

  page_fewer : (n g : ℕ) → IsLeft es root o (n + 1) 0 g → IsLeft es root o n 0 g × (frame_at o.map.pages n ≢ Some g)
  page_fewer n g (inl e) = (inl e, λ h. m.made.plain n g h (inl e))
  page_fewer n g (inr (inl t)) = (inr (inl t), λ h. m.made.plain n g h (inr (t.0, t.2, t.3)))
  page_fewer n g (inr (inr (inl q))) = (inr (inr (inl (q.0, omega (arith, q.1), q.2))), λ h. let k : n ≡ q.0 = m.made.apart n q.0 g h q.2 in omega (arith, k, q.1))
  page_fewer n g (inr (inr (inr s))) = (inr (inr (inr s)), λ h. m.made.blank n g s h)

  page_rest : (n g : ℕ) → IsLeft es root o n 0 g → (frame_at o.map.pages n ≡ Some g) ⊎ IsLeft es root o (n + 1) 0 g
  page_rest n g (inl e) = inr (inl e)
  page_rest n g (inr (inl t)) = inr (inr (inl t))
  page_rest n g (inr (inr (inl q))) = by_case (same_or_not q.0 n) where
    by_case : (q.0 ≡ n) ⊎ (q.0 ≢ n) → (frame_at o.map.pages n ≡ Some g) ⊎ IsLeft es root o (n + 1) 0 g
    by_case (inl e) = inl (ap (frame_at o.map.pages) (sym e) ∙ q.2)
    by_case (inr k) = inr (inr (inr (inl (q.0, omega (arith, k, q.1), q.2))))
  page_rest n g (inr (inr (inr s))) = inr (inr (inr (inr s)))

  leaf_fewer : (n i g : ℕ) → i < 512 → IsLeft es root o n (i + 1) g → IsLeft es root o n i g × (leaf_at es root i ≢ Some g)
  leaf_fewer n i g lt (inl e) = (inl e, λ h. m.made.tables.below i g lt h e)
  leaf_fewer n i g lt (inr (inl t)) = (inr (inl (t.0, omega (arith, t.1), t.2, t.3)), λ h. let k : i ≡ t.0 = m.made.tables.apart i t.0 g lt t.2 h t.3 in omega (arith, k, t.1))
  leaf_fewer n i g lt (inr (inr (inl q))) = (inr (inr (inl q)), λ h. m.made.plain q.0 g q.2 (inr (i, lt, h)))
  leaf_fewer n i g lt (inr (inr (inr s))) = (inr (inr (inr s)), λ h. m.made.unused g s (inr (i, lt, h)))

  leaf_rest : (n i g : ℕ) → IsLeft es root o n i g → (leaf_at es root i ≡ Some g) ⊎ IsLeft es root o n (i + 1) g
  leaf_rest n i g (inl e) = inr (inl e)
  leaf_rest n i g (inr (inl t)) = by_case (same_or_not t.0 i) where
    by_case : (t.0 ≡ i) ⊎ (t.0 ≢ i) → (leaf_at es root i ≡ Some g) ⊎ IsLeft es root o n (i + 1) g
    by_case (inl e) = inl (ap (leaf_at es root) (sym e) ∙ t.3)
    by_case (inr k) = inr (inr (inl (t.0, omega (arith, k, t.1), t.2, t.3)))
  leaf_rest n i g (inr (inr r)) = inr (inr (inr r))

  abbrev IsRoot : ℕ → Type 0
  IsRoot g = g ≡ root

  abbrev Nothing : ℕ → Type 0
  Nothing g = ⊥

  spare_fewer : (n g : ℕ) → IsRoot g → IsLeft es root o n 512 g × (o.spare ≢ Some g)
  spare_fewer n g e = (inl e, λ s. m.made.unused g s (inl e))

  spare_rest : (n g : ℕ) → length o.map.pages ≤ n → IsLeft es root o n 512 g → (o.spare ≡ Some g) ⊎ IsRoot g
  spare_rest n g le (inl e) = inr e
  spare_rest n g le (inr (inl t)) = absurd (omega (arith, t.1, t.2))
  spare_rest n g le (inr (inr (inl q))) = let k = frame_small o.map.pages q.0 g q.2 in absurd (omega (arith, le, k, q.1))
  spare_rest n g le (inr (inr (inr s))) = inl s

  root_fewer : (g : ℕ) → Nothing g → IsRoot g × (Some root ≢ Some g)
  root_fewer g h = absurd h

  root_rest : (g : ℕ) → IsRoot g → (Some root ≡ Some g) ⊎ Nothing g
  root_rest g e = inl (ap Some (sym e))

  module _ (fs : List (Option Entry)) (xs : List ℕ) where
    pub page_once : (n f : ℕ) → Ends es fs (IsLeft es root o n 0) xs → frame_at o.map.pages n ≡ Some f → IsOnceAt fs f
    page_once n f e h = ap weight_of (e.same f (inr (inr (inl (n, omega arith, h))))) ∙ m.made.held n f h

    pub leaf_once : (n i f : ℕ) → i < 512 → Ends es fs (IsLeft es root o n i) xs → leaf_at es root i ≡ Some f → IsOnceAt fs f
    leaf_once n i f lt e h = ap weight_of (e.same f (inr (inl (i, omega arith, lt, h))) ∙ m.made.tables.leaves i f lt h)

    pub spare_once : (n f : ℕ) → Ends es fs (IsLeft es root o n 512) xs → o.spare ≡ Some f → IsOnceAt fs f
    spare_once n f e h = ap weight_of (e.same f (inr (inr (inr h))) ∙ m.spare f h)

    pub root_sole : (n i : ℕ) → Ends es fs (IsLeft es root o n i) xs → IsSoleAt fs root
    root_sole n i e = e.same root (inl refl) ∙ m.made.tables.top

    pub root_once : (f : ℕ) → Ends es fs IsRoot xs → Some root ≡ Some f → IsOnceAt fs f
    root_once f e h = let d : f ≡ root = sym (some_same root f h) in ap weight_of (e.same f d ∙ subst (IsSoleAt es) (sym d) m.made.tables.top)

    module _ (gs : List (Option Entry)) (ys : List ℕ) (freed : Freed gs ys) where
      pub ended_page : (n : ℕ) → Ends es fs (IsLeft es root o n 0) xs → ((f : ℕ) → frame_at o.map.pages n ≡ Some f → is_held (hold_at gs f) ≡ false)
          → ((g : ℕ) → frame_at o.map.pages n ≢ Some g → hold_at gs g ≡ hold_at fs g) → Ends es gs (IsLeft es root o (n + 1) 0) ys
      ended_page n e gone holds = ended_more es fs gs (IsLeft es root o n 0) (IsLeft es root o (n + 1) 0) xs ys (frame_at o.map.pages n) e (page_fewer n) (page_rest n) gone holds freed

      pub ended_leaf : (n i : ℕ) → i < 512 → Ends es fs (IsLeft es root o n i) xs → ((f : ℕ) → leaf_at es root i ≡ Some f → is_held (hold_at gs f) ≡ false)
          → ((g : ℕ) → leaf_at es root i ≢ Some g → hold_at gs g ≡ hold_at fs g) → Ends es gs (IsLeft es root o n (i + 1)) ys
      ended_leaf n i lt e gone holds = ended_more es fs gs (IsLeft es root o n i) (IsLeft es root o n (i + 1)) xs ys (leaf_at es root i) e (λ g. leaf_fewer n i g lt) (leaf_rest n i) gone holds freed

      pub ended_spare : (n : ℕ) → length o.map.pages ≤ n → Ends es fs (IsLeft es root o n 512) xs → ((f : ℕ) → o.spare ≡ Some f → is_held (hold_at gs f) ≡ false)
          → ((g : ℕ) → o.spare ≢ Some g → hold_at gs g ≡ hold_at fs g) → Ends es gs IsRoot ys
      ended_spare n le e gone holds = ended_more es fs gs (IsLeft es root o n 512) IsRoot xs ys o.spare e (spare_fewer n) (λ g. spare_rest n g le) gone holds freed

      pub ended_root : Ends es fs IsRoot xs → ((f : ℕ) → Some root ≡ Some f → is_held (hold_at gs f) ≡ false)
          → ((g : ℕ) → Some root ≢ Some g → hold_at gs g ≡ hold_at fs g) → AreZero gs
      ended_root e gone holds = λ g h. by_case g ((ended_more es fs gs IsRoot Nothing xs ys (Some root) e root_fewer root_rest gone holds freed).done g h) where
        by_case : (g : ℕ) → Nothing g ⊎ IsZeroAt gs g → IsZeroAt gs g
        by_case g (inl n) = absurd n
        by_case g (inr z) = z
