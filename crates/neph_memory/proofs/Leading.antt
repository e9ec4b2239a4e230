-- What a walk leads to.
use Rattle.std.proofs.Common.{◌≡◌, ◌<◌, ◌^◌, ◌||◌, ℕ, Bool, true, false, List, take, drop, Some, None, Ok, Err, refl, sym, ap, subst, ◌∙◌, arith, eq-eqb}
use Rattle.std.specs.declared.option.Option.{Option}
use Rattle.neph_model.specs.declared.memory.Mapping.{Mapping}
use Rattle.neph_pool.specs.declared.entry.Entry.{Entry}
use Rattle.neph_pool.specs.declared.entry.Hold.{Hold}
use Rattle.neph_pool.specs.declared.entry.Hold.TheVariants.{Zero, Sole, Counted}
use Rattle.neph_pool.specs.Entries.{hold_at, weight_of, is_held, IsHeldAt, IsSoleAt}
use Rattle.neph_pool.specs.Names.{IsNamed, only_name}
use Rattle.neph_ptab.specs.declared.walk.Walk.{Walk}
use Rattle.neph_ptab.specs.declared.walk.Walk.TheVariants.{None as Unmapped, Local, Exposed}
use Rattle.neph_ptab.specs.Tables.{walk_at}
use Rattle.neph_memory.specs.declared.own.Own.{Own}
use Rattle.neph_base.specs.declared.command.Mode.TheVariants.{Ro, Rw}
use Rattle.neph_memory.specs.declared.touch.Touch.TheVariants as touch
use Rattle.neph_memory.specs.declared.write.WriteStep.{WriteStep}
use Rattle.neph_memory.specs.declared.write.WriteStep.TheVariants as step
use Rattle.neph_memory.proofs.Places.{page_in_at, frame_there, away_none}
use Rattle.neph_pool.specs.Bytes.{bytes_at}
use Rattle.neph_memory.specs.Pages.{frame_at}
use Rattle.neph_gmap.specs.GuestPages.{page_in, IsUnaliased}
use Rattle.neph_memory.specs.Memory.{mode_of, mapping, pfn_by, wanted_by, vpn_mapping, bytes_for, page_bytes, IsPageAt, LeadsTo, IsMemory}
use Rattle.neph_memory.specs.Steps.{read_answer, read_page, IsStepOn, IsWriteStep}

-- a seat with one name is named
pub named : (ns : ℕ → Bool) (id : ℕ) → ns ≡ only_name id → IsNamed ns
named ns id e = (id, ap (λ (f : ℕ → Bool). f id) e ∙ eq-eqb id id refl)

held_once : (h : Option Hold) → weight_of h ≡ 1 → is_held h ≡ true
held_once None e = absurd (omega arith)
held_once (Some Zero) e = absurd (omega arith)
held_once (Some Sole) e = refl
held_once (Some (Counted n)) e = refl

module _ (es : List (Option Entry)) (root : ℕ) (o : Own) (m : IsMemory es root o) where
  pub on : (p f : ℕ) → frame_at o.map.pages p ≡ Some f → page_in f o.map.pages ≡ Some p
  on p f e = page_in_at o.map.pages p f e (λ q h. m.made.apart q p f h e)

  pub unaliased : IsUnaliased o.map.pages
  unaliased p q f a b = m.made.apart p q f (frame_there o.map.pages p f a) (frame_there o.map.pages q f b)

  -- the page that was found in a frame
  pub found : (p f : ℕ) (r : Option ℕ) → (IsUnaliased o.map.pages → r ≡ page_in f o.map.pages) → frame_at o.map.pages p ≡ Some f → r ≡ Some p
  found p f r first e = first unaliased ∙ on p f e

  pub leads : (v : ℕ) (w : Walk) → v < 2 ^ 18 → walk_at es root v ≡ w → LeadsTo es o w
  leads v w lt e = subst (LeadsTo es o) e (m.made.walks v lt)

  pub local_held : (v f : ℕ) (b c : Bool) → v < 2 ^ 18 → walk_at es root v ≡ Local f b c → IsHeldAt es f
  local_held v f b c lt e = let l : LeadsTo es o (Local f b c) = leads v (Local f b c) lt e in held_once (hold_at es f) (m.made.held l.0.0 f l.0.1)

  pub read_local : (v at n f : ℕ) (b c : Bool) → v < 2 ^ 18 → walk_at es root v ≡ Local f b c
      → read_answer (page_bytes es o.map.pages) (vpn_mapping es root o.map.pages v) at n ≡ Ok (take n (drop at (bytes_at es f)))
  read_local v at n f b c lt e =
      let l : LeadsTo es o (Local f b c) = leads v (Local f b c) lt e in
      let p : ℕ = l.0.0 in
      ap (λ (w : Walk). read_answer (page_bytes es o.map.pages) (mapping (pfn_by o.map.pages w) (wanted_by w)) at n) e
      ∙ ap (λ (x : Option ℕ). read_answer (page_bytes es o.map.pages) (mapping x (b || c)) at n) (on p f l.0.1)
      ∙ ap (λ (x : Option ℕ). read_page (bytes_for es x) p at n) l.0.1

  pub read_away : (v at n p : ℕ) (b : Bool) → v < 2 ^ 18 → walk_at es root v ≡ Exposed p b
      → read_answer (page_bytes es o.map.pages) (vpn_mapping es root o.map.pages v) at n ≡ Err (touch.Exposed p)
  read_away v at n p b lt e =
      let l : LeadsTo es o (Exposed p b) = leads v (Exposed p b) lt e in
      ap (λ (w : Walk). read_answer (page_bytes es o.map.pages) (mapping (pfn_by o.map.pages w) (wanted_by w)) at n) e
      ∙ ap (λ (x : Option ℕ). read_page (bytes_for es x) p at n) (away_none o.map.pages p l)

  pub read_none : (v at n : ℕ) → walk_at es root v ≡ Unmapped
      → read_answer (page_bytes es o.map.pages) (vpn_mapping es root o.map.pages v) at n ≡ Err touch.Unmapped
  read_none v at n e = ap (λ (w : Walk). read_answer (page_bytes es o.map.pages) (mapping (pfn_by o.map.pages w) (wanted_by w)) at n) e

  -- what a virtual page of the domain's own shows
  pub shown_local : (v f : ℕ) (b c : Bool) → v < 2 ^ 18 → walk_at es root v ≡ Local f b c → (p : ℕ) → frame_at o.map.pages p ≡ Some f → vpn_mapping es root o.map.pages v ≡ Some (record { pfn = p; mode = mode_of (b || c) })
  shown_local v f b c lt e p at =
      ap (λ (w : Walk). mapping (pfn_by o.map.pages w) (wanted_by w)) e ∙ ap (λ (x : Option ℕ). mapping x (b || c)) (on p f at)

  pub local_page : (v f : ℕ) (b c : Bool) → v < 2 ^ 18 → walk_at es root v ≡ Local f b c → IsPageAt o f
  local_page v f b c lt e = let l : LeadsTo es o (Local f b c) = leads v (Local f b c) lt e in l.0

  pub local_sole : (v f : ℕ) (b c : Bool) → v < 2 ^ 18 → walk_at es root v ≡ Local f b c → b ≡ true → IsSoleAt es f
  local_sole v f b c lt e t = let l : LeadsTo es o (Local f b c) = leads v (Local f b c) lt e in l.1 t

  abbrev IsReady : WriteStep → Type 0
  IsReady step.Done = Unit {0}
  IsReady step.Copying = Unit {0}
  IsReady _ = ⊥

  ready : (bytes : List ℕ) (p : ℕ) (s : WriteStep) → IsReady s → IsStepOn (Some bytes) (record { pfn = p; mode = Rw }) s
  ready bytes p step.Done h = tt
  ready bytes p step.Copying h = tt
  ready bytes p step.Unmapped h = absurd h
  ready bytes p step.ReadOnly h = absurd h
  ready bytes p (step.Exposed q) h = absurd h

  pub step_ready : (v f : ℕ) (b c : Bool) (s : WriteStep) → v < 2 ^ 18 → walk_at es root v ≡ Local f b c → (b || c) ≡ true → IsReady s → IsWriteStep (page_bytes es o.map.pages) (vpn_mapping es root o.map.pages v) s
  step_ready v f b c s lt e t h =
      let at = local_page v f b c lt e in
      subst (λ (x : Option Mapping). IsWriteStep (page_bytes es o.map.pages) x s) (sym (shown_local v f b c lt e at.0 at.1 ∙ ap (λ (k : Bool). Some (record { pfn = at.0; mode = mode_of k })) t))
      (subst (λ (x : Option ℕ). IsStepOn (bytes_for es x) (record { pfn = at.0; mode = Rw }) s) (sym at.1) (ready (bytes_at es f) at.0 s h))

  pub step_readonly : (v f : ℕ) (b c : Bool) → v < 2 ^ 18 → walk_at es root v ≡ Local f b c → (b || c) ≡ false → IsWriteStep (page_bytes es o.map.pages) (vpn_mapping es root o.map.pages v) step.ReadOnly
  step_readonly v f b c lt e t =
      let at = local_page v f b c lt e in
      subst (λ (x : Option Mapping). IsWriteStep (page_bytes es o.map.pages) x step.ReadOnly) (sym (shown_local v f b c lt e at.0 at.1 ∙ ap (λ (k : Bool). Some (record { pfn = at.0; mode = mode_of k })) t))
      (subst (λ (x : Option ℕ). IsStepOn (bytes_for es x) (record { pfn = at.0; mode = Ro }) step.ReadOnly) (sym at.1) refl)

  pub step_away : (v p : ℕ) (b : Bool) → v < 2 ^ 18 → walk_at es root v ≡ Exposed p b → IsWriteStep (page_bytes es o.map.pages) (vpn_mapping es root o.map.pages v) (step.Exposed p)
  step_away v p b lt e =
      let l : LeadsTo es o (Exposed p b) = leads v (Exposed p b) lt e in
      subst (λ (x : Option Mapping). IsWriteStep (page_bytes es o.map.pages) x (step.Exposed p)) (sym (ap (λ (w : Walk). mapping (pfn_by o.map.pages w) (wanted_by w)) e))
      (subst (λ (x : Option ℕ). IsStepOn (bytes_for es x) (record { pfn = p; mode = mode_of b }) (step.Exposed p)) (sym (away_none o.map.pages p l)) refl)
