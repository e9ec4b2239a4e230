-- A child whose leaf tables are copies of its parent's, and whose identity page was moved into its
-- own frame.
use Rattle.std.proofs.Common.{◌≡◌, ◌<◌, ◌≤◌, ◌/◌, ◌%◌, ◌^◌, ◌&&◌, ◌||◌, not, ◌⊎◌, inl, inr, if◌then◌else◌, ℕ, zero, suc, Bool, true, false, List, [], ◌∷◌, length, slice_get, is_some, Some, None, IsSome, refl, sym, ap, subst, ◌∙◌, arith}
use Rattle.std.specs.declared.option.Option.{Option}
use Rattle.neph_pool.specs.declared.entry.Entry.{Entry}
use Rattle.neph_pool.specs.declared.entry.Hold.{Hold}
use Rattle.neph_pool.specs.Bytes.{bytes_of}
use Rattle.neph_pool.specs.Entries.{hold_at, is_here, weight_of, IsSoleAt}
use Rattle.neph_ptab.specs.declared.walk.Walk.{Walk}
use Rattle.neph_ptab.specs.declared.walk.Walk.TheVariants.{None as Unmapped, Local, Exposed}
use Rattle.neph_ptab.specs.Moves.{IsLocal, moved_walk, is_shown, walk_moved}
use Rattle.neph_ptab.specs.Tables.{leaf_at, walk_by, walk_at, IsTable, IsRetabled}
use Rattle.neph_gmap.specs.declared.page.Page.{Page}
use Rattle.neph_gmap.specs.declared.page.Page.TheVariants.{Local as At, Exposed as Away}
use Rattle.neph_gmap.specs.GuestPages.{vpns_at, page_in}
use Rattle.neph_memory.specs.declared.own.Own.{Own}
use Rattle.neph_memory.specs.Pages.{frame_at}
use Rattle.neph_memory.specs.Memory.{mapping, pfn_by, wanted_by, vpn_mapping, is_marked, bytes_for, page_bytes, IsPageAt, LeadsTo, IsMade, IsMemory}
use Rattle.neph_memory.specs.Building.{IsAmong}
use Rattle.neph_memory.specs.Shared.{SharedStays}
use Rattle.neph_memory.proofs.Places.{page_in_at, away_none}
use Rattle.neph_memory.proofs.Placing.{away_small}
use Rattle.neph_local.specs.Copies.{AreCopied}

some_same : (a b : ℕ) → Some a ≡ Some b → a ≡ b
some_same a b e = cc

some_not : (x : Option ℕ) → IsSome x → x ≡ None → ⊥
some_not None s e = cc
some_not (Some f) s e = cc

local_not : (f : ℕ) (b c : Bool) → Unmapped ≡ Local f b c → ⊥
local_not f b c e = cc

weighs : (h : Option Hold) → h ≡ None → weight_of h ≡ 1 → ⊥
weighs h e w = absurd (let k = ap weight_of e in omega (arith, k, w))

and_not : (b : Bool) → ((b && true) && (b && not true)) ≡ false
and_not true = refl
and_not false = refl

or_not : (b : Bool) → ((b && true) || (b && not true)) ≡ b
or_not true = refl
or_not false = refl

-- a page that is there and has no frame is exposed
away_there : (ps : List Page) (p : ℕ) → p < length ps → frame_at ps p ≡ None → slice_get ps p ≡ Some Away
unfolding frame_at
away_there [] p lt e = absurd (omega arith)
away_there (At f ∷ ps) zero lt e = absurd (cc)
away_there (Away ∷ ps) zero lt e = refl
away_there (x ∷ ps) (suc p) lt e = away_there ps p (omega (arith, lt)) e

none_left : (xs : List ℕ) (g : ℕ) → length xs ≡ 0 → IsAmong xs g → ⊥
none_left [] g e h = cc
none_left (x ∷ xs) g e h = omega (arith, e)

-- what a walk of the parent is in the child
record IsMoved (gs : List (Option Entry)) (o : Own) (ps : List Page) (w v : Walk) : Type 0 where
  pub leads : LeadsTo gs o v
  pub pfn : pfn_by o.map.pages v ≡ pfn_by ps w
  pub wanted : wanted_by v ≡ wanted_by w

module _ (es : List (Option Entry)) (top : ℕ) (od : Own) (m : IsMemory es top od) (cs fs gs : List (Option Entry)) (root : ℕ) (oc : Own) (waits left : List ℕ) (mc : IsMade cs root oc (IsAmong waits))
    (a : AreCopied es top cs fs root waits left 512) (sole : (g : ℕ) → IsAmong waits g → IsSoleAt cs g) (count : length oc.map.pages ≡ length od.map.pages) (frames : (x : ℕ) → 1 ≤ x → frame_at oc.map.pages x ≡ frame_at od.map.pages x)
    (identity : IsSome (frame_at od.map.pages 0)) (frame : ℕ) (at : frame_at oc.map.pages 0 ≡ Some frame) (marked : is_marked oc 0 ≡ true) where
  full : (u : ℕ) → u < 2 ^ 18 → walk_at fs root u ≡ walk_at es top u
  full u lt = a.walks u lt (omega (arith, lt))

  -- the identity page is local in the parent
  shown_local_by : (w : Walk) → LeadsTo es od w → pfn_by od.map.pages w ≡ Some 0 → IsLocal w
  shown_local_by Unmapped l e = absurd (cc)
  shown_local_by (Local f b c) l e = tt
  shown_local_by (Exposed p b) l e = absurd (some_not (frame_at od.map.pages 0) identity (ap (frame_at od.map.pages) (sym (some_same p 0 e)) ∙ away_none od.map.pages p l))

  pub first_local : (u : ℕ) → u < 2 ^ 18 → is_shown u (vpns_at od.map 0) ≡ true → IsLocal (walk_at fs root u)
  first_local u lt h = subst IsLocal (sym (full u lt)) (shown_local_by (walk_at es top u) (m.made.walks u lt) ((m.made.listed 0 u lt).0 h))

  -- where the parent maps something, what it has to itself the child lacks
  exclusive : (u f : ℕ) (b c : Bool) → u < 2 ^ 18 → walk_at es top u ≡ Local f b c → (g : ℕ) → IsSoleAt es g → hold_at cs g ≡ None
  exclusive u f b c lt e = by (leaf_at es top (u / 512)) refl where
    by : (x : Option ℕ) → leaf_at es top (u / 512) ≡ x → (g : ℕ) → IsSoleAt es g → hold_at cs g ≡ None
    by None h = absurd (local_not f b c (sym (ap (λ (y : Option ℕ). walk_by es y (u % 512)) h) ∙ e))
    by (Some x) h = a.alone (u / 512) (omega (arith, lt)) (subst IsSome (sym h) refl)

  on_parent : (p f : ℕ) → frame_at od.map.pages p ≡ Some f → page_in f od.map.pages ≡ Some p
  on_parent p f e = page_in_at od.map.pages p f e (λ q h. m.made.apart q p f h e)

  on_child : (p f : ℕ) → frame_at oc.map.pages p ≡ Some f → page_in f oc.map.pages ≡ Some p
  on_child p f e = page_in_at oc.map.pages p f e (λ q h. mc.apart q p f h e)

  back : (g : ℕ) → IsTable fs root g → (g ≡ root) ⊎ IsAmong waits g
  back g (inl e) = inl e
  back g (inr x) = inr (a.named x.0 g x.1 x.2)

  no_page : (p g : ℕ) → frame_at oc.map.pages p ≡ Some g → (g ≡ root) ⊎ IsAmong waits g → ⊥
  no_page p g h (inl e) = mc.plain p g h (inl e)
  no_page p g h (inr w) = mc.blank p g w h

  module _ (none : (i : ℕ) → i < 512 → leaf_at cs root i ≡ None) (gone : length left ≡ 0) (r : IsRetabled fs gs root)
      (walks : (u : ℕ) → u < 2 ^ 18 → walk_at gs root u ≡ walk_moved frame true (vpns_at od.map 0) u (walk_at fs root u)) where
    abbrev pub tabled : Own
    tabled = record { map = record { pages = oc.map.pages; vpns = od.map.vpns }; marks = oc.marks; spare = oc.spare }

    pub tabled_holds : (g : ℕ) → hold_at gs g ≡ hold_at cs g
    tabled_holds g = r.holds g ∙ a.holds g

    away_by : (p : ℕ) → slice_get od.map.pages p ≡ Some Away → slice_get oc.map.pages p ≡ Some Away
    away_by zero l = absurd (some_not (frame_at od.map.pages 0) identity (away_none od.map.pages 0 l))
    away_by (suc p) l = away_there oc.map.pages (suc p) (let s = away_small od.map.pages (suc p) l in omega (arith, s, count)) (frames (suc p) (omega arith) ∙ away_none od.map.pages (suc p) l)

    local_by : (u f : ℕ) (b c : Bool) → u < 2 ^ 18 → walk_at es top u ≡ Local f b c → is_shown u (vpns_at od.map 0) ≡ false → (p : ℕ) → frame_at od.map.pages p ≡ Some f → frame_at oc.map.pages p ≡ Some f
    local_by u f b c lt e hidden zero l =
        let pfn : pfn_by od.map.pages (walk_at es top u) ≡ Some 0 = ap (pfn_by od.map.pages) e ∙ on_parent 0 f l in
        let yes = (m.made.listed 0 u lt).1 pfn in absurd (let z : true ≡ false = sym yes ∙ hidden in cc)
    local_by u f b c lt e hidden (suc p) l = frames (suc p) (omega arith) ∙ l

    moved_by : (u : ℕ) → u < 2 ^ 18 → (s : Bool) → is_shown u (vpns_at od.map 0) ≡ s → (w : Walk) → walk_at es top u ≡ w → LeadsTo es od w → IsMoved gs tabled od.map.pages w (if s then moved_walk frame true w else w)
    moved_by u lt true h Unmapped e l = record { leads = tt; pfn = refl; wanted = refl }
    moved_by u lt false h Unmapped e l = record { leads = tt; pfn = refl; wanted = refl }
    moved_by u lt true h (Exposed p b) e l = record { leads = away_by p l; pfn = refl; wanted = refl }
    moved_by u lt false h (Exposed p b) e l = record { leads = away_by p l; pfn = refl; wanted = refl }
    moved_by u lt true h (Local f b c) e l = record {
      leads = ((0, at), λ y. tabled_holds frame ∙ (mc.sole 0 frame at).0 marked, and_not (b || c));
      pfn = on_child 0 frame at ∙ sym (sym (ap (pfn_by od.map.pages) e) ∙ (m.made.listed 0 u lt).0 h);
      wanted = or_not (b || c);
    }
    moved_by u lt false h (Local f b c) e l =
        let there = local_by u f b c lt e h l.0.0 l.0.1 in record {
          leads = ((l.0.0, there), λ y. absurd (weighs (hold_at cs f) (exclusive u f b c lt e f (l.1 y)) (mc.held l.0.0 f there)), l.2);
          pfn = on_child l.0.0 f there ∙ sym (on_parent l.0.0 f l.0.1);
          wanted = refl;
        }

    abbrev then_walk : ℕ → Walk
    then_walk u = walk_moved frame true (vpns_at od.map 0) u (walk_at es top u)

    walk_is : (u : ℕ) → u < 2 ^ 18 → walk_at gs root u ≡ then_walk u
    walk_is u lt = walks u lt ∙ ap (λ (w : Walk). walk_moved frame true (vpns_at od.map 0) u w) (full u lt)

    moved : (u : ℕ) → u < 2 ^ 18 → IsMoved gs tabled od.map.pages (walk_at es top u) (then_walk u)
    moved u lt = moved_by u lt (is_shown u (vpns_at od.map 0)) refl (walk_at es top u) refl (m.made.walks u lt)

    gs_back : (g : ℕ) → IsTable gs root g → (g ≡ root) ⊎ IsAmong waits g
    gs_back g (inl e) = inl e
    gs_back g (inr x) = inr (a.named x.0 g x.1 (sym (r.leaves x.0 x.1) ∙ x.2))

    forth : (g : ℕ) → IsTable fs root g → IsTable gs root g
    forth g (inl e) = inl e
    forth g (inr x) = inr (x.0, x.1, r.leaves x.0 x.1 ∙ x.2)

    taken : (g : ℕ) → IsAmong left g ⊎ IsTable fs root g → IsTable gs root g
    taken g (inl h) = absurd (none_left left g gone h)
    taken g (inr t) = forth g t

    only_by : (g : ℕ) → IsTable cs root g ⊎ (IsPageAt oc g ⊎ IsAmong waits g) → IsTable gs root g ⊎ (IsPageAt tabled g ⊎ IsAmong left g)
    only_by g (inl (inl e)) = inl (inl e)
    only_by g (inl (inr x)) = absurd (some_not (leaf_at cs root x.0) (subst IsSome (sym x.2) refl) (none x.0 x.1))
    only_by g (inr (inl q)) = inr (inl q)
    only_by g (inr (inr w)) = inl (taken g (a.used g w))

    pub tabled_made : IsMade gs root tabled (IsAmong left)
    tabled_made = record {
      tables = r.tables;
      few = mc.few;
      lists = m.made.lists ∙ sym count;
      marks = mc.marks;
      held = λ p f h. ap weight_of (tabled_holds f) ∙ mc.held p f h;
      plain = λ p f h t. no_page p f h (gs_back f t);
      apart = mc.apart;
      sole = λ p f h. let w = mc.sole p f h in (λ x. tabled_holds f ∙ w.0 x, λ x. w.1 (sym (tabled_holds f) ∙ x));
      once = λ f h. absurd (none_left left f gone h);
      unused = λ f h t. none_left left f gone h;
      blank = λ p f h e. none_left left f gone h;
      only = λ f h. only_by f (mc.only f (ap is_here (sym (tabled_holds f)) ∙ h));
      walks = λ u lt. subst (LeadsTo gs tabled) (sym (walk_is u lt)) (moved u lt).leads;
      listed = λ p u lt.
          let same = ap (pfn_by oc.map.pages) (walk_is u lt) ∙ (moved u lt).pfn in
          let w = m.made.listed p u lt in (λ h. same ∙ w.0 h, λ h. w.1 (sym same ∙ h));
    }

    pub tabled_mappings : (u : ℕ) → u < 2 ^ 18 → vpn_mapping gs root oc.map.pages u ≡ vpn_mapping es top od.map.pages u
    tabled_mappings u lt =
        ap (λ (w : Walk). mapping (pfn_by oc.map.pages w) (wanted_by w)) (walk_is u lt)
        ∙ ap (λ (x : Option ℕ). mapping x (wanted_by (then_walk u))) (moved u lt).pfn
        ∙ ap (λ (b : Bool). mapping (pfn_by od.map.pages (walk_at es top u)) b) (moved u lt).wanted

    pub tabled_leaves : (i : ℕ) → i < 512 → is_some (leaf_at gs root i) ≡ is_some (leaf_at es top i)
    tabled_leaves i lt = ap is_some (r.leaves i lt) ∙ a.there i lt

    bytes_by : (p : ℕ) (x : Option ℕ) → frame_at oc.map.pages p ≡ x → bytes_for gs x ≡ bytes_for cs x
    bytes_by p None h = refl
    bytes_by p (Some g) h =
        ap (λ (ws : List ℕ). Some (bytes_of ws))
        (r.words g (λ t. no_page p g h (back g t)) ∙ a.words g (λ e. no_page p g h (inl e)) (λ w. no_page p g h (inr w)))

    pub tabled_bytes : (p : ℕ) → page_bytes gs oc.map.pages p ≡ page_bytes cs oc.map.pages p
    tabled_bytes p = bytes_by p (frame_at oc.map.pages p) refl

    table_sole : (g : ℕ) → (g ≡ root) ⊎ IsAmong waits g → IsSoleAt cs g
    table_sole g (inl e) = subst (IsSoleAt cs) (sym e) mc.tables.top
    table_sole g (inr w) = sole g w

    pub tabled_shared : SharedStays cs gs
    tabled_shared = record {
      holds = tabled_holds;
      words = λ g n. r.words g (λ t. n (table_sole g (back g t))) ∙ a.words g (λ e. n (table_sole g (inl e))) (λ w. n (table_sole g (inr w)));
    }

    pub tabled_once : (g : ℕ) → IsAmong left g → IsSoleAt gs g
    tabled_once g h = absurd (none_left left g gone h)
