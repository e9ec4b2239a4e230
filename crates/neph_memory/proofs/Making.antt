-- A memory while it is built, and one that stands.
use Rattle.std.proofs.Common.{◌≡◌, ◌<◌, ◌≤◌, ◌+◌, ◌⊎◌, inl, inr, ℕ, List, [], ◌∷◌, length, Some, None, sym, ◌∙◌, arith, IsSome, subst, ap}
use Rattle.neph_memory.specs.Pages.{frame_at}
use Rattle.neph_gmap.specs.declared.page.Page.{Page}
use Rattle.std.specs.declared.option.Option.{Option}
use Rattle.neph_pool.specs.declared.entry.Entry.{Entry}
use Rattle.neph_pool.specs.Entries.{hold_at, IsSoleAt}
use Rattle.neph_pool.proofs.Entries.{once_here}
use Rattle.neph_ptab.specs.declared.walk.Walk.{Walk}
use Rattle.neph_ptab.specs.declared.walk.Walk.TheVariants.{None as Unmapped, Local, Exposed}
use Rattle.neph_ptab.specs.Tables.{leaf_at, walk_at, IsTable}
use Rattle.neph_memory.specs.declared.own.Own.{Own}
use Rattle.neph_pool.specs.World.{World, Moves}
use Rattle.neph_memory.proofs.Rooming.{room_after}
use Rattle.neph_memory.specs.Memory.{leaf_count, LeadsTo, IsPageAt, IsSpareAt, IsMemory, Stands, IsMade}
use Rattle.neph_memory.specs.Building.{Rest, IsAmong, Builds}

module _ (es : List (Option Entry)) (root : ℕ) (o : Own) (A : ℕ → Type 0) (m : IsMade es root o A) where
  -- the frames that wait, told otherwise
  pub made_as : (B : ℕ → Type 0) → ((g : ℕ) → A g → B g) → ((g : ℕ) → B g → A g) → IsMade es root o B
  made_as B to from = record {
    tables = m.tables;
    few = m.few;
    lists = m.lists;
    marks = m.marks;
    held = m.held;
    plain = m.plain;
    apart = m.apart;
    sole = m.sole;
    once = λ g b. m.once g (from g b);
    unused = λ g b. m.unused g (from g b);
    blank = λ q g b. m.blank q g (from g b);
    only = λ g h. still g (m.only g h);
    walks = m.walks;
    listed = m.listed;
  } where
    still : (g : ℕ) → IsTable es root g ⊎ (IsPageAt o g ⊎ A g) → IsTable es root g ⊎ (IsPageAt o g ⊎ B g)
    still g (inl t) = inl t
    still g (inr (inl q)) = inr (inl q)
    still g (inr (inr a)) = inr (inr (to g a))

  pub to_rest : (g : ℕ) → A g → Rest es root o g
  to_rest g a = (once_here es g (m.once g a), (m.unused g a, λ q. m.blank q.0 g a q.1))

  pub from_rest : (g : ℕ) → Rest es root o g → A g
  from_rest g r = by_case (m.only g r.0) where
    by_case : IsTable es root g ⊎ (IsPageAt o g ⊎ A g) → A g
    by_case (inl t) = absurd (r.1.0 t)
    by_case (inr (inl q)) = absurd (r.1.1 q)
    by_case (inr (inr a)) = a

  -- they are all entries that are no table and no page
  pub made_rest : IsMade es root o (Rest es root o)
  made_rest = made_as (Rest es root o) to_rest from_rest

  -- the memory stands where the one frame that waits is the spare
  pub made_memory : ((g : ℕ) → A g → IsSpareAt o g) → ((g : ℕ) → IsSpareAt o g → A g) → ((g : ℕ) → A g → IsSoleAt es g) → IsMemory es root o
  made_memory to from sole = record {
    made = made_as (IsSpareAt o) to from;
    spare = λ g s. sole g (from g s);
  }

none_spare : (x : Option ℕ) (g : ℕ) → x ≡ None → x ≡ Some g → ⊥
none_spare x g a b = cc

none_in : (xs : List ℕ) (g : ℕ) → length xs ≡ 0 → IsAmong xs g → ⊥
none_in [] g e h = cc
none_in (x ∷ xs) g e h = omega (arith, e)

-- the build is done where no frame waits
pub builds_stands : {Pool Seat : Type 0} (W : World Pool Seat) (p : Pool) (s : Seat) (id root : ℕ) (o : Own) (xs : List ℕ) → Builds W p s id root o xs → length xs ≡ 0 → o.spare ≡ None → IsSome (frame_at o.map.pages 0) → length o.map.pages + 2 + leaf_count (W.entries p s) root ≤ W.cap p → Stands W p s id root o
builds_stands W p s id root o xs b e none own room = record {
  identity = own;
  room = room;
  fits = b.fits;
  names = b.names;
  memory = made_memory (W.entries p s) root o (IsAmong xs) b.made (λ g h. absurd (none_in xs g e h)) (λ g h. absurd (none_spare o.spare g none h)) (λ g h. b.sole g h);
}

-- the same where the spare alone differs
pub made_own : (es : List (Option Entry)) (root : ℕ) (o : Own) (x : Option ℕ) (A : ℕ → Type 0) → IsMade es root o A → IsMade es root (record o { spare = x }) A
made_own es root o x A m = record {
  tables = m.tables;
  few = m.few;
  lists = m.lists;
  marks = m.marks;
  held = m.held;
  plain = m.plain;
  apart = m.apart;
  sole = m.sole;
  once = m.once;
  unused = m.unused;
  blank = m.blank;
  only = m.only;
  walks = λ v lt. same_leads (walk_at es root v) (m.walks v lt);
  listed = m.listed;
} where
  same_leads : (w : Walk) → LeadsTo es o w → LeadsTo es (record o { spare = x }) w
  same_leads Unmapped l = tt
  same_leads (Local f b c) l = l
  same_leads (Exposed p b) l = l

no_number : (g : ℕ) → None ≡ Some g → ⊥
no_number g e = cc

-- no frame waits, and no spare is held
pub memory_bare : (es : List (Option Entry)) (root : ℕ) (o : Own) → IsMade es root o (λ _. ⊥) → IsMemory es root (record o { spare = None })
memory_bare es root o m = made_memory es root (record o { spare = None }) (λ _. ⊥) (made_own es root o None (λ _. ⊥) m) (λ g h. absurd h) (λ g h. absurd (no_number g h)) (λ g h. absurd h)

-- the memory goes on with the same spare
pub stands_after : {Pool Seat : Type 0} (W : World Pool Seat) (p : Pool) (s : Seat) (q : Pool) (t : Seat) (id root top : ℕ) (o o' : Own) → Stands W p s id root o → Moves W p s q t
    → IsMade (W.entries q t) top o' (Rest (W.entries p s) root o) → ((g : ℕ) → hold_at (W.entries q t) g ≡ hold_at (W.entries p s) g) → o'.spare ≡ o.spare → o'.map.pages ≡ o.map.pages → ((i : ℕ) → i < 512 → leaf_at (W.entries q t) top i ≡ leaf_at (W.entries p s) root i) → Stands W q t id top o'
stands_after W p s q t id root top o o' b m made holds same pages leaves =
    let old = b.memory.made in record {
      fits = m.fits;
      names = m.names ∙ b.names;
      identity = subst (λ (ps : List Page). IsSome (frame_at ps 0)) (sym pages) b.identity;
      room = room_after (W.entries p s) (W.entries q t) root top (length o.map.pages) (length o'.map.pages) (W.cap p) (W.cap q) b.room (ap (λ (ps : List Page). length ps) pages) leaves m.others.cap;
      memory = made_memory (W.entries q t) top o' (Rest (W.entries p s) root o) made (λ g h. same ∙ from_rest (W.entries p s) root o (IsSpareAt o) old g h) (λ g h. to_rest (W.entries p s) root o (IsSpareAt o) old g (sym same ∙ h))
          (λ g h. holds g ∙ b.memory.spare g (from_rest (W.entries p s) root o (IsSpareAt o) old g h));
    }
