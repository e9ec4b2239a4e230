-- Walks whose page moves, and tables that stay.
use Rattle.std.proofs.Common.{◌≡◌, ◌<◌, ◌||◌, ◌&&◌, inl, inr, if◌then◌else◌, ℕ, Bool, true, false, List, refl, sym, ap, ◌∙◌}
use Rattle.std.specs.declared.option.Option.{Option}
use Rattle.neph_pool.specs.declared.entry.Entry.{Entry}
use Rattle.neph_ptab.specs.declared.walk.Walk.{Walk}
use Rattle.neph_ptab.specs.declared.walk.Walk.TheVariants.{None as Unmapped, Local, Exposed}
use Rattle.neph_ptab.specs.Moves.{moved_walk, walk_moved}
use Rattle.neph_ptab.specs.Tables.{leaf_at, IsTable}
use Rattle.neph_gmap.specs.GuestPages.{has_number}

-- a walk after its page has moved to a frame of the domain's alone
abbrev pub moved_to : ℕ → Walk → Walk
moved_to g Unmapped = Unmapped
moved_to g (Local f rw shared) = Local g (rw || shared) false
moved_to g (Exposed p rw) = Exposed p rw

-- a walk whose page may be in other domains
abbrev pub shared_in : ℕ → Walk → Walk
shared_in g Unmapped = Unmapped
shared_in g (Local f rw shared) = Local g false (rw || shared)
shared_in g (Exposed p rw) = Exposed p rw

and_true : (b : Bool) → (b && true) ≡ b
and_true true = refl
and_true false = refl

and_false : (b : Bool) → (b && false) ≡ false
and_false true = refl
and_false false = refl

alone_walk : (to : ℕ) (w : Walk) → moved_walk to true w ≡ moved_to to w
alone_walk to Unmapped = refl
alone_walk to (Local f b c) = ap (λ (x : Bool). Local to x ((b || c) && false)) (and_true (b || c)) ∙ ap (λ (x : Bool). Local to (b || c) x) (and_false (b || c))
alone_walk to (Exposed p b) = refl

shared_walk : (to : ℕ) (w : Walk) → moved_walk to false w ≡ shared_in to w
shared_walk to Unmapped = refl
shared_walk to (Local f b c) = ap (λ (x : Bool). Local to x ((b || c) && true)) (and_false (b || c)) ∙ ap (λ (x : Bool). Local to false x) (and_true (b || c))
shared_walk to (Exposed p b) = refl

pub moved_alone : (to : ℕ) (vpns : List ℕ) (u : ℕ) (w : Walk) → walk_moved to true vpns u w ≡ (if has_number u vpns then moved_to to w else w)
moved_alone to vpns u w = ap (λ (x : Walk). if has_number u vpns then x else w) (alone_walk to w)

pub moved_shared : (to : ℕ) (vpns : List ℕ) (u : ℕ) (w : Walk) → walk_moved to false vpns u w ≡ (if has_number u vpns then shared_in to w else w)
moved_shared to vpns u w = ap (λ (x : Walk). if has_number u vpns then x else w) (shared_walk to w)

-- the tables are the same frames
pub same_tables : (es fs : List (Option Entry)) (root f : ℕ) → ((i : ℕ) → i < 512 → leaf_at fs root i ≡ leaf_at es root i) → IsTable fs root f → IsTable es root f
same_tables es fs root f h (inl e) = inl e
same_tables es fs root f h (inr x) = inr (x.0, x.1, sym (h x.0 x.1) ∙ x.2)
