-- The begin of a clone, step by step.
use Rattle.std.proofs.Common.{◌≡◌, ◌++◌, ℕ, List, Some, Option, length, set, refl, sym, ap, subst, ◌∙◌}
use Rattle.neph_base.specs.declared.command.Command.TheVariants.{Clone}
use Rattle.neph_base.specs.declared.reply.Refusal.{Refusal}
use Rattle.neph_base.specs.declared.reply.Reply.TheVariants.{Begun}
use Rattle.neph_model.specs.declared.life.Life.{Life}
use Rattle.neph_model.specs.declared.told.Told.TheVariants.{Free}
use Rattle.neph_model.specs.Machine.{Tables, Exposed, exposed_at, guest_at}
use Rattle.neph_model.specs.Step.{Locked, locked, shared_line}
use Rattle.neph_model.specs.Trap.{need, begin_clone}
use Rattle.neph_pool.specs.declared.entry.Entry.{Entry}
use Rattle.neph_pool.specs.Names.{without_name}
use Rattle.neph_pool.specs.World.{World}
use Rattle.neph_memory.specs.declared.dom_local.DomLocal.{DomLocal}
use Rattle.neph_memory.specs.Memory.{leaf_count}
use Rattle.neph_memory.specs.Domains.{IsUnchanged, domain_leaf_count}
use Rattle.neph_local.specs.declared.forking.Fork.{Fork}
use Rattle.neph_local.specs.Forks.{IsForkInHand}
use Rattle.neph_heap.specs.Lists.{exposed_of, aside_of}
use Rattle.neph_rows.specs.Records.{Records, shared_of}
use Rattle.neph_rows.specs.Row.{refusal_of}
use Rattle.neph_rows.proofs.CloneRows.{clone_refused}
use Rattle.neph_hv.specs.declared.hv.Hv.{Hv}
use Rattle.neph_hv.specs.Hv.{exposed_in, lent_leaves}
use Rattle.neph_hv.specs.Begins.{IsRefused, IsBegun}

abbrev clone_row : Records → List Exposed → ℕ → ℕ → ℕ → Locked
clone_row r pages id n free = shared_line (shared_of r pages) id (lent_leaves n) (Free free) Clone

row_same : (r : Records) (ps qs : List Exposed) (i j m n free : ℕ) → ps ≡ qs → i ≡ j → m ≡ n → clone_row r ps i m free ≡ clone_row r qs j n free
row_same r ps qs i j m n free pages id leaves =
    ap (λ (xs : List Exposed). clone_row r xs i m free) pages ∙ ap (λ (x : ℕ). clone_row r qs x m free) id ∙ ap (λ (x : ℕ). clone_row r qs j x free) leaves

-- the row of a clone that begins, where the exposed pages stay and the child is this one
pub row_begun : (r new : Records) (before after : List Exposed) (id m n free x y : ℕ) → clone_row r before id m free ≡ locked (shared_of new before) (Begun x) → m ≡ n → after ≡ before → y ≡ x
    → clone_row r before id n free ≡ locked (shared_of new after) (Begun y)
row_begun r new before after id m n free x y row leaves pages child =
    ap (λ (k : ℕ). clone_row r before id k free) (sym leaves) ∙ row
    ∙ ap (λ (ps : List Exposed). locked (shared_of new ps) (Begun x)) (sym pages) ∙ ap (λ (k : ℕ). locked (shared_of new after) (Begun k)) (sym child)

records_by : (a b : Records) → a.lives ≡ b.lives → a.tables ≡ b.tables → a ≡ b
records_by a b lives tables =
    let first : a ≡ record { lives = b.lives; tables = a.tables } = ap (λ (x : List (Option Life)). record { lives = x; tables = a.tables }) lives in
    let second : record { lives = b.lives; tables = a.tables } ≡ b = ap (λ (x : Tables). record { lives = b.lives; tables = x }) tables in
    first ∙ second

module _ {Pool Seat : Type 0} (W : World Pool Seat) (p o : Pool) (h : Hv Pool Seat) (d c : DomLocal Pool Seat) (id : c.id ≡ d.id) (pages : exposed_in W o h ≡ exposed_in W p h) where
  -- a clone that began behind a look at its domain
  pub begun_from : (q : Pool) (k : Hv Pool Seat) (e : DomLocal Pool Seat) (fork : Fork Pool Seat) → domain_leaf_count W o c ≡ domain_leaf_count W p d → IsBegun W o h c q k e fork → IsBegun W p h d q k e fork
  begun_from q k e fork leaves b = record {
    row = row_same h.registry (exposed_in W p h) (exposed_in W o h) d.id c.id (domain_leaf_count W p d) (domain_leaf_count W o c) (length h.heap.stock.free) (sym pages) (sym id) (sym leaves) ∙ b.row;
    child = b.child;
    in_hand = b.in_hand;
    first = b.first;
    free = b.free;
    aside = b.aside ∙ ap (λ (i : ℕ). length (exposed_of i h.heap.stock)) id;
    stock = b.stock;
    registry = b.registry ∙ ap (λ (i : ℕ). record h.registry { tables = begin_clone h.registry.tables i (guest_at i h.registry.tables) }) id;
    names = b.names;
  }

  -- one that was refused behind it
  pub refused_from : (n : ℕ) (why : Refusal) → n ≡ domain_leaf_count W p d → Some why ≡ refusal_of h.registry c.id (need (exposed_at c.id (exposed_in W o h)) n) (Free (length h.heap.stock.free)) → IsRefused W p h d o h c why
  refused_from n why leaves e = record {
    row = row_same h.registry (exposed_in W p h) (exposed_in W o h) d.id c.id (domain_leaf_count W p d) n (length h.heap.stock.free) (sym pages) (sym id) (sym leaves)
        ∙ clone_refused h.registry (exposed_in W o h) c.id (lent_leaves n) (Free (length h.heap.stock.free)) why (sym e);
    same = refl;
  }

module _ {Pool Seat : Type 0} (W : World Pool Seat) where
  -- how many leaf tables a domain has that is as it was
  pub count_same : (p : Pool) (d : DomLocal Pool Seat) (q : Pool) (e : DomLocal Pool Seat) → IsUnchanged W p d q e → domain_leaf_count W q e ≡ domain_leaf_count W p d
  count_same p d q e u = ap (λ (es : List (Option Entry)). leaf_count es e.tables.root) u.entries ∙ ap (leaf_count (W.entries p d.seat)) u.root

  -- a clone began: what its calls left
  pub begun_by : (p : Pool) (h : Hv Pool Seat) (d : DomLocal Pool Seat) (q : Pool) (k : Hv Pool Seat) (fork : Fork Pool Seat) (child n b : ℕ) (frames : List ℕ) → fork.child ≡ child → fork.frames.items ≡ frames
      → clone_row h.registry (exposed_in W p h) d.id n (length h.heap.stock.free) ≡ locked (shared_of k.registry (exposed_in W p h)) (Begun b) → n ≡ domain_leaf_count W p d → exposed_in W q k ≡ exposed_in W p h
      → b ≡ h.registry.tables.next → child ≡ h.registry.tables.next → IsForkInHand W q d fork → fork.next ≡ 1
      → h.heap.stock.free ≡ (k.heap.stock.free ++ aside_of child k.heap.stock) ++ frames → length (aside_of child k.heap.stock) ≡ length (exposed_of d.id h.heap.stock)
      → k.heap.stock ≡ record h.heap.stock { free = k.heap.stock.free; aside = set h.heap.stock.aside child (aside_of child k.heap.stock) }
      → k.registry.lives ≡ h.registry.lives → k.registry.tables ≡ begin_clone h.registry.tables d.id (guest_at d.id h.registry.tables) → W.names k.heap.seat ≡ without_name (W.names h.heap.seat) child → IsBegun W p h d q k d fork
  begun_by p h d q k fork child n b frames e fr row leaves pages bn cn in_hand first free aside stock lives tables names = record {
    row = row_begun h.registry k.registry (exposed_in W p h) (exposed_in W q k) d.id n (domain_leaf_count W p d) (length h.heap.stock.free) b fork.child row leaves pages (e ∙ cn ∙ sym bn);
    child = e ∙ cn;
    in_hand = in_hand;
    first = first;
    free = subst (λ (x : ℕ). h.heap.stock.free ≡ (k.heap.stock.free ++ aside_of x k.heap.stock) ++ fork.frames.items) (sym e) (subst (λ (xs : List ℕ). h.heap.stock.free ≡ (k.heap.stock.free ++ aside_of child k.heap.stock) ++ xs) (sym fr) free);
    aside = subst (λ (x : ℕ). length (aside_of x k.heap.stock) ≡ length (exposed_of d.id h.heap.stock)) (sym e) aside;
    stock = subst (λ (x : ℕ). k.heap.stock ≡ record h.heap.stock { free = k.heap.stock.free; aside = set h.heap.stock.aside x (aside_of x k.heap.stock) }) (sym e) stock;
    registry = records_by k.registry (record h.registry { tables = begin_clone h.registry.tables d.id (guest_at d.id h.registry.tables) }) lives tables;
    names = subst (λ (x : ℕ). W.names k.heap.seat ≡ without_name (W.names h.heap.seat) x) (sym e) names;
  }
