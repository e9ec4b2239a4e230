-- Tables that a row changes piece by piece.
use Rattle.std.proofs.Common.{◌≡◌, ℕ, ◌<◌, length, List, [], ◌∷◌, ◌++◌, get_or, set, Option, Some, None, sym, ap, ◌∙◌}
use Rattle.std.specs.Prelude.{slice_get, option_map}
use Rattle.neph_base.specs.declared.reply.Reply.TheVariants.{Child}
use Rattle.neph_model.specs.declared.life.Life.{Life}
use Rattle.neph_model.specs.declared.life.Guest.{Guest}
use Rattle.neph_model.specs.declared.life.Cloned.{Cloned}
use Rattle.neph_model.specs.Machine.{Exposed, life_at, guest_at, no_guest, exposed_at}
use Rattle.neph_model.specs.Births.{commit, child_guest, child_exposed}
use Rattle.neph_model.specs.Step.{locked, shared_commit}
use Rattle.std.proofs.lemmas.List.{get_or_default}
use Rattle.neph_rows.specs.Records.{Records, shared_of, records_in}

abbrev pub made : List (Option Life) → List Guest → ℕ → List Cloned → Records
made lives guests next waiting = record { lives = lives; tables = record { guests = guests; next = next; waiting = waiting } }

pub same_records : (lives lives' : List (Option Life)) (guests guests' : List Guest) (next : ℕ) (waiting waiting' : List Cloned) → lives ≡ lives' → guests ≡ guests' → waiting ≡ waiting'
    → made lives guests next waiting ≡ made lives' guests' next waiting'
same_records lives lives' guests guests' next waiting waiting' l g w =
    ap (λ (x : List (Option Life)). made x guests next waiting) l ∙ ap (λ (x : List Guest). made lives' x next waiting) g ∙ ap (λ (x : List Cloned). made lives' guests' next x) w

-- the first of some children, and those behind it
pub first_split : (xs : List ℕ) (x : ℕ) → slice_get xs 0 ≡ Some x → (left : List ℕ) × (xs ≡ x ∷ left)
first_split [] x e = absurd (cc)
first_split (y ∷ ys) x e = (ys, ap (λ k. k ∷ ys) (cc))

-- the row of a commit
pub commit_row : (r new : Records) (pages after : List Exposed) (dom child : ℕ) (left begun : List ℕ) → begun ≡ child ∷ left → new ≡ records_in (commit (shared_of r pages) dom child left)
    → after ≡ set pages child (child_exposed (exposed_at dom pages)) → shared_commit (shared_of r pages) dom begun ≡ locked (shared_of new after) (Child child)
commit_row r new pages after dom child left begun b n p =
    ap (shared_commit (shared_of r pages) dom) b ∙ sym (ap (λ (x : Records). locked (shared_of x after) (Child child)) n ∙ ap (λ (x : List Exposed). locked (shared_of (records_in (commit (shared_of r pages) dom child left)) x) (Child child)) p)

-- the tables that a commit leaves
pub commit_made : (r : Records) (dom child : ℕ) (left : List ℕ) (lives : List (Option Life)) (guests : List Guest) (waiting : List Cloned)
    → lives ≡ set r.lives child (option_map (λ (l : Life). record l { parent = dom }) (life_at dom r.lives))
    → guests ≡ set (set r.tables.guests dom (record (guest_at dom r.tables) { begun = left })) child (child_guest (guest_at dom r.tables))
    → waiting ≡ r.tables.waiting ++ record { parent = dom; child = child } ∷ []
    → made lives guests r.tables.next waiting ≡ records_in (commit (shared_of r []) dom child left)
commit_made r dom child left lives guests waiting l g w = same_records lives _ guests _ r.tables.next waiting _ l g w

-- who is live, as read at an id
pub life_read : (lives : List (Option Life)) (i id : ℕ) (o : Option Life) → id < length lives → i ≡ id → o ≡ get_or lives i o → o ≡ life_at id lives
life_read lives i id o lt same is = is ∙ ap (λ k. get_or lives k o) same ∙ sym (get_or_default lives id None o lt)
