-- What an account has for something else than pages, where its id's state stays.
use Rattle.std.proofs.Common.{◌≡◌, ℕ, ◌+◌, Bool, length, sym, ap, ◌∙◌, if◌then◌else◌}
use Rattle.neph_model.specs.Machine.{is_live, own_at}
use Rattle.neph_model.specs.Books.{State, book_at, table_frames, aside_for}
use Rattle.neph_accounts.specs.Places.{holding_of}
use Rattle.neph_accounts.specs.Accounts.{Account}
use Rattle.neph_accounts.specs.Budgets.{HasTables, HasAside}

-- the same domain, with the same leaf tables and as much of a spare
pub tables_kept : {Seat : Type 0} (st now : State) (id : ℕ) (a b : Account Seat)
    → is_live id now.machine.shared.lives ≡ is_live id st.machine.shared.lives
    → length (own_at id now.machine.own).leaves ≡ length (own_at id st.machine.own).leaves
    → (book_at id now.books).spare ≡ (book_at id st.books).spare
    → length (holding_of b.domain).own ≡ length (holding_of a.domain).own → HasTables st id a
    → HasTables now id b
tables_kept st now id a b live leaves spare own h = own ∙ h
    ∙ sym (ap
    (λ (x : Bool). (if x then table_frames now.machine id else 0) +
    (if (book_at id now.books).spare then 1 else 0)) live
    ∙ ap (λ (n : ℕ). (if is_live id st.machine.shared.lives then 1 + n else 0) +
    (if (book_at id now.books).spare then 1 else 0)) leaves
    ∙ ap (λ (x : Bool).
    (if is_live id st.machine.shared.lives then table_frames st.machine id else 0) +
    (if x then 1 else 0)) spare)

-- the same domain, with as many clones in flight, each of which needs as much
pub aside_kept : {Seat : Type 0} (st now : State) (id : ℕ) (a b : Account Seat)
    → is_live id now.machine.shared.lives ≡ is_live id st.machine.shared.lives
    → aside_for now.machine id ≡ aside_for st.machine id
    → length (holding_of b.flight).own + length b.aside ≡ length
    (holding_of a.flight).own + length a.aside → HasAside st id a → HasAside now id b
aside_kept st now id a b live aside own h = own ∙ h
    ∙ sym (ap (λ (x : Bool). if x then aside_for now.machine id else 0) live
    ∙ ap (λ (n : ℕ). if is_live id st.machine.shared.lives then n else 0) aside)
