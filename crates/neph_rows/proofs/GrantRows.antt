-- The rows of `ungrant` as entries under the lock.
use Rattle.std.proofs.Common.{◌≡◌, ℕ, List, Option, Some, None, Result, Ok, Err, sym, ap, ◌∙◌}
use Rattle.neph_base.specs.declared.command.Command.TheVariants as command
use Rattle.neph_base.specs.declared.reply.Refusal.{Refusal}
use Rattle.neph_base.specs.declared.reply.Reply.TheVariants.{Done, Refused}
use Rattle.neph_model.specs.declared.life.Life.{Life}
use Rattle.neph_model.specs.declared.told.Told.{Told}
use Rattle.neph_model.specs.Lent.{nothing_lent}
use Rattle.neph_model.specs.Machine.{Exposed, guest_at}
use Rattle.neph_model.specs.Step.{Locked, call_effect, locked, shared_line}
use Rattle.neph_model.specs.Trap.{exposed_bytes, ungrant_call, without_exposed}
use Rattle.neph_rows.specs.Records.{Records, shared_of, without_shares}
use Rattle.neph_rows.specs.Row.{ended_with}

-- the rows by what became of the entry, from the records a to the records b
module _ (a b : Records) (pages : List Exposed) (id r : ℕ) (told : Told) where
  abbrev Row : Result (Option ℕ) Refusal → Type 0
  Row x = ungrant_call (shared_of a pages) id (guest_at id a.tables) r ≡ ended_with (shared_of b pages) id x

  pub refused_row : (why : Refusal) → Row (Err why) → b ≡ a → shared_line (shared_of a pages) id nothing_lent told (command.Ungrant r) ≡ locked (shared_of b pages) (Refused why)
  refused_row why row same = ap (call_effect (shared_of a pages)) row ∙ ap (λ (x : Records). locked (shared_of x pages) (Refused why)) (sym same)

  lives_are : without_shares b ≡ without_shares a → a.lives ≡ b.lives
  lives_are same = sym (ap (λ (x : Records). x.lives) same)

  pub kept_row : (x : Option ℕ) → x ≡ None → Row (Ok x) → without_shares b ≡ without_shares a → shared_line (shared_of a pages) id nothing_lent told (command.Ungrant r) ≡ locked (shared_of b pages) Done
  kept_row x none row same = ap (call_effect (shared_of a pages)) (row ∙ ap (λ (v : Option ℕ). ended_with (shared_of b pages) id (Ok v)) none) ∙ ap (λ (ls : List (Option Life)). locked (record { lives = ls; tables = b.tables; pages = pages }) Done) (lives_are same)

  pub home_row : (pfn : ℕ) (left : List Exposed) (x : Option ℕ) → x ≡ Some pfn → Row (Ok x) → without_shares b ≡ without_shares a → left ≡ without_exposed pages id pfn
      → shared_line (shared_of a pages) id nothing_lent told (command.Ungrant r)
      ≡ record { shared = shared_of b left; reply = Done; back = Some (record { pfn = pfn; bytes = exposed_bytes pages id pfn }) }
  home_row pfn left x some row same is =
      let gives : List (Option Life) → List Exposed → Locked = λ ls ps. record { shared = record { lives = ls; tables = b.tables; pages = ps }; reply = Done; back = Some (record { pfn = pfn; bytes = exposed_bytes pages id pfn }) } in
      ap (call_effect (shared_of a pages)) (row ∙ ap (λ (v : Option ℕ). ended_with (shared_of b pages) id (Ok v)) some) ∙ ap (λ (ls : List (Option Life)). gives ls (without_exposed pages id pfn)) (lives_are same) ∙ ap (gives b.lives) (sym is)
