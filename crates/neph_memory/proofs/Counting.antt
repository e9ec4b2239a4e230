-- The same holds are as many entries.
use Rattle.std.proofs.Common.{◌≡◌, ◌+◌, ℕ, zero, suc, Bool, List, [], ◌∷◌, length, Some, None, refl, sym, ap, ◌∙◌, arith, if◌then◌else◌}
use Rattle.std.specs.declared.option.Option.{Option}
use Rattle.neph_pool.specs.declared.entry.Entry.{Entry}
use Rattle.neph_pool.specs.Entries.{hold_at, hold_of, is_here, is_entry, entry_count}
use Rattle.neph_pool.proofs.Rows.{count_cons}

here_entry : (x : Option Entry) → is_entry x ≡ is_here (hold_of x)
here_entry None = refl
here_entry (Some e) = refl

pub same_entries : (es fs : List (Option Entry)) → length fs ≡ length es → ((g : ℕ) → hold_at fs g ≡ hold_at es g) → entry_count fs ≡ entry_count es
unfolding hold_at
same_entries [] [] l h = refl
same_entries [] (y ∷ fs) l h = absurd (omega (arith, l))
same_entries (x ∷ es) [] l h = absurd (omega (arith, l))
same_entries (x ∷ es) (y ∷ fs) l h =
    let e : is_entry y ≡ is_entry x = here_entry y ∙ ap is_here (h zero) ∙ sym (here_entry x) in
    let rest : entry_count fs ≡ entry_count es = same_entries es fs (omega (arith, l)) (λ g. h (suc g)) in
    count_cons y fs ∙ ap (λ (b : Bool). (if b then 1 else 0) + entry_count fs) e ∙ ap (λ (n : ℕ). (if is_entry x then 1 else 0) + n) rest ∙ sym (count_cons x es)
