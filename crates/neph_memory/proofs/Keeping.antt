-- Steps that leave the shared frames of a seat as they were.
use Rattle.std.proofs.Common.{◌≡◌, ◌≢◌, ℕ, List, inl, inr, sym, ap, ◌∙◌}
use Rattle.std.specs.declared.option.Option.{Option}
use Rattle.neph_pool.specs.declared.entry.Entry.{Entry}
use Rattle.neph_pool.specs.Entries.{hold_at, words_at, with_words, IsSoleAt}
use Rattle.neph_ptab.specs.Tables.{IsTable, IsTables, IsRetabled}
use Rattle.neph_memory.proofs.Building.{wiped_holds, wiped_else}
use Rattle.neph_memory.specs.Shared.{SharedStays}

pub shared_same : (es fs : List (Option Entry)) → fs ≡ es → SharedStays es fs
shared_same es fs e = record { holds = λ g. ap (λ (xs : List (Option Entry)). hold_at xs g) e; words = λ g n. ap (λ (xs : List (Option Entry)). words_at xs g) e }

pub shared_trans : (es fs gs : List (Option Entry)) → SharedStays es fs → SharedStays fs gs → SharedStays es gs
shared_trans es fs gs h k = record {
  holds = λ g. k.holds g ∙ h.holds g;
  words = λ g n. k.words g (λ s. n (sym (h.holds g) ∙ s)) ∙ h.words g n;
}

-- other words of a frame that the seat has to itself
pub shared_wiped : (es fs : List (Option Entry)) (f : ℕ) (ws : List ℕ) → IsSoleAt es f → fs ≡ with_words es f ws → SharedStays es fs
shared_wiped es fs f ws s e = record { holds = wiped_holds es fs f ws e; words = λ g n. wiped_else es fs f ws e g (λ k. n (ap (hold_at es) k ∙ s)) }

-- other words of two such frames
pub shared_twice : (es fs : List (Option Entry)) (r f : ℕ) → IsSoleAt es r → IsSoleAt es f → ((g : ℕ) → hold_at fs g ≡ hold_at es g) → ((g : ℕ) → g ≢ r → g ≢ f → words_at fs g ≡ words_at es g) → SharedStays es fs
shared_twice es fs r f s t holds words = record { holds = holds; words = λ g n. words g (λ k. n (ap (hold_at es) k ∙ s)) (λ k. n (ap (hold_at es) k ∙ t)) }

table_sole : (es : List (Option Entry)) (root : ℕ) → IsTables es root → (g : ℕ) → IsTable es root g → IsSoleAt es g
table_sole es root t g (inl e) = ap (hold_at es) e ∙ t.top
table_sole es root t g (inr x) = t.leaves x.0 g x.1 x.2

-- other words of tables
pub shared_retabled : (es fs : List (Option Entry)) (root : ℕ) → IsTables es root → IsRetabled es fs root → SharedStays es fs
shared_retabled es fs root t r = record { holds = r.holds; words = λ g n. r.words g (λ h. n (table_sole es root t g h)) }
