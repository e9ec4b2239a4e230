-- The spare becomes a leaf table.
use Rattle.std.proofs.Common.{◌≡◌, ◌≢◌, ◌<◌, ◌^◌, ◌⊎◌, ◌==◌, if◌then◌else◌, inl, ℕ, List, set, Some, None, refl, sym, ◌∙◌}
use Rattle.std.specs.declared.option.Option.{Option}
use Rattle.neph_pool.specs.declared.entry.Entry.{Entry}
use Rattle.neph_pool.specs.Entries.{hold_at, words_at, with_words, with_word}
use Rattle.neph_ptab.specs.Tables.{leaf_at, walk_at, IsTables, zero_words}
use Rattle.neph_memory.specs.declared.own.Own.{Own}
use Rattle.neph_memory.proofs.Places.{some_same}
use Rattle.neph_memory.proofs.Leafing.{leafed_shown, leafed_bytes, leafed_made}
use Rattle.neph_memory.proofs.Making.{memory_bare}
use Rattle.neph_memory.proofs.Building.{wiped_holds, wiped_else}
use Rattle.neph_memory.specs.Memory.{vpn_mapping, page_bytes, IsSpareAt, IsMemory}

module _ (es fs : List (Option Entry)) (root : ℕ) (o : Own) (m : IsMemory es root o) (i f x : ℕ) (lt : i < 512) (none : leaf_at es root i ≡ None) (sp : o.spare ≡ Some f) (is : fs ≡ with_word (with_words es f zero_words) root i x)
    (leaves : (j : ℕ) → j < 512 → leaf_at fs root j ≡ (if j == i then Some f else leaf_at es root j)) (walks : (u : ℕ) → u < 2 ^ 18 → walk_at fs root u ≡ walk_at es root u) (tables : IsTables fs root) where
  abbrev Nothing : ℕ → Type 0
  Nothing g = ⊥

  ds : List (Option Entry)
  ds = with_words es f zero_words

  holds : (g : ℕ) → hold_at fs g ≡ hold_at es g
  unfolding ds
  holds g = wiped_holds ds fs root (set (words_at ds root) i x) is g ∙ wiped_holds es ds f zero_words refl g

  words : (g : ℕ) → g ≢ f → g ≢ root → words_at fs g ≡ words_at es g
  unfolding ds
  words g n k = wiped_else ds fs root (set (words_at ds root) i x) is g k ∙ wiped_else es ds f zero_words refl g n

  fewer : (g : ℕ) → Nothing g → IsSpareAt o g × (g ≢ f)
  fewer g h = absurd h

  rest : (g : ℕ) → IsSpareAt o g → (g ≡ f) ⊎ Nothing g
  rest g h = inl (some_same g f (sym h ∙ sp))

  pub spent_memory : IsMemory fs root (record o { spare = None })
  spent_memory = memory_bare fs root o (leafed_made es fs root o (IsSpareAt o) Nothing m.made i f lt none sp fewer rest holds words leaves walks tables)

  pub spent_shown : (u : ℕ) → u < 2 ^ 18 → vpn_mapping fs root o.map.pages u ≡ vpn_mapping es root o.map.pages u
  spent_shown = leafed_shown es fs root o (IsSpareAt o) Nothing m.made i f lt none sp fewer rest holds words leaves walks tables

  pub spent_bytes : (q : ℕ) → page_bytes fs o.map.pages q ≡ page_bytes es o.map.pages q
  spent_bytes = leafed_bytes es fs root o (IsSpareAt o) Nothing m.made i f lt none sp fewer rest holds words leaves walks tables
