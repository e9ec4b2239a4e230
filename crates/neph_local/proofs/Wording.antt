-- Words and numbers that are written into a page.
use Rattle.std.proofs.Common.{◌≡◌, ◌≢◌, if◌then◌else◌, ℕ, Bool, true, List, length, option_map, Some, None, refl, sym, ap, ◌∙◌, arith, eq-eqb, ne_eqb}
use Rattle.std.specs.Int.{w32, to_le_bytes}
use Rattle.std.specs.declared.option.Option.{Option}
use Rattle.neph_model.specs.Memory.{page_with_bytes}
use Rattle.neph_pool.specs.declared.entry.Entry.{Entry}
use Rattle.neph_pool.specs.declared.entry.Hold.{Hold}
use Rattle.neph_pool.specs.declared.entry.Hold.TheVariants.{Zero, Sole, Counted}
use Rattle.neph_pool.specs.Bytes.{bytes_of}
use Rattle.neph_pool.specs.Entries.{words_at, is_held, weight_of, with_words}
use Rattle.neph_pool.proofs.Entries.{words_at-with_words_other}
use Rattle.neph_memory.specs.declared.own.Own.{Own}
use Rattle.neph_memory.specs.Pages.{frame_at}
use Rattle.neph_memory.specs.Memory.{bytes_for, page_bytes, IsMemory}
use Rattle.neph_memory.specs.Steps.{own_page_with_bytes, with_write}

pub once_held : (h : Option Hold) → weight_of h ≡ 1 → is_held h ≡ true
once_held None e = absurd (omega (arith, e))
once_held (Some Zero) e = absurd (omega (arith, e))
once_held (Some Sole) e = refl
once_held (Some (Counted n)) e = refl

-- the pages but the page p are as they were
pub bytes_else : (es fs : List (Option Entry)) (root : ℕ) (o : Own) (m : IsMemory es root o) (p t : ℕ) (ws : List ℕ) → frame_at o.map.pages p ≡ Some t → fs ≡ with_words es t ws → (q : ℕ) → q ≢ p → page_bytes fs o.map.pages q ≡ page_bytes es o.map.pages q
bytes_else es fs root o m p t ws at e q n = by_frame (frame_at o.map.pages q) refl where
  by_frame : (x : Option ℕ) → frame_at o.map.pages q ≡ x → bytes_for fs x ≡ bytes_for es x
  by_frame None h = refl
  by_frame (Some g) h =
      let other : g ≢ t = λ d. n (m.made.apart q p g h (at ∙ ap Some (sym d))) in
      ap (λ (xs : List ℕ). Some (bytes_of xs)) (ap (λ (xs : List (Option Entry)). words_at xs g) e ∙ words_at-with_words_other es t ws g other)

pub four : (n : ℕ) → length (to_le_bytes w32 n) ≡ 4
four n = refl

own_thrice : (x : Option (List ℕ)) (a b c : List ℕ) → own_page_with_bytes (own_page_with_bytes (own_page_with_bytes x 0 a) 4 b) 8 c
    ≡ option_map (λ page. page_with_bytes (page_with_bytes (page_with_bytes page 0 a) 4 b) 8 c) x
own_thrice None a b c = refl
own_thrice (Some page) a b c = refl

module _ (p0 p1 p2 p3 : ℕ → Option (List ℕ)) (f : ℕ) (a b c : List ℕ) (first : f ≡ 0) (one : (q : ℕ) → p1 q ≡ with_write p0 f 0 a q) (two : (q : ℕ) → p2 q ≡ with_write p1 f 4 b q) (three : (q : ℕ) → p3 q ≡ with_write p2 f 8 c q) where
  here : (p : ℕ → Option (List ℕ)) (at : ℕ) (xs : List ℕ) → with_write p f at xs 0 ≡ own_page_with_bytes (p 0) at xs
  here p at xs = ap (λ (b : Bool). if b then own_page_with_bytes (p 0) at xs else p 0) (eq-eqb 0 f (sym first))

  other : (p : ℕ → Option (List ℕ)) (at : ℕ) (xs : List ℕ) (q : ℕ) → q ≢ 0 → with_write p f at xs q ≡ p q
  other p at xs q n = ap (λ (b : Bool). if b then own_page_with_bytes (p q) at xs else p q) (ne_eqb q f (λ e. n (e ∙ first)))

  -- the three numbers of an identity page
  pub identity_written : p3 0 ≡ option_map (λ page. page_with_bytes (page_with_bytes (page_with_bytes page 0 a) 4 b) 8 c) (p0 0)
  identity_written =
      three 0 ∙ here p2 8 c ∙ ap (λ (x : Option (List ℕ)). own_page_with_bytes x 8 c) (two 0 ∙ here p1 4 b ∙ ap (λ (x : Option (List ℕ)). own_page_with_bytes x 4 b) (one 0 ∙ here p0 0 a))
      ∙ own_thrice (p0 0) a b c

  pub others_kept : (q : ℕ) → q ≢ 0 → p3 q ≡ p0 q
  others_kept q n = three q ∙ other p2 8 c q n ∙ two q ∙ other p1 4 b q n ∙ one q ∙ other p0 0 a q n
