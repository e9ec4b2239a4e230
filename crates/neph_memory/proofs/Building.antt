-- The steps of a build over the frames that wait.
use Rattle.std.proofs.Common.{◌≡◌, ◌≢◌, ◌<◌, ◌^◌, ◌⊎◌, ◌↔◌, ◌++◌, ◌==◌, if◌then◌else◌, ℕ, zero, suc, true, false, List, [], ◌∷◌, set, replicate, ◌*◌, slice_get, Some, None, refl, sym, ap, subst, ◌∙◌, arith}
use Rattle.std.specs.Int.{w64, to_le_bytes}
use Rattle.neph_model.specs.Memory.{zero_page}
use Rattle.std.specs.declared.option.Option.{Option}
use Rattle.std.specs.Option.{option_to_list}
use Rattle.neph_pool.specs.declared.entry.Entry.{Entry}
use Rattle.neph_pool.specs.Entries.{hold_at, words_at, is_here, with_words, with_word, IsSoleAt}
use Rattle.neph_pool.proofs.Entries.{hold_at-with_words, words_at-with_words, words_at-with_words_other}
use Rattle.neph_ptab.specs.Tables.{leaf_at, walk_at, IsTables, zero_words}
use Rattle.neph_gmap.specs.declared.page.Page.TheVariants.{Local as At, Exposed as Away}
use Rattle.neph_gmap.specs.GuestPages.{vpns_at, has_number}
use Rattle.neph_memory.specs.declared.own.Own.{Own}
use Rattle.neph_memory.proofs.Numbers.{once_last, once_rest, in_last, in_rest, in_other, in_either}
use Rattle.neph_memory.proofs.Placing.{placed_leaves, placed_page, placed_mark, placed_shown, placed_bytes, placed_new, placed_made}
use Rattle.neph_memory.proofs.Leafing.{leafed_shown, leafed_bytes, leafed_made}
use Rattle.neph_pool.specs.Bytes.{bytes_of, bytes_at}
use Rattle.neph_memory.specs.Pages.{frame_at}
use Rattle.neph_memory.specs.Memory.{is_marked, vpn_mapping, page_bytes, IsMade}
use Rattle.neph_memory.specs.Building.{IsAmong}
use Rattle.neph_pool.specs.Handing.{AreDistinct}

pub popped : (old new : List ℕ) (r : Option ℕ) (f : ℕ) → old ≡ new ++ option_to_list r → r ≡ Some f → old ≡ new ++ f ∷ []
popped old new r f e h = e ∙ ap (λ (x : Option ℕ). new ++ option_to_list x) h

-- a frame that waited is taken for a use
module _ (es fs : List (Option Entry)) (old new : List ℕ) (f : ℕ) (e : old ≡ new ++ f ∷ []) (once : AreDistinct old) (sole : (g : ℕ) → IsAmong old g → IsSoleAt es g) (holds : (g : ℕ) → hold_at fs g ≡ hold_at es g) where
  pub took : IsAmong old f
  took = subst (λ (xs : List ℕ). IsAmong xs f) (sym e) (in_last new f)

  pub more : (g : ℕ) → IsAmong new g → IsAmong old g
  more g h = subst (λ (xs : List ℕ). IsAmong xs g) (sym e) (in_rest new f g h)

  pub fewer : (g : ℕ) → IsAmong new g → IsAmong old g × (g ≢ f)
  fewer g h = (more g h, in_other new f g (once_last new f (subst AreDistinct e once)) h)

  pub rest : (g : ℕ) → IsAmong old g → (g ≡ f) ⊎ IsAmong new g
  rest g h = in_either new f g (subst (λ (xs : List ℕ). IsAmong xs g) e h)

  pub once_new : AreDistinct new
  once_new = once_rest new f (subst AreDistinct e once)

  pub sole_new : (g : ℕ) → IsAmong new g → IsSoleAt fs g
  sole_new g h = holds g ∙ sole g (more g h)

  pub sole_took : IsSoleAt es f
  sole_took = sole f took

-- what a step gives
pub record IsPlaced (es fs : List (Option Entry)) (root : ℕ) (o o' : Own) (new : List ℕ) (p f : ℕ) : Type 0 where
  pub made : IsMade fs root o' (IsAmong new)
  pub mappings : (u : ℕ) → u < 2 ^ 18 → vpn_mapping fs root o'.map.pages u ≡ vpn_mapping es root o.map.pages u
  pub bytes : (q : ℕ) → q ≢ p → page_bytes fs o'.map.pages q ≡ page_bytes es o.map.pages q
  pub fresh : page_bytes fs o'.map.pages p ≡ Some (bytes_at fs f)
  pub page : frame_at o'.map.pages p ≡ Some f
  pub mark : is_marked o' p ≡ true
  pub leaves : (i : ℕ) → leaf_at fs root i ≡ leaf_at es root i

none_listed : (u : ℕ) (xs : List ℕ) → xs ≡ [] → has_number u xs ≡ true → ⊥
none_listed u xs e h = let z : false ≡ true = sym (ap (has_number u) e) ∙ h in cc

pub placing : (es fs : List (Option Entry)) (root : ℕ) (o o' : Own) (old new : List ℕ) (p f : ℕ) → IsMade es root o (IsAmong old) → old ≡ new ++ f ∷ [] → AreDistinct old → ((g : ℕ) → IsAmong old g → IsSoleAt es g)
    → slice_get o.map.pages p ≡ Some Away → vpns_at o.map p ≡ [] → ((g : ℕ) → hold_at fs g ≡ hold_at es g) → ((g : ℕ) → g ≢ f → words_at fs g ≡ words_at es g)
    → o'.map.pages ≡ set o.map.pages p (At f) → o'.map.vpns ≡ o.map.vpns → o'.marks.items ≡ set o.marks.items p true → IsPlaced es fs root o o' new p f
placing es fs root o o' old new p f m e once sole away none holds words pages vpns marks =
    let A : ℕ → Type 0 = IsAmong old in
    let B : ℕ → Type 0 = IsAmong new in
    let un : (u : ℕ) → u < 2 ^ 18 → has_number u (vpns_at o.map p) ≡ true → ⊥ = λ u lt h. none_listed u (vpns_at o.map p) none h in
    let t : IsAmong old f = took es fs old new f e once sole holds in
    let l : (g : ℕ) → IsAmong new g → IsAmong old g × (g ≢ f) = fewer es fs old new f e once sole holds in
    let r : (g : ℕ) → IsAmong old g → (g ≡ f) ⊎ IsAmong new g = rest es fs old new f e once sole holds in
    let s : (true ≡ true) ↔ IsSoleAt es f = (λ _. sole f t, λ _. refl) in
    record {
      made = placed_made es fs root o (IsAmong old) (IsAmong new) m p f away un t l r holds words true s o' pages vpns marks;
      mappings = placed_shown es fs root o (IsAmong old) (IsAmong new) m p f away un t l r holds words true s o' pages vpns marks;
      bytes = placed_bytes es fs root o (IsAmong old) (IsAmong new) m p f away un t l r holds words true s o' pages vpns marks;
      fresh = placed_new es fs root o (IsAmong old) (IsAmong new) m p f away un t l r holds words true s o' pages vpns marks;
      mark = placed_mark es fs root o (IsAmong old) (IsAmong new) m p f away un t l r holds words true s o' pages vpns marks;
      page = placed_page es fs root o (IsAmong old) (IsAmong new) m p f away un t l r holds words true s o' pages vpns marks;
      leaves = placed_leaves es fs root o (IsAmong old) (IsAmong new) m p f away un t l r holds words true s o' pages vpns marks;
    }

pub wiped_bytes : (es fs : List (Option Entry)) (f : ℕ) (ws : List ℕ) → is_here (hold_at es f) ≡ true → fs ≡ with_words es f ws → bytes_at fs f ≡ bytes_of ws
wiped_bytes es fs f ws here e = ap bytes_of (ap (λ (xs : List (Option Entry)). words_at xs f) e ∙ words_at-with_words es f ws here)

zero_bytes : (n : ℕ) → bytes_of (replicate n 0) ≡ replicate (8 * n) 0
unfolding bytes_of
zero_bytes zero = refl
zero_bytes (suc n) =
    let k : 8 * suc n ≡ suc (suc (suc (suc (suc (suc (suc (suc (8 * n)))))))) = omega arith in
    ap (λ (bs : List ℕ). to_le_bytes w64 0 ++ bs) (zero_bytes n) ∙ sym (ap (λ (m : ℕ). replicate m 0) k)

-- an empty table is a page of zeros
pub blank_bytes : bytes_of zero_words ≡ zero_page
unfolding zero_words zero_page
blank_bytes = zero_bytes 512

pub wiped_holds : (es fs : List (Option Entry)) (f : ℕ) (ws : List ℕ) → fs ≡ with_words es f ws → (g : ℕ) → hold_at fs g ≡ hold_at es g
wiped_holds es fs f ws e g = ap (λ (xs : List (Option Entry)). hold_at xs g) e ∙ hold_at-with_words es f ws g

pub wiped_else : (es fs : List (Option Entry)) (f : ℕ) (ws : List ℕ) → fs ≡ with_words es f ws → (g : ℕ) → g ≢ f → words_at fs g ≡ words_at es g
wiped_else es fs f ws e g n = ap (λ (xs : List (Option Entry)). words_at xs g) e ∙ words_at-with_words_other es f ws g n

pub record IsLeafed (es fs : List (Option Entry)) (root : ℕ) (o : Own) (new : List ℕ) (f : ℕ) : Type 0 where
  pub made : IsMade fs root o (IsAmong new)
  pub mappings : (u : ℕ) → u < 2 ^ 18 → vpn_mapping fs root o.map.pages u ≡ vpn_mapping es root o.map.pages u
  pub bytes : (q : ℕ) → page_bytes fs o.map.pages q ≡ page_bytes es o.map.pages q

pub leafing : (es fs : List (Option Entry)) (root : ℕ) (o : Own) (old new : List ℕ) (i f x : ℕ) → IsMade es root o (IsAmong old) → old ≡ new ++ f ∷ [] → AreDistinct old → ((g : ℕ) → IsAmong old g → IsSoleAt es g)
    → i < 512 → leaf_at es root i ≡ None → fs ≡ with_word (with_words es f zero_words) root i x
    → ((j : ℕ) → j < 512 → leaf_at fs root j ≡ (if j == i then Some f else leaf_at es root j)) → ((u : ℕ) → u < 2 ^ 18 → walk_at fs root u ≡ walk_at es root u) → IsTables fs root → IsLeafed es fs root o new f
leafing es fs root o old new i f x m e once sole lt none is leaves walks tables =
    let ds : List (Option Entry) = with_words es f zero_words in
    let holds : (g : ℕ) → hold_at fs g ≡ hold_at es g = λ g. wiped_holds ds fs root (set (words_at ds root) i x) is g ∙ wiped_holds es ds f zero_words refl g in
    let words : (g : ℕ) → g ≢ f → g ≢ root → words_at fs g ≡ words_at es g = λ g n k. wiped_else ds fs root (set (words_at ds root) i x) is g k ∙ wiped_else es ds f zero_words refl g n in
    let t : IsAmong old f = took es fs old new f e once sole holds in
    let l : (g : ℕ) → IsAmong new g → IsAmong old g × (g ≢ f) = fewer es fs old new f e once sole holds in
    let r : (g : ℕ) → IsAmong old g → (g ≡ f) ⊎ IsAmong new g = rest es fs old new f e once sole holds in
    record {
      made = leafed_made es fs root o (IsAmong old) (IsAmong new) m i f lt none t l r holds words leaves walks tables;
      mappings = leafed_shown es fs root o (IsAmong old) (IsAmong new) m i f lt none t l r holds words leaves walks tables;
      bytes = leafed_bytes es fs root o (IsAmong old) (IsAmong new) m i f lt none t l r holds words leaves walks tables;
    }

pub leafed_holds : (es fs : List (Option Entry)) (root i f x : ℕ) → fs ≡ with_word (with_words es f zero_words) root i x → (g : ℕ) → hold_at fs g ≡ hold_at es g
leafed_holds es fs root i f x e g = wiped_holds (with_words es f zero_words) fs root (set (words_at (with_words es f zero_words) root) i x) e g ∙ wiped_holds es (with_words es f zero_words) f zero_words refl g
