-- The start of a script is in order.
use Rattle.std.proofs.Common.{◌≡◌, ℕ, zero, suc, ◌+◌, ◌-◌, ◌<◌, ◌≤◌, true, List, [], ◌∷◌, ◌++◌, length, replicate, get_or, Some, None, All, refl, sym, ap, subst, arith}
use Rattle.std.specs.Option.{is_some}
use Rattle.std.specs.FinMap as fm
use Rattle.std.proofs.lemmas.Bool.{false≢true}
use Rattle.std.proofs.lemmas.List.{length-append, length-replicate}
use Rattle.std.proofs.lemmas.List.Elements.{All-head, All-tail}
use Rattle.std.proofs.lemmas.List.FromFn.{length-range_with_len}
use Rattle.neph_model.specs.declared.own.Own.{Own}
use Rattle.neph_model.specs.declared.script.Script.{Script}
use Rattle.neph_model.specs.declared.script.Start.{Start}
use Rattle.neph_model.specs.declared.life.Guest.{Guest}
use Rattle.neph_model.specs.declared.book.Book.{Book}
use Rattle.neph_model.specs.declared.book.Stage.TheVariants.{Ready}
use Rattle.neph_model.specs.Memory.{zero_page}
use Rattle.neph_model.specs.WellFormed.{IsWellFormed, IsWellFormedStart}
use Rattle.neph_model.specs.Machine.{Exposed, no_own, no_guest, guest_at}
use Rattle.neph_model.specs.Start.{start_own, start_life, start_guest, start_exposed, of_starts}
use Rattle.neph_model.specs.Books.{no_book, book_of, start_books, start_state}
use Rattle.neph_runs.specs.Orderly.{seat, ForksWell, IsOrderlyAt, IsOrderly}

count_starts : {X : Type 0} (f : ℕ → Start → X) (n : ℕ) (ts : List Start) → length (of_starts f n ts) ≡ length ts
count_starts f n [] = refl
count_starts f n (t ∷ ts) = ap suc (count_starts f (n + 1) ts)

count_books : (n : ℕ) (ts : List Start) → length (start_books n ts) ≡ length ts
count_books n [] = refl
count_books n (t ∷ ts) = ap suc (count_books (n + t.pages) ts)

filled : {X : Type 0} (xs : List X) (x : X) (n : ℕ) → length xs ≡ n → n ≤ 63 → suc (length (xs ++ replicate (63 - n) x)) ≡ 64
filled xs x n is le = omega (arith, length-append xs (replicate (63 - n) x), length-replicate (63 - n) x)

-- what a domain that starts begins with
pub record Opens (place size : ℕ) (o : Own) (b : Book) : Type 0 where
  pub below : place < size
  pub ready : b ≡ book_of b.colours
  pub pages : length o.pages ≤ 1024
  pub colours : length b.colours ≡ length o.pages

pub opens_at : (programs n colour k : ℕ) (ts : List Start) → All (IsWellFormedStart programs) ts → (j : ℕ)
    → is_some (get_or (of_starts (λ i t. Some (start_life i t)) n ts ++ replicate k None) j None) ≡ true
    → Opens j (length ts) (get_or (of_starts start_own n ts ++ replicate k no_own) j no_own) (get_or (start_books colour ts ++ replicate k no_book) j no_book)
opens_at programs n colour zero [] all j live = absurd (false≢true live)
opens_at programs n colour (suc k) [] all zero live = absurd (false≢true live)
opens_at programs n colour (suc k) [] all (suc j) live = let rest = opens_at programs n colour k [] all j live in absurd (omega (arith, rest.below))
opens_at programs n colour k (t ∷ ts) all zero live =
    let first = All-head (IsWellFormedStart programs) t ts all in
    let fill = length-replicate (t.pages - 4) (Some zero_page) in
    record { below = omega arith; ready = refl; pages = omega (arith, fill, first.pages_low, first.pages_high); colours = omega (arith, fill, first.pages_low, length-range_with_len colour t.pages) }
opens_at programs n colour k (t ∷ ts) all (suc j) live =
    let rest = opens_at programs (n + 1) (colour + t.pages) k ts (All-tail (IsWellFormedStart programs) t ts all) j live in
    record { below = omega (arith, rest.below); ready = rest.ready; pages = rest.pages; colours = rest.colours }

pub no_guests : (n id : ℕ) → get_or (replicate n no_guest) id no_guest ≡ no_guest
no_guests zero id = refl
no_guests (suc n) zero = refl
no_guests (suc n) (suc id) = no_guests n id

none_begun : (n k : ℕ) (ts : List Start) (j : ℕ) → (get_or (of_starts {X = Guest} (λ i t. start_guest) n ts ++ replicate k no_guest) j no_guest).begun ≡ []
none_begun n k [] j = ap (λ (g : Guest). g.begun) (no_guests k j)
none_begun n k (t ∷ ts) zero = refl
none_begun n k (t ∷ ts) (suc j) = none_begun (n + 1) k ts j

-- no clone has begun at the start
pub start_begun : (s : Script) (id : ℕ) → (guest_at id (start_state s).machine.shared.tables).begun ≡ []
start_begun s zero = refl
start_begun s (suc j) = none_begun 1 (63 - length s.starts) s.starts j

pub start_orderly : (s : Script) → IsWellFormed s → IsOrderly (start_state s)
start_orderly s well =
    let n = length s.starts in
    let few : n ≤ 63 = omega (arith, well.few) in
    record {
      places = record {
        own = filled (of_starts start_own 1 s.starts) no_own n (count_starts start_own 1 s.starts) few;
        lives = filled (of_starts (λ i t. Some (start_life i t)) 1 s.starts) None n (count_starts (λ i t. Some (start_life i t)) 1 s.starts) few;
        guests = filled (of_starts {X = Guest} (λ i t. start_guest) 1 s.starts) no_guest n (count_starts {X = Guest} (λ i t. start_guest) 1 s.starts) few;
        exposed = filled (of_starts {X = Exposed} (λ i t. start_exposed) 1 s.starts) fm.empty n (count_starts {X = Exposed} (λ i t. start_exposed) 1 s.starts) few;
        books = filled (start_books 0 s.starts) no_book n (count_books 0 s.starts) few;
      };
      low = omega arith;
      high = omega (arith, few);
      seats = seats;
    }
  where
    seats : (id : ℕ) → is_some (seat (start_state s) id).life ≡ true → IsOrderlyAt id (1 + length s.starts) (seat (start_state s) id)
    seats zero live = absurd (false≢true live)
    seats (suc j) live =
        let opens = opens_at (length s.programs) 1 0 (63 - length s.starts) s.starts well.starts j live in
        let stage : (seat (start_state s) (suc j)).book.stage ≡ Ready = ap (λ (b : Book). b.stage) opens.ready in
        let forks = subst (ForksWell (suc j) (1 + length s.starts) (seat (start_state s) (suc j)).guest.begun) (sym stage) (start_begun s (suc j)) in
        record { low = omega arith; high = omega (arith, opens.below); forks = forks; pages = opens.pages; colours = opens.colours }
