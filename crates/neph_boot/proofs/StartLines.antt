-- The states at the start of a script's first lines.
use Rattle.std.proofs.Common.{◌≡◌, ◌≢◌, ℕ, zero, suc, ◌+◌, ◌-◌, ◌==◌, ◌<◌, ◌≤◌, Bool, true, false, List, [], ◌∷◌, ◌++◌, length, get_or, set, replicate, take, drop, drop-cons, Some, None, All, refl, sym, ap, ◌∙◌, arith}
use Rattle.std.specs.Prelude.{is_some}
use Rattle.std.specs.FinMap as fm
use Rattle.std.proofs.lemmas.Bool.{false≢true, eqb-true, eqb-false}
use Rattle.std.proofs.lemmas.List.{length-set, get_or-set_same, get_or-set_other, ext_get_or}
use Rattle.std.proofs.lemmas.List.Elements.{All-cons, All-head, All-tail, All-nil}
use Rattle.std.proofs.lemmas.List.Sums.{sum_by-cons}
use Rattle.neph_model.specs.declared.life.Guest.{Guest}
use Rattle.neph_model.specs.declared.book.Book.{Book}
use Rattle.neph_model.specs.declared.script.Script.{Script}
use Rattle.neph_model.specs.declared.script.Start.{Start}
use Rattle.neph_model.specs.declared.book.Stage.TheVariants.{Ready}
use Rattle.neph_model.specs.WellFormed.{IsWellFormed, IsWellFormedStart, frames_of_starts}
use Rattle.neph_model.specs.Machine.{Exposed, no_own, no_guest, but_handles, exposed_at}
use Rattle.neph_model.specs.Start.{start_own, start_life, start_guest, start_exposed, started_512s, of_starts, places}
use Rattle.neph_model.specs.Books.{no_book, start_books, start_state}
use Rattle.neph_runs.specs.Orderly.{Seat as Part, outline, seat as part_at}
use Rattle.neph_runs.proofs.Seats.{same_seat}
use Rattle.neph_runs.proofs.Opening.{opens_at, start_begun}
use Rattle.neph_flat.proofs.StartSound.{repeated, length_places, far_pages}
use Rattle.neph_boot.specs.Opening.{first_lines, opened}

-- one line more leaves what is made of each other line
starts_other : {A : Type 0} (none : A) (f : ℕ → Start → A) (ts : List Start) (m n k l i : ℕ) → i ≢ n → get_or (of_starts f m (take (suc n) ts) ++ replicate k none) i none ≡ get_or (of_starts f m (take n ts) ++ replicate l none) i none
starts_other none f [] m zero k l i ne = repeated k i none ∙ sym (repeated l i none)
starts_other none f [] m (suc n) k l i ne = repeated k i none ∙ sym (repeated l i none)
starts_other none f (t ∷ ts) m zero k l zero ne = absurd (ne refl)
starts_other none f (t ∷ ts) m zero k l (suc i) ne = repeated k i none ∙ sym (repeated l (suc i) none)
starts_other none f (t ∷ ts) m (suc n) k l zero ne = refl
starts_other none f (t ∷ ts) m (suc n) k l (suc i) ne = starts_other none f ts (m + 1) n k l i (λ e. ne (ap suc e))

-- and makes of the next what is made of its line
starts_here : {A : Type 0} (none : A) (f : ℕ → Start → A) (ts : List Start) (m n k : ℕ) (d : Start) → n < length ts → get_or (of_starts f m (take (suc n) ts) ++ replicate k none) n none ≡ f (m + n) (get_or ts n d)
starts_here none f [] m n k d lt = absurd (omega arith)
starts_here none f (t ∷ ts) m zero k d lt = let e : m ≡ m + 0 = omega arith in ap (λ i. f i t) e
starts_here none f (t ∷ ts) m (suc n) k d lt = let e : m + 1 + n ≡ m + suc n = omega arith in starts_here none f ts (m + 1) n k d (omega arith) ∙ ap (λ i. f i (get_or ts n d)) e

books_other : (ts : List Start) (c n k l i : ℕ) → i ≢ n → get_or (start_books c (take (suc n) ts) ++ replicate k no_book) i no_book ≡ get_or (start_books c (take n ts) ++ replicate l no_book) i no_book
books_other [] c zero k l i ne = repeated k i no_book ∙ sym (repeated l i no_book)
books_other [] c (suc n) k l i ne = repeated k i no_book ∙ sym (repeated l i no_book)
books_other (t ∷ ts) c zero k l zero ne = absurd (ne refl)
books_other (t ∷ ts) c zero k l (suc i) ne = repeated k i no_book ∙ sym (repeated l (suc i) no_book)
books_other (t ∷ ts) c (suc n) k l zero ne = refl
books_other (t ∷ ts) c (suc n) k l (suc i) ne = books_other ts (c + t.pages) n k l i (λ e. ne (ap suc e))

-- the parts of each other id
pub opened_other : (s : Script) (n j : ℕ) → j ≢ suc n → part_at (opened (suc n) s) j ≡ part_at (opened n s) j
opened_other s n zero ne = refl
opened_other s n (suc j) ne =
    let ts = s.starts in
    let far : j ≢ n = λ e. ne (ap suc e) in
    let k = 63 - length (take (suc n) ts) in
    let l = 63 - length (take n ts) in
    same_seat _ _ (starts_other no_own start_own ts 1 n k l j far) (starts_other None (λ i t. Some (start_life i t)) ts 1 n k l j far) (ap but_handles (starts_other {A = Guest} no_guest (λ i t. start_guest) ts 1 n k l j far))
    (ap outline (starts_other {A = Exposed} fm.empty (λ i t. start_exposed) ts 1 n k l j far)) (books_other ts 0 n k l j far)

exposed_other : (s : Script) (n j : ℕ) → j ≢ suc n → exposed_at j (opened (suc n) s).machine.shared.pages ≡ exposed_at j (opened n s).machine.shared.pages
exposed_other s n zero ne = refl
exposed_other s n (suc j) ne = starts_other {A = Exposed} fm.empty (λ i t. start_exposed) s.starts 1 n (63 - length (take (suc n) s.starts)) (63 - length (take n s.starts)) j (λ e. ne (ap suc e))

take_all : {A : Type 0} (xs : List A) → take (length xs) xs ≡ xs
take_all [] = refl
take_all (x ∷ xs) = ap (λ ys. x ∷ ys) (take_all xs)

take_small : {A : Type 0} (n : ℕ) (xs : List A) → length (take n xs) ≤ length xs
take_small zero xs = omega arith
take_small (suc n) [] = omega arith
take_small (suc n) (x ∷ xs) = let e = take_small n xs in omega arith

take_formed : (programs n : ℕ) (ts : List Start) → All (IsWellFormedStart programs) ts → All (IsWellFormedStart programs) (take n ts)
take_formed programs zero ts h = All-nil (IsWellFormedStart programs)
take_formed programs (suc n) [] h = All-nil (IsWellFormedStart programs)
take_formed programs (suc n) (t ∷ ts) h = All-cons (IsWellFormedStart programs) t (take n ts) (All-head (IsWellFormedStart programs) t ts h) (take_formed programs n ts (All-tail (IsWellFormedStart programs) t ts h))

take_frames : (n : ℕ) (ts : List Start) → frames_of_starts (take n ts) ≤ frames_of_starts ts
take_frames zero ts = omega arith
take_frames (suc n) [] = omega arith
take_frames (suc n) (t ∷ ts) = let e = take_frames n ts in omega (arith, sum_by-cons (λ (x : Start). x.pages + 1 + started_512s x.pages) t ts, sum_by-cons (λ (x : Start). x.pages + 1 + started_512s x.pages) t (take n ts))

-- the first lines of a script that is well formed
pub formed_first : (s : Script) (n : ℕ) → IsWellFormed s → IsWellFormed (first_lines n s)
formed_first s n h = record {
  frames_low = h.frames_low;
  frames_high = h.frames_high;
  programs = h.programs;
  starts = take_formed (length s.programs) n s.starts h.starts;
  few = let e = take_small n s.starts in omega (arith, h.few);
  room = let e = take_frames n s.starts in omega (arith, h.room);
}

pub opened_all : (s : Script) → opened (length s.starts) s ≡ start_state s
opened_all s = ap (λ (ts : List Start). start_state (record s { starts = ts })) (take_all s.starts)

-- nobody has begun a clone at the start
pub opened_begun : (s : Script) (n j : ℕ) → (part_at (opened n s) j).guest.begun ≡ []
opened_begun s n j = start_begun (first_lines n s) j

-- the domain of the next line
pub record IsNext (id : ℕ) (t : Start) (x : Part) : Type 0 where
  pub own : x.own ≡ start_own id t
  pub live : is_some x.life ≡ true
  pub begun : x.guest.begun ≡ []
  pub exposed : x.exposed ≡ outline start_exposed
  pub ready : x.book.stage ≡ Ready
  pub spare : x.book.spare ≡ false

pub opened_here : (s : Script) (n : ℕ) (d : Start) → IsWellFormed s → n < length s.starts → IsNext (suc n) (get_or s.starts n d) (part_at (opened (suc n) s) (suc n))
opened_here s n d well lt =
    let ts = s.starts in
    let k = 63 - length (take (suc n) ts) in
    let same : 1 + n ≡ suc n = omega arith in
    let t = get_or ts n d in
    let life = starts_here None (λ i t. Some (start_life i t)) ts 1 n k d lt in
    let live : is_some (part_at (opened (suc n) s) (suc n)).life ≡ true = ap is_some life in
    let opens = opens_at (length s.programs) 1 0 k (take (suc n) ts) (take_formed (length s.programs) (suc n) ts well.starts) n live in
    record {
      own = starts_here no_own start_own ts 1 n k d lt ∙ ap (λ i. start_own i t) same;
      live = live;
      begun = opened_begun s (suc n) (suc n);
      exposed = ap outline (starts_here {A = Exposed} fm.empty (λ i t. start_exposed) ts 1 n k d lt);
      ready = ap (λ (b : Book). b.stage) opens.ready;
      spare = ap (λ (b : Book). b.spare) opens.ready;
    }

-- the exposed pages behind one line more
pub opened_pages : (s : Script) (n : ℕ) → IsWellFormed s → n < length s.starts → set (opened n s).machine.shared.pages (suc n) start_exposed ≡ (opened (suc n) s).machine.shared.pages
opened_pages s n well lt = ext_get_or fm.empty (set old (suc n) start_exposed) new (length-set old (suc n) start_exposed ∙ long n ∙ sym (long (suc n))) (λ i l. at i) where
  old : List Exposed
  old = places fm.empty (λ n t. start_exposed) (take n s.starts)

  new : List Exposed
  new = places fm.empty (λ n t. start_exposed) (take (suc n) s.starts)

  long : (m : ℕ) → length (places {X = Exposed} fm.empty (λ n t. start_exposed) (take m s.starts)) ≡ 64
  long m = length_places {X = Exposed} fm.empty (λ n t. start_exposed) (take m s.starts) (let e = take_small m s.starts in omega (arith, well.few))

  none : Start
  none = record { program = 0; pages = 0; limit = 0 }

  at : (i : ℕ) → get_or (set old (suc n) start_exposed) i fm.empty ≡ get_or new i fm.empty
  at i = by (i == suc n) refl where
    by : (b : Bool) → (i == suc n) ≡ b → get_or (set old (suc n) start_exposed) i fm.empty ≡ get_or new i fm.empty
    by true e =
        let same : i ≡ suc n = eqb-true i (suc n) e in
        let here : get_or (set old (suc n) start_exposed) (suc n) fm.empty ≡ start_exposed = get_or-set_same old (suc n) start_exposed fm.empty (let l = long n in omega (arith, lt, well.few)) in
        let there : get_or new (suc n) fm.empty ≡ start_exposed = starts_here {A = Exposed} fm.empty (λ i t. start_exposed) s.starts 1 n (63 - length (take (suc n) s.starts)) none lt in
        ap (λ (q : ℕ). get_or (set old (suc n) start_exposed) q fm.empty) same ∙ here ∙ sym there ∙ ap (λ (q : ℕ). get_or new q fm.empty) (sym same)
    by false e = get_or-set_other old (suc n) i start_exposed fm.empty (eqb-false i (suc n) e) ∙ sym (exposed_other s n i (eqb-false i (suc n) e))

-- the exposed pages at the start have numbers below 4
pub exposed_low : (q : ℕ) → is_some (fm.get start_exposed q) ≡ true → q < 4
exposed_low zero some = omega arith
exposed_low (suc zero) some = omega arith
exposed_low (suc (suc zero)) some = omega arith
exposed_low (suc (suc (suc zero))) some = omega arith
exposed_low (suc (suc (suc (suc k)))) some = absurd (false≢true (sym (ap is_some (far_pages (suc (suc (suc (suc k)))) (omega arith))) ∙ some))

starts_past : {A : Type 0} (none : A) (f : ℕ → Start → A) (ts : List Start) (m n k : ℕ) → get_or (of_starts f m (take n ts) ++ replicate k none) n none ≡ none
starts_past none f ts m zero k = repeated k 0 none
starts_past none f [] m (suc n) k = repeated k (suc n) none
starts_past none f (t ∷ ts) m (suc n) k = starts_past none f ts (m + 1) n k

-- the domain of the next line isn't live before
pub opened_dead : (s : Script) (n : ℕ) → is_some (part_at (opened n s) (suc n)).life ≡ false
opened_dead s n = ap is_some (starts_past None (λ i t. Some (start_life i t)) s.starts 1 n (63 - length (take n s.starts)))

-- before the first line the state has nothing
pub opened_none : (s : Script) (j : ℕ) → part_at (opened 0 s) j ≡ record { own = no_own; life = None; guest = no_guest; exposed = outline fm.empty; book = no_book }
opened_none s zero = refl
opened_none s (suc j) = same_seat _ _ (repeated 63 j no_own) (repeated 63 j None) (ap but_handles (repeated {X = Guest} 63 j no_guest)) (ap outline (repeated {X = Exposed} 63 j fm.empty)) (repeated 63 j no_book)

-- the frames of the lines that are left
pub frames_left : (s : Script) (n : ℕ) (d : Start) → n < length s.starts → frames_of_starts (drop n s.starts) ≡ ((get_or s.starts n d).pages + 1 + started_512s (get_or s.starts n d).pages) + frames_of_starts (drop (suc n) s.starts)
frames_left s n d lt = ap frames_of_starts (drop-cons s.starts n d lt) ∙ sum_by-cons (λ (x : Start). x.pages + 1 + started_512s x.pages) (get_or s.starts n d) (drop (suc n) s.starts)
