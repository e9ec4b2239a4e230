-- A field that is read is the field that was spelled, and what was spelled is read again.
use Rattle.std.proofs.Common.{◌≡◌, ℕ, zero, suc, ◌+◌, ◌<◌, ◌≤◌, Bool, true, false, cond, ltb, eqb, List, [], ◌∷◌, ◌++◌, length, get_or, take, drop, Option, Some, None, refl, sym, ap, subst, ◌∙◌, append_assoc, arith, inl, inr, ◌⊎◌}
use Rattle.std.specs.List.{flat_map, AllByRecursion}
use Rattle.std.proofs.lemmas.Bool.{cases_lt, ltb-false, le-ltb, eqb-true}
use Rattle.std.proofs.lemmas.List.{take_at, drop_at, take-append-drop, length-append, length-take, get_or-drop, get_or-take, get_or_past}
use Rattle.std.proofs.lemmas.List.Concat.{flat_map-cons}
use Rattle.std.proofs.lemmas.Nat.{le_bytes_2, le_bytes_4, le_bytes_8}
use Rattle.byteorder.specs.Endian.{little_bytes, little_number}
use Rattle.byteorder.specs.Numbers.{little_number-reads_back, little_from-lt, length-bytes_low_first}
use Rattle.neph_p9msg.specs.declared.msg.Qid.{Qid}
use Rattle.neph_p9msg.specs.declared.msg.TheConstants.{MAXWELEM, QTDIR, QTFILE}
use Rattle.neph_p9msg.specs.Grammar.{number, counted, string, IsString, qid, qid_type, Fits}
use Rattle.neph_p9msg.specs.Reading.{◌>>=◌, number_at, byte_at, bytes_at, counted_at, version_at, dir_of, qid_at, qids_at, names_at, many_at}

abbrev pub IsBytes : List ℕ → Type 0
IsBytes bytes = (i : ℕ) → get_or bytes i 0 < 256

IsBytes-drop : (n : ℕ) (bytes : List ℕ) → IsBytes bytes → IsBytes (drop n bytes)
IsBytes-drop n bytes h i = rw get_or-drop (h (n + i))

IsBytes-take : (n : ℕ) (bytes : List ℕ) → IsBytes bytes → IsBytes (take n bytes)
IsBytes-take n bytes h i =
    elim (cases_lt i n) [
      | inl lt ↦ rw (get_or-take n bytes i 0 lt) (h i)
      | inr le ↦ rw (get_or_past (take n bytes) i 0 (omega (arith, length-take n bytes))) (omega arith)
    ]

IsBytes-rest : (b : ℕ) (bytes : List ℕ) → IsBytes (b ∷ bytes) → IsBytes bytes
IsBytes-rest b bytes h i = h (suc i)

-- the value of a step that gave something
pub bind_some : {A B : Type 0} (r : Option A) (f : A → Option B) (y : B) → (r >>= f) ≡ Some y → (x : A) × (r ≡ Some x) × (f x ≡ Some y)
bind_some (Some x) f y e = (x, refl, e)
bind_some None f y e = absurd cc

-- a test that gave something
pub unless_some : {A : Type 0} (b : Bool) (r : Option A) (y : A) → cond b None r ≡ Some y → (b ≡ false) × (r ≡ Some y)
unless_some true r y e = absurd cc
unless_some false r y e = (refl, e)

pub where_some : {A : Type 0} (b : Bool) (r : Option A) (y : A) → cond b r None ≡ Some y → (b ≡ true) × (r ≡ Some y)
where_some true r y e = (refl, e)
where_some false r y e = absurd cc

abbrev some : {A : Type 0} → A → Option A
some x = Some x

pub some_is : {A : Type 0} (x y : A) → some x ≡ some y → x ≡ y
some_is x y e = cc

-- what a reader took from the front
pub record Takes (bytes text rest : List ℕ) : Type 0 where
  pub parts : bytes ≡ text ++ rest
  pub rest_fits : IsBytes rest

pub Takes-then : (a x b y c : List ℕ) → Takes a x b → Takes b y c → Takes a (x ++ y) c
Takes-then a x b y c p q = record { parts = p.parts ∙ ap (λ (t : List ℕ). x ++ t) q.parts ∙ sym (append_assoc x y c); rest_fits = q.rest_fits }

-- a reader and a spelling that belong together
pub record IsField {A : Type 0} (print : A → List ℕ) (read : List ℕ → Option (A × List ℕ)) (Fit : A → Type 0) : Type 0 where
  pub takes : (bytes : List ℕ) (x : A) (rest : List ℕ) → IsBytes bytes → read bytes ≡ Some (x, rest) → Takes bytes (print x) rest × Fit x
  pub again : (x : A) (rest : List ℕ) → Fit x → read (print x ++ rest) ≡ Some (x, rest)

-- the first step of a reader that gave something
pub step : {A B : Type 0} (print : A → List ℕ) (read : List ℕ → Option (A × List ℕ)) (Fit : A → Type 0) → IsField print read Fit
    → (f : A × List ℕ → Option B) (bytes : List ℕ) (y : B) → IsBytes bytes → (read bytes >>= f) ≡ Some y
    → (x : A) × (rest : List ℕ) × Takes bytes (print x) rest × Fit x × (f (x, rest) ≡ Some y)
step print read Fit field f bytes y fits e =
    let b = bind_some (read bytes) f y e in
    let t = field.takes bytes b.0.0 b.0.1 fits b.1 in
    (b.0.0, b.0.1, t.0, t.1, b.2)

-- the first step of a reader of what was spelled
pub step_again : {A B : Type 0} (print : A → List ℕ) (read : List ℕ → Option (A × List ℕ)) (Fit : A → Type 0) → IsField print read Fit
    → (f : A × List ℕ → Option B) (x : A) (rest : List ℕ) (y : B) → Fit x → f (x, rest) ≡ Some y → (read (print x ++ rest) >>= f) ≡ Some y
step_again {A} print read Fit field f x rest y fit e = ap (λ (o : Option (A × List ℕ)). o >>= f) (field.again x rest fit) ∙ e

-- ---- numbers

-- the bytes of the number that stands in the first bytes are these bytes
abbrev IsSized : ℕ → Type 0
IsSized size = (bytes : List ℕ) → IsBytes bytes → size ≤ length bytes → little_bytes size (little_number size bytes) ≡ take size bytes

sized_2 : IsSized 2
sized_2 bytes fits le =
    let g0 = get_or-take 2 bytes 0 0 (omega arith) in
    let g1 = get_or-take 2 bytes 1 0 (omega arith) in
    le_bytes_2 (take 2 bytes) (little_number 2 bytes) (omega (arith, length-take 2 bytes)) (IsBytes-take 2 bytes fits) (omega (arith, g0, g1))

sized_4 : IsSized 4
sized_4 bytes fits le =
    let g0 = get_or-take 4 bytes 0 0 (omega arith) in
    let g1 = get_or-take 4 bytes 1 0 (omega arith) in
    let g2 = get_or-take 4 bytes 2 0 (omega arith) in
    let g3 = get_or-take 4 bytes 3 0 (omega arith) in
    le_bytes_4 (take 4 bytes) (little_number 4 bytes) (omega (arith, length-take 4 bytes)) (IsBytes-take 4 bytes fits) (omega (arith, g0, g1, g2, g3))

sized_8 : IsSized 8
sized_8 bytes fits le =
    let g0 = get_or-take 8 bytes 0 0 (omega arith) in
    let g1 = get_or-take 8 bytes 1 0 (omega arith) in
    let g2 = get_or-take 8 bytes 2 0 (omega arith) in
    let g3 = get_or-take 8 bytes 3 0 (omega arith) in
    let g4 = get_or-take 8 bytes 4 0 (omega arith) in
    let g5 = get_or-take 8 bytes 5 0 (omega arith) in
    let g6 = get_or-take 8 bytes 6 0 (omega arith) in
    let g7 = get_or-take 8 bytes 7 0 (omega arith) in
    le_bytes_8 (take 8 bytes) (little_number 8 bytes) (omega (arith, length-take 8 bytes)) (IsBytes-take 8 bytes fits) (omega (arith, g0, g1, g2, g3, g4, g5, g6, g7))

number_takes : (size : ℕ) → IsSized size → (bytes : List ℕ) (n : ℕ) (rest : List ℕ) → IsBytes bytes → number_at size bytes ≡ Some (n, rest) → Takes bytes (number size n) rest × Fits size n
number_takes size sized bytes n rest fits e =
    let g = unless_some (ltb (length bytes) size) (Some (little_number size bytes, drop size bytes)) (n, rest) e in
    let long : size ≤ length bytes = ltb-false _ _ g.0 in
    let is : (little_number size bytes, drop size bytes) ≡ (n, rest) = some_is (little_number size bytes, drop size bytes) (n, rest) g.1 in
    let whole : Takes bytes (number size (little_number size bytes)) (drop size bytes) = record {
      parts = sym (ap (λ (x : List ℕ). x ++ drop size bytes) (sized bytes fits long) ∙ take-append-drop size bytes);
      rest_fits = IsBytes-drop size bytes fits;
    } in
    subst (λ (p : ℕ × List ℕ). Takes bytes (number size p.0) p.1 × Fits size p.0) is (whole, little_from-lt 0 size bytes fits)

number_again : (size n : ℕ) (rest : List ℕ) → Fits size n → number_at size (number size n ++ rest) ≡ Some (n, rest)
number_again size n rest lt =
    let len : length (number size n) ≡ size = length-bytes_low_first 0 size n in
    let long : ltb (length (number size n ++ rest)) size ≡ false = le-ltb _ _ (omega (arith, length-append (number size n) rest)) in
    rw (long, little_number-reads_back size n rest lt, drop_at (number size n) rest size len) refl

number_field : (size : ℕ) → IsSized size → IsField (number size) (number_at size) (Fits size)
number_field size sized = record { takes = number_takes size sized; again = number_again size }

pub field_2 : IsField (number 2) (number_at 2) (Fits 2)
field_2 = number_field 2 sized_2

pub field_4 : IsField (number 4) (number_at 4) (Fits 4)
field_4 = number_field 4 sized_4

pub field_8 : IsField (number 8) (number_at 8) (Fits 8)
field_8 = number_field 8 sized_8

-- ---- one byte

abbrev pub one_byte : ℕ → List ℕ
one_byte b = b ∷ []

byte_takes : (bytes : List ℕ) (b : ℕ) (rest : List ℕ) → IsBytes bytes → byte_at bytes ≡ Some (b, rest) → Takes bytes (one_byte b) rest × Fits 1 b
unfolding byte_at
byte_takes [] b rest fits e = absurd cc
byte_takes (c ∷ cs) b rest fits e =
    let is : (c, cs) ≡ (b, rest) = some_is (c, cs) (b, rest) e in
    let low : c < 256 = fits 0 in
    subst (λ (p : ℕ × List ℕ). Takes (c ∷ cs) (one_byte p.0) p.1 × Fits 1 p.0) is (record { parts = refl; rest_fits = IsBytes-rest c cs fits }, omega (arith, low))

byte_again : (b : ℕ) (rest : List ℕ) → Fits 1 b → byte_at (one_byte b ++ rest) ≡ Some (b, rest)
unfolding byte_at
byte_again b rest fits = refl

pub byte_field : IsField one_byte byte_at (Fits 1)
byte_field = record { takes = byte_takes; again = byte_again }

-- ---- bytes behind their count

counted_takes : (size : ℕ) → IsField (number size) (number_at size) (Fits size) → (bytes text rest : List ℕ) → IsBytes bytes → counted_at size bytes ≡ Some (text, rest)
    → Takes bytes (counted size text) rest × Fits size (length text)
unfolding counted_at bytes_at
counted_takes size field bytes text rest fits e =
    let a = step (number size) (number_at size) (Fits size) field (λ n. bytes_at n.0 n.1) bytes (text, rest) fits e in
    let n = a.0 in
    let behind = a.1 in
    let g = unless_some (ltb (length behind) n) (Some (take n behind, drop n behind)) (text, rest) a.4 in
    let long : n ≤ length behind = ltb-false _ _ g.0 in
    let len : length (take n behind) ≡ n = omega (arith, length-take n behind) in
    let second : Takes behind (take n behind) (drop n behind) = record { parts = sym (take-append-drop n behind); rest_fits = IsBytes-drop n behind a.2.rest_fits } in
    let both = Takes-then bytes (number size n) behind (take n behind) (drop n behind) a.2 second in
    let whole : Takes bytes (counted size (take n behind)) (drop n behind) = subst (λ (k : ℕ). Takes bytes (number size k ++ take n behind) (drop n behind)) (sym len) both in
    let fit : Fits size (length (take n behind)) = subst (λ (k : ℕ). Fits size k) (sym len) a.3 in
    let is : (take n behind, drop n behind) ≡ (text, rest) = some_is (take n behind, drop n behind) (text, rest) g.1 in
    subst (λ (p : List ℕ × List ℕ). Takes bytes (counted size p.0) p.1 × Fits size (length p.0)) is (whole, fit)

counted_again : (size : ℕ) → IsField (number size) (number_at size) (Fits size) → (text rest : List ℕ) → Fits size (length text) → counted_at size (counted size text ++ rest) ≡ Some (text, rest)
unfolding counted_at bytes_at
counted_again size field text rest lt =
    let regrouped : counted size text ++ rest ≡ number size (length text) ++ (text ++ rest) = append_assoc (number size (length text)) text rest in
    let long : ltb (length (text ++ rest)) (length text) ≡ false = le-ltb _ _ (omega (arith, length-append text rest)) in
    ap (counted_at size) regrouped ∙ rw (field.again (length text) (text ++ rest) lt, long, take_at text rest (length text) refl, drop_at text rest (length text) refl) refl

counted_field : (size : ℕ) → IsField (number size) (number_at size) (Fits size) → IsField (counted size) (counted_at size) (λ text. Fits size (length text))
counted_field size field = record { takes = counted_takes size field; again = counted_again size field }

pub string_field : IsField (counted 2) (counted_at 2) (λ text. Fits 2 (length text))
string_field = counted_field 2 field_2

pub payload_field : IsField (counted 4) (counted_at 4) (λ text. Fits 4 (length text))
payload_field = counted_field 4 field_4

-- ---- qids

-- which way a test went
pub either : {A : Type 0} (b : Bool) (x : A) (r : Option A) (y : A) → cond b (Some x) r ≡ Some y → ((b ≡ true) × (x ≡ y)) ⊎ (r ≡ Some y)
either true x r y e = inl (refl, some_is x y e)
either false x r y e = inr e

dir_is : (b : ℕ) (dir : Bool) → dir_of b ≡ Some dir → b ≡ qid_type dir
unfolding dir_of
dir_is b dir e =
    elim (either (eqb b QTDIR) true (cond (eqb b QTFILE) (Some false) None) dir e) [
      | inl h ↦ eqb-true b QTDIR h.0 ∙ ap qid_type h.1
      | inr h ↦ let g = where_some (eqb b QTFILE) (Some false) dir h in eqb-true b QTFILE g.0 ∙ ap qid_type (some_is false dir g.1)
    ]

dir_again : (dir : Bool) → dir_of (qid_type dir) ≡ Some dir
unfolding dir_of
dir_again true = refl
dir_again false = refl

version_takes : (bytes rest : List ℕ) → IsBytes bytes → version_at bytes ≡ Some rest → Takes bytes (number 4 0) rest
unfolding version_at
version_takes bytes rest fits e =
    let a = step (number 4) (number_at 4) (Fits 4) field_4 (λ v. cond (eqb v.0 0) (Some v.1) None) bytes rest fits e in
    let g = where_some (eqb a.0 0) (Some a.1) rest a.4 in
    let is : a.1 ≡ rest = some_is a.1 rest g.1 in
    let zero_is : a.0 ≡ 0 = eqb-true a.0 0 g.0 in
    let t : Takes bytes (number 4 0) a.1 = subst (λ (v : ℕ). Takes bytes (number 4 v) a.1) zero_is a.2 in
    subst (λ (r : List ℕ). Takes bytes (number 4 0) r) is t

version_again : (rest : List ℕ) → version_at (number 4 0 ++ rest) ≡ Some rest
unfolding version_at
version_again rest = ap (λ (o : Option (ℕ × List ℕ)). o >>= λ v. cond (eqb v.0 0) (Some v.1) None) (field_4.again 0 rest (omega arith))

qid_takes : (bytes : List ℕ) (q : Qid) (rest : List ℕ) → IsBytes bytes → qid_at bytes ≡ Some (q, rest) → Takes bytes (qid q) rest × Fits 8 q.path
unfolding qid_at
qid_takes bytes q rest fits e =
    let made : Bool → ℕ × List ℕ → Option (Qid × List ℕ) = λ dir path. Some (record { dir = dir; path = path.0 }, path.1) in
    let a = step one_byte byte_at (Fits 1) byte_field (λ b. dir_of b.0 >>= λ dir. version_at b.1 >>= λ r. number_at 8 r >>= made dir) bytes (q, rest) fits e in
    let d = bind_some (dir_of a.0) (λ dir. version_at a.1 >>= λ r. number_at 8 r >>= made dir) (q, rest) a.4 in
    let v = bind_some (version_at a.1) (λ r. number_at 8 r >>= made d.0) (q, rest) d.2 in
    let tv = version_takes a.1 v.0 a.2.rest_fits v.1 in
    let p = step (number 8) (number_at 8) (Fits 8) field_8 (made d.0) v.0 (q, rest) tv.rest_fits v.2 in
    let whole = Takes-then bytes (one_byte a.0) a.1 (number 4 0 ++ number 8 p.0) p.1 a.2 (Takes-then a.1 (number 4 0) v.0 (number 8 p.0) p.1 tv p.2) in
    let typed : Takes bytes (one_byte (qid_type d.0) ++ (number 4 0 ++ number 8 p.0)) p.1 = subst (λ (b : ℕ). Takes bytes (one_byte b ++ (number 4 0 ++ number 8 p.0)) p.1) (dir_is a.0 d.0 d.1) whole in
    let got : Qid × List ℕ = (record { dir = d.0; path = p.0 }, p.1) in
    subst (λ (y : Qid × List ℕ). Takes bytes (qid y.0) y.1 × Fits 8 y.0.path) (some_is got (q, rest) p.4) (typed, p.3)

qid_again : (q : Qid) (rest : List ℕ) → Fits 8 q.path → qid_at (qid q ++ rest) ≡ Some (q, rest)
unfolding qid_at byte_at
qid_again q rest fits =
    let made : Bool → ℕ × List ℕ → Option (Qid × List ℕ) = λ dir path. Some (record { dir = dir; path = path.0 }, path.1) in
    let r : List ℕ = number 8 q.path ++ rest in
    ap (λ (o : Option Bool). o >>= λ dir. version_at (number 4 0 ++ r) >>= λ r. number_at 8 r >>= made dir) (dir_again q.dir)
    ∙ ap (λ (o : Option (List ℕ)). o >>= λ r. number_at 8 r >>= made q.dir) (version_again r)
    ∙ ap (λ (o : Option (ℕ × List ℕ)). o >>= made q.dir) (field_8.again q.path rest fits)

pub qid_field : IsField qid qid_at (λ q. Fits 8 q.path)
qid_field = record { takes = qid_takes; again = qid_again }

-- ---- many, one behind the other

pub many_takes : {A : Type 0} (print : A → List ℕ) (read : List ℕ → Option (A × List ℕ)) (Fit : A → Type 0) → IsField print read Fit
    → (n : ℕ) (bytes : List ℕ) (x : List A × List ℕ) → IsBytes bytes → many_at read n bytes ≡ Some x
    → Takes bytes (flat_map print x.0) x.1 × (length x.0 ≡ n) × AllByRecursion Fit x.0
unfolding many_at
many_takes {A} print read Fit field zero bytes x fits e =
    let is : ([], bytes) ≡ x = some_is ([], bytes) x e in
    subst (λ (y : List A × List ℕ). Takes bytes (flat_map print y.0) y.1 × (length y.0 ≡ 0) × AllByRecursion Fit y.0) is (record { parts = refl; rest_fits = fits }, refl, tt)
many_takes {A} print read Fit field (suc n) bytes x fits e =
    let a = step print read Fit field (λ first. many_at read n first.1 >>= λ others. Some (first.0 ∷ others.0, others.1)) bytes x fits e in
    let b = bind_some (many_at read n a.1) (λ others. Some (a.0 ∷ others.0, others.1)) x a.4 in
    let second = many_takes print read Fit field n a.1 b.0 a.2.rest_fits b.1 in
    let both = Takes-then bytes (print a.0) a.1 (flat_map print b.0.0) b.0.1 a.2 second.0 in
    let is : (a.0 ∷ b.0.0, b.0.1) ≡ x = some_is (a.0 ∷ b.0.0, b.0.1) x b.2 in
    subst (λ (y : List A × List ℕ). Takes bytes (flat_map print y.0) y.1 × (length y.0 ≡ suc n) × AllByRecursion Fit y.0) is (rw flat_map-cons both, ap suc second.1, (a.3, second.2))

pub many_again : {A : Type 0} (print : A → List ℕ) (read : List ℕ → Option (A × List ℕ)) (Fit : A → Type 0) → IsField print read Fit
    → (xs : List A) (rest : List ℕ) → AllByRecursion Fit xs → many_at read (length xs) (flat_map print xs ++ rest) ≡ Some (xs, rest)
unfolding many_at
many_again print read Fit field [] rest fits = refl
many_again print read Fit field (x ∷ xs) rest fits =
    let regrouped : flat_map print (x ∷ xs) ++ rest ≡ print x ++ (flat_map print xs ++ rest) = ap (λ (t : List ℕ). t ++ rest) (flat_map-cons print x xs) ∙ append_assoc (print x) (flat_map print xs) rest in
    ap (many_at read (suc (length xs))) regrouped ∙ rw (field.again x (flat_map print xs ++ rest) fits.0, many_again print read Fit field xs rest fits.1) refl

-- ---- lists behind their count

abbrev pub listed : {A : Type 0} → (A → List ℕ) → List A → List ℕ
listed print xs = number 2 (length xs) ++ flat_map print xs

qids_takes : (bytes : List ℕ) (xs : List Qid) (rest : List ℕ) → IsBytes bytes → qids_at bytes ≡ Some (xs, rest)
    → Takes bytes (listed qid xs) rest × (Fits 2 (length xs) × AllByRecursion (λ q. Fits 8 q.path) xs)
unfolding qids_at
qids_takes bytes xs rest fits e =
    let a = step (number 2) (number_at 2) (Fits 2) field_2 (λ n. many_at qid_at n.0 n.1) bytes (xs, rest) fits e in
    let t = many_takes qid qid_at (λ q. Fits 8 q.path) qid_field a.0 a.1 (xs, rest) a.2.rest_fits a.4 in
    let whole = Takes-then bytes (number 2 a.0) a.1 (flat_map qid xs) rest a.2 t.0 in
    (subst (λ (k : ℕ). Takes bytes (number 2 k ++ flat_map qid xs) rest) (sym t.1) whole, (subst (λ (k : ℕ). Fits 2 k) (sym t.1) a.3, t.2))

qids_again : (xs : List Qid) (rest : List ℕ) → Fits 2 (length xs) × AllByRecursion (λ q. Fits 8 q.path) xs → qids_at (listed qid xs ++ rest) ≡ Some (xs, rest)
unfolding qids_at
qids_again xs rest fits =
    ap qids_at (append_assoc (number 2 (length xs)) (flat_map qid xs) rest)
    ∙ step_again (number 2) (number_at 2) (Fits 2) field_2 (λ n. many_at qid_at n.0 n.1) (length xs) (flat_map qid xs ++ rest) (xs, rest) fits.0
    (many_again qid qid_at (λ q. Fits 8 q.path) qid_field xs rest fits.1)

pub qids_field : IsField (listed qid) qids_at (λ xs. Fits 2 (length xs) × AllByRecursion (λ q. Fits 8 q.path) xs)
qids_field = record { takes = qids_takes; again = qids_again }

names_takes : (bytes : List ℕ) (xs : List (List ℕ)) (rest : List ℕ) → IsBytes bytes → names_at bytes ≡ Some (xs, rest)
    → Takes bytes (listed string xs) rest × ((length xs ≤ MAXWELEM) × AllByRecursion IsString xs)
unfolding names_at
names_takes bytes xs rest fits e =
    let a = step (number 2) (number_at 2) (Fits 2) field_2 (λ n. cond (ltb MAXWELEM n.0) None (many_at (counted_at 2) n.0 n.1)) bytes (xs, rest) fits e in
    let g = unless_some (ltb MAXWELEM a.0) (many_at (counted_at 2) a.0 a.1) (xs, rest) a.4 in
    let le : a.0 ≤ MAXWELEM = ltb-false _ _ g.0 in
    let t = many_takes string (counted_at 2) IsString string_field a.0 a.1 (xs, rest) a.2.rest_fits g.1 in
    let whole = Takes-then bytes (number 2 a.0) a.1 (flat_map string xs) rest a.2 t.0 in
    (subst (λ (k : ℕ). Takes bytes (number 2 k ++ flat_map string xs) rest) (sym t.1) whole, (subst (λ (k : ℕ). k ≤ MAXWELEM) (sym t.1) le, t.2))

names_again : (xs : List (List ℕ)) (rest : List ℕ) → (length xs ≤ MAXWELEM) × AllByRecursion IsString xs → names_at (listed string xs ++ rest) ≡ Some (xs, rest)
unfolding names_at
names_again xs rest fits =
    let short : length xs ≤ 16 = fits.0 in
    ap names_at (append_assoc (number 2 (length xs)) (flat_map string xs) rest)
    ∙ step_again (number 2) (number_at 2) (Fits 2) field_2 (λ n. cond (ltb MAXWELEM n.0) None (many_at (counted_at 2) n.0 n.1)) (length xs) (flat_map string xs ++ rest) (xs, rest) (omega arith)
    (ap (λ (b : Bool). cond b None (many_at (counted_at 2) (length xs) (flat_map string xs ++ rest))) (le-ltb _ _ short)
    ∙ many_again string (counted_at 2) IsString string_field xs rest fits.1)

pub names_field : IsField (listed string) names_at (λ xs. (length xs ≤ MAXWELEM) × AllByRecursion IsString xs)
names_field = record { takes = names_takes; again = names_again }
