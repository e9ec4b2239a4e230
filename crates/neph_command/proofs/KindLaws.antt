-- Words that were read as operands are those that spell them, and are read so again.
use Rattle.std.proofs.Common.{◌≡◌, ℕ, suc, ◌^◌, ◌<◌, ◌≤◌, Bool, true, false, List, [], ◌∷◌, length, map, Result, Ok, Err, inl, inr, refl, sym, ap, subst, ◌∙◌, arith}
use Rattle.std.specs.Prelude.{if◌then◌else◌}
use Rattle.std.specs.Fmt.{decimal}
use Rattle.neph_command.specs.Kind.{Kind}
use Rattle.neph_command.specs.Kind.{Kind as kind}
use Rattle.neph_command.specs.declared.operand.Operand.{Operand}
use Rattle.neph_command.specs.declared.operand.Operand.TheVariants as op
use Rattle.neph_command.specs.declared.why.Why.{Why}
use Rattle.neph_command.specs.Words.{◌>>=◌, number, piece, mode, name}
use Rattle.neph_command.specs.Kinds.{as_operand, operand, operands, operand_word, Fits, FitAll, FirstFault}
use Rattle.neph_command.proofs.Inverse.{bind_ok, same_ok}
use Rattle.neph_command.proofs.WordLaws.{number_read, number_again, piece_read, piece_again, name_read, name_again, mode_read, mode_again}

-- a word of a kind is that of an operand
pub record Told (k : Kind) (word : List ℕ) (x : Operand) : Type 0 where
  pub is : word ≡ operand_word x
  pub fits : Fits k x

told : {A : Type 0} (k : Kind) (word : List ℕ) (to : A → Operand) (r : Result A Why) (x : Operand) → as_operand to r ≡ Ok x → ((a : A) → r ≡ Ok a → Told k word (to a)) → Told k word x
told k word to (Ok a) x e reads = subst (Told k word) (same_ok (to a) x e) (reads a refl)
told k word to (Err w) x e reads = absurd cc

number_told : (k : Kind) (low high : ℕ) (to : ℕ → Operand) (word : List ℕ) (x : Operand) → ((n : ℕ) → operand_word (to n) ≡ decimal n) → ((n : ℕ) → low ≤ n → n ≤ high → Fits k (to n)) → as_operand to (number low high word) ≡ Ok x → Told k word x
number_told k low high to word x words fits e =
    told k word to (number low high word) x e (λ n h. let s = number_read low high word n h in record { is = s.is ∙ sym (words n); fits = fits n s.low_is s.high_is })

-- one row for each kind: what was read is spelled so
pub operand_told : (k : Kind) (word : List ℕ) (x : Operand) → operand k word ≡ Ok x → Told k word x
operand_told kind.addr word x e = number_told kind.addr 0 1073741823 op.Addr word x (λ n. refl) (λ n a b. b) e
operand_told kind.len word x e = number_told kind.len 1 64 op.Len word x (λ n. refl) (λ n a b. (a, b)) e
operand_told kind.bytes word x e = told kind.bytes word op.Bytes (piece word) x e (λ bs h. let s = piece_read word bs h in record { is = s.is; fits = record { some = s.some; few = s.few; small = s.small } })
operand_told kind.vpn word x e = number_told kind.vpn 0 262143 op.Vpn word x (λ n. refl) (λ n a b. b) e
operand_told kind.pfn word x e = number_told kind.pfn 0 1023 op.Pfn word x (λ n. refl) (λ n a b. b) e
operand_told kind.mode word x e = told kind.mode word op.Mode (mode word) x e (λ m h. record { is = mode_read word m h; fits = tt })
operand_told kind.dom word x e = number_told kind.dom 0 63 op.Dom word x (λ n. refl) (λ n a b. b) e
operand_told kind.reference word x e = number_told kind.reference 0 63 op.Ref word x (λ n. refl) (λ n a b. b) e
operand_told kind.handle word x e = number_told kind.handle 0 63 op.Handle word x (λ n. refl) (λ n a b. b) e
operand_told kind.offset word x e = number_told kind.offset 0 4095 op.Offset word x (λ n. refl) (λ n a b. b) e
operand_told kind.label word x e = told kind.label word op.Label (name word) x e (λ l h. let s = name_read word l h in record { is = s.0; fits = s.1 })

numbered : (to : ℕ → Operand) (low high n : ℕ) → low ≤ n → n ≤ high → high < 2 ^ 64 → as_operand to (number low high (decimal n)) ≡ Ok (to n)
numbered to low high n a b small = ap (as_operand to) (number_again low high n a b small)

-- one row for each kind: what is spelled so is read
pub operand_again : (k : Kind) (x : Operand) → Fits k x → operand k (operand_word x) ≡ Ok x
operand_again kind.addr (op.Addr n) h = numbered op.Addr 0 1073741823 n (omega arith) h (omega arith)
operand_again kind.len (op.Len n) h = numbered op.Len 1 64 n h.0 h.1 (omega arith)
operand_again kind.bytes (op.Bytes bytes) h = ap (as_operand op.Bytes) (piece_again bytes h.small h.some h.few)
operand_again kind.vpn (op.Vpn n) h = numbered op.Vpn 0 262143 n (omega arith) h (omega arith)
operand_again kind.pfn (op.Pfn n) h = numbered op.Pfn 0 1023 n (omega arith) h (omega arith)
operand_again kind.mode (op.Mode m) h = ap (as_operand op.Mode) (mode_again m)
operand_again kind.dom (op.Dom n) h = numbered op.Dom 0 63 n (omega arith) h (omega arith)
operand_again kind.reference (op.Ref n) h = numbered op.Ref 0 63 n (omega arith) h (omega arith)
operand_again kind.handle (op.Handle n) h = numbered op.Handle 0 63 n (omega arith) h (omega arith)
operand_again kind.offset (op.Offset n) h = numbered op.Offset 0 4095 n (omega arith) h (omega arith)
operand_again kind.label (op.Label l) h = ap (as_operand op.Label) (name_again l h)
operand_again _ _ h = absurd h

-- an operand of the sort that a kind asks for
abbrev pub of_kind : Kind → Operand → Bool
of_kind kind.addr (op.Addr n) = true
of_kind kind.len (op.Len n) = true
of_kind kind.bytes (op.Bytes bytes) = true
of_kind kind.vpn (op.Vpn n) = true
of_kind kind.pfn (op.Pfn n) = true
of_kind kind.mode (op.Mode m) = true
of_kind kind.label (op.Label l) = true
of_kind kind.dom (op.Dom n) = true
of_kind kind.reference (op.Ref n) = true
of_kind kind.handle (op.Handle n) = true
of_kind kind.offset (op.Offset n) = true
of_kind _ _ = false

abbrev pub have_kinds : List Kind → List Operand → Bool
have_kinds [] [] = true
have_kinds (k ∷ kinds) (x ∷ xs) = if of_kind k x then have_kinds kinds xs else false
have_kinds _ _ = false

-- one row for each kind: an operand that fits is of its sort
kind_fits : (k : Kind) (x : Operand) → Fits k x → of_kind k x ≡ true
kind_fits kind.addr (op.Addr n) h = refl
kind_fits kind.len (op.Len n) h = refl
kind_fits kind.bytes (op.Bytes bytes) h = refl
kind_fits kind.vpn (op.Vpn n) h = refl
kind_fits kind.pfn (op.Pfn n) h = refl
kind_fits kind.mode (op.Mode m) h = refl
kind_fits kind.label (op.Label l) h = refl
kind_fits kind.dom (op.Dom n) h = refl
kind_fits kind.reference (op.Ref n) h = refl
kind_fits kind.handle (op.Handle n) h = refl
kind_fits kind.offset (op.Offset n) h = refl
kind_fits _ _ h = absurd h

pub kinds_fit : (ks : List Kind) (xs : List Operand) → FitAll ks xs → have_kinds ks xs ≡ true
kinds_fit [] [] h = refl
kinds_fit [] (x ∷ xs) h = absurd h
kinds_fit (k ∷ ks) [] h = absurd h
kinds_fit (k ∷ ks) (x ∷ xs) h = rw (kind_fits k x h.0) (kinds_fit ks xs h.1)

-- words of these kinds are those of operands
pub record AllTold (ks : List Kind) (words : List (List ℕ)) (xs : List Operand) : Type 0 where
  pub is : words ≡ map operand_word xs
  pub fits : FitAll ks xs

cons_same : {A : Type 0} (x y : A) (xs ys : List A) → x ≡ y → xs ≡ ys → x ∷ xs ≡ y ∷ ys
cons_same x y xs ys p q = cc

pub all_told : (ks : List Kind) (words : List (List ℕ)) (xs : List Operand) → length words ≡ length ks → operands ks words ≡ Ok xs → AllTold ks words xs
all_told [] [] xs l e = let same : [] ≡ xs = cc in subst (AllTold [] []) same (record { is = refl; fits = tt })
all_told [] (w ∷ ws) xs l e = absurd (omega arith)
all_told (k ∷ ks) [] xs l e = absurd (omega arith)
all_told (k ∷ ks) (w ∷ ws) xs l e =
    let one = bind_ok (operand k w) _ xs e in
    let two = bind_ok (operands ks ws) _ xs one.rest in
    let a = operand_told k w one.value one.first in
    let b = all_told ks ws two.value (omega arith) two.first in
    subst (AllTold (k ∷ ks) (w ∷ ws)) (same_ok (one.value ∷ two.value) xs two.rest) (record { is = cons_same w (operand_word one.value) ws (map operand_word two.value) a.is b.is; fits = (a.fits, b.fits) })

pub all_again : (ks : List Kind) (xs : List Operand) → FitAll ks xs → operands ks (map operand_word xs) ≡ Ok xs
all_again [] [] h = refl
all_again [] (x ∷ xs) h = absurd h
all_again (k ∷ ks) [] h = absurd h
all_again (k ∷ ks) (x ∷ xs) h = rw (operand_again k x h.0, all_again ks xs h.1) refl

pub fit_length : (ks : List Kind) (xs : List Operand) → FitAll ks xs → length (map operand_word xs) ≡ length ks
fit_length [] [] h = refl
fit_length [] (x ∷ xs) h = absurd h
fit_length (k ∷ ks) [] h = absurd h
fit_length (k ∷ ks) (x ∷ xs) h = ap suc (fit_length ks xs h.1)

-- a fault that is found is that of the first word that says nothing
pub first_fault : (ks : List Kind) (words : List (List ℕ)) (w : Why) → operands ks words ≡ Err w → FirstFault ks words w
first_fault [] words w e = absurd cc
first_fault (k ∷ ks) [] w e = absurd cc
first_fault (k ∷ ks) (x ∷ xs) w e = at (operand k x) refl e (first_fault ks xs w) where
  more : (a : Operand) → operand k x ≡ Ok a → (s : Result (List Operand) Why) → operands ks xs ≡ s → (s >>= λ ys. Ok (a ∷ ys)) ≡ Err w → (operands ks xs ≡ Err w → FirstFault ks xs w) → FirstFault (k ∷ ks) (x ∷ xs) w
  more a here (Ok ys) is e rest = absurd cc
  more a here (Err v) is e rest = let same : v ≡ w = cc in inr ((a, here), rest (is ∙ ap Err same))

  at : (r : Result Operand Why) → operand k x ≡ r → (r >>= λ a. operands ks xs >>= λ ys. Ok (a ∷ ys)) ≡ Err w → (operands ks xs ≡ Err w → FirstFault ks xs w) → FirstFault (k ∷ ks) (x ∷ xs) w
  at (Ok a) here e rest = more a here (operands ks xs) refl e rest
  at (Err v) here e rest = let same : v ≡ w = cc in inl (here ∙ ap Err same)
