-- A body that is read is the body that was spelled, and what was spelled is read again.
use Rattle.std.proofs.Common.{◌≡◌, ℕ, ◌≤◌, eqb, cond, List, ◌++◌, length, Option, Some, refl, sym, ap, subst, ◌∙◌, append_assoc, inl, inr}
use Rattle.std.specs.List.{AllByRecursion}
use Rattle.std.proofs.lemmas.Bool.{eqb-true}
use Rattle.neph_p9msg.specs.declared.kind.TheConstants.{TVERSION, RVERSION, TATTACH, RATTACH, RERROR, TWALK, RWALK, TOPEN, ROPEN, TREAD, RREAD, TWRITE, RWRITE, TCLUNK, RCLUNK}
use Rattle.neph_p9msg.specs.declared.msg.TheConstants.{MAXWELEM}
use Rattle.neph_p9msg.specs.declared.kind.MsgType.{MsgType}
use Rattle.neph_p9msg.specs.declared.kind.MsgType.TheVariants as kinds
use Rattle.neph_p9msg.specs.declared.msg.MsgBody.{MsgBody}
use Rattle.neph_p9msg.specs.declared.msg.MsgBody.TheVariants.{Tversion, Rversion, Tattach, Rattach, Rerror, Twalk, Rwalk, Topen, Ropen, Tread, Rread, Twrite, Rwrite, Tclunk, Rclunk}
use Rattle.neph_p9msg.specs.Grammar.{number, string, payload, qid, type_of, body_bytes, Fits, IsString, IsBody}
use Rattle.neph_p9msg.specs.Reading.{◌>>=◌, number_at, byte_at, counted_at, qid_at, qids_at, names_at, kind_at, tversion_at, rversion_at, tattach_at, rattach_at, rerror_at, twalk_at, rwalk_at, topen_at, ropen_at, tread_at, rread_at, twrite_at, rwrite_at, tclunk_at, body_at}
use Rattle.neph_p9msg.proofs.FieldLaws.{IsBytes, IsField, Takes, Takes-then, step, step_again, some_is, either, field_4, field_8, one_byte, byte_field, string_field, payload_field, qid_field, listed, names_field, qids_field}

-- ---- types

abbrev pub code : MsgType → ℕ
code kinds.Tversion = TVERSION
code kinds.Rversion = RVERSION
code kinds.Tattach = TATTACH
code kinds.Rattach = RATTACH
code kinds.Rerror = RERROR
code kinds.Twalk = TWALK
code kinds.Rwalk = RWALK
code kinds.Topen = TOPEN
code kinds.Ropen = ROPEN
code kinds.Tread = TREAD
code kinds.Rread = RREAD
code kinds.Twrite = TWRITE
code kinds.Rwrite = RWRITE
code kinds.Tclunk = TCLUNK
code kinds.Rclunk = RCLUNK

code_here : (n c : ℕ) (k found : MsgType) (r : Option MsgType) → code k ≡ c → (r ≡ Some found → n ≡ code found) → cond (eqb n c) (Some k) r ≡ Some found → n ≡ code found
code_here n c k found r is later e =
    elim (either (eqb n c) k r found e) [
      | inl h ↦ eqb-true n c h.0 ∙ sym is ∙ ap code h.1
      | inr h ↦ later h
    ]

pub code_is : (n : ℕ) (k : MsgType) → kind_at n ≡ Some k → n ≡ code k
unfolding kind_at
code_is n k e =
    code_here n TVERSION kinds.Tversion k _ refl (
    code_here n RVERSION kinds.Rversion k _ refl (
    code_here n TATTACH kinds.Tattach k _ refl (
    code_here n RATTACH kinds.Rattach k _ refl (
    code_here n RERROR kinds.Rerror k _ refl (
    code_here n TWALK kinds.Twalk k _ refl (
    code_here n RWALK kinds.Rwalk k _ refl (
    code_here n TOPEN kinds.Topen k _ refl (
    code_here n ROPEN kinds.Ropen k _ refl (
    code_here n TREAD kinds.Tread k _ refl (
    code_here n RREAD kinds.Rread k _ refl (
    code_here n TWRITE kinds.Twrite k _ refl (
    code_here n RWRITE kinds.Rwrite k _ refl (
    code_here n TCLUNK kinds.Tclunk k _ refl (
    code_here n RCLUNK kinds.Rclunk k _ refl (λ h. absurd cc))))))))))))))) e

abbrev pub kind_of : MsgBody → MsgType
kind_of (Tversion msize version) = kinds.Tversion
kind_of (Rversion msize version) = kinds.Rversion
kind_of (Tattach fid afid uname aname) = kinds.Tattach
kind_of (Rattach root) = kinds.Rattach
kind_of (Rerror ename) = kinds.Rerror
kind_of (Twalk fid newfid names) = kinds.Twalk
kind_of (Rwalk qids) = kinds.Rwalk
kind_of (Topen fid mode) = kinds.Topen
kind_of (Ropen node iounit) = kinds.Ropen
kind_of (Tread fid offset count) = kinds.Tread
kind_of (Rread bytes) = kinds.Rread
kind_of (Twrite fid offset bytes) = kinds.Twrite
kind_of (Rwrite count) = kinds.Rwrite
kind_of (Tclunk fid) = kinds.Tclunk
kind_of Rclunk = kinds.Rclunk

pub kind_again : (m : MsgBody) → kind_at (type_of m) ≡ Some (kind_of m)
unfolding kind_at
kind_again (Tversion msize version) = refl
kind_again (Rversion msize version) = refl
kind_again (Tattach fid afid uname aname) = refl
kind_again (Rattach root) = refl
kind_again (Rerror ename) = refl
kind_again (Twalk fid newfid names) = refl
kind_again (Rwalk qids) = refl
kind_again (Topen fid mode) = refl
kind_again (Ropen node iounit) = refl
kind_again (Tread fid offset count) = refl
kind_again (Rread bytes) = refl
kind_again (Twrite fid offset bytes) = refl
kind_again (Rwrite count) = refl
kind_again (Tclunk fid) = refl
kind_again Rclunk = refl

-- ---- what is read

abbrev done : MsgBody → List ℕ → Option (MsgBody × List ℕ)
done m rest = Some (m, rest)

pub record IsRead (k : MsgType) (bytes : List ℕ) (m : MsgBody) (rest : List ℕ) : Type 0 where
  pub takes : Takes bytes (body_bytes m) rest
  pub body : IsBody m
  pub type : type_of m ≡ code k

one_takes : {A : Type 0} (p : A → List ℕ) (r : List ℕ → Option (A × List ℕ)) (F : A → Type 0) → IsField p r F
    → (K : A → MsgBody) (bytes : List ℕ) (m : MsgBody) (rest : List ℕ) → IsBytes bytes
    → (r bytes >>= λ a. done (K a.0) a.1) ≡ Some (m, rest)
    → (a : A) × (K a ≡ m) × F a × Takes bytes (p a) rest
one_takes {A} p r F field K bytes m rest fits e =
    let a = step p r F field (λ a. done (K a.0) a.1) bytes (m, rest) fits e in
    let is : (K a.0, a.1) ≡ (m, rest) = some_is (K a.0, a.1) (m, rest) a.4 in
    (a.0, ap (λ (y : MsgBody × List ℕ). y.0) is, a.3, subst (λ (r : List ℕ). Takes bytes (p a.0) r) (ap (λ (y : MsgBody × List ℕ). y.1) is) a.2)

two_takes : {A B : Type 0} (p : A → List ℕ) (r : List ℕ → Option (A × List ℕ)) (F : A → Type 0) → IsField p r F
    → (q : B → List ℕ) (s : List ℕ → Option (B × List ℕ)) (G : B → Type 0) → IsField q s G
    → (K : A → B → MsgBody) (bytes : List ℕ) (m : MsgBody) (rest : List ℕ) → IsBytes bytes
    → (r bytes >>= λ a. s a.1 >>= λ b. done (K a.0 b.0) b.1) ≡ Some (m, rest)
    → (a : A) × (b : B) × (K a b ≡ m) × F a × G b × Takes bytes (p a ++ q b) rest
two_takes p r F field q s G more K bytes m rest fits e =
    let a = step p r F field (λ a. s a.1 >>= λ b. done (K a.0 b.0) b.1) bytes (m, rest) fits e in
    let b = one_takes q s G more (K a.0) a.1 m rest a.2.rest_fits a.4 in
    (a.0, b.0, b.1, a.3, b.2, Takes-then bytes (p a.0) a.1 (q b.0) rest a.2 b.3)

three_takes : {A B C : Type 0} (p : A → List ℕ) (r : List ℕ → Option (A × List ℕ)) (F : A → Type 0) → IsField p r F
    → (q : B → List ℕ) (s : List ℕ → Option (B × List ℕ)) (G : B → Type 0) → IsField q s G
    → (o : C → List ℕ) (t : List ℕ → Option (C × List ℕ)) (H : C → Type 0) → IsField o t H
    → (K : A → B → C → MsgBody) (bytes : List ℕ) (m : MsgBody) (rest : List ℕ) → IsBytes bytes
    → (r bytes >>= λ a. s a.1 >>= λ b. t b.1 >>= λ c. done (K a.0 b.0 c.0) c.1) ≡ Some (m, rest)
    → (a : A) × (b : B) × (c : C) × (K a b c ≡ m) × F a × G b × H c × Takes bytes (p a ++ (q b ++ o c)) rest
three_takes p r F field q s G more o t H most K bytes m rest fits e =
    let a = step p r F field (λ a. s a.1 >>= λ b. t b.1 >>= λ c. done (K a.0 b.0 c.0) c.1) bytes (m, rest) fits e in
    let b = two_takes q s G more o t H most (K a.0) a.1 m rest a.2.rest_fits a.4 in
    (a.0, b.0, b.1, b.2, a.3, b.3, b.4, Takes-then bytes (p a.0) a.1 (q b.0 ++ o b.1) rest a.2 b.5)

tattach_takes : (bytes : List ℕ) (m : MsgBody) (rest : List ℕ) → IsBytes bytes → tattach_at bytes ≡ Some (m, rest) → IsRead kinds.Tattach bytes m rest
unfolding tattach_at
tattach_takes bytes m rest fits e =
    let a = step (number 4) (number_at 4) (Fits 4) field_4 (λ fid. number_at 4 fid.1 >>= λ afid. counted_at 2 afid.1 >>= λ uname. counted_at 2 uname.1 >>= λ aname. done (Tattach fid.0 afid.0 uname.0 aname.0) aname.1) bytes (m, rest) fits e in
    let b = three_takes (number 4) (number_at 4) (Fits 4) field_4 string (counted_at 2) IsString string_field string (counted_at 2) IsString string_field (Tattach a.0) a.1 m rest a.2.rest_fits a.4 in
    let whole = Takes-then bytes (number 4 a.0) a.1 (number 4 b.0 ++ (string b.1 ++ string b.2)) rest a.2 b.7 in
    subst (λ (m : MsgBody). IsRead kinds.Tattach bytes m rest) b.3 (record { takes = whole; body = (a.3, b.4, b.5, b.6); type = refl })

pub body_takes : (k : MsgType) (bytes : List ℕ) (m : MsgBody) (rest : List ℕ) → IsBytes bytes → body_at k bytes ≡ Some (m, rest) → IsRead k bytes m rest
unfolding body_at tversion_at rversion_at rattach_at rerror_at twalk_at rwalk_at topen_at ropen_at tread_at rread_at twrite_at rwrite_at tclunk_at
body_takes kinds.Tversion bytes m rest fits e =
    let t = two_takes (number 4) (number_at 4) (Fits 4) field_4 string (counted_at 2) IsString string_field Tversion bytes m rest fits e in
    subst (λ (m : MsgBody). IsRead kinds.Tversion bytes m rest) t.2 (record { takes = t.5; body = (t.3, t.4); type = refl })
body_takes kinds.Rversion bytes m rest fits e =
    let t = two_takes (number 4) (number_at 4) (Fits 4) field_4 string (counted_at 2) IsString string_field Rversion bytes m rest fits e in
    subst (λ (m : MsgBody). IsRead kinds.Rversion bytes m rest) t.2 (record { takes = t.5; body = (t.3, t.4); type = refl })
body_takes kinds.Tattach bytes m rest fits e = tattach_takes bytes m rest fits e
body_takes kinds.Rattach bytes m rest fits e =
    let t = one_takes qid qid_at (λ q. Fits 8 q.path) qid_field Rattach bytes m rest fits e in
    subst (λ (m : MsgBody). IsRead kinds.Rattach bytes m rest) t.1 (record { takes = t.3; body = t.2; type = refl })
body_takes kinds.Rerror bytes m rest fits e =
    let t = one_takes string (counted_at 2) IsString string_field Rerror bytes m rest fits e in
    subst (λ (m : MsgBody). IsRead kinds.Rerror bytes m rest) t.1 (record { takes = t.3; body = t.2; type = refl })
body_takes kinds.Twalk bytes m rest fits e =
    let t = three_takes (number 4) (number_at 4) (Fits 4) field_4 (number 4) (number_at 4) (Fits 4) field_4 (listed string) names_at (λ xs. (length xs ≤ MAXWELEM) × AllByRecursion IsString xs) names_field Twalk bytes m rest fits e in
    subst (λ (m : MsgBody). IsRead kinds.Twalk bytes m rest) t.3 (record { takes = t.7; body = (t.4, t.5, t.6.0, t.6.1); type = refl })
body_takes kinds.Rwalk bytes m rest fits e =
    let t = one_takes (listed qid) qids_at (λ xs. Fits 2 (length xs) × AllByRecursion (λ q. Fits 8 q.path) xs) qids_field Rwalk bytes m rest fits e in
    subst (λ (m : MsgBody). IsRead kinds.Rwalk bytes m rest) t.1 (record { takes = t.3; body = t.2; type = refl })
body_takes kinds.Topen bytes m rest fits e =
    let t = two_takes (number 4) (number_at 4) (Fits 4) field_4 one_byte byte_at (Fits 1) byte_field Topen bytes m rest fits e in
    subst (λ (m : MsgBody). IsRead kinds.Topen bytes m rest) t.2 (record { takes = t.5; body = (t.3, t.4); type = refl })
body_takes kinds.Ropen bytes m rest fits e =
    let t = two_takes qid qid_at (λ q. Fits 8 q.path) qid_field (number 4) (number_at 4) (Fits 4) field_4 Ropen bytes m rest fits e in
    subst (λ (m : MsgBody). IsRead kinds.Ropen bytes m rest) t.2 (record { takes = t.5; body = (t.3, t.4); type = refl })
body_takes kinds.Tread bytes m rest fits e =
    let t = three_takes (number 4) (number_at 4) (Fits 4) field_4 (number 8) (number_at 8) (Fits 8) field_8 (number 4) (number_at 4) (Fits 4) field_4 Tread bytes m rest fits e in
    subst (λ (m : MsgBody). IsRead kinds.Tread bytes m rest) t.3 (record { takes = t.7; body = (t.4, t.5, t.6); type = refl })
body_takes kinds.Rread bytes m rest fits e =
    let t = one_takes payload (counted_at 4) (λ text. Fits 4 (length text)) payload_field Rread bytes m rest fits e in
    subst (λ (m : MsgBody). IsRead kinds.Rread bytes m rest) t.1 (record { takes = t.3; body = t.2; type = refl })
body_takes kinds.Twrite bytes m rest fits e =
    let t = three_takes (number 4) (number_at 4) (Fits 4) field_4 (number 8) (number_at 8) (Fits 8) field_8 payload (counted_at 4) (λ text. Fits 4 (length text)) payload_field Twrite bytes m rest fits e in
    subst (λ (m : MsgBody). IsRead kinds.Twrite bytes m rest) t.3 (record { takes = t.7; body = (t.4, t.5, t.6); type = refl })
body_takes kinds.Rwrite bytes m rest fits e =
    let t = one_takes (number 4) (number_at 4) (Fits 4) field_4 Rwrite bytes m rest fits e in
    subst (λ (m : MsgBody). IsRead kinds.Rwrite bytes m rest) t.1 (record { takes = t.3; body = t.2; type = refl })
body_takes kinds.Tclunk bytes m rest fits e =
    let t = one_takes (number 4) (number_at 4) (Fits 4) field_4 Tclunk bytes m rest fits e in
    subst (λ (m : MsgBody). IsRead kinds.Tclunk bytes m rest) t.1 (record { takes = t.3; body = t.2; type = refl })
body_takes kinds.Rclunk bytes m rest fits e =
    subst (λ (y : MsgBody × List ℕ). IsRead kinds.Rclunk bytes y.0 y.1) (some_is (Rclunk, bytes) (m, rest) e) (record { takes = record { parts = refl; rest_fits = fits }; body = tt; type = refl })

-- ---- what is read again

one_again : {A : Type 0} (p : A → List ℕ) (r : List ℕ → Option (A × List ℕ)) (F : A → Type 0) → IsField p r F
    → (K : A → MsgBody) (a : A) (rest : List ℕ) → F a → (r (p a ++ rest) >>= λ a. done (K a.0) a.1) ≡ Some (K a, rest)
one_again p r F field K a rest fit = step_again p r F field (λ a. done (K a.0) a.1) a rest (K a, rest) fit refl

two_again : {A B : Type 0} (p : A → List ℕ) (r : List ℕ → Option (A × List ℕ)) (F : A → Type 0) → IsField p r F
    → (q : B → List ℕ) (s : List ℕ → Option (B × List ℕ)) (G : B → Type 0) → IsField q s G
    → (K : A → B → MsgBody) (a : A) (b : B) (rest : List ℕ) → F a → G b
    → (r ((p a ++ q b) ++ rest) >>= λ a. s a.1 >>= λ b. done (K a.0 b.0) b.1) ≡ Some (K a b, rest)
two_again p r F field q s G more K a b rest fit fits =
    ap (λ (bytes : List ℕ). r bytes >>= λ a. s a.1 >>= λ b. done (K a.0 b.0) b.1) (append_assoc (p a) (q b) rest)
    ∙ step_again p r F field (λ a. s a.1 >>= λ b. done (K a.0 b.0) b.1) a (q b ++ rest) (K a b, rest) fit (one_again q s G more (K a) b rest fits)

three_again : {A B C : Type 0} (p : A → List ℕ) (r : List ℕ → Option (A × List ℕ)) (F : A → Type 0) → IsField p r F
    → (q : B → List ℕ) (s : List ℕ → Option (B × List ℕ)) (G : B → Type 0) → IsField q s G
    → (o : C → List ℕ) (t : List ℕ → Option (C × List ℕ)) (H : C → Type 0) → IsField o t H
    → (K : A → B → C → MsgBody) (a : A) (b : B) (c : C) (rest : List ℕ) → F a → G b → H c
    → (r ((p a ++ (q b ++ o c)) ++ rest) >>= λ a. s a.1 >>= λ b. t b.1 >>= λ c. done (K a.0 b.0 c.0) c.1) ≡ Some (K a b c, rest)
three_again p r F field q s G more o t H most K a b c rest fit fits all =
    ap (λ (bytes : List ℕ). r bytes >>= λ a. s a.1 >>= λ b. t b.1 >>= λ c. done (K a.0 b.0 c.0) c.1) (append_assoc (p a) (q b ++ o c) rest)
    ∙ step_again p r F field (λ a. s a.1 >>= λ b. t b.1 >>= λ c. done (K a.0 b.0 c.0) c.1) a ((q b ++ o c) ++ rest) (K a b c, rest) fit (two_again q s G more o t H most (K a) b c rest fits all)

tattach_again : (fid afid : ℕ) (uname aname rest : List ℕ) → IsBody (Tattach fid afid uname aname)
    → tattach_at (body_bytes (Tattach fid afid uname aname) ++ rest) ≡ Some (Tattach fid afid uname aname, rest)
unfolding tattach_at
tattach_again fid afid uname aname rest fits =
    ap tattach_at (append_assoc (number 4 fid) (number 4 afid ++ (string uname ++ string aname)) rest)
    ∙ step_again (number 4) (number_at 4) (Fits 4) field_4 (λ fid. number_at 4 fid.1 >>= λ afid. counted_at 2 afid.1 >>= λ uname. counted_at 2 uname.1 >>= λ aname. done (Tattach fid.0 afid.0 uname.0 aname.0) aname.1) fid ((number 4 afid ++ (string uname ++ string aname)) ++ rest) (Tattach fid afid uname aname, rest) fits.0
    (three_again (number 4) (number_at 4) (Fits 4) field_4 string (counted_at 2) IsString string_field string (counted_at 2) IsString string_field (Tattach fid) afid uname aname rest fits.1 fits.2 fits.3)

pub body_again : (m : MsgBody) (rest : List ℕ) → IsBody m → body_at (kind_of m) (body_bytes m ++ rest) ≡ Some (m, rest)
unfolding body_at tversion_at rversion_at rattach_at rerror_at twalk_at rwalk_at topen_at ropen_at tread_at rread_at twrite_at rwrite_at tclunk_at
body_again (Tversion msize version) rest fits = two_again (number 4) (number_at 4) (Fits 4) field_4 string (counted_at 2) IsString string_field Tversion msize version rest fits.0 fits.1
body_again (Rversion msize version) rest fits = two_again (number 4) (number_at 4) (Fits 4) field_4 string (counted_at 2) IsString string_field Rversion msize version rest fits.0 fits.1
body_again (Tattach fid afid uname aname) rest fits = tattach_again fid afid uname aname rest fits
body_again (Rattach root) rest fits = one_again qid qid_at (λ q. Fits 8 q.path) qid_field Rattach root rest fits
body_again (Rerror ename) rest fits = one_again string (counted_at 2) IsString string_field Rerror ename rest fits
body_again (Twalk fid newfid names) rest fits =
    three_again (number 4) (number_at 4) (Fits 4) field_4 (number 4) (number_at 4) (Fits 4) field_4 (listed string) names_at (λ xs. (length xs ≤ MAXWELEM) × AllByRecursion IsString xs) names_field Twalk fid newfid names rest fits.0 fits.1 (fits.2, fits.3)
body_again (Rwalk qids) rest fits = one_again (listed qid) qids_at (λ xs. Fits 2 (length xs) × AllByRecursion (λ q. Fits 8 q.path) xs) qids_field Rwalk qids rest fits
body_again (Topen fid mode) rest fits = two_again (number 4) (number_at 4) (Fits 4) field_4 one_byte byte_at (Fits 1) byte_field Topen fid mode rest fits.0 fits.1
body_again (Ropen node iounit) rest fits = two_again qid qid_at (λ q. Fits 8 q.path) qid_field (number 4) (number_at 4) (Fits 4) field_4 Ropen node iounit rest fits.0 fits.1
body_again (Tread fid offset count) rest fits =
    three_again (number 4) (number_at 4) (Fits 4) field_4 (number 8) (number_at 8) (Fits 8) field_8 (number 4) (number_at 4) (Fits 4) field_4 Tread fid offset count rest fits.0 fits.1 fits.2
body_again (Rread bytes) rest fits = one_again payload (counted_at 4) (λ text. Fits 4 (length text)) payload_field Rread bytes rest fits
body_again (Twrite fid offset bytes) rest fits =
    three_again (number 4) (number_at 4) (Fits 4) field_4 (number 8) (number_at 8) (Fits 8) field_8 payload (counted_at 4) (λ text. Fits 4 (length text)) payload_field Twrite fid offset bytes rest fits.0 fits.1 fits.2
body_again (Rwrite count) rest fits = one_again (number 4) (number_at 4) (Fits 4) field_4 Rwrite count rest fits
body_again (Tclunk fid) rest fits = one_again (number 4) (number_at 4) (Fits 4) field_4 Tclunk fid rest fits
body_again Rclunk rest fits = refl
