-- What is read is the message that the bytes spell, and what spells a message is read as it.
use Rattle.std.proofs.Common.{◌≡◌, ℕ, ◌+◌, ◌≤◌, eqb, ltb, cond, Bool, true, List, [], ◌++◌, length, take, Option, Some, None, refl, sym, ap, subst, ◌∙◌, append_assoc, arith}
use Rattle.std.proofs.lemmas.Bool.{eqb-true, ltb-false, le-ltb}
use Rattle.std.proofs.lemmas.List.{append-nil, nil_from_length, length-append, take_at}
use Rattle.byteorder.specs.Numbers.{length-bytes_low_first}
use Rattle.neph_p9msg.specs.declared.msg.TheConstants.{MSIZE}
use Rattle.neph_p9msg.specs.declared.kind.MsgType.{MsgType}
use Rattle.neph_p9msg.specs.declared.msg.Msg.{Msg}
use Rattle.neph_p9msg.specs.declared.msg.MsgBody.{MsgBody}
use Rattle.neph_p9msg.specs.Grammar.{number, type_of, body_bytes, bytes_of, Fits, IsBody, IsMessage, Spells}
use Rattle.neph_p9msg.specs.Reading.{◌>>=◌, Fails, number_at, byte_at, kind_at, body_at, sized_at, message_of}
use Rattle.neph_p9msg.specs.declared.fields.ReadError.{ReadError}
use Rattle.neph_p9msg.specs.declared.fields.ReadError.TheVariants.{Memory, NoMessage}
use Rattle.neph_p9msg.proofs.FieldLaws.{IsBytes, Takes, Takes-then, bind_some, unless_some, where_some, some_is, step, step_again, field_2, field_4, one_byte, byte_field}
use Rattle.neph_p9msg.proofs.Bodies.{code_is, kind_of, kind_again, body_takes, body_again}

-- the steps of reading a message
abbrev behind_body : ℕ → MsgBody × List ℕ → Option Msg
behind_body tag b = cond (eqb (length b.1) 0) (Some (record { tag = tag; body = b.0 })) None

abbrev behind_tag : MsgType → ℕ × List ℕ → Option Msg
behind_tag k t = body_at k t.1 >>= behind_body t.0

abbrev behind_kind : List ℕ → MsgType → Option Msg
behind_kind bytes k = number_at 2 bytes >>= behind_tag k

abbrev behind_code : ℕ × List ℕ → Option Msg
behind_code c = kind_at c.0 >>= behind_kind c.1

abbrev behind_size : List ℕ → Option Msg
behind_size rest = byte_at rest >>= behind_code

abbrev sized : List ℕ → ℕ × List ℕ → Option (List ℕ)
sized bytes size = cond (eqb size.0 (length bytes)) (cond (ltb MSIZE (length bytes)) None (Some size.1)) None

record IsSize (bytes rest : List ℕ) : Type 0 where
  pub size : ℕ
  pub takes : Takes bytes (number 4 size) rest
  pub right : size ≡ length bytes
  pub short : length bytes ≤ MSIZE

size_takes : (bytes rest : List ℕ) → IsBytes bytes → sized_at bytes ≡ Some rest → IsSize bytes rest
unfolding sized_at
size_takes bytes rest fits e =
    let n = step (number 4) (number_at 4) (Fits 4) field_4 (sized bytes) bytes rest fits e in
    let g = where_some (eqb n.0 (length bytes)) (cond (ltb MSIZE (length bytes)) None (Some n.1)) rest n.4 in
    let h = unless_some (ltb MSIZE (length bytes)) (Some n.1) rest g.1 in
    record {
      size = n.0;
      takes = subst (λ (r : List ℕ). Takes bytes (number 4 n.0) r) (some_is n.1 rest h.1) n.2;
      right = eqb-true n.0 (length bytes) g.0;
      short = ltb-false _ _ h.0;
    }

-- a body behind a tag, a type and a size
spelled : (bytes : List ℕ) (size c tag : ℕ) (body : MsgBody) → bytes ≡ number 4 size ++ (one_byte c ++ (number 2 tag ++ body_bytes body)) → size ≡ length bytes → length bytes ≤ MSIZE
    → c ≡ type_of body → Fits 2 tag → IsBody body → Spells bytes (record { tag = tag; body = body })
spelled bytes size c tag body e right short type fits good =
    let len : length bytes ≡ 7 + length (body_bytes body) = ap length e ∙ length-append (number 4 size) (one_byte c ++ (number 2 tag ++ body_bytes body))
    ∙ ap (λ (k : ℕ). k + length (one_byte c ++ (number 2 tag ++ body_bytes body))) (length-bytes_low_first 0 4 size) ∙ omega (arith, length-append (number 2 tag) (body_bytes body), length-bytes_low_first 0 2 tag) in
    record {
      message = record { tag = fits; body = good; size = omega arith };
      spelling = e ∙ ap (λ (c : ℕ). number 4 size ++ (one_byte c ++ (number 2 tag ++ body_bytes body))) type ∙ ap (λ (s : ℕ). number 4 s ++ (one_byte (type_of body) ++ (number 2 tag ++ body_bytes body))) (right ∙ len);
    }

pub message_takes : (bytes : List ℕ) (m : Msg) → IsBytes bytes → message_of bytes ≡ Some m → Spells bytes m
unfolding message_of
message_takes bytes m fits e =
    let z = bind_some (sized_at bytes) behind_size m e in
    let s = size_takes bytes z.0 fits z.1 in
    let c = step one_byte byte_at (Fits 1) byte_field behind_code z.0 m s.takes.rest_fits z.2 in
    let k = bind_some (kind_at c.0) (behind_kind c.1) m c.4 in
    let t = step (number 2) (number_at 2) (Fits 2) field_2 (behind_tag k.0) c.1 m c.2.rest_fits k.2 in
    let b = bind_some (body_at k.0 t.1) (behind_body t.0) m t.4 in
    let o = where_some (eqb (length b.0.1) 0) (Some (record { tag = t.0; body = b.0.0 })) m b.2 in
    let r = body_takes k.0 t.1 b.0.0 b.0.1 t.2.rest_fits b.1 in
    let nothing : b.0.1 ≡ [] = nil_from_length b.0.1 (eqb-true _ _ o.0) in
    let text : List ℕ = number 4 s.size ++ (one_byte c.0 ++ (number 2 t.0 ++ body_bytes b.0.0)) in
    let whole = Takes-then bytes (number 4 s.size) z.0 (one_byte c.0 ++ (number 2 t.0 ++ body_bytes b.0.0)) b.0.1 s.takes
    (Takes-then z.0 (one_byte c.0) c.1 (number 2 t.0 ++ body_bytes b.0.0) b.0.1 c.2 (Takes-then c.1 (number 2 t.0) t.1 (body_bytes b.0.0) b.0.1 t.2 r.takes)) in
    let all : bytes ≡ text = whole.parts ∙ ap (λ (r : List ℕ). text ++ r) nothing ∙ append-nil text in
    let made : Msg = record { tag = t.0; body = b.0.0 } in
    subst (λ (m : Msg). Spells bytes m) (some_is made m o.1) (spelled bytes s.size c.0 t.0 b.0.0 all s.right s.short (code_is c.0 k.0 k.1 ∙ sym r.type) t.3 r.body)

eqb_same : (n : ℕ) → eqb n n ≡ true
eqb_same n = grind arith

-- the bytes of a message, cut in two behind the size
abbrev size_of : Msg → ℕ
size_of m = 7 + length (body_bytes m.body)

abbrev rest_of : Msg → List ℕ
rest_of m = one_byte (type_of m.body) ++ (number 2 m.tag ++ body_bytes m.body)

length_of : (m : Msg) → length (bytes_of m) ≡ size_of m
length_of m =
    length-append (number 4 (size_of m)) (rest_of m) ∙ ap (λ (k : ℕ). k + length (rest_of m)) (length-bytes_low_first 0 4 (size_of m))
    ∙ omega (arith, length-append (number 2 m.tag) (body_bytes m.body), length-bytes_low_first 0 2 m.tag)

size_fits : (m : Msg) → IsMessage m → Fits 4 (size_of m)
size_fits m good = omega (arith, good.size)

size_again : (m : Msg) → IsMessage m → sized_at (bytes_of m) ≡ Some (rest_of m)
unfolding sized_at
size_again m good =
    step_again (number 4) (number_at 4) (Fits 4) field_4 (sized (bytes_of m)) (size_of m) (rest_of m) (rest_of m) (size_fits m good)
    (ap (λ (l : ℕ). cond (eqb (size_of m) l) (cond (ltb MSIZE l) None (Some (rest_of m))) None) (length_of m)
    ∙ ap (λ (b : Bool). cond b (cond (ltb MSIZE (size_of m)) None (Some (rest_of m))) None) (eqb_same (size_of m))
    ∙ ap (λ (b : Bool). cond b None (Some (rest_of m))) (le-ltb _ _ good.size))

pub message_again : (m : Msg) → IsMessage m → message_of (bytes_of m) ≡ Some m
unfolding message_of byte_at
message_again m good =
    let body : body_at (kind_of m.body) (body_bytes m.body) ≡ Some (m.body, []) = ap (body_at (kind_of m.body)) (sym (append-nil (body_bytes m.body))) ∙ body_again m.body [] good.body in
    ap (λ (o : Option (List ℕ)). o >>= behind_size) (size_again m good)
    ∙ ap (λ (o : Option MsgType). o >>= behind_kind (number 2 m.tag ++ body_bytes m.body)) (kind_again m.body)
    ∙ step_again (number 2) (number_at 2) (Fits 2) field_2 (behind_tag (kind_of m.body)) m.tag (body_bytes m.body) m good.tag
    (ap (λ (o : Option (MsgBody × List ℕ)). o >>= behind_body m.tag) body)

-- where no message was read, none is spelled
pub not_found : (e : ReadError) (bytes : List ℕ) (m : Msg) → e ≡ NoMessage → Fails e (message_of bytes) → Spells bytes m → message_of bytes ≡ None
not_found Memory bytes m is h p = absurd (cc is)
not_found NoMessage bytes m is h p = h

-- ---- laws

pub one_message : (bytes : List ℕ) (m n : Msg) → Spells bytes m → Spells bytes n → m ≡ n
one_message bytes m n p q =
    some_is m n (sym (ap message_of p.spelling ∙ message_again m p.message) ∙ ap message_of q.spelling ∙ message_again n q.message)

front_size : (a x : List ℕ) (m : Msg) → Spells a m → number_at 4 (a ++ x) ≡ Some (size_of m, rest_of m ++ x)
front_size a x m p =
    ap (λ (t : List ℕ). number_at 4 (t ++ x)) p.spelling ∙ ap (number_at 4) (append_assoc (number 4 (size_of m)) (rest_of m) x)
    ∙ field_4.again (size_of m) (rest_of m ++ x) (size_fits m p.message)

pub not_begun : (a b x y : List ℕ) (m n : Msg) → Spells a m → Spells b n → a ++ x ≡ b ++ y → (a ≡ b) × (m ≡ n)
not_begun a b x y m n p q e =
    let both = some_is (size_of m, rest_of m ++ x) (size_of n, rest_of n ++ y) (sym (front_size a x m p) ∙ ap (number_at 4) e ∙ front_size b y n q) in
    let sizes : size_of m ≡ size_of n = ap (λ (s : ℕ × List ℕ). s.0) both in
    let long : length a ≡ length b = ap length p.spelling ∙ length_of m ∙ sizes ∙ sym (length_of n) ∙ sym (ap length q.spelling) in
    let same : a ≡ b = sym (take_at a x (length a) refl) ∙ ap (λ (t : List ℕ). take (length a) t) e ∙ take_at b y (length a) (sym long) in
    (same, one_message b m n (subst (λ (t : List ℕ). Spells t m) same p) q)
