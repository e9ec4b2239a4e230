-- What a 9P page holds after a message was put.
use Rattle.std.proofs.Common.{◌≡◌, ◌+◌, ◌≤◌, ℕ, List, ◌++◌, length, refl, sym, ap, ◌∙◌, arith, append_assoc}
use Rattle.byteorder.specs.Endian.{little_bytes}
use Rattle.neph_ring.specs.declared.p9.P9State.{P9State}
use Rattle.neph_ring.specs.declared.p9.P9State.TheVariants.{Idle, Asked, Answered}
use Rattle.neph_ring.specs.Bytes.{bytes_of_words, span, with_bytes, with_u32}
use Rattle.neph_ring.specs.P9Page.{state_number, p9_number, p9_length, with_message, Holds, IsP9Page}
use Rattle.neph_ring.proofs.Spans.{span_within, with_bytes-append}
use Rattle.neph_ring.proofs.Fields.{u32_from, span_front, span_middle, span_end}

-- a state, a length and a message, put one behind the other
pub put_parts : (bs cs ds es : List ℕ) (n : ℕ) (s : P9State) (bytes : List ℕ) → length bs ≡ 4096 → length bytes ≤ 1024 → n ≡ state_number s
    → cs ≡ with_u32 bs 0 n → ds ≡ with_u32 cs 4 (length bytes) → es ≡ with_bytes ds 8 bytes → es ≡ with_message bs s bytes
put_parts bs cs ds es n s bytes full few e a b c =
    let N : List ℕ = little_bytes 4 (state_number s) in
    let L : List ℕ = little_bytes 4 (length bytes) in
    let first : ds ≡ with_bytes bs 0 (N ++ L)
    = b ∙ ap (λ (xs : List ℕ). with_bytes xs 4 L) (a ∙ ap (λ (k : ℕ). with_u32 bs 0 k) e) ∙ with_bytes-append bs 0 N L 4 refl (omega arith) in
    c ∙ ap (λ (xs : List ℕ). with_bytes xs 8 bytes) first ∙ with_bytes-append bs 0 (N ++ L) bytes 8 refl (omega arith)
    ∙ ap (with_bytes bs 0) (append_assoc N L bytes)

small_state : (s : P9State) → state_number s ≤ 2
small_state Idle = omega arith
small_state Asked = omega arith
small_state Answered = omega arith

-- what the page holds then
module _ (bs cs : List ℕ) (s : P9State) (bytes : List ℕ) (full : length bs ≡ 4096) (few : length bytes ≤ 1024) (put : cs ≡ with_message bs s bytes) where
  N : List ℕ
  N = little_bytes 4 (state_number s)

  L : List ℕ
  L = little_bytes 4 (length bytes)

  ys : List ℕ
  ys = N ++ (L ++ bytes)

  part : (j n : ℕ) → j + n ≤ 8 + length bytes → span cs j n ≡ span ys j n
  unfolding ys N L
  part j n h = ap (λ (xs : List ℕ). span xs j n) put ∙ span_within bs 0 ys j j n (omega arith) (omega arith) (omega arith)

  is_state : p9_number cs ≡ state_number s
  unfolding ys N L
  is_state = u32_from cs 0 (state_number s) (part 0 4 (omega arith) ∙ span_front N (L ++ bytes) 4 refl) (let h = small_state s in omega arith)

  is_length : p9_length cs ≡ length bytes
  unfolding ys N L
  is_length = u32_from cs 4 (length bytes) (part 4 4 (omega arith) ∙ span_middle N L bytes 4 4 refl refl) (omega arith)

  pub holds_put : Holds cs s bytes
  unfolding ys N L
  holds_put = record {
    state = is_state;
    message = ap (span cs 8) is_length ∙ part 8 (length bytes) (omega arith) ∙ ap (λ (xs : List ℕ). span xs 8 (length bytes)) (sym (append_assoc N L bytes))
        ∙ span_end (N ++ L) bytes 8 (length bytes) refl refl;
  }

  pub kept_put : IsP9Page cs
  kept_put = record {
    state = let e = is_state in let h = small_state s in omega arith;
    size = let e = is_length in omega arith;
  }

-- a page whose words are the same is the same
pub kept_same : (us ws : List ℕ) → us ≡ ws → IsP9Page (bytes_of_words ws) → IsP9Page (bytes_of_words us)
kept_same us ws e h = rw e h
