-- The 9P page: at most one message, and its state.
use Rattle.std.specs.Prelude.{◌≡◌, ◌≤◌, ◌++◌, ℕ, List, length}
use Rattle.byteorder.specs.Endian.{little_bytes}
use Rattle.neph_ring.specs.declared.layout.TheConstants.{P9_STATE, P9_LENGTH, P9_MESSAGE, P9_MOST}
use Rattle.neph_ring.specs.declared.p9.P9State.{P9State}
use Rattle.neph_ring.specs.declared.p9.P9State.TheVariants.{Idle, Asked, Answered}
use Rattle.neph_ring.specs.Bytes.{span, with_bytes, u32_at}

-- the number of a state
abbrev pub state_number : P9State → ℕ
state_number Idle = 0
state_number Asked = 1
state_number Answered = 2

-- the state's number in the page
abbrev pub p9_number : List ℕ → ℕ
p9_number page = u32_at page P9_STATE

-- the length of the message
abbrev pub p9_length : List ℕ → ℕ
p9_length page = u32_at page P9_LENGTH

-- the bytes of the message
abbrev pub p9_message : List ℕ → List ℕ
p9_message page = span page P9_MESSAGE (p9_length page)

-- the page is in this state
abbrev pub IsIn : List ℕ → P9State → Type 0
IsIn page state = p9_number page ≡ state_number state

-- the page has a state, and a message that has room
pub record IsP9Page (page : List ℕ) : Type 0 where
  pub state : p9_number page ≤ 2
  pub size : p9_length page ≤ P9_MOST

-- the page is in this state, with these bytes as its message
pub record Holds (page : List ℕ) (s : P9State) (bytes : List ℕ) : Type 0 where
  pub state : IsIn page s
  pub message : p9_message page ≡ bytes

-- the page with a state and a message; the bytes behind the message stay
abbrev pub with_message : List ℕ → P9State → List ℕ → List ℕ
with_message page state bytes =
    let counted = little_bytes 4 (length bytes) ++ bytes in
    with_bytes page P9_STATE (little_bytes 4 (state_number state) ++ counted)
