-- The messages of 9P2000, and the one spelling of each.
use Rattle.std.specs.Prelude.{◌≡◌, ℕ, ◌+◌, ◌<◌, ◌≤◌, ◌^◌, Bool, true, false, List, [], ◌∷◌, ◌++◌, length, Option, Some, ◌↔◌}
use Rattle.std.specs.List.{flat_map, AllByRecursion}
use Rattle.byteorder.specs.Endian.{little_bytes}
use Rattle.neph_p9msg.specs.declared.msg.TheConstants.{MSIZE, MAXWELEM, QTDIR, QTFILE}
use Rattle.neph_p9msg.specs.declared.kind.TheConstants.{TVERSION, RVERSION, TATTACH, RATTACH, RERROR, TWALK, RWALK, TOPEN, ROPEN, TREAD, RREAD, TWRITE, RWRITE, TCLUNK, RCLUNK}
use Rattle.neph_p9msg.specs.declared.msg.Qid.{Qid}
use Rattle.neph_p9msg.specs.declared.msg.Msg.{Msg}
use Rattle.neph_p9msg.specs.declared.msg.MsgBody.{MsgBody}
use Rattle.neph_p9msg.specs.declared.msg.MsgBody.TheVariants.{Tversion, Rversion, Tattach, Rattach, Rerror, Twalk, Rwalk, Topen, Ropen, Tread, Rread, Twrite, Rwrite, Tclunk, Rclunk}

-- a number in so many bytes, the lowest first
abbrev pub number : ℕ → ℕ → List ℕ
number size n = little_bytes size n

-- bytes behind their count, which stands in so many bytes
abbrev pub counted : ℕ → List ℕ → List ℕ
counted size bytes = number size (length bytes) ++ bytes

-- a string has its length in two bytes
abbrev pub string : List ℕ → List ℕ
string text = counted 2 text

-- what is read or put has its length in four bytes
abbrev pub payload : List ℕ → List ℕ
payload bytes = counted 4 bytes

-- values behind their count, which stands in two bytes
abbrev pub series : {A : Type 0} → (A → List ℕ) → List A → List ℕ
series one values = number 2 (length values) ++ flat_map one values

-- the type byte of a qid
abbrev pub qid_type : Bool → ℕ
qid_type true = QTDIR
qid_type false = QTFILE

-- a qid: its type, its version 0 and its path
abbrev pub qid : Qid → List ℕ
qid q = qid_type q.dir ∷ number 4 0 ++ number 8 q.path

-- the number of a message's type
abbrev pub type_of : MsgBody → ℕ
type_of (Tversion msize version) = TVERSION
type_of (Rversion msize version) = RVERSION
type_of (Tattach fid afid uname aname) = TATTACH
type_of (Rattach root) = RATTACH
type_of (Rerror ename) = RERROR
type_of (Twalk fid newfid names) = TWALK
type_of (Rwalk qids) = RWALK
type_of (Topen fid mode) = TOPEN
type_of (Ropen node iounit) = ROPEN
type_of (Tread fid offset count) = TREAD
type_of (Rread bytes) = RREAD
type_of (Twrite fid offset bytes) = TWRITE
type_of (Rwrite count) = RWRITE
type_of (Tclunk fid) = TCLUNK
type_of Rclunk = RCLUNK

-- what stands behind the tag
abbrev pub body_bytes : MsgBody → List ℕ
body_bytes (Tversion msize version) = number 4 msize ++ string version
body_bytes (Rversion msize version) = number 4 msize ++ string version
body_bytes (Tattach fid afid uname aname) =
    number 4 fid ++ number 4 afid ++ string uname ++ string aname
body_bytes (Rattach root) = qid root
body_bytes (Rerror ename) = string ename
body_bytes (Twalk fid newfid names) = number 4 fid ++ number 4 newfid ++ series string names
body_bytes (Rwalk qids) = series qid qids
body_bytes (Topen fid mode) = number 4 fid ++ mode ∷ []
body_bytes (Ropen node iounit) = qid node ++ number 4 iounit
body_bytes (Tread fid offset count) = number 4 fid ++ number 8 offset ++ number 4 count
body_bytes (Rread bytes) = payload bytes
body_bytes (Twrite fid offset bytes) = number 4 fid ++ number 8 offset ++ payload bytes
body_bytes (Rwrite count) = number 4 count
body_bytes (Tclunk fid) = number 4 fid
body_bytes Rclunk = []

-- the bytes of a message: its size, which counts itself, its type, its tag and its body
abbrev pub bytes_of : Msg → List ℕ
bytes_of m =
    number 4 (7 + length (body_bytes m.body))
    ++ type_of m.body ∷ number 2 m.tag ++ body_bytes m.body

-- a number has at most so many bytes
abbrev pub Fits : ℕ → ℕ → Type 0
Fits size n = n < 256 ^ size

-- the length of a string fits its two bytes
abbrev pub IsString : List ℕ → Type 0
IsString text = Fits 2 (length text)

-- each number fits its field, and at most 16 names are walked
abbrev pub IsBody : MsgBody → Type 0
IsBody (Tversion msize version) = Fits 4 msize × IsString version
IsBody (Rversion msize version) = Fits 4 msize × IsString version
IsBody (Tattach fid afid uname aname) = Fits 4 fid × Fits 4 afid × IsString uname × IsString aname
IsBody (Rattach root) = Fits 8 root.path
IsBody (Rerror ename) = IsString ename
IsBody (Twalk fid newfid names) =
    Fits 4 fid × Fits 4 newfid × (length names ≤ MAXWELEM) × AllByRecursion IsString names
IsBody (Rwalk qids) = Fits 2 (length qids) × AllByRecursion (λ q. Fits 8 q.path) qids
IsBody (Topen fid mode) = Fits 4 fid × Fits 1 mode
IsBody (Ropen node iounit) = Fits 8 node.path × Fits 4 iounit
IsBody (Tread fid offset count) = Fits 4 fid × Fits 8 offset × Fits 4 count
IsBody (Rread bytes) = Fits 4 (length bytes)
IsBody (Twrite fid offset bytes) = Fits 4 fid × Fits 8 offset × Fits 4 (length bytes)
IsBody (Rwrite count) = Fits 4 count
IsBody (Tclunk fid) = Fits 4 fid
IsBody Rclunk = Unit {0}

-- what has a spelling: each part fits its field, and the whole has at most 1,024 bytes
pub record IsMessage (m : Msg) : Type 0 where
  pub tag : Fits 2 m.tag
  pub body : IsBody m.body
  pub size : 7 + length (body_bytes m.body) ≤ MSIZE

-- these bytes spell this message
pub record Spells (bytes : List ℕ) (m : Msg) : Type 0 where
  pub message : IsMessage m
  pub spelling : bytes ≡ bytes_of m

-- this is what is found in these bytes: the message that they spell, where they spell one
abbrev pub IsFound : List ℕ → Option Msg → Type 0
IsFound bytes found = (m : Msg) → (found ≡ Some m) ↔ Spells bytes m
