-- Reading a message from left to right. Each reader gives a value and the bytes behind it, or
-- nothing.
use Rattle.std.specs.Prelude.{◌≡◌, ℕ, zero, suc, Bool, true, false, List, [], ◌∷◌, length, drop, take, Option, Some, None, Result, Ok, Err, nat_lt, ◌==◌, if◌then◌else◌}
use Rattle.byteorder.specs.Endian.{little_number}
use Rattle.neph_p9msg.specs.declared.msg.TheConstants.{MSIZE, MAXWELEM, QTDIR, QTFILE}
use Rattle.neph_p9msg.specs.declared.kind.TheConstants.{TVERSION, RVERSION, TATTACH, RATTACH, RERROR, TWALK, RWALK, TOPEN, ROPEN, TREAD, RREAD, TWRITE, RWRITE, TCLUNK, RCLUNK}
use Rattle.neph_p9msg.specs.declared.kind.MsgType.{MsgType}
use Rattle.neph_p9msg.specs.declared.kind.MsgType.TheVariants as kinds
use Rattle.neph_p9msg.specs.declared.fields.ReadError.{ReadError}
use Rattle.neph_p9msg.specs.declared.fields.ReadError.TheVariants.{Memory, NoMessage}
use Rattle.neph_p9msg.specs.declared.msg.Qid.{Qid}
use Rattle.neph_p9msg.specs.declared.msg.Msg.{Msg}
use Rattle.neph_p9msg.specs.declared.msg.MsgBody.{MsgBody}
use Rattle.neph_p9msg.specs.declared.msg.MsgBody.TheVariants.{Tversion, Rversion, Tattach, Rattach, Rerror, Twalk, Rwalk, Topen, Ropen, Tread, Rread, Twrite, Rwrite, Tclunk, Rclunk}

infixl 10 ◌>>=◌
abbrev pub ◌>>=◌ : {A B : Type 0} → Option A → (A → Option B) → Option B
(Some x) >>= f = f x
None >>= f = None

-- memory ran out, or nothing is read
abbrev pub Fails : {Y : Type 0} → ReadError → Option Y → Type 0
Fails Memory read = Unit {0}
Fails NoMessage read = read ≡ None

-- what a function returned, seen by `view`, is what reading gives, unless memory ran out
abbrev pub Gives : {X Y : Type 0} → (X → Y) → Result X ReadError → Option Y → Type 0
Gives view (Ok x) read = read ≡ Some (view x)
Gives view (Err e) read = Fails e read

-- a number of so many bytes
abbrev pub number_at : ℕ → List ℕ → Option (ℕ × List ℕ)
number_at size bytes =
    if nat_lt (length bytes) size then None
    else Some (little_number size bytes, drop size bytes)

-- one byte
unfoldable pub byte_at : List ℕ → Option (ℕ × List ℕ)
byte_at [] = None
byte_at (b ∷ rest) = Some (b, rest)

-- so many bytes
unfoldable pub bytes_at : ℕ → List ℕ → Option (List ℕ × List ℕ)
bytes_at n bytes = if nat_lt (length bytes) n then None else Some (take n bytes, drop n bytes)

-- bytes behind their count
unfoldable pub counted_at : ℕ → List ℕ → Option (List ℕ × List ℕ)
counted_at size bytes = do
  n ← number_at size bytes
  bytes_at n.0 n.1

-- a number that must be 0
unfoldable pub version_at : List ℕ → Option (List ℕ)
version_at bytes = do
  version ← number_at 4 bytes
  if version.0 == 0 then Some version.1 else None

-- whether a qid of this type byte is a directory's
unfoldable pub dir_of : ℕ → Option Bool
dir_of b = if b == QTDIR then Some true else (if b == QTFILE then Some false else None)

-- a qid
unfoldable pub qid_at : List ℕ → Option (Qid × List ℕ)
qid_at bytes = do
  b ← byte_at bytes
  dir ← dir_of b.0
  rest ← version_at b.1
  path ← number_at 8 rest
  Some (record { dir = dir; path = path.0 }, path.1)

-- so many values, one behind the other
unfoldable pub many_at :
    {A : Type 0} → (List ℕ → Option (A × List ℕ)) → ℕ → List ℕ → Option (List A × List ℕ)
many_at one_at zero bytes = Some ([], bytes)
many_at one_at (suc n) bytes = do
  first ← one_at bytes
  others ← many_at one_at n first.1
  Some (first.0 ∷ others.0, others.1)

-- names behind their count, at most 16
unfoldable pub names_at : List ℕ → Option (List (List ℕ) × List ℕ)
names_at bytes = do
  n ← number_at 2 bytes
  if nat_lt MAXWELEM n.0 then None else many_at (counted_at 2) n.0 n.1

-- qids behind their count
unfoldable pub qids_at : List ℕ → Option (List Qid × List ℕ)
qids_at bytes = do
  n ← number_at 2 bytes
  many_at qid_at n.0 n.1

-- the kind of this number
unfoldable pub kind_at : ℕ → Option MsgType
kind_at n =
    if n == TVERSION then Some kinds.Tversion else (if n == RVERSION then Some kinds.Rversion else
    (if n == TATTACH then Some kinds.Tattach else (if n == RATTACH then Some kinds.Rattach else
    (if n == RERROR then Some kinds.Rerror else (if n == TWALK then Some kinds.Twalk else
    (if n == RWALK then Some kinds.Rwalk else (if n == TOPEN then Some kinds.Topen else
    (if n == ROPEN then Some kinds.Ropen else (if n == TREAD then Some kinds.Tread else
    (if n == RREAD then Some kinds.Rread else (if n == TWRITE then Some kinds.Twrite else
    (if n == RWRITE then Some kinds.Rwrite else (if n == TCLUNK then Some kinds.Tclunk else
    (if n == RCLUNK then Some kinds.Rclunk else None))))))))))))))

unfoldable pub tversion_at : List ℕ → Option (MsgBody × List ℕ)
tversion_at bytes = do
  msize ← number_at 4 bytes
  version ← counted_at 2 msize.1
  Some (Tversion msize.0 version.0, version.1)

unfoldable pub rversion_at : List ℕ → Option (MsgBody × List ℕ)
rversion_at bytes = do
  msize ← number_at 4 bytes
  version ← counted_at 2 msize.1
  Some (Rversion msize.0 version.0, version.1)

unfoldable pub tattach_at : List ℕ → Option (MsgBody × List ℕ)
tattach_at bytes = do
  fid ← number_at 4 bytes
  afid ← number_at 4 fid.1
  uname ← counted_at 2 afid.1
  aname ← counted_at 2 uname.1
  Some (Tattach fid.0 afid.0 uname.0 aname.0, aname.1)

unfoldable pub rattach_at : List ℕ → Option (MsgBody × List ℕ)
rattach_at bytes = do
  root ← qid_at bytes
  Some (Rattach root.0, root.1)

unfoldable pub rerror_at : List ℕ → Option (MsgBody × List ℕ)
rerror_at bytes = do
  ename ← counted_at 2 bytes
  Some (Rerror ename.0, ename.1)

unfoldable pub twalk_at : List ℕ → Option (MsgBody × List ℕ)
twalk_at bytes = do
  fid ← number_at 4 bytes
  newfid ← number_at 4 fid.1
  names ← names_at newfid.1
  Some (Twalk fid.0 newfid.0 names.0, names.1)

unfoldable pub rwalk_at : List ℕ → Option (MsgBody × List ℕ)
rwalk_at bytes = do
  qids ← qids_at bytes
  Some (Rwalk qids.0, qids.1)

unfoldable pub topen_at : List ℕ → Option (MsgBody × List ℕ)
topen_at bytes = do
  fid ← number_at 4 bytes
  mode ← byte_at fid.1
  Some (Topen fid.0 mode.0, mode.1)

unfoldable pub ropen_at : List ℕ → Option (MsgBody × List ℕ)
ropen_at bytes = do
  node ← qid_at bytes
  iounit ← number_at 4 node.1
  Some (Ropen node.0 iounit.0, iounit.1)

unfoldable pub tread_at : List ℕ → Option (MsgBody × List ℕ)
tread_at bytes = do
  fid ← number_at 4 bytes
  offset ← number_at 8 fid.1
  count ← number_at 4 offset.1
  Some (Tread fid.0 offset.0 count.0, count.1)

unfoldable pub rread_at : List ℕ → Option (MsgBody × List ℕ)
rread_at bytes = do
  read ← counted_at 4 bytes
  Some (Rread read.0, read.1)

unfoldable pub twrite_at : List ℕ → Option (MsgBody × List ℕ)
twrite_at bytes = do
  fid ← number_at 4 bytes
  offset ← number_at 8 fid.1
  put ← counted_at 4 offset.1
  Some (Twrite fid.0 offset.0 put.0, put.1)

unfoldable pub rwrite_at : List ℕ → Option (MsgBody × List ℕ)
rwrite_at bytes = do
  count ← number_at 4 bytes
  Some (Rwrite count.0, count.1)

unfoldable pub tclunk_at : List ℕ → Option (MsgBody × List ℕ)
tclunk_at bytes = do
  fid ← number_at 4 bytes
  Some (Tclunk fid.0, fid.1)

-- the fields of a message of this kind
unfoldable pub body_at : MsgType → List ℕ → Option (MsgBody × List ℕ)
body_at kinds.Tversion bytes = tversion_at bytes
body_at kinds.Rversion bytes = rversion_at bytes
body_at kinds.Tattach bytes = tattach_at bytes
body_at kinds.Rattach bytes = rattach_at bytes
body_at kinds.Rerror bytes = rerror_at bytes
body_at kinds.Twalk bytes = twalk_at bytes
body_at kinds.Rwalk bytes = rwalk_at bytes
body_at kinds.Topen bytes = topen_at bytes
body_at kinds.Ropen bytes = ropen_at bytes
body_at kinds.Tread bytes = tread_at bytes
body_at kinds.Rread bytes = rread_at bytes
body_at kinds.Twrite bytes = twrite_at bytes
body_at kinds.Rwrite bytes = rwrite_at bytes
body_at kinds.Tclunk bytes = tclunk_at bytes
body_at kinds.Rclunk bytes = Some (Rclunk, bytes)

-- the size field is right, and the whole is not too long
unfoldable pub sized_at : List ℕ → Option (List ℕ)
sized_at bytes = do
  size ← number_at 4 bytes
  if size.0 == length bytes then (if nat_lt MSIZE (length bytes) then None else Some size.1)
      else None

-- all of the bytes
unfoldable pub message_of : List ℕ → Option Msg
message_of bytes = do
  rest ← sized_at bytes
  code ← byte_at rest
  kind ← kind_at code.0
  tag ← number_at 2 code.1
  body ← body_at kind tag.1
  if length body.1 == 0 then Some (record { tag = tag.0; body = body.0 }) else None
