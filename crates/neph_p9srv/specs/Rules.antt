-- The server: a rule a request, each with its errors in their order.
use Rattle.std.specs.Prelude.{◌≡◌, ℕ, ◌+◌, ◌-◌, ◌≤◌, Bool, true, false, List, ◌++◌, length, map, take, drop, min, replicate, Option, Some, None, Result, Ok, Err, ◌==◌, ◌&&◌, ◌||◌, is_some, nat_eq, nat_lt, if◌then◌else◌, slice_set, slice_index_or}
use Rattle.std.specs.List.{starts_with}
use Rattle.std.specs.Cmp.Lexicographic.{pointwise}
use Rattle.std.specs.FinMap as fin
use Rattle.neph_base.specs.declared.memory.NoMemory.{NoMemory}
use Rattle.neph_p9msg.specs.Grammar.{IsBody, body_bytes}
use Rattle.neph_p9msg.specs.declared.msg.TheConstants.{MSIZE, NOFID, NOTAG}
use Rattle.neph_p9msg.specs.declared.msg.Msg.{Msg}
use Rattle.neph_p9msg.specs.declared.msg.MsgBody.{MsgBody}
use Rattle.neph_p9msg.specs.declared.msg.MsgBody.TheVariants.{Tversion, Rversion, Tattach, Rattach, Rerror, Twalk, Rwalk, Topen, Ropen, Tread, Rread, Twrite, Rwrite, Tclunk, Rclunk}
use Rattle.neph_p9srv.specs.declared.error.P9Error.{P9Error}
use Rattle.neph_p9srv.specs.declared.error.P9Error.TheVariants.{BadMessage, NoAuth, BadFid, FidInUse, TooManyFids, UnknownFid, FidOpen, NoSuchFile, BadMode, IsADirectory, NotOpenForReading, NotOpenForWriting, FileTooLarge}
use Rattle.neph_p9srv.specs.declared.fid_map.Fid.{Fid}
use Rattle.neph_p9srv.specs.declared.fid_map.OpenMode.{OpenMode}
use Rattle.neph_p9srv.specs.declared.fid_map.OpenMode.TheVariants as modes
use Rattle.neph_p9srv.specs.declared.fid_map.TheConstants.{OREAD, OWRITE, ORDWR, MAX_FIDS}
use Rattle.neph_p9srv.specs.declared.requests.TheConstants.{MAX_READ, MAX_FILE}
use Rattle.neph_p9srv.specs.declared.tree.Node.{Node}
use Rattle.neph_p9srv.specs.declared.tree.TheConstants.{ROOT}
use Rattle.neph_p9srv.specs.Texts.{text_of, spoken, spoken_variant, unspoken}
use Rattle.neph_p9srv.specs.State.{Fids, body_of, is_dir, qid_of, trail, end_of, with_body}

-- what one domain reaches: the nodes, and its own fids
pub record Own : Type 0 where
  pub nodes : List Node
  pub fids : Fids

-- what a request does: its answer, and what the domain reaches then
pub record Outcome : Type 0 where
  pub reply : MsgBody
  pub own : Own

-- an answer that changes nothing
abbrev pub tell : Own → MsgBody → Outcome
tell own reply = record { reply = reply; own = own }

-- an error changes nothing
abbrev pub refuse : Own → P9Error → Outcome
refuse own why = tell own (Rerror (text_of why))

-- an answer, with this fid standing for that
abbrev pub hold : Own → ℕ → Fid → MsgBody → Outcome
hold own fid to reply =
    record { reply = reply; own = record own { fids = fin.insert own.fids fid to } }

-- a fid of a node that isn't open
abbrev pub closed_fid : ℕ → Fid
closed_fid node = record { node = node; mode = None }

-- why a number can't be a new fid
abbrev pub new_fid_fault : Fids → ℕ → Option P9Error
new_fid_fault fids fid =
    if fid == NOFID then Some BadFid
    else if is_some (fin.get fids fid) then Some FidInUse
    else if nat_lt (fin.len fids) MAX_FIDS then None
    else Some TooManyFids

-- the version that is answered
abbrev pub version_answer : List ℕ → List ℕ
version_answer version =
    if pointwise nat_eq version spoken || starts_with nat_eq version spoken_variant then spoken
    else unspoken

-- Tversion ends the domain's fids
unfoldable pub version_rule : Own → ℕ → List ℕ → Outcome
version_rule own msize version = record {
  reply = Rversion (min msize MSIZE) (version_answer version);
  own = record own { fids = fin.empty };
}

-- Tattach makes a fid of the root
abbrev pub attach_unless : Own → ℕ → Option P9Error → Outcome
attach_unless own fid (Some why) = refuse own why
attach_unless own fid None = hold own fid (closed_fid ROOT) (Rattach (qid_of own.nodes ROOT))

unfoldable pub attach_rule : Own → ℕ → ℕ → Outcome
attach_rule own fid afid =
    if afid == NOFID then attach_unless own fid (new_fid_fault own.fids fid)
    else refuse own NoAuth

-- Twalk makes a fid of the node to which all names lead; where a later name leads nowhere it
-- answers the nodes before and makes none
unfoldable pub walked : Own → ℕ → ℕ → List (List ℕ) → Outcome
walked own newfid at names =
    let reached = trail own.nodes at names in
    let reply = Rwalk (map (qid_of own.nodes) reached) in
    if length reached == length names then hold own newfid (closed_fid (end_of at reached)) reply
    else if length reached == 0 then refuse own NoSuchFile
    else tell own reply

abbrev pub walk_unless : Own → ℕ → ℕ → List (List ℕ) → Option P9Error → Outcome
walk_unless own newfid at names (Some why) = refuse own why
walk_unless own newfid at names None = walked own newfid at names

abbrev pub walk_closed : Own → ℕ → ℕ → List (List ℕ) → ℕ → Option OpenMode → Outcome
walk_closed own fid newfid names at (Some mode) = refuse own FidOpen
walk_closed own fid newfid names at None =
    walk_unless own newfid at names (if newfid == fid then None else new_fid_fault own.fids newfid)

abbrev pub walk_from : Own → ℕ → ℕ → List (List ℕ) → Option Fid → Outcome
walk_from own fid newfid names None = refuse own UnknownFid
walk_from own fid newfid names (Some from) = walk_closed own fid newfid names from.node from.mode

unfoldable pub walk_rule : Own → ℕ → ℕ → List (List ℕ) → Outcome
walk_rule own fid newfid names = walk_from own fid newfid names (fin.get own.fids fid)

-- the mode of a number
abbrev pub mode_of : ℕ → Option OpenMode
mode_of mode =
    if mode == OREAD then Some modes.Read
    else if mode == OWRITE then Some modes.Write
    else if mode == ORDWR then Some modes.ReadWrite
    else None

-- open for reading
abbrev pub reads : Option OpenMode → Bool
reads None = false
reads (Some modes.Read) = true
reads (Some modes.Write) = false
reads (Some modes.ReadWrite) = true

-- open for writing
abbrev pub writes : Option OpenMode → Bool
writes None = false
writes (Some modes.Read) = false
writes (Some modes.Write) = true
writes (Some modes.ReadWrite) = true

-- Topen opens a fid; a directory only for reading
abbrev pub open_to : Own → ℕ → Fid → Outcome
open_to own fid to =
    if is_dir own.nodes to.node && writes to.mode then refuse own IsADirectory
    else hold own fid to (Ropen (qid_of own.nodes to.node) 0)

abbrev pub open_as : Own → ℕ → ℕ → Option OpenMode → Outcome
open_as own fid at None = refuse own BadMode
open_as own fid at (Some mode) = open_to own fid (record { node = at; mode = Some mode })

abbrev pub open_closed : Own → ℕ → ℕ → ℕ → Option OpenMode → Outcome
open_closed own fid mode at (Some held) = refuse own FidOpen
open_closed own fid mode at None = open_as own fid at (mode_of mode)

abbrev pub open_from : Own → ℕ → ℕ → Option Fid → Outcome
open_from own fid mode None = refuse own UnknownFid
open_from own fid mode (Some from) = open_closed own fid mode from.node from.mode

unfoldable pub open_rule : Own → ℕ → ℕ → Outcome
open_rule own fid mode = open_from own fid mode (fin.get own.fids fid)

-- Tread gives the bytes from an offset on
abbrev pub read_of : Own → ℕ → ℕ → Option (List ℕ) → Outcome
read_of own offset count None = refuse own IsADirectory
read_of own offset count (Some bytes) =
    tell own (Rread (take (min count MAX_READ) (drop offset bytes)))

abbrev pub read_from : Own → ℕ → ℕ → Option Fid → Outcome
read_from own offset count None = refuse own UnknownFid
read_from own offset count (Some from) =
    if reads from.mode then read_of own offset count (body_of own.nodes from.node)
    else refuse own NotOpenForReading

unfoldable pub read_rule : Own → ℕ → ℕ → ℕ → Outcome
read_rule own fid offset count = read_from own offset count (fin.get own.fids fid)

-- bytes put at an offset, zeros before them where the old ones end earlier; no bytes change nothing
unfoldable pub splice : List ℕ → ℕ → List ℕ → List ℕ
splice old offset bytes =
    let zeros = replicate (offset - length old) 0 in
    let rest = drop (offset + length bytes) old in
    if length bytes == 0 then old else take offset old ++ zeros ++ bytes ++ rest

-- Twrite puts bytes into a file. (No fid of a directory is open for writing.)
abbrev pub write_of : Own → ℕ → ℕ → List ℕ → Option (List ℕ) → Outcome
write_of own at offset bytes None = refuse own IsADirectory
write_of own at offset bytes (Some old) = record {
  reply = Rwrite (length bytes);
  own = record own { nodes = with_body own.nodes at (splice old offset bytes) };
}

-- a write that doesn't make the file too large
abbrev pub write_within : Own → ℕ → ℕ → List ℕ → Outcome
write_within own at offset bytes =
    if nat_lt MAX_FILE (offset + length bytes) then refuse own FileTooLarge
    else write_of own at offset bytes (body_of own.nodes at)

abbrev pub write_from : Own → ℕ → List ℕ → Option Fid → Outcome
write_from own offset bytes None = refuse own UnknownFid
write_from own offset bytes (Some from) =
    if writes from.mode then write_within own from.node offset bytes
    else refuse own NotOpenForWriting

unfoldable pub write_rule : Own → ℕ → ℕ → List ℕ → Outcome
write_rule own fid offset bytes = write_from own offset bytes (fin.get own.fids fid)

-- Tclunk gives a fid up
unfoldable pub clunk_rule : Own → ℕ → Outcome
clunk_rule own fid =
    if is_some (fin.get own.fids fid)
    then record { reply = Rclunk; own = record own { fids = fin.remove own.fids fid } }
    else refuse own UnknownFid

-- an answer is no request
unfoldable pub rule : Own → MsgBody → Outcome
rule own (Tversion msize version) = version_rule own msize version
rule own (Tattach fid afid uname aname) = attach_rule own fid afid
rule own (Twalk fid newfid names) = walk_rule own fid newfid names
rule own (Topen fid mode) = open_rule own fid mode
rule own (Tread fid offset count) = read_rule own fid offset count
rule own (Twrite fid offset bytes) = write_rule own fid offset bytes
rule own (Tclunk fid) = clunk_rule own fid
rule own (Rversion msize version) = refuse own BadMessage
rule own (Rattach root) = refuse own BadMessage
rule own (Rerror ename) = refuse own BadMessage
rule own (Rwalk qids) = refuse own BadMessage
rule own (Ropen node iounit) = refuse own BadMessage
rule own (Rread bytes) = refuse own BadMessage
rule own (Rwrite count) = refuse own BadMessage
rule own Rclunk = refuse own BadMessage

-- what a call did: what the rule says, or nothing for want of memory
abbrev pub Does : Own → Own → Result MsgBody NoMemory → Outcome → Type 0
Does old new (Ok reply) outcome = (reply ≡ outcome.reply) × (new ≡ outcome.own)
Does old new (Err e) outcome = new ≡ old

-- what a call did to the nodes and to a domain's fids is what this rule says, unless memory ran out
abbrev pub Obeys :
    (Own → Outcome) → List Node → Fids → List Node → Fids → Result MsgBody NoMemory → Type 0
Obeys rule nodes fids new_nodes new_fids result =
    let old : Own = record { nodes = nodes; fids = fids } in
    Does old (record { nodes = new_nodes; fids = new_fids }) result (rule old)

-- behind any tag it is a message
abbrev pub IsReply : MsgBody → Type 0
IsReply reply = IsBody reply × (7 + length (body_bytes reply) ≤ MSIZE)

-- what is served: the nodes, the root first, and the fids of the domains 0 to 63
pub record Server : Type 0 where
  pub nodes : List Node
  pub fids : List Fids

-- the fids of one domain
abbrev pub fids_at : Server → ℕ → Fids
fids_at s d = slice_index_or s.fids d fin.empty

-- what a domain reaches
abbrev pub own_of : Server → ℕ → Own
own_of s d = record { nodes = s.nodes; fids = fids_at s d }

-- the server where this domain's fids are these
abbrev pub with_fids_at : Server → ℕ → Fids → Server
with_fids_at s d fids = record s { fids = slice_set s.fids d fids }

-- the answer to a message has its tag
abbrev pub answer : Server → ℕ → Msg → Msg
answer s d m = record { tag = m.tag; body = (rule (own_of s d) m.body).reply }

-- the server after a message: the nodes and the domain's own fids as its rule leaves them
abbrev pub after : Server → ℕ → Msg → Server
after s d m =
    let own = (rule (own_of s d) m.body).own in
    with_fids_at (record s { nodes = own.nodes }) d own.fids

-- the answer to bytes that are no message
abbrev pub bad_bytes : Msg
bad_bytes = record { tag = NOTAG; body = Rerror (text_of BadMessage) }
