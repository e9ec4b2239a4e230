-- The texts of the server.
use Rattle.std.specs.Prelude.{ℕ, List, codes}
use Rattle.neph_p9srv.specs.declared.error.P9Error.{P9Error}
use Rattle.neph_p9srv.specs.declared.error.P9Error.TheVariants.{BadMessage, NoAuth, BadFid, FidInUse, TooManyFids, UnknownFid, FidOpen, NoSuchFile, BadMode, IsADirectory, NotOpenForReading, NotOpenForWriting, FileTooLarge}

-- what an Rerror says
abbrev pub text_of : P9Error → List ℕ
text_of BadMessage = codes "bad message"
text_of NoAuth = codes "no auth"
text_of BadFid = codes "bad fid"
text_of FidInUse = codes "fid in use"
text_of TooManyFids = codes "too many fids"
text_of UnknownFid = codes "unknown fid"
text_of FidOpen = codes "fid open"
text_of NoSuchFile = codes "no such file"
text_of BadMode = codes "bad mode"
text_of IsADirectory = codes "is a directory"
text_of NotOpenForReading = codes "not open for reading"
text_of NotOpenForWriting = codes "not open for writing"
text_of FileTooLarge = codes "file too large"

-- the version that is spoken, and what stands before a variant of it
abbrev pub spoken : List ℕ
spoken = codes "9P2000"

abbrev pub spoken_variant : List ℕ
spoken_variant = codes "9P2000."

-- what is answered to any other version
abbrev pub unspoken : List ℕ
unspoken = codes "unknown"

-- the name that leads to the directory above
abbrev pub up : List ℕ
up = codes ".."
