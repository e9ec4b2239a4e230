-- The text of a transcript.
use Rattle.std.specs.Prelude.{ℕ, Bool, true, false, ◌-◌, List, [], ◌∷◌, ◌++◌, Option, None, Some, slice_get, slice_set, slice_index, codes}
use Rattle.std.specs.List.{range_with_len}
use Rattle.std.specs.Fmt.{decimal}
use Rattle.neph_base.specs.declared.reply.Noted.{Noted}
use Rattle.neph_base.specs.declared.reply.Entry.{Entry}
use Rattle.neph_base.specs.declared.reply.Entry.TheVariants.{Line, Commit, Daemon}
use Rattle.neph_base.specs.declared.reply.Reply.{Reply}
use Rattle.neph_base.specs.declared.reply.Reply.TheVariants.{Done, Go, On, Ended, Number, Begun, Child, Bytes, Refused}
use Rattle.neph_base.specs.declared.reply.Refusal.{Refusal}
use Rattle.neph_base.specs.declared.reply.Refusal.TheVariants.{Unmapped, ReadOnly, BadPfn, NoFrame, Limit, Ids, PolicyNet, PolicyP9, Frames, NoGrant, Busy, NoEntry, NotYours, Gone, HandlesFull, NoHandle}
use Rattle.neph_model.specs.declared.script.Script.{Script}
use Rattle.neph_model.specs.declared.script.Program.{Program}
use Rattle.neph_model.specs.declared.script.Start.{Start}
use Rattle.neph_model.specs.Programs.{commands_of, labels_of, command_in, program_at}
use Rattle.neph_model.specs.Frames.{Counts}
use Rattle.neph_model.specs.Step.{actor, child_made}
use Rattle.neph_model.specs.Words.{command_words, spaced, hex}

-- the word of a refusal
abbrev pub refusal_text : Refusal → List ℕ
refusal_text Unmapped = codes "unmapped"
refusal_text ReadOnly = codes "readonly"
refusal_text BadPfn = codes "badpfn"
refusal_text NoFrame = codes "noframe"
refusal_text Limit = codes "limit"
refusal_text Ids = codes "ids"
refusal_text PolicyNet = codes "policy net"
refusal_text PolicyP9 = codes "policy p9"
refusal_text (Frames need free) = codes "frames " ++ decimal need ++ codes " " ++ decimal free
refusal_text NoGrant = codes "nogrant"
refusal_text Busy = codes "busy"
refusal_text NoEntry = codes "noentry"
refusal_text NotYours = codes "notyours"
refusal_text Gone = codes "gone"
refusal_text HandlesFull = codes "handlesfull"
refusal_text NoHandle = codes "nohandle"

-- a reply behind ` = `
abbrev pub reply_text : Reply → List ℕ
reply_text Done = codes "ok"
reply_text Go = codes "go"
reply_text On = codes "on"
reply_text Ended = codes "ended"
reply_text (Number n) = decimal n
reply_text (Begun child) = codes "begin " ++ decimal child
reply_text (Child child) = decimal child
reply_text (Bytes bytes) = hex bytes
reply_text (Refused why) = codes "no " ++ refusal_text why

-- the number of the program of a domain line
abbrev pub program_started : Option Start → ℕ
program_started None = 0
program_started (Some t) = t.program

-- the program of a family: that of the domain line with its number, counted from 1
abbrev pub family_program : Script → ℕ → Option Program
family_program s family = program_at s (program_started (slice_get s.starts (family - 1)))

-- the text of a program's command at a line
abbrev pub command_text : Option Program → ℕ → List ℕ
command_text p line = spaced (command_words (labels_of p) (command_in (commands_of p) line))

-- the line of an entry of a family: of a domain its place, then the command as the script has it or
-- its commit, and the reply
abbrev pub entry_line : Script → ℕ → Entry → Reply → List ℕ
entry_line s family (Line dom line) reply =
    decimal dom ++ codes ":" ++ decimal line ++ codes " "
    ++ command_text (family_program s family) line ++ codes " = " ++ reply_text reply
    ++ codes "\n"
entry_line s family (Commit dom line) reply =
    decimal dom ++ codes ":" ++ decimal line ++ codes " commit = " ++ reply_text reply ++ codes "\n"
entry_line s family Daemon reply = codes "daemon = " ++ reply_text reply ++ codes "\n"

-- the families of the ids from 0 to 63 behind an entry of this domain: the child that it makes, if
-- any, has its family
abbrev pub families_after : List ℕ → ℕ → Option ℕ → List ℕ
families_after families dom None = families
families_after families dom (Some child) = slice_set families child (slice_index families dom)

-- the lines of some entries
abbrev pub history_text : Script → List ℕ → List Noted → List ℕ
history_text s families [] = []
history_text s families (x ∷ xs) =
    let dom = actor x.entry in
    entry_line s (slice_index families dom) x.entry x.reply
    ++ history_text s (families_after families dom (child_made x.entry x.reply)) xs

-- at the start each domain is of the family with its own number
unfoldable pub start_families : List ℕ
start_families = range_with_len 0 64

-- the line of the frames
abbrev pub frames_line : Counts → List ℕ
frames_line c =
    codes "frames " ++ decimal c.total ++ codes " colours " ++ decimal c.colours ++ codes " tables "
    ++ decimal c.tables
    ++ codes " spares " ++ decimal c.spares ++ codes " aside " ++ decimal c.aside ++ codes " free "
    ++ decimal c.free ++ codes "\n"

-- the last line
abbrev pub end_line : Bool → List ℕ
end_line true = codes "end stalled\n"
end_line false = codes "end ended\n"

-- the whole text of a script's history that came to these counts of frames, and stalled or not
abbrev pub transcript : Script → List Noted → Counts → Bool → List ℕ
transcript s history c stalled =
    codes "transcript 1\n" ++ history_text s start_families history ++ frames_line c
    ++ end_line stalled
