-- What a call of the program does, by its answer.
use Rattle.std.specs.Prelude.{◌≡◌, ◌⊎◌, ◌<◌, ◌≤◌, ◌+◌, ◌-◌, ◌^◌, ◌++◌, ℕ, min, true, false, List, [], Option, length, codes, IfSome}
use Rattle.std.specs.Io.KnownBytes.{Appends, IsAtEnd}
use Rattle.neph_io.specs.Causes.{Rose}
use Rattle.neph_io.specs.Streams.{AppendsFront}
use Rattle.neph_model.specs.declared.script.Script.{Script}
use Rattle.std.specs.Fmt.{decimal}
use Rattle.neph_script.specs.declared.why.BadScript.{BadScript}
use Rattle.neph_script.specs.Kinds.{kind_word}
use Rattle.neph_script.specs.Spells.{Spells, IsFault}
use Rattle.neph_model.specs.Machine.{is_over}
use Rattle.neph_model.specs.Start.{start_machine}
use Rattle.neph_model.specs.Frames.{AddsUp}
use Rattle.neph_model.specs.Books.{counts}
use Rattle.neph_model.specs.Run.{Ran, IsRun}
use Rattle.neph_model.specs.Legal.{Legal}
use Rattle.neph_model.specs.Laws.{BearsCopies}
use Rattle.neph_model.specs.Transcript.{transcript}
use Rattle.neph_top.specs.declared.status.Status.{Status}
use Rattle.neph_top.specs.declared.status.Status.TheVariants.{Ended, Refused, TooLong, NoMemory, ReadFault, WriteFault}

-- the transcript of a script's run
abbrev pub run_text : Script → Ran → List ℕ
run_text s r = transcript s r.history (counts s r.last) r.stalled

-- The text is the transcript of the script's run. Its history is a legal one, from the script's
-- start to the last machine, where no domain is live; each commit in it leaves the child as the
-- listed copy of its parent at that place; and the frames that are used and those that are free are
-- all.
pub record Transcribes (s : Script) (text : List ℕ) : Type 0 where
  pub ran : Ran
  pub run : IsRun s ran
  pub text_is : text ≡ run_text s ran
  pub legal : Legal s (start_machine s) ran.history ran.last.machine
  pub copies : BearsCopies s (start_machine s) ran.history
  pub over : is_over ran.last.machine ≡ true
  pub ended : ran.stalled ≡ false
  pub sum : AddsUp (counts s ran.last)

-- The text is the transcript of the run of the script that the bytes spell, and there is no other
-- such text.
pub record IsTranscript (bytes text : List ℕ) : Type 0 where
  pub script : Script
  pub spelled : Spells bytes script
  pub transcribed : Transcribes script text
  pub one : (s : Script) (r : Ran) → Spells bytes s → IsRun s r → text ≡ run_text s r

-- the text that names the first line that can't stand, and why
abbrev pub refusal_text : BadScript → List ℕ
refusal_text bad = codes "script " ++ decimal bad.line ++ codes " " ++ kind_word bad.why
    ++ codes "\n"

-- no script is spelled
abbrev pub SpellsNone : List ℕ → Type 0
SpellsNone bytes = (s : Script) → Spells bytes s → ⊥

-- the bytes spell no script, and the text names their first line that can't stand
pub record IsRefusal (bytes text : List ℕ) : Type 0 where
  pub none : SpellsNone bytes
  pub bad : BadScript
  pub fault : IsFault bytes bad
  pub text_is : text ≡ refusal_text bad

-- the most bytes of a script
abbrev pub limit : ℕ
limit = 1048576

abbrev pub too_long_text : List ℕ
too_long_text = codes "too long\n"

abbrev pub usage_text : List ℕ
usage_text = codes "usage: nephele run or race N or gen SEED DOMAINS LINES\n"

-- what a call saw: the bytes that its source had left before and after it, those that its sink had
-- taken, how often each had failed, and the number of its tally
pub record Seen : Type 0 where
  pub left : Option (List ℕ)
  pub rest : Option (List ℕ)
  pub old : Option (List ℕ)
  pub new : Option (List ℕ)
  pub read_before : ℕ
  pub read_now : ℕ
  pub write_before : ℕ
  pub write_now : ℕ
  pub tally_before : ℕ
  pub tally_now : ℕ

-- the same by a source, of which these tell what it has left and how often it failed, before and
-- after; by a sink, of which those tell what it took; and by the tally
abbrev pub saw : {Source Sink : Type 0} → (Source → Option (List ℕ)) → (Source → ℕ) → Source
    → Source → (Sink → Option (List ℕ)) → (Sink → ℕ) → Sink → Sink → ℕ → ℕ → Seen
saw left read_faults source source_now taken write_faults sink sink_now tally tally_now =
    record {
      left = left source;
      rest = left source_now;
      old = taken sink;
      new = taken sink_now;
      read_before = read_faults source;
      read_now = read_faults source_now;
      write_before = write_faults sink;
      write_now = write_faults sink_now;
      tally_before = tally;
      tally_now = tally_now;
    }

-- neither the source nor the sink failed
pub record NoFault (c : Seen) : Type 0 where
  pub read : c.read_now ≡ c.read_before
  pub write : c.write_now ≡ c.write_before

-- nothing was written
pub record WritesNothing (c : Seen) : Type 0 where
  pub taken : Appends c.old c.new []
  pub write : c.write_now ≡ c.write_before

-- These are the bytes that the source had left, where it tells them; they are no more than a script
-- may have, and were read to their end.
pub record Reads (c : Seen) (bytes : List ℕ) : Type 0 where
  pub left : IfSome c.left (λ b. bytes ≡ b)
  pub few : length bytes ≤ limit
  pub whole : IsAtEnd c.rest

-- a tally was raised by so many page steps; it stops at the last number of 64 bits
abbrev pub IsRaised : ℕ → ℕ → ℕ → Type 0
IsRaised before now steps = now ≡ min (before + steps) (2 ^ 64 - 1)

-- The text is the transcript of the script's run, and a tally was raised by the run's page steps.
pub record Tallies (s : Script) (text : List ℕ) (before now : ℕ) : Type 0 where
  pub transcribed : Transcribes s text
  pub raised : IsRaised before now transcribed.ran.steps

-- the sink took the transcript of the run of the script that the bytes read spell, and the tally
-- was raised by the run's page steps
pub record WritesTranscript (c : Seen) : Type 0 where
  pub bytes : List ℕ
  pub read : Reads c bytes
  pub text : List ℕ
  pub is : IsTranscript bytes text
  pub taken : Appends c.old c.new text
  pub faults : NoFault c
  pub raised : IsRaised c.tally_before c.tally_now is.transcribed.ran.steps

-- the bytes read spell no script, and the sink took their first line that can't stand, with its
-- kind
pub record WritesRefusal (c : Seen) : Type 0 where
  pub bytes : List ℕ
  pub read : Reads c bytes
  pub text : List ℕ
  pub is : IsRefusal bytes text
  pub taken : Appends c.old c.new text
  pub faults : NoFault c

-- the source gave more bytes than a script may have, and the sink took that answer
pub record WritesTooLong (c : Seen) : Type 0 where
  pub long : IfSome c.left (λ bytes. limit < length bytes)
  pub taken : Appends c.old c.new too_long_text
  pub faults : NoFault c

-- memory ran out before anything was written
pub record LacksMemory (c : Seen) : Type 0 where
  pub nothing : WritesNothing c
  pub read : c.read_now ≡ c.read_before

-- the source failed before anything was written
pub record FailsToRead (c : Seen) : Type 0 where
  pub nothing : WritesNothing c
  pub rose : Rose c.read_before c.read_now

-- what was read is answered by this text: by its transcript, by its first line that can't stand, or
-- as too long
abbrev pub IsAnswer : Seen → List ℕ → Type 0
IsAnswer c text =
    ((bytes : List ℕ) × Reads c bytes × (IsTranscript bytes text ⊎ IsRefusal bytes text))
    ⊎ (IfSome c.left (λ b. limit < length b) × (text ≡ too_long_text))

-- the sink failed, and had taken some front of what was to be written
pub record FailsToWrite (c : Seen) : Type 0 where
  pub text : List ℕ
  pub answer : IsAnswer c text
  pub front : AppendsFront c.old c.new text
  pub read : c.read_now ≡ c.read_before
  pub rose : Rose c.write_before c.write_now

-- what a call that runs a script has done, by its status
abbrev pub Called : Seen → Status → Type 0
Called c Ended = WritesTranscript c
Called c Refused = WritesRefusal c
Called c TooLong = WritesTooLong c
Called c NoMemory = LacksMemory c
Called c ReadFault = FailsToRead c
Called c WriteFault = FailsToWrite c

-- the number of a status
abbrev pub number : Status → ℕ
number Ended = 0
number Refused = 4
number TooLong = 4
number NoMemory = 5
number ReadFault = 6
number WriteFault = 7

-- the number that a call that runs a script answers, and what it says
pub record AnswersRun (c : Seen) (answer : ℕ) : Type 0 where
  pub transcript : answer ≡ 0 → WritesTranscript c
  pub refused : answer ≡ 4 → WritesRefusal c ⊎ WritesTooLong c
  pub memory : answer ≡ 5 → LacksMemory c
  pub read : answer ≡ 6 → FailsToRead c
  pub write : answer ≡ 7 → FailsToWrite c
  pub one : (answer ≡ 0) ⊎ (answer ≡ 4) ⊎ (answer ≡ 5) ⊎ (answer ≡ 6) ⊎ (answer ≡ 7)
  -- where a script is spelled and neither count rose, its transcript is written, or memory ran out
  pub complete : ¬ (Rose c.read_before c.read_now) → ¬ (Rose c.write_before c.write_now)
      → IfSome c.left (λ bytes. length bytes ≤ limit → (s : Script) → Spells bytes s
      → (answer ≡ 0) ⊎ (answer ≡ 5))
  -- where none is spelled or the source gives too much, and neither count rose, that is written, or
  -- memory ran out
  pub complete_refused : ¬ (Rose c.read_before c.read_now) → ¬ (Rose c.write_before c.write_now)
      → IfSome c.left (λ bytes. SpellsNone bytes ⊎ (limit < length bytes)
      → (answer ≡ 4) ⊎ (answer ≡ 5))

-- the usage line was written, and nothing was read
pub record WritesUsage (c : Seen) : Type 0 where
  pub taken : Appends c.old c.new usage_text
  pub faults : NoFault c

-- the sink failed, and had taken some front of the usage line
pub record FailsToTellUsage (c : Seen) : Type 0 where
  pub front : AppendsFront c.old c.new usage_text
  pub read : c.read_now ≡ c.read_before
  pub rose : Rose c.write_before c.write_now

-- the number that a call with words of no form answers: it reads nothing and raises no tally
abbrev pub AnswersUsage : Seen → ℕ → Type 0
AnswersUsage c answer = (c.rest ≡ c.left) × (c.tally_now ≡ c.tally_before)
    × (((answer ≡ 2) × WritesUsage c) ⊎ ((answer ≡ 7) × FailsToTellUsage c))

-- all of a text was written, and the status is the one given; or some front of it, and the sink
-- failed
abbrev pub Tells : Option (List ℕ) → Option (List ℕ) → List ℕ → ℕ → ℕ → Status → Status → Type 0
Tells old new text before now status answer =
    ((answer ≡ status) × Appends old new text × (now ≡ before))
    ⊎ ((answer ≡ WriteFault) × AppendsFront old new text × Rose before now)
