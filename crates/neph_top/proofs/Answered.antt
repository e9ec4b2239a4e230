-- What the parts of a call say together.
use Rattle.std.proofs.Common.{◌≡◌, ◌+◌, ℕ, arith, Bool, List, Result, Ok, Err, sym, ap, subst, ◌∙◌, inl, inr}
use Rattle.std.specs.Global.{Vec}
use Rattle.std.specs.Io.KnownBytes.{Appends}
use Rattle.std.specs.Result.{IfOk}
use Rattle.neph_base.specs.declared.memory.NoMemory.{NoMemory}
use Rattle.neph_base.specs.declared.reply.Actor.{Actor}
use Rattle.neph_base.specs.declared.reply.Noted.{Noted}
use Rattle.neph_model.specs.declared.script.Script.{Script}
use Rattle.neph_model.specs.WellFormed.{IsWellFormed}
use Rattle.neph_model.specs.Books.{State, counts}
use Rattle.neph_model.specs.Run.{IsRun}
use Rattle.neph_model.specs.Transcript.{transcript}
use Rattle.neph_machine.specs.Reached.{state_after}
use Rattle.neph_pool.specs.Plain.{plain_world}
use Rattle.neph_runs.proofs.OneRun.{one_run}
use Rattle.neph_runs.proofs.Runs as runs
use Rattle.neph_runs.proofs.Lasting as lasting
use Rattle.neph_runs.proofs.Legally as legally
use Rattle.neph_runs.proofs.Copies as copies
use Rattle.neph_core.specs.declared.machine.Machine.{Machine}
use Rattle.neph_core.specs.Course.{Course, Stands, course, entries_after}
use Rattle.neph_core.specs.Does.{counted}
use Rattle.neph_core.specs.Plays.{Plays, EndsRun}
use Rattle.neph_script.specs.declared.why.BadScript.{BadScript}
use Rattle.neph_script.specs.Spells.{Spells, IsFault}
use Rattle.neph_script.proofs.Inverse.{same_read}
use Rattle.neph_script.proofs.SpellsLaws.{spelled_only}
use Rattle.neph_top.specs.declared.status.Status.{Status}
use Rattle.neph_top.specs.declared.status.Status.TheVariants.{Ended, Refused}
use Rattle.neph_top.specs.Call.{run_text, Transcribes, IsTranscript, IsRefusal, refusal_text, IsAnswer, Seen, Reads, Called, FailsToWrite, NoFault, Tells, Tallies}

-- a run that was played to its end is transcribed
pub transcribes : (s : Script) (c : Course) (stalled : Bool) (text : List ℕ) → IsWellFormed s → Plays s c stalled → text ≡ transcript s c.history (counts c.script c.state) stalled → Transcribes s text
transcribes s c stalled text formed p is =
    let over = runs.ends_over s p.ran formed p.run in
    record {
      ran = p.ran;
      run = p.run;
      text_is = is ∙ ap (λ (h : List Noted). transcript s h (counts c.script c.state) stalled) (sym p.entries) ∙ ap (λ (x : Script). transcript s p.ran.history (counts x c.state) stalled) p.script
          ∙ ap (λ (x : State). transcript s p.ran.history (counts s x) stalled) (sym p.last) ∙ ap (transcript s p.ran.history (counts s p.ran.last)) (sym p.ended);
      legal = legally.runs_legally s p.ran formed p.run;
      copies = copies.runs_bear_copies s p.ran formed p.run;
      over = over.1;
      ended = over.0;
      sum = lasting.counts_add_up s p.ran formed p.run;
    }

-- as many shares raise a tally as page steps
raised : (before shares steps : ℕ) → counted shares ≡ counted steps → counted (before + shares) ≡ counted (before + steps)
raised before shares steps e = omega (arith, e)

-- and a tally that takes its machine's shares is raised by its page steps
pub tallies : (s : Script) (c : Course) (stalled : Bool) (text : List ℕ) (before now : ℕ) → IsWellFormed s → Plays s c stalled → text ≡ transcript s c.history (counts c.script c.state) stalled → now ≡ counted (before + c.shares)
    → Tallies s text before now
unfolding transcribes
tallies s c stalled text before now formed p is ended = record { transcribed = transcribes s c stalled text formed p is; raised = ended ∙ raised before c.shares p.ran.steps p.steps }

-- what a machine gives up at the end of its run
pub ends_tallied : (s : Script) (m : Machine) (stalled : Bool) (r : Result (Vec ℕ) NoMemory) (before now : ℕ) → IsWellFormed s → EndsRun s m stalled
    → IfOk r (λ text. (gone : List Actor) → Stands m gone → text.items ≡ transcript m.frames.script (entries_after m.frames.script gone) (counts m.frames.script (state_after m.frames.script gone)) stalled)
    → IfOk r (λ text. now ≡ counted (before + plain_world.shares m.frames.pool)) → IfOk r (λ text. Tallies s text.items before now)
ends_tallied s m stalled (Err lacks) before now formed e is raised = raised
ends_tallied s m stalled (Ok text) before now formed e is raised =
    let here = subst (λ (x : Script). text.items ≡ transcript x (course m e.before).history (counts m.frames.script (course m e.before).state) stalled) e.plays.script (is e.before e.stands) in
    tallies s (course m e.before) stalled text.items before now formed e.plays here raised

-- the transcript of the script that the bytes spell is the one text
transcript_of : (bytes text : List ℕ) (s : Script) → Spells bytes s → Transcribes s text → IsTranscript bytes text
transcript_of bytes text s spelled t = record {
  script = s;
  spelled = spelled;
  transcribed = t;
  one = λ u r other run.
      let same : s ≡ u = same_read s u (sym (spelled_only bytes s spelled) ∙ spelled_only bytes u other) in
      let here : IsRun u t.ran = subst (λ (x : Script). IsRun x t.ran) same t.run in
      t.text_is ∙ ap (λ (x : Script). run_text x t.ran) same ∙ ap (run_text u) (one_run u t.ran r here run);
}

abbrev IsSame : Result Script BadScript → Result Script BadScript → Type 0
IsSame a b = a ≡ b

-- the text that names the first line that can't stand, of bytes that are no script
pub refusal : (bytes text : List ℕ) (bad : BadScript) → ((s : Script) → Spells bytes s → IsSame (Ok s) (Err bad)) → IsFault bytes bad → text ≡ refusal_text bad → IsRefusal bytes text
refusal bytes text bad only found is = record { none = λ s spelled. no_script (only s spelled); bad = bad; fault = found; text_is = is } where
  no_script : {s : Script} {bad : BadScript} → IsSame (Ok s) (Err bad) → ⊥
  no_script e = cc

-- a text was written whole, or a front of it and the sink failed
pub tells : (c : Seen) (text : List ℕ) (status answer : Status) → Tells c.old c.new text c.write_before c.write_now status answer → IsAnswer c text → c.read_now ≡ c.read_before
    → (Appends c.old c.new text → NoFault c → Called c status) → Called c answer
tells c text status answer (inl h) said read ok = subst (Called c) (sym h.0) (ok h.1 (record { read = read; write = h.2 }))
tells c text status answer (inr h) said read ok =
    let fails : FailsToWrite c = record { text = text; answer = said; front = h.1; read = read; rose = h.2 } in
    subst (Called c) (sym h.0) fails

-- the transcript of the script that the bytes read spell was told, and the run's page steps tallied
pub tells_transcript : (c : Seen) (bytes text : List ℕ) (s : Script) (answer : Status) → Reads c bytes → Spells bytes s → Tallies s text c.tally_before c.tally_now → c.read_now ≡ c.read_before → Tells c.old c.new text c.write_before c.write_now Ended answer
    → Called c answer
unfolding transcript_of
tells_transcript c bytes text s answer all spelled t read told =
    let is = transcript_of bytes text s spelled t.transcribed in
    tells c text Ended answer told (inl (bytes, all, inl is)) read (λ took faults. record { bytes = bytes; read = all; text = text; is = is; taken = took; faults = faults; raised = t.raised })

-- and so was their first line that can't stand
pub tells_refusal : (c : Seen) (bytes text : List ℕ) (answer : Status) → Reads c bytes → IsRefusal bytes text → c.read_now ≡ c.read_before → Tells c.old c.new text c.write_before c.write_now Refused answer → Called c answer
tells_refusal c bytes text answer all is read told =
    tells c text Refused answer told (inl (bytes, all, inr is)) read (λ took faults. record { bytes = bytes; read = all; text = text; is = is; taken = took; faults = faults })
