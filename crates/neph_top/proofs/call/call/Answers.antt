use Rattle.neph_top.specs.Call.{IsRefusal}
use Rattle.neph_top.proofs.Answered.{tells_refusal, tells_transcript, refusal}
use Rattle.neph_top.proofs.call.call.Goals as goal

pub text_of-requires : goal.text_of-requires
text_of-requires g c = c.in-Ok-parse.ensures.formed

pub returns-in-Err-Bad : goal.returns-in-Err-Bad
returns-in-Err-Bad g c =
    let read = c.in-Ok.ensures in
    let bytes = c.in-Ok.bytes.items in
    let fault = rw (c.in-Err-Bad.field-0-is, c.deref.ensures.value) at c.in-Err-Bad.ensures.fault in
    let only = rw (c.in-Err-Bad.field-0-is, c.deref.ensures.value) at c.in-Err-Bad.ensures.only in
    let text = c.in-Ok-refusal_text.text.items in
    let is : IsRefusal bytes text = refusal bytes text c.in-Err-Bad.bad only fault c.in-Ok-refusal_text.ensures in
    let told = rw c.deref-in-Ok-refusal_text.ensures.value at c.told-in-Ok-refusal_text.ensures in
    tells_refusal _ bytes text c.told-in-Ok-refusal_text.result (record { left = read.0; few = read.2; whole = read.1 }) is read.3 told

pub returns : goal.returns
returns g c =
    let read = c.in-Ok.ensures in
    let bytes = c.in-Ok.bytes.items in
    let spelled = rw (c.in-Ok-parse.script-is, c.deref.ensures.value) at c.in-Ok-parse.ensures.spelled in
    let text = c.in-Ok-text_of.text.items in
    let told = rw c.deref-in-Ok-text_of.ensures.value at c.told-in-Ok-text_of.ensures in
    tells_transcript _ bytes text c.in-Ok-parse.script c.told-in-Ok-text_of.result (record { left = read.0; few = read.2; whole = read.1 }) spelled c.in-Ok-text_of.ensures read.3 told
