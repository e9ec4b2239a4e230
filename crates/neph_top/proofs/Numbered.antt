-- What each number of a status says.
use Rattle.std.proofs.Common.{◌≡◌, ℕ, ◌<◌, ◌≤◌, List, length, Option, Some, None, arith, inl, inr, refl, subst}
use Rattle.std.specs.Prelude.{IfSome, ◌⊎◌}
use Rattle.neph_model.specs.declared.script.Script.{Script}
use Rattle.neph_script.specs.Spells.{Spells}
use Rattle.neph_top.specs.declared.status.Status.{Status}
use Rattle.neph_top.specs.declared.status.Status.TheVariants.{Ended, Refused, TooLong, NoMemory, ReadFault, WriteFault}
use Rattle.neph_top.specs.Call.{Seen, Called, IsTranscript, SpellsNone, limit, number, AnswersRun}

-- where the bytes are told, and this holds of them, so does that
told : (left : Option (List ℕ)) (P Q : List ℕ → Type 0) → ((xs : List ℕ) → P xs → Q xs) → IfSome left P → IfSome left Q
told None P Q f h = tt
told (Some xs) P Q f h = f xs h

any : (left : Option (List ℕ)) (Q : List ℕ → Type 0) → ((xs : List ℕ) → Q xs) → IfSome left Q
any None Q f = tt
any (Some xs) Q f = f xs

-- the answer to bytes that spell a script, and to others
abbrev pub Accepts : ℕ → List ℕ → Type 0
Accepts n bytes = length bytes ≤ limit → (s : Script) → Spells bytes s → (n ≡ 0) ⊎ (n ≡ 5)

abbrev pub Refuses : ℕ → List ℕ → Type 0
Refuses n bytes = SpellsNone bytes ⊎ (limit < length bytes) → (n ≡ 4) ⊎ (n ≡ 5)

not_refused : (bytes text : List ℕ) (n : ℕ) → length bytes ≤ limit → IsTranscript bytes text → Refuses n bytes
not_refused bytes text n few is (inl none) = absurd (none is.script is.spelled)
not_refused bytes text n few is (inr long) = absurd (omega arith)

pub answers_run : (c : Seen) (st : Status) → Called c st → AnswersRun c (number st)
answers_run c Ended h =
    record {
      transcript = λ e. h;
      refused = λ e. absurd (omega arith);
      memory = λ e. absurd (omega arith);
      read = λ e. absurd (omega arith);
      write = λ e. absurd (omega arith);
      one = inl refl;
      complete = λ r w. any c.left (Accepts 0) (λ xs few s is. inl refl);
      complete_refused = λ r w. told c.left (λ xs. h.bytes ≡ xs) (Refuses 0) (λ xs e. subst (Refuses 0) e (not_refused h.bytes h.text 0 h.read.few h.is)) h.read.left;
    }
answers_run c Refused h =
    record {
      transcript = λ e. absurd (omega arith);
      refused = λ e. inl h;
      memory = λ e. absurd (omega arith);
      read = λ e. absurd (omega arith);
      write = λ e. absurd (omega arith);
      one = inr (inl refl);
      complete = λ r w. told c.left (λ xs. h.bytes ≡ xs) (Accepts 4) (λ xs e. subst (Accepts 4) e (λ few s is. absurd (h.is.none s is))) h.read.left;
      complete_refused = λ r w. any c.left (Refuses 4) (λ xs o. inl refl);
    }
answers_run c TooLong h =
    record {
      transcript = λ e. absurd (omega arith);
      refused = λ e. inr h;
      memory = λ e. absurd (omega arith);
      read = λ e. absurd (omega arith);
      write = λ e. absurd (omega arith);
      one = inr (inl refl);
      complete = λ r w. told c.left (λ bytes. limit < length bytes) (Accepts 4) (λ xs p few s is. absurd (omega arith)) h.long;
      complete_refused = λ r w. any c.left (Refuses 4) (λ xs o. inl refl);
    }
answers_run c NoMemory h =
    record {
      transcript = λ e. absurd (omega arith);
      refused = λ e. absurd (omega arith);
      memory = λ e. h;
      read = λ e. absurd (omega arith);
      write = λ e. absurd (omega arith);
      one = inr (inr (inl refl));
      complete = λ r w. any c.left (Accepts 5) (λ xs few s is. inr refl);
      complete_refused = λ r w. any c.left (Refuses 5) (λ xs o. inr refl);
    }
answers_run c ReadFault h =
    record {
      transcript = λ e. absurd (omega arith);
      refused = λ e. absurd (omega arith);
      memory = λ e. absurd (omega arith);
      read = λ e. h;
      write = λ e. absurd (omega arith);
      one = inr (inr (inr (inl refl)));
      complete = λ r w. absurd (r h.rose);
      complete_refused = λ r w. absurd (r h.rose);
    }
answers_run c WriteFault h =
    record {
      transcript = λ e. absurd (omega arith);
      refused = λ e. absurd (omega arith);
      memory = λ e. absurd (omega arith);
      read = λ e. absurd (omega arith);
      write = λ e. h;
      one = inr (inr (inr (inr refl)));
      complete = λ r w. absurd (w h.rose);
      complete_refused = λ r w. absurd (w h.rose);
    }
