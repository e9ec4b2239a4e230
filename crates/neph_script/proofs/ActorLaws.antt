-- Words that were read as actors are those that spell them.
use Rattle.std.proofs.Common.{◌≡◌, ℕ, Bool, true, false, cond, List, Option, Some, None, Result, Ok, refl, sym, subst, ◌∙◌}
use Rattle.std.specs.Prelude.{codes, slice_index}
use Rattle.neph_base.specs.declared.reply.Actor.{Actor}
use Rattle.neph_base.specs.declared.reply.Actor.TheVariants as actor
use Rattle.neph_command.specs.Words.{equals, number_in, is_digit}
use Rattle.neph_command.specs.declared.why.Why.{Why}
use Rattle.neph_command.specs.declared.why.Why.TheVariants as why
use Rattle.neph_command.proofs.Inverse.{let_in, same_ok}
use Rattle.neph_command.proofs.Ranges.{number_found, equal_from}
use Rattle.neph_script.specs.Actors.{actor_named, numbered}
use Rattle.neph_script.specs.Spelling.{actor_word, IsActor}

-- a word is that of an actor
pub record SpelledActor (word : List ℕ) (a : Actor) : Type 0 where
  pub is : word ≡ actor_word a
  pub fits : IsActor a

fixed : (word : List ℕ) (text : List ℕ) (x a : Actor) (b : Bool) (rest : Result Actor Why) → actor_word x ≡ text → IsActor x → equals word text ≡ b → cond b (Ok x) rest ≡ Ok a → (rest ≡ Ok a → SpelledActor word a) → SpelledActor word a
fixed word text x a true rest is ok t e more =
    let here : SpelledActor word x = record { is = equal_from word text t ∙ sym is; fits = ok } in subst (SpelledActor word) (same_ok x a e) here
fixed word text x a false rest is ok t e more = more e

numbered_read : (word : List ℕ) (o : Option ℕ) (a : Actor) → number_in 1 63 word ≡ o → numbered o ≡ Ok a → SpelledActor word a
numbered_read word None a is e = absurd cc
numbered_read word (Some n) a is e =
    let s = number_found word 1 63 n is in
    let here : SpelledActor word (actor.Dom n) = record { is = s.is; fits = (s.low_is, s.high_is) } in
    subst (SpelledActor word) (same_ok (actor.Dom n) a e) here

pub actor_read : (word : List ℕ) (a : Actor) → actor_named word ≡ Ok a → SpelledActor word a
actor_read word a e =
    fixed word (codes "daemon") actor.Daemon a _ _ refl tt refl e
    (λ e. fixed word (codes "console") actor.Console a _ _ refl tt refl e
    (λ e. fixed word (codes "net") actor.Net a _ _ refl tt refl e
    (λ e. fixed word (codes "p9") actor.P9 a _ _ refl tt refl e
    (λ e. numbered_read word (number_in 1 63 word) a refl (let_in (is_digit (slice_index word 0)) why.Word (numbered (number_in 1 63 word)) a e).1))))
